use Rattle.std.proofs.Common.{◌≡◌, ap, sym, ◌∙◌, ◌+◌, ◌<◌, ◌≤◌, None, drop, map, length, List, arith, get_or, subst}
use Rattle.std.proofs.lemmas.List.{drop_all}
use Rattle.vx_ast.specs.declared.tree.Function.{Function}
use Rattle.vx_ast.specs.declared.syntax.Definition.{Definition as Written}
use Rattle.vx_ast.specs.declared.names.FileName.{FileName}
use Rattle.vx_ast.specs.SyntaxView.{definition_of, program_of}
use Rattle.vx_ast.specs.View as view
use Rattle.vx_types.proofs.Wholes.{PassedSo, passed_begin, passed_end, next_seen, names_length, seen_length, passed_step}
use Rattle.vx_types.proofs.program.make_functions.Goals as goal

pub pass_definition-requires-clause-there : goal.pass_definition-requires-clause-there
pass_definition-requires-clause-there c =
    let a = c.loop-one.invariant.above_so in
    let n = ap (λ (z : List FileName). length z) c.loop-one.invariant.names_so in
    let l = names_length 0 0 (map definition_of c.args.program.now.definitions.items) in
    let m = seen_length c.args.program.now.definitions.items in
    let s = ap (λ (z : List Written). length z) c.as_slice-one-items.ensures.value in
    let t = c.loop-one-test.true in
    omega (arith, a, n, l, m, s, t)

pub loop-one-preserved : goal.loop-one-preserved
loop-one-preserved c =
    let v = c.as_slice-one-items.ensures.value in
    let h : c.loop-one.one-index < length c.args.program.now.definitions.items = subst (λ (z : List Written). c.loop-one.one-index < length z) v c.loop-one-test.true in
    let e : c.one-item.result ≡ get_or c.args.program.now.definitions.items c.loop-one.one-index c.one-item.result = c.one-item.is ∙ ap (λ (z : List Written). get_or z c.loop-one.one-index c.one-item.result) v in
    passed_step (program_of c.args.program.now) c.args.arrays (map view.function_of c.loop-one.made.all.items) (map view.function_of c.pass_definition.new.made.all.items) c.loop-one.names c.in_ok-behind.behind c.loop-one.made.first c.pass_definition.new.made.first c.loop-one.one-index
    (map definition_of (drop c.loop-one.one-index c.args.program.now.definitions.items)) (map definition_of (drop (c.loop-one.one-index + 1) c.args.program.now.definitions.items)) (definition_of c.one-item.result)
    c.loop-one.invariant (next_seen c.args.program.now.definitions.items c.loop-one.one-index c.one-item.result h e) c.in_ok-behind.ensures.made c.in_ok-behind.ensures.faults c.in_ok-behind.ensures.locals c.in_ok-behind.ensures.names c.in_ok-behind.ensures.above c.in_ok-behind.ensures.takes

pub loop-one-init : goal.loop-one-init
loop-one-init c =
    subst (λ (z : List Function). PassedSo (program_of c.args.program.now) c.args.arrays (map view.function_of z) c.args.names None 0 (map definition_of c.args.program.now.definitions.items)) (sym c.new.ensures.items)
    (passed_begin (program_of c.args.program.now) c.args.arrays c.args.names c.requires.start c.requires.arrays)

pub returns-clause-made : goal.returns-clause-made
returns-clause-made c =
    let h : length c.args.program.now.definitions.items ≤ c.loop-one.one-index = subst (λ (z : List Written). length z ≤ c.loop-one.one-index) c.as_slice-one-items.ensures.value c.loop-one-test.false in
    let e = ap (λ (z : List Written). map definition_of z) (drop_all c.loop-one.one-index c.args.program.now.definitions.items h) in
    (passed_end (program_of c.args.program.now) c.args.arrays (map view.function_of c.loop-one.made.all.items) c.loop-one.names c.loop-one.made.first c.loop-one.one-index _ c.loop-one.invariant e).0

pub returns-clause-faults : goal.returns-clause-faults
returns-clause-faults c =
    let h : length c.args.program.now.definitions.items ≤ c.loop-one.one-index = subst (λ (z : List Written). length z ≤ c.loop-one.one-index) c.as_slice-one-items.ensures.value c.loop-one-test.false in
    let e = ap (λ (z : List Written). map definition_of z) (drop_all c.loop-one.one-index c.args.program.now.definitions.items h) in
    (passed_end (program_of c.args.program.now) c.args.arrays (map view.function_of c.loop-one.made.all.items) c.loop-one.names c.loop-one.made.first c.loop-one.one-index _ c.loop-one.invariant e).1
