use Rattle.std.proofs.Common.{◌≡◌, ℕ, Bool, true, List, Option, refl, ap, sym, ◌∙◌, drop, ◌+◌}
use Rattle.std.specs.Prelude.{option_map}
use Rattle.std.proofs.lemmas.List.{drop_all}
use Rattle.vx_ast.specs.declared.names.Fault.{Fault}
use Rattle.vx_ast.specs.declared.syntax.Argument.{Argument}
use Rattle.vx_ast.specs.declared.syntax.Item.{Item}
use Rattle.vx_ast.specs.declared.syntax.Statement.{Statement as Written}
use Rattle.vx_ast.specs.Faults.{code_faults, fault_if, least, phrase_faults, test_faults}
use Rattle.vx_ast.specs.Resolved.{code_in, test_in, tree_in}
use Rattle.vx_ast.specs.Scopes.{Environment, behind, inside}
use Rattle.vx_ast.specs.Syntax as syntax
use Rattle.vx_ast.specs.Syntax.{Code}
use Rattle.vx_ast.specs.SyntaxView.{action_of, all_in, code_of, first_of, items_of, phrase_of, row_in, step_of}
use Rattle.vx_ast.specs.Tree as tree
use Rattle.vx_ast.specs.Tree.{Tree, One}
use Rattle.vx_ast.specs.View as view
use Rattle.vx_types.proofs.Lists.{list_begin, list_step, list_end}
use Rattle.vx_types.proofs.Codes.{faults_alike, for_faults, holds_on, made_by, known_by, faults_by, tested_made, tested_faults, else_made, else_known, else_faults, boxed_made, for_made}
use Rattle.vx_names.proofs.Lists.{drop_next}
use Rattle.vx_types.proofs.Scoping.{block_left, for_left}
use Rattle.vx_types.proofs.Declarations.{items_alike, for_alike}
use Rattle.vx_limits.proofs.Views.{block_view}
use Rattle.vx_types.proofs.Views.{block_written}
use Rattle.vx_types.proofs.Weights.{block_falls, body_falls, loop_falls, one_falls, to_statement, to_held, to_alone, to_parts, only, left, right}
use Rattle.vx_types.proofs.statements.+statements.Goals as goal

pub statements-loop-one-preserved : goal.statements-loop-one-preserved
statements-loop-one-preserved t c =
    list_step c.args.gives c.args.loops c.loop-one.made.items c.append.new.made.items c.in_ok-done.done c.loop-one.names c.statement.new.names c.loop-one.first c.statement.new.first
    (drop c.loop-one.one-index c.args.all.now) (drop (c.loop-one.one-index + 1) c.args.all.now) c.one-item.result c.args.names.now c.args.first.now c.args.all.now
    c.loop-one.invariant (drop_next c.args.all.now c.loop-one.one-index c.one-item.result c.loop-one-test.true c.one-item.is) c.in_ok-append.ensures c.in_ok-done.ensures.made c.in_ok-done.ensures.known c.in_ok-done.ensures.faults

pub statements-returns-clause-made : goal.statements-returns-clause-made
statements-returns-clause-made t c =
    (list_end c.args.gives c.args.loops c.loop-one.made.items c.loop-one.names c.loop-one.first (drop c.loop-one.one-index c.args.all.now) c.args.names.now c.args.first.now c.args.all.now c.loop-one.invariant
    (drop_all c.loop-one.one-index c.args.all.now c.loop-one-test.false)).0

pub alone-returns-clause-known : goal.alone-returns-clause-known
alone-returns-clause-known t c =
    block_left (code_of c.args.branch.now) c.args.names.now _ _ _ _ c.count-count.ensures c.in_ok-enter.ensures c.in_ok-made.ensures.known c.in_ok-leave.ensures

pub block-returns-clause-known : goal.block-returns-clause-known
block-returns-clause-known t c =
    block_left (all_in c.args.all.now) c.args.names.now _ _ _ _ c.count-count.ensures c.in_ok-enter.ensures c.in_ok-made.ensures.known c.in_ok-leave.ensures

pub parts_of_for-returns-clause-known : goal.parts_of_for-returns-clause-known
parts_of_for-returns-clause-known t c =
    for_left (first_of c.args.start.now) (code_of c.args.body.now) c.args.names.now _ _ _ _ _ c.count-count.ensures c.in_ok-enter.ensures c.in_ok-head.ensures.known c.in_ok-body.ensures.known c.in_ok-leave.ensures

pub parts_of_for-returns-clause-faults : goal.parts_of_for-returns-clause-faults
parts_of_for-returns-clause-faults t c =
    for_faults c.args.gives (first_of c.args.start.now) (step_of c.args.step.now) (code_of c.args.body.now) (option_map phrase_of c.args.test.now) c.args.names.now _ _ c.args.first.now _ _ c.in_ok-enter.ensures c.in_ok-head.ensures.known c.in_ok-head.ensures.faults c.in_ok-body.ensures.faults

pub block-returns-clause-made : goal.block-returns-clause-made
block-returns-clause-made t c =
    block_view c.in_ok-made.made ∙ ap (λ (z : tree.Code). tree.Block z) (c.in_ok-made.ensures.made ∙ ap (λ (z : Environment). code_in z (all_in c.args.all.now)) c.in_ok-enter.ensures)

pub statement-returns-in-Block-clause-made : goal.statement-returns-in-Block-clause-made
statement-returns-in-Block-clause-made t c =
    let k = syntax.Block (all_in c.as_slice.result.now) in
    let e : code_of c.args.statement.now ≡ k = ap code_of c.in-Block.is ∙ block_written c.in-Block.all ∙ sym (ap (λ (z : List Written). syntax.Block (all_in z)) c.as_slice.ensures.value) in
    made_by c.block.result c.args.names.now c.args.statement.now k e c.block.ensures.made

pub statement-returns-in-Block-clause-known : goal.statement-returns-in-Block-clause-known
statement-returns-in-Block-clause-known t c =
    let k = syntax.Block (all_in c.as_slice.result.now) in
    let e : code_of c.args.statement.now ≡ k = ap code_of c.in-Block.is ∙ block_written c.in-Block.all ∙ sym (ap (λ (z : List Written). syntax.Block (all_in z)) c.as_slice.ensures.value) in
    known_by c.block.result c.args.names.now c.block.new.names c.args.statement.now k e c.block.ensures.known

pub statement-returns-in-Block-clause-faults : goal.statement-returns-in-Block-clause-faults
statement-returns-in-Block-clause-faults t c =
    let k = syntax.Block (all_in c.as_slice.result.now) in
    let e : code_of c.args.statement.now ≡ k = ap code_of c.in-Block.is ∙ block_written c.in-Block.all ∙ sym (ap (λ (z : List Written). syntax.Block (all_in z)) c.as_slice.ensures.value) in
    faults_by c.block.result c.args.gives c.args.loops c.args.names.now c.args.first.now c.block.new.first c.args.statement.now k e c.block.ensures.faults

pub statement-returns-in-Declaration-clause-faults : goal.statement-returns-in-Declaration-clause-faults
statement-returns-in-Declaration-clause-faults t c =
    let k = items_of c.as_slice-in-Declaration.result.now in
    let e : code_of c.args.statement.now ≡ k = ap code_of c.in-Declaration.is ∙ sym (ap (λ (z : List Item). items_of z) c.as_slice-in-Declaration.ensures.value) in
    faults_by c.declaration.result c.args.gives c.args.loops c.args.names.now c.args.first.now c.declaration.new.first c.args.statement.now k e
    (faults_alike c.declaration.result c.args.first.now c.declaration.new.first _ _ (items_alike c.args.gives c.args.loops c.args.names.now c.as_slice-in-Declaration.result.now) c.declaration.ensures.faults)

pub statement-returns-in-For-clause-faults : goal.statement-returns-in-For-clause-faults
statement-returns-in-For-clause-faults t c =
    let env = inside c.args.names.now in
    let known = behind (first_of c.in-For.start) env in
    let k = syntax.For (first_of c.in-For.start) (option_map phrase_of c.in-For.test) (step_of c.in-For.step) (code_of c.deref-in-For.result.now) in
    let e : code_of c.args.statement.now ≡ k = ap code_of c.in-For.is ∙ ap (λ (z : Written). syntax.For (first_of c.in-For.start) (option_map phrase_of c.in-For.test) (step_of c.in-For.step) (code_of z)) (sym c.deref-in-For.ensures) in
    faults_by c.repeated.result c.args.gives c.args.loops c.args.names.now c.args.first.now c.repeated.new.first c.args.statement.now k e
    (faults_alike c.repeated.result c.args.first.now c.repeated.new.first _ _ (for_alike c.args.gives c.args.loops c.args.names.now c.in-For.start (test_faults known (option_map phrase_of c.in-For.test)) c.in-For.step (code_faults c.args.gives true (inside known) (code_of c.deref-in-For.result.now))) c.repeated.ensures.faults)

pub statement-returns-in-Empty-clause-made : goal.statement-returns-in-Empty-clause-made
statement-returns-in-Empty-clause-made t c =
    ap (λ (z : Written). code_in c.args.names.now (code_of z)) (sym c.in-Empty.is)

pub statement-returns-in-Empty-clause-known : goal.statement-returns-in-Empty-clause-known
statement-returns-in-Empty-clause-known t c =
    ap (λ (z : Written). behind (code_of z) c.args.names.now) (sym c.in-Empty.is)

pub statement-returns-in-Break-clause-made : goal.statement-returns-in-Break-clause-made
statement-returns-in-Break-clause-made t c =
    ap (λ (z : Written). code_in c.args.names.now (code_of z)) (sym c.in-Break.is)

pub statement-returns-in-Break-clause-known : goal.statement-returns-in-Break-clause-known
statement-returns-in-Break-clause-known t c =
    ap (λ (z : Written). behind (code_of z) c.args.names.now) (sym c.in-Break.is)

pub statement-returns-in-Continue-clause-made : goal.statement-returns-in-Continue-clause-made
statement-returns-in-Continue-clause-made t c =
    ap (λ (z : Written). code_in c.args.names.now (code_of z)) (sym c.in-Continue.is)

pub statement-returns-in-Continue-clause-known : goal.statement-returns-in-Continue-clause-known
statement-returns-in-Continue-clause-known t c =
    ap (λ (z : Written). behind (code_of z) c.args.names.now) (sym c.in-Continue.is)

pub statement-returns-in-Return-clause-made : goal.statement-returns-in-Return-clause-made
statement-returns-in-Return-clause-made t c =
    ap (λ (z : Written). code_in c.args.names.now (code_of z)) (sym c.in-Return.is)

pub statement-returns-in-Return-clause-known : goal.statement-returns-in-Return-clause-known
statement-returns-in-Return-clause-known t c =
    ap (λ (z : Written). behind (code_of z) c.args.names.now) (sym c.in-Return.is)

pub statement-returns-in-Empty-clause-faults : goal.statement-returns-in-Empty-clause-faults
statement-returns-in-Empty-clause-faults t c =
    ap (λ (z : Written). least c.args.first.now (code_faults c.args.gives c.args.loops c.args.names.now (code_of z))) (sym c.in-Empty.is)

pub statement-returns-in-Break-clause-faults : goal.statement-returns-in-Break-clause-faults
statement-returns-in-Break-clause-faults t c =
    c.note.ensures ∙ ap (λ (z : Written). least c.args.first.now (code_faults c.args.gives c.args.loops c.args.names.now (code_of z))) (sym c.in-Break.is)

pub statement-returns-in-Continue-clause-faults : goal.statement-returns-in-Continue-clause-faults
statement-returns-in-Continue-clause-faults t c =
    c.note-in-Continue.ensures ∙ ap (λ (z : Written). least c.args.first.now (code_faults c.args.gives c.args.loops c.args.names.now (code_of z))) (sym c.in-Continue.is)

pub statement-returns-in-Return-clause-faults : goal.statement-returns-in-Return-clause-faults
statement-returns-in-Return-clause-faults t c =
    c.note-in-Return.ensures ∙ ap (λ (b : Bool). least c.args.first.now (fault_if b 7 c.in-Return.place)) c.gives_int.ensures ∙ ap (λ (z : Written). least c.args.first.now (code_faults c.args.gives c.args.loops c.args.names.now (code_of z))) (sym c.in-Return.is)

pub statement-returns-in-Declaration-clause-made : goal.statement-returns-in-Declaration-clause-made
statement-returns-in-Declaration-clause-made t c =
    let k = items_of c.as_slice-in-Declaration.result.now in
    let e : code_of c.args.statement.now ≡ k = ap code_of c.in-Declaration.is ∙ sym (ap (λ (z : List Item). items_of z) c.as_slice-in-Declaration.ensures.value) in
    made_by c.declaration.result c.args.names.now c.args.statement.now k e c.declaration.ensures.made

pub statement-returns-in-Declaration-clause-known : goal.statement-returns-in-Declaration-clause-known
statement-returns-in-Declaration-clause-known t c =
    let k = items_of c.as_slice-in-Declaration.result.now in
    let e : code_of c.args.statement.now ≡ k = ap code_of c.in-Declaration.is ∙ sym (ap (λ (z : List Item). items_of z) c.as_slice-in-Declaration.ensures.value) in
    known_by c.declaration.result c.args.names.now c.declaration.new.names c.args.statement.now k e c.declaration.ensures.known

pub statement-returns-in-Simple-clause-made : goal.statement-returns-in-Simple-clause-made
statement-returns-in-Simple-clause-made t c =
    let k = syntax.Simply (action_of c.in-Simple.simple) in
    let e : code_of c.args.statement.now ≡ k = ap code_of c.in-Simple.is in
    made_by c.simple_alone.result c.args.names.now c.args.statement.now k e c.simple_alone.ensures.made

pub statement-returns-in-Simple-clause-known : goal.statement-returns-in-Simple-clause-known
statement-returns-in-Simple-clause-known t c =
    let k = syntax.Simply (action_of c.in-Simple.simple) in
    let e : code_of c.args.statement.now ≡ k = ap code_of c.in-Simple.is in
    known_by c.simple_alone.result c.args.names.now c.args.names.now c.args.statement.now k e (holds_on c.simple_alone.result refl)

pub statement-returns-in-Simple-clause-faults : goal.statement-returns-in-Simple-clause-faults
statement-returns-in-Simple-clause-faults t c =
    let k = syntax.Simply (action_of c.in-Simple.simple) in
    let e : code_of c.args.statement.now ≡ k = ap code_of c.in-Simple.is in
    faults_by c.simple_alone.result c.args.gives c.args.loops c.args.names.now c.args.first.now c.simple_alone.new.first c.args.statement.now k e c.simple_alone.ensures.faults

pub statement-returns-in-Print-clause-made : goal.statement-returns-in-Print-clause-made
statement-returns-in-Print-clause-made t c =
    let k = syntax.Print c.in-Print.place c.in-Print.format_place c.as_slice-in-Print.result.now (row_in c.as_slice-in-Print-2.result.now) in
    let e : code_of c.args.statement.now ≡ k = ap code_of c.in-Print.is
    ∙ sym (ap (λ (z : List ℕ). syntax.Print c.in-Print.place c.in-Print.format_place z (row_in c.in-Print.row.items)) c.as_slice-in-Print.ensures)
    ∙ sym (ap (λ (z : List Argument). syntax.Print c.in-Print.place c.in-Print.format_place c.as_slice-in-Print.result.now (row_in z)) c.as_slice-in-Print-2.ensures.value) in
    made_by c.printing.result c.args.names.now c.args.statement.now k e c.printing.ensures.made

pub statement-returns-in-Print-clause-known : goal.statement-returns-in-Print-clause-known
statement-returns-in-Print-clause-known t c =
    let k = syntax.Print c.in-Print.place c.in-Print.format_place c.as_slice-in-Print.result.now (row_in c.as_slice-in-Print-2.result.now) in
    let e : code_of c.args.statement.now ≡ k = ap code_of c.in-Print.is
    ∙ sym (ap (λ (z : List ℕ). syntax.Print c.in-Print.place c.in-Print.format_place z (row_in c.in-Print.row.items)) c.as_slice-in-Print.ensures)
    ∙ sym (ap (λ (z : List Argument). syntax.Print c.in-Print.place c.in-Print.format_place c.as_slice-in-Print.result.now (row_in z)) c.as_slice-in-Print-2.ensures.value) in
    known_by c.printing.result c.args.names.now c.args.names.now c.args.statement.now k e (holds_on c.printing.result refl)

pub statement-returns-in-Print-clause-faults : goal.statement-returns-in-Print-clause-faults
statement-returns-in-Print-clause-faults t c =
    let k = syntax.Print c.in-Print.place c.in-Print.format_place c.as_slice-in-Print.result.now (row_in c.as_slice-in-Print-2.result.now) in
    let e : code_of c.args.statement.now ≡ k = ap code_of c.in-Print.is
    ∙ sym (ap (λ (z : List ℕ). syntax.Print c.in-Print.place c.in-Print.format_place z (row_in c.in-Print.row.items)) c.as_slice-in-Print.ensures)
    ∙ sym (ap (λ (z : List Argument). syntax.Print c.in-Print.place c.in-Print.format_place c.as_slice-in-Print.result.now (row_in z)) c.as_slice-in-Print-2.ensures.value) in
    faults_by c.printing.result c.args.gives c.args.loops c.args.names.now c.args.first.now c.printing.new.first c.args.statement.now k e c.printing.ensures.faults

pub statement-returns-in-ReturnValue-clause-made : goal.statement-returns-in-ReturnValue-clause-made
statement-returns-in-ReturnValue-clause-made t c =
    let k = syntax.ReturnValue c.in-ReturnValue.place (phrase_of c.in-ReturnValue.value) in
    let e : code_of c.args.statement.now ≡ k = ap code_of c.in-ReturnValue.is in
    made_by c.returning.result c.args.names.now c.args.statement.now k e c.returning.ensures.made

pub statement-returns-in-ReturnValue-clause-known : goal.statement-returns-in-ReturnValue-clause-known
statement-returns-in-ReturnValue-clause-known t c =
    let k = syntax.ReturnValue c.in-ReturnValue.place (phrase_of c.in-ReturnValue.value) in
    let e : code_of c.args.statement.now ≡ k = ap code_of c.in-ReturnValue.is in
    known_by c.returning.result c.args.names.now c.args.names.now c.args.statement.now k e (holds_on c.returning.result refl)

pub statement-returns-in-ReturnValue-clause-faults : goal.statement-returns-in-ReturnValue-clause-faults
statement-returns-in-ReturnValue-clause-faults t c =
    let k = syntax.ReturnValue c.in-ReturnValue.place (phrase_of c.in-ReturnValue.value) in
    let e : code_of c.args.statement.now ≡ k = ap code_of c.in-ReturnValue.is in
    faults_by c.returning.result c.args.gives c.args.loops c.args.names.now c.args.first.now c.returning.new.first c.args.statement.now k e c.returning.ensures.faults

pub statement-returns-in-For-clause-made : goal.statement-returns-in-For-clause-made
statement-returns-in-For-clause-made t c =
    let k = syntax.For (first_of c.in-For.start) (option_map phrase_of c.in-For.test) (step_of c.in-For.step) (code_of c.deref-in-For.result.now) in
    let e : code_of c.args.statement.now ≡ k = ap code_of c.in-For.is ∙ ap (λ (z : Written). syntax.For (first_of c.in-For.start) (option_map phrase_of c.in-For.test) (step_of c.in-For.step) (code_of z)) (sym c.deref-in-For.ensures) in
    made_by c.repeated.result c.args.names.now c.args.statement.now k e c.repeated.ensures.made

pub statement-returns-in-For-clause-known : goal.statement-returns-in-For-clause-known
statement-returns-in-For-clause-known t c =
    let k = syntax.For (first_of c.in-For.start) (option_map phrase_of c.in-For.test) (step_of c.in-For.step) (code_of c.deref-in-For.result.now) in
    let e : code_of c.args.statement.now ≡ k = ap code_of c.in-For.is ∙ ap (λ (z : Written). syntax.For (first_of c.in-For.start) (option_map phrase_of c.in-For.test) (step_of c.in-For.step) (code_of z)) (sym c.deref-in-For.ensures) in
    known_by c.repeated.result c.args.names.now c.repeated.new.names c.args.statement.now k e c.repeated.ensures.known

pub statement-returns-in_ok-made-in-If-clause-made : goal.statement-returns-in_ok-made-in-If-clause-made
statement-returns-in_ok-made-in-If-clause-made t c =
    let k = syntax.If (phrase_of c.in-If.test) (code_of c.deref.result.now) in
    let e : code_of c.args.statement.now ≡ k = ap code_of c.in-If.is ∙ ap (λ (z : Written). syntax.If (phrase_of c.in-If.test) (code_of z)) (sym c.deref.ensures) in
    tested_made tree.If c.args.names.now c.args.statement.now k (view.tree_of c.in_ok-made-in-If.made.test) (tree_in c.args.names.now (phrase_of c.in-If.test)) (view.code_of c.in_ok-made-in-If.made.body.value) (code_in (inside c.args.names.now) (code_of c.deref.result.now)) e c.in_ok-made-in-If.ensures.test c.in_ok-made-in-If.ensures.body refl

pub statement-returns-in_ok-made-in-If-clause-known : goal.statement-returns-in_ok-made-in-If-clause-known
statement-returns-in_ok-made-in-If-clause-known t c =
    let k = syntax.If (phrase_of c.in-If.test) (code_of c.deref.result.now) in
    let e : code_of c.args.statement.now ≡ k = ap code_of c.in-If.is ∙ ap (λ (z : Written). syntax.If (phrase_of c.in-If.test) (code_of z)) (sym c.deref.ensures) in
    c.in_ok-made-in-If.ensures.known ∙ ap (λ (z : Code). behind z c.args.names.now) (sym e)

pub statement-returns-in_ok-made-in-If-clause-faults : goal.statement-returns-in_ok-made-in-If-clause-faults
statement-returns-in_ok-made-in-If-clause-faults t c =
    let k = syntax.If (phrase_of c.in-If.test) (code_of c.deref.result.now) in
    let e : code_of c.args.statement.now ≡ k = ap code_of c.in-If.is ∙ ap (λ (z : Written). syntax.If (phrase_of c.in-If.test) (code_of z)) (sym c.deref.ensures) in
    tested_faults c.args.gives c.args.loops c.args.names.now c.args.first.now c.test_and_body.new.first c.args.statement.now k (phrase_faults c.args.names.now (phrase_of c.in-If.test)) (code_faults c.args.gives c.args.loops (inside c.args.names.now) (code_of c.deref.result.now)) e c.in_ok-made-in-If.ensures.faults refl

pub statement-returns-in_ok-made-in-While-clause-made : goal.statement-returns-in_ok-made-in-While-clause-made
statement-returns-in_ok-made-in-While-clause-made t c =
    let k = syntax.While (phrase_of c.in-While.test) (code_of c.deref-in-While.result.now) in
    let e : code_of c.args.statement.now ≡ k = ap code_of c.in-While.is ∙ ap (λ (z : Written). syntax.While (phrase_of c.in-While.test) (code_of z)) (sym c.deref-in-While.ensures) in
    tested_made tree.While c.args.names.now c.args.statement.now k (view.tree_of c.in_ok-made-in-While.made.test) (tree_in c.args.names.now (phrase_of c.in-While.test)) (view.code_of c.in_ok-made-in-While.made.body.value) (code_in (inside c.args.names.now) (code_of c.deref-in-While.result.now)) e c.in_ok-made-in-While.ensures.test c.in_ok-made-in-While.ensures.body refl

pub statement-returns-in_ok-made-in-While-clause-known : goal.statement-returns-in_ok-made-in-While-clause-known
statement-returns-in_ok-made-in-While-clause-known t c =
    let k = syntax.While (phrase_of c.in-While.test) (code_of c.deref-in-While.result.now) in
    let e : code_of c.args.statement.now ≡ k = ap code_of c.in-While.is ∙ ap (λ (z : Written). syntax.While (phrase_of c.in-While.test) (code_of z)) (sym c.deref-in-While.ensures) in
    c.in_ok-made-in-While.ensures.known ∙ ap (λ (z : Code). behind z c.args.names.now) (sym e)

pub statement-returns-in_ok-made-in-While-clause-faults : goal.statement-returns-in_ok-made-in-While-clause-faults
statement-returns-in_ok-made-in-While-clause-faults t c =
    let k = syntax.While (phrase_of c.in-While.test) (code_of c.deref-in-While.result.now) in
    let e : code_of c.args.statement.now ≡ k = ap code_of c.in-While.is ∙ ap (λ (z : Written). syntax.While (phrase_of c.in-While.test) (code_of z)) (sym c.deref-in-While.ensures) in
    tested_faults c.args.gives c.args.loops c.args.names.now c.args.first.now c.test_and_body-in-While.new.first c.args.statement.now k (phrase_faults c.args.names.now (phrase_of c.in-While.test)) (code_faults c.args.gives true (inside c.args.names.now) (code_of c.deref-in-While.result.now)) e c.in_ok-made-in-While.ensures.faults refl

pub statement-returns-in_ok-made-in-DoWhile-clause-made : goal.statement-returns-in_ok-made-in-DoWhile-clause-made
statement-returns-in_ok-made-in-DoWhile-clause-made t c =
    let k = syntax.DoWhile (code_of c.deref-in-DoWhile.result.now) (phrase_of c.in-DoWhile.test) in
    let e : code_of c.args.statement.now ≡ k = ap code_of c.in-DoWhile.is ∙ ap (λ (z : Written). syntax.DoWhile (code_of z) (phrase_of c.in-DoWhile.test)) (sym c.deref-in-DoWhile.ensures) in
    tested_made (λ (x : Tree One) (y : tree.Code). tree.DoWhile y x) c.args.names.now c.args.statement.now k (view.tree_of c.in_ok-made-in-DoWhile.made.test) (tree_in c.args.names.now (phrase_of c.in-DoWhile.test)) (view.code_of c.in_ok-made-in-DoWhile.made.body.value) (code_in (inside c.args.names.now) (code_of c.deref-in-DoWhile.result.now)) e c.in_ok-made-in-DoWhile.ensures.test c.in_ok-made-in-DoWhile.ensures.body refl

pub statement-returns-in_ok-made-in-DoWhile-clause-known : goal.statement-returns-in_ok-made-in-DoWhile-clause-known
statement-returns-in_ok-made-in-DoWhile-clause-known t c =
    let k = syntax.DoWhile (code_of c.deref-in-DoWhile.result.now) (phrase_of c.in-DoWhile.test) in
    let e : code_of c.args.statement.now ≡ k = ap code_of c.in-DoWhile.is ∙ ap (λ (z : Written). syntax.DoWhile (code_of z) (phrase_of c.in-DoWhile.test)) (sym c.deref-in-DoWhile.ensures) in
    c.in_ok-made-in-DoWhile.ensures.known ∙ ap (λ (z : Code). behind z c.args.names.now) (sym e)

pub statement-returns-in_ok-made-in-DoWhile-clause-faults : goal.statement-returns-in_ok-made-in-DoWhile-clause-faults
statement-returns-in_ok-made-in-DoWhile-clause-faults t c =
    let k = syntax.DoWhile (code_of c.deref-in-DoWhile.result.now) (phrase_of c.in-DoWhile.test) in
    let e : code_of c.args.statement.now ≡ k = ap code_of c.in-DoWhile.is ∙ ap (λ (z : Written). syntax.DoWhile (code_of z) (phrase_of c.in-DoWhile.test)) (sym c.deref-in-DoWhile.ensures) in
    tested_faults c.args.gives c.args.loops c.args.names.now c.args.first.now c.test_and_body-in-DoWhile.new.first c.args.statement.now k (phrase_faults c.args.names.now (phrase_of c.in-DoWhile.test)) (code_faults c.args.gives true (inside c.args.names.now) (code_of c.deref-in-DoWhile.result.now)) e c.in_ok-made-in-DoWhile.ensures.faults refl

pub statement-returns-in_ok-made-in-IfElse-clause-made : goal.statement-returns-in_ok-made-in-IfElse-clause-made
statement-returns-in_ok-made-in-IfElse-clause-made t c =
    let e : code_of c.args.statement.now ≡ syntax.IfElse (phrase_of c.in-IfElse.test) (code_of c.deref-in-IfElse.result.now) (code_of c.deref-in-IfElse-2.result.now) =
    ap code_of c.in-IfElse.is ∙ ap (λ (z : Written). syntax.IfElse (phrase_of c.in-IfElse.test) (code_of z) (code_of c.in-IfElse.right.value)) (sym c.deref-in-IfElse.ensures)
    ∙ ap (λ (z : Written). syntax.IfElse (phrase_of c.in-IfElse.test) (code_of c.deref-in-IfElse.result.now) (code_of z)) (sym c.deref-in-IfElse-2.ensures) in
    else_made c.otherwise.result c.args.names.now c.test_and_body-in-IfElse.new.names c.args.statement.now (phrase_of c.in-IfElse.test) (code_of c.deref-in-IfElse.result.now) (code_of c.deref-in-IfElse-2.result.now) (view.tree_of c.in_ok-made-in-IfElse.made.test) (view.code_of c.in_ok-made-in-IfElse.made.body.value) e c.in_ok-made-in-IfElse.ensures.test c.in_ok-made-in-IfElse.ensures.body c.in_ok-made-in-IfElse.ensures.known c.otherwise.ensures.made

pub statement-returns-in_ok-made-in-IfElse-clause-known : goal.statement-returns-in_ok-made-in-IfElse-clause-known
statement-returns-in_ok-made-in-IfElse-clause-known t c =
    let e : code_of c.args.statement.now ≡ syntax.IfElse (phrase_of c.in-IfElse.test) (code_of c.deref-in-IfElse.result.now) (code_of c.deref-in-IfElse-2.result.now) =
    ap code_of c.in-IfElse.is ∙ ap (λ (z : Written). syntax.IfElse (phrase_of c.in-IfElse.test) (code_of z) (code_of c.in-IfElse.right.value)) (sym c.deref-in-IfElse.ensures)
    ∙ ap (λ (z : Written). syntax.IfElse (phrase_of c.in-IfElse.test) (code_of c.deref-in-IfElse.result.now) (code_of z)) (sym c.deref-in-IfElse-2.ensures) in
    else_known c.otherwise.result c.args.names.now c.test_and_body-in-IfElse.new.names c.otherwise.new.names c.args.statement.now (phrase_of c.in-IfElse.test) (code_of c.deref-in-IfElse.result.now) (code_of c.deref-in-IfElse-2.result.now) e c.in_ok-made-in-IfElse.ensures.known c.otherwise.ensures.known

pub statement-returns-in_ok-made-in-IfElse-clause-faults : goal.statement-returns-in_ok-made-in-IfElse-clause-faults
statement-returns-in_ok-made-in-IfElse-clause-faults t c =
    let e : code_of c.args.statement.now ≡ syntax.IfElse (phrase_of c.in-IfElse.test) (code_of c.deref-in-IfElse.result.now) (code_of c.deref-in-IfElse-2.result.now) =
    ap code_of c.in-IfElse.is ∙ ap (λ (z : Written). syntax.IfElse (phrase_of c.in-IfElse.test) (code_of z) (code_of c.in-IfElse.right.value)) (sym c.deref-in-IfElse.ensures)
    ∙ ap (λ (z : Written). syntax.IfElse (phrase_of c.in-IfElse.test) (code_of c.deref-in-IfElse.result.now) (code_of z)) (sym c.deref-in-IfElse-2.ensures) in
    else_faults c.otherwise.result c.args.gives c.args.loops c.args.names.now c.test_and_body-in-IfElse.new.names c.args.first.now c.test_and_body-in-IfElse.new.first c.otherwise.new.first c.args.statement.now (phrase_of c.in-IfElse.test) (code_of c.deref-in-IfElse.result.now) (code_of c.deref-in-IfElse-2.result.now) e c.in_ok-made-in-IfElse.ensures.known c.in_ok-made-in-IfElse.ensures.faults c.otherwise.ensures.faults

pub held-returns-clause-made : goal.held-returns-clause-made
held-returns-clause-made t c =
    boxed_made c.boxed.result c.in_ok-made.made (code_in c.args.names.now (code_of c.args.written.now)) c.in_ok-made.ensures.made c.boxed.ensures

pub held-returns-clause-known : goal.held-returns-clause-known
held-returns-clause-known t c =
    holds_on c.boxed.result c.in_ok-made.ensures.known

pub held-returns-clause-faults : goal.held-returns-clause-faults
held-returns-clause-faults t c =
    holds_on c.boxed.result c.in_ok-made.ensures.faults

pub otherwise-returns-clause-made : goal.otherwise-returns-clause-made
otherwise-returns-clause-made t c =
    ap (λ (z : tree.Code). tree.IfElse (view.tree_of c.args.before.test) (view.code_of c.args.before.body.value) z) c.in_ok-right.ensures.made

pub otherwise-returns-clause-known : goal.otherwise-returns-clause-known
otherwise-returns-clause-known t c =
    c.in_ok-right.ensures.known

pub otherwise-returns-clause-faults : goal.otherwise-returns-clause-faults
otherwise-returns-clause-faults t c =
    c.in_ok-right.ensures.faults

pub test_and_body-returns-clause-body : goal.test_and_body-returns-clause-body
test_and_body-returns-clause-body t c =
    c.in_ok-body.ensures.made

pub test_and_body-returns-clause-known : goal.test_and_body-returns-clause-known
test_and_body-returns-clause-known t c =
    c.in_ok-body.ensures.known

pub test_and_body-returns-clause-faults : goal.test_and_body-returns-clause-faults
test_and_body-returns-clause-faults t c =
    c.in_ok-body.ensures.faults ∙ ap (λ (z : Option Fault). least z (code_faults c.args.gives c.args.loops (inside c.args.names.now) (code_of c.args.body.now))) c.note_expression.ensures

pub alone-returns-clause-made : goal.alone-returns-clause-made
alone-returns-clause-made t c =
    c.in_ok-made.ensures.made ∙ ap (λ (z : Environment). code_in z (code_of c.args.branch.now)) c.in_ok-enter.ensures

pub alone-returns-clause-faults : goal.alone-returns-clause-faults
alone-returns-clause-faults t c =
    c.in_ok-made.ensures.faults ∙ ap (λ (z : Environment). least c.args.first.now (code_faults c.args.gives c.args.loops z (code_of c.args.branch.now))) c.in_ok-enter.ensures

pub block-returns-clause-faults : goal.block-returns-clause-faults
block-returns-clause-faults t c =
    c.in_ok-made.ensures.faults ∙ ap (λ (z : Environment). least c.args.first.now (code_faults c.args.gives c.args.loops z (all_in c.args.all.now))) c.in_ok-enter.ensures

pub repeated-returns-clause-made : goal.repeated-returns-clause-made
repeated-returns-clause-made t c =
    c.for_of.ensures
    ∙ for_made (view.first_of c.in_ok-made.made.start.value) (code_in (inside c.args.names.now) (first_of c.args.start.now))
    (option_map view.tree_of c.in_ok-made.made.test.value) (test_in (behind (first_of c.args.start.now) (inside c.args.names.now)) (option_map phrase_of c.args.test.now))
    (view.step_of c.in_ok-made.made.step.value) (code_in (behind (first_of c.args.start.now) (inside c.args.names.now)) (step_of c.args.step.now))
    (view.code_of c.in_ok-made.made.body.value) (code_in (inside (behind (first_of c.args.start.now) (inside c.args.names.now))) (code_of c.args.body.now))
    c.in_ok-made.ensures.start c.in_ok-made.ensures.test c.in_ok-made.ensures.step c.in_ok-made.ensures.body

pub repeated-returns-clause-known : goal.repeated-returns-clause-known
repeated-returns-clause-known t c =
    c.in_ok-made.ensures.known

pub repeated-returns-clause-faults : goal.repeated-returns-clause-faults
repeated-returns-clause-faults t c =
    c.in_ok-made.ensures.faults

pub parts_of_for-returns-clause-start : goal.parts_of_for-returns-clause-start
parts_of_for-returns-clause-start t c =
    c.in_ok-head.ensures.start ∙ ap (λ (z : Environment). code_in z (first_of c.args.start.now)) c.in_ok-enter.ensures

pub parts_of_for-returns-clause-test : goal.parts_of_for-returns-clause-test
parts_of_for-returns-clause-test t c =
    c.in_ok-head.ensures.test ∙ ap (λ (z : Environment). test_in (behind (first_of c.args.start.now) z) (option_map phrase_of c.args.test.now)) c.in_ok-enter.ensures

pub parts_of_for-returns-clause-step : goal.parts_of_for-returns-clause-step
parts_of_for-returns-clause-step t c =
    c.in_ok-head.ensures.step ∙ ap (λ (z : Environment). code_in (behind (first_of c.args.start.now) z) (step_of c.args.step.now)) c.in_ok-enter.ensures

pub parts_of_for-returns-clause-body : goal.parts_of_for-returns-clause-body
parts_of_for-returns-clause-body t c =
    c.in_ok-body.ensures.made ∙ ap (λ (z : Environment). code_in (inside z) (code_of c.args.body.now)) (c.in_ok-head.ensures.known ∙ ap (λ (z : Environment). behind (first_of c.args.start.now) z) c.in_ok-enter.ensures)

pub statements-returns-clause-known : goal.statements-returns-clause-known
statements-returns-clause-known t c =
    (list_end c.args.gives c.args.loops c.loop-one.made.items c.loop-one.names c.loop-one.first (drop c.loop-one.one-index c.args.all.now) c.args.names.now c.args.first.now c.args.all.now c.loop-one.invariant
    (drop_all c.loop-one.one-index c.args.all.now c.loop-one-test.false)).1

pub statements-returns-clause-faults : goal.statements-returns-clause-faults
statements-returns-clause-faults t c =
    (list_end c.args.gives c.args.loops c.loop-one.made.items c.loop-one.names c.loop-one.first (drop c.loop-one.one-index c.args.all.now) c.args.names.now c.args.first.now c.args.all.now c.loop-one.invariant
    (drop_all c.loop-one.one-index c.args.all.now c.loop-one-test.false)).2

pub statements-loop-one-init : goal.statements-loop-one-init
statements-loop-one-init t c =
    list_begin c.args.gives c.args.loops c.new-made.result.items c.args.names.now c.args.first.now c.args.all.now c.new-made.ensures.items

pub statement-block-requires : goal.statement-block-requires
statement-block-requires t c =
    (block_falls (code_of c.args.statement.now) c.as_slice.result.now c.in-Block.all.items t c.decreases (ap code_of c.in-Block.is ∙ block_written c.in-Block.all) c.as_slice.ensures.value, tt)

pub statement-test_and_body-requires : goal.statement-test_and_body-requires
statement-test_and_body-requires t c =
    (body_falls (code_of c.args.statement.now) (syntax.If (phrase_of c.in-If.test) (code_of c.in-If.branch.value)) c.in-If.branch.value c.deref.result.now t c.decreases (ap code_of c.in-If.is) c.deref.ensures (only _), tt)

pub statement-test_and_body-requires-in-IfElse : goal.statement-test_and_body-requires-in-IfElse
statement-test_and_body-requires-in-IfElse t c =
    (body_falls (code_of c.args.statement.now) (syntax.IfElse (phrase_of c.in-IfElse.test) (code_of c.in-IfElse.left.value) (code_of c.in-IfElse.right.value)) c.in-IfElse.left.value c.deref-in-IfElse.result.now t c.decreases (ap code_of c.in-IfElse.is) c.deref-in-IfElse.ensures (left _ _), tt)

pub statement-otherwise-requires : goal.statement-otherwise-requires
statement-otherwise-requires t c =
    (body_falls (code_of c.args.statement.now) (syntax.IfElse (phrase_of c.in-IfElse.test) (code_of c.in-IfElse.left.value) (code_of c.in-IfElse.right.value)) c.in-IfElse.right.value c.deref-in-IfElse-2.result.now t c.decreases (ap code_of c.in-IfElse.is) c.deref-in-IfElse-2.ensures (right _ _), tt)

pub statement-test_and_body-requires-in-While : goal.statement-test_and_body-requires-in-While
statement-test_and_body-requires-in-While t c =
    (body_falls (code_of c.args.statement.now) (syntax.While (phrase_of c.in-While.test) (code_of c.in-While.body.value)) c.in-While.body.value c.deref-in-While.result.now t c.decreases (ap code_of c.in-While.is) c.deref-in-While.ensures (only _), tt)

pub statement-test_and_body-requires-in-DoWhile : goal.statement-test_and_body-requires-in-DoWhile
statement-test_and_body-requires-in-DoWhile t c =
    (body_falls (code_of c.args.statement.now) (syntax.DoWhile (code_of c.in-DoWhile.body.value) (phrase_of c.in-DoWhile.test)) c.in-DoWhile.body.value c.deref-in-DoWhile.result.now t c.decreases (ap code_of c.in-DoWhile.is) c.deref-in-DoWhile.ensures (only _), tt)

pub statement-repeated-requires : goal.statement-repeated-requires
statement-repeated-requires t c =
    (loop_falls (code_of c.args.statement.now) (syntax.For (first_of c.in-For.start) (option_map phrase_of c.in-For.test) (step_of c.in-For.step) (code_of c.in-For.body.value)) c.in-For.body.value c.deref-in-For.result.now t c.decreases (ap code_of c.in-For.is) c.deref-in-For.ensures (only _), tt)

pub held-statement-requires : goal.held-statement-requires
held-statement-requires t c =
    (to_statement _ t c.decreases, tt)

pub alone-held-requires : goal.alone-held-requires
alone-held-requires t c =
    (to_held _ t c.decreases, tt)

pub block-statements-requires : goal.block-statements-requires
block-statements-requires t c =
    (to_held _ t c.decreases, tt)

pub otherwise-alone-requires : goal.otherwise-alone-requires
otherwise-alone-requires t c =
    (to_alone _ t c.decreases, tt)

pub test_and_body-alone-requires : goal.test_and_body-alone-requires
test_and_body-alone-requires t c =
    (to_alone _ t c.decreases, tt)

pub parts_of_for-alone-requires : goal.parts_of_for-alone-requires
parts_of_for-alone-requires t c =
    (to_alone _ t c.decreases, tt)

pub repeated-parts_of_for-requires : goal.repeated-parts_of_for-requires
repeated-parts_of_for-requires t c =
    (to_parts _ t c.decreases, tt)

pub statements-statement-requires : goal.statements-statement-requires
statements-statement-requires t c =
    (one_falls c.args.all.now c.loop-one.one-index c.one-item.result t c.decreases c.loop-one-test.true c.one-item.is, tt)
