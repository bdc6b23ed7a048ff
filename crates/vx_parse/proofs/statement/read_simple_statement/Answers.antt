use Rattle.std.proofs.Common.{◌<◌, ap, arith}
use Rattle.vx_ast.specs.Syntax as syntax
use Rattle.vx_ast.specs.declared.syntax.Statement as statements
use Rattle.vx_ast.specs.SyntaxView as view
use Rattle.vx_parse.proofs.HandedOn.{handed_on}
use Rattle.vx_parse.proofs.Parts.{past_phrase, within_phrase, misfit}
use Rattle.vx_parse.proofs.Begun.{simple_statement, simple_too_deep}
use Rattle.vx_parse.proofs.Statements.{simple_statement_is}
use Rattle.vx_parse.proofs.statement.read_simple_statement.Goals as goal

pub returns-then-depth-ge-DEEPEST-clause-stop : goal.returns-then-depth-ge-DEEPEST-clause-stop
returns-then-depth-ge-DEEPEST-clause-stop c =
    simple_too_deep c.args.tokens.now c.args.place c.args.depth c.requires.within (let x = c.if-depth-ge-DEEPEST.true in omega arith) c.requires.begins c.requires.here

pub returns-in_err-simple-clause-stop : goal.returns-in_err-simple-clause-stop
returns-in_err-simple-clause-stop c =
    let l : c.args.depth < 200 = let x = c.if-depth-ge-DEEPEST.false in omega arith in
    let b0 = simple_statement c.args.tokens.now c.args.place c.args.depth c.requires.within l c.requires.here in
    handed_on _ _ _ c.from_residual.ensures.1 (within_phrase b0 c.in_err-simple.field-0.0 c.in_err-simple.ensures.stop)

pub returns-in_err-next-clause-stop : goal.returns-in_err-next-clause-stop
returns-in_err-next-clause-stop c =
    let l : c.args.depth < 200 = let x = c.if-depth-ge-DEEPEST.false in omega arith in
    let b0 = simple_statement c.args.tokens.now c.args.place c.args.depth c.requires.within l c.requires.here in
    let b1 = past_phrase b0 c.in_ok-simple.ensures.ok.parted in
    handed_on _ _ _ c.from_residual-in_err-next.ensures.1 (misfit b1 c.in_err-next.field-0.0 c.in_err-next.ensures.stop)

pub returns-clause-ok : goal.returns-clause-ok
returns-clause-ok c =
    let l : c.args.depth < 200 = let x = c.if-depth-ge-DEEPEST.false in omega arith in
    simple_statement_is c.args.tokens.now c.args.place c.args.depth _ _ c.in_ok-simple.simple.simple.value (statements.Simple c.into_inner.result) c.requires.within l c.requires.here c.in_ok-simple.ensures.ok c.in_ok-next.ensures.ok (ap (λ z. syntax.Simply (view.action_of z)) c.into_inner.ensures)

pub read_boxed-requires-clause-ended : goal.read_boxed-requires-clause-ended
read_boxed-requires-clause-ended c = c.requires.ended

pub read_boxed-requires-clause-within : goal.read_boxed-requires-clause-within
read_boxed-requires-clause-within c = c.requires.within

pub read_mark-requires-clause-ended : goal.read_mark-requires-clause-ended
read_mark-requires-clause-ended c = c.requires.ended

pub read_mark-requires-clause-within : goal.read_mark-requires-clause-within
read_mark-requires-clause-within c = c.in_ok-simple.ensures.ok.parted.within
