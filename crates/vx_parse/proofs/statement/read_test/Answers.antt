use Rattle.std.proofs.Common.{ap}
use Rattle.vx_ast.specs.SyntaxView as view
use Rattle.vx_parse.proofs.HandedOn.{handed_on}
use Rattle.vx_parse.proofs.Parts.{past_token, past_phrase, within_phrase, misfit, misfit_held}
use Rattle.vx_parse.proofs.Simples.{operand_parted}
use Rattle.vx_parse.proofs.Statements.{test_start, test_is}
use Rattle.vx_parse.proofs.statement.read_test.Goals as goal

pub returns-in_err-inner-clause-stop : goal.returns-in_err-inner-clause-stop
returns-in_err-inner-clause-stop c =
    let b0 = test_start c.args.tokens.now c.args.place c.args.depth c.requires.within c.requires.depth in
    handed_on _ _ _ c.from_residual.ensures.1 (misfit b0 c.in_err-inner.field-0.0 c.in_err-inner.ensures.stop)

pub returns-in_err-test-clause-stop : goal.returns-in_err-test-clause-stop
returns-in_err-test-clause-stop c =
    let b0 = test_start c.args.tokens.now c.args.place c.args.depth c.requires.within c.requires.depth in
    let b1 = past_token b0 c.in_ok-inner.ensures.ok in
    handed_on _ _ _ c.from_residual-in_err-test.ensures.1 (within_phrase b1 c.in_err-test.field-0.0 c.in_err-test.ensures.stop)

pub returns-in_err-boxed_closed-clause-stop : goal.returns-in_err-boxed_closed-clause-stop
returns-in_err-boxed_closed-clause-stop c =
    let b0 = test_start c.args.tokens.now c.args.place c.args.depth c.requires.within c.requires.depth in
    let b1 = past_token b0 c.in_ok-inner.ensures.ok in
    let b2 = past_phrase b1 (operand_parted c.in_ok-test.ensures.ok) in
    handed_on _ _ _ c.from_residual-in_err-boxed_closed.ensures.1 (misfit_held b2 c.in_err-boxed_closed.field-0.0 c.in_err-boxed_closed.ensures.stop)

pub returns-clause-ok : goal.returns-clause-ok
returns-clause-ok c =
    test_is c.args.tokens.now c.args.place c.args.depth _ c.in_ok-test.test _ c.in_ok-inner.ensures.ok c.requires.within c.requires.depth c.in_ok-test.ensures.ok c.in_ok-boxed_closed.ensures.ok.1 (ap view.phrase_of c.in_ok-boxed_closed.ensures.ok.0)

pub read_expression-requires-clause-depth : goal.read_expression-requires-clause-depth
read_expression-requires-clause-depth c = c.requires.depth

pub read_expression-requires-clause-ended : goal.read_expression-requires-clause-ended
read_expression-requires-clause-ended c = c.requires.ended

pub read_expression-requires-clause-within : goal.read_expression-requires-clause-within
read_expression-requires-clause-within c = c.in_ok-inner.ensures.ok.within

pub boxed_closed-requires-clause-ended : goal.boxed_closed-requires-clause-ended
boxed_closed-requires-clause-ended c = c.requires.ended

pub boxed_closed-requires-clause-within : goal.boxed_closed-requires-clause-within
boxed_closed-requires-clause-within c = c.in_ok-test.ensures.ok.within

pub read_mark-requires-clause-within : goal.read_mark-requires-clause-within
read_mark-requires-clause-within c = c.requires.within
