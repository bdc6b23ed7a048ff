use Rattle.std.proofs.Common.{sym, subst}
use Rattle.std.specs.Prelude.{option_map}
use Rattle.std.proofs.lemmas.Result.{IfOk-weaker}
use Rattle.vx_ast.specs.View.{tree_of}
use Rattle.vx_lower.specs.Builds.{Ready}
use Rattle.vx_lower.specs.Makes.{MakesTest}
use Rattle.vx_lower.specs.StatementFits.{LoopTestWell}
use Rattle.vx_lower.proofs.StatementMaking.{test_always, test_some}
use Rattle.vx_lower.proofs.FittingStatements.{loop_always_well, loop_some_well}
use Rattle.vx_lower.proofs.statements.emit_asked.Goals as goal

pub returns-in-None-clause-code : goal.returns-in-None-clause-code
returns-in-None-clause-code c = IfOk-weaker c.reserve.result _ _ (λ n h. subst (λ z. Ready c.args.b.now → MakesTest c.args.words.now (option_map tree_of z) n c.args.b.now c.reserve.new.self) (sym c.in-None.is) (test_always c.args.words.now n c.args.b.now c.reserve.new.self h)) c.reserve.ensures

pub returns-in-None-clause-fits : goal.returns-in-None-clause-fits
returns-in-None-clause-fits c = IfOk-weaker c.reserve.result _ _ (λ n h. subst (λ z. LoopTestWell c.args.words.now (option_map tree_of z) n c.args.b.now c.reserve.new.self) (sym c.in-None.is) (loop_always_well n c.args.b.now c.reserve.new.self h)) c.reserve.ensures

pub returns-in-Some-clause-code : goal.returns-in-Some-clause-code
returns-in-Some-clause-code c = IfOk-weaker c.emit_test.result _ _ (λ n h. subst (λ z. Ready c.args.b.now → MakesTest c.args.words.now (option_map tree_of z) n c.args.b.now c.emit_test.new.b) (sym c.in-Some.is) (test_some c.args.words.now n (tree_of c.in-Some.e) c.args.b.now c.emit_test.new.b h)) c.emit_test.ensures.code

pub returns-in-Some-clause-fits : goal.returns-in-Some-clause-fits
returns-in-Some-clause-fits c = IfOk-weaker c.emit_test.result _ _ (λ n h. subst (λ z. LoopTestWell c.args.words.now (option_map tree_of z) n c.args.b.now c.emit_test.new.b) (sym c.in-Some.is) (loop_some_well n (tree_of c.in-Some.e) c.args.b.now c.emit_test.new.b h)) c.emit_test.ensures.fits
