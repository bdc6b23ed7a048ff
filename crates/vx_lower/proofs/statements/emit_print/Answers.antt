use Rattle.std.proofs.Common.{subst}
use Rattle.std.proofs.lemmas.Result.{on_ok_weaker}
use Rattle.vx_ast.specs.View.{row_in}
use Rattle.vx_ast.specs.Meaning.{pieces_of}
use Rattle.vx_lower.specs.Builds.{Ready}
use Rattle.vx_lower.specs.Makes.{Showed}
use Rattle.vx_lower.specs.StatementFits.{ShowsWell}
use Rattle.vx_lower.proofs.StatementMaking.{makes_print}
use Rattle.vx_lower.proofs.FittingStatements.{print_well}
use Rattle.vx_lower.proofs.statements.emit_print.Goals as goal

pub returns-clause-code : goal.returns-clause-code
returns-clause-code c = on_ok_weaker c.show.result (λ h leaves again. makes_print c.args.words.now leaves again c.args.format.now (row_in c.args.all.now) c.in_ok-arguments.arguments c.args.b.now c.emit_row.new.b c.show.new.b c.args.texts.now c.show.new.texts c.in_ok-arguments.ensures.code (subst (λ z. Ready c.emit_row.new.b → Showed (pieces_of c.args.format.now) z c.emit_row.new.b c.show.new.b c.args.texts.now c.show.new.texts) c.as_slice.ensures h)) c.show.ensures.code

pub returns-clause-fits : goal.returns-clause-fits
returns-clause-fits c = on_ok_weaker c.show.result (λ h leaves again. print_well leaves again c.args.format.now (row_in c.args.all.now) c.in_ok-arguments.arguments c.args.b.now c.emit_row.new.b c.show.new.b c.args.texts.now c.show.new.texts c.in_ok-arguments.ensures.fits (subst (λ z. ShowsWell z c.emit_row.new.b c.show.new.b c.args.texts.now c.show.new.texts) c.as_slice.ensures h)) c.show.ensures.fits
