use Rattle.std.proofs.lemmas.Result.{IfOk-weaker}
use Rattle.vx_ast.specs.View.{tree_of}
use Rattle.vx_lower.proofs.ActionMaking.{alters_by}
use Rattle.vx_lower.proofs.FittingActions.{by_well}
use Rattle.vx_lower.proofs.actions.combined.Goals as goal

pub returns-clause-code : goal.returns-clause-code
returns-clause-code c = IfOk-weaker c.combine.result _ _ (λ t done. alters_by c.args.words.now c.args.operator (tree_of c.args.e.now) c.args.old c.in_ok-right.right c.args.dest t c.args.b.now c.emit_value.new.b c.combine.new.b c.in_ok-right.ensures.code done) c.combine.ensures.code

pub returns-clause-fits : goal.returns-clause-fits
returns-clause-fits c = IfOk-weaker c.combine.result _ _ (λ t done. by_well c.args.operator (tree_of c.args.e.now) c.args.old c.in_ok-right.right c.args.dest t c.args.b.now c.emit_value.new.b c.combine.new.b c.in_ok-right.ensures.fits done) c.combine.ensures.fits
