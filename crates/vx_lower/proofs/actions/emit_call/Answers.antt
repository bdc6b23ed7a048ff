use Rattle.vx_ast.specs.View.{arguments_in}
use Rattle.vx_lower.proofs.ActionMaking.{acts_call}
use Rattle.vx_lower.proofs.FittingActions.{act_call_well}
use Rattle.vx_lower.proofs.actions.emit_call.Goals as goal

pub returns-clause-code : goal.returns-clause-code
returns-clause-code c = acts_call c.args.words.now c.args.function c.in_ok-next.next (arguments_in c.args.all.now) c.in_ok-arguments.arguments c.args.b.now c.emit_arguments.new.b c.reserve.new.self c.close.new.self c.in_ok-arguments.ensures.code c.in_ok-next.ensures c.close.ensures

pub returns-clause-fits : goal.returns-clause-fits
returns-clause-fits c = act_call_well c.args.function c.in_ok-next.next (arguments_in c.args.all.now) c.in_ok-arguments.arguments c.args.b.now c.emit_arguments.new.b c.reserve.new.self c.close.new.self c.in_ok-arguments.ensures.fits c.in_ok-next.ensures c.close.ensures
