use Rattle.std.proofs.Common.{ap, sym}
use Rattle.std.proofs.lemmas.Result.{on_ok_weaker}
use Rattle.vx_ast.specs.Tree.{Nothing, Head}
use Rattle.vx_ast.specs.View.{step_of, action_of}
use Rattle.vx_lower.proofs.StatementMaking.{plain_as, plain_nothing, plain_head}
use Rattle.vx_lower.proofs.FittingStatements.{plain_head_well, plain_nothing_well, plain_well_as}
use Rattle.vx_lower.proofs.statements.emit_step.Goals as goal

pub returns-in-None-clause-code : goal.returns-in-None-clause-code
returns-in-None-clause-code c = plain_as c.args.words.now c.args.b.now c.args.b.now Nothing (step_of c.args.step.now) (ap step_of (sym c.in-None.is)) (plain_nothing c.args.words.now c.args.b.now)

pub returns-in-None-clause-fits : goal.returns-in-None-clause-fits
returns-in-None-clause-fits c = plain_well_as c.args.b.now c.args.b.now Nothing (step_of c.args.step.now) (ap step_of (sym c.in-None.is)) (plain_nothing_well c.args.b.now)

pub returns-in-Some-clause-code : goal.returns-in-Some-clause-code
returns-in-Some-clause-code c = on_ok_weaker c.emit_action.result (λ h. plain_as c.args.words.now c.args.b.now c.emit_action.new.b (Head (action_of c.in-Some.action)) (step_of c.args.step.now) (ap step_of (sym c.in-Some.is)) (plain_head c.args.words.now (action_of c.in-Some.action) c.args.b.now c.emit_action.new.b h)) c.emit_action.ensures.code

pub returns-in-Some-clause-fits : goal.returns-in-Some-clause-fits
returns-in-Some-clause-fits c = on_ok_weaker c.emit_action.result (λ h. plain_well_as c.args.b.now c.emit_action.new.b (Head (action_of c.in-Some.action)) (step_of c.args.step.now) (ap step_of (sym c.in-Some.is)) (plain_head_well (action_of c.in-Some.action) c.args.b.now c.emit_action.new.b h)) c.emit_action.ensures.fits
