use Rattle.std.proofs.Common.{ap, sym}
use Rattle.std.proofs.lemmas.Result.{on_ok_weaker}
use Rattle.vx_ast.specs.Tree.{Evaluate, Assign, Compound, Increase, Decrease}
use Rattle.vx_ast.specs.View.{action_of, place_of, tree_of}
use Rattle.vx_lower.proofs.ActionMaking.{acted_as}
use Rattle.vx_lower.proofs.FittingActions.{acts_well_as}
use Rattle.vx_lower.proofs.actions.emit_action.Goals as goal

pub returns-in-Evaluate-clause-code : goal.returns-in-Evaluate-clause-code
returns-in-Evaluate-clause-code c = on_ok_weaker c.evaluate.result (acted_as c.args.words.now c.args.b.now c.evaluate.new.b (Evaluate (tree_of c.in-Evaluate.e)) (action_of c.args.action.now) (ap action_of (sym c.in-Evaluate.is))) c.evaluate.ensures.code

pub returns-in-Evaluate-clause-fits : goal.returns-in-Evaluate-clause-fits
returns-in-Evaluate-clause-fits c = on_ok_weaker c.evaluate.result (acts_well_as c.args.b.now c.evaluate.new.b (Evaluate (tree_of c.in-Evaluate.e)) (action_of c.args.action.now) (ap action_of (sym c.in-Evaluate.is))) c.evaluate.ensures.fits

pub returns-in-Assign-clause-code : goal.returns-in-Assign-clause-code
returns-in-Assign-clause-code c = on_ok_weaker c.assign.result (acted_as c.args.words.now c.args.b.now c.assign.new.b (Assign (place_of c.in-Assign.target) (tree_of c.in-Assign.e)) (action_of c.args.action.now) (ap action_of (sym c.in-Assign.is))) c.assign.ensures.code

pub returns-in-Assign-clause-fits : goal.returns-in-Assign-clause-fits
returns-in-Assign-clause-fits c = on_ok_weaker c.assign.result (acts_well_as c.args.b.now c.assign.new.b (Assign (place_of c.in-Assign.target) (tree_of c.in-Assign.e)) (action_of c.args.action.now) (ap action_of (sym c.in-Assign.is))) c.assign.ensures.fits

pub returns-in-Compound-clause-code : goal.returns-in-Compound-clause-code
returns-in-Compound-clause-code c = on_ok_weaker c.compound.result (acted_as c.args.words.now c.args.b.now c.compound.new.b (Compound (place_of c.in-Compound.target) c.in-Compound.operator (tree_of c.in-Compound.e)) (action_of c.args.action.now) (ap action_of (sym c.in-Compound.is))) c.compound.ensures.code

pub returns-in-Compound-clause-fits : goal.returns-in-Compound-clause-fits
returns-in-Compound-clause-fits c = on_ok_weaker c.compound.result (acts_well_as c.args.b.now c.compound.new.b (Compound (place_of c.in-Compound.target) c.in-Compound.operator (tree_of c.in-Compound.e)) (action_of c.args.action.now) (ap action_of (sym c.in-Compound.is))) c.compound.ensures.fits

pub returns-in-Increase-clause-code : goal.returns-in-Increase-clause-code
returns-in-Increase-clause-code c = on_ok_weaker c.step.result (acted_as c.args.words.now c.args.b.now c.step.new.b (Increase (place_of c.in-Increase.target)) (action_of c.args.action.now) (ap action_of (sym c.in-Increase.is))) c.step.ensures.code

pub returns-in-Increase-clause-fits : goal.returns-in-Increase-clause-fits
returns-in-Increase-clause-fits c = on_ok_weaker c.step.result (acts_well_as c.args.b.now c.step.new.b (Increase (place_of c.in-Increase.target)) (action_of c.args.action.now) (ap action_of (sym c.in-Increase.is))) c.step.ensures.fits

pub returns-in-Decrease-clause-code : goal.returns-in-Decrease-clause-code
returns-in-Decrease-clause-code c = on_ok_weaker c.step-in-Decrease.result (acted_as c.args.words.now c.args.b.now c.step-in-Decrease.new.b (Decrease (place_of c.in-Decrease.target)) (action_of c.args.action.now) (ap action_of (sym c.in-Decrease.is))) c.step-in-Decrease.ensures.code

pub returns-in-Decrease-clause-fits : goal.returns-in-Decrease-clause-fits
returns-in-Decrease-clause-fits c = on_ok_weaker c.step-in-Decrease.result (acts_well_as c.args.b.now c.step-in-Decrease.new.b (Decrease (place_of c.in-Decrease.target)) (action_of c.args.action.now) (ap action_of (sym c.in-Decrease.is))) c.step-in-Decrease.ensures.fits
