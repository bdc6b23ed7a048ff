use Rattle.std.proofs.Common.{sym, subst, pos}
use Rattle.std.proofs.lemmas.Result.{IfOk-weaker}
use Rattle.vx_flow.specs.declared.graph.Operand.TheVariants.{Number}
use Rattle.vx_flow.specs.declared.graph.Op.TheVariants.{Compute}
use Rattle.vx_lower.specs.Builds.{Ready}
use Rattle.vx_lower.specs.Adds.{Last}
use Rattle.vx_lower.specs.Emits.{Lasts}
use Rattle.vx_lower.specs.Fits.{AltersWell}
use Rattle.vx_lower.specs.Makes.{Alters, step_change}
use Rattle.vx_lower.proofs.FittingActions.{up_well, down_well}
use Rattle.vx_lower.proofs.ActionMaking.{alters_up, alters_down}
use Rattle.vx_lower.proofs.actions.stepped.Goals as goal
use Rattle.vx_lower.proofs.actions.stepped.Goals.{then-up, else-up}

pub returns-clause-code : goal.returns-clause-code
returns-clause-code c = elim c.if-up.branch [
  | then-up w ↦ IfOk-weaker c.compute.result _ _ (λ t last words. subst (λ z. Ready c.args.b.now → Alters words (step_change z) c.args.old c.args.dest t c.args.b.now c.compute.new.b) (sym w.if-up.true) (alters_up words c.args.old c.args.dest t c.args.b.now c.compute.new.b (subst (λ z. Ready c.args.b.now → Lasts (Compute z t c.args.old (Number (pos 1))) c.args.dest t c.args.b.now c.compute.new.b) w.code-is last))) c.compute.ensures.code
  | else-up w ↦ IfOk-weaker c.compute.result _ _ (λ t last words. subst (λ z. Ready c.args.b.now → Alters words (step_change z) c.args.old c.args.dest t c.args.b.now c.compute.new.b) (sym w.if-up.false) (alters_down words c.args.old c.args.dest t c.args.b.now c.compute.new.b (subst (λ z. Ready c.args.b.now → Lasts (Compute z t c.args.old (Number (pos 1))) c.args.dest t c.args.b.now c.compute.new.b) w.code-is last))) c.compute.ensures.code
]

pub returns-clause-fits : goal.returns-clause-fits
returns-clause-fits c = elim c.if-up.branch [
  | then-up w ↦ IfOk-weaker c.compute.result _ _ (λ t last words. subst (λ z. AltersWell words (step_change z) c.args.old c.args.dest t c.args.b.now c.compute.new.b) (sym w.if-up.true) (up_well c.args.old c.args.dest t c.args.b.now c.compute.new.b (subst (λ z. Last (Compute z t c.args.old (Number (pos 1))) c.args.dest t c.args.b.now c.compute.new.b) w.code-is last))) c.compute.ensures.steps
  | else-up w ↦ IfOk-weaker c.compute.result _ _ (λ t last words. subst (λ z. AltersWell words (step_change z) c.args.old c.args.dest t c.args.b.now c.compute.new.b) (sym w.if-up.false) (down_well c.args.old c.args.dest t c.args.b.now c.compute.new.b (subst (λ z. Last (Compute z t c.args.old (Number (pos 1))) c.args.dest t c.args.b.now c.compute.new.b) w.code-is last))) c.compute.ensures.steps
]
