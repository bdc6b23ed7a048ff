use Rattle.std.proofs.Common.{◌≡◌, ℕ, ap, length, ◌∙◌}
use Rattle.vx_flow.specs.declared.graph.Exit.TheVariants.{Split}
use Rattle.vx_flow.specs.declared.graph.Op.{Op}
use Rattle.vx_lower.specs.declared.builder.Builder.{Builder}
use Rattle.vx_lower.specs.Adds.{Added, Forked}
use Rattle.vx_lower.specs.Builds.{closed, reserved}
use Rattle.vx_lower.proofs.Building.{branches_is}
use Rattle.vx_lower.proofs.builder.Builder.branch.Goals as goal

pub returns-clause-code : goal.returns-clause-code
returns-clause-code c = branches_is c.args.self.now c.put.new.self c.reserve.new.self c.reserve-2.new.self c.close.new.self c.args.op c.args.test c.in_ok-yes.yes c.in_ok-no.no c.in_ok-put.ensures.code c.in_ok-yes.ensures c.in_ok-no.ensures c.close.ensures

forks_is : (a b b1 b2 b3 : Builder) (op : Op) (c y n : ℕ) → Added op a b → (y ≡ length b.blocks) × (b1 ≡ reserved b) → (n ≡ length b1.blocks) × (b2 ≡ reserved b1) → b3 ≡ closed b2 (Split c y n) y → Forked op c n a b3
forks_is a b b1 b2 b3 op c y n x e1 e2 e3 = record {
  middle = b;
  added = x;
  other = e2.0 ∙ ap (λ z. length z.blocks) e1.1;
  is = e3 ∙ ap (λ z. closed z (Split c y n) y) (e2.1 ∙ ap reserved e1.1) ∙ ap (λ m. closed (reserved (reserved b)) (Split c m n) m) e1.0;
}

pub returns-clause-steps : goal.returns-clause-steps
returns-clause-steps c = forks_is c.args.self.now c.put.new.self c.reserve.new.self c.reserve-2.new.self c.close.new.self c.args.op c.args.test c.in_ok-yes.yes c.in_ok-no.no c.in_ok-put.ensures.steps c.in_ok-yes.ensures c.in_ok-no.ensures c.close.ensures
