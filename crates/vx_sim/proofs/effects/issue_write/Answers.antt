use Rattle.std.proofs.Common.{◌∙◌, [], ◌∷◌, ◌++◌, if◌then◌else◌, sym, ap}
use Rattle.vx_isa.specs.Machine.{Write}
use Rattle.vx_sim.specs.Flying.{flying_of, by_landing}
use Rattle.vx_sim.proofs.Turning.{nothing_put}
use Rattle.vx_sim.proofs.effects.issue_write.Goals as goal

pub returns-then-is_zero-clause-writes : goal.returns-then-is_zero-clause-writes
returns-then-is_zero-clause-writes c =
    let ring = c.args.ring.now in
    let w : Write = record { to = c.args.to; number = c.args.number; left = c.args.left } in
    nothing_put ring ∙ ap (λ (b : _). by_landing (flying_of ring ++ (if b then [] else w ∷ []))) (sym c.if-is_zero.true ∙ c.is_zero.ensures)
