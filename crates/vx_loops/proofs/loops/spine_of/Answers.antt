use Rattle.std.proofs.Common.{◌≡◌, ℕ, Vec, Global, arith, ap, subst, sym}
use Rattle.vx_loops.specs.Path.{HasWay}
use Rattle.vx_loops.proofs.loops.spine_of.Goals as goal
use Rattle.vx_loops.proofs.loops.spine_of.Goals.{then-header+in_ok-push+in_ok-follow, else-header}

pub returns : goal.returns
returns c = λ few. elim c.if-header.branch [
  | then-header+in_ok-push+in_ok-follow w ↦
      let spine : c.if-header.spine.items ≡ w.follow.new.spine.items = ap (λ (v : Vec ℕ Global). v.items) w.spine-is in
      subst (λ way. HasWay c.args.blocks.now c.args.header way) (sym spine) w.in_ok-follow.ensures
  | else-header w ↦ absurd (omega (arith, few, w.if-header.false))
]
