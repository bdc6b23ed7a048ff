use Rattle.std.proofs.Common.{◌≡◌, arith, subst}
use Rattle.vx_inline.specs.Choosing.{BestBefore}
use Rattle.vx_inline.proofs.choice.best_of.Goals as goal

pub returns : goal.returns
returns c =
    let asked = c.args.asked.now in
    let all : c.loop-block.block ≡ c.args.blocks = omega (arith, c.loop-block-test.false, c.loop-block.auto.block-end) in
    subst (λ b. BestBefore asked.flow.now asked.counts.now asked.most c.args.function b c.loop-block.best) all c.loop-block.invariant
