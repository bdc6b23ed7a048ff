use Rattle.std.proofs.Common.{◌==◌}
use Rattle.std.proofs.lemmas.Bool.{eq-eqb, ne_eqb}
use Rattle.vx_replace.proofs.Looking.{none_more, one_found, none_found}
use Rattle.vx_replace.proofs.nodes.is_among.Goals as goal

pub loop-other-preserved : goal.loop-other-preserved
loop-other-preserved c = none_more (λ other. other == c.args.block) c.args.blocks.now c.loop-other.other-index _ c.loop-other-test.true c.loop-other.invariant (ne_eqb _ _ c.if-other-block.false)

pub returns-then-other-block : goal.returns-then-other-block
returns-then-other-block c = one_found (λ other. other == c.args.block) c.args.blocks.now c.loop-other.other-index _ c.loop-other-test.true (eq-eqb _ _ c.if-other-block.true)

pub returns : goal.returns
returns c = none_found (λ other. other == c.args.block) c.args.blocks.now c.loop-other.other-index c.loop-other-test.false c.loop-other.invariant
