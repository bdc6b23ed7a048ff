use Rattle.vx_lower.proofs.TrapBlocks.{place_next, place_found, place_none, place_within}
use Rattle.vx_lower.proofs.trap_blocks.place_of.Goals as goal

pub loop-other-preserved : goal.loop-other-preserved
loop-other-preserved c = place_next c.args.kinds.now c.args.kind _ c.loop-other.place c.loop-other.other-index c.is_kind.result c.loop-other-test.true c.is_kind.ensures c.if-is_kind.false c.loop-other.invariant

pub returns-then-is_kind-clause-place : goal.returns-then-is_kind-clause-place
returns-then-is_kind-clause-place c = place_found c.args.kinds.now c.args.kind _ c.loop-other.place c.loop-other.other-index c.is_kind.result c.loop-other-test.true c.is_kind.ensures c.if-is_kind.true c.loop-other.invariant

pub returns-clause-place : goal.returns-clause-place
returns-clause-place c = place_none c.args.kinds.now c.args.kind c.loop-other.place c.loop-other.other-index c.loop-other-test.false c.loop-other.invariant

pub returns-then-is_kind-clause-within : goal.returns-then-is_kind-clause-within
returns-then-is_kind-clause-within c = place_within c.args.kinds.now c.args.kind c.loop-other.place (place_found c.args.kinds.now c.args.kind _ c.loop-other.place c.loop-other.other-index c.is_kind.result c.loop-other-test.true c.is_kind.ensures c.if-is_kind.true c.loop-other.invariant)

pub returns-clause-within : goal.returns-clause-within
returns-clause-within c = place_within c.args.kinds.now c.args.kind c.loop-other.place (place_none c.args.kinds.now c.args.kind c.loop-other.place c.loop-other.other-index c.loop-other-test.false c.loop-other.invariant)
