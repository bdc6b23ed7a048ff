use Rattle.std.proofs.Common.{◌∙◌}
use Rattle.vx_loops.proofs.ordering.append_reversed.Goals as goal

pub place_once-requires : goal.place_once-requires
place_once-requires c = c.loop-behind.invariant.placed

pub loop-behind-preserved : goal.loop-behind-preserved
loop-behind-preserved c = record {
  placed = c.in_ok-place_once.ensures.placed;
  count = c.in_ok-place_once.ensures.count ∙ c.loop-behind.invariant.count;
}

pub returns-clause-placed : goal.returns-clause-placed
returns-clause-placed c = c.loop-behind.invariant.placed

pub returns-clause-count : goal.returns-clause-count
returns-clause-count c = c.loop-behind.invariant.count
