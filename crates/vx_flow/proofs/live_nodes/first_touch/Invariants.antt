use Rattle.std.proofs.Common.{◌≡◌, drop}
use Rattle.vx_flow.specs.Live.{first_touch}
use Rattle.vx_flow.proofs.live_nodes.first_touch.Given as goal

abbrev pub invariant-loop-touch : goal.invariant-loop-touch
invariant-loop-touch l = first_touch l.value l.touches ≡ first_touch l.value (drop l.touch-index l.touches)
