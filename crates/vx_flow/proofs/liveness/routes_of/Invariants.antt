use Rattle.std.proofs.Common.{◌≡◌, take}
use Rattle.vx_flow.specs.Live.{routes_from}
use Rattle.vx_flow.proofs.liveness.routes_of.Given as goal

abbrev pub invariant-loop-index : goal.invariant-loop-index
invariant-loop-index l = l.routes ≡ routes_from 0 (take l.index l.blocks)
