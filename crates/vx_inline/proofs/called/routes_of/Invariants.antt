use Rattle.std.proofs.Common.{◌≡◌, take}
use Rattle.vx_inline.specs.Reaching.{call_routes}
use Rattle.vx_inline.proofs.called.routes_of.Given as goal

abbrev pub invariant-loop-index : goal.invariant-loop-index
invariant-loop-index l = l.routes ≡ call_routes 0 (take l.index l.functions)
