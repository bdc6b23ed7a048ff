use Rattle.std.proofs.Common.{◌≡◌, ◌++◌, map, take}
use Rattle.vx_flow.specs.Live.{touch}
use Rattle.vx_regs.proofs.liveness.push_touches.Given as goal

abbrev pub invariant-loop-value : goal.invariant-loop-value
invariant-loop-value l = l.touches ≡ l.initial.touches ++ map (touch l.reads) (take l.value-index l.values)
