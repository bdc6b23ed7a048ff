use Rattle.std.proofs.Common.{◌≡◌, ◌++◌, take}
use Rattle.vx_flow.specs.Live.{reading}
use Rattle.vx_inline.proofs.called.read_all.Given as goal

abbrev pub invariant-loop-value : goal.invariant-loop-value
invariant-loop-value l = l.touches ≡ l.initial.touches ++ reading (take l.value-index l.values)
