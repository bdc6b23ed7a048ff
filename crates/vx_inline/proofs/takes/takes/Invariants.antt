use Rattle.std.proofs.Common.{◌≡◌, map}
use Rattle.vx_flow.specs.Walk.{numbers}
use Rattle.vx_inline.specs.Taking.{taken_by}
use Rattle.vx_inline.proofs.takes.takes.Given as goal

abbrev pub invariant-loop-value : goal.invariant-loop-value
invariant-loop-value l = l.to.items ≡ map (taken_by l.banks l.named l.free) (numbers 0 l.value)
