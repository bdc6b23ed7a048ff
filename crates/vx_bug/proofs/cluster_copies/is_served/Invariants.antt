-- no copy so far serves
use Rattle.std.proofs.Common.{◌≡◌, false, take}
use Rattle.vx_bug.specs.Copies.{is_served}
use Rattle.vx_bug.proofs.cluster_copies.is_served.Given as goal

abbrev pub invariant-loop-copy : goal.invariant-loop-copy
invariant-loop-copy l = is_served (take l.copy-index l.served) l.value l.cluster ≡ false
