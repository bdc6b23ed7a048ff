use Rattle.std.proofs.Common.{◌≡◌, false, take}
use Rattle.std.specs.List.{list_any}
use Rattle.vx_lower.specs.Finished.{traps_by}
use Rattle.vx_lower.proofs.trap_blocks.is_used.Given as goal

abbrev pub invariant-loop-slot : goal.invariant-loop-slot
invariant-loop-slot l = list_any (traps_by l.fn.kind) (take l.slot-index l.fn.slots) ≡ false
