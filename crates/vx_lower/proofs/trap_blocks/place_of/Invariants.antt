use Rattle.std.proofs.Common.{◌≡◌, ◌+◌, drop}
use Rattle.vx_lower.specs.Finished.{place_in}
use Rattle.vx_lower.proofs.trap_blocks.place_of.Given as goal

abbrev pub invariant-loop-other : goal.invariant-loop-other
invariant-loop-other l = (l.place ≡ l.other-index) × (place_in l.fn.kinds l.fn.kind ≡ l.other-index + place_in (drop l.other-index l.fn.kinds) l.fn.kind)
