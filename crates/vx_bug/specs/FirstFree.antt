-- The cycle in which an operation would be issued on a cluster is the first from the one on in which its operands are there that
-- has a slot and a unit left.
use Rattle.std.specs.Prelude.{◌≡◌, ◌<◌, ◌≤◌, ℕ, Bool, true, false, map}
use Rattle.vx_flow.specs.declared.trace.TraceOp.{TraceOp}
use Rattle.vx_flow.specs.declared.trace.Trace.{Trace}
use Rattle.vx_isa.specs.Numbers.{Numbers, IsMachine}
use Rattle.vx_room.specs.Items.{item_of, unit_of_item}
use Rattle.vx_dep.specs.Delays.{reads_of}
use Rattle.vx_dep.specs.Compensation.{greatest}
use Rattle.vx_bug.specs.Clusters.{Books, available, is_free, cycle_of}

-- a cycle is free, and none from a first one up to it
pub record IsFirstFree (free : ℕ → Bool) (from cycle : ℕ) : Type 0 where
  pub above : from ≤ cycle
  pub vacant : free cycle ≡ true
  pub tight : (earlier : ℕ) → from ≤ earlier → earlier < cycle → free earlier ≡ false

-- a law, the clause of a public function
abbrev pub FirstIsFree : Type 0
FirstIsFree =
    (m : Numbers) (t : Trace) (books : Books) (i : ℕ) (op : TraceOp) (cluster : ℕ) → IsMachine m
    → IsFirstFree (is_free m books.bookings cluster (unit_of_item (item_of op))) (greatest (map (available m t books i op cluster) (reads_of op))) (cycle_of m t books i op cluster)
