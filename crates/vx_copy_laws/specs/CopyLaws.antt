-- Laws of copies.
use Rattle.std.specs.Prelude.{◌≡◌, ℕ, Option, List, length}
use Rattle.vx_flow.specs.declared.trace.Trace.{Trace}
use Rattle.vx_flow.specs.declared.trace.Homes.{Homes}
use Rattle.vx_flow.specs.declared.trace.Clustered.{Clustered}
use Rattle.vx_isa.specs.Numbers.{Numbers}
use Rattle.vx_room.specs.Room.{home_of}
use Rattle.vx_bug.specs.declared.clusters.Clusters.{Clusters}
use Rattle.vx_bug.specs.Copies.{with_copies}
use Rattle.vx_bug.specs.Assigned.{Assigned}
use Rattle.vx_bug.specs.CanAssign.{ValuesAreThere, IsWellFormed}
use Rattle.vx_copy_laws.specs.CopyStands.{CopiesStand}

-- copies stand where they are needed, by the homes of values and the clusters of operations
abbrev pub CopiesLaw : Type 0
CopiesLaw = (t : Trace) (homes : ℕ → Option ℕ) (chosen : List ℕ) → length chosen ≡ length t.ops → length t.fixed ≡ length t.ops → CopiesStand t homes chosen (with_copies t homes chosen)

-- by the homes and the clusters that `assign` gives
abbrev pub AssignedLaw : Type 0
AssignedLaw = (m : Numbers) (t : Trace) (homes : Homes) (r : Clusters) → IsWellFormed t → ValuesAreThere t → Assigned m t homes r → CopiesStand t (home_of r.homes) r.chosen r.clustered

-- and this says all of it: one clustered trace alone is so
abbrev pub OneLaw : Type 0
OneLaw = (t : Trace) (homes : ℕ → Option ℕ) (chosen : List ℕ) (c d : Clustered) → length chosen ≡ length t.ops → IsWellFormed t → CopiesStand t homes chosen c → CopiesStand t homes chosen d → c ≡ d
