-- The clustered trace as it is laid down, piece by piece.
use Rattle.std.specs.Prelude.{◌≡◌, ◌+◌, ◌-◌, ◌==◌, ℕ, min, if◌then◌else◌, Option, Some, None, List, [], ◌∷◌, ◌++◌, length, map, slice_index_or}
use Rattle.vx_flow.specs.declared.graph.Op.TheVariants.{Across}
use Rattle.vx_flow.specs.declared.trace.TraceOp.{TraceOp}
use Rattle.vx_flow.specs.declared.trace.TraceOp.TheVariants.{Plain}
use Rattle.vx_flow.specs.declared.trace.Trace.{Trace}
use Rattle.vx_linear.specs.Followed.{is_join}
use Rattle.vx_dep.specs.Delays.{Stands}
use Rattle.vx_bug.specs.declared.cluster_copies.Standings.{Standings}
use Rattle.vx_bug.specs.declared.served.Served.{Served}
use Rattle.vx_bug.specs.Clusters.{general_reads}
use Rattle.vx_bug.specs.Ledgers.{placed}
use Rattle.vx_bug.specs.Copies.{Standing, copy_of, reads_copies, serve, copied_for, with_its_copies, served_behind, joined}

abbrev pub standing : TraceOp → (cluster : ℕ) → (fixed : Option ℕ) → Standing
standing op cluster fixed = record { op = op; cluster = cluster; fixed = fixed }

-- these stand at the end now
pub record Adds (old new : Standings) (standings : List Standing) : Type 0 where
  pub ops : new.ops ≡ old.ops ++ map (λ (s : Standing). s.op) standings
  pub clusters : new.clusters ≡ old.clusters ++ map (λ (s : Standing). s.cluster) standings
  pub fixed : new.fixed ≡ old.fixed ++ map (λ (s : Standing). s.fixed) standings

-- with the copies that are made for an operation
abbrev pub served_with : (homes : ℕ → Option ℕ) → List Served → TraceOp → (cluster : ℕ) → (fixed : Option ℕ) → List Served
served_with homes served op cluster fixed = if reads_copies fixed op then serve cluster (copied_for homes cluster served (general_reads op)) ++ served else served

-- where each piece begins, and the last one ends
abbrev pub starts_of : ℕ → List (List Standing) → List ℕ
starts_of n [] = n ∷ []
starts_of n (piece ∷ pieces) = n ∷ starts_of (n + length piece) pieces

-- the copies that serve at a place
abbrev pub served_at : Trace → (place : ℕ) → List Served → List Served
served_at t i served = if is_join t i then [] else served

-- what stands for the operation at a place
pub record IsLaidOne (t : Trace) (homes : ℕ → Option ℕ) (chosen : List ℕ) (i : ℕ) (served behind : List Served) (old new : Standings) : Type 0 where
  pub adds : (op : TraceOp) → Stands t i op → Adds old new (with_its_copies t.values homes (served_at t i served) op (slice_index_or chosen i 0) (slice_index_or t.fixed i None))
  pub serves : (op : TraceOp) → Stands t i op → behind ≡ served_behind homes (served_at t i served) op (slice_index_or chosen i 0) (slice_index_or t.fixed i None)

-- all pieces
pub record AreLaid (pieces : List (List Standing)) (out : Standings) (starts : List ℕ) : Type 0 where
  pub ops : out.ops ≡ map (λ (s : Standing). s.op) (joined pieces)
  pub clusters : out.clusters ≡ map (λ (s : Standing). s.cluster) (joined pieces)
  pub fixed : out.fixed ≡ map (λ (s : Standing). s.fixed) (joined pieces)
  pub begins : starts ≡ starts_of 0 pieces

-- the start of the piece at a place, the end of the last one where none is there
abbrev pub start_in : List ℕ → (place : ℕ) → ℕ
start_in starts place = slice_index_or starts (min (length starts - 1) place) 0

-- the home of a copy that is made
abbrev pub with_copy : (values : ℕ) → (homes : ℕ → Option ℕ) → (fixed : Option ℕ) → TraceOp → (cluster : ℕ) → (ℕ → Option ℕ)
with_copy values homes (Some other) op cluster = homes
with_copy values homes None (Plain (Across to from)) cluster = if to == copy_of values from cluster then placed cluster homes to else homes
with_copy values homes None op cluster = homes

-- those of all
abbrev pub with_homes_of_copies : (values : ℕ) → (homes : ℕ → Option ℕ) → List TraceOp → (clusters : List ℕ) → (fixed : List (Option ℕ)) → (ℕ → Option ℕ)
with_homes_of_copies values homes [] clusters fixed = homes
with_homes_of_copies values homes (op ∷ ops) [] fixed = homes
with_homes_of_copies values homes (op ∷ ops) (k ∷ clusters) [] = homes
with_homes_of_copies values homes (op ∷ ops) (k ∷ clusters) (f ∷ fixed) = with_homes_of_copies values (with_copy values homes f op k) ops clusters fixed
