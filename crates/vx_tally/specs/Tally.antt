-- Counts as they are gathered while a run goes on: what the entries hold, and what is held beside them.
use Rattle.std.specs.Prelude.{◌≡◌, ◌+◌, ◌==◌, ◌&&◌, ◌<◌, ℕ, if◌then◌else◌, List, [], length, replicate, slice_index_or}
use Rattle.std.specs.List.{count_by}
use Rattle.vx_flow.specs.Meaning.{Visit}
use Rattle.vx_flow.specs.declared.graph.Graph.{Graph}
use Rattle.vx_profile.specs.declared.counts.Counts.{Counts}
use Rattle.vx_tally.specs.declared.tally.Taken.{Taken}
use Rattle.vx_tally.specs.declared.tally.Entry.{Entry}
use Rattle.vx_tally.specs.declared.tally.Tally.{Tally}
use Rattle.vx_profile.specs.Counts.{block_count, edge_count, is_block, is_edge}

-- no edge was passed
abbrev pub no_edge : Taken
no_edge = record { to = 0; times = 0 }

-- nothing was passed
abbrev pub never : Entry
never = record { passed = 0; first = no_edge; second = no_edge }

abbrev pub empty_row : Graph → List Entry
empty_row g = replicate (length g.blocks) never

-- how often the edge to block d was passed
abbrev pub times : Taken → (d : ℕ) → ℕ
times t d = if t.to == d then t.times else 0

abbrev pub taken : Entry → (d : ℕ) → ℕ
taken e d = times e.first d + times e.second d

-- the entry of a block; one that is not there was never passed
abbrev pub entry_at : List Entry → (block : ℕ) → Entry
entry_at row b = slice_index_or row b never

abbrev pub entry_in : List (List Entry) → (function block : ℕ) → Entry
entry_in rows f b = entry_at (slice_index_or rows f []) b

abbrev pub block_times : Tally → (function block : ℕ) → ℕ
block_times t f b = block_count t.rest f b + (entry_in t.rows.items f b).passed

abbrev pub edge_times : Tally → (function from to : ℕ) → ℕ
edge_times t f b d = edge_count t.rest f b d + taken (entry_in t.rows.items f b) d

-- the entry of a block is there, and this is it
pub record IsThere (rows : List (List Entry)) (f b : ℕ) (e : Entry) : Type 0 where
  pub function : f < length rows
  pub block : b < length (slice_index_or rows f [])
  pub is : e ≡ entry_in rows f b

-- the tally is that of a path: how often each block and each edge stands in it
pub record TallyOf (t : Tally) (path : List Visit) : Type 0 where
  pub blocks : (f b : ℕ) → block_times t f b ≡ count_by (is_block f b) path
  pub edges : (f b d : ℕ) → edge_times t f b d ≡ count_by (is_edge f b d) path

-- new has what old has and these besides
pub record TallyMore (old new : Tally) (visits : List Visit) : Type 0 where
  pub blocks : (f b : ℕ) → block_times new f b ≡ block_times old f b + count_by (is_block f b) visits
  pub edges : (f b d : ℕ) → edge_times new f b d ≡ edge_times old f b d + count_by (is_edge f b d) visits

-- new counts what old does, and what the entry of block b of function f holds besides
pub record MoreByEntry (old new : Counts) (f b : ℕ) (e : Entry) : Type 0 where
  pub blocks : (g c : ℕ) → block_count new g c ≡ block_count old g c + (if (f == g) && (b == c) then e.passed else 0)
  pub edges : (g c d : ℕ) → edge_count new g c d ≡ edge_count old g c d + (if (f == g) && (b == c) then taken e d else 0)

-- and what the entries of function f hold besides
pub record MoreByRow (old new : Counts) (f : ℕ) (row : List Entry) : Type 0 where
  pub blocks : (g c : ℕ) → block_count new g c ≡ block_count old g c + (if f == g then (entry_at row c).passed else 0)
  pub edges : (g c d : ℕ) → edge_count new g c d ≡ edge_count old g c d + (if f == g then taken (entry_at row c) d else 0)

-- and what the entries of all functions hold besides
pub record MoreByRows (old new : Counts) (rows : List (List Entry)) : Type 0 where
  pub blocks : (f b : ℕ) → block_count new f b ≡ block_count old f b + (entry_in rows f b).passed
  pub edges : (f b d : ℕ) → edge_count new f b d ≡ edge_count old f b d + taken (entry_in rows f b) d
