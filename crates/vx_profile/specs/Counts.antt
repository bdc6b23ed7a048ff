-- How often blocks and edges stand in a path of blocks.
use Rattle.std.specs.Prelude.{◌≡◌, ◌+◌, ◌==◌, ◌&&◌, ℕ, Bool, false, if◌then◌else◌, List}
use Rattle.std.specs.List.{count_by}
use Rattle.std.specs.Option.{unwrap_or}
use Rattle.std.specs.declared.cmp.Ordering.{Ordering}
use Rattle.std.specs.Ordering.{nat_cmp, ordering_then}
use Rattle.std.specs.BTreeMap.{get}
use Rattle.vx_flow.specs.Meaning.{Visit, AtBlock, AlongEdge}
use Rattle.vx_profile.specs.declared.counts.Counts.{Counts}

-- the order of the keys

abbrev pub Pair : Type 0
Pair = ℕ × ℕ

abbrev pub Triple : Type 0
Triple = ℕ × ℕ × ℕ

abbrev pub pair_cmp : Pair → Pair → Ordering
pair_cmp x y = ordering_then (nat_cmp x.0 y.0) (nat_cmp x.1 y.1)

abbrev pub triple_cmp : Triple → Triple → Ordering
triple_cmp x y = ordering_then (ordering_then (nat_cmp x.0 y.0) (nat_cmp x.1 y.1)) (nat_cmp x.2 y.2)

-- the counts that are held; 0 for what is not there

abbrev pub block_count : Counts → (function block : ℕ) → ℕ
block_count c f b = unwrap_or (get pair_cmp c.blocks (f, b)) 0

abbrev pub edge_count : Counts → (function from to : ℕ) → ℕ
edge_count c f b d = unwrap_or (get triple_cmp c.edges (f, b, d)) 0

-- what stands in a path

abbrev pub is_block : (function block : ℕ) → Visit → Bool
is_block f b (AtBlock g c) = (g == f) && (c == b)
is_block f b (AlongEdge g c d) = false

abbrev pub is_edge : (function from to : ℕ) → Visit → Bool
is_edge f b d (AtBlock g c) = false
is_edge f b d (AlongEdge g c e) = (g == f) && (c == b) && (e == d)

-- the counts are those of a path: how often each block and each edge stands in it
pub record CountsOf (counts : Counts) (path : List Visit) : Type 0 where
  pub blocks : (f b : ℕ) → block_count counts f b ≡ count_by (is_block f b) path
  pub edges : (f b d : ℕ) → edge_count counts f b d ≡ count_by (is_edge f b d) path

-- new counts what old does and these besides
pub record CountsMore (old new : Counts) (visits : List Visit) : Type 0 where
  pub blocks : (f b : ℕ) → block_count new f b ≡ block_count old f b + count_by (is_block f b) visits
  pub edges : (f b d : ℕ) → edge_count new f b d ≡ edge_count old f b d + count_by (is_edge f b d) visits

-- new counts what old does, and a block or an edge so many times more
pub record MoreTimes (old new : Counts) (visit : Visit) (more : ℕ) : Type 0 where
  pub blocks : (f b : ℕ) → block_count new f b ≡ block_count old f b + (if is_block f b visit then more else 0)
  pub edges : (f b d : ℕ) → edge_count new f b d ≡ edge_count old f b d + (if is_edge f b d visit then more else 0)

-- new has this count for a block or an edge, and for each other one what old has
pub record CountsReplaced (old new : Counts) (visit : Visit) (count : ℕ) : Type 0 where
  pub blocks : (f b : ℕ) → block_count new f b ≡ (if is_block f b visit then count else block_count old f b)
  pub edges : (f b d : ℕ) → edge_count new f b d ≡ (if is_edge f b d visit then count else edge_count old f b d)
