-- When the words of a graph are settled: whenever writes land, no word reads or writes a value that is in flight, and nothing
-- is in flight where a region is left. And when a graph is tidy: copies of values to clusters live inside regions alone.
use Rattle.std.specs.Prelude.{◌≡◌, ◌<◌, ◌≤◌, ◌+◌, ◌-◌, ◌/◌, ◌%◌, ℕ, Bool, true, false, if◌then◌else◌, nat_lt, Option, Some, None, List, [], ◌∷◌, length, slice_get, slice_index_or}
use Rattle.vx_flow.specs.declared.graph.Op.{Op}
use Rattle.vx_flow.specs.declared.graph.Op.TheVariants.{Across}
use Rattle.vx_flow.specs.declared.graph.Edge.{Edge}
use Rattle.vx_flow.specs.declared.graph.Bank.{Bank}
use Rattle.vx_flow.specs.declared.graph.Bank.TheVariants.{General, Branch}
use Rattle.vx_flow.specs.declared.graph.Block.{Block}
use Rattle.vx_flow.specs.Effects.{IsIn, reads, writes}
use Rattle.vx_mixed.specs.declared.region.Item.{Item}
use Rattle.vx_mixed.specs.declared.region.Item.TheVariants.{Plain, Split}
use Rattle.vx_mixed.specs.declared.region.Region.{Region}
use Rattle.vx_mixed.specs.declared.region.Node.TheVariants.{Unused, Enters}
use Rattle.vx_mixed.specs.declared.region.Origin.{Origin}
use Rattle.vx_mixed.specs.declared.mixed.MixedGraph.{MixedGraph}
use Rattle.vx_mixed.specs.Live.{Live, word_reads, word_writes}

-- word i writes v, with latency l
abbrev pub WritesIn : (Op → ℕ) → List (List Item) → ℕ → ℕ → ℕ → Type 0
WritesIn latency words i v l = (word : List Item) × (op : Op) × (cluster : ℕ) × (slice_get words i ≡ Some word) × IsIn (Plain op cluster) word × IsIn v (writes op) × (l ≡ latency op)

abbrev pub ReadsIn : List (List Item) → ℕ → ℕ → Type 0
ReadsIn words j v = (word : List Item) × (slice_get words j ≡ Some word) × IsIn v (word_reads word)

abbrev pub NoTwice : List ℕ → Type 0
NoTwice [] = Unit {0}
NoTwice (v ∷ vs) = (IsIn v vs → ⊥) × NoTwice vs

-- the times of a region: every path of its words is a part of them, up to a split or to the end
pub record InTime (latency : Op → ℕ) (g : Region) : Type 0 where
  -- no word writes a value twice
  pub once : (i : ℕ) (word : List Item) → slice_get g.words i ≡ Some word → NoTwice (word_writes word)
  -- none reads a value before an earlier write of it has landed, nor writes it
  pub reads : (i j v l : ℕ) → i < j → WritesIn latency g.words i v l → ReadsIn g.words j v → i + l ≤ j
  pub writes : (i j v l k : ℕ) → i < j → WritesIn latency g.words i v l → WritesIn latency g.words j v k → i + l ≤ j
  -- each exit waits until all has landed
  pub splits : (i j v l p d : ℕ) (e : Edge) (y : Bool) (word : List Item) → i ≤ j → WritesIn latency g.words i v l → slice_get g.words j ≡ Some word → IsIn (Split p y e d) word → i + l ≤ j + 1 + d
  pub last : (i v l : ℕ) → WritesIn latency g.words i v l → i + l ≤ length g.words + g.drain

-- Copies: with so many values of the function's graph, the copy of value v to cluster k is (k + 1) times as many, plus v.

abbrev pub is_copy : (values : ℕ) → ℕ → Bool
is_copy values v = if nat_lt v values then false else true

abbrev pub has_home : List (Option ℕ) → ℕ → Option ℕ
has_home clusters v = slice_index_or clusters v None

-- every home so far is kept
abbrev pub HomesStay : List (Option ℕ) → List (Option ℕ) → Type 0
HomesStay homes homes' = (v k : ℕ) → has_home homes v ≡ Some k → has_home homes' v ≡ Some k

-- the cluster on which a value stands: its home, or the one to which it is a copy
abbrev pub home_of : MixedGraph → ℕ → Option ℕ
home_of m v = if nat_lt v (length m.banks) then has_home m.homes.clusters v else Some (v / length m.banks - 1)

-- a copy is of the bank of its value
abbrev pub bank_of : MixedGraph → ℕ → Option Bank
bank_of m v = slice_get m.banks (v % length m.banks)

abbrev pub stands_for : Option Bank → Option ℕ → ℕ → Type 0
stands_for None home cluster = ⊥
stands_for (Some General) home cluster = home ≡ Some cluster
stands_for (Some Branch) home cluster = cluster ≡ 0

-- the value may be named by an operation on the cluster
abbrev pub StandsOn : MixedGraph → ℕ → ℕ → Type 0
StandsOn m v cluster = stands_for (bank_of m v) (home_of m v) cluster

-- the values that an operation names on its own cluster: all but the operand of a copy across
abbrev pub read_there : Op → List ℕ
read_there (Across v u) = []
read_there op = reads op

pub record OnClusters (m : MixedGraph) (g : Region) : Type 0 where
  pub reads : (i v cluster : ℕ) (op : Op) (word : List Item) → slice_get g.words i ≡ Some word → IsIn (Plain op cluster) word → IsIn v (read_there op) → StandsOn m v cluster
  pub writes : (i v cluster : ℕ) (op : Op) (word : List Item) → slice_get g.words i ≡ Some word → IsIn (Plain op cluster) word → IsIn v (writes op) → StandsOn m v cluster
  -- a split tests a branch value
  pub tests : (i p d : ℕ) (e : Edge) (y : Bool) (word : List Item) → slice_get g.words i ≡ Some word → IsIn (Split p y e d) word → bank_of m p ≡ Some Branch

-- the graph is settled for a machine with these latencies, where `room` tells which words the machine has room for
pub record Settled (room : List (Option ℕ) → List Item → Bool) (latency : Op → ℕ) (m : MixedGraph) : Type 0 where
  pub fits : (r i : ℕ) (g : Region) (word : List Item) → slice_get m.regions r ≡ Some g → slice_get g.words i ≡ Some word → room m.homes.clusters word ≡ true
  pub clusters : (r : ℕ) (g : Region) → slice_get m.regions r ≡ Some g → OnClusters m g
  pub times : (r : ℕ) (g : Region) → slice_get m.regions r ≡ Some g → InTime latency g

-- Tidy

-- a block that was made where a region is left by a split
abbrev pub made_at_split : Option (Option Origin) → Bool
made_at_split None = false
made_at_split (Some None) = false
made_at_split (Some (Some origin)) = origin.leaves

-- an unused block or the start of a region stands there
pub data IsStart (m : MixedGraph) (b : ℕ) : Type 0 where
  block : {k : Block} → slice_get m.nodes b ≡ Some (Unused k) → IsStart m b
  region : {r : ℕ} → slice_get m.nodes b ≡ Some (Enters r 0) → IsStart m b

-- no copy is live at such a start, but where the block was made at a split
abbrev pub Tidy : MixedGraph → Type 0
Tidy m = (b v : ℕ) → IsStart m b → made_at_split (slice_get m.origins b) ≡ false → is_copy (length m.banks) v ≡ true → Live m b v → ⊥
