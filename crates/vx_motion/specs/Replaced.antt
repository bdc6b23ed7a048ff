-- One replacement: a trace of blocks becomes a region, with made blocks for the copies.
use Rattle.std.specs.Prelude.{◌≡◌, ◌<◌, ◌≤◌, ◌⊎◌, ◌-◌, ◌+◌, ℕ, Bool, true, Some, List, length, drop, slice_get, nat_lt}
use Rattle.vx_flow.specs.declared.graph.Edge.{Edge}
use Rattle.vx_flow.specs.declared.graph.Exit.{Exit}
use Rattle.vx_flow.specs.declared.graph.Op.{Op}
use Rattle.vx_flow.specs.Apart.{StandApart}
use Rattle.vx_flow.specs.Effects.{State, Setting, Location, IsIn}
use Rattle.vx_flow.specs.Sound.{targets_of}
use Rattle.vx_mixed.specs.declared.region.Item.{Item}
use Rattle.vx_mixed.specs.declared.region.Item.TheVariants.{Split}
use Rattle.vx_mixed.specs.declared.region.Region.{Region}
use Rattle.vx_mixed.specs.declared.mixed.MixedGraph.{MixedGraph}
use Rattle.vx_mixed.specs.Agree.{SameMeaning}
use Rattle.vx_mixed.specs.Settled.{InTime}
use Rattle.vx_motion.specs.Items.{item_takes, item_gives}
use Rattle.vx_motion.specs.Trace.{nth, order, AfterOf}
use Rattle.vx_mixed.specs.Path.{Path}
use Rattle.vx_motion.specs.Facts.{RowFacts, IsSplit, row, words_from, copies}
use Rattle.vx_mixed.specs.Way.{item_latency, Clustered, Renamed, LeadsIn, LeadsOut}
use Rattle.vx_motion.specs.Drains.{Drained, LoadsAlike}
use Rattle.vx_motion.specs.Unchanged.{Outside, LiveWithin, KeepsTidy}

-- the facts on cells, input and output, for a run in trace order from a join on
pub record CellFacts (setting : Setting) (is : List Item) (word : ℕ → ℕ) : Type 0 where
  pub flow : (s : State) (i o : ℕ) (l : Location) → i < o → item_gives setting (order setting is s i) (nth is i) l → item_takes setting (order setting is s o) (nth is o) l → word i < word o
  pub anti : (s : State) (o k : ℕ) (l : Location) → o < k → item_takes setting (order setting is s o) (nth is o) l → item_gives setting (order setting is s k) (nth is k) l → word o ≤ word k
  pub output : (s : State) (i k : ℕ) (l : Location) → i < k → item_gives setting (order setting is s i) (nth is i) l → item_gives setting (order setting is s k) (nth is k) l → word i < word k

-- block j, at place q of the trace, is reached by an edge from outside, which goes to j' in the new graph
pub record Join (latency : Op → ℕ) (old new : MixedGraph) (meet_old meet_new : ℕ → ℕ → Bool) (items : List Item) (end : ℕ) (exit : Exit) (word : ℕ → ℕ) (mark : ℕ → Item) (n : ℕ) (reg : Region) (j j' : ℕ) : Type 0 where
  pub place : ℕ
  pub inside : place ≤ length items
  pub rejoin : ℕ
  pub low : rejoin ≤ length reg.words
  pub plain : List Item
  pub path : Path old meet_old j plain end exit
  pub clustered : (setting : Setting) → StandApart old.arrays setting.spot → Clustered setting old plain (drop place items) end exit
  pub above : (k : ℕ) → k < place → word k < rejoin
  pub splits_below : (k : ℕ) → place ≤ k → IsSplit (nth items k) → rejoin ≤ word k
  pub cells : (setting : Setting) → StandApart old.arrays setting.spot → CellFacts setting (drop place items) (λ k. word (place + k))
  pub enters : LeadsIn new meet_new n rejoin (copies (λ k. nat_lt (word k) rejoin) mark place (length items - place)) j'

pub record Replaced (latency : Op → ℕ) (old new : MixedGraph) (meet_old meet_new : ℕ → ℕ → Bool) (pairs : ℕ → ℕ → Bool) : Type 0 where
  -- the functions begin alike
  pub begins : pairs 0 0 ≡ true
  -- the trace
  pub start : ℕ
  pub items : List Item
  pub end : ℕ
  pub exit : Exit
  pub plain : List Item
  pub path : Path old meet_old start plain end exit
  pub clustered : (setting : Setting) → StandApart old.arrays setting.spot → Clustered setting old plain items end exit
  -- its words
  pub word : ℕ → ℕ
  pub mark : ℕ → Item
  pub n : ℕ
  pub reg : Region
  pub is_region : slice_get new.regions n ≡ Some reg
  pub words : reg.words ≡ words_from (row word mark 0 (length items)) 0 (length reg.words)
  pub facts : (setting : Setting) → StandApart old.arrays setting.spot → RowFacts setting items word mark (item_latency latency) (length reg.words) (AfterOf old items)
  pub drained : Drained items word mark (item_latency latency) reg
  pub loads : LoadsAlike latency
  -- its edges
  pub leaves : (e p d g : ℕ) (y : Bool) (edge edge' : Edge) → nth items e ≡ Split p y edge d → mark e ≡ Split p y edge' g → LeadsOut new meet_new pairs (copies (λ k. nat_lt (word e) (word k)) (nth items) 0 e) edge'.from edge'.to edge.to
  pub last_exit : Renamed pairs exit reg.last
  pub last_meets : (c : ℕ) → IsIn c (targets_of reg.last) → meet_new reg.from c ≡ true
  -- the entrances: the start of the trace, its joins, and what is left as it is
  pub entrances : (b b' : ℕ) → (pairs b b' ≡ true) → ((b ≡ start) × LeadsIn new meet_new n 0 (copies (λ k. nat_lt (word k) 0) mark 0 (length items)) b') ⊎ (Join latency old new meet_old meet_new items end exit word mark n reg b b' ⊎ Outside latency old new meet_old meet_new pairs b b')

-- A replacement keeps the meaning, wherever the arrays of the old graph stand apart and whenever the writes of either graph land.
abbrev pub ReplacementLaw : Type 0
ReplacementLaw =
    (latency : Op → ℕ) (old new : MixedGraph) (meet_old meet_new pairs : ℕ → ℕ → Bool) →
    Replaced latency old new meet_old meet_new pairs → SameMeaning latency old new meet_old meet_new pairs

-- Its region is settled.
abbrev pub RegionSettled : Type 0
RegionSettled =
    (latency : Op → ℕ) (old new : MixedGraph) (meet_old meet_new pairs : ℕ → ℕ → Bool) →
    (r : Replaced latency old new meet_old meet_new pairs) → InTime latency r.reg

-- What is live in the new graph is live in the old one, so that no copy is live where none was.
abbrev pub LivenessKept : Type 0
LivenessKept =
    (latency : Op → ℕ) (old new : MixedGraph) (meet_old meet_new pairs : ℕ → ℕ → Bool) →
    Replaced latency old new meet_old meet_new pairs → LiveWithin old new pairs × KeepsTidy old new pairs
