-- One replacement by a placement that meets the delays, with the copies, marks and empty cycles of compensation.
use Rattle.std.specs.Prelude.{◌≡◌, ◌<◌, ◌≤◌, ◌⊎◌, ◌+◌, ◌-◌, ℕ, Bool, true, false, Option, Some, List, length, drop, map, slice_get, nat_lt}
use Rattle.vx_flow.specs.declared.graph.Edge.{Edge}
use Rattle.vx_flow.specs.Apart.{StandApart}
use Rattle.vx_flow.specs.Effects.{Setting, IsIn}
use Rattle.vx_flow.specs.Sound.{targets_of}
use Rattle.vx_flow.specs.declared.graph.Op.{Op}
use Rattle.vx_flow.specs.declared.graph.Op.TheVariants.{Across}
use Rattle.vx_flow.specs.declared.graph.Exit.{Exit}
use Rattle.vx_mixed.specs.declared.region.Item.{Item}
use Rattle.vx_mixed.specs.declared.region.Item.TheVariants.{Plain, Split}
use Rattle.vx_mixed.specs.declared.region.Region.{Region}
use Rattle.vx_mixed.specs.declared.mixed.MixedGraph.{MixedGraph}
use Rattle.vx_mixed.specs.Agree.{SameMeaning}
use Rattle.vx_mixed.specs.Settled.{has_home, OnClusters, Settled, made_at_split, IsStart, Tidy, HomesStay}
use Rattle.vx_motion.specs.Trace.{nth, AfterOf}
use Rattle.vx_mixed.specs.Path.{Path}
use Rattle.vx_motion.specs.Facts.{row, words_from, copies}
use Rattle.vx_mixed.specs.Way.{item_latency, Clustered, Renamed, LeadsIn, LeadsOut}
use Rattle.vx_motion.specs.Drains.{Drained, LoadsAlike}
use Rattle.vx_motion.specs.Unchanged.{Outside, LiveWithin}
use Rattle.vx_mixed.specs.declared.replacement.Replacement.{Replacement}
use Rattle.vx_mixed.specs.Next.{rename, new_region, next_mixed}
use Rattle.vx_motion.specs.Rows.{Meets, NeverApart, Placed}
use Rattle.vx_mixed.specs.Entrances.{meet_old, meet_new, pairs}
use Rattle.vx_mixed.specs.Valid.{Valid}

-- block j, at place q of the trace, is reached by an edge from outside, which goes to j' in the new graph; the rejoin word
-- is the first one after all that stands above the join
pub record JoinEdge (old new : MixedGraph) (meet_old meet_new : ℕ → ℕ → Bool) (items : List Item) (end : ℕ) (exit : Exit) (word : ℕ → ℕ) (mark : ℕ → Item) (n : ℕ) (joins : ℕ → Bool) (j j' : ℕ) : Type 0 where
  pub place : ℕ
  pub inside : place ≤ length items
  pub is_join : joins place ≡ true
  pub plain : List Item
  pub path : Path old meet_old j plain end exit
  pub clustered : (setting : Setting) → StandApart old.arrays setting.spot → Clustered setting old plain (drop place items) end exit
  pub rejoin : ℕ
  pub above : (k : ℕ) → k < place → word k < rejoin
  pub least : (rejoin ≡ 0) ⊎ ((i : ℕ) × (i < place) × (rejoin ≡ word i + 1))
  pub enters : LeadsIn new meet_new n rejoin (copies (λ k. nat_lt (word k) rejoin) mark place (length items - place)) j'

pub record Scheduled (latency : Op → ℕ) (old new : MixedGraph) (meet_old meet_new : ℕ → ℕ → Bool) (pairs : ℕ → ℕ → Bool) : Type 0 where
  -- the functions begin alike
  pub begins : pairs 0 0 ≡ true
  -- the trace, its joins, and which accesses never touch one word
  pub start : ℕ
  pub items : List Item
  pub end : ℕ
  pub exit : Exit
  pub plain : List Item
  pub path : Path old meet_old start plain end exit
  pub clustered : (setting : Setting) → StandApart old.arrays setting.spot → Clustered setting old plain items end exit
  pub joins : ℕ → Bool
  pub never : ℕ → ℕ → Bool
  pub apart : (setting : Setting) → StandApart old.arrays setting.spot → (q : ℕ) → ((q ≡ 0) ⊎ (joins q ≡ true)) → NeverApart setting items never q
  -- its words
  pub word : ℕ → ℕ
  pub mark : ℕ → Item
  pub n : ℕ
  pub reg : Region
  pub is_region : slice_get new.regions n ≡ Some reg
  pub is_last : n ≡ length old.regions
  pub words : reg.words ≡ words_from (row word mark 0 (length items)) 0 (length reg.words)
  pub placed : Placed items (item_latency latency) word mark (length reg.words)
  pub meets : Meets items (item_latency latency) (AfterOf old items) never joins word
  pub drained : Drained items word mark (item_latency latency) reg
  pub loads : LoadsAlike latency
  -- its edges
  pub leaves : (e p d g : ℕ) (y : Bool) (edge edge' : Edge) → nth items e ≡ Split p y edge d → mark e ≡ Split p y edge' g → LeadsOut new meet_new pairs (copies (λ k. nat_lt (word e) (word k)) (nth items) 0 e) edge'.from edge'.to edge.to
  pub last_exit : Renamed pairs exit reg.last
  pub last_meets : (c : ℕ) → IsIn c (targets_of reg.last) → meet_new reg.from c ≡ true
  pub entrances : (b b' : ℕ) → (pairs b b' ≡ true) → ((b ≡ start) × LeadsIn new meet_new n 0 (copies (λ k. nat_lt (word k) 0) mark 0 (length items)) b') ⊎ (JoinEdge old new meet_old meet_new items end exit word mark n joins b b' ⊎ Outside latency old new meet_old meet_new pairs b b')
  -- where the new graph may begin anew, the old one might
  pub starts : (b' : ℕ) → IsStart new b' → made_at_split (slice_get new.origins b') ≡ false →
      (b : ℕ) × (pairs b b' ≡ true) × IsStart old b × (made_at_split (slice_get old.origins b) ≡ false)

-- A replacement

-- room for a word depends on its operations and splits, and on where the operands of its copies across stand
pub record IsRoom (room : List (Option ℕ) → List Item → Bool) : Type 0 where
  pub edges : (homes : List (Option ℕ)) (to : ℕ → ℕ → ℕ) (word : List Item) → room homes (map (rename to) word) ≡ room homes word
  pub homes : (homes homes' : List (Option ℕ)) (word : List Item) → ((v u cluster : ℕ) → IsIn (Plain (Across v u) cluster) word → has_home homes' u ≡ has_home homes u) → room homes' word ≡ room homes word

-- the words of its region have room, and their operations stand where their values do
pub record WordsStand (room : List (Option ℕ) → List Item → Bool) (old : MixedGraph) (r : Replacement) : Type 0 where
  pub fits : (i : ℕ) (word : List Item) → slice_get (new_region old r).words i ≡ Some word → room r.homes.clusters word ≡ true
  pub clusters : OnClusters (next_mixed old r) (new_region old r)

-- what it keeps: the meaning from each shared entrance, what is live there, and that the graph is tidy and settled
pub record Keeps (latency : Op → ℕ) (old : MixedGraph) (r : Replacement) : Type 0 where
  pub meaning : SameMeaning latency old (next_mixed old r) (meet_old r) (meet_new old r) (pairs old r)
  pub live : LiveWithin old (next_mixed old r) (pairs old r)
  pub tidy : Tidy old → Tidy (next_mixed old r)
  pub settled : (room : List (Option ℕ) → List Item → Bool) → IsRoom room → Settled room latency old → WordsStand room old r → Settled room latency (next_mixed old r)

-- Motion past branches keeps the meaning, and leaves the graph tidy and settled where it was.
abbrev pub MotionLaw : Type 0
MotionLaw =
    (latency : Op → ℕ) (old : MixedGraph) (r : Replacement) → Valid old → HomesStay old.homes.clusters r.homes.clusters →
    Scheduled latency old (next_mixed old r) (meet_old r) (meet_new old r) (pairs old r) → Keeps latency old r
