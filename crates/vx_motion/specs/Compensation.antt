-- A trace whose operations were placed in words that meet its delays, with the copies, the dismissible loads and the empty
-- cycles of compensation: what is asked of the arguments of a replacement.
use Rattle.std.specs.Prelude.{◌≡◌, ◌≢◌, ◌==◌, ◌<◌, ◌≤◌, ◌⊎◌, ◌+◌, ◌-◌, ℕ, Bool, true, if◌then◌else◌, nat_lt, Option, Some, None, List, [], ◌∷◌, length, map, drop, slice_get, slice_index_or}
use Rattle.std.specs.List.{list_any}
use Rattle.vx_flow.specs.declared.graph.Edge.{Edge}
use Rattle.vx_flow.specs.declared.graph.Exit.{Exit}
use Rattle.vx_flow.specs.declared.graph.Op.{Op}
use Rattle.vx_flow.specs.declared.trace.TraceOp.{TraceOp}
use Rattle.vx_flow.specs.declared.trace.TraceOp.TheVariants.{Plain as TracePlain, Split as TraceSplit}
use Rattle.vx_flow.specs.declared.trace.Join.{Join}
use Rattle.vx_flow.specs.declared.trace.Trace.{Trace}
use Rattle.vx_flow.specs.Apart.{StandApart}
use Rattle.vx_flow.specs.Effects.{Setting, IsIn, writes}
use Rattle.vx_mixed.specs.declared.region.Item.{Item}
use Rattle.vx_mixed.specs.declared.region.Item.TheVariants.{Split}
use Rattle.vx_mixed.specs.declared.region.Made.{Made}
use Rattle.vx_mixed.specs.declared.mixed.MixedGraph.{MixedGraph}
use Rattle.vx_motion.specs.Trace.{nth}
use Rattle.vx_motion.specs.Facts.{copies}
use Rattle.vx_mixed.specs.Way.{item_latency, Clustered}
use Rattle.vx_motion.specs.Drains.{Drained, LoadsAlike}
use Rattle.vx_motion.specs.Rows.{Meets, NeverApart}
use Rattle.vx_mixed.specs.declared.replacement.Replacement.{Replacement}
use Rattle.vx_mixed.specs.Next.{InWord, new_end, placed, last_of, exit_in, is_split_edge, new_region, on_edge}
use Rattle.vx_motion.specs.Scheduled.{Keeps}
use Rattle.vx_mixed.specs.Settled.{HomesStay, InTime}
use Rattle.vx_mixed.specs.Valid.{Valid}
use Rattle.vx_mixed.specs.declared.region.Region.{Region}
use Rattle.vx_mixed.specs.TraceOf.{CanTrace, IsTraceOf, trace_ops}
use Rattle.vx_mixed.specs.TraceItems.{items_of, plain_items, splits_of}

abbrev pub items : Replacement → List Item
items r = items_of r.trace.ops r.clusters

-- the word of the operation at place k; what is behind the trace is in none
abbrev pub word : Replacement → ℕ → ℕ
word r k = slice_index_or r.words k (r.length + 1)

-- the item at place k as it stands in its word
abbrev pub mark : MixedGraph → Replacement → ℕ → Item
mark m r k = nth (map (λ (i : InWord). i.item) (placed (new_end m r.made) r.trace.ops r.clusters r.words r.drains [])) k

-- the values that the split at place e finds live on its edge
abbrev pub live_of : Option TraceOp → List ℕ
live_of (Some (TraceSplit p y e live)) = live
live_of (Some (TracePlain op)) = []
live_of None = []

abbrev pub is_join_place : List Join → ℕ → Bool
is_join_place joins q = list_any (λ (j : Join). j.place == q) joins

-- the blocks of a trace from block b on
abbrev pub blocks_from : ℕ → List ℕ → List ℕ
blocks_from b [] = []
blocks_from b (c ∷ blocks) = if c == b then c ∷ blocks else blocks_from b blocks

-- the first word behind all operations that stand above place q
abbrev pub IsRejoin : (ℕ → ℕ) → ℕ → ℕ → Type 0
IsRejoin word q rejoin = ((k : ℕ) → k < q → word k < rejoin) × ((rejoin ≡ 0) ⊎ ((i : ℕ) × (i < q) × (rejoin ≡ word i + 1)))

-- the exit of the last block of the trace
abbrev pub exit_of : MixedGraph → Replacement → Exit
exit_of m r = exit_in (slice_get m.nodes (last_of r.trace.blocks))

pub record Compensated (latency : Op → ℕ) (m : MixedGraph) (r : Replacement) : Type 0 where
  -- the trace is that of its blocks, with copies of values between clusters: in order they do the same, from its start and
  -- from each join
  pub can : CanTrace m r.trace.blocks
  pub plain : Trace
  pub is_trace : IsTraceOf m r.trace.blocks plain
  pub splits : splits_of r.trace.ops ≡ splits_of plain.ops
  pub join_blocks : map (λ (j : Join). j.block) r.trace.joins ≡ map (λ (j : Join). j.block) plain.joins
  pub join_edges : map (λ (j : Join). j.edges) r.trace.joins ≡ map (λ (j : Join). j.edges) plain.joins
  pub join_places : (j : Join) → IsIn j r.trace.joins → j.place ≤ length r.trace.ops
  pub clustered : (setting : Setting) → StandApart m.arrays setting.spot → Clustered setting m (plain_items plain.ops) (items r) (last_of r.trace.blocks) (exit_of m r)
  pub clustered_below : (setting : Setting) → StandApart m.arrays setting.spot → (j : Join) → IsIn j r.trace.joins →
      Clustered setting m (plain_items (trace_ops m is_trace.live (blocks_from j.block r.trace.blocks))) (drop j.place (items r)) (last_of r.trace.blocks) (exit_of m r)
  -- its words meet the delays
  pub clusters_fit : length r.clusters ≡ length r.trace.ops
  pub words_fit : length r.words ≡ length r.trace.ops
  pub within : (k w : ℕ) → slice_get r.words k ≡ Some w → w < r.length
  pub never : ℕ → ℕ → Bool
  pub apart : (setting : Setting) → StandApart m.arrays setting.spot → (q : ℕ) → ((q ≡ 0) ⊎ (is_join_place r.trace.joins q ≡ true)) → NeverApart setting (items r) never q
  pub meets : Meets (items r) (item_latency latency) (λ e v. IsIn v (live_of (slice_get r.trace.ops e))) never (is_join_place r.trace.joins) (word r)
  pub takes_time : (op : Op) (v : ℕ) → IsIn v (writes op) → 1 ≤ latency op
  pub loads : LoadsAlike latency
  -- compensation
  pub rejoins : (i : ℕ) (j : Join) → slice_get r.trace.joins i ≡ Some j → (rejoin : ℕ) × (slice_get r.rejoins i ≡ Some rejoin) × IsRejoin (word r) j.place rejoin
  pub drained : Drained (items r) (word r) (mark m r) (item_latency latency) (new_region m r)
  pub at_splits : (e p d : ℕ) (y : Bool) (off : Edge) → nth (items r) e ≡ Split p y off d → on_edge r.made off ≡ copies (λ k. nat_lt (word r e) (word r k)) (nth (items r)) 0 e
  pub at_joins : (i rejoin : ℕ) (j : Join) (on : Edge) → slice_get r.trace.joins i ≡ Some j → slice_get r.rejoins i ≡ Some rejoin → IsIn on j.edges →
      on_edge r.made on ≡ copies (λ k. nat_lt (word r k) rejoin) (mark m r) j.place (length (items r) - j.place)
  -- blocks are made on edges out of splits and on edges into joins alone, on each edge one, and none without operations
  pub made_where : (x : Made) → IsIn x r.made → (is_split_edge r.trace.ops x.edge ≡ true) ⊎ ((j : Join) × IsIn j r.trace.joins × IsIn x.edge j.edges)
  pub made_once : (i k : ℕ) (x y : Made) → slice_get r.made i ≡ Some x → slice_get r.made k ≡ Some y → x.edge ≡ y.edge → i ≡ k
  pub made_some : (x : Made) → IsIn x r.made → x.ops ≢ []

-- Such a replacement keeps the meaning from every entrance that it shares with the graph, and keeps it tidy and settled.
abbrev pub CompensationLaw : Type 0
CompensationLaw =
    (latency : Op → ℕ) (m : MixedGraph) (r : Replacement) → Valid m → ((q : ℕ) (g : Region) → slice_get m.regions q ≡ Some g → InTime latency g) → HomesStay m.homes.clusters r.homes.clusters →
    Compensated latency m r → Keeps latency m r
