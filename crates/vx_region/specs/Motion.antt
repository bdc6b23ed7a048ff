-- Motion past branches as three laws, each by itself: a clustered trace in its order leaves what the trace leaves; its words, with
-- the copies at their splits, leave what it leaves in order; and from each joining edge the copies there and then the words from the
-- rejoin word on leave what the operations below the join leave in order.
use Rattle.std.specs.Prelude.{◌≡◌, ℕ, Option, Some, None, List, [], ◌∷◌, length, drop, slice_get}
use Rattle.vx_flow.specs.declared.graph.Edge.{Edge}
use Rattle.vx_flow.specs.declared.graph.Graph.{Graph}
use Rattle.vx_flow.specs.declared.graph.Op.{Op}
use Rattle.vx_flow.specs.declared.trace.Join.{Join}
use Rattle.vx_flow.specs.Apart.{StandApart}
use Rattle.vx_flow.specs.Effects.{State, Setting, IsIn, effect}
use Rattle.vx_flow.specs.Meaning.{Hop, Arrives, and_then}
use Rattle.vx_isa.specs.Numbers.{Numbers}
use Rattle.vx_room.specs.Items.{latency_of_op}
use Rattle.vx_mixed.specs.declared.region.Item.{Item}
use Rattle.vx_mixed.specs.declared.region.Made.{Made}
use Rattle.vx_mixed.specs.declared.mixed.MixedGraph.{MixedGraph}
use Rattle.vx_mixed.specs.declared.replacement.Replacement.{Replacement}
use Rattle.vx_mixed.specs.Agree.{Agree, Alike}
use Rattle.vx_mixed.specs.Alive.{Alive, AtEnd}
use Rattle.vx_motion.specs.Compensation.{items}
use Rattle.vx_mixed.specs.TraceItems.{plain_items}
use Rattle.vx_mixed.specs.Next.{on_edge, last_of, exit_in, new_region}
use Rattle.vx_mixed.specs.Entrances.{edge_of_made}
use Rattle.vx_mixed.specs.Meaning.{is_same, timed_from_start}
use Rattle.vx_mixed.specs.Path.{trace_hop}
use Rattle.vx_mixed.specs.TraceOf.{CanTrace}
use Rattle.vx_mixed.specs.Valid.{Valid}
use Rattle.vx_dep.specs.declared.mode.Mode.{Mode}
use Rattle.vx_region.specs.Planned.{Planned}
use Rattle.vx_region.specs.Regions.{IsGraphOf}

-- What is left. Where the first has a meaning, the second leaves by the same exit and is never wrong: the arrays, the input and the
-- output are the same, and each value that is live there and is a number is the same number. Both are functions of a state, so the
-- first leaves as the second does wherever it has a meaning.
abbrev pub LeavesAlike : MixedGraph → Hop → Hop → Type 0
LeavesAlike m h h' = Alike m is_same h h'

-- In order

-- operations of a trace of these blocks, one after the other, up to the exit by which they leave
abbrev pub in_order : Setting → MixedGraph → (blocks : List ℕ) → List Item → State → Hop
in_order setting m blocks items s = trace_hop setting items (last_of blocks) (exit_in (slice_get m.nodes (last_of blocks))) s

-- what they read before they write it, or leave live at an exit
abbrev pub Wanted : MixedGraph → (blocks : List ℕ) → List Item → ℕ → Type 0
Wanted m blocks items v = Alive m items v (AtEnd m (exit_in (slice_get m.nodes (last_of blocks))) v)

-- a trace beside the same one on its clusters
pub record KeepsOrder (m : MixedGraph) (blocks : List ℕ) (trace clustered : List Item) : Type 0 where
  pub leaves : (setting : Setting) (s : State) → LeavesAlike m (in_order setting m blocks trace s) (in_order setting m blocks clustered s)
  pub wants : (v : ℕ) → Wanted m blocks clustered v → Wanted m blocks trace v

-- In words

-- operations, one after the other, and then this
abbrev pub after_ops : Setting → List Op → State → (State → Hop) → Hop
after_ops setting [] s next = next s
after_ops setting (op ∷ ops) s next = and_then (effect setting s op s) (λ t. after_ops setting ops t next)

-- an edge that leaves the words: where it goes to a block that was made on an edge, the copies there, and then on along that edge
abbrev pub along : Setting → List Made → Option Edge → (from to : ℕ) → State → Hop
along setting made None from to s = Arrives from to s
along setting made (Some e) from to s = after_ops setting (on_edge made e) s (Arrives e.from e.to)

abbrev pub with_copies : Setting → MixedGraph → Replacement → Hop → Hop
with_copies setting m r (Arrives from to s) = along setting r.made (edge_of_made (length m.nodes) r.made to) from to s
with_copies setting m r h = h

-- The words of a plan from one of them on, with their dismissible loads, whenever their writes land within their latencies; the empty
-- cycles of the exit; and then the copies on its edge.
abbrev pub in_words : Setting → (times : List ℕ) → Numbers → MixedGraph → Replacement → (word : ℕ) → State → Hop
in_words setting times machine m r word s = with_copies setting m r (timed_from_start setting times (latency_of_op machine) (new_region m r) (drop word (new_region m r).words) s)

-- The laws, of each plan for blocks of a graph

abbrev pub OrderLaw : Type 0
OrderLaw =
    (graph : Graph) (m : MixedGraph) (blocks : List ℕ) (machine : Numbers) (mode : Mode) (r : Replacement) → Valid m → CanTrace m blocks → IsGraphOf machine graph m → (plan : Planned m blocks machine mode r) →
    KeepsOrder m blocks (plain_items plan.trace.ops) (items r) ×
    ((j j' : Join) → IsIn j plan.trace.joins → IsIn j' r.trace.joins → j.block ≡ j'.block → KeepsOrder m blocks (plain_items (drop j.place plan.trace.ops)) (drop j'.place (items r)))

abbrev pub SplitsLaw : Type 0
SplitsLaw =
    (graph : Graph) (m : MixedGraph) (blocks : List ℕ) (machine : Numbers) (mode : Mode) (r : Replacement) → Valid m → CanTrace m blocks → IsGraphOf machine graph m → Planned m blocks machine mode r →
    (setting : Setting) (times : List ℕ) (s t : State) → StandApart m.arrays setting.spot → Agree (Wanted m blocks (items r)) s t →
    LeavesAlike m (in_order setting m blocks (items r) s) (in_words setting times machine m r 0 t)

abbrev pub JoinsLaw : Type 0
JoinsLaw =
    (graph : Graph) (m : MixedGraph) (blocks : List ℕ) (machine : Numbers) (mode : Mode) (r : Replacement) → Valid m → CanTrace m blocks → IsGraphOf machine graph m → Planned m blocks machine mode r →
    (i rejoin : ℕ) (j : Join) (e : Edge) → slice_get r.trace.joins i ≡ Some j → slice_get r.rejoins i ≡ Some rejoin → IsIn e j.edges →
    (setting : Setting) (times : List ℕ) (s t : State) → StandApart m.arrays setting.spot → Agree (Wanted m blocks (drop j.place (items r))) s t →
    LeavesAlike m (in_order setting m blocks (drop j.place (items r)) s) (after_ops setting (on_edge r.made e) t (in_words setting times machine m r rejoin))

-- The three together: from its start, and from each joining edge, the words leave what the trace of blocks leaves, where the states
-- agree on what that reads or leaves live.
abbrev pub ComposedLaw : Type 0
ComposedLaw =
    (graph : Graph) (m : MixedGraph) (blocks : List ℕ) (machine : Numbers) (mode : Mode) (r : Replacement) → Valid m → CanTrace m blocks → IsGraphOf machine graph m → (plan : Planned m blocks machine mode r) →
    (setting : Setting) (times : List ℕ) (s t : State) → StandApart m.arrays setting.spot →
    (Agree (Wanted m blocks (plain_items plan.trace.ops)) s t → LeavesAlike m (in_order setting m blocks (plain_items plan.trace.ops) s) (in_words setting times machine m r 0 t)) ×
    ((i rejoin : ℕ) (j j' : Join) (e : Edge) → IsIn j plan.trace.joins → slice_get r.trace.joins i ≡ Some j' → j.block ≡ j'.block → slice_get r.rejoins i ≡ Some rejoin → IsIn e j'.edges → Agree (Wanted m blocks (plain_items (drop j.place plan.trace.ops))) s t →
    LeavesAlike m (in_order setting m blocks (plain_items (drop j.place plan.trace.ops)) s) (after_ops setting (on_edge r.made e) t (in_words setting times machine m r rejoin)))
