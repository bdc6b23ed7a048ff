-- The laws of motion composed.
use Rattle.std.proofs.Common.{ℕ, List, drop}
use Rattle.vx_flow.specs.Effects.{State, Setting}
use Rattle.vx_flow.specs.Meaning.{Hop, Arrives, Calls, Leaves, Stops, Wrong}
use Rattle.vx_mixed.specs.declared.region.Item.{Item}
use Rattle.vx_mixed.specs.declared.mixed.MixedGraph.{MixedGraph}
use Rattle.vx_mixed.specs.Agree.{Agree}
use Rattle.vx_motion.specs.Compensation.{items}
use Rattle.vx_mixed.specs.TraceItems.{plain_items}
use Rattle.vx_mixed.specs.Meaning.{is_same}
use Rattle.vx_motion.proofs.Hops.{alike_trans}
use Rattle.vx_mixed.proofs.Linked.{index_in}
use Rattle.vx_region.specs.Motion.{LeavesAlike, in_order, Wanted, KeepsOrder, OrderLaw, SplitsLaw, JoinsLaw, ComposedLaw}

-- like to like, where the first has a meaning or not
like : (m : MixedGraph) (f g h : Hop) → LeavesAlike m f g → LeavesAlike m g h → LeavesAlike m f h
like m Wrong g h a b = tt
like m (Arrives from to s) g h a b = alike_trans m is_same (Arrives from to s) g h (λ q. cc) a b
like m (Calls function arguments result from next s) g h a b = alike_trans m is_same (Calls function arguments result from next s) g h (λ q. cc) a b
like m (Leaves n s) g h a b = alike_trans m is_same (Leaves n s) g h (λ q. cc) a b
like m (Stops k s) g h a b = alike_trans m is_same (Stops k s) g h (λ q. cc) a b

-- behind a trace on its clusters
behind : (m : MixedGraph) (blocks : List ℕ) (trace clustered : List Item) (setting : Setting) (s t : State) (h : Hop) → KeepsOrder m blocks trace clustered → (Agree (Wanted m blocks clustered) s t → LeavesAlike m (in_order setting m blocks clustered s) h) →
    Agree (Wanted m blocks trace) s t → LeavesAlike m (in_order setting m blocks trace s) h
behind m blocks trace clustered setting s t h keeps words agree =
    like m (in_order setting m blocks trace s) (in_order setting m blocks clustered s) h (keeps.leaves setting s) (words (record { world = agree.world; values = λ v n w e. agree.values v n (keeps.wants v w) e }))

pub composed_law : OrderLaw → SplitsLaw → JoinsLaw → ComposedLaw
composed_law order splits joins graph m blocks machine mode r valid can G p setting times s t apart =
    let kept = order graph m blocks machine mode r valid can G p in (
      λ agree. behind m blocks (plain_items p.trace.ops) (items r) setting s t _ kept.0 (λ a. splits graph m blocks machine mode r valid can G p setting times s t apart a) agree,
      λ i rejoin j j' e has at_j same at_w on agree. behind m blocks (plain_items (drop j.place p.trace.ops)) (drop j'.place (items r)) setting s t _ (kept.1 j j' has (index_in r.trace.joins i j' at_j) same)
          (λ a. joins graph m blocks machine mode r valid can G p i rejoin j' e at_j at_w on setting times s t apart a) agree,
    )
