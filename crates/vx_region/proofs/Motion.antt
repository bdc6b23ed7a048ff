-- The three laws of motion, of each plan.
use Rattle.std.proofs.Common.{◌≡◌, ℕ, List, [], ◌∷◌, length, map, drop, slice_get, refl, sym, ap, ◌∙◌, subst, inl, inr}
use Rattle.vx_flow.specs.declared.trace.Clustered.{Clustered}
use Rattle.vx_flow.specs.declared.trace.Join.{Join}
use Rattle.vx_flow.specs.declared.trace.Trace.{Trace}
use Rattle.vx_flow.specs.Effects.{State, Setting, IsIn}
use Rattle.vx_flow.specs.Meaning.{Hop, Arrives, Calls, Leaves, Stops, Wrong}
use Rattle.vx_isa.specs.Numbers.{Numbers}
use Rattle.vx_room.specs.Items.{latency_of_op}
use Rattle.vx_mixed.specs.declared.region.Item.{Item}
use Rattle.vx_mixed.specs.declared.mixed.MixedGraph.{MixedGraph}
use Rattle.vx_mixed.specs.declared.replacement.Replacement.{Replacement}
use Rattle.vx_mixed.specs.Agree.{Agree, Alike}
use Rattle.vx_motion.specs.Compensation.{items}
use Rattle.vx_mixed.specs.TraceItems.{items_of, plain_items}
use Rattle.vx_mixed.specs.Next.{on_edge, last_of, exit_in}
use Rattle.vx_mixed.specs.Meaning.{is_same}
use Rattle.vx_mixed.specs.Settled.{NoTwice}
use Rattle.vx_mixed.specs.TraceOf.{CanTrace, IsTraceOf, block_ops}
use Rattle.vx_mixed.specs.Way.{Clustered as ClusteredWay}
use Rattle.vx_mixed.proofs.Linked.{some_blocks}
use Rattle.vx_mixed.proofs.TraceFacts.{joins_once}
use Rattle.vx_dep.specs.declared.mode.Mode.{Mode}
use Rattle.vx_bug.specs.declared.clusters.Clusters.{Clusters}
use Rattle.vx_region.specs.AtHome.{AssignedStands}
use Rattle.vx_region.specs.Ways.{ClusteredFits}
use Rattle.vx_region.specs.Motion.{LeavesAlike, in_order, Wanted, KeepsOrder, after_ops, in_words, OrderLaw, SplitsLaw, JoinsLaw}
use Rattle.vx_region.specs.Planned.{Planned}
use Rattle.vx_region.proofs.InMotion.{from_start, from_edge}
use Rattle.vx_region.proofs.PlansFit.{known_of, plan_law}

-- joins of a trace with the same block are the same one

named : (js : List Join) (k : Join) → IsIn k js → IsIn k.block (map (λ (j : Join). j.block) js)
named [] k h = absurd h
named (y ∷ js) k (inl h) = inl (ap (λ (z : Join). z.block) h)
named (y ∷ js) k (inr h) = inr (named js k h)

same_join : (js : List Join) (j k : Join) → NoTwice (map (λ (j : Join). j.block) js) → IsIn j js → IsIn k js → j.block ≡ k.block → j ≡ k
same_join [] j k once a b e = absurd a
same_join (x ∷ js) j k once (inl a) (inl b) e = a ∙ sym b
same_join (x ∷ js) j k once (inl a) (inr b) e = absurd (once.0 (subst (λ z. IsIn z (map (λ (j : Join). j.block) js)) (sym e ∙ ap (λ (z : Join). z.block) a) (named js k b)))
same_join (x ∷ js) j k once (inr a) (inl b) e = absurd (once.0 (subst (λ z. IsIn z (map (λ (j : Join). j.block) js)) (e ∙ ap (λ (z : Join). z.block) b) (named js j a)))
same_join (x ∷ js) j k once (inr a) (inr b) e = same_join js j k once.1 a b e

joins_apart : (m : MixedGraph) (blocks : List ℕ) (t : Trace) → CanTrace m blocks → IsTraceOf m blocks t → NoTwice (map (λ (j : Join). j.block) t.joins)
joins_apart m [] t can is = absurd (can.some refl)
joins_apart m (first ∷ others) t can is = subst (λ z. NoTwice (map (λ (j : Join). j.block) z)) (sym is.joins) (joins_once m is.live is.edges first (length (block_ops m is.live first others)) others can.once.1)

-- in order

anywhere : Setting
anywhere = record { spot = λ a. a; texts = [] }

keeps : (m : MixedGraph) (blocks : List ℕ) (trace clustered : List Item) → ((setting : Setting) → ClusteredWay setting m trace clustered (last_of blocks) (exit_in (slice_get m.nodes (last_of blocks)))) → KeepsOrder m blocks trace clustered
keeps m blocks trace clustered ways = record {
  leaves = λ setting s. by setting s (in_order setting m blocks trace s) refl;
  wants = λ v. (ways anywhere).alive v;
}
  where
    alike : (setting : Setting) (s : State) (h : Hop) → in_order setting m blocks trace s ≡ h → (h ≡ Wrong → ⊥) → Alike m is_same h (in_order setting m blocks clustered s)
    alike setting s h e n = let x = (ways setting).leaves_alike s h e n in subst (Alike m is_same h) (sym x.1) x.2

    by : (setting : Setting) (s : State) (h : Hop) → in_order setting m blocks trace s ≡ h → Alike m is_same (in_order setting m blocks trace s) (in_order setting m blocks clustered s)
    by setting s Wrong e = subst (λ z. Alike m is_same z (in_order setting m blocks clustered s)) (sym e) tt
    by setting s (Arrives from to u) e = subst (λ z. Alike m is_same z (in_order setting m blocks clustered s)) (sym e) (alike setting s (Arrives from to u) e (λ q. cc))
    by setting s (Calls g arguments result from next u) e = subst (λ z. Alike m is_same z (in_order setting m blocks clustered s)) (sym e) (alike setting s (Calls g arguments result from next u) e (λ q. cc))
    by setting s (Leaves n u) e = subst (λ z. Alike m is_same z (in_order setting m blocks clustered s)) (sym e) (alike setting s (Leaves n u) e (λ q. cc))
    by setting s (Stops k u) e = subst (λ z. Alike m is_same z (in_order setting m blocks clustered s)) (sym e) (alike setting s (Stops k u) e (λ q. cc))

module _ (law : AssignedStands) where
  pub order_law : OrderLaw
  order_law graph m blocks machine mode r valid can G p =
      let k = p.clusters in
      let same : k.clustered.trace.blocks ≡ blocks = ap (λ (z : Clustered). z.trace.blocks) p.assigned.clustered ∙ p.is_trace.blocks_are in
      let knows = known_of law machine graph m blocks p.trace k p.is_a_machine valid G can p.is_trace p.assigned in
      subst (λ (z : Replacement). KeepsOrder m blocks (plain_items p.trace.ops) (items z) × ((j j' : Join) → IsIn j p.trace.joins → IsIn j' z.trace.joins → j.block ≡ j'.block → KeepsOrder m blocks (plain_items (drop j.place p.trace.ops)) (drop j'.place (items z)))) (sym p.replacement) (
        subst (λ bs. KeepsOrder m bs (plain_items p.trace.ops) (items_of k.clustered.trace.ops k.clustered.clusters)) same (keeps m k.clustered.trace.blocks (plain_items p.trace.ops) (items_of k.clustered.trace.ops k.clustered.clusters) knows.fits.clustered),
        λ j j' a b e. subst (λ bs. KeepsOrder m bs (plain_items (drop j.place p.trace.ops)) (drop j'.place (items_of k.clustered.trace.ops k.clustered.clusters))) same
            (keeps m k.clustered.trace.blocks (plain_items (drop j.place p.trace.ops)) (drop j'.place (items_of k.clustered.trace.ops k.clustered.clusters)) (below p.trace k knows.fits (joins_apart m blocks p.trace can p.is_trace) j j' a b e)),
      )
    where
      below : (t : Trace) (k : Clusters) → ClusteredFits m (last_of k.clustered.trace.blocks) (exit_in (slice_get m.nodes (last_of k.clustered.trace.blocks))) t k.clustered → NoTwice (map (λ (j : Join). j.block) t.joins) →
          (j j' : Join) → IsIn j t.joins → IsIn j' k.clustered.trace.joins → j.block ≡ j'.block → (setting : Setting) →
          ClusteredWay setting m (plain_items (drop j.place t.ops)) (drop j'.place (items_of k.clustered.trace.ops k.clustered.clusters)) (last_of k.clustered.trace.blocks) (exit_in (slice_get m.nodes (last_of k.clustered.trace.blocks)))
      below t k fits once j j' a b e setting =
          let x = fits.clustered_below setting j' b in
          let one : j ≡ x.from = same_join t.joins j x.from once a x.is_there (e ∙ x.block) in
          subst (λ (z : Join). ClusteredWay setting m (plain_items (drop z.place t.ops)) (drop j'.place (items_of k.clustered.trace.ops k.clustered.clusters)) (last_of k.clustered.trace.blocks) (exit_in (slice_get m.nodes (last_of k.clustered.trace.blocks)))) (sym one) x.clustered

  -- in words

  same_blocks : (m : MixedGraph) (blocks : List ℕ) (machine : Numbers) (mode : Mode) (r : Replacement) → Planned m blocks machine mode r → r.trace.blocks ≡ blocks
  same_blocks m blocks machine mode r p = ap (λ (z : Replacement). z.trace.blocks) p.replacement ∙ ap (λ (z : Clustered). z.trace.blocks) p.assigned.clustered ∙ p.is_trace.blocks_are

  pub splits_law : SplitsLaw
  splits_law graph m blocks machine mode r valid can G p setting times s t apart agree =
      let c = plan_law law graph m blocks machine mode r valid can G p in
      let b = some_blocks r.trace.blocks c.can.some in
      subst (λ bs. Agree (Wanted m bs (items r)) s t → LeavesAlike m (in_order setting m bs (items r) s) (in_words setting times machine m r 0 t)) (same_blocks m blocks machine mode r p)
      (λ a. from_start (latency_of_op machine) m r valid c b.0 b.1 b.2 setting apart times s t a) agree

  pub joins_law : JoinsLaw
  joins_law graph m blocks machine mode r valid can G p i rejoin j e at_j at_w on setting times s t apart agree =
      let c = plan_law law graph m blocks machine mode r valid can G p in
      let b = some_blocks r.trace.blocks c.can.some in
      subst (λ bs. Agree (Wanted m bs (drop j.place (items r))) s t → LeavesAlike m (in_order setting m bs (drop j.place (items r)) s) (after_ops setting (on_edge r.made e) t (in_words setting times machine m r rejoin))) (same_blocks m blocks machine mode r p)
      (λ a. from_edge (latency_of_op machine) m r valid c b.0 b.1 b.2 i rejoin j e at_j at_w on setting apart times s t a) agree
