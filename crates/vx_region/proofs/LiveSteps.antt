-- What is told to be live where splits may leave stays true from step to step.
use Rattle.std.proofs.Common.{◌≡◌, inl, inr, Bool, true, ℕ, List, [], ◌∷◌, length, map, take, drop, slice_get, refl, sym, ap, ◌∙◌, subst, arith}
use Rattle.vx_flow.specs.declared.graph.Exit.{Exit}
use Rattle.vx_flow.specs.declared.graph.Graph.{Graph}
use Rattle.vx_flow.specs.declared.trace.Clustered.{Clustered}
use Rattle.vx_flow.specs.declared.trace.Join.{Join}
use Rattle.vx_flow.specs.declared.trace.Trace.{Trace}
use Rattle.vx_flow.specs.declared.trace.TraceOp.{TraceOp}
use Rattle.vx_flow.specs.declared.trace.TraceOp.TheVariants.{Plain, Split}
use Rattle.vx_flow.specs.Effects.{IsIn}
use Rattle.vx_isa.specs.Numbers.{Numbers}
use Rattle.vx_linear.specs.InOrder.{IsEntrance}
use Rattle.vx_room.specs.Items.{latency_of_op}
use Rattle.vx_mixed.specs.declared.mixed.MixedGraph.{MixedGraph}
use Rattle.vx_mixed.specs.declared.replacement.Replacement.{Replacement}
use Rattle.vx_mixed.specs.Alive.{AtEnd}
use Rattle.vx_mixed.specs.Entrances.{pairs}
use Rattle.vx_mixed.specs.Live.{Live}
use Rattle.vx_mixed.specs.Next.{exit_in, last_of, next_mixed}
use Rattle.vx_mixed.specs.TraceItems.{item_of, items_of, plain_items}
use Rattle.vx_mixed.specs.TraceOf.{CanTrace, IsTraceOf, trace_ops}
use Rattle.vx_mixed.specs.Valid.{Valid}
use Rattle.vx_mixed.proofs.Linked.{some_blocks}
use Rattle.vx_motion.specs.Compensation.{items, blocks_from, exit_of}
use Rattle.vx_motion.proofs.Replacements.{linkable}
use Rattle.vx_profile.specs.declared.counts.Counts.{Counts}
use Rattle.vx_dep.specs.declared.mode.Mode.{Mode}
use Rattle.vx_dep.specs.Compensation.{at_splits_of, at_joins_of}
use Rattle.vx_bug.specs.declared.clusters.Clusters.{Clusters}
use Rattle.vx_bug.specs.Assigned.{last_books, Assigned}
use Rattle.vx_bug.specs.Copies.{Standing, joined, pieces_of}
use Rattle.vx_region.specs.declared.trace_plan.TracePlan.{TracePlan}
use Rattle.vx_region.specs.AtHome.{AssignedStands}
use Rattle.vx_region.specs.Beside.{Wanted, copied_from, CopiesFit}
use Rattle.vx_region.specs.LiveEnds.{TellsLive}
use Rattle.vx_region.specs.Planned.{Planned, placed_in, replacement_of}
use Rattle.vx_region.specs.Regions.{IsGraphOf, ReplacesOne, replacement_by}
use Rattle.vx_region.specs.Ways.{live_in, TracesTidily}
use Rattle.vx_region.proofs.Assignable.{is_well_formed, values_are_there}
use Rattle.vx_region.proofs.BelowJoins.{Below, below_join}
use Rattle.vx_region.proofs.Fields.{moved, joins_there}
use Rattle.vx_region.proofs.FromValid.{valid_traces_tidily}
use Rattle.vx_region.proofs.Hops.{item_at, items_are, items_from}
use Rattle.vx_region.proofs.LiveEnds.{tells_next}
use Rattle.vx_region.proofs.LiveEntries.{live_after}
use Rattle.vx_region.proofs.LiveForth.{AtExit, Kept, Wants}
use Rattle.vx_region.proofs.NothingLost.{nothing_lost_at}
use Rattle.vx_region.proofs.PlanFits.{planned_by}
use Rattle.vx_region.proofs.PlansFit.{Parts, parts_of}
use Rattle.vx_region.proofs.Premises.{fits}
use Rattle.vx_region.proofs.Runs.{op_of}
use Rattle.vx_region.proofs.Steps.{after_one, picked_can}

-- wanted items and wanted operations

module _ (Q : ℕ → Type 0) (exit : Exit) (v : ℕ) where
  abbrev E : Type 0
  E = AtExit Q exit v

  abbrev Of : List TraceOp → Type 0
  Of ops = Wanted (λ e live u. Q e.to) (λ u. AtExit Q exit v) ops v

  to_wanted : (ops : List TraceOp) → Wants Q (plain_items ops) v E → Of ops
  to_wanted [] h = h
  to_wanted (Plain op ∷ ops) (inl i) = inl i
  to_wanted (Plain op ∷ ops) (inr (inl o)) = absurd o
  to_wanted (Plain op ∷ ops) (inr (inr p)) = inr (inr (p.0, to_wanted ops p.1))
  to_wanted (Split q y e live ∷ ops) (inl i) = inl i
  to_wanted (Split q y e live ∷ ops) (inr (inl o)) = inr (inl o)
  to_wanted (Split q y e live ∷ ops) (inr (inr p)) = inr (inr (p.0, to_wanted ops p.1))

  from_wanted : (xs : List Standing) → Of (map op_of xs) → Wants Q (map item_at xs) v E
  from_wanted [] h = h
  from_wanted (x ∷ xs) h = by x.op (from_wanted xs) h
    where
      by : (op : TraceOp) → (Of (map op_of xs) → Wants Q (map item_at xs) v E) → Of (op ∷ map op_of xs) → Wants Q (item_of op x.cluster ∷ map item_at xs) v E
      by (Plain op) rest (inl i) = inl i
      by (Plain op) rest (inr (inl o)) = absurd o
      by (Plain op) rest (inr (inr p)) = inr (inr (p.0, rest p.1))
      by (Split q y e live) rest (inl i) = inl i
      by (Split q y e live) rest (inr (inl o)) = inr (inl o)
      by (Split q y e live) rest (inr (inr p)) = inr (inr (p.0, rest p.1))

-- what is kept is live in the old graph
wider : (m new : MixedGraph) (same : ℕ → ℕ → Bool) (exit : Exit) (v : ℕ) (ops : List TraceOp) → Wanted (λ e live u. Kept m new same v e.to) (λ u. AtExit (Kept m new same v) exit v) ops v → Wanted (live_in m) (AtEnd m exit) ops v
wider m new same exit v [] (inl i) = inl i
wider m new same exit v [] (inr h) = inr (h.0, h.1, h.2, h.3.0)
wider m new same exit v (Plain op ∷ ops) (inl i) = inl i
wider m new same exit v (Plain op ∷ ops) (inr (inl o)) = absurd o
wider m new same exit v (Plain op ∷ ops) (inr (inr p)) = inr (inr (p.0, wider m new same exit v ops p.1))
wider m new same exit v (Split q y e live ∷ ops) (inl i) = inl i
wider m new same exit v (Split q y e live ∷ ops) (inr (inl o)) = inr (inl o.0)
wider m new same exit v (Split q y e live ∷ ops) (inr (inr p)) = inr (inr (p.0, wider m new same exit v ops p.1))

-- a trace on its clusters, in words

module _ (machine : Numbers) (m : MixedGraph) (t : Trace) (k : Clusters) (words : List ℕ) (valid : Valid m) (can : CanTrace m k.clustered.trace.blocks) (is : IsTraceOf m k.clustered.trace.blocks t) (A : Assigned machine t m.homes k)
    (first : ℕ) (others : List ℕ) (are : k.clustered.trace.blocks ≡ first ∷ others) (T : TracesTidily t (live_in m) (AtEnd m (exit_in (slice_get m.nodes (last_of (first ∷ others)))))) (v : ℕ) where
  abbrev C : Clustered
  C = k.clustered

  abbrev R : Replacement
  R = replacement_of machine k.homes (placed_in C words) (at_splits_of (placed_in C words)) (at_joins_of (placed_in C words))

  abbrev Pieces : List (List Standing)
  Pieces = pieces_of t (last_books machine t m.homes k).homes k.chosen

  abbrev X : Exit
  X = exit_of m R

  abbrev Q_ : ℕ → Type 0
  Q_ = Kept m (next_mixed m R) (pairs m R) v

  copies_fit : CopiesFit t.values t.ops k.chosen t.fixed (copied_from t (last_books machine t m.homes k).homes 0 [] t.ops k.chosen t.fixed) (live_in m) (AtEnd m X)
  copies_fit =
      subst (λ bs. CopiesFit t.values t.ops k.chosen t.fixed (copied_from t (last_books machine t m.homes k).homes 0 [] t.ops k.chosen t.fixed) (live_in m) (AtEnd m (exit_in (slice_get m.nodes (last_of bs))))) (sym are)
      (fits (live_in m) (AtEnd m (exit_in (slice_get m.nodes (last_of (first ∷ others))))) t (last_books machine t m.homes k).homes k.chosen T A.each_chosen)

  wants_at : (q : ℕ) → IsEntrance t q → Wants Q_ (plain_items (drop q t.ops)) v (AtExit Q_ X v) → Wants Q_ (drop (length (joined (take q Pieces))) (items R)) v (AtExit Q_ X v)
  wants_at q enters h =
      let lost = nothing_lost_at (λ e live u. Kept m (next_mixed m R) (pairs m R) v e.to) (live_in m) (λ u. AtExit (Kept m (next_mixed m R) (pairs m R) v) X v) (AtEnd m X) t (last_books machine t m.homes k).homes k.chosen q v
      (wider m (next_mixed m R) (pairs m R) X v) copies_fit enters (to_wanted Q_ X v (drop q t.ops) h) in
      let wants = from_wanted Q_ X v (joined (drop q Pieces)) lost in
      let laid : drop (length (joined (take q Pieces))) (items R) ≡ map item_at (joined (drop q Pieces)) =
      ap (λ (z : Clustered). drop (length (joined (take q Pieces))) (items_of z.trace.ops z.clusters)) A.clustered ∙ ap (drop (length (joined (take q Pieces)))) (items_are (joined Pieces)) ∙ items_from q Pieces in
      subst (λ z. Wants Q_ z v (AtExit Q_ X v)) (sym laid) wants

  wants_start : Wants Q_ (plain_items (trace_ops m is.live (first ∷ others))) v (AtExit Q_ X v) → Wants Q_ (items R) v (AtExit Q_ X v)
  wants_start h = wants_at 0 (inl refl) (subst (λ z. Wants Q_ (plain_items z) v (AtExit Q_ X v)) (sym (is.ops ∙ ap (trace_ops m is.live) are)) h)

  below_is : (j : Join) → IsIn j t.joins → drop j.place t.ops ≡ trace_ops m is.live (blocks_from j.block C.trace.blocks)
  below_is j h =
      let b : Below m is.live is.edges 0 C.trace.blocks j = below_join m is.live is.edges C.trace.blocks j can.once (subst (IsIn j) is.joins h) in
      let p : j.place ≡ b.above = (let q = b.place_is in omega (arith, q)) in
      ap (λ n. drop n t.ops) p ∙ ap (drop b.above) is.ops ∙ b.rest

  wants_join : (j : Join) → IsIn j R.trace.joins → Wants Q_ (plain_items (trace_ops m is.live (blocks_from j.block R.trace.blocks))) v (AtExit Q_ X v) → Wants Q_ (drop j.place (items R)) v (AtExit Q_ X v)
  wants_join j h w =
      let x = moved Pieces t.joins j (subst (λ (z : Clustered). IsIn j z.trace.joins) A.clustered h) in
      let place : j.place ≡ length (joined (take x.from.place Pieces)) = ap (λ (z : Join). z.place) x.is in
      let block : j.block ≡ x.from.block = ap (λ (z : Join). z.block) x.is in
      let plain : trace_ops m is.live (blocks_from j.block C.trace.blocks) ≡ drop x.from.place t.ops = ap (λ b. trace_ops m is.live (blocks_from b C.trace.blocks)) block ∙ sym (below_is x.from x.is_there) in
      subst (λ n. Wants Q_ (drop n (items R)) v (AtExit Q_ X v)) (sym place)
      (wants_at x.from.place (inr (joins_there t.joins x.from x.is_there)) (subst (λ z. Wants Q_ (plain_items z) v (AtExit Q_ X v)) plain w))

-- a step

module _ (law : AssignedStands) (machine : Numbers) (graph : Graph) (m : MixedGraph) (blocks : List ℕ) (mode : Mode) (r : Replacement) (valid : Valid m) (can : CanTrace m blocks) (G : IsGraphOf machine graph m) (p : Planned m blocks machine mode r) where
  live_next : (x : Parts law machine graph m mode r) → (live : ℕ → List ℕ) → ((b v : ℕ) → pairs m r b b ≡ true → Live (next_mixed m r) b v → Live m b v) → TellsLive m live → TellsLive (next_mixed m r) live
  live_next x live back tells =
      let k = x.clusters in
      let R' = replacement_of machine k.homes (placed_in k.clustered x.words) (at_splits_of (placed_in k.clustered x.words)) (at_joins_of (placed_in k.clustered x.words)) in
      let b = some_blocks k.clustered.trace.blocks x.knows.can.some in
      let own : CanTrace m (b.0 ∷ b.1) = subst (CanTrace m) b.2 x.knows.can in
      let trace : IsTraceOf m (b.0 ∷ b.1) x.trace = subst (λ bs. IsTraceOf m bs x.trace) b.2 x.knows.is in
      let T = valid_traces_tidily m valid b.0 b.1 x.trace G.on.tidy own trace G.on.copies (is_well_formed machine graph m (b.0 ∷ b.1) x.trace valid G own trace) (values_are_there machine graph m (b.0 ∷ b.1) x.trace valid G own trace) in
      let forth : (c v : ℕ) → pairs m R' c c ≡ true → Live m c v → Live (next_mixed m R') c v =
      λ c v pair. live_after (latency_of_op machine) m R' valid (λ q g at. G.settled.times q g at) x.compensated b.0 b.1 b.2 x.knows.is.live v
      (wants_start machine m x.trace k x.words valid x.knows.can x.knows.is x.assigned b.0 b.1 b.2 T v) (wants_join machine m x.trace k x.words valid x.knows.can x.knows.is x.assigned b.0 b.1 b.2 T v) c c pair in
      let back' : (c v : ℕ) → pairs m R' c c ≡ true → Live (next_mixed m R') c v → Live m c v = subst (λ z. (c v : ℕ) → pairs m z c c ≡ true → Live (next_mixed m z) c v → Live m c v) x.is back in
      subst (λ z. TellsLive (next_mixed m z) live) (sym x.is) (tells_next m R' valid (linkable x.compensated) b.0 b.1 b.2 live forth back' tells)

pub tells_after : AssignedStands → (machine : Numbers) (counts : Counts) (cap used used' : ℕ) (graph : Graph) (m m' : MixedGraph) (plan : TracePlan) → Valid m → IsGraphOf machine graph m → ReplacesOne machine counts cap m used plan m' used' → (live : ℕ → List ℕ) → TellsLive m live → TellsLive m' live
tells_after law machine counts cap used used' graph m m' plan valid G x live tells =
    let r : Replacement = replacement_by machine x.clusters.homes plan.placed in
    let can : CanTrace m plan.blocks = picked_can m counts plan.blocks valid G.headed x.picked in
    let planned : Planned m plan.blocks machine plan.mode r = planned_by machine counts cap used used' m m' plan x in
    let keeps = (after_one law machine counts cap used used' graph m m' plan valid G x).keeps in
    subst (λ z. TellsLive z live) (sym x.next)
    (live_next law machine graph m plan.blocks plan.mode r valid can G planned (parts_of law machine graph m plan.blocks plan.mode r valid can G planned) live (λ b v pair h. keeps.live b b v pair h) tells)
