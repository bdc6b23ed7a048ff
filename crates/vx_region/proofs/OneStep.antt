-- A region in place of some blocks keeps the meaning of a graph of blocks and regions, and what is known of it.
use Rattle.std.proofs.Common.{◌≡◌, ◌⊎◌, inl, inr, ℕ, ◌+◌, ◌<◌, Some, None, List, ◌∷◌, ◌++◌, length, map, slice_get, slice_index_or, refl, sym, ap, ◌∙◌, subst, arith}
use Rattle.vx_flow.specs.declared.graph.Block.{Block}
use Rattle.vx_flow.specs.declared.graph.Graph.{Graph}
use Rattle.vx_flow.specs.declared.graph.Op.{Op}
use Rattle.vx_flow.specs.declared.graph.Op.TheVariants.{Load, Across}
use Rattle.vx_flow.specs.declared.trace.Clustered.{Clustered}
use Rattle.vx_flow.specs.declared.trace.Trace.{Trace}
use Rattle.vx_flow.specs.declared.trace.TraceOp.{TraceOp}
use Rattle.vx_flow.specs.declared.trace.TraceOp.TheVariants.{Plain as TracePlain}
use Rattle.vx_flow.specs.declared.trace.Homes.{Homes}
use Rattle.vx_flow.specs.Effects.{IsIn, dismissed, reads, writes}
use Rattle.vx_isa.specs.Numbers.{Numbers, IsMachine}
use Rattle.vx_room.specs.Items.{latency_of_op}
use Rattle.vx_mixed.specs.declared.region.Item.TheVariants.{Plain}
use Rattle.vx_mixed.specs.declared.region.Node.TheVariants.{Unused}
use Rattle.vx_mixed.specs.declared.region.Origin.{Origin}
use Rattle.vx_mixed.specs.declared.region.Region.{Region}
use Rattle.vx_mixed.specs.declared.mixed.MixedGraph.{MixedGraph}
use Rattle.vx_mixed.specs.declared.replacement.Replacement.{Replacement}
use Rattle.vx_layout.specs.Brief.{BriefStays, DrainsBriefly, most_drain}
use Rattle.vx_mixed.specs.CanReplace.{IsNamed, in_trace, in_made, CanReplace}
use Rattle.vx_motion.specs.Compensation.{Compensated}
use Rattle.vx_motion.specs.Context.{Becomes, Changes}
use Rattle.vx_mixed.specs.Entrances.{meet_old, meet_new, pairs}
use Rattle.vx_mixed.specs.Next.{new_end, new_region, renamed_region, made_origin, last_of, exit_in, next_mixed, rename}
use Rattle.vx_layout.specs.OriginLaws.{CodeStays}
use Rattle.vx_layout.specs.Origins.{ComesFrom, graph_op, copy}
use Rattle.vx_motion.specs.Scheduled.{Keeps}
use Rattle.vx_mixed.specs.Settled.{InTime, Tidy, has_home}
use Rattle.vx_mixed.specs.TraceOf.{CanTrace, IsTraceOf}
use Rattle.vx_mixed.specs.Valid.{Valid, IsOp, block_op, region_op}
use Rattle.vx_layout.proofs.CodeStays.{whole_dismissed, writes_dismissed}
use Rattle.vx_motion.proofs.Compensated.{compensation_law}
use Rattle.vx_mixed.proofs.Linked.{index_in, some_blocks}
use Rattle.vx_mixed.proofs.NewBlocks.{OldBlock, MadeBlock, new_block}
use Rattle.vx_mixed.proofs.NewNodes.{origin_old, origin_made, of_regions}
use Rattle.vx_mixed.proofs.Renames.{old_word, old_op}
use Rattle.vx_mixed.proofs.StaysValid.{linkable}
use Rattle.vx_dep.specs.declared.mode.Mode.{Mode}
use Rattle.vx_dep.specs.declared.copies.EdgeCopies.{EdgeCopies}
use Rattle.vx_dep.specs.Compensation.{word_at, drain_at, at_splits_of, at_joins_of}
use Rattle.vx_bug.specs.declared.clusters.Clusters.{Clusters}
use Rattle.vx_bug.specs.Assigned.{Assigned}
use Rattle.vx_region.specs.AtHome.{IsAtHome, AllStand, AssignedStands}
use Rattle.vx_region.specs.Beside.{IsCopyOf}
use Rattle.vx_region.specs.Ways.{ClusteredFits}
use Rattle.vx_motion.proofs.Headed.{stays_headed}
use Rattle.vx_motion.proofs.MadeBlocks.{made_stays}
use Rattle.vx_region.specs.Planned.{placed_in, replacement_of, Planned}
use Rattle.vx_region.specs.PlanLaws.{PlanKeeps}
use Rattle.vx_region.specs.Regions.{room_in, OnMachine, IsGraphOf, FitsIn}
use Rattle.vx_region.proofs.ClusteredOps.{op_comes, still_away}
use Rattle.vx_region.proofs.PlanOps.{Comes, comes_has}
use Rattle.vx_region.proofs.PlansFit.{index_low, copied, traced, made_comes, op_of_made, made_below, made_copies_away, made_at_home, made_there, made_stands, in_region, can_replace, parts_of, plan_law, plans_fit}
use Rattle.vx_region.proofs.RoomHomes.{is_room}
use Rattle.vx_region.proofs.ShortDrains.{drain_low, mapped_low}
use Rattle.vx_region.proofs.SoundOps.{reads_dismissed}

-- a load that may be dismissed comes from where the load comes from

dismissed_comes : (graph : Graph) (op : Op) → ComesFrom graph op → ComesFrom graph (dismissed op)
dismissed_comes graph op (graph_op origin has same written names) =
    graph_op origin has (whole_dismissed (length graph.banks) op ∙ same) (writes_dismissed op ∙ written)
    (λ v h. names v (subst (IsIn v) (ap (λ z. z ++ writes (dismissed op)) (reads_dismissed op) ∙ ap (λ z. reads op ++ z) (writes_dismissed op)) h))
dismissed_comes graph op (copy at low) = copy at low

-- a copy that may be dismissed

dismissed_copy : (n u : ℕ) (op : Op) → (u < n) ⊎ IsCopyOf n (TracePlain op) u → (u < n) ⊎ IsCopyOf n (TracePlain (dismissed op)) u
dismissed_copy n u (Load v a p d) (inl l) = inl l
dismissed_copy n u (Load v a p d) (inr c) = absurd (let e : TracePlain (Load v a p d) ≡ TracePlain (Across u c.value) = c.is in cc)
dismissed_copy n u op h = h

-- after a region

module _ (machine : Numbers) (graph : Graph) (m : MixedGraph) (t : Trace) (k : Clusters) (words : List ℕ) (works : IsMachine machine) (valid : Valid m) (G : IsGraphOf machine graph m) (can : CanTrace m k.clustered.trace.blocks) (is : IsTraceOf m k.clustered.trace.blocks t)
    (A : Assigned machine t m.homes k) (S : AllStand machine t m.homes k) (F : ClusteredFits m (last_of k.clustered.trace.blocks) (exit_in (slice_get m.nodes (last_of k.clustered.trace.blocks))) t k.clustered) where
  abbrev C : Clustered
  C = k.clustered

  abbrev R : Replacement
  R = replacement_of machine k.homes (placed_in C words) (at_splits_of (placed_in C words)) (at_joins_of (placed_in C words))

  abbrev New : MixedGraph
  New = next_mixed m R

  abbrev To : ℕ → ℕ → ℕ
  To = new_end m R.made

  origin_comes : (i : ℕ) (op : Op) → slice_get C.trace.ops i ≡ Some (TracePlain op) → ComesFrom graph op
  origin_comes = op_comes machine graph m C.trace.blocks t k works valid G can is A S

  comes_from : (op : Op) (cluster : ℕ) → Comes C op cluster → ComesFrom graph op
  comes_from op cluster c = by c.is
    where
      there : ComesFrom graph c.origin
      there = origin_comes c.place c.origin c.at

      by : (op ≡ c.origin) ⊎ (op ≡ dismissed c.origin) → ComesFrom graph op
      by (inl e) = subst (ComesFrom graph) (sym e) there
      by (inr e) = subst (ComesFrom graph) (sym e) (dismissed_comes graph c.origin there)

  named_comes : (op : Op) → IsNamed R op → ComesFrom graph op
  named_comes op (in_trace h) = let c = traced machine graph m t k words works valid G can is A S F op h in comes_from op c.0 c.1
  named_comes op (in_made x h i) = let c = op_of_made machine graph m t k words works valid G can is A S F x op h i in comes_from op c.0 c.1

  copies_of : (op : Op) (cluster : ℕ) → Comes C op cluster → (u : ℕ) → IsIn u (writes op) → (u < length m.banks) ⊎ IsCopyOf (length m.banks) (TracePlain op) u
  copies_of op cluster c u h = by c.is
    where
      there : IsIn u (writes c.origin) → (u < length m.banks) ⊎ IsCopyOf (length m.banks) (TracePlain c.origin) u
      there i = subst (λ n. (u < n) ⊎ IsCopyOf n (TracePlain c.origin) u) is.values (F.writes (TracePlain c.origin) u (comes_has C op cluster c) i)

      by : (op ≡ c.origin) ⊎ (op ≡ dismissed c.origin) → (u < length m.banks) ⊎ IsCopyOf (length m.banks) (TracePlain op) u
      by (inl e) = subst (λ o. (u < length m.banks) ⊎ IsCopyOf (length m.banks) (TracePlain o) u) (sym e) (there (subst (λ o. IsIn u (writes o)) e h))
      by (inr e) = subst (λ o. (u < length m.banks) ⊎ IsCopyOf (length m.banks) (TracePlain o) u) (sym e) (dismissed_copy (length m.banks) u c.origin (there (subst (IsIn u) (ap writes e ∙ writes_dismissed c.origin) h)))

  still_at_home : (op : TraceOp) (cluster : ℕ) → IsAtHome (has_home m.homes.clusters) op cluster → IsAtHome (has_home k.homes.clusters) op cluster
  still_at_home op cluster h = record {
    reads = λ v no i. S.homes_stay v cluster (h.reads v no i);
    writes = λ v i. S.homes_stay v cluster (h.writes v i);
    bound = h.bound;
  }

  module _ (c : Compensated (latency_of_op machine) m R) (first : ℕ) (others : List ℕ) (are : C.trace.blocks ≡ first ∷ others) where
    fits : CanReplace m R
    fits = can_replace machine graph m t k words works valid G can is A S F c

    -- an operation of the new graph was one, or comes from the trace
    kinds : (op : Op) → IsOp New op → IsOp m op ⊎ ((cluster : ℕ) × Comes C op cluster)
    kinds op (block_op b x at i) = by (new_block m R valid (linkable fits) first others are b x at)
      where
        by : OldBlock m R valid (linkable fits) first others are b x ⊎ MadeBlock m R valid (linkable fits) first others are b x → IsOp m op ⊎ ((cluster : ℕ) × Comes C op cluster)
        by (inl y) = inl (block_op b y.block y.at (subst (λ (z : Block). IsIn op z.ops) y.is i))
        by (inr y) = inr (op_of_made machine graph m t k words works valid G can is A S F y.item op (index_in R.made y.index y.item y.has) (subst (λ (z : Block). IsIn op z.ops) y.is i))
    kinds op (region_op q j cluster g word at there i) = elim (of_regions (λ g. renamed_region To g) m.regions (new_region m R) g q at) [
      | inl o ↦
          (let w = old_word (map (rename To)) o.0.words j word (ap (λ z. slice_get z.words j) (sym o.2) ∙ there) in
          inl (region_op q j cluster o.0 w.0 o.1 w.1 (old_op To w.0 op cluster (subst (λ z. IsIn (Plain op cluster) z) w.2 i))))
      | inr n ↦ inr (cluster, in_region machine graph m t k words works valid G can is A S F c j cluster op word (ap (λ z. slice_get z.words j) (sym n) ∙ there) i)
    ]

    -- what was made keeps its cluster
    made_still : (b i cluster : ℕ) (block : Block) (origin : Origin) (op : Op) → slice_get New.nodes b ≡ Some (Unused block) → slice_get New.origins b ≡ Some (Some origin) → slice_get block.ops i ≡ Some op → slice_get origin.clusters i ≡ Some cluster →
        IsAtHome (has_home k.homes.clusters) (TracePlain op) cluster × (cluster < machine.clusters)
    made_still b i cluster block origin op at o at_op at_cluster = by (new_block m R valid (linkable fits) first others are b block at)
      where
        by : OldBlock m R valid (linkable fits) first others are b block ⊎ MadeBlock m R valid (linkable fits) first others are b block → IsAtHome (has_home k.homes.clusters) (TracePlain op) cluster × (cluster < machine.clusters)
        by (inl y) =
            let low = index_low m.nodes b (Unused y.block) y.at in
            let many = valid.origins in
            let was = G.on.made b i cluster y.block origin op y.at (sym (origin_old m R b (omega (arith, low, many))) ∙ o) (ap (λ (z : Block). slice_get z.ops i) (sym y.is) ∙ at_op) at_cluster in
            (still_at_home (TracePlain op) cluster was.0, was.1)
        by (inr y) =
            let s : Some (made_origin C.trace.ops y.item) ≡ Some (Some origin) = sym (origin_made m R y.index y.item valid.origins y.has) ∙ ap (slice_get New.origins) (sym y.number) ∙ o in
            let same : y.item.clusters ≡ origin.clusters = cc in
            let from = made_comes machine graph m t k words works valid G can is A S F y.item (index_in R.made y.index y.item y.has) in
            let x : Comes C op cluster = from.copied.each i cluster op (ap (λ (z : Block). slice_get z.ops i) (sym y.is) ∙ at_op) (ap (λ z. slice_get z i) same ∙ at_cluster) in
            (made_at_home machine graph m t k words works valid G can is A S F op cluster x, made_there machine graph m t k words works valid G can is A S F op cluster x)

    pub on_machine : Tidy New → OnMachine machine New
    on_machine tidy = record {
      homes = S.homes_there;
      copies_at_home = copied machine graph m t k words works valid G can is A S F;
      bound = λ op v h e. elim (kinds op h) [
        | inl o ↦ S.homes_stay v 0 (G.on.bound op v o e)
        | inr x ↦ (made_stands machine graph m t k words works valid G can is A S F op x.0 x.1 New refl refl).bound v e
      ];
      values = λ op v h i. elim (kinds op h) [ inl o ↦ G.on.values op v o i | inr x ↦ made_below machine graph m t k words works valid G can is A S F op x.0 x.1 v i ];
      copies = λ op u h i. elim (kinds op h) [ inl o ↦ G.on.copies op u o i | inr x ↦ copies_of op x.0 x.1 u i ];
      copied_away = λ op v h i le. elim (kinds op h) [
        | inl o ↦ still_away m.banks m.homes.clusters k.homes.clusters v S.homes_stay (G.on.copied_away op v o i le)
        | inr x ↦ made_copies_away machine graph m t k words works valid G can is A S F op x.0 x.1 v i le
      ];
      tidy = tidy;
      made = made_still;
      facts = made_stays m R valid fits G.on.facts;
    }

    pub brief_drains : DrainsBriefly R
    brief_drains = record {
      splits = mapped_low (λ (x : EdgeCopies). drain_at machine (placed_in C words) (word_at words x.split + 1)) most_drain (λ x. drain_low machine works (placed_in C words) (word_at words x.split + 1)) (at_splits_of (placed_in C words));
      last = drain_low machine works (placed_in C words) R.length;
    }

pub record StepsOn (machine : Numbers) (graph : Graph) (m m' : MixedGraph) (r : Replacement) : Type 0 where
  pub keeps : Keeps (latency_of_op machine) m r
  pub becomes : Becomes (latency_of_op machine) m m'
  pub is : IsGraphOf machine graph m'

module _ (law : AssignedStands) where
  in_time : (machine : Numbers) (graph : Graph) (m : MixedGraph) → IsGraphOf machine graph m → (q : ℕ) (g : Region) → slice_get m.regions q ≡ Some g → InTime (latency_of_op machine) g
  in_time machine graph m G q g at = G.settled.times q g at

  pub plan_keeps : PlanKeeps
  plan_keeps graph m blocks machine mode r valid can G p =
      let x = parts_of law machine graph m blocks mode r valid can G p in
      let same : r.homes ≡ x.clusters.homes = ap (λ (z : Replacement). z.homes) x.is in
      compensation_law (latency_of_op machine) m r valid (in_time machine graph m G) (λ v c h. ap (λ (z : Homes). slice_index_or z.clusters v None) same ∙ x.knows.stand.homes_stay v c h) (plan_law law graph m blocks machine mode r valid can G p)

  pub region_keeps : CodeStays → BriefStays → (machine : Numbers) (graph : Graph) (m : MixedGraph) (blocks : List ℕ) (mode : Mode) (r : Replacement) → Valid m → CanTrace m blocks → IsGraphOf machine graph m → Planned m blocks machine mode r → StepsOn machine graph m (next_mixed m r) r
  region_keeps code_stays brief_stays machine graph m blocks mode r valid can G p =
      let x = parts_of law machine graph m blocks mode r valid can G p in
      let R' = replacement_of machine x.clusters.homes (placed_in x.clusters.clustered x.words) (at_splits_of (placed_in x.clusters.clustered x.words)) (at_joins_of (placed_in x.clusters.clustered x.words)) in
      let planned : Planned m blocks machine mode R' = subst (Planned m blocks machine mode) x.is p in
      let fit : FitsIn machine m R' = plans_fit law graph m blocks machine mode R' valid can G planned in
      let keeps : Keeps (latency_of_op machine) m R' = plan_keeps graph m blocks machine mode R' valid can G planned in
      let b = some_blocks x.clusters.clustered.trace.blocks x.knows.can.some in
      let on : OnMachine machine (next_mixed m R') = on_machine machine graph m x.trace x.clusters x.words x.works valid G x.knows.can x.knows.is x.assigned x.knows.stand x.knows.fits x.compensated b.0 b.1 b.2 (keeps.tidy G.on.tidy) in
      let brief : DrainsBriefly R' = brief_drains machine graph m x.trace x.clusters x.words x.works valid G x.knows.can x.knows.is x.assigned x.knows.stand x.knows.fits x.compensated b.0 b.1 b.2 in
      let after : IsGraphOf machine graph (next_mixed m R') = record {
        sound = G.sound;
        code = code_stays graph m R' valid fit.can (named_comes machine graph m x.trace x.clusters x.words x.works valid G x.knows.can x.knows.is x.assigned x.knows.stand x.knows.fits) G.code;
        on = on;
        settled = keeps.settled (room_in machine) (is_room machine) G.settled fit.stand;
        brief = brief_stays m R' G.brief brief;
        headed = stays_headed m R' valid fit.can G.headed;
      } in
      subst (λ z. StepsOn machine graph m (next_mixed m z) z) (sym x.is) (record { keeps = keeps; becomes = Changes refl refl (meet_old R') (meet_new m R') (pairs m R') keeps.meaning; is = after })
