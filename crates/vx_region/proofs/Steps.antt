-- A picked trace as a region, one after the other: what is known of the graph after each step, and of all steps.
use Rattle.std.proofs.Common.{◌≡◌, ◌≢◌, ℕ, ◌+◌, ◌≤◌, true, List, [], ◌∷◌, ◌++◌, length, map, refl, sym, ap, ◌∙◌, subst, arith}
use Rattle.std.proofs.lemmas.List.{append_assoc, append-nil, length-append}
use Rattle.vx_flow.specs.declared.graph.Block.{Block}
use Rattle.vx_flow.specs.declared.graph.Graph.{Graph}
use Rattle.vx_flow.specs.declared.trace.Trace.{Trace}
use Rattle.vx_isa.specs.Numbers.{Numbers, is_machine}
use Rattle.vx_room.specs.Items.{latency_of_op}
use Rattle.vx_mixed.specs.declared.mixed.MixedGraph.{MixedGraph}
use Rattle.vx_mixed.specs.declared.replacement.Replacement.{Replacement}
use Rattle.vx_mixed.specs.CanReplace.{CanReplace}
use Rattle.vx_motion.specs.Context.{Becomes, Stays, Goes}
use Rattle.vx_mixed.specs.Layout.{IsDone}
use Rattle.vx_mixed.specs.Next.{made_node, nodes_from, next_mixed}
use Rattle.vx_motion.specs.Scheduled.{Keeps}
use Rattle.vx_mixed.specs.TraceOf.{CanTrace, IsTraceOf, EndsWithCall, block_or_none}
use Rattle.vx_mixed.specs.Valid.{Valid}
use Rattle.vx_layout.proofs.CodeStays.{code_stays}
use Rattle.vx_mixed.proofs.NewNodes.{nodes_length}
use Rattle.vx_layout.proofs.StayBrief.{brief_stays}
use Rattle.vx_mixed.proofs.StaysValid.{stays_valid}
use Rattle.vx_bug.specs.declared.clusters.Clusters.{Clusters}
use Rattle.vx_bug.specs.Assigned.{Assigned}
use Rattle.vx_region.specs.AtHome.{AssignedStands}
use Rattle.vx_profile.specs.declared.counts.Counts.{Counts}
use Rattle.vx_trace.specs.Picked.{Picked, count_of_block}
use Rattle.vx_motion.specs.Paths.{IsHeaded}
use Rattle.vx_motion.proofs.Tracing.{paths_can_be_traced}
use Rattle.vx_region.specs.declared.placed_trace.PlacedTrace.{PlacedTrace}
use Rattle.vx_region.specs.declared.step.Next.{Next as NextOf}
use Rattle.vx_region.specs.declared.step.OnClusters.{OnClusters}
use Rattle.vx_region.specs.declared.trace_plan.TracePlan.{TracePlan}
use Rattle.vx_region.specs.Planned.{Planned}
use Rattle.vx_region.specs.Owed.{IsPlacedWithin}
use Rattle.vx_region.specs.Regions.{IsGraphOf, FitsIn, ReplacesOne, ReplacesAll, Finished, Next, AllKeep, StepKeeps, replacement_by}
use Rattle.vx_region.specs.Stepping.{IsNext, IsNextBy, IsOnClusters, Stepped}
use Rattle.vx_region.proofs.OneStep.{region_keeps, StepsOn}
use Rattle.vx_region.proofs.PlanFits.{made_by, planned_by, replaced_by}
use Rattle.vx_region.proofs.PlansFit.{plans_fit}

-- picked blocks can be traced

not_empty : (before after : List ℕ) (seed : ℕ) → before ++ seed ∷ after ≢ []
not_empty [] after seed e = cc (e)
not_empty (b ∷ before) after seed e = cc (e)

pub picked_can : (m : MixedGraph) (counts : Counts) (t : List ℕ) → Valid m → IsHeaded m → Picked m counts t → CanTrace m t
picked_can m counts t valid headed picked = paths_can_be_traced m t valid headed (record {
  some = λ e. not_empty picked.before picked.after picked.seed (sym picked.parts ∙ e);
  unused = picked.path.unused;
  once = picked.path.once;
  follow = λ e h. (picked.path.out e h).is.0;
  enters = λ e h there. picked.keeps_on.no_header e h there;
  no_call = λ e block h at ends. picked.keeps_on.no_call e h (subst (λ (z : Block). EndsWithCall z.exit) (sym (ap block_or_none at)) ends);
})

-- after a step

pub more_nodes : (m : MixedGraph) (r : Replacement) → length m.nodes ≤ length (next_mixed m r).nodes
more_nodes m r =
    let both : length (nodes_from m r 0 m.nodes ++ map made_node r.made) ≡ length (nodes_from m r 0 m.nodes) + length (map made_node r.made) = length-append (nodes_from m r 0 m.nodes) (map made_node r.made) in
    let old : length (nodes_from m r 0 m.nodes) ≡ length m.nodes = nodes_length m r 0 m.nodes in
    omega (arith, both, old)

pub record After (machine : Numbers) (graph : Graph) (m m' : MixedGraph) (r : Replacement) : Type 0 where
  pub can_trace : CanTrace m r.trace.blocks
  pub can : CanReplace m r
  pub keeps : Keeps (latency_of_op machine) m r
  pub becomes : Becomes (latency_of_op machine) m m'
  pub is : IsGraphOf machine graph m'
  pub valid : Valid m'
  pub many : length m.nodes ≤ length m'.nodes

pub after_one : AssignedStands → (machine : Numbers) (counts : Counts) (cap used used' : ℕ) (graph : Graph) (m m' : MixedGraph) (plan : TracePlan) → Valid m → IsGraphOf machine graph m → (x : ReplacesOne machine counts cap m used plan m' used') → After machine graph m m' (replacement_by machine x.clusters.homes plan.placed)
after_one law machine counts cap used used' graph m m' plan valid G x =
    let r : Replacement = replacement_by machine x.clusters.homes plan.placed in
    let can : CanTrace m plan.blocks = picked_can m counts plan.blocks valid G.headed x.picked in
    let planned : Planned m plan.blocks machine plan.mode r = planned_by machine counts cap used used' m m' plan x in
    let fit : FitsIn machine m r = plans_fit law graph m plan.blocks machine plan.mode r valid can G planned in
    let on : StepsOn machine graph m (next_mixed m r) r = region_keeps law code_stays brief_stays machine graph m plan.blocks plan.mode r valid can G planned in
    let here : plan.blocks ≡ r.trace.blocks = sym (ap (λ z. z.trace.blocks) x.placed.clustered ∙ ap (λ z. z.trace.blocks) x.assigned.clustered ∙ x.is_trace.blocks_are) in
    let many : length m.nodes ≤ length (next_mixed m r).nodes = more_nodes m r in
    record {
      can_trace = subst (CanTrace m) here can;
      can = fit.can;
      keeps = on.keeps;
      becomes = subst (Becomes (latency_of_op machine) m) (sym x.next) on.becomes;
      is = subst (IsGraphOf machine graph) (sym x.next) on.is;
      valid = subst Valid (sym x.next) (stays_valid m r valid fit.can);
      many = subst (λ (z : MixedGraph). length m.nodes ≤ length z.nodes) (sym x.next) many;
    }

pub step_keeps : AssignedStands → StepKeeps
step_keeps law machine counts cap used used' graph m m' plan valid G x = let a = after_one law machine counts cap used used' graph m m' plan valid G x in (a.keeps, a.becomes, a.is)

-- one step after the other

pub all_keep : AssignedStands → AllKeep
all_keep law machine counts cap used used' graph m m' plans valid G (Finished done) = record { done = done; steps = Stays; is = G; many = omega arith }
all_keep law machine counts cap used used' graph m m' plans valid G (Next {n = n} {more = more} {plan = plan} {plans = rest} one others) =
    let a = after_one law machine counts cap used more graph m n plan valid G one in
    let all = all_keep law machine counts cap more used' graph n m' rest a.valid a.is others in
    let x = a.many in
    let y = all.many in
    record { done = all.done; steps = Goes a.becomes all.steps; is = all.is; many = omega (arith, x, y) }

module _ (machine : Numbers) (counts : Counts) (cap used : ℕ) (first : MixedGraph) where
  pub stepped_start : (graph : Graph) → Valid first → IsGraphOf machine graph first → Stepped machine counts cap first used [] first used
  stepped_start graph valid G = record { graph = graph; is = G; valid = valid; all = λ more last end all. all }

  pub stepped_more : AssignedStands → (m m' : MixedGraph) (now later : ℕ) (plans : List TracePlan) (plan : TracePlan) → Stepped machine counts cap first used plans m now → ReplacesOne machine counts cap m now plan m' later → Stepped machine counts cap first used (plans ++ plan ∷ []) m' later
  stepped_more law m m' now later plans plan s one =
      let a = after_one law machine counts cap now later s.graph m m' plan s.valid s.is one in
      record {
        graph = s.graph;
        is = a.is;
        valid = a.valid;
        all = λ more last end all. subst (λ z. ReplacesAll machine counts cap first used z last end) (sym (append_assoc plans (plan ∷ []) more)) (s.all (plan ∷ more) last end (Next one all));
      }

  pub stepped_all : (m : MixedGraph) (now : ℕ) (plans : List TracePlan) → Stepped machine counts cap first used plans m now → IsDone m → ReplacesAll machine counts cap first used plans m now
  stepped_all m now plans s done = subst (λ z. ReplacesAll machine counts cap first used z m now) (append-nil plans) (s.all [] m now (Finished done))

-- what a step is made of

pub is_next : AssignedStands → (machine : Numbers) (counts : Counts) (cap used : ℕ) (graph : Graph) (m : MixedGraph) (blocks : List ℕ) (count : ℕ) (t : Trace) (k : Clusters) (x : PlacedTrace) (next : NextOf) → is_machine machine ≡ true → Valid m → IsGraphOf machine graph m → (picked : Picked m counts blocks) → count ≡ count_of_block m counts picked.seed →
    IsTraceOf m blocks t → Assigned machine t m.homes k → IsPlacedWithin k.clustered machine k.homes cap used x → IsNextBy m.function blocks count k.homes x next → IsNext machine counts cap m used next
is_next law machine counts cap used graph m blocks count t k x next one valid G picked count_is is assigned w by =
    let R : Replacement = made_by k.homes x.placed x.owed in
    let P : TracePlan = record { function = m.function; blocks = blocks; count = count; mode = x.mode; placed = x.placed; splits = x.owed.splits; rejoins = x.owed.rejoins } in
    let same : R ≡ replacement_by machine k.homes x.placed = replaced_by machine k.homes x.placed x.owed w.owed in
    let step : ReplacesOne machine counts cap m used P (next_mixed m R) x.used = record {
      is_a_machine = one;
      function = refl;
      picked = picked;
      count = count_is;
      trace = t;
      is_trace = is;
      clusters = k;
      assigned = assigned;
      mode = w.mode;
      placed = w.placed;
      splits = w.owed.splits;
      rejoins = w.owed.rejoins;
      next = ap (next_mixed m) same;
      rises = w.rises;
    } in
    let can : CanReplace m (replacement_by machine k.homes x.placed) = (after_one law machine counts cap used x.used graph m (next_mixed m R) P valid G step).can in
    record {
      can = subst (CanReplace m) (sym same ∙ sym by.replacement) can;
      one = subst (λ z. ReplacesOne machine counts cap m used z (next_mixed m next.replacement) next.used) (sym by.plan)
          (subst (λ z. ReplacesOne machine counts cap m used P (next_mixed m z) next.used) (sym by.replacement)
          (subst (λ n. ReplacesOne machine counts cap m used P (next_mixed m R) n) (sym by.used) step));
    }

pub is_next_on : AssignedStands → (machine : Numbers) (counts : Counts) (cap used : ℕ) (graph : Graph) (m : MixedGraph) (blocks : List ℕ) (count : ℕ) (on : OnClusters) (x : PlacedTrace) (next : NextOf) → is_machine machine ≡ true → Valid m → IsGraphOf machine graph m → (picked : Picked m counts blocks) → count ≡ count_of_block m counts picked.seed →
    IsOnClusters machine m blocks on → IsPlacedWithin on.clustered machine on.homes cap used x → IsNextBy m.function blocks count on.homes x next → IsNext machine counts cap m used next
is_next_on law machine counts cap used graph m blocks count on x next one valid G picked count_is h w by =
    is_next law machine counts cap used graph m blocks count h.trace h.clusters x next one valid G picked count_is h.is_trace h.assigned
    (subst (λ z. IsPlacedWithin h.clusters.clustered machine z cap used x) h.homes_is (subst (λ z. IsPlacedWithin z machine on.homes cap used x) h.clustered_is w))
    (subst (λ z. IsNextBy m.function blocks count z x next) h.homes_is by)
