-- The measure of a step falls.
use Rattle.std.proofs.Common.{◌≡◌, ◌⊎◌, inl, inr, ℕ, zero, suc, ◌+◌, ◌-◌, ◌*◌, ◌<◌, ◌≤◌, Bool, true, false, Option, Some, None, List, [], ◌∷◌, ◌++◌, length, map, slice_get, refl, sym, ap, ◌∙◌, subst, arith}
use Rattle.std.specs.Prelude.{◌==◌, if◌then◌else◌}
use Rattle.std.specs.List.{list_any}
use Rattle.std.proofs.lemmas.Bool.{eq-eqb}
use Rattle.std.proofs.lemmas.List.{length-append, length-map}
use Rattle.vx_flow.specs.declared.graph.Block.{Block}
use Rattle.vx_flow.specs.Effects.{IsIn}
use Rattle.vx_isa.specs.Numbers.{Numbers}
use Rattle.vx_mixed.specs.declared.region.Made.{Made}
use Rattle.vx_mixed.specs.declared.region.Node.{Node}
use Rattle.vx_mixed.specs.declared.region.Node.TheVariants.{Unused, Enters, Inner}
use Rattle.vx_mixed.specs.declared.mixed.MixedGraph.{MixedGraph}
use Rattle.vx_mixed.specs.declared.replacement.Replacement.{Replacement}
use Rattle.vx_mixed.specs.Next.{next_mixed, nodes_from, trace_node, made_node, entered_at, rejoin_at, renamed_node, new_end, renamed_region, new_region}
use Rattle.vx_mixed.proofs.NewNodes.{nodes_length}
use Rattle.vx_region.specs.AtHome.{AssignedStands}
use Rattle.vx_region.specs.RegionPlans.{IsPlaced}
use Rattle.vx_region.specs.Regions.{replacement_by}
use Rattle.vx_region.specs.Growth.{copies_of, made_blocks, HasMode}
use Rattle.vx_region.specs.Ending.{is_unused, unused_in, Grows, none, one_more, BlocksAreUsed, PlansGrow, MeasureFalls, CapIsKept, StepsEnd, EnoughSteps, NodesKeepWithin}
use Rattle.vx_region.proofs.Counts.{few_made}
use Rattle.vx_region.proofs.Steps.{after_one}
use Rattle.vx_region.proofs.Modes.{within_cap}

pub unused_append : (xs ys : List Node) → unused_in (xs ++ ys) ≡ unused_in xs + unused_in ys
unused_append [] ys = omega arith
unused_append (x ∷ xs) ys = let h = unused_append xs ys in omega (arith, h)

pub unused_made : (xs : List Made) → unused_in (map made_node xs) ≡ length xs
unused_made [] = refl
unused_made (x ∷ xs) = let h = unused_made xs in omega (arith, h)

module _ (m : MixedGraph) (r : Replacement) where
  To : ℕ → ℕ → ℕ
  To = new_end m r.made

  renamed_same : (to : ℕ → ℕ → ℕ) (b : ℕ) (node : Node) → is_unused (renamed_node to b node) ≤ is_unused node
  renamed_same to b (Unused block) = omega arith
  renamed_same to b (Enters g w) = omega arith
  renamed_same to b Inner = omega arith

  entered_none : (g : ℕ) (o : Option ℕ) → is_unused (entered_at g o) ≡ 0
  entered_none g None = refl
  entered_none g (Some w) = refl

  no_more : (blocks : List ℕ) (b : ℕ) (node : Node) → is_unused (trace_node m r blocks b node) ≤ is_unused node
  no_more [] b node = renamed_same (new_end m r.made) b node
  no_more (first ∷ others) b node = by (first == b) (list_any (λ c. c == b) others)
    where
      by : (x y : Bool) → is_unused (if x then Enters (length m.regions) 0 else if y then entered_at (length m.regions) (rejoin_at r.trace.joins r.rejoins b) else renamed_node (new_end m r.made) b node) ≤ is_unused node
      by true y = omega arith
      by false true = let e = entered_none (length m.regions) (rejoin_at r.trace.joins r.rejoins b) in omega (arith, e)
      by false false = renamed_same (new_end m r.made) b node

  first_used : (first : ℕ) (others : List ℕ) (b : ℕ) (node : Node) → first ≡ b → is_unused (trace_node m r (first ∷ others) b node) ≡ 0
  first_used first others b node e = ap (λ x. is_unused (if x then Enters (length m.regions) 0 else if list_any (λ c. c == b) others then entered_at (length m.regions) (rejoin_at r.trace.joins r.rejoins b) else renamed_node (new_end m r.made) b node)) (eq-eqb first b e)

  all_no_more : (b : ℕ) (nodes : List Node) → unused_in (nodes_from m r b nodes) ≤ unused_in nodes
  all_no_more b [] = omega arith
  all_no_more b (node ∷ nodes) = let h = no_more r.trace.blocks b node in let rest = all_no_more (b + 1) nodes in omega (arith, h, rest)

  module _ (first : ℕ) (others : List ℕ) (begins : r.trace.blocks ≡ first ∷ others) where
    one_less : (b i : ℕ) (nodes : List Node) (block : Block) → first ≡ b + i → slice_get nodes i ≡ Some (Unused block) → unused_in (nodes_from m r b nodes) < unused_in nodes
    one_less b i [] block at e = absurd (cc)
    one_less b zero (node ∷ nodes) block at e =
        let here : first ≡ b = omega (arith, at) in
        let gone : is_unused (trace_node m r r.trace.blocks b node) ≡ 0 = ap (λ bs. is_unused (trace_node m r bs b node)) begins ∙ first_used first others b node here in
        let node_is : node ≡ Unused block = cc in
        let one : is_unused node ≡ 1 = ap is_unused node_is in
        let rest = all_no_more (b + 1) nodes in
        omega (arith, gone, one, rest)
    one_less b (suc i) (node ∷ nodes) block at e =
        let h = no_more r.trace.blocks b node in
        let rest = one_less (b + 1) i nodes block (omega (arith, at)) e in
        omega (arith, h, rest)

pub blocks_are_used : BlocksAreUsed
blocks_are_used m r can = by r.trace.blocks refl
  where
    by : (bs : List ℕ) → r.trace.blocks ≡ bs → unused_in (next_mixed m r).nodes < unused_in m.nodes + length r.made
    by [] e = absurd (can.some e)
    by (first ∷ others) e =
        let u = can.unused first (subst (IsIn first) (sym e) (inl refl)) in
        let less : unused_in (nodes_from m r 0 m.nodes) < unused_in m.nodes = one_less m r first others e 0 first m.nodes u.0 (omega arith) u.1 in
        let parts : unused_in (nodes_from m r 0 m.nodes ++ map made_node r.made) ≡ unused_in (nodes_from m r 0 m.nodes) + unused_in (map made_node r.made) = unused_append (nodes_from m r 0 m.nodes) (map made_node r.made) in
        let made : unused_in (map made_node r.made) ≡ length r.made = unused_made r.made in
        omega (arith, less, parts, made)

pub plans_grow : AssignedStands → PlansGrow
plans_grow law machine counts cap used used' graph m m' plan valid G x =
    let p = plan.placed in
    let few : made_blocks p ≤ copies_of p = few_made p in
    let c : p.clustered ≡ x.clusters.clustered = x.placed.clustered in
    record {
      placed = p;
      homes = x.clusters.homes;
      mode = plan.mode;
      has_mode = subst (λ z. HasMode z machine x.clusters.homes cap used plan.mode) (sym c) x.mode;
      is_placed = subst (λ z. IsPlaced z machine x.clusters.homes plan.mode p) (sym c) x.placed;
      replacement = replacement_by machine x.clusters.homes p;
      can = (after_one law machine counts cap used used' graph m m' plan valid G x).can_trace;
      made = few;
      next = x.next;
      rises = x.rises;
    }

-- the numbers of a step
record Numbers_of (cap used used' before after : ℕ) : Type 0 where
  copies : ℕ
  rises : used' ≡ used + copies
  fewer : after < before + copies
  within : (copies ≡ 0) ⊎ (used + copies ≤ cap)

of_step : (machine : Numbers) (cap used used' : ℕ) (m m' : MixedGraph) → Grows machine cap m used m' used' → Numbers_of cap used used' (unused_in m.nodes) (unused_in m'.nodes)
of_step machine cap used used' m m' g = record {
  copies = copies_of g.placed;
  rises = g.rises;
  fewer =
      let l : unused_in (next_mixed m g.replacement).nodes < unused_in m.nodes + length g.replacement.made = blocks_are_used m g.replacement g.can in
      let e : unused_in m'.nodes ≡ unused_in (next_mixed m g.replacement).nodes = ap (λ (x : MixedGraph). unused_in x.nodes) g.next in
      let k : length g.replacement.made ≤ copies_of g.placed = g.made in
      omega (arith, l, e, k);
  within = within_cap g.placed machine g.homes cap used g.mode g.is_placed g.has_mode;
}

falls : (cap used used' before after : ℕ) → Numbers_of cap used used' before after → (after + (cap - used') < before + (cap - used)) × (after + 2 * (cap - used') < before + 2 * (cap - used))
falls cap used used' before after n = by n.within
  where
    by : (n.copies ≡ 0) ⊎ (used + n.copies ≤ cap) → (after + (cap - used') < before + (cap - used)) × (after + 2 * (cap - used') < before + 2 * (cap - used))
    by (inl e) = let r = n.rises in let f = n.fewer in (omega (arith, e, r, f), omega (arith, e, r, f))
    by (inr w) = let r = n.rises in let f = n.fewer in (omega (arith, w, r, f), omega (arith, w, r, f))

pub measure_falls : MeasureFalls
measure_falls machine cap used used' m m' g = falls cap used used' (unused_in m.nodes) (unused_in m'.nodes) (of_step machine cap used used' m m' g)

pub cap_is_kept : CapIsKept
cap_is_kept machine cap used used' m m' g low = by (of_step machine cap used used' m m' g)
  where
    by : Numbers_of cap used used' (unused_in m.nodes) (unused_in m'.nodes) → used' ≤ cap
    by n = elim n.within [ inl e ↦ (let r = n.rises in omega (arith, e, r, low)) | inr w ↦ (let r = n.rises in omega (arith, w, r)) ]

pub steps_end : StepsEnd
steps_end machine cap n used used' m m' none = omega arith
steps_end machine cap n used used'' m m'' (one_more {n = k} {used' = used'} {m' = m'} g more) =
    let f = (measure_falls machine cap used used' m m' g).0 in
    let rest = steps_end machine cap k used' used'' m' m'' more in
    omega (arith, f, rest)

unused_there : (nodes : List Node) (b : ℕ) (block : Block) → slice_get nodes b ≡ Some (Unused block) → 1 ≤ unused_in nodes
unused_there [] b block e = absurd (cc)
unused_there (node ∷ nodes) zero block e =
    let node_is : node ≡ Unused block = cc in
    let one : is_unused node ≡ 1 = ap is_unused node_is in
    omega (arith, one)
unused_there (node ∷ nodes) (suc b) block e = let h = unused_there nodes b block e in omega (arith, h)

pub enough_steps : EnoughSteps
enough_steps machine cap n used used' m m' steps le b block at =
    let most : n + unused_in m'.nodes + (cap - used') ≤ unused_in m.nodes + (cap - used) = steps_end machine cap n used used' m m' steps in
    let one : 1 ≤ unused_in m'.nodes = unused_there m'.nodes b block at in
    omega (arith, most, one, le)

-- the blocks and regions of a step
sizes : (machine : Numbers) (cap used used' : ℕ) (m m' : MixedGraph) → Grows machine cap m used m' used' → (length m'.nodes + used ≤ length m.nodes + used') × (length m'.regions ≡ length m.regions + 1)
sizes machine cap used used' m m' g =
    let r = g.replacement in
    let n : length m'.nodes ≡ length (nodes_from m r 0 m.nodes ++ map made_node r.made) = ap (λ (x : MixedGraph). length x.nodes) g.next in
    let parts : length (nodes_from m r 0 m.nodes ++ map made_node r.made) ≡ length (nodes_from m r 0 m.nodes) + length (map made_node r.made) = length-append (nodes_from m r 0 m.nodes) (map made_node r.made) in
    let old : length (nodes_from m r 0 m.nodes) ≡ length m.nodes = nodes_length m r 0 m.nodes in
    let made : length (map made_node r.made) ≡ length r.made = length-map r.made made_node in
    let k : length r.made ≤ copies_of g.placed = g.made in
    let rise : used' ≡ used + copies_of g.placed = g.rises in
    let gs : length m'.regions ≡ length (map (renamed_region (new_end m r.made)) m.regions ++ new_region m r ∷ []) = ap (λ (x : MixedGraph). length x.regions) g.next in
    let both : length (map (renamed_region (new_end m r.made)) m.regions ++ new_region m r ∷ []) ≡ length (map (renamed_region (new_end m r.made)) m.regions) + 1 = length-append (map (renamed_region (new_end m r.made)) m.regions) (new_region m r ∷ []) in
    let same : length (map (renamed_region (new_end m r.made)) m.regions) ≡ length m.regions = length-map m.regions (renamed_region (new_end m r.made)) in
    (omega (arith, n, parts, old, made, k, rise), omega (arith, gs, both, same))

pub nodes_keep_within : NodesKeepWithin
nodes_keep_within machine cap n used used' m m' none = (omega arith, omega arith)
nodes_keep_within machine cap n used used'' m m'' (one_more {n = k} {used' = used'} {m' = m'} g more) =
    let h = sizes machine cap used used' m m' g in
    let rest = nodes_keep_within machine cap k used' used'' m' m'' more in
    let a = h.0 in
    let b = rest.0 in
    let c = h.1 in
    let d = rest.1 in
    (omega (arith, a, b), omega (arith, c, d))
