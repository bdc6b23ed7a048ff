-- A trace of such a graph keeps the conditions of the assignment of clusters.
use Rattle.std.proofs.Common.{◌≡◌, inl, inr, refl, sym, ◌∙◌, ap, subst, arith, Bool, true, false, ℕ, zero, suc, ◌+◌, ◌*◌, ◌^◌, ◌<◌, ◌≤◌, Option, Some, None, List, [], ◌∷◌, ◌++◌, length, map, slice_get, slice_index_or}
use Rattle.std.specs.Prelude.{◌==◌, if◌then◌else◌}
use Rattle.vx_flow.specs.declared.graph.Block.{Block}
use Rattle.vx_flow.specs.declared.graph.Exit.{Exit}
use Rattle.vx_flow.specs.declared.graph.Exit.TheVariants.{Goto, Split as Branches, Call, Return, Ends}
use Rattle.vx_flow.specs.declared.graph.Graph.{Graph}
use Rattle.vx_flow.specs.declared.graph.Op.{Op}
use Rattle.vx_flow.specs.declared.graph.Op.TheVariants.{Select, More, Input, Across}
use Rattle.vx_flow.specs.declared.trace.TraceOp.{TraceOp}
use Rattle.vx_flow.specs.declared.trace.TraceOp.TheVariants.{Plain as TracePlain, Split as TraceSplit}
use Rattle.vx_flow.specs.declared.trace.Join.{Join}
use Rattle.vx_flow.specs.declared.trace.Trace.{Trace}
use Rattle.vx_flow.specs.Effects.{IsIn}
use Rattle.vx_flow.specs.Live.{reads_of_exit}
use Rattle.vx_flow.specs.Sound.{results_of_exit}
use Rattle.vx_flow.specs.Walk.{edge}
use Rattle.vx_flow.specs.Operands.{binds}
use Rattle.vx_flow.proofs.Members.{in_left, in_right}
use Rattle.vx_isa.specs.Numbers.{Numbers}
use Rattle.vx_mixed.specs.declared.region.Origin.{Origin}
use Rattle.vx_mixed.specs.declared.region.Node.TheVariants.{Unused}
use Rattle.vx_mixed.specs.declared.mixed.MixedGraph.{MixedGraph}
use Rattle.vx_mixed.specs.Settled.{has_home}
use Rattle.vx_mixed.specs.TraceOf.{CanTrace, IsTraceOf, block_at, block_or_none, split_between, split_behind, clusters_of}
use Rattle.vx_mixed.specs.Valid.{Valid}
use Rattle.vx_mixed.proofs.Linked.{index_in}
use Rattle.vx_dep.specs.Delays.{Stands, reads_of, writes_of}
use Rattle.vx_bug.specs.CanAssign.{IsFixed, IsFree, bound_writes, BoundAtHome, FixedAtHome, FixedReadsHere, ClustersAreThere, ValuesAreThere, CopiesHaveNumbers, IsWellFormed}
use Rattle.vx_region.specs.AtHome.{IsAtHome, AcrossOfValues}
use Rattle.vx_region.proofs.Tidied.{length_none, length_map}
use Rattle.vx_region.specs.Regions.{IsGraphOf}
use Rattle.vx_region.proofs.Formed.{fixed_many, up}
use Rattle.vx_region.proofs.BelowJoins.{Below, below_join}
use Rattle.vx_region.proofs.PlainItems.{some_at}
use Rattle.vx_region.proofs.PlanOps.{is_op}
use Rattle.vx_region.proofs.TracePlaces.{PlaceIn as PlacedIn, of_block, of_split, place_in, none_there}

-- what is bound to cluster 0 is what a choice writes, or what comes from the input
bound_is : (op : TraceOp) (v : ℕ) → IsIn v (bound_writes op) → (o : Op) × (op ≡ TracePlain o) × (binds o ≡ Some v)
bound_is (TracePlain (Select w p a b)) v (inl e) = (Select w p a b, refl, ap Some (sym e))
bound_is (TracePlain (Select w p a b)) v (inr h) = absurd h
bound_is (TracePlain (More w)) v (inl e) = (More w, refl, ap Some (sym e))
bound_is (TracePlain (More w)) v (inr h) = absurd h
bound_is (TracePlain (Input w)) v (inl e) = (Input w, refl, ap Some (sym e))
bound_is (TracePlain (Input w)) v (inr h) = absurd h
bound_is (TracePlain op) v h = absurd h
bound_is (TraceSplit p y e live) v h = absurd h

-- a list of clusters

some_cluster : (clusters : List ℕ) (j k : ℕ) → slice_index_or (map Some clusters) j None ≡ Some k → slice_get clusters j ≡ Some k
some_cluster [] j k e = absurd cc
some_cluster (c ∷ cs) zero k e = e
some_cluster (c ∷ cs) (suc j) k e = some_cluster cs j k e

some_there : (clusters : List ℕ) (j : ℕ) → j < length clusters → slice_index_or (map Some clusters) j None ≡ None → ⊥
some_there [] j l e = omega (arith, l)
some_there (c ∷ cs) zero l e = let h : Some c ≡ None = e in absurd cc
some_there (c ∷ cs) (suc j) l e = some_there cs j (omega (arith, l)) e

less_of : {A : Type 0} (xs : List A) (j : ℕ) (x : A) → slice_get xs j ≡ Some x → j < length xs
less_of [] j x e = absurd cc
less_of (y ∷ ys) zero x e = omega arith
less_of (y ∷ ys) (suc j) x e = let l = less_of ys j x e in omega (arith, l)

-- a split of a trace tests what the exit of its block does

split_reads : (live : ℕ → List ℕ) (b c : ℕ) (x : Exit) (op : TraceOp) → IsIn op (split_between live b x c) → (p : ℕ) × (y : ℕ) × (z : ℕ) × (x ≡ Branches p y z) × (reads_of op ≡ p ∷ []) × (writes_of op ≡ [])
split_reads live b c (Goto d) op h = absurd h
split_reads live b c (Call g args result next) op h = absurd h
split_reads live b c (Return x) op h = absurd h
split_reads live b c (Ends k) op h = absurd h
split_reads live b c (Branches p y z) op h = by (y == c) h
  where
    by : (t : Bool) → IsIn op (if t then TraceSplit p false (edge b z) (live z) ∷ [] else TraceSplit p true (edge b y) (live y) ∷ []) → (q : ℕ) × (u : ℕ) × (w : ℕ) × (Branches p y z ≡ Branches q u w) × (reads_of op ≡ q ∷ []) × (writes_of op ≡ [])
    by true (inl e) = (p, y, z, refl, ap reads_of e, ap writes_of e)
    by true (inr i) = absurd i
    by false (inl e) = (p, y, z, refl, ap reads_of e, ap writes_of e)
    by false (inr i) = absurd i

behind_reads : (live : ℕ → List ℕ) (b : ℕ) (x : Exit) (bs : List ℕ) (op : TraceOp) → IsIn op (split_behind live b x bs) → (p : ℕ) × (y : ℕ) × (z : ℕ) × (x ≡ Branches p y z) × (reads_of op ≡ p ∷ []) × (writes_of op ≡ [])
behind_reads live b x [] op h = absurd h
behind_reads live b x (c ∷ bs) op h = split_reads live b c x op h

-- joins by ascending place

ascending_far : (js : List Join) → ((i : ℕ) (j k : Join) → slice_get js i ≡ Some j → slice_get js (i + 1) ≡ Some k → j.place ≤ k.place) → (j n : ℕ) (above below : Join) → slice_get js j ≡ Some above → slice_get js (j + suc n) ≡ Some below → above.place ≤ below.place
ascending_far js step j zero above below a b = let e : j + suc zero ≡ j + 1 = omega arith in step j above below a (ap (slice_get js) (sym e) ∙ b)
ascending_far js step j (suc n) above below a b =
    let l = less_of js (j + suc (suc n)) below b in
    let mid = some_at js (j + suc n) (omega (arith, l)) in
    let e : j + suc (suc n) ≡ j + suc n + 1 = omega arith in
    let first : above.place ≤ mid.0.place = ascending_far js step j n above mid.0 a mid.1 in
    let second : mid.0.place ≤ below.place = step (j + suc n) mid.0 below mid.1 (ap (slice_get js) (sym e) ∙ b) in
    omega (arith, first, second)

module _ (machine : Numbers) (graph : Graph) (m : MixedGraph) (blocks : List ℕ) (t : Trace) (valid : Valid m) (G : IsGraphOf machine graph m) (can : CanTrace m blocks) (is : IsTraceOf m blocks t) where
  many : t.values ≡ length m.banks
  many = is.values

  block_is : (b : ℕ) → IsIn b blocks → (k : Block) × (slice_get m.nodes b ≡ Some (Unused k)) × (block_at m b ≡ k)
  block_is b h = let u = can.unused b h in (u.0, u.1, ap block_or_none u.1)

  origins_fit : (b : ℕ) (origin : Origin) → IsIn b blocks → slice_get m.origins b ≡ Some (Some origin) → length origin.clusters ≡ length (block_at m b).ops
  origins_fit b origin h at = let u = block_is b h in valid.clusters b u.0 origin u.1 at ∙ ap (λ (z : Block). length z.ops) (sym u.2)

  long : (b : ℕ) → IsIn b blocks → (o : Option (Option Origin)) → slice_get m.origins b ≡ o → length (clusters_of (length (block_at m b).ops) o) ≡ length (block_at m b).ops
  long b h None e = length_none (length (block_at m b).ops) None
  long b h (Some None) e = length_none (length (block_at m b).ops) None
  long b h (Some (Some origin)) e = length_map Some origin.clusters ∙ origins_fit b origin h e

  place : (i : ℕ) (op : TraceOp) → Stands t i op → PlacedIn m is.live blocks op (slice_index_or t.fixed i None)
  place i op at = subst (λ z. PlacedIn m is.live blocks op (slice_index_or z i None)) (sym is.fixed) (place_in m is.live blocks i op (λ b h. long b h (slice_get m.origins b) refl) (ap (λ z. slice_get z i) (sym is.ops) ∙ at))

  -- one that has its cluster

  pub record HasCluster (op : TraceOp) (cluster : ℕ) : Type 0 where
    pub at_home : IsAtHome (has_home m.homes.clusters) op cluster
    pub there : cluster < machine.clusters

  made_has : (b j : ℕ) (o : Op) (cluster : ℕ) → IsIn b blocks → slice_get (block_at m b).ops j ≡ Some o → (origin : Option (Option Origin)) → slice_get m.origins b ≡ origin → Some cluster ≡ slice_index_or (clusters_of (length (block_at m b).ops) origin) j None → HasCluster (TracePlain o) cluster
  made_has b j o cluster h at None e f = let z : Some cluster ≡ None = f ∙ none_there (length (block_at m b).ops) j in absurd cc
  made_has b j o cluster h at (Some None) e f = let z : Some cluster ≡ None = f ∙ none_there (length (block_at m b).ops) j in absurd cc
  made_has b j o cluster h at (Some (Some origin)) e f =
      let u = block_is b h in
      let x = G.on.made b j cluster u.0 origin o u.1 e (ap (λ (z : Block). slice_get z.ops j) (sym u.2) ∙ at) (some_cluster origin.clusters j cluster (sym f)) in
      record { at_home = x.0; there = x.1 }

  has_cluster : (i cluster : ℕ) (op : TraceOp) → Stands t i op → IsFixed t i cluster → HasCluster op cluster
  has_cluster i cluster op at fixed = by (place i op at)
    where
      by : PlacedIn m is.live blocks op (slice_index_or t.fixed i None) → HasCluster op cluster
      by (of_block b j o h q o_at f) = subst (λ z. HasCluster z cluster) (sym q) (made_has b j o cluster h o_at (slice_get m.origins b) refl (sym fixed ∙ f))
      by (of_split b bs h s f) = let z : Some cluster ≡ None = sym fixed ∙ f in absurd cc

  -- one that has none yet names values of the function's graph

  abbrev NamesBelow : TraceOp → Type 0
  NamesBelow op = (v : ℕ) → IsIn v (reads_of op ++ writes_of op) → v < length m.banks

  -- the block was not made
  not_made : (b : ℕ) (k : Block) → slice_get m.nodes b ≡ Some (Unused k) → (o : Option (Option Origin)) → slice_get m.origins b ≡ o → ((origin : Origin) → o ≡ Some (Some origin) → ⊥) → slice_get m.origins b ≡ Some None
  not_made b k at None e n = let l = less_of m.nodes b (Unused k) at in let q = valid.origins in let s = some_at m.origins b (omega (arith, l, q)) in let z : Some s.0 ≡ None = sym s.1 ∙ e in absurd cc
  not_made b k at (Some None) e n = e
  not_made b k at (Some (Some origin)) e n = absurd (n origin refl)

  block_names : (b j : ℕ) (o : Op) → IsIn b blocks → slice_get (block_at m b).ops j ≡ Some o → None ≡ slice_index_or (clusters_of (length (block_at m b).ops) (slice_get m.origins b)) j None → NamesBelow (TracePlain o)
  block_names b j o h at f v i =
      let u = block_is b h in
      valid.names b v u.0 u.1 (not_made b u.0 u.1 (slice_get m.origins b) refl none) (inl (o, subst (λ (z : Block). IsIn o z.ops) u.2 (index_in (block_at m b).ops j o at), i))
    where
      none : (origin : Origin) → slice_get m.origins b ≡ Some (Some origin) → ⊥
      none origin e = some_there origin.clusters j (let l = less_of (block_at m b).ops j o at in let q = origins_fit b origin h e in omega (arith, l, q)) (ap (λ z. slice_index_or (clusters_of (length (block_at m b).ops) z) j None) (sym e) ∙ sym f)

  split_names : (b : ℕ) (bs : List ℕ) (op : TraceOp) → IsIn b blocks → IsIn op (split_behind is.live b (block_at m b).exit bs) → NamesBelow op
  split_names b bs op h s v i =
      let u = block_is b h in
      let r = behind_reads is.live b (block_at m b).exit bs op s in
      let exit : u.0.exit ≡ Branches r.0 r.1 r.2 = ap (λ (z : Block). z.exit) (sym u.2) ∙ r.3 in
      let named : IsIn v (reads_of_exit (Branches r.0 r.1 r.2) ++ results_of_exit (Branches r.0 r.1 r.2)) = subst (IsIn v) (ap (λ z. z ++ writes_of op) r.4 ∙ ap (λ z. (r.0 ∷ []) ++ z) r.5) i in
      valid.names b v u.0 u.1 (not_made b u.0 u.1 (slice_get m.origins b) refl (none u.0 u.1 r.0 r.1 r.2 exit)) (inr (subst (λ z. IsIn v (reads_of_exit z ++ results_of_exit z)) (sym exit) named))
    where
      none : (k : Block) → slice_get m.nodes b ≡ Some (Unused k) → (p y z : ℕ) → k.exit ≡ Branches p y z → (origin : Origin) → slice_get m.origins b ≡ Some (Some origin) → ⊥
      none k at p y z e origin o = let g = G.on.facts.goes b origin k o at in let q : Branches p y z ≡ Goto g.0 = sym e ∙ g.1 in cc

  pub names_below : (i : ℕ) (op : TraceOp) → Stands t i op → IsFree t i → NamesBelow op
  names_below i op at free = by (place i op at)
    where
      by : PlacedIn m is.live blocks op (slice_index_or t.fixed i None) → NamesBelow op
      by (of_block b j o h q o_at f) = subst NamesBelow (sym q) (block_names b j o h o_at (sym free ∙ f))
      by (of_split b bs h s f) = split_names b bs op h s

  -- the conditions

  pub bound_at_home : BoundAtHome t m.homes
  bound_at_home i op v at h =
      let b = bound_is op v h in
      G.on.bound b.0 v (is_op m blocks t can is b.0 (subst (λ z. IsIn z t.ops) b.1 (index_in t.ops i op at))) b.2

  pub fixed_at_home : FixedAtHome t m.homes
  fixed_at_home = record {
    result = λ i cluster op v at fixed h. (has_cluster i cluster op at fixed).at_home.writes v h;
    bound = λ i cluster op at fixed h. (has_cluster i cluster op at fixed).at_home.bound h;
  }

  pub fixed_reads_here : FixedReadsHere t m.homes
  fixed_reads_here i cluster op v at fixed own h = (has_cluster i cluster op at fixed).at_home.reads v own h

  pub each_fixed : length t.fixed ≡ length t.ops
  each_fixed = ap length is.fixed ∙ fixed_many m is.live blocks origins_fit ∙ ap length (sym is.ops)

  pub clusters_are_there : ClustersAreThere machine t m.homes
  clusters_are_there = record {
    fixed = λ i cluster fixed. by i cluster fixed;
    homes_there = G.on.homes;
  }
    where
      past : (xs : List (Option ℕ)) (i : ℕ) → length xs ≤ i → slice_index_or xs i None ≡ None
      past [] i l = refl
      past (x ∷ xs) zero l = absurd (omega (arith, l))
      past (x ∷ xs) (suc i) l = past xs i (omega (arith, l))

      by : (i cluster : ℕ) → IsFixed t i cluster → cluster < machine.clusters
      by i cluster fixed = there (slice_get t.ops i) refl
        where
          beyond : (xs : List TraceOp) (i : ℕ) → slice_get xs i ≡ None → length xs ≤ i
          beyond [] i e = omega arith
          beyond (x ∷ xs) zero e = let z : Some x ≡ None = e in absurd cc
          beyond (x ∷ xs) (suc i) e = let l = beyond xs i e in omega (arith, l)

          there : (o : Option TraceOp) → slice_get t.ops i ≡ o → cluster < machine.clusters
          there (Some op) e = (has_cluster i cluster op e fixed).there
          there None e =
              let l = beyond t.ops i e in
              let q = each_fixed in
              let z : None ≡ Some cluster = sym (past t.fixed i (omega (arith, l, q))) ∙ fixed in absurd cc

  pub values_are_there : ValuesAreThere t
  values_are_there = record {
    reads = λ i op v at free h. subst (λ n. v < n) (sym many) (names_below i op at free v (in_left v (reads_of op) (writes_of op) h));
    writes = λ i op v at free h. subst (λ n. v < n) (sym many) (names_below i op at free v (in_right v (reads_of op) (writes_of op) h));
  }

  pub across_of_values : AcrossOfValues t
  across_of_values i v u at = subst (λ n. u < n) (sym many) (valid.away v u (is_op m blocks t can is (Across v u) (index_in t.ops i (TracePlain (Across v u)) at))).0

  pub copies_have_numbers : CopiesHaveNumbers t
  copies_have_numbers = subst (λ n. 5 * n < 2 ^ 32) (sym many) valid.copies

  join_place : (j : Join) → IsIn j t.joins → j.place ≤ length t.ops
  join_place j h =
      let b : Below m is.live is.edges 0 blocks j = below_join m is.live is.edges blocks j can.once (subst (IsIn j) is.joins h) in
      let p = b.place_is in
      let w = b.within in
      let e = ap length is.ops in
      omega (arith, p, w, e)

  pub is_well_formed : IsWellFormed t
  is_well_formed = record {
    each_fixed = each_fixed;
    joins_ascend = λ j k above below lt a b. far j k above below lt a b;
    joins_within = join_place;
  }
    where
      step : (i : ℕ) (j k : Join) → slice_get t.joins i ≡ Some j → slice_get t.joins (i + 1) ≡ Some k → j.place ≤ k.place
      step i j k a b = up m is.live is.edges blocks i j k (ap (λ z. slice_get z i) (sym is.joins) ∙ a) (ap (λ z. slice_get z (i + 1)) (sym is.joins) ∙ b)

      gap : (j k : ℕ) → j < k → (n : ℕ) × (k ≡ j + suc n)
      gap zero (suc k) lt = (k, let e : suc k ≡ 0 + suc k = omega arith in e)
      gap zero zero lt = absurd (omega (arith, lt))
      gap (suc j) zero lt = absurd (omega (arith, lt))
      gap (suc j) (suc k) lt = let r = gap j k (omega (arith, lt)) in let q = r.1 in (r.0, let e : suc k ≡ suc j + suc r.0 = omega (arith, q) in e)

      far : (j k : ℕ) (above below : Join) → j < k → slice_get t.joins j ≡ Some above → slice_get t.joins k ≡ Some below → above.place ≤ below.place
      far j k above below lt a b = let g = gap j k lt in ascending_far t.joins step j g.0 above below a (ap (slice_get t.joins) (sym g.1) ∙ b)
