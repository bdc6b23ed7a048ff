-- The operations of a trace, of its region and of the blocks that are made for it: all come from its blocks.
use Rattle.std.proofs.Common.{◌≡◌, ◌⊎◌, inl, inr, ℕ, zero, suc, Bool, true, false, Option, Some, None, List, [], ◌∷◌, ◌++◌, length, map, drop, slice_get, slice_index_or, refl, sym, ap, ◌∙◌, subst}
use Rattle.std.specs.Prelude.{◌==◌, nat_le, if◌then◌else◌}
use Rattle.std.specs.List.{flat_map, list_any}
use Rattle.vx_flow.specs.declared.graph.Block.{Block}
use Rattle.vx_flow.specs.declared.graph.Edge.{Edge}
use Rattle.vx_flow.specs.declared.graph.Exit.{Exit}
use Rattle.vx_flow.specs.declared.graph.Exit.TheVariants.{Goto, Split as Branches, Call, Return, Ends}
use Rattle.vx_flow.specs.declared.graph.Op.{Op}
use Rattle.vx_flow.specs.declared.trace.TraceOp.{TraceOp}
use Rattle.vx_flow.specs.declared.trace.TraceOp.TheVariants.{Plain as TracePlain, Split as TraceSplit}
use Rattle.vx_flow.specs.declared.trace.Join.{Join}
use Rattle.vx_flow.specs.declared.trace.Clustered.{Clustered}
use Rattle.vx_flow.specs.declared.trace.Trace.{Trace}
use Rattle.vx_flow.specs.declared.trace.Placed.{Placed}
use Rattle.vx_flow.specs.Effects.{IsIn, dismissed}
use Rattle.vx_flow.specs.Walk.{edge}
use Rattle.vx_flow.proofs.Members.{in_either}
use Rattle.vx_mixed.specs.declared.region.Item.TheVariants.{Plain, Split}
use Rattle.vx_mixed.specs.declared.region.Made.{Made}
use Rattle.vx_mixed.specs.declared.region.Node.TheVariants.{Unused}
use Rattle.vx_mixed.specs.declared.mixed.MixedGraph.{MixedGraph}
use Rattle.vx_mixed.specs.Next.{InWord, freed, placed}
use Rattle.vx_mixed.specs.Settled.{bank_of}
use Rattle.vx_mixed.specs.TraceOf.{CanTrace, IsTraceOf, block_at, block_or_none, split_between, split_behind, block_ops, trace_ops}
use Rattle.vx_mixed.specs.Valid.{IsOp, block_op, TestsBranch}
use Rattle.vx_mixed.proofs.Linked.{index_in}
use Rattle.vx_dep.specs.declared.copies.EdgeCopies.{EdgeCopies}
use Rattle.vx_dep.specs.declared.copies.Rejoin.{Rejoin}
use Rattle.vx_dep.specs.Compensation.{is_freed}
use Rattle.vx_region.specs.Planned.{op_of, ops_at, cluster_of, clusters_at, dismissed_if, placed_at, made_of, made_at_splits, made_at_joins}
use Rattle.vx_region.proofs.InBlocks.{in_block}

pub record InFlat {A B : Type 0} (f : A → List B) (xs : List A) (y : B) : Type 0 where
  pub item : A
  pub has : IsIn item xs
  pub there : IsIn y (f item)

pub in_flat : {A B : Type 0} (f : A → List B) (xs : List A) (y : B) → IsIn y (flat_map f xs) → InFlat f xs y
in_flat f [] y h = absurd h
in_flat f (x ∷ xs) y h = by (in_either y (f x) (flat_map f xs) h) (in_flat f xs y)
  where
    by : IsIn y (f x) ⊎ IsIn y (flat_map f xs) → (IsIn y (flat_map f xs) → InFlat f xs y) → InFlat f (x ∷ xs) y
    by (inl i) more = record { item = x; has = inl refl; there = i }
    by (inr i) more = let r = more i in record { item = r.item; has = inr r.has; there = r.there }

-- the block of an operation of a trace

module _ (m : MixedGraph) (blocks : List ℕ) (t : Trace) (can : CanTrace m blocks) (is : IsTraceOf m blocks t) where
  pub record FromBlock (op : Op) : Type 0 where
    pub number : ℕ
    pub has : IsIn number blocks
    pub block : Block
    pub at : slice_get m.nodes number ≡ Some (Unused block)
    pub there : IsIn op block.ops

  pub from_block : (op : Op) → IsIn (TracePlain op) t.ops → FromBlock op
  from_block op h =
      let b = in_block m is.live op blocks (subst (IsIn (TracePlain op)) is.ops h) in
      let k = can.unused b.block b.has in
      record { number = b.block; has = b.has; block = k.0; at = k.1; there = subst (λ (z : Block). IsIn op z.ops) (ap block_or_none k.1) b.there }

  pub is_op : (op : Op) → IsIn (TracePlain op) t.ops → IsOp m op
  is_op op h = let b = from_block op h in block_op b.number b.block b.at b.there

-- the test of a split of a trace is that of an exit

module _ (m : MixedGraph) (live : ℕ → List ℕ) (p : ℕ) (y : Bool) (e : Edge) (l : List ℕ) where
  abbrev S : TraceOp
  S = TraceSplit p y e l

  no_plain : (ops : List Op) → IsIn S (map TracePlain ops) → ⊥
  no_plain [] h = h
  no_plain (op ∷ ops) (inl q) = cc
  no_plain (op ∷ ops) (inr h) = no_plain ops h

  between : (b c : ℕ) (x : Exit) → TestsBranch m x → IsIn S (split_between live b x c) → TestsBranch m (Branches p 0 0)
  between b c (Goto d) t h = absurd h
  between b c (Call g arguments result next) t h = absurd h
  between b c (Return x) t h = absurd h
  between b c (Ends k) t h = absurd h
  between b c (Branches q d f) t h = by (d == c) h
    where
      same : p ≡ q → TestsBranch m (Branches p 0 0)
      same r = ap (bank_of m) r ∙ t

      by : (z : Bool) → IsIn S (if z then TraceSplit q false (edge b f) (live f) ∷ [] else TraceSplit q true (edge b d) (live d) ∷ []) → TestsBranch m (Branches p 0 0)
      by true (inl r) = same (cc)
      by true (inr i) = absurd i
      by false (inl r) = same (cc)
      by false (inr i) = absurd i

  behind : (b : ℕ) (x : Exit) (bs : List ℕ) → TestsBranch m x → IsIn S (split_behind live b x bs) → TestsBranch m (Branches p 0 0)
  behind b x [] t h = absurd h
  behind b x (c ∷ bs) t h = between b c x t h

  pub tests_branch : (blocks : List ℕ) → ((b : ℕ) → IsIn b blocks → TestsBranch m (block_at m b).exit) → IsIn S (trace_ops m live blocks) → TestsBranch m (Branches p 0 0)
  tests_branch [] t h = absurd h
  tests_branch (b ∷ bs) t h = elim (in_either S (block_ops m live b bs) (trace_ops m live bs) h) [
    | inl i ↦ elim (in_either S (map TracePlain (block_at m b).ops) (split_behind live b (block_at m b).exit bs) i) [ inl k ↦ absurd (no_plain (block_at m b).ops k) | inr k ↦ behind b (block_at m b).exit bs (t b (inl refl)) k ]
    | inr i ↦ tests_branch bs (λ x k. t x (inr k)) i
  ]

-- what comes from an operation of a clustered trace, on its cluster; a load perhaps dismissible

pub record Comes (c : Clustered) (op : Op) (cluster : ℕ) : Type 0 where
  pub place : ℕ
  pub origin : Op
  pub at : slice_get c.trace.ops place ≡ Some (TracePlain origin)
  pub cluster_is : cluster ≡ slice_index_or c.clusters place 0
  pub is : (op ≡ origin) ⊎ (op ≡ dismissed origin)

pub comes_has : (c : Clustered) (op : Op) (cluster : ℕ) (x : Comes c op cluster) → IsIn (TracePlain x.origin) c.trace.ops
comes_has c op cluster x = index_in c.trace.ops x.place (TracePlain x.origin) x.at

comes_if : (c : Clustered) (b : Bool) (op o : Op) (place cluster : ℕ) → slice_get c.trace.ops place ≡ Some (TracePlain o) → cluster ≡ slice_index_or c.clusters place 0 → op ≡ dismissed_if b o → Comes c op cluster
comes_if c true op o place cluster at k e = record { place = place; origin = o; at = at; cluster_is = k; is = inr e }
comes_if c false op o place cluster at k e = record { place = place; origin = o; at = at; cluster_is = k; is = inl e }

-- in the region

pub record PlacedAt (ops : List TraceOp) (clusters : List ℕ) (op : Op) (cluster : ℕ) : Type 0 where
  pub place : ℕ
  pub origin : Op
  pub word : ℕ
  pub above : List ℕ
  pub at : slice_get ops place ≡ Some (TracePlain origin)
  pub cluster_is : cluster ≡ slice_index_or clusters place 0
  pub is : op ≡ freed word above origin

further : (o : TraceOp) (k : ℕ) (ops : List TraceOp) (clusters : List ℕ) (op : Op) (cluster : ℕ) → PlacedAt ops clusters op cluster → PlacedAt (o ∷ ops) (k ∷ clusters) op cluster
further o k ops clusters op cluster x = record { place = suc x.place; origin = x.origin; word = x.word; above = x.above; at = x.at; cluster_is = x.cluster_is; is = x.is }

pub placed_there : (to : ℕ → ℕ → ℕ) (ops : List TraceOp) (cs ws ds above : List ℕ) (x : InWord) (op : Op) (cluster : ℕ) → IsIn x (placed to ops cs ws ds above) → Plain op cluster ≡ x.item → PlacedAt ops cs op cluster
placed_there to [] cs ws ds above x op cluster h i = absurd h
placed_there to (o ∷ ops) [] ws ds above x op cluster h i = absurd h
placed_there to (o ∷ ops) (c ∷ cs) [] ds above x op cluster h i = absurd h
placed_there to (TracePlain o ∷ ops) (c ∷ cs) (w ∷ ws) ds above x op cluster (inl q) i =
    let z : Plain op cluster ≡ Plain (freed w above o) c = i ∙ ap (λ (k : InWord). k.item) q in
    let a : op ≡ freed w above o = cc in
    let b : cluster ≡ c = cc in
    record { place = 0; origin = o; word = w; above = above; at = refl; cluster_is = b; is = a }
placed_there to (TracePlain o ∷ ops) (c ∷ cs) (w ∷ ws) ds above x op cluster (inr h) i = further (TracePlain o) c ops cs op cluster (placed_there to ops cs ws ds above x op cluster h i)
placed_there to (TraceSplit q u f live ∷ ops) (c ∷ cs) (w ∷ ws) ds above x op cluster (inl g) i = absurd (let z : Plain op cluster ≡ Split q u (record f { to = to f.from f.to }) (slice_index_or ds 0 0) = i ∙ ap (λ (k : InWord). k.item) g in cc)
placed_there to (TraceSplit q u f live ∷ ops) (c ∷ cs) (w ∷ ws) ds above x op cluster (inr h) i = further (TraceSplit q u f live) c ops cs op cluster (placed_there to ops cs ws (drop 1 ds) (w ∷ above) x op cluster h i)

pub comes_placed : (c : Clustered) (op : Op) (cluster : ℕ) → PlacedAt c.trace.ops c.clusters op cluster → Comes c op cluster
comes_placed c op cluster x = comes_if c (list_any (λ s. nat_le x.word s) x.above) op x.origin x.place cluster x.at x.cluster_is x.is

-- in made blocks

module _ (c : Clustered) where
  -- what is copied from a place, and its cluster
  pub data CopiedFrom (ops : List Op) (clusters : List ℕ) : Type 0 where
    nothing : ops ≡ [] → clusters ≡ [] → CopiedFrom ops clusters
    one : (op : Op) (cluster : ℕ) → ops ≡ op ∷ [] → clusters ≡ cluster ∷ [] → Comes c op cluster → CopiedFrom ops clusters

  copied_there : (place : ℕ) (freed : Bool) (o : Option TraceOp) → slice_get c.trace.ops place ≡ o → CopiedFrom (map (dismissed_if freed) (op_of o)) (cluster_of o (slice_index_or c.clusters place 0))
  copied_there place freed None at = nothing refl refl
  copied_there place freed (Some (TraceSplit p y e live)) at = nothing refl refl
  copied_there place freed (Some (TracePlain op)) at = one (dismissed_if freed op) (slice_index_or c.clusters place 0) refl refl (comes_if c freed (dismissed_if freed op) op place (slice_index_or c.clusters place 0) at refl refl)

  as_they_are : (o : Option TraceOp) → map (dismissed_if false) (op_of o) ≡ op_of o
  as_they_are None = refl
  as_they_are (Some (TraceSplit p y e live)) = refl
  as_they_are (Some (TracePlain op)) = refl

  -- the lists of what is copied from several places
  pub record AreCopied (ops : List Op) (clusters : List ℕ) : Type 0 where
    pub many : length clusters ≡ length ops
    pub each : (i cluster : ℕ) (op : Op) → slice_get ops i ≡ Some op → slice_get clusters i ≡ Some cluster → Comes c op cluster

  none_copied : AreCopied [] []
  none_copied = record { many = refl; each = λ i cluster op a b. absurd cc }

  one_more : (ops more : List Op) (clusters others : List ℕ) → CopiedFrom ops clusters → AreCopied more others → AreCopied (ops ++ more) (clusters ++ others)
  one_more ops more clusters others (nothing a b) rest = subst (λ z. AreCopied (z ++ more) (clusters ++ others)) (sym a) (subst (λ z. AreCopied more (z ++ others)) (sym b) rest)
  one_more ops more clusters others (one op cluster a b x) rest = subst (λ z. AreCopied (z ++ more) (clusters ++ others)) (sym a) (subst (λ z. AreCopied (op ∷ more) (z ++ others)) (sym b) (record {
    many = ap suc rest.many;
    each = each;
  }))
    where
      each : (i k : ℕ) (o : Op) → slice_get (op ∷ more) i ≡ Some o → slice_get (cluster ∷ others) i ≡ Some k → Comes c o k
      each zero k o f g = let p : op ≡ o = cc in let q : cluster ≡ k = cc in subst (Comes c o) q (subst (λ z. Comes c z cluster) p x)
      each (suc i) k o f g = rest.each i k o f g

  pub copied_at : (places : List ℕ) → AreCopied (ops_at c.trace.ops places) (clusters_at c places)
  copied_at [] = none_copied
  copied_at (i ∷ places) = one_more (op_of (slice_get c.trace.ops i)) (ops_at c.trace.ops places) (cluster_of (slice_get c.trace.ops i) (slice_index_or c.clusters i 0)) (clusters_at c places)
      (subst (λ z. CopiedFrom z (cluster_of (slice_get c.trace.ops i) (slice_index_or c.clusters i 0))) (as_they_are (slice_get c.trace.ops i)) (copied_there i false (slice_get c.trace.ops i) refl)) (copied_at places)

module _ (p : Placed) where
  pub placed_copied : (places : List ℕ) → AreCopied p.clustered (placed_at p places) (clusters_at p.clustered places)
  placed_copied [] = record { many = refl; each = λ i cluster op a b. absurd cc }
  placed_copied (i ∷ places) = one_more p.clustered (map (dismissed_if (is_freed p i)) (op_of (slice_get p.clustered.trace.ops i))) (placed_at p places) (cluster_of (slice_get p.clustered.trace.ops i) (slice_index_or p.clustered.clusters i 0)) (clusters_at p.clustered places)
      (copied_there p.clustered i (is_freed p i) (slice_get p.clustered.trace.ops i) refl) (placed_copied places)

  -- made blocks
  pub record MadeFrom (x : Made) : Type 0 where
    pub edge : Edge
    pub copied : AreCopied p.clustered x.ops x.clusters

  of_made : (e : Edge) (ops : List Op) (clusters : List ℕ) (x : Made) → IsIn x (made_of e ops clusters) → AreCopied p.clustered ops clusters → MadeFrom x
  of_made e [] clusters x h a = absurd h
  of_made e (op ∷ ops) clusters x (inl q) a = record { edge = e; copied = subst (λ (z : Made). AreCopied p.clustered z.ops z.clusters) (sym q) a }
  of_made e (op ∷ ops) clusters x (inr h) a = absurd h

  from_splits : (splits : List EdgeCopies) (x : Made) → IsIn x (made_at_splits p splits) → MadeFrom x
  from_splits splits x h =
      let r = in_flat (λ (s : EdgeCopies). made_of s.edge (ops_at p.clustered.trace.ops s.copies) (clusters_at p.clustered s.copies)) splits x h in
      of_made r.item.edge (ops_at p.clustered.trace.ops r.item.copies) (clusters_at p.clustered r.item.copies) x r.there (copied_at p.clustered r.item.copies)

  from_joins : (joins : List Join) (rejoins : List Rejoin) (x : Made) → IsIn x (made_at_joins p joins rejoins) → MadeFrom x
  from_joins [] rejoins x h = absurd h
  from_joins (j ∷ joins) [] x h = absurd h
  from_joins (j ∷ joins) (k ∷ rejoins) x h = by (in_either x (flat_map (λ e. made_of e (placed_at p k.copies) (clusters_at p.clustered k.copies)) j.edges) (made_at_joins p joins rejoins) h) (from_joins joins rejoins x)
    where
      by : IsIn x (flat_map (λ e. made_of e (placed_at p k.copies) (clusters_at p.clustered k.copies)) j.edges) ⊎ IsIn x (made_at_joins p joins rejoins) → (IsIn x (made_at_joins p joins rejoins) → MadeFrom x) → MadeFrom x
      by (inl i) more =
          let r = in_flat (λ e. made_of e (placed_at p k.copies) (clusters_at p.clustered k.copies)) j.edges x i in
          of_made r.item (placed_at p k.copies) (clusters_at p.clustered k.copies) x r.there (placed_copied k.copies)
      by (inr i) more = more i

  pub made_from : (splits : List EdgeCopies) (rejoins : List Rejoin) (x : Made) → IsIn x (made_at_splits p splits ++ made_at_joins p p.clustered.trace.joins rejoins) → MadeFrom x
  made_from splits rejoins x h = elim (in_either x (made_at_splits p splits) (made_at_joins p p.clustered.trace.joins rejoins) h) [ inl i ↦ from_splits splits x i | inr i ↦ from_joins p.clustered.trace.joins rejoins x i ]
