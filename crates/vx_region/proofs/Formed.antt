-- The trace of some blocks is well formed: a cluster or none for each operation, and joins by ascending place.
use Rattle.std.proofs.Common.{◌≡◌, ◌⊎◌, inl, inr, ℕ, zero, suc, ◌+◌, ◌≤◌, Option, Some, None, List, [], ◌∷◌, ◌++◌, length, map, slice_get, refl, ap, ◌∙◌, arith}
use Rattle.std.specs.Prelude.{◌==◌, ◌&&◌, not, replicate}
use Rattle.std.specs.List.{filter}
use Rattle.std.proofs.lemmas.List.{length-append, length-map, length-replicate}
use Rattle.vx_flow.specs.declared.graph.Edge.{Edge}
use Rattle.vx_flow.specs.declared.trace.TraceOp.{TraceOp}
use Rattle.vx_flow.specs.declared.trace.TraceOp.TheVariants.{Plain as TracePlain, Split as TraceSplit}
use Rattle.vx_flow.specs.declared.trace.Join.{Join}
use Rattle.vx_flow.specs.Effects.{IsIn}
use Rattle.vx_flow.specs.Walk.{edge}
use Rattle.vx_flow.proofs.Members.{in_either}
use Rattle.vx_mixed.specs.declared.region.Origin.{Origin}
use Rattle.vx_mixed.specs.declared.mixed.MixedGraph.{MixedGraph}
use Rattle.vx_mixed.specs.TraceItems.{splits_of}
use Rattle.vx_mixed.specs.FromGraph.{same_edge}
use Rattle.vx_mixed.specs.TraceOf.{block_at, split_behind, block_ops, trace_ops, clusters_of, trace_fixed, joined, joins_behind, trace_joins}
use Rattle.vx_mixed.proofs.Linked.{index_in}
use Rattle.vx_dep.specs.Compensation.{splits_from}

-- clusters

clusters_many : (n : ℕ) (o : Option (Option Origin)) → ((origin : Origin) → o ≡ Some (Some origin) → length origin.clusters ≡ n) → length (clusters_of n o) ≡ n
clusters_many n None h = length-replicate n None
clusters_many n (Some None) h = length-replicate n None
clusters_many n (Some (Some origin)) h = length-map origin.clusters (λ (c : ℕ). Some c) ∙ h origin refl

module _ (m : MixedGraph) (live : ℕ → List ℕ) where
  pub fixed_many : (blocks : List ℕ) → ((b : ℕ) (origin : Origin) → IsIn b blocks → slice_get m.origins b ≡ Some (Some origin) → length origin.clusters ≡ length (block_at m b).ops) → length (trace_fixed m live blocks) ≡ length (trace_ops m live blocks)
  fixed_many [] h = refl
  fixed_many (b ∷ bs) h =
      let ops = (block_at m b).ops in
      let split = split_behind live b (block_at m b).exit bs in
      let own = clusters_of (length ops) (slice_get m.origins b) in
      let none : List (Option ℕ) = replicate (length split) None in
      let rest = trace_fixed m live bs in
      let a = length-append own (none ++ rest) in
      let c = length-append none rest in
      let d = clusters_many (length ops) (slice_get m.origins b) (λ origin e. h b origin (inl refl) e) in
      let f : length none ≡ length split = length-replicate (length split) None in
      let g = fixed_many bs (λ x origin i e. h x origin (inr i) e) in
      let k = length-append (block_ops m live b bs) (trace_ops m live bs) in
      let l = length-append (map TracePlain ops) split in
      let n = length-map ops (λ o. TracePlain o) in
      omega (arith, a, c, d, f, g, k, l, n)

  module _ (edges : List Edge) where
    abbrev Into : ℕ → ℕ → List Edge
    Into before b = filter (λ (e : Edge). (e.to == b) && not (same_edge e (edge before b))) edges

    behind : (before place : ℕ) (bs : List ℕ) (j : Join) → IsIn j (joins_behind m live edges before place bs) → place ≤ j.place
    behind before place [] j h = absurd h
    behind before place (b ∷ bs) j h = by (Into before b) (in_either j (joined place b (Into before b)) (joins_behind m live edges b (place + length (block_ops m live b bs)) bs) h) (behind b (place + length (block_ops m live b bs)) bs j)
      where
        by : (es : List Edge) → IsIn j (joined place b es) ⊎ IsIn j (joins_behind m live edges b (place + length (block_ops m live b bs)) bs) → (IsIn j (joins_behind m live edges b (place + length (block_ops m live b bs)) bs) → place + length (block_ops m live b bs) ≤ j.place) → place ≤ j.place
        by [] (inl i) more = absurd i
        by (e ∷ es) (inl (inl q)) more = let p : j.place ≡ place = ap (λ (z : Join). z.place) q in omega (arith, p)
        by (e ∷ es) (inl (inr i)) more = absurd i
        by es (inr i) more = let l = more i in omega (arith, l)

    abbrev Up : List Join → Type 0
    Up js = (i : ℕ) (j k : Join) → slice_get js i ≡ Some j → slice_get js (i + 1) ≡ Some k → j.place ≤ k.place

    up_behind : (before place : ℕ) (bs : List ℕ) → Up (joins_behind m live edges before place bs)
    up_behind before place [] = λ i j k a c. absurd (cc)
    up_behind before place (b ∷ bs) = by (Into before b) (up_behind b (place + length (block_ops m live b bs)) bs) (behind b (place + length (block_ops m live b bs)) bs)
      where
        by : (es : List Edge) → Up (joins_behind m live edges b (place + length (block_ops m live b bs)) bs) → ((j : Join) → IsIn j (joins_behind m live edges b (place + length (block_ops m live b bs)) bs) → place + length (block_ops m live b bs) ≤ j.place) → Up (joined place b es ++ joins_behind m live edges b (place + length (block_ops m live b bs)) bs)
        by [] more low i j k a c = more i j k a c
        by (e ∷ es) more low zero j k a c =
            let q : record { place = place; block = b; edges = e ∷ es } ≡ j = cc (a) in
            let p : place ≡ j.place = ap (λ (z : Join). z.place) q in
            let l = low k (index_in (joins_behind m live edges b (place + length (block_ops m live b bs)) bs) 0 k c) in
            omega (arith, p, l)
        by (e ∷ es) more low (suc i) j k a c =
            let rest = joins_behind m live edges b (place + length (block_ops m live b bs)) bs in
            let z : suc (i + 1) ≡ suc i + 1 = omega arith in
            more i j k a (ap (slice_get (joined place b (e ∷ es) ++ rest)) z ∙ c)

    pub up : (blocks : List ℕ) → Up (trace_joins m live edges blocks)
    up [] = λ i j k a c. absurd (cc)
    up (b ∷ bs) = up_behind b (length (block_ops m live b bs)) bs

-- one entry for each split

pub splits_many : (words : List ℕ) (i : ℕ) (ops : List TraceOp) → length (splits_from words i ops) ≡ length (splits_of ops)
splits_many words i [] = refl
splits_many words i (TracePlain op ∷ ops) = splits_many words (i + 1) ops
splits_many words i (TraceSplit p y e live ∷ ops) = ap suc (splits_many words (i + 1) ops)
