-- The kept edges and those of made blocks, sorted, are the edges after a replacement.
use Rattle.std.proofs.Common.{◌≡◌, ℕ, zero, suc, ◌+◌, ◌^◌, ◌<◌, Bool, true, false, Option, Some, None, List, [], ◌∷◌, ◌++◌, length, map, slice_get, refl, sym, ap, ◌∙◌, subst, ⊎_elim, inl, inr, arith}
use Rattle.std.specs.Prelude.{not, if◌then◌else◌}
use Rattle.std.specs.List.{filter}
use Rattle.std.specs.List.Sorted.{IsNonDecreasingBy, IsPermutation}
use Rattle.std.proofs.lemmas.Bool.{not-true, cases_Bool}
use Rattle.vx_flow.specs.declared.graph.Edge.{Edge}
use Rattle.vx_flow.specs.Effects.{IsIn}
use Rattle.vx_flow.specs.Walk.{edge}
use Rattle.vx_flow.proofs.IndexSteps.{get_below}
use Rattle.vx_flow.proofs.Members.{in_left, in_right, in_either}
use Rattle.vx_flow.proofs.SoundLists.{any_in, any_of}
use Rattle.vx_mixed.specs.declared.region.Made.{Made}
use Rattle.vx_mixed.specs.declared.mixed.MixedGraph.{MixedGraph}
use Rattle.vx_mixed.specs.CanReplace.{CanReplace}
use Rattle.vx_mixed.specs.Edges.{Before, Ascending, IsEdge, EdgesOf}
use Rattle.vx_mixed.specs.FromGraph.{same_edge}
use Rattle.vx_mixed.specs.MovedEdges.{is_inner, moved, kept_edges, made_edges, edge_key}
use Rattle.vx_mixed.specs.Next.{Replacement, made_on, new_end, next_mixed}
use Rattle.vx_mixed.specs.NextEdges.{IsNextEdge, kept, from_made}
use Rattle.vx_mixed.specs.TraceOf.{inner_edges}
use Rattle.vx_mixed.specs.Valid.{Valid}
use Rattle.vx_mixed.proofs.EdgesAfter.{edges_after, in_map}
use Rattle.vx_mixed.proofs.Linked.{some_blocks}
use Rattle.vx_mixed.proofs.NewBlocks.{in_image}
use Rattle.vx_mixed.proofs.NewNodes.{same_is, is_same_edge, made_some}
use Rattle.vx_mixed.proofs.SortedEdges.{Once, moved_in, moved_out, sorted_ascend}
use Rattle.vx_mixed.proofs.StaysValid.{Ends_alike, one_edge, one_block, ends_alike, low_to, low_from, made_low, made_end, plain_end}
use Rattle.vx_mixed.proofs.TraceFacts.{in_filter, filter_has}

-- inside the trace

pub inner_in : (blocks : List ℕ) (e : Edge) → IsIn e (inner_edges blocks) → is_inner blocks e ≡ true
inner_in blocks e h = any_of (λ f. same_edge f e) (inner_edges blocks) e h (is_same_edge e e refl)

pub inner_of : (blocks : List ℕ) (e : Edge) → is_inner blocks e ≡ true → IsIn e (inner_edges blocks)
inner_of blocks e h = let f = any_in (λ f. same_edge f e) (inner_edges blocks) h in subst (λ z. IsIn z (inner_edges blocks)) (same_is f.item e f.holds) f.has

pub outer_of : (blocks : List ℕ) (e : Edge) → not (is_inner blocks e) ≡ true → IsIn e (inner_edges blocks) → ⊥
outer_of blocks e h i = let a = inner_in blocks e i in let b = not-true (is_inner blocks e) h in absurd (let z : true ≡ false = sym a ∙ b in cc)

pub outer_in : (blocks : List ℕ) (e : Edge) → (IsIn e (inner_edges blocks) → ⊥) → not (is_inner blocks e) ≡ true
outer_in blocks e n = ⊎_elim (λ t. absurd (n (inner_of blocks e t))) (λ f. ap not f) (cases_Bool (is_inner blocks e))

-- edges of made blocks

to_made : (b : ℕ) (xs : List Made) (i : ℕ) (x : Made) → slice_get xs i ≡ Some x → IsIn (edge (b + i) x.edge.to) (made_edges b xs)
to_made b [] i x h = absurd (cc)
to_made b (y ∷ xs) zero x h = let q : x ≡ y = cc in let z : b + 0 ≡ b = omega arith in inl (ap (λ k. edge k x.edge.to) z ∙ ap (λ (k : Made). edge b k.edge.to) q)
to_made b (y ∷ xs) (suc i) x h = let z : b + 1 + i ≡ b + suc i = omega arith in inr (subst (λ k. IsIn (edge k x.edge.to) (made_edges (b + 1) xs)) z (to_made (b + 1) xs i x h))

of_made : (b : ℕ) (xs : List Made) (e : Edge) → IsIn e (made_edges b xs) → (i : ℕ) × (x : Made) × (slice_get xs i ≡ Some x) × (e ≡ edge (b + i) x.edge.to)
of_made b [] e h = absurd h
of_made b (y ∷ xs) e (inl q) = let z : b ≡ b + 0 = omega arith in (0, y, refl, q ∙ ap (λ k. edge k y.edge.to) z)
of_made b (y ∷ xs) e (inr h) = let r = of_made (b + 1) xs e h in let z : b + 1 + r.0 ≡ b + suc r.0 = omega arith in (suc r.0, r.1, r.2, r.3 ∙ ap (λ k. edge k r.1.edge.to) z)

once_made : (b : ℕ) (xs : List Made) → Once (made_edges b xs)
once_made b [] = tt
once_made b (y ∷ xs) = ((λ h. let r = of_made (b + 1) xs (edge b y.edge.to) h in let q : b ≡ b + 1 + r.0 = ap (λ (z : Edge). z.from) r.3 in absurd (omega arith)), once_made (b + 1) xs)

once_append : (xs ys : List Edge) → Once xs → Once ys → ((e : Edge) → IsIn e xs → IsIn e ys → ⊥) → Once (xs ++ ys)
once_append [] ys a b apart = b
once_append (x ∷ xs) ys a b apart = ((λ h. ⊎_elim a.0 (apart x (inl refl)) (in_either x xs ys h)), once_append xs ys a.1 b (λ e p q. apart e (inr p) q))

pub not_before : (e f : Edge) → e.from ≡ f.from → e.to ≡ f.to → Before e f → ⊥
not_before e f p q (inl l) = absurd (omega arith)
not_before e f p q (inr l) = let k = l.1 in absurd (omega arith)

module _ (m : MixedGraph) (r : Replacement) (valid : Valid m) (c : CanReplace m r) (first : ℕ) (others : List ℕ) (blocks_are : r.trace.blocks ≡ first ∷ others) where
  abbrev New : MixedGraph
  New = next_mixed m r

  abbrev N : ℕ
  N = length m.nodes

  abbrev To : ℕ → ℕ → ℕ
  To = new_end m r.made

  abbrev Move : Edge → Edge
  Move = moved m r.made

  abbrev Outer : Edge → Bool
  Outer e = not (is_inner r.trace.blocks e)

  low : (e : Edge) → IsEdge m e → e.to < N
  low e h = low_to m r valid c first others blocks_are e.from e.to h

  -- two edges do not become one
  apart : (e f : Edge) → IsEdge m e → IsEdge m f → Before e f → Move e ≡ Move f → ⊥
  apart e f he hf up same = by (ends_alike m r valid c first others blocks_are e.from e.to f.from f.to (low e he) (low f hf) (ap (λ (z : Edge). z.to) same))
    where
      by : Ends_alike m r valid c first others blocks_are e.from e.to f.from f.to → ⊥
      by (one_edge s) = not_before e f (ap (λ (z : Edge). z.from) s) (ap (λ (z : Edge). z.to) s) up
      by (one_block s none none') = not_before e f (ap (λ (z : Edge). z.from) same) s up

  of_kept : (es : List Edge) (e : Edge) → IsIn e (kept_edges m r es) → (f : Edge) × IsIn f es × (IsIn f (inner_edges r.trace.blocks) → ⊥) × (e ≡ Move f)
  of_kept es e h =
      let x = in_image Move (filter Outer es) e h in
      let i = in_filter Outer es x.0 x.1 in
      (x.0, i.0, outer_of r.trace.blocks x.0 i.1, x.2)

  to_kept : (es : List Edge) (e : Edge) → IsIn e es → (IsIn e (inner_edges r.trace.blocks) → ⊥) → IsIn (Move e) (kept_edges m r es)
  to_kept es e h n = in_map Move (filter Outer es) e (filter_has Outer es e h (outer_in r.trace.blocks e n))

  once_kept : (es : List Edge) → Ascending es → ((e : Edge) → IsIn e es → IsEdge m e) → Once (kept_edges m r es)
  once_kept [] up all = tt
  once_kept (e ∷ es) up all = by (Outer e) (once_kept es up.1 (λ f h. all f (inr h)))
    where
      by : (b : Bool) → Once (kept_edges m r es) → Once (map Move (if b then e ∷ filter Outer es else filter Outer es))
      by true rest = ((λ h. let x = of_kept es (Move e) h in apart e x.0 (all e (inl refl)) (all x.0 (inr x.1)) (up.0 x.0 x.1) x.3), rest)
      by false rest = rest

  -- ends are numbers of blocks
  end_low : (a b : ℕ) → b < N → To a b < N + length r.made
  end_low a b l = by (made_on N r.made (edge a b)) refl
    where
      by : (o : Option ℕ) → made_on N r.made (edge a b) ≡ o → To a b < N + length r.made
      by None q = let z = plain_end m r valid c first others blocks_are a b q in omega arith
      by (Some d) q =
          let z = made_end m r valid c first others blocks_are a b d q in
          let e = z.0 in
          let x = made_some N r.made (edge a b) d q in
          let k = x.number in
          let i = get_below r.made x.index x.item x.has in
          omega arith

  abbrev Both : List Edge → List Edge
  Both edges = kept_edges m r edges ++ made_edges N r.made

  pub lists_are : (edges after : List Edge) → EdgesOf m edges → N + length r.made < 2 ^ 32 → IsPermutation (kept_edges m r edges ++ made_edges N r.made) after → IsNonDecreasingBy edge_key after → EdgesOf New after
  lists_are edges after are few same sorted = record {
    ascending = sorted_ascend (Both edges) after once same sorted (λ x h. small x (moved_out (Both edges) after x same h));
    exact = λ e. ((λ h. (edges_after m r valid c e).1 (on e (moved_out (Both edges) after e same h))), (λ h. moved_in (Both edges) after e same (back e ((edges_after m r valid c e).0 h))));
  }
    where
      on : (e : Edge) → IsIn e (Both edges) → IsNextEdge m r e
      on e h =
          ⊎_elim
          (λ k. let x = of_kept edges e k in kept x.0.from x.0.to ((are.exact x.0).0 x.1) x.2 x.3)
          (λ k. let x = of_made N r.made e k in from_made x.0 x.1 x.2 x.3)
          (in_either e (kept_edges m r edges) (made_edges N r.made) h)

      back : (e : Edge) → IsNextEdge m r e → IsIn e (Both edges)
      back e (kept a b old outer is) = subst (λ z. IsIn z (Both edges)) (sym is) (in_left (edge a (To a b)) (kept_edges m r edges) (made_edges N r.made) (to_kept edges (edge a b) ((are.exact (edge a b)).1 old) outer))
      back e (from_made i x has is) = subst (λ z. IsIn z (Both edges)) (sym is) (in_right (edge (N + i) x.edge.to) (kept_edges m r edges) (made_edges N r.made) (to_made N r.made i x has))

      small : (e : Edge) → IsIn e (Both edges) → e.to < 2 ^ 32
      small e h =
          ⊎_elim
          (λ k. let x = of_kept edges e k in let l = end_low x.0.from x.0.to (low x.0 ((are.exact x.0).0 x.1)) in let z : e.to ≡ To x.0.from x.0.to = ap (λ (z : Edge). z.to) x.3 in omega arith)
          (λ k. let x = of_made N r.made e k in let l = made_low m r valid c first others blocks_are x.0 x.1 x.2 in let z : e.to ≡ x.1.edge.to = ap (λ (z : Edge). z.to) x.3 in omega arith)
          (in_either e (kept_edges m r edges) (made_edges N r.made) h)

      once : Once (Both edges)
      once = once_append (kept_edges m r edges) (made_edges N r.made) (once_kept edges are.ascending (λ e h. (are.exact e).0 h)) (once_made N r.made) (λ e p q.
          let x = of_kept edges e p in
          let y = of_made N r.made e q in
          let l = low_from m r valid c first others blocks_are x.0.from x.0.to ((are.exact x.0).0 x.1) in
          let s : x.0.from ≡ N + y.0 = sym (ap (λ (z : Edge). z.from) x.3) ∙ ap (λ (z : Edge). z.from) y.3 in
          absurd (omega arith))

pub sorted_edges_are : (m : MixedGraph) (r : Replacement) (edges after : List Edge) → Valid m → CanReplace m r → EdgesOf m edges → length m.nodes + length r.made < 2 ^ 32 → IsPermutation (kept_edges m r edges ++ made_edges (length m.nodes) r.made) after → IsNonDecreasingBy edge_key after → EdgesOf (next_mixed m r) after
sorted_edges_are m r edges after valid c are few same sorted = let b = some_blocks r.trace.blocks c.trace.can.some in lists_are m r valid c b.0 b.1 b.2 edges after are few same sorted
