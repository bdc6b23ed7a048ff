-- Counts of what was passed: one visit more.
use Rattle.std.proofs.Common.{◌≡◌, ℕ, ◌+◌, Bool, true, false, cond, ◌==◌, ◌&&◌, List, [], ◌∷◌, Option, Some, refl, sym, ap, subst, ◌∙◌, add-zero, arith}
use Rattle.std.proofs.lemmas.Bool.{and_parts, eqb-true}
use Rattle.std.proofs.lemmas.Bool.Decides.{nat_tests}
use Rattle.std.proofs.lemmas.List.Recursion.{is_count_by}
use Rattle.std.specs.List.{count_by}
use Rattle.std.specs.Option.{unwrap_or}
use Rattle.std.specs.Ordering.{nat_cmp, ordering_then, is_eq}
use Rattle.std.specs.Cmp.{tied_then}
use Rattle.std.specs.BTreeMap.{get, is_at}
use Rattle.vx_flow.specs.Meaning.{Visit, AtBlock, AlongEdge}
use Rattle.vx_profile.specs.declared.counts.Counts.{Counts}
use Rattle.vx_profile.specs.Counts.{Pair, Triple, pair_cmp, triple_cmp, block_count, edge_count, is_block, is_edge, CountsMore, MoreTimes}

-- keys

same_by : (x y : ℕ) → is_eq (nat_cmp x y) ≡ (x == y)
same_by x y = grind (arith, nat_tests)

pub at_pair : (g c f b : ℕ) → is_at (pair_cmp (g, c)) (f, b) ≡ ((g == f) && (c == b))
at_pair g c f b = sym (tied_then (nat_cmp g f) (nat_cmp c b)) ∙ ap (λ s. s && is_eq (nat_cmp c b)) (same_by g f) ∙ ap (λ s. (g == f) && s) (same_by c b)

pub at_triple : (g c e f b d : ℕ) → is_at (triple_cmp (g, c, e)) (f, b, d) ≡ ((g == f) && (c == b) && (e == d))
at_triple g c e f b d =
    sym (tied_then (ordering_then (nat_cmp g f) (nat_cmp c b)) (nat_cmp e d))
    ∙ ap (λ s. s && is_eq (nat_cmp e d)) (at_pair g c f b)
    ∙ ap (λ s. (g == f) && (c == b) && s) (same_by e d)

-- one more visit

times : (Visit → Bool) → List Visit → ℕ
times p [] = 0
times p (x ∷ xs) = cond (p x) (1 + times p xs) (times p xs)

pub count_one : (p : Visit → Bool) (v : Visit) → cond (p v) 1 0 ≡ count_by p (v ∷ [])
unfolding times
count_one p v = is_count_by (times p) p refl (λ x xs. refl) (v ∷ [])

so_many : (old : ℕ) (found : Option ℕ) (here : Bool) (count more : ℕ) → old ≡ unwrap_or found 0 → (here ≡ true → old ≡ count) → unwrap_or (cond here (Some (count + more)) found) 0 ≡ old + cond here more 0
so_many old found true count more e f = let h = f refl in omega arith
so_many old found false count more e f = omega arith

pub block_added : (old new : Counts) (g c more count : ℕ) → count ≡ block_count old g c + more → ((q : Pair) → get pair_cmp new.blocks q ≡ cond (is_at (pair_cmp (g, c)) q) (Some count) (get pair_cmp old.blocks q)) → new.edges ≡ old.edges → MoreTimes old new (AtBlock g c) more
block_added old new g c more count n h e = record {
  blocks = λ f b. by f b;
  edges = λ f b d. ap (λ m. unwrap_or (get triple_cmp m (f, b, d)) 0) e ∙ sym (add-zero (edge_count old f b d));
}
  where
    there : (f b : ℕ) → ((g == f) && (c == b)) ≡ true → block_count old f b ≡ block_count old g c
    there f b t = let (k, l) = and_parts (g == f) (c == b) t in ap (λ x. block_count old x b) (sym (eqb-true g f k)) ∙ ap (block_count old g) (sym (eqb-true c b l))

    by : (f b : ℕ) → block_count new f b ≡ block_count old f b + cond (is_block f b (AtBlock g c)) more 0
    by f b =
        ap (λ o. unwrap_or o 0) (h (f, b))
        ∙ ap (λ t. unwrap_or (cond t (Some count) (get pair_cmp old.blocks (f, b))) 0) (at_pair g c f b)
        ∙ ap (λ k. unwrap_or (cond ((g == f) && (c == b)) (Some k) (get pair_cmp old.blocks (f, b))) 0) n
        ∙ so_many (block_count old f b) (get pair_cmp old.blocks (f, b)) ((g == f) && (c == b)) (block_count old g c) more refl (there f b)

pub edge_added : (old new : Counts) (g c e more count : ℕ) → count ≡ edge_count old g c e + more → ((q : Triple) → get triple_cmp new.edges q ≡ cond (is_at (triple_cmp (g, c, e)) q) (Some count) (get triple_cmp old.edges q)) → new.blocks ≡ old.blocks → MoreTimes old new (AlongEdge g c e) more
edge_added old new g c e more count n h s = record {
  blocks = λ f b. ap (λ m. unwrap_or (get pair_cmp m (f, b)) 0) s ∙ sym (add-zero (block_count old f b));
  edges = λ f b d. by f b d;
}
  where
    there : (f b d : ℕ) → ((g == f) && (c == b) && (e == d)) ≡ true → edge_count old f b d ≡ edge_count old g c e
    there f b d t =
        let (kl, m) = and_parts ((g == f) && (c == b)) (e == d) t in
        let (k, l) = and_parts (g == f) (c == b) kl in
        ap (λ x. edge_count old x b d) (sym (eqb-true g f k)) ∙ ap (λ x. edge_count old g x d) (sym (eqb-true c b l)) ∙ ap (edge_count old g c) (sym (eqb-true e d m))

    by : (f b d : ℕ) → edge_count new f b d ≡ edge_count old f b d + cond (is_edge f b d (AlongEdge g c e)) more 0
    by f b d =
        ap (λ o. unwrap_or o 0) (h (f, b, d))
        ∙ ap (λ t. unwrap_or (cond t (Some count) (get triple_cmp old.edges (f, b, d))) 0) (at_triple g c e f b d)
        ∙ ap (λ k. unwrap_or (cond ((g == f) && (c == b) && (e == d)) (Some k) (get triple_cmp old.edges (f, b, d))) 0) n
        ∙ so_many (edge_count old f b d) (get triple_cmp old.edges (f, b, d)) ((g == f) && (c == b) && (e == d)) (edge_count old g c e) more refl (there f b d)

none_more : (t : Bool) (n : ℕ) → n ≡ n + cond t 0 0
none_more true n = sym (add-zero n)
none_more false n = sym (add-zero n)

pub no_times : (c : Counts) (v : Visit) (more : ℕ) → more ≡ 0 → MoreTimes c c v more
no_times c v more e = subst (MoreTimes c c v) (sym e) (record { blocks = λ f b. none_more (is_block f b v) (block_count c f b); edges = λ f b d. none_more (is_edge f b d v) (edge_count c f b d) })

pub once : (old new : Counts) (v : Visit) → MoreTimes old new v 1 → CountsMore old new (v ∷ [])
once old new v h = record {
  blocks = λ f b. h.blocks f b ∙ ap (λ k. block_count old f b + k) (count_one (is_block f b) v);
  edges = λ f b d. h.edges f b d ∙ ap (λ k. edge_count old f b d + k) (count_one (is_edge f b d) v);
}
