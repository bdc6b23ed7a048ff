-- The first of the candidates, one block and one function more at a time.
use Rattle.std.proofs.Common.{◌≡◌, ◌⊎◌, inl, inr, ℕ, zero, suc, ◌+◌, ◌<◌, ◌≤◌, nat_lt, Bool, true, false, List, length, slice_get, Option, Some, None, refl, sym, ap, ◌∙◌, subst, arith, ltb-true, ltb-false, eqb-true, eq-eqb, ◌==◌, ◌&&◌, ◌||◌}
use Rattle.std.proofs.lemmas.Bool.{false≢true}
use Rattle.std.proofs.lemmas.Option.{slice_get_within}
use Rattle.vx_flow.specs.declared.graph.Graph.{Graph}
use Rattle.vx_flow.specs.declared.graph.Flow.{Flow}
use Rattle.vx_profile.specs.declared.counts.Counts.{Counts}
use Rattle.vx_flow.specs.Rows.{is_marked}
use Rattle.vx_inline.specs.Keeping.{KnowsApart}
use Rattle.vx_inline.specs.Permitting.{StandsApart}
use Rattle.vx_inline.proofs.Candidates.{apart_candidate}
use Rattle.vx_inline.specs.declared.site.Site.{Site}
use Rattle.vx_inline.specs.Choosing.{IsCandidate, count_of, Below, ComesBefore, Chosen, is_below, site_of, BestBefore, exceeds, NoneIsWorthIt}

module _ (flow : Flow) (counts : Counts) (most : ℕ) where
  site_same : (f b : ℕ) (site : Site) → site.function ≡ f → site.block ≡ b → site ≡ site_of f b
  site_same f b site e h = λ i. record { function = e i; block = h i }

  -- below the next block: below this one, or this one
  below_next : (f b : ℕ) (other : Site) → Below other (site_of f (b + 1)) → Below other (site_of f b) ⊎ (other ≡ site_of f b)
  below_next f b other (inl l) = inl (inl l)
  below_next f b other (inr r) = by (nat_lt other.block b) refl
    where
      by : (t : Bool) → nat_lt other.block b ≡ t → Below other (site_of f b) ⊎ (other ≡ site_of f b)
      by true e = inl (inr (r.0, ltb-true other.block b e))
      by false e = let l : b ≤ other.block = ltb-false other.block b e in let k : other.block < b + 1 = r.1 in inr (site_same f b other r.0 (omega (arith, l, k)))

  -- ---- the order

  is_below_so : (site other : Site) → is_below site other ≡ true → Below site other
  is_below_so site other h = by (nat_lt site.function other.function) refl (site.function == other.function) refl h
    where
      by : (t : Bool) → nat_lt site.function other.function ≡ t → (u : Bool) → (site.function == other.function) ≡ u → (t || (u && nat_lt site.block other.block)) ≡ true → Below site other
      by true p u q h = inl (ltb-true site.function other.function p)
      by false p true q h = inr (eqb-true site.function other.function q, ltb-true site.block other.block h)
      by false p false q h = absurd (false≢true h)

  not_below : (site other : Site) → is_below site other ≡ false → (site ≡ other) ⊎ Below other site
  not_below site other h = by (nat_lt site.function other.function) refl (site.function == other.function) refl h
    where
      by_block : (t : Bool) → nat_lt other.block site.block ≡ t → site.function ≡ other.function → other.block ≤ site.block → (site ≡ other) ⊎ Below other site
      by_block true p e l = inr (inr (sym e, ltb-true other.block site.block p))
      by_block false p e l = let m : site.block ≤ other.block = ltb-false other.block site.block p in let k : site.block ≡ other.block = omega (arith, l, m) in inl (λ i. record { function = e i; block = k i })

      by_function : (t : Bool) → nat_lt other.function site.function ≡ t → other.function ≤ site.function → (site.function ≡ other.function → ⊥) → (site ≡ other) ⊎ Below other site
      by_function true p l n = inr (inl (ltb-true other.function site.function p))
      by_function false p l n = let m : site.function ≤ other.function = ltb-false other.function site.function p in absurd (n (omega (arith, l, m)))

      by : (t : Bool) → nat_lt site.function other.function ≡ t → (u : Bool) → (site.function == other.function) ≡ u → (t || (u && nat_lt site.block other.block)) ≡ false → (site ≡ other) ⊎ Below other site
      by true p u q h = absurd (false≢true (sym h))
      by false p true q h = by_block (nat_lt other.block site.block) refl (eqb-true site.function other.function q) (ltb-false site.block other.block h)
      by false p false q h = by_function (nat_lt other.function site.function) refl (ltb-false site.function other.function p) (λ e. false≢true (sym q ∙ eq-eqb site.function other.function e))

  below_both : (site best other : Site) → Below site best → Below best other → Below site other
  below_both site best other (inl l) (inl m) = inl (omega (arith, l, m))
  below_both site best other (inl l) (inr m) = let e : best.function ≡ other.function = m.0 in inl (omega (arith, l, e))
  below_both site best other (inr l) (inl m) = let e : site.function ≡ best.function = l.0 in inl (omega (arith, e, m))
  below_both site best other (inr l) (inr m) = let x : site.block < best.block = l.1 in let y : best.block < other.block = m.1 in inr (l.0 ∙ m.0, omega (arith, x, y))

  pub before_both : (site best other : Site) → ComesBefore counts site best → ComesBefore counts best other → ComesBefore counts site other
  before_both site best other (inl l) (inl m) = inl (omega (arith, l, m))
  before_both site best other (inl l) (inr m) = let e : count_of counts other ≡ count_of counts best = m.0 in inl (omega (arith, l, e))
  before_both site best other (inr l) (inl m) = let e : count_of counts best ≡ count_of counts site = l.0 in inl (omega (arith, e, m))
  before_both site best other (inr l) (inr m) = inr (m.0 ∙ l.0, below_both site best other l.1 m.1)

  pub comes : (best site : Site) → exceeds counts (Some best) site ≡ true → ComesBefore counts site best
  comes best site e = by (nat_lt (count_of counts best) (count_of counts site)) refl (count_of counts best == count_of counts site) refl e
    where
      by : (t : Bool) → nat_lt (count_of counts best) (count_of counts site) ≡ t → (u : Bool) → (count_of counts best == count_of counts site) ≡ u → (t || (u && is_below site best)) ≡ true → ComesBefore counts site best
      by true p u q h = inl (ltb-true (count_of counts best) (count_of counts site) p)
      by false p true q h = inr (eqb-true (count_of counts best) (count_of counts site) q, is_below_so site best h)
      by false p false q h = absurd (false≢true h)

  pub stays_first : (best site : Site) → exceeds counts (Some best) site ≡ false → (site ≡ best) ⊎ ComesBefore counts best site
  stays_first best site e = by (nat_lt (count_of counts best) (count_of counts site)) refl (count_of counts best == count_of counts site) refl e
    where
      as_below : count_of counts site ≡ count_of counts best → (site ≡ best) ⊎ Below best site → (site ≡ best) ⊎ ComesBefore counts best site
      as_below q (inl s) = inl s
      as_below q (inr l) = inr (inr (q, l))

      by_less : (t : Bool) → nat_lt (count_of counts site) (count_of counts best) ≡ t → count_of counts site ≤ count_of counts best → (count_of counts best ≡ count_of counts site → ⊥) → (site ≡ best) ⊎ ComesBefore counts best site
      by_less true p l n = inr (inl (ltb-true (count_of counts site) (count_of counts best) p))
      by_less false p l n = let m : count_of counts best ≤ count_of counts site = ltb-false (count_of counts site) (count_of counts best) p in absurd (n (omega (arith, l, m)))

      by : (t : Bool) → nat_lt (count_of counts best) (count_of counts site) ≡ t → (u : Bool) → (count_of counts best == count_of counts site) ≡ u → (t || (u && is_below site best)) ≡ false → (site ≡ best) ⊎ ComesBefore counts best site
      by true p u q h = absurd (false≢true (sym h))
      by false p true q h = as_below (sym (eqb-true (count_of counts best) (count_of counts site) q)) (not_below site best h)
      by false p false q h =
          by_less (nat_lt (count_of counts site) (count_of counts best)) refl (ltb-false (count_of counts best) (count_of counts site) p) (λ k. false≢true (sym q ∙ eq-eqb (count_of counts best) (count_of counts site) k))

  -- the block is not worth it
  pub best_stays : (f b : ℕ) (best : Option Site) → NoneIsWorthIt flow counts most best (site_of f b) → BestBefore flow counts most f b best → BestBefore flow counts most f (b + 1) best
  best_stays f b None n h = λ site l k. by site k (below_next f b site l)
    where
      by : (site : Site) → IsCandidate flow most site → Below site (site_of f b) ⊎ (site ≡ site_of f b) → ⊥
      by site k (inl l) = h site l k
      by site k (inr e) = n (subst (IsCandidate flow most) e k) refl
  best_stays f b (Some best) n h = record { candidate = h.candidate; first = λ other l k. by other k (below_next f b other l) }
    where
      this : IsCandidate flow most (site_of f b) → (site_of f b ≡ best) ⊎ ComesBefore counts best (site_of f b)
      this k = told (exceeds counts (Some best) (site_of f b)) refl
        where
          told : (t : Bool) → exceeds counts (Some best) (site_of f b) ≡ t → (site_of f b ≡ best) ⊎ ComesBefore counts best (site_of f b)
          told true e = absurd (n k e)
          told false e = stays_first best (site_of f b) e

      by : (other : Site) → IsCandidate flow most other → Below other (site_of f b) ⊎ (other ≡ site_of f b) → (other ≡ best) ⊎ ComesBefore counts best other
      by other k (inl l) = h.first other l k
      by other k (inr e) = subst (λ s. (s ≡ best) ⊎ ComesBefore counts best s) (sym e) (this (subst (IsCandidate flow most) e k))

  -- the block is the best
  pub best_taken : (f b : ℕ) (best : Option Site) → IsCandidate flow most (site_of f b) → exceeds counts best (site_of f b) ≡ true → BestBefore flow counts most f b best → BestBefore flow counts most f (b + 1) (Some (site_of f b))
  best_taken f b None k e h = record { candidate = k; first = λ other l c. by other c (below_next f b other l) }
    where
      by : (other : Site) → IsCandidate flow most other → Below other (site_of f b) ⊎ (other ≡ site_of f b) → (other ≡ site_of f b) ⊎ ComesBefore counts (site_of f b) other
      by other c (inl l) = absurd (h other l c)
      by other c (inr q) = inl q
  best_taken f b (Some best) k e h = record { candidate = k; first = λ other l c. by other c (below_next f b other l) }
    where
      behind : (other : Site) → (other ≡ best) ⊎ ComesBefore counts best other → ComesBefore counts (site_of f b) other
      behind other (inl q) = subst (ComesBefore counts (site_of f b)) (sym q) (comes best (site_of f b) e)
      behind other (inr m) = before_both (site_of f b) best other (comes best (site_of f b) e) m

      by : (other : Site) → IsCandidate flow most other → Below other (site_of f b) ⊎ (other ≡ site_of f b) → (other ≡ site_of f b) ⊎ ComesBefore counts (site_of f b) other
      by other c (inl l) = inr (behind other (h.first other l c))
      by other c (inr q) = inl q

  -- no block of a function is worth it
  pub best_stays_all : (f n : ℕ) (best : Option Site) → ((b : ℕ) → b < n → NoneIsWorthIt flow counts most best (site_of f b)) → BestBefore flow counts most f 0 best → BestBefore flow counts most f n best
  best_stays_all f zero best n h = h
  best_stays_all f (suc m) best n h =
      let a : m + 1 ≡ suc m = omega arith in
      subst (λ k. BestBefore flow counts most f k best) a (best_stays f m best (n m (omega arith)) (best_stays_all f m best (λ b l. n b (omega (arith, l))) h))

  -- from the last block of a function on to the next function
  below_function : (f b : ℕ) (other : Site) → Below other (site_of (f + 1) 0) → (other.function ≡ f → other.block < b) → Below other (site_of f b)
  below_function f b other (inr r) k = let l : other.block < 0 = r.1 in absurd (omega (arith, l))
  below_function f b other (inl l) k = by (nat_lt other.function f) refl
    where
      by : (t : Bool) → nat_lt other.function f ≡ t → Below other (site_of f b)
      by true e = inl (ltb-true other.function f e)
      by false e = let m : f ≤ other.function = ltb-false other.function f e in let j : other.function < f + 1 = l in let q : other.function ≡ f = omega (arith, m, j) in inr (q, k q)

  within : (f n : ℕ) (graph : Graph) → slice_get flow.functions f ≡ Some graph → length graph.blocks ≡ n → (other : Site) → IsCandidate flow most other → other.function ≡ f → other.block < n
  within f n graph e q other k h =
      let same : Option.Some k.call.parts.caller ≡ Some graph = sym k.call.is_caller ∙ ap (slice_get flow.functions) h ∙ e in
      let is : k.call.parts.caller ≡ graph = cc in
      let l : other.block < length k.call.parts.caller.blocks = slice_get_within k.call.parts.caller.blocks other.block k.call.parts.block k.call.is_block in
      subst (λ m. other.block < m) q (subst (λ (g : Graph). other.block < length g.blocks) is l)

  closed : (f n : ℕ) (best : Option Site) → ((other : Site) → IsCandidate flow most other → other.function ≡ f → other.block < n) → BestBefore flow counts most f n best → BestBefore flow counts most (f + 1) 0 best
  closed f n None w h = λ site l k. h site (below_function f n site l (w site k)) k
  closed f n (Some best) w h = record { candidate = h.candidate; first = λ other l k. h.first other (below_function f n other l (w other k)) k }

  pub best_closed : (f n : ℕ) (graph : Graph) (best : Option Site) → slice_get flow.functions f ≡ Some graph → length graph.blocks ≡ n → BestBefore flow counts most f n best → BestBefore flow counts most (f + 1) 0 best
  best_closed f n graph best e q h = closed f n best (within f n graph e q) h

  -- a function of which no site is a candidate
  pub best_passed : (f : ℕ) (best : Option Site) → ((other : Site) → IsCandidate flow most other → other.function ≡ f → ⊥) → BestBefore flow counts most f 0 best → BestBefore flow counts most (f + 1) 0 best
  best_passed f best n h = closed f 0 best (λ other k q. absurd (n other k q)) h

  none_below : (site : Site) → Below site (site_of 0 0) → ⊥
  none_below site (inl l) = omega (arith, l)
  none_below site (inr r) = let l : site.block < 0 = r.1 in omega (arith, l)

  pub none_before : BestBefore flow counts most 0 0 None
  none_before site l k = none_below site l

  pub chosen_last : (n : ℕ) (best : Option Site) → n ≡ length flow.functions → BestBefore flow counts most n 0 best → Chosen flow counts most best
  chosen_last n best q h = by best h
    where
      low : (other : Site) → IsCandidate flow most other → Below other (site_of n 0)
      low other k = let l : other.function < length flow.functions = slice_get_within flow.functions other.function k.call.parts.caller k.call.is_caller in inl (omega (arith, l, q))

      by : (best : Option Site) → BestBefore flow counts most n 0 best → Chosen flow counts most best
      by None h = λ site k. h site (low site k) k
      by (Some best) h = record { candidate = h.candidate; first = λ other k. h.first other (low other k) k }

  -- ---- a whole function

  pub passed_none : (f : ℕ) (best : Option Site) → slice_get flow.functions f ≡ None → BestBefore flow counts most f 0 best → BestBefore flow counts most (f + 1) 0 best
  passed_none f best e h = best_passed f best (λ other k q. (let r : Option.Some k.call.parts.caller ≡ None = sym k.call.is_caller ∙ ap (slice_get flow.functions) q ∙ e in cc)) h

  pub passed_unworthy : (f n : ℕ) (graph : Graph) (best : Option Site) → slice_get flow.functions f ≡ Some graph → n ≡ length graph.blocks → ((b : ℕ) → b < n → NoneIsWorthIt flow counts most best (site_of f b)) → BestBefore flow counts most f 0 best → BestBefore flow counts most (f + 1) 0 best
  passed_unworthy f n graph best e q u h = best_closed f n graph best e (sym q) (best_stays_all f n best u h)

  pub passed_apart : (f : ℕ) (best : Option Site) (graph : Graph) (apart : List Bool) → KnowsApart flow apart → slice_get flow.functions f ≡ Some graph → is_marked apart f ≡ false → BestBefore flow counts most f 0 best → BestBefore flow counts most (f + 1) 0 best
  passed_apart f best graph apart k e n h =
      best_passed f best (λ other o q. false≢true (sym n ∙ (k f (slice_get_within flow.functions f graph e)).1 (subst (StandsApart flow) q (apart_candidate flow most other o)))) h
