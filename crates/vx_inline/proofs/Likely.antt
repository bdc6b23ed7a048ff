-- The first of the candidates by what is tested of all but free values.
use Rattle.std.proofs.Common.{◌≡◌, ◌⊎◌, inl, inr, ℕ, zero, suc, ◌+◌, ◌<◌, ◌≤◌, nat_lt, Bool, true, false, List, [], ◌∷◌, drop, get_or, length, slice_get, Option, Some, None, refl, sym, ap, ◌∙◌, subst, arith, ltb-true, ltb-false, drop-cons}
use Rattle.std.proofs.lemmas.Bool.{false≢true}
use Rattle.std.proofs.lemmas.Option.{slice_get_within}
use Rattle.vx_flow.specs.declared.graph.Flow.{Flow}
use Rattle.vx_flow.specs.Effects.{IsIn}
use Rattle.vx_flow.specs.Rows.{is_marked}
use Rattle.vx_profile.specs.declared.counts.Counts.{Counts}
use Rattle.vx_inline.specs.declared.known.Known.{Known}
use Rattle.vx_inline.specs.declared.site.Site.{Site}
use Rattle.vx_inline.specs.CallPlaces.{ListsCalls}
use Rattle.vx_inline.specs.Choosing.{IsCandidate, Below, BestOfBlocks, BestOfFunction, BestOfTwo, Chosen, ComesBefore, NoneFirst, NoneIsWorthIt, exceeds, site_of}
use Rattle.vx_inline.specs.Keeping.{Knows}
use Rattle.vx_inline.proofs.Calling.{none_listed, site_listed}
use Rattle.vx_inline.proofs.Candidates.{apart_candidate, worth_less}
use Rattle.vx_inline.proofs.Firsts.{before_both, comes, stays_first}

module _ (flow : Flow) (counts : Counts) (most : ℕ) where
  below_not : (site : Site) → Below site site → ⊥
  below_not site (inl l) = omega (arith, l)
  below_not site (inr r) = let l : site.block < site.block = r.1 in omega (arith, l)

  before_not : (site : Site) → ComesBefore counts site site → ⊥
  before_not site (inl l) = omega (arith, l)
  before_not site (inr r) = below_not site r.1

  -- what comes before a site that comes before the best comes before the best
  exceeds_on : (best : Option Site) (site other : Site) → exceeds counts best site ≡ true → exceeds counts (Some site) other ≡ true → exceeds counts best other ≡ true
  exceeds_on None site other e h = refl
  exceeds_on (Some best) site other e h = by (exceeds counts (Some best) other) refl
    where
      before : ComesBefore counts other best
      before = before_both flow counts most other site best (comes flow counts most site other h) (comes flow counts most best site e)

      behind : (other ≡ best) ⊎ ComesBefore counts best other → ⊥
      behind (inl q) = before_not best (subst (λ s. ComesBefore counts s best) q before)
      behind (inr m) = before_not other (before_both flow counts most other best other before m)

      by : (t : Bool) → exceeds counts (Some best) other ≡ t → t ≡ true
      by true q = refl
      by false q = absurd (behind (stays_first flow counts most best other q))

  -- ---- one site more

  pub first_stays : (best : Option Site) (site : Site) → NoneIsWorthIt flow counts most best site → BestOfTwo flow counts most site best best
  first_stays best site n = record { own = n; rest = λ s h. h }

  pub first_passed : (best : Option Site) (site : Site) → exceeds counts best site ≡ false → BestOfTwo flow counts most site best best
  first_passed best site e = first_stays best site (worth_less flow counts most best site e)

  pub first_taken : (best : Option Site) (site : Site) → exceeds counts best site ≡ true → BestOfTwo flow counts most site best (Some site)
  first_taken best site e = record { own = λ k x. before_not site (comes flow counts most site site x); rest = λ s h k x. h k (exceeds_on best site s e x) }

  -- ---- the sites of a function

  -- all but these are looked at
  pub record SoFar (f : ℕ) (blocks todo : List ℕ) (other best : Option Site) : Type 0 where
    pub own : (b : ℕ) → IsIn b blocks → NoneIsWorthIt flow counts most best (site_of f b) ⊎ IsIn b todo
    pub rest : (s : Site) → NoneIsWorthIt flow counts most other s → NoneIsWorthIt flow counts most best s

  pub so_far_first : (f : ℕ) (blocks : List ℕ) (best : Option Site) → SoFar f blocks blocks best best
  so_far_first f blocks best = record { own = λ b i. inr i; rest = λ s h. h }

  so_far_more : (f block : ℕ) (blocks todo : List ℕ) (other best new : Option Site) → SoFar f blocks (block ∷ todo) other best → BestOfTwo flow counts most (site_of f block) best new → SoFar f blocks todo other new
  so_far_more f block blocks todo other best new k w = record { own = λ b i. by b (k.own b i); rest = λ s h. w.rest s (k.rest s h) }
    where
      by : (b : ℕ) → NoneIsWorthIt flow counts most best (site_of f b) ⊎ IsIn b (block ∷ todo) → NoneIsWorthIt flow counts most new (site_of f b) ⊎ IsIn b todo
      by b (inl n) = inl (w.rest (site_of f b) n)
      by b (inr (inl q)) = inl (subst (λ j. NoneIsWorthIt flow counts most new (site_of f j)) (sym q) w.own)
      by b (inr (inr i)) = inr i

  pub so_far_next : (f : ℕ) (blocks : List ℕ) (i z : ℕ) (other best new : Option Site) → i < length blocks → SoFar f blocks (drop i blocks) other best → BestOfTwo flow counts most (site_of f (get_or blocks i z)) best new → SoFar f blocks (drop (i + 1) blocks) other new
  so_far_next f blocks i z other best new l k w =
      let a : drop i blocks ≡ get_or blocks i z ∷ drop (suc i) blocks = drop-cons blocks i z l in
      let n : suc i ≡ i + 1 = omega arith in
      subst (λ j. SoFar f blocks (drop j blocks) other new) n (so_far_more f (get_or blocks i z) blocks (drop (suc i) blocks) other best new (subst (λ todo. SoFar f blocks todo other best) a k) w)

  drop_past : (blocks : List ℕ) (i : ℕ) → length blocks ≤ i → drop i blocks ≡ []
  drop_past [] zero l = refl
  drop_past [] (suc i) l = refl
  drop_past (x ∷ xs) zero l = absurd (omega (arith, l))
  drop_past (x ∷ xs) (suc i) l = drop_past xs i (omega (arith, l))

  so_far_none : (f : ℕ) (blocks : List ℕ) (other best : Option Site) → SoFar f blocks [] other best → BestOfBlocks flow counts most f blocks other best
  so_far_none f blocks other best k = record { own = λ b i. by b (k.own b i); rest = k.rest }
    where
      by : (b : ℕ) → NoneIsWorthIt flow counts most best (site_of f b) ⊎ ⊥ → NoneIsWorthIt flow counts most best (site_of f b)
      by b (inl n) = n
      by b (inr i) = absurd i

  pub so_far_last : (f : ℕ) (blocks : List ℕ) (i : ℕ) (other best : Option Site) → length blocks ≤ i → SoFar f blocks (drop i blocks) other best → BestOfBlocks flow counts most f blocks other best
  so_far_last f blocks i other best l k = so_far_none f blocks other best (subst (λ todo. SoFar f blocks todo other best) (drop_past blocks i l) k)

  -- ---- a function

  pub all_listed : (f : ℕ) (calls : List (List ℕ)) (row : List ℕ) (other best : Option Site) → ListsCalls flow calls → slice_get calls f ≡ Some row → BestOfBlocks flow counts most f row other best → BestOfFunction flow counts most f other best
  all_listed f calls row other best k e w = record { own = λ s q c x. own s q c x; rest = w.rest }
    where
      own : (s : Site) → s.function ≡ f → IsCandidate flow most s → exceeds counts best s ≡ true → ⊥
      own s q c x =
          let i : IsIn s.block row = site_listed flow s calls row k (ap (slice_get calls) q ∙ e) c.call in
          let is : s ≡ site_of f s.block = λ j. record { function = q j; block = s.block } in
          w.own s.block i (subst (IsCandidate flow most) is c) (subst (λ z. exceeds counts best z ≡ true) is x)

  pub not_listed : (f : ℕ) (calls : List (List ℕ)) (best : Option Site) → ListsCalls flow calls → slice_get calls f ≡ None → BestOfFunction flow counts most f best best
  not_listed f calls best k e = record { own = λ s q c x. none_listed flow s calls k (ap (slice_get calls) q ∙ e) c.call; rest = λ s h. h }

  pub not_apart : (f : ℕ) (known : Known) (best : Option Site) → Knows flow known → is_marked known.apart.items f ≡ false → BestOfFunction flow counts most f best best
  not_apart f known best k e = record { own = λ s q c x. none s q c; rest = λ s h. h }
    where
      none : (s : Site) → s.function ≡ f → IsCandidate flow most s → ⊥
      none s q c =
          let low : s.function < length flow.functions = slice_get_within flow.functions s.function c.call.parts.caller c.call.is_caller in
          let t : is_marked known.apart.items s.function ≡ true = (k.apart s.function low).1 (apart_candidate flow most s c) in
          false≢true (sym e ∙ ap (is_marked known.apart.items) (sym q) ∙ t)

  -- ---- all functions

  -- none of the candidates of functions below f comes before the best
  abbrev pub NoneBelow : ℕ → Option Site → Type 0
  NoneBelow f best = (s : Site) → s.function < f → NoneIsWorthIt flow counts most best s

  pub below_first : NoneBelow 0 None
  below_first s l k x = omega (arith, l)

  pub below_next : (f : ℕ) (other best : Option Site) → NoneBelow f other → BestOfFunction flow counts most f other best → NoneBelow (f + 1) best
  below_next f other best h w s l = by (nat_lt s.function f) refl
    where
      by : (t : Bool) → nat_lt s.function f ≡ t → NoneIsWorthIt flow counts most best s
      by true e = w.rest s (h s (ltb-true s.function f e))
      by false e = let m : f ≤ s.function = ltb-false s.function f e in let q : s.function ≡ f = omega (arith, l, m) in w.own s q

  pub below_last : (f : ℕ) (best : Option Site) → f ≡ length flow.functions → NoneBelow f best → NoneFirst flow counts most best
  below_last f best e h s k x = let l : s.function < length flow.functions = slice_get_within flow.functions s.function k.call.parts.caller k.call.is_caller in h s (omega (arith, l, e)) k x

  -- ---- what is chosen

  pub none_chosen : (best : Option Site) → best ≡ None → NoneFirst flow counts most best → Chosen flow counts most None
  none_chosen best e h site k = subst (λ (o : Option Site). NoneFirst flow counts most o) e h site k refl

  pub first_chosen : (site : Site) → IsCandidate flow most site → NoneFirst flow counts most (Some site) → Chosen flow counts most (Some site)
  first_chosen site k h = record { candidate = k; first = λ other c. by other c (exceeds counts (Some site) other) refl }
    where
      by : (other : Site) → IsCandidate flow most other → (t : Bool) → exceeds counts (Some site) other ≡ t → (other ≡ site) ⊎ ComesBefore counts site other
      by other c true e = absurd (h other c e)
      by other c false e = stays_first flow counts most site other e
