-- Turns one after the other: a later turn changes nothing of what the earlier ones gave.
use Rattle.std.proofs.Common.{◌≡◌, ◌<◌, ◌≤◌, ◌≢◌, ◌⊎◌, inl, inr, ⊎_elim, refl, sym, ◌∙◌, ap, arith, subst, ℕ, zero, suc, Some, None, List, [], ◌∷◌, ◌++◌, length, take, slice_get, slice_set, slice_index_or}
use Rattle.std.proofs.lemmas.List.{get_or-set_same, get_or-set_other, length-set, take-append-le, take_at}
use Rattle.vx_flow.specs.declared.trace.TraceOp.{TraceOp}
use Rattle.vx_flow.specs.declared.trace.Trace.{Trace}
use Rattle.vx_flow.specs.Effects.{IsIn}
use Rattle.vx_isa.specs.Numbers.{Numbers}
use Rattle.vx_dep.specs.Delays.{Stands}
use Rattle.vx_bug.specs.Clusters.{Books, estimate_of, after_turn, books_after, IsBest}
use Rattle.vx_bug.specs.Choices.{TurnTaken, TurnsTaken}

-- books

pub books_same : (m : Numbers) (t : Trace) (chosen new : List ℕ) (b : Books) (is : List ℕ) → ((i : ℕ) → IsIn i is → slice_index_or chosen i 0 ≡ slice_index_or new i 0) → books_after m t chosen b is ≡ books_after m t new b is
books_same m t chosen new b [] h = refl
books_same m t chosen new b (i ∷ is) h =
    ap (λ c. books_after m t chosen (after_turn m t b i (slice_get t.ops i) c) is) (h i (inl refl))
    ∙ books_same m t chosen new (after_turn m t b i (slice_get t.ops i) (slice_index_or new i 0)) is (λ j k. h j (inr k))

pub books_end : (m : Numbers) (t : Trace) (chosen : List ℕ) (b : Books) (is : List ℕ) (i : ℕ) → books_after m t chosen b (is ++ i ∷ []) ≡ after_turn m t (books_after m t chosen b is) i (slice_get t.ops i) (slice_index_or chosen i 0)
books_end m t chosen b [] i = refl
books_end m t chosen b (j ∷ is) i = books_end m t chosen (after_turn m t b j (slice_get t.ops j) (slice_index_or chosen j 0)) is i

-- places of a longer list

taken_in : (k i : ℕ) (is : List ℕ) → IsIn i (take k is) → IsIn i is
taken_in zero i is h = absurd h
taken_in (suc k) i [] h = absurd h
taken_in (suc k) i (j ∷ is) h = ⊎_elim (λ e. inl e) (λ r. inr (taken_in k i is r)) h

got_in : (is : List ℕ) (k i : ℕ) → slice_get is k ≡ Some i → IsIn i is
got_in [] k i e = absurd cc
got_in (j ∷ is) zero i e = let h : i ≡ j = cc in inl h
got_in (j ∷ is) (suc k) i e = inr (got_in is k i e)

pub record Earlier (is : List ℕ) (k i : ℕ) : Type 0 where
  pub within : k < length is
  pub got : slice_get is k ≡ Some i

pub record Last (is : List ℕ) (j k i : ℕ) : Type 0 where
  pub place : k ≡ length is
  pub same : i ≡ j

got_end : (is : List ℕ) (j k i : ℕ) → slice_get (is ++ j ∷ []) k ≡ Some i → Earlier is k i ⊎ Last is j k i
got_end [] j zero i e = let h : i ≡ j = cc in inr (record { place = refl; same = h })
got_end [] j (suc k) i e = absurd cc
got_end (x ∷ is) j zero i e = let h : 0 < length (x ∷ is) = omega arith in inl (record { within = h; got = e })
got_end (x ∷ is) j (suc k) i e = ⊎_elim
    (λ (a : Earlier is k i). let w = a.within in let h : suc k < length (x ∷ is) = omega (arith, w) in inl (record { within = h; got = a.got }))
    (λ (a : Last is j k i). let p = a.place in let h : suc k ≡ length (x ∷ is) = omega (arith, p) in inr (record { place = h; same = a.same }))
    (got_end is j k i e)

-- turns

pub no_turns : (m : Numbers) (t : Trace) (before : Books) (chosen estimates : List ℕ) → length chosen ≡ length t.ops → length estimates ≡ length t.ops → TurnsTaken m t before [] chosen estimates before
no_turns m t before chosen estimates p q = record {
  each_chosen = p;
  each_estimate = q;
  best = λ k i op e s. absurd (none k i e);
  expected = λ k i op e s. absurd (none k i e);
  books = refl;
}
  where
    none : (k i : ℕ) → slice_get {X = ℕ} [] k ≡ Some i → ⊥
    none k i e = cc

module _ (m : Numbers) (t : Trace) (before : Books) (is : List ℕ) (j c n : ℕ) (chosen estimates : List ℕ) (now behind : Books)
    (made : TurnsTaken m t before is chosen estimates now) (fresh : IsIn j is → ⊥) (inside : j < length t.ops) (turn : TurnTaken m t now j c n behind) where
  new : List ℕ
  new = slice_set chosen j c

  later : List ℕ
  later = slice_set estimates j n

  apart : (i : ℕ) → IsIn i is → i ≢ j
  apart i h e = fresh (subst (λ x. IsIn x is) e h)

  kept : (i : ℕ) → IsIn i is → slice_index_or chosen i 0 ≡ slice_index_or new i 0
  unfolding new
  kept i h = sym (get_or-set_other chosen j i c 0 (apart i h))

  kept_estimate : (i : ℕ) → IsIn i is → slice_index_or estimates i 0 ≡ slice_index_or later i 0
  unfolding later
  kept_estimate i h = sym (get_or-set_other estimates j i n 0 (apart i h))

  given : slice_index_or new j 0 ≡ c
  unfolding new
  given = let e = made.each_chosen in let k : j < length chosen = omega (arith, inside, e) in get_or-set_same chosen j c 0 k

  expected_then : slice_index_or later j 0 ≡ n
  unfolding later
  expected_then = let e = made.each_estimate in let k : j < length estimates = omega (arith, inside, e) in get_or-set_same estimates j n 0 k

  books_then : (k : ℕ) → k ≤ length is → books_after m t chosen before (take k is) ≡ books_after m t new before (take k (is ++ j ∷ []))
  books_then k h =
      books_same m t chosen new before (take k is) (λ i q. kept i (taken_in k i is q))
      ∙ ap (books_after m t new before) (sym (take-append-le k is (j ∷ []) h))

  books_now : now ≡ books_after m t new before is
  books_now = made.books ∙ books_same m t chosen new before is kept

  books_at_last : now ≡ books_after m t new before (take (length is) (is ++ j ∷ []))
  books_at_last = books_now ∙ ap (books_after m t new before) (sym (take_at is (j ∷ []) (length is) refl))

  best_then : (k i : ℕ) (op : TraceOp) → slice_get (is ++ j ∷ []) k ≡ Some i → Stands t i op → IsBest m t (books_after m t new before (take k (is ++ j ∷ []))) i (slice_index_or t.fixed i None) op (slice_index_or new i 0)
  best_then k i op e s = ⊎_elim
      (λ (a : Earlier is k i).
      let w = a.within in
      let h : k ≤ length is = omega (arith, w) in
      subst (λ b. IsBest m t b i (slice_index_or t.fixed i None) op (slice_index_or new i 0)) (books_then k h)
      (subst (λ x. IsBest m t (books_after m t chosen before (take k is)) i (slice_index_or t.fixed i None) op x) (kept i (got_in is k i a.got)) (made.best k i op a.got s)))
      (λ (a : Last is j k i).
      let there : Stands t j op = subst (λ x. Stands t x op) a.same s in
      subst (λ x. IsBest m t (books_after m t new before (take x (is ++ j ∷ []))) i (slice_index_or t.fixed i None) op (slice_index_or new i 0)) (sym a.place)
      (subst (λ x. IsBest m t (books_after m t new before (take (length is) (is ++ j ∷ []))) x (slice_index_or t.fixed x None) op (slice_index_or new x 0)) (sym a.same)
      (subst (λ b. IsBest m t b j (slice_index_or t.fixed j None) op (slice_index_or new j 0)) books_at_last
      (subst (λ x. IsBest m t now j (slice_index_or t.fixed j None) op x) (sym given) (turn.best op there)))))
      (got_end is j k i e)

  estimate_then : (k i : ℕ) (op : TraceOp) → slice_get (is ++ j ∷ []) k ≡ Some i → Stands t i op → slice_index_or later i 0 ≡ estimate_of m t (books_after m t new before (take k (is ++ j ∷ []))) i op (slice_index_or new i 0)
  estimate_then k i op e s = ⊎_elim
      (λ (a : Earlier is k i).
      let w = a.within in
      let h : k ≤ length is = omega (arith, w) in
      sym (kept_estimate i (got_in is k i a.got)) ∙ made.expected k i op a.got s
      ∙ ap (λ x. estimate_of m t (books_after m t chosen before (take k is)) i op x) (kept i (got_in is k i a.got))
      ∙ ap (λ b. estimate_of m t b i op (slice_index_or new i 0)) (books_then k h))
      (λ (a : Last is j k i).
      let there : Stands t j op = subst (λ x. Stands t x op) a.same s in
      ap (λ x. slice_index_or later x 0) a.same ∙ expected_then ∙ turn.expected op there
      ∙ ap (λ x. estimate_of m t now j op x) (sym given)
      ∙ ap (λ b. estimate_of m t b j op (slice_index_or new j 0)) books_at_last
      ∙ ap (λ x. estimate_of m t (books_after m t new before (take (length is) (is ++ j ∷ []))) x op (slice_index_or new x 0)) (sym a.same)
      ∙ ap (λ x. estimate_of m t (books_after m t new before (take x (is ++ j ∷ []))) i op (slice_index_or new i 0)) (sym a.place))
      (got_end is j k i e)

  books_behind : behind ≡ books_after m t new before (is ++ j ∷ [])
  books_behind =
      turn.books ∙ ap (λ x. after_turn m t now j (slice_get t.ops j) x) (sym given) ∙ ap (λ b. after_turn m t b j (slice_get t.ops j) (slice_index_or new j 0)) books_now
      ∙ sym (books_end m t new before is j)

  pub one_turn : TurnsTaken m t before (is ++ j ∷ []) (slice_set chosen j c) (slice_set estimates j n) behind
  unfolding new later
  one_turn = record {
    each_chosen = length-set chosen j c ∙ made.each_chosen;
    each_estimate = length-set estimates j n ∙ made.each_estimate;
    best = best_then;
    expected = estimate_then;
    books = books_behind;
  }
