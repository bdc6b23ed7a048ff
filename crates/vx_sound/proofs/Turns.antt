-- A loop that tests the items of a list one by one: a turn of it, its end at an item, and its end behind the last.
use Rattle.std.proofs.Common.{◌≡◌, ℕ, ◌+◌, ◌-◌, ◌<◌, ◌≤◌, Bool, true, false, List, ◌==◌, length, take, drop, get_or, eq-eqb, refl, ap, sym, ◌∙◌}
use Rattle.std.proofs.lemmas.List.{drop_all, drop_more, take_all, take_rest}
use Rattle.std.proofs.lemmas.List.Folds.{list_all_at, list_all_more, list_any_at, list_any_more}
use Rattle.std.specs.List.{list_all, list_any}
use Rattle.std.specs.Prelude.{◌&&◌, ◌||◌, not}
use Rattle.vx_flow.specs.Sound.{are_distinct}
use Rattle.vx_flow.proofs.SoundLists.{differs_of}

module _ {X : Type 0} (p : X → Bool) (xs : List X) (i : ℕ) where
  -- all items pass, as item i does
  pub all_more : (d : X) (b : Bool) → i < length xs → list_all p (take i xs) ≡ true → b ≡ p (get_or xs i d) → b ≡ true → list_all p (take (i + 1) xs) ≡ true
  all_more d b lt e h k = list_all_more p xs i d lt ∙ ap (λ z. z && p (get_or xs i d)) e ∙ sym h ∙ k

  -- item i does not pass
  pub all_not : (d : X) (b : Bool) → i < length xs → b ≡ p (get_or xs i d) → b ≡ false → false ≡ list_all p xs
  all_not d b lt h k = sym (list_all_at p xs i d lt (sym h ∙ k))

  pub all_whole : length xs ≤ i → list_all p (take i xs) ≡ true → true ≡ list_all p xs
  all_whole le e = sym e ∙ ap (list_all p) (take_all i xs le)

  -- no item passes, nor does item i
  pub any_more : (d : X) (b : Bool) → i < length xs → list_any p (take i xs) ≡ false → b ≡ p (get_or xs i d) → b ≡ false → list_any p (take (i + 1) xs) ≡ false
  any_more d b lt e h k = list_any_more p xs i d lt ∙ ap (λ z. z || p (get_or xs i d)) e ∙ sym h ∙ k

  -- item i passes
  pub any_here : (d : X) (b : Bool) → i < length xs → b ≡ p (get_or xs i d) → b ≡ true → true ≡ list_any p xs
  any_here d b lt h k = sym (list_any_at p xs i d lt (sym h ∙ k))

  pub any_whole : length xs ≤ i → list_any p (take i xs) ≡ false → false ≡ list_any p xs
  any_whole le e = sym e ∙ ap (list_any p) (take_all i xs le)

  -- the same of what is still to be tested
  pub rest_more : (d : X) (b : Bool) → i < length xs → list_all p xs ≡ list_all p (drop i xs) → b ≡ p (get_or xs i d) → b ≡ true → list_all p xs ≡ list_all p (drop (i + 1) xs)
  rest_more d b lt e h k = e ∙ ap (list_all p) (drop_more xs i d lt) ∙ ap (λ z. z && list_all p (drop (i + 1) xs)) (sym h ∙ k)

  pub rest_whole : length xs ≤ i → list_all p xs ≡ list_all p (drop i xs) → true ≡ list_all p xs
  rest_whole le e = sym (e ∙ ap (list_all p) (drop_all i xs le))

-- no item is v
module _ (v : ℕ) (us : List ℕ) (i d : ℕ) where
  pub others_more : i < length us → list_all (λ u. not (u == v)) (take i us) ≡ true → (get_or us i d ≡ v → ⊥) → list_all (λ u. not (u == v)) (take (i + 1) us) ≡ true
  others_more lt e f = all_more (λ u. not (u == v)) us i d (not (get_or us i d == v)) lt e refl (differs_of (get_or us i d) v f)

  pub others_not : i < length us → get_or us i d ≡ v → false ≡ list_all (λ u. not (u == v)) us
  others_not lt e = all_not (λ u. not (u == v)) us i d (not (get_or us i d == v)) lt refl (ap not (eq-eqb (get_or us i d) v e))

-- some item is v
module _ (v : ℕ) (us : List ℕ) (i d : ℕ) where
  pub among_more : i < length us → list_any (λ u. u == v) (take i us) ≡ false → (get_or us i d ≡ v → ⊥) → list_any (λ u. u == v) (take (i + 1) us) ≡ false
  among_more lt e f = any_more (λ u. u == v) us i d (get_or us i d == v) lt e refl (unset (get_or us i d == v) (differs_of (get_or us i d) v f))
    where
      unset : (b : Bool) → not b ≡ true → b ≡ false
      unset true h = sym h
      unset false h = refl

  pub among_here : i < length us → get_or us i d ≡ v → true ≡ list_any (λ u. u == v) us
  among_here lt e = any_here (λ u. u == v) us i d (get_or us i d == v) lt refl (eq-eqb (get_or us i d) v e)

-- no item stands twice
module _ (us : List ℕ) (i : ℕ) where
  distinct_next : (d : ℕ) (b : Bool) → i < length us → are_distinct us ≡ are_distinct (drop i us) → b ≡ list_all (λ u. not (u == get_or us i d)) (take (length us - (i + 1)) (drop (i + 1) us)) → are_distinct us ≡ (b && are_distinct (drop (i + 1) us))
  distinct_next d b lt e h = e ∙ ap are_distinct (drop_more us i d lt) ∙ ap (λ z. z && are_distinct (drop (i + 1) us)) (sym (h ∙ ap (list_all (λ u. not (u == get_or us i d))) (take_rest us (i + 1))))

  pub distinct_more : (d : ℕ) (b : Bool) → i < length us → are_distinct us ≡ are_distinct (drop i us) → b ≡ list_all (λ u. not (u == get_or us i d)) (take (length us - (i + 1)) (drop (i + 1) us)) → b ≡ true → are_distinct us ≡ are_distinct (drop (i + 1) us)
  distinct_more d b lt e h k = distinct_next d b lt e h ∙ ap (λ z. z && are_distinct (drop (i + 1) us)) k

  pub distinct_not : (d : ℕ) (b : Bool) → i < length us → are_distinct us ≡ are_distinct (drop i us) → b ≡ list_all (λ u. not (u == get_or us i d)) (take (length us - (i + 1)) (drop (i + 1) us)) → b ≡ false → false ≡ are_distinct us
  distinct_not d b lt e h k = sym (distinct_next d b lt e h ∙ ap (λ z. z && are_distinct (drop (i + 1) us)) k)

  pub distinct_whole : length us ≤ i → are_distinct us ≡ are_distinct (drop i us) → true ≡ are_distinct us
  distinct_whole le e = sym (e ∙ ap are_distinct (drop_all i us le))
