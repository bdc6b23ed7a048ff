-- Tests of lists and of their items, in both directions.
use Rattle.std.proofs.Common.{◌≡◌, ◌⊎◌, inl, inr, ℕ, zero, suc, ◌<◌, Bool, true, false, ◌==◌, ◌||◌, ◌+◌, List, [], ◌∷◌, length, take, get_or, slice_get, Some, refl, sym, ap, subst, ◌∙◌, eq-eqb, arith}
use Rattle.std.proofs.lemmas.Bool.{and_parts, false≢true, eqb-true}
use Rattle.std.proofs.lemmas.List.Folds.{list_any_more}
use Rattle.std.specs.Cmp.Derive.{both_true}
use Rattle.std.specs.List.{list_all, list_any}
use Rattle.std.specs.Prelude.{not}
use Rattle.vx_flow.specs.Effects.{IsIn}
use Rattle.vx_flow.specs.Sound.{are_distinct}

pub in_one : {A : Type 0} (x y : A) → IsIn x (y ∷ []) → x ≡ y
in_one x y (inl e) = e
in_one x y (inr z) = absurd z

pub or_parts : (a b : Bool) → (a || b) ≡ true → (a ≡ true) ⊎ (b ≡ true)
or_parts true b h = inl refl
or_parts false b h = inr h

pub or_left : (a b : Bool) → a ≡ true → (a || b) ≡ true
or_left true b h = refl
or_left false b h = absurd (false≢true h)

pub or_right : (a b : Bool) → b ≡ true → (a || b) ≡ true
or_right true b h = refl
or_right false b h = h

pub not_both : (a : Bool) → a ≡ true → not a ≡ true → ⊥
not_both true h k = false≢true k
not_both false h k = false≢true h

pub not_of : (a : Bool) → (a ≡ true → ⊥) → not a ≡ true
not_of true f = absurd (f refl)
not_of false f = refl

pub differs : (u v : ℕ) → not (u == v) ≡ true → u ≡ v → ⊥
differs u v h e = not_both (u == v) (eq-eqb u v e) h

pub differs_of : (u v : ℕ) → (u ≡ v → ⊥) → not (u == v) ≡ true
differs_of u v f = not_of (u == v) (λ e. f (eqb-true u v e))

-- each item

pub all_in : {A : Type 0} (p : A → Bool) (xs : List A) (x : A) → list_all p xs ≡ true → IsIn x xs → p x ≡ true
all_in p [] x h m = absurd m
all_in p (y ∷ ys) x h (inl e) = subst (λ z. p z ≡ true) (sym e) (and_parts _ _ h).0
all_in p (y ∷ ys) x h (inr m) = all_in p ys x (and_parts _ _ h).1 m

pub all_of : {A : Type 0} (p : A → Bool) (xs : List A) → ((x : A) → IsIn x xs → p x ≡ true) → list_all p xs ≡ true
all_of p [] f = refl
all_of p (y ∷ ys) f = both_true (f y (inl refl)) (all_of p ys (λ x m. f x (inr m)))

pub all_at : {A : Type 0} (p : A → Bool) (xs : List A) (i : ℕ) (x : A) → list_all p xs ≡ true → slice_get xs i ≡ Some x → p x ≡ true
all_at p [] i x h e = absurd (cc)
all_at p (y ∷ ys) zero x h e = let q : y ≡ x = cc in subst (λ z. p z ≡ true) q (and_parts _ _ h).0
all_at p (y ∷ ys) (suc i) x h e = all_at p ys i x (and_parts _ _ h).1 e

pub all_of_at : {A : Type 0} (p : A → Bool) (xs : List A) → ((i : ℕ) (x : A) → slice_get xs i ≡ Some x → p x ≡ true) → list_all p xs ≡ true
all_of_at p [] f = refl
all_of_at p (y ∷ ys) f = both_true (f zero y refl) (all_of_at p ys (λ i x e. f (suc i) x e))

-- a turn of a loop that tests the items one by one
pub any_more : {A : Type 0} (p : A → Bool) (xs : List A) (i : ℕ) (d : A) (b : Bool) → i < length xs → list_any p (take i xs) ≡ false → b ≡ p (get_or xs i d) → b ≡ false → list_any p (take (i + 1) xs) ≡ false
any_more p xs i d b lt e h k = list_any_more p xs i d lt ∙ ap (λ z. z || p (get_or xs i d)) e ∙ sym h ∙ k

-- some item

pub record Found {A : Type 0} (p : A → Bool) (xs : List A) : Type 0 where
  pub item : A
  pub has : IsIn item xs
  pub holds : p item ≡ true

pub any_in : {A : Type 0} (p : A → Bool) (xs : List A) → list_any p xs ≡ true → Found p xs
any_in p [] h = absurd (false≢true h)
any_in p (y ∷ ys) h = elim (or_parts (p y) (list_any p ys) h) [
  | inl e ↦ record { item = y; has = inl refl; holds = e }
  | inr k ↦ let f = any_in p ys k in record { item = f.item; has = inr f.has; holds = f.holds }
]

pub any_of : {A : Type 0} (p : A → Bool) (xs : List A) (x : A) → IsIn x xs → p x ≡ true → list_any p xs ≡ true
any_of p [] x m h = absurd m
any_of p (y ∷ ys) x (inl e) h = or_left (p y) (list_any p ys) (subst (λ z. p z ≡ true) e h)
any_of p (y ∷ ys) x (inr m) h = or_right (p y) (list_any p ys) (any_of p ys x m h)

-- no item twice

pub distinct_at : (vs : List ℕ) (i j v : ℕ) → are_distinct vs ≡ true → i < j → slice_get vs i ≡ Some v → slice_get vs j ≡ Some v → ⊥
distinct_at [] i j v h below e f = absurd (cc)
distinct_at (u ∷ us) i zero v h below e f = absurd (omega arith)
distinct_at (u ∷ us) zero (suc j) v h below e f =
    let q : v ≡ u = cc in differs v u (all_at (λ w. not (w == u)) us j v (and_parts _ _ h).0 f) q
distinct_at (u ∷ us) (suc i) (suc j) v h below e f = distinct_at us i j v (and_parts _ _ h).1 (omega arith) e f

pub distinct_of : (vs : List ℕ) → ((i j v : ℕ) → i < j → slice_get vs i ≡ Some v → slice_get vs j ≡ Some v → ⊥) → are_distinct vs ≡ true
distinct_of [] f = refl
distinct_of (u ∷ us) f = both_true
    (all_of_at (λ w. not (w == u)) us (λ j w e. differs_of w u (λ k. f zero (suc j) u (omega arith) refl (e ∙ ap Some k))))
    (distinct_of us (λ i j v below e g. f (suc i) (suc j) v (omega arith) e g))
