-- Two lists of which each two items in one place are related: their lengths, their items, and one more of each.
use Rattle.std.proofs.Common.{◌≡◌, inl, inr, ℕ, zero, suc, ◌+◌, ◌<◌, List, [], ◌∷◌, ◌++◌, length, take, get_or, slice_get, Option, Some, None, refl, sym, ap, ◌∙◌, subst, arith}
use Rattle.vx_shape.specs.Flows.{Each, OrSame}
use Rattle.vx_shape.proofs.Lists.{take_more}

pub each_length : {A : Type 0} (R : A → A → Type 0) (xs ys : List A) → Each R xs ys → length ys ≡ length xs
each_length R [] [] s = refl
each_length R [] (y ∷ ys) s = absurd s
each_length R (x ∷ xs) [] s = absurd s
each_length R (x ∷ xs) (y ∷ ys) s = ap suc (each_length R xs ys s.1)

-- what stands in one place of both
abbrev pub At : {A : Type 0} → (A → A → Type 0) → Option A → Option A → Type 0
At R None None = Unit {0}
At R None (Some y) = ⊥
At R (Some x) None = ⊥
At R (Some x) (Some y) = R x y

pub each_at : {A : Type 0} (R : A → A → Type 0) (xs ys : List A) → Each R xs ys → (i : ℕ) → At R (slice_get xs i) (slice_get ys i)
each_at R [] [] s i = tt
each_at R [] (y ∷ ys) s i = absurd s
each_at R (x ∷ xs) [] s i = absurd s
each_at R (x ∷ xs) (y ∷ ys) s zero = s.0
each_at R (x ∷ xs) (y ∷ ys) s (suc i) = each_at R xs ys s.1 i

each_more : {A : Type 0} (R : A → A → Type 0) (xs ys : List A) (x y : A) → Each R xs ys → R x y → Each R (xs ++ x ∷ []) (ys ++ y ∷ [])
each_more R [] [] x y s t = (t, tt)
each_more R [] (k ∷ ks) x y s t = absurd s
each_more R (b ∷ bs) [] x y s t = absurd s
each_more R (b ∷ bs) (k ∷ ks) x y s t = (s.0, each_more R bs ks x y s.1 t)

pub each_next : {A : Type 0} (R : A → A → Type 0) (xs ys : List A) (i : ℕ) (x y : A) → i < length xs → x ≡ get_or xs i x → Each R (take i xs) ys → R x y → Each R (take (i + 1) xs) (ys ++ y ∷ [])
each_next R xs ys i x y l e s t =
    let a : suc i ≡ i + 1 = omega arith in
    let q : take i xs ++ x ∷ [] ≡ take (i + 1) xs = sym (take_more xs i x l e) ∙ ap (λ j. take j xs) a in
    subst (λ k. Each R k (ys ++ y ∷ [])) q (each_more R (take i xs) ys x y s t)

one_related : {A : Type 0} (R : A → A → Type 0) (x y : A) → R x x → OrSame R x y → R x y
one_related R x y itself (inl e) = subst (R x) (sym e) itself
one_related R x y itself (inr t) = t

-- where each item is related to itself
pub each_related : {A : Type 0} (R : A → A → Type 0) (xs ys : List A) → ((x : A) → R x x) → Each (OrSame R) xs ys → Each R xs ys
each_related R [] [] itself s = tt
each_related R [] (y ∷ ys) itself s = absurd s
each_related R (x ∷ xs) [] itself s = absurd s
each_related R (x ∷ xs) (y ∷ ys) itself s = (one_related R x y (itself x) s.0, each_related R xs ys itself s.1)
