-- Items of lists, and one item put in place of another.
use Rattle.std.proofs.Common.{◌≡◌, ◌-◌, ◌≤◌, ◌∙◌, ℕ, zero, suc, ◌<◌, Option, None, List, [], ◌∷◌, length, take, drop, slice_index_or, slice_set, refl, sym, ap, subst, inl, inr, arith}
use Rattle.std.specs.Prelude.{replicate}
use Rattle.std.proofs.lemmas.List.{take_all}
use Rattle.vx_flow.specs.Effects.{IsIn}

pub item_in : {A : Type 0} (xs : List A) (i : ℕ) (d : A) → i < length xs → IsIn (slice_index_or xs i d) xs
item_in [] i d h = absurd (omega arith)
item_in (x ∷ xs) zero d h = inl refl
item_in (x ∷ xs) (suc i) d h = inr (item_in xs i d (omega arith))

pub item_is : {A : Type 0} (xs : List A) (i : ℕ) (x : A) → i < length xs → x ≡ slice_index_or xs i x → IsIn x xs
item_is xs i x h e = subst (λ z. IsIn z xs) (sym e) (item_in xs i x h)

in_taken : {A : Type 0} (xs : List A) (n : ℕ) (x : A) → IsIn x (take n xs) → IsIn x xs
in_taken xs zero x h = absurd h
in_taken [] (suc n) x h = absurd h
in_taken (y ∷ xs) (suc n) x (inl e) = inl e
in_taken (y ∷ xs) (suc n) x (inr h) = inr (in_taken xs n x h)

pub in_rest : {A : Type 0} (xs : List A) (n : ℕ) (x : A) → IsIn x (take n (drop 1 xs)) → IsIn x xs
in_rest [] n x h = in_taken [] n x h
in_rest (y ∷ xs) n x h = inr (in_taken xs n x h)

pub set_many : {A : Type 0} (xs : List A) (i : ℕ) (x : A) → length (slice_set xs i x) ≡ length xs
set_many [] i x = refl
set_many (y ∷ xs) zero x = refl
set_many (y ∷ xs) (suc i) x = ap suc (set_many xs i x)

pub none_many : (n : ℕ) → length (replicate {A = Option ℕ} n None) ≡ n
none_many zero = refl
none_many (suc n) = ap suc (none_many n)

pub none_of : (bs : List ℕ) → length bs < 1 → bs ≡ []
none_of [] h = refl
none_of (b ∷ bs) h = absurd (omega arith)

-- the first item and those behind it
pub first_of : (bs : List ℕ) → 1 ≤ length bs → bs ≡ slice_index_or bs 0 0 ∷ take (length bs - 1) (drop 1 bs)
first_of [] h = absurd (omega arith)
first_of (b ∷ bs) h =
    let n : length (b ∷ bs) - 1 ≡ length bs = omega arith in
    let all : length bs ≤ length bs = omega arith in
    ap (λ l. b ∷ l) (sym (ap (λ k. take k bs) n ∙ take_all (length bs) bs all))
