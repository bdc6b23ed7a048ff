-- A list at one of its items.
use Rattle.std.proofs.Common.{◌≡◌, ℕ, ◌+◌, ◌<◌, ◌-◌, length, drop, take, get_or, List, [], ◌∷◌, ◌++◌, ap, sym, ◌∙◌, arith}
use Rattle.std.proofs.Math.Seq.{take-length}
use Rattle.std.proofs.lemmas.List.{at_drop_more, take_more as up_to}

-- what is left of a list at one of its items
pub drop_next : {A : Type 0} (xs : List A) (i : ℕ) (x : A) → i < length xs → x ≡ get_or xs i x → drop i xs ≡ x ∷ drop (i + 1) xs
drop_next xs i x h e = at_drop_more (λ z. z) xs i x h ∙ ap (λ z. z ∷ drop (i + 1) xs) (sym e)

-- what stands up to one of its items
pub take_more : {A : Type 0} (xs : List A) (i : ℕ) (x : A) → i < length xs → x ≡ get_or xs i x → take (i + 1) xs ≡ take i xs ++ x ∷ []
take_more xs i x h e = up_to xs i x h ∙ ap (λ z. take i xs ++ z ∷ []) (sym e)

-- a list, by all but its last item and that one
pub last_item : {A : Type 0} (xs front : List A) (x : A) (i j : ℕ) → 0 < length xs → i ≡ length xs - 1 → j ≡ length xs - 1 → x ≡ get_or xs i x → front ≡ take j xs → xs ≡ front ++ x ∷ []
last_item xs front x i j some p q e f =
    let n : i + 1 ≡ length xs = omega arith in
    let w = sym (take-length xs) ∙ ap (λ k. take k xs) (sym n) ∙ take_more xs i x (omega arith) e in
    w ∙ ap (λ k. take k xs ++ x ∷ []) (p ∙ sym q) ∙ ap (λ z. z ++ x ∷ []) (sym f)
