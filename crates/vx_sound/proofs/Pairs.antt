-- A loop over the items of one list that takes one of another for each, where nothing of that one is left.
use Rattle.std.proofs.Common.{◌≡◌, ℕ, zero, suc, ◌<◌, Bool, List, [], ◌∷◌, length, drop, false, sym, ◌∙◌, arith}

module _ {A B : Type 0} (all : List A → List B → Bool) (under : (x : A) (xs : List A) → all (x ∷ xs) [] ≡ false) where
  lacking : (xs : List A) (i : ℕ) (ys : List B) → i < length xs → length ys < 1 → all (drop i xs) ys ≡ false
  lacking [] i ys h k = absurd (omega arith)
  lacking (x ∷ xs) i (y ∷ ys) h k = absurd (omega arith)
  lacking (x ∷ xs) zero [] h k = under x xs
  lacking (x ∷ xs) (suc i) [] h k = lacking xs i [] (omega arith) k

  pub pairs_lack : (xs : List A) (i : ℕ) (ys : List B) (whole : Bool) → whole ≡ all (drop i xs) ys → i < length xs → length ys < 1 → false ≡ whole
  pairs_lack xs i ys whole e h k = sym (e ∙ lacking xs i ys h k)
