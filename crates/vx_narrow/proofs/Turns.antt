-- A list whose items are tested one after the other: one more passes, or one does not.
use Rattle.std.proofs.Common.{◌≡◌, ℕ, ◌+◌, ◌<◌, Bool, true, false, ◌&&◌, List, length, take, get_or, ap, sym, ◌∙◌}
use Rattle.std.specs.List.{list_all}
use Rattle.std.proofs.lemmas.List.Folds.{list_all_at, list_all_more}

pub passed_more : {X : Type 0} (p : X → Bool) (xs : List X) (i : ℕ) (d : X) (b : Bool) → i < length xs → list_all p (take i xs) ≡ true → b ≡ p (get_or xs i d) → b ≡ true → list_all p (take (i + 1) xs) ≡ true
passed_more p xs i d b lt e h k = list_all_more p xs i d lt ∙ ap (λ z. z && p (get_or xs i d)) e ∙ sym h ∙ k

pub not_passed : {X : Type 0} (p : X → Bool) (xs : List X) (i : ℕ) (d : X) (b : Bool) → i < length xs → b ≡ p (get_or xs i d) → b ≡ false → false ≡ list_all p xs
not_passed p xs i d b lt h k = sym (list_all_at p xs i d lt (sym h ∙ k))
