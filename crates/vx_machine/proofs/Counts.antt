-- What was found of the items up to a place: how many pass a test, and that all do.
use Rattle.std.proofs.Common.{◌≡◌, ℕ, ◌+◌, ◌<◌, ◌≤◌, Bool, true, false, ◌&&◌, List, get_or, sym, ap, ◌∙◌, length, take, length-take-le, arith}
use Rattle.std.specs.List.{count_by, list_all}
use Rattle.std.proofs.lemmas.List.Folds.{list_all_at, list_all_more}
use Rattle.std.proofs.lemmas.List.Sums.{count_by-le-length}

-- a count stays within the length of the list
pub count_within : {X : Type 0} (p : X → Bool) (xs : List X) (i n : ℕ) → i < length xs → n ≡ count_by p (take i xs) → n + 1 ≤ length xs
count_within p xs i n lt e =
    let below = count_by-le-length p (take i xs) in
    let short : length (take i xs) ≡ i = length-take-le i xs (omega arith) in
    omega arith

-- one more passes
pub all_more : {X : Type 0} (p : X → Bool) (xs : List X) (i : ℕ) (d : X) (b : Bool) → i < length xs → list_all p (take i xs) ≡ true → b ≡ p (get_or xs i d) → b ≡ true → list_all p (take (i + 1) xs) ≡ true
all_more p xs i d b lt e h k = list_all_more p xs i d lt ∙ ap (λ z. z && p (get_or xs i d)) e ∙ sym h ∙ k

-- one does not
pub all_not : {X : Type 0} (p : X → Bool) (xs : List X) (i : ℕ) (d : X) (b : Bool) → i < length xs → b ≡ p (get_or xs i d) → b ≡ false → false ≡ list_all p xs
all_not p xs i d b lt h k = sym (list_all_at p xs i d lt (sym h ∙ k))
