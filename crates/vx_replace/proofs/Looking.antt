-- A loop that looks through a list for an item that passes: a turn of it, its end at an item, and its end behind the last.
use Rattle.std.proofs.Common.{◌≡◌, ◌∙◌, ◌||◌, ◌+◌, ◌<◌, ◌≤◌, ℕ, Bool, List, true, false, length, take, get_or, ap, sym}
use Rattle.std.specs.List.{list_any}
use Rattle.std.proofs.lemmas.List.{take_all}
use Rattle.std.proofs.lemmas.List.Folds.{list_any_at, list_any_more}

module _ {X : Type 0} (p : X → Bool) (xs : List X) (i : ℕ) where
  pub none_more : (d : X) → i < length xs → list_any p (take i xs) ≡ false → p (get_or xs i d) ≡ false → list_any p (take (i + 1) xs) ≡ false
  none_more d inside so none = list_any_more p xs i d inside ∙ ap (λ b. b || p (get_or xs i d)) so ∙ none

  pub one_found : (d : X) → i < length xs → p (get_or xs i d) ≡ true → true ≡ list_any p xs
  one_found d inside it = sym (list_any_at p xs i d inside it)

  pub none_found : length xs ≤ i → list_any p (take i xs) ≡ false → false ≡ list_any p xs
  none_found behind so = sym so ∙ ap (list_any p) (take_all i xs behind)
