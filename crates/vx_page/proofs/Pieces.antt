-- Pieces of a text that are put one behind the other.
use Rattle.std.proofs.Common.{◌≡◌, ◌∙◌, ℕ, ◌+◌, ◌<◌, ◌≤◌, List, [], ◌∷◌, ◌++◌, length, take, get_or, ap, sym}
use Rattle.std.specs.List.{flat_map}
use Rattle.std.proofs.lemmas.List.{append_assoc, append-nil, take_more, take_all}
use Rattle.std.proofs.lemmas.Grind.{flat_map-append}

-- the pieces of the items of a list

module _ {X : Type 0} (f : X → List ℕ) (start before : List ℕ) (xs : List X) (i : ℕ) where
  pub piece_more : (now : List ℕ) (d : X) → before ≡ start ++ flat_map f (take i xs) → now ≡ before ++ f (get_or xs i d) → i < length xs → now ≡ start ++ flat_map f (take (i + 1) xs)
  piece_more now d so_far more lt =
      let last : flat_map f (take (i + 1) xs) ≡ flat_map f (take i xs) ++ f (get_or xs i d) =
      ap (flat_map f) (take_more xs i d lt) ∙ flat_map-append f (take i xs) (get_or xs i d ∷ []) ∙ ap (λ l. flat_map f (take i xs) ++ l) (append-nil (f (get_or xs i d))) in
      more ∙ ap (λ l. l ++ f (get_or xs i d)) so_far ∙ append_assoc start (flat_map f (take i xs)) (f (get_or xs i d)) ∙ ap (λ l. start ++ l) (sym last)

  pub pieces_all : before ≡ start ++ flat_map f (take i xs) → length xs ≤ i → before ≡ start ++ flat_map f xs
  pieces_all so_far le = so_far ∙ ap (λ l. start ++ flat_map f l) (take_all i xs le)
