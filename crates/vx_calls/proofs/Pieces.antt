-- What a loop gathers of the items of a list.
use Rattle.std.proofs.Common.{◌≡◌, ◌∙◌, ℕ, ◌+◌, ◌<◌, ◌≤◌, List, [], ◌∷◌, ◌++◌, length, take, drop, get_or, ap, sym}
use Rattle.std.specs.List.{flat_map}
use Rattle.std.proofs.lemmas.List.{append_assoc, append-nil, at_drop_all, at_drop_more, take_more, take_all}
use Rattle.std.proofs.lemmas.Grind.{flat_map-append}

-- what the items before a place give
module _ {X Y : Type 0} (f : X → List Y) (before : List Y) (xs : List X) (i : ℕ) (so_far : before ≡ flat_map f (take i xs)) where
  pub piece_more : (now : List Y) (d : X) → now ≡ before ++ f (get_or xs i d) → i < length xs → now ≡ flat_map f (take (i + 1) xs)
  piece_more now d more lt =
      let last : flat_map f (take (i + 1) xs) ≡ flat_map f (take i xs) ++ f (get_or xs i d) =
      ap (flat_map f) (take_more xs i d lt) ∙ flat_map-append f (take i xs) (get_or xs i d ∷ []) ∙ ap (λ l. flat_map f (take i xs) ++ l) (append-nil (f (get_or xs i d))) in
      more ∙ ap (λ l. l ++ f (get_or xs i d)) so_far ∙ sym last

  pub pieces_all : length xs ≤ i → before ≡ flat_map f xs
  pieces_all le = so_far ∙ ap (flat_map f) (take_all i xs le)

-- what was gathered, and what the items from a place on still give
module _ {X Y Z : Type 0} (text : Z → List X → List Y) (out whole : List Y) (state : Z) (xs : List X) (i : ℕ) (so_far : out ++ text state (drop i xs) ≡ whole) where
  pub placed_more : (now piece : List Y) (next : Z) (d : X) → i < length xs → text state (get_or xs i d ∷ drop (i + 1) xs) ≡ piece ++ text next (drop (i + 1) xs) → now ≡ out ++ piece → now ++ text next (drop (i + 1) xs) ≡ whole
  placed_more now piece next d lt here put =
      let rest = text next (drop (i + 1) xs) in
      let all : text state (drop i xs) ≡ piece ++ rest = at_drop_more (text state) xs i d lt ∙ here in
      ap (λ l. l ++ rest) put ∙ append_assoc out piece rest ∙ ap (λ l. out ++ l) (sym all) ∙ so_far

  pub placed_all : length xs ≤ i → text state [] ≡ [] → out ≡ whole
  placed_all le ends = sym (append-nil out) ∙ ap (λ l. out ++ l) (sym ends) ∙ sym (at_drop_all (λ l. out ++ text state l) xs i le) ∙ so_far
