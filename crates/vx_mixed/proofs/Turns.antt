-- One turn of a loop that puts what an item gives behind what stands already, where what is still to come is told from what is left.
use Rattle.std.proofs.Common.{◌≡◌, ◌∙◌, ℕ, ◌+◌, ◌<◌, ◌≤◌, List, [], ◌∷◌, ◌++◌, length, drop, get_or, ap, sym}
use Rattle.std.proofs.lemmas.List.{append_assoc, append-nil, at_drop_all, at_drop_more}

module _ {X Y : Type 0} (f : List X → List Y) (xs : List X) (i : ℕ) (list whole : List Y) (so_far : list ++ f (drop i xs) ≡ whole) where
  pub turn : (g : List X → List Y) (front new : List Y) (x d : X) → ((ys : List X) → f (x ∷ ys) ≡ front ++ g ys) → x ≡ get_or xs i d → i < length xs → new ≡ list ++ front → new ++ g (drop (i + 1) xs) ≡ whole
  turn g front new x d step is lt more =
      let rest : List X = drop (i + 1) xs in
      ap (λ l. l ++ g rest) more ∙ append_assoc list front (g rest) ∙ ap (λ l. list ++ l) (sym (step rest)) ∙ ap (λ (y : X). list ++ f (y ∷ rest)) is ∙ sym (at_drop_more (λ l. list ++ f l) xs i d lt) ∙ so_far

  -- nothing is left
  pub no_turn : f [] ≡ [] → length xs ≤ i → list ≡ whole
  no_turn nil le = sym (append-nil list) ∙ ap (λ l. list ++ l) (sym nil) ∙ sym (at_drop_all (λ l. list ++ f l) xs i le) ∙ so_far
