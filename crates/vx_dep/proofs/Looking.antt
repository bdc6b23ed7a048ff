-- What a look into a list gives.
use Rattle.std.proofs.Common.{◌≡◌, ◌<◌, ◌≤◌, ◌+◌, ◌||◌, ◌∙◌, ℕ, Bool, true, false, take, Option, Some, None, IfSome, IfNone, is_some, ltb, ltb-true, ltb-false, List, length, get_or, slice_get, Bor, ap, sym}
use Rattle.std.specs.List.{list_any}
use Rattle.std.proofs.lemmas.List.{take_all}
use Rattle.std.proofs.lemmas.List.Folds.{list_any_more, list_any_at}
use Rattle.std.proofs.lemmas.Option.{slice_get-get_or, slice_get_past}

pub looked_up : {X : Type 0} (xs : List X) (i : ℕ) (r : Option (Bor X)) → is_some r ≡ ltb i (length xs) → IfSome r (λ x. x.now ≡ get_or xs i x.now) → IfSome r (λ x. slice_get xs i ≡ Some x.now)
looked_up xs i (Some x) l e = slice_get-get_or xs i x.now (ltb-true _ _ (sym l)) ∙ ap Some (sym e)
looked_up xs i None l e = tt

pub none_found : {X : Type 0} (xs : List X) (i : ℕ) (r : Option (Bor X)) → is_some r ≡ ltb i (length xs) → IfNone r (slice_get xs i ≡ None)
none_found xs i (Some x) l = tt
none_found xs i None l = slice_get_past xs i (ltb-false _ _ (sym l))

-- whether one item of those so far passes

module _ {X : Type 0} (p : X → Bool) (xs : List X) (i : ℕ) where
  pub none_more : (d : X) → i < length xs → list_any p (take i xs) ≡ false → p (get_or xs i d) ≡ false → list_any p (take (i + 1) xs) ≡ false
  none_more d inside so none = list_any_more p xs i d inside ∙ ap (λ b. b || p (get_or xs i d)) so ∙ none

  pub one_passes : (d : X) → i < length xs → p (get_or xs i d) ≡ true → true ≡ list_any p xs
  one_passes d inside one = sym (list_any_at p xs i d inside one)

  pub none_passes : length xs ≤ i → list_any p (take i xs) ≡ false → false ≡ list_any p xs
  none_passes past so = sym so ∙ ap (list_any p) (take_all i xs past)
