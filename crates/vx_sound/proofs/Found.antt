-- What `get` of a slice finds, for a definition by cases of it.
use Rattle.std.proofs.Common.{◌≡◌, ℕ, ◌<◌, ◌≤◌, List, Option, Some, None, length, get_or, slice_get, ap, sym, ◌∙◌}
use Rattle.std.proofs.lemmas.Option.{slice_get-get_or, slice_get_past}

module _ {X A : Type 0} (f : Option X → A) (xs : List X) (i : ℕ) where
  pub found_at : (x : X) → i < length xs → x ≡ get_or xs i x → f (Some x) ≡ f (slice_get xs i)
  found_at x lt e = ap f (ap Some e ∙ sym (slice_get-get_or xs i x lt))

  pub none_at : length xs ≤ i → f None ≡ f (slice_get xs i)
  none_at le = ap f (sym (slice_get_past xs i le))
