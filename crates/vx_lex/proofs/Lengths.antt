-- How far a test holds from the front of a text, and whether it holds of all of it, byte by byte.
use Rattle.std.proofs.Common.{◌≡◌, ℕ, ◌+◌, ◌≤◌, ◌<◌, Bool, true, false, ◌&&◌, List, take, drop, length, get_or, ap, sym, ◌∙◌, arith}
use Rattle.std.specs.List.{list_all, prefix_len}
use Rattle.std.proofs.lemmas.List.{take_all}
use Rattle.std.proofs.lemmas.List.Folds.{list_all_at, list_all_more}
use Rattle.std.proofs.lemmas.List.Sums.{prefix_len-drop_yes, prefix_len-drop_no, prefix_len-drop_all, prefix_len-le-length}

module _ (p : ℕ → Bool) (text : List ℕ) where
  -- k bytes pass, and with those that pass behind them they are all
  abbrev pub Passed : ℕ → Type 0
  Passed k = k + prefix_len p (drop k text) ≡ prefix_len p text

  pub passed_none : Passed 0
  passed_none = omega arith

  pub passed_more : (k : ℕ) → Passed k → k < length text → p (get_or text k 0) ≡ true → Passed (k + 1)
  passed_more k so_far some passes = omega (arith, so_far, prefix_len-drop_yes p text k 0 some passes)

  pub passed_stop : (k : ℕ) → Passed k → k < length text → p (get_or text k 0) ≡ false → k ≡ prefix_len p text
  passed_stop k so_far some fails = omega (arith, so_far, prefix_len-drop_no p text k 0 some fails)

  pub passed_whole : (k : ℕ) → Passed k → length text ≤ k → length text ≡ prefix_len p text
  passed_whole k so_far none = omega (arith, so_far, prefix_len-drop_all p text k none, prefix_len-le-length p text)

  -- all so far pass
  pub all_more : (k : ℕ) → k < length text → list_all p (take k text) ≡ true → p (get_or text k 0) ≡ true → list_all p (take (k + 1) text) ≡ true
  all_more k some so_far passes = list_all_more p text k 0 some ∙ ap (λ z. z && p (get_or text k 0)) so_far ∙ passes

  pub all_not : (k : ℕ) → k < length text → p (get_or text k 0) ≡ false → false ≡ list_all p text
  all_not k some fails = sym (list_all_at p text k 0 some fails)

  pub all_whole : (k : ℕ) → length text ≤ k → list_all p (take k text) ≡ true → true ≡ list_all p text
  all_whole k none so_far = sym so_far ∙ ap (list_all p) (take_all k text none)
