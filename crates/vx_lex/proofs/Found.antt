-- The first entry of a table that passes a test, looked for entry by entry.
use Rattle.std.proofs.Common.{◌≡◌, ℕ, ◌+◌, ◌≤◌, ◌<◌, Bool, true, false, cond, List, map, drop, length, get_or, Option, None, Some, ap, sym, ◌∙◌}
use Rattle.std.specs.List.{find}
use Rattle.std.specs.Option.{option_map}
use Rattle.std.proofs.lemmas.List.{drop_more, drop_all}

-- of the first entry that passes as it is read, the part that is asked for
abbrev pub found : {A B C : Type 0} → (A → B) → (B → Bool) → (B → C) → List A → Option C
found read p part entries = option_map part (find p (map read entries))

module _ {A B C : Type 0} (read : A → B) (p : B → Bool) (part : B → C) (table : List A) (i : ℕ) where
  from : (d : A) (b : Bool) → i < length table → p (read (get_or table i d)) ≡ b
      → found read p part (drop i table) ≡ option_map part (cond b (Some (read (get_or table i d))) (find p (map read (drop (i + 1) table))))
  from d b lt e = ap (found read p part) (drop_more table i d lt) ∙ ap (λ t. option_map part (cond t (Some (read (get_or table i d))) (find p (map read (drop (i + 1) table))))) e

  pub found_on : (d : A) → i < length table → found read p part (drop i table) ≡ found read p part table → p (read (get_or table i d)) ≡ false
      → found read p part (drop (i + 1) table) ≡ found read p part table
  found_on d lt so_far e = sym (from d false lt e) ∙ so_far

  pub found_here : (d : A) → i < length table → found read p part (drop i table) ≡ found read p part table → p (read (get_or table i d)) ≡ true
      → Some (part (read (get_or table i d))) ≡ found read p part table
  found_here d lt so_far e = sym (from d true lt e) ∙ so_far

  pub found_none : length table ≤ i → found read p part (drop i table) ≡ found read p part table → None ≡ found read p part table
  found_none le so_far = sym (ap (found read p part) (drop_all i table le)) ∙ so_far
