-- How many of a list pass a test, counted one after the other.
use Rattle.std.proofs.Common.{◌≡◌, ◌<◌, ◌≤◌, ◌+◌, ◌++◌, ◌∷◌, [], ℕ, Bool, true, false, List, cond, length, take, get_or, count_by, arith, refl, ap, sym, ◌∙◌}
use Rattle.std.proofs.lemmas.List.{take_all, take_more}
use Rattle.vx_isa.proofs.Lists.{count_by-append, count_by-cons}

abbrev mark : Bool → ℕ
mark x = cond x 1 0

module _ {X : Type 0} (p : X → Bool) (xs : List X) (i : ℕ) (d : X) (count : ℕ) (inside : i < length xs) (so_far : (count ≡ count_by p (take i xs)) × (count ≤ i)) where
  one_item : (b : Bool) → p (get_or xs i d) ≡ b → count_by p (take (i + 1) xs) ≡ count_by p (take i xs) + mark b
  one_item b e =
      let both : count_by p (take i xs ++ get_or xs i d ∷ []) ≡ count_by p (take i xs) + count_by p (get_or xs i d ∷ []) = count_by-append p (take i xs) (get_or xs i d ∷ []) in
      let one : count_by p (get_or xs i d ∷ []) ≡ mark (p (get_or xs i d)) + count_by p [] = count_by-cons p (get_or xs i d) [] in
      let here : mark (p (get_or xs i d)) ≡ mark b = ap mark e in
      let none : count_by p [] ≡ 0 = refl in
      ap (count_by p) (take_more xs i d inside) ∙ omega (arith, both, one, here, none)

  pub counted : (t : Bool) (now : ℕ) → t ≡ p (get_or xs i d) → t ≡ true → now ≡ count + 1 → (now ≡ count_by p (take (i + 1) xs)) × (now ≤ i + 1)
  counted t now e y n =
      let more : count_by p (take (i + 1) xs) ≡ count_by p (take i xs) + 1 = one_item true (sym e ∙ y) in
      let same = so_far.0 in
      let few = so_far.1 in
      (omega (arith, more, same, n), omega (arith, few, n))

  pub passed : (t : Bool) (now : ℕ) → t ≡ p (get_or xs i d) → t ≡ false → now ≡ count → (now ≡ count_by p (take (i + 1) xs)) × (now ≤ i + 1)
  passed t now e y n =
      let more : count_by p (take (i + 1) xs) ≡ count_by p (take i xs) + 0 = one_item false (sym e ∙ y) in
      let same = so_far.0 in
      let few = so_far.1 in
      (omega (arith, more, same, n), omega (arith, few, n))

pub all_counted : {X : Type 0} (p : X → Bool) (xs : List X) (i count : ℕ) → length xs ≤ i → count ≡ count_by p (take i xs) → count ≡ count_by p xs
all_counted p xs i count past e = e ∙ ap (count_by p) (take_all i xs past)
