-- One more place is marked.
use Rattle.std.proofs.Common.{◌≡◌, ◌⊎◌, inl, inr, ℕ, zero, suc, ◌+◌, ◌<◌, Bool, true, false, List, [], ◌∷◌, length, slice_set, refl, ap, arith}
use Rattle.vx_tables.specs.Rows.{is_marked, unmarked}

pub set_only : (row : List Bool) (p b : ℕ) → is_marked (slice_set row p true) b ≡ true → (is_marked row b ≡ true) ⊎ (b ≡ p)
set_only [] p b h = inl h
set_only (x ∷ row) zero zero h = inr refl
set_only (x ∷ row) zero (suc b) h = inl h
set_only (x ∷ row) (suc p) zero h = inl h
set_only (x ∷ row) (suc p) (suc b) h = elim (set_only row p b h) [ inl m ↦ inl m | inr e ↦ inr (ap suc e) ]

pub set_keeps : (row : List Bool) (p b : ℕ) → is_marked row b ≡ true → is_marked (slice_set row p true) b ≡ true
set_keeps [] p b h = h
set_keeps (x ∷ row) zero zero h = refl
set_keeps (x ∷ row) zero (suc b) h = h
set_keeps (x ∷ row) (suc p) zero h = h
set_keeps (x ∷ row) (suc p) (suc b) h = set_keeps row p b h

pub set_self : (row : List Bool) (p : ℕ) → p < length row → is_marked (slice_set row p true) p ≡ true
set_self [] p h = absurd (omega arith)
set_self (x ∷ row) zero h = refl
set_self (x ∷ row) (suc p) h = set_self row p (omega arith)

pub length_set : (marks : List Bool) (to : ℕ) → length (slice_set marks to true) ≡ length marks
length_set [] to = refl
length_set (x ∷ marks) zero = refl
length_set (x ∷ marks) (suc to) = let h = length_set marks to in omega arith

pub set_less : (row : List Bool) (p : ℕ) → p < length row → is_marked row p ≡ false → unmarked (slice_set row p true) + 1 ≡ unmarked row
set_less [] p h e = absurd (omega arith)
set_less (true ∷ row) zero h e = absurd (cc)
set_less (false ∷ row) zero h e = refl
set_less (true ∷ row) (suc p) h e = set_less row p (omega arith) e
set_less (false ∷ row) (suc p) h e = ap (λ n. n + 1) (set_less row p (omega arith) e)
