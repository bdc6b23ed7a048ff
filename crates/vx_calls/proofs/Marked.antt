-- Values that are marked, and no others; how many they are.
use Rattle.std.proofs.Common.{◌≡◌, ◌⊎◌, ◌<◌, ◌+◌, ℕ, zero, suc, Bool, true, false, List, [], ◌∷◌, ◌++◌, length, inl, inr, refl, ap, subst, arith}
use Rattle.std.specs.Prelude.{slice_set}
use Rattle.vx_flow.specs.declared.graph.Array.{Array}
use Rattle.vx_flow.specs.Effects.{IsIn}
use Rattle.vx_mixed.specs.Settled.{NoTwice}
use Rattle.vx_regs.specs.Marks.{is_marked}
use Rattle.vx_regs.proofs.Marking.{in_left, in_right, marks_one, marks_both}
use Rattle.vx_calls.specs.Bounds.{own_words}
use Rattle.vx_calls.specs.Slots.{MarksJust, arrays_end, slots_end}

-- one mark more, which is not set
pub only_pushed : (xs : List Bool) (v : ℕ) → is_marked (xs ++ (false ∷ [])) v ≡ true → is_marked xs v ≡ true
only_pushed [] zero h = h
only_pushed [] (suc v) h = h
only_pushed (x ∷ xs) zero h = h
only_pushed (x ∷ xs) (suc v) h = only_pushed xs v h

set_only : (xs : List Bool) (p v : ℕ) → is_marked (slice_set xs p true) v ≡ true → (v ≡ p) ⊎ (is_marked xs v ≡ true)
set_only [] p v h = inr h
set_only (x ∷ xs) zero zero h = inl refl
set_only (x ∷ xs) zero (suc v) h = inr h
set_only (x ∷ xs) (suc p) zero h = inr h
set_only (x ∷ xs) (suc p) (suc v) h = elim (set_only xs p v h) [ inl e ↦ inl (ap suc e) | inr k ↦ inr k ]

pub just_one : (a b : List Bool) (p : ℕ) → p < length b → ((v : ℕ) → is_marked a v ≡ true → is_marked b v ≡ true) → ((v : ℕ) → is_marked b v ≡ true → is_marked a v ≡ true) → MarksJust (p ∷ []) a (slice_set b p true)
just_one a b p h kept only = record { marks = marks_one a b p h kept; only = λ v e. elim (set_only b p v e) [ inl q ↦ inr (inl q) | inr m ↦ inl (only v m) ] }

pub just_both : (xs ys : List ℕ) (a b c : List Bool) → MarksJust xs a b → MarksJust ys b c → MarksJust (xs ++ ys) a c
just_both xs ys a b c p q = record { marks = marks_both xs ys a b c p.marks q.marks; only = λ v h. by v (q.only v h) }
  where
    before : (v : ℕ) → (is_marked a v ≡ true) ⊎ IsIn v xs → (is_marked a v ≡ true) ⊎ IsIn v (xs ++ ys)
    before v (inl m) = inl m
    before v (inr i) = inr (in_left v xs ys i)

    by : (v : ℕ) → (is_marked b v ≡ true) ⊎ IsIn v ys → (is_marked a v ≡ true) ⊎ IsIn v (xs ++ ys)
    by v (inl m) = before v (p.only v m)
    by v (inr i) = inr (in_right v xs ys i)

-- the marked values, ascending, where the first mark is that of a value n

abbrev pub marked_from : ℕ → List Bool → List ℕ
marked_from n [] = []
marked_from n (true ∷ marks) = n ∷ marked_from (suc n) marks
marked_from n (false ∷ marks) = marked_from (suc n) marks

pub as_many_slots : (word n : ℕ) (marks : List Bool) → slots_end word marks ≡ word + length (marked_from n marks)
as_many_slots word n [] = omega arith
as_many_slots word n (true ∷ marks) = let e = as_many_slots (suc word) (suc n) marks in omega arith
as_many_slots word n (false ∷ marks) = as_many_slots word (suc n) marks

record Marked (n : ℕ) (marks : List Bool) (v : ℕ) : Type 0 where
  i : ℕ
  is : v ≡ n + i
  marked : is_marked marks i ≡ true

later : (n : ℕ) (x : Bool) (marks : List Bool) (v : ℕ) → Marked (suc n) marks v → Marked n (x ∷ marks) v
later n x marks v r = let e = r.is in let j = r.i in let z : v ≡ n + suc j = omega arith in record { i = suc j; is = z; marked = r.marked }

marked_in : (n : ℕ) (marks : List Bool) (v : ℕ) → IsIn v (marked_from n marks) → Marked n marks v
marked_in n [] v h = absurd h
marked_in n (true ∷ marks) v (inl e) = let z : v ≡ n + 0 = omega arith in record { i = 0; is = z; marked = refl }
marked_in n (true ∷ marks) v (inr h) = later n true marks v (marked_in (suc n) marks v h)
marked_in n (false ∷ marks) v h = later n false marks v (marked_in (suc n) marks v h)

pub is_marked_in : (marks : List Bool) (v : ℕ) → IsIn v (marked_from 0 marks) → is_marked marks v ≡ true
is_marked_in marks v h = let r = marked_in 0 marks v h in let e = r.is in let j = r.i in let z : j ≡ v = omega arith in subst (λ k. is_marked marks k ≡ true) z r.marked

pub marked_once : (n : ℕ) (marks : List Bool) → NoTwice (marked_from n marks)
marked_once n [] = tt
marked_once n (true ∷ marks) = (λ h. let r = marked_in (suc n) marks n h in let e = r.is in let j = r.i in absurd (omega arith), marked_once (suc n) marks)
marked_once n (false ∷ marks) = marked_once (suc n) marks

-- the words of the arrays behind the globals

pub own_behind : (n : ℕ) (xs : List Array) (addresses : List ℕ) → arrays_end n xs addresses ≡ n + own_words (length addresses) xs
own_behind n [] addresses = omega arith
own_behind n (x ∷ xs) [] = let e = own_behind (n + x.words) xs [] in omega arith
own_behind n (x ∷ xs) (a ∷ addresses) = own_behind n xs addresses
