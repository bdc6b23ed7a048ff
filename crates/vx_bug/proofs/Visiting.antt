-- The visit of one place, and of one more.
use Rattle.std.proofs.Common.{◌≡◌, ◌<◌, ◌+◌, ◌-◌, refl, sym, ◌∙◌, ap, arith, true, false, nat_eq, if◌then◌else◌, ℕ, zero, suc, List, [], ◌∷◌, ◌++◌, reverse, slice_get}
use Rattle.std.specs.List.{list_any}
use Rattle.std.proofs.lemmas.List.{reverse-append}
use Rattle.vx_flow.specs.declared.trace.Trace.{Trace}
use Rattle.vx_flow.specs.Walk.{numbers}
use Rattle.vx_bug.specs.Clusters.{writers_of, visit_each, visit}

-- a place

pub visit_none : (t : Trace) (d i : ℕ) (l : List ℕ) → d ≡ 0 → visit d t i l ≡ l
unfolding visit
visit_none t d i l e = ap (λ x. visit x t i l) e

pub visit_listed : (t : Trace) (d i : ℕ) (l : List ℕ) → list_any (nat_eq i) l ≡ true → visit d t i l ≡ l
unfolding visit
visit_listed t zero i l e = refl
visit_listed t (suc d) i l e = ap (λ b. if b then l else visit_each (visit d t) (writers_of t i (slice_get t.ops i)) l ++ i ∷ []) e

visit_suc : (t : Trace) (d i : ℕ) (l : List ℕ) → list_any (nat_eq i) l ≡ false → visit (suc d) t i l ≡ visit_each (visit d t) (writers_of t i (slice_get t.ops i)) l ++ i ∷ []
unfolding visit
visit_suc t d i l e = ap (λ b. if b then l else visit_each (visit d t) (writers_of t i (slice_get t.ops i)) l ++ i ∷ []) e

pub visit_new : (t : Trace) (d i : ℕ) (l between : List ℕ) → 0 < d → list_any (nat_eq i) l ≡ false → between ≡ visit_each (visit (d - 1) t) (writers_of t i (slice_get t.ops i)) l → between ++ i ∷ [] ≡ visit d t i l
visit_new t d i l between h e f =
    let k : d ≡ suc (d - 1) = omega (arith, h) in
    ap (λ x. x ++ i ∷ []) f ∙ sym (visit_suc t (d - 1) i l e) ∙ sym (ap (λ x. visit x t i l) k)

-- the whole trace

numbers_end : (b n : ℕ) → numbers b (suc n) ≡ numbers b n ++ (b + n) ∷ []
numbers_end b zero = let h : b ≡ b + 0 = omega arith in ap (λ x. x ∷ []) h
numbers_end b (suc n) = let h : (b + 1) + n ≡ b + suc n = omega arith in ap (λ x. b ∷ x) (numbers_end (b + 1) n ∙ ap (λ x. numbers (b + 1) n ++ x ∷ []) h)

reverse_end : {A : Type 0} (xs : List A) (x : A) → reverse (xs ++ x ∷ []) ≡ x ∷ reverse xs
reverse_end xs x = reverse-append xs (x ∷ [])

pub walk_more : (f : ℕ → List ℕ → List ℕ) (n : ℕ) (l : List ℕ) → 0 < n → visit_each f (reverse (numbers 0 n)) l ≡ visit_each f (reverse (numbers 0 (n - 1))) (f (n - 1) l)
walk_more f n l h =
    let k : n ≡ suc (n - 1) = omega (arith, h) in
    let z : 0 + (n - 1) ≡ n - 1 = omega arith in
    ap (λ x. visit_each f (reverse (numbers 0 x)) l) k
    ∙ ap (λ x. visit_each f (reverse x) l) (numbers_end 0 (n - 1) ∙ ap (λ x. numbers 0 (n - 1) ++ x ∷ []) z)
    ∙ ap (λ x. visit_each f x l) (reverse_end (numbers 0 (n - 1)) (n - 1))
