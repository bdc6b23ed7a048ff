-- Tests, numbers and lists by place, as the simulation needs them.
use Rattle.std.proofs.Common.{◌≡◌, ℕ, zero, suc, ◌+◌, ◌*◌, ◌/◌, ◌%◌, ◌^◌, ◌<◌, ℤ, pos, negsuc, Bool, true, false, cond, not, ◌&&◌, List, [], ◌∷◌, length, map, slice_index_or, slice_set, Some, None, refl, ap, ◌∙◌, arith, lt-ltb}
use Rattle.std.specs.Prelude.{nat_eq, nat_lt}
use Rattle.std.proofs.lemmas.Bool.{ne_eqb}
use Rattle.std.proofs.lemmas.Int.{ints, fits_signed_from_abs}
use Rattle.std.specs.Int.{w32}
use Rattle.vx_base.specs.Arithmetic.{IsNumber, one_if, compare_of, product_of, sum_of}
use Rattle.vx_base.specs.declared.arithmetic.Compare.TheVariants.{Eq, Ne, Ltu}
use Rattle.vx_base.proofs.ArithmeticLaws.{index_check_law, equal-true}
use Rattle.vx_base.proofs.WrapLaws.{product_of-exact, sum_of-exact, unsigned_number}
use Rattle.vx_ast.specs.Meaning.{unless_zero}
use Rattle.vx_flow.specs.Effects.{Content, cell_in}

pub and_one : (a b : Bool) → (a && b) ≡ true → a ≡ true
and_one true b h = refl
and_one false b h = h

pub and_two : (a b : Bool) → (a && b) ≡ true → b ≡ true
and_two true b h = h
and_two false b h = absurd (cc)

pub same_eq : (a : ℕ) → nat_eq a a ≡ true
same_eq a = grind arith

pub is_below : (a b : ℕ) → a < b → nat_lt a b ≡ true
is_below a b h = lt-ltb a b h

pub above_not_eq : (a b : ℕ) → a < b → nat_eq a b ≡ false
above_not_eq a b h = ne_eqb a b (λ e. omega arith)

pub below_not_eq : (a b : ℕ) → b < a → nat_eq a b ≡ false
below_not_eq a b h = ne_eqb a b (λ e. omega arith)

-- a flag chooses as the test that it answers
pub flag_chooses : {A : Type 0} (b : Bool) (x y : A) → unless_zero (one_if b) x y ≡ cond b x y
flag_chooses true x y = refl
flag_chooses false x y = refl

differs_from_zero : (v : ℤ) → (v ≡ pos 0 → ⊥) → compare_of Ne v (pos 0) ≡ true
differs_from_zero v n = by (compare_of Eq v (pos 0)) refl
  where
    by : (t : Bool) → compare_of Eq v (pos 0) ≡ t → compare_of Ne v (pos 0) ≡ true
    by true e = absurd (n (equal-true v (pos 0) e))
    by false e = ap not e

pub differs_chooses : {A : Type 0} (v : ℤ) (x y : A) → cond (compare_of Ne v (pos 0)) x y ≡ unless_zero v x y
differs_chooses (pos zero) x y = refl
differs_chooses (pos (suc n)) x y = ap (λ b. cond b x y) (differs_from_zero (pos (suc n)) (λ e. absurd (cc)))
differs_chooses (negsuc n) x y = ap (λ b. cond b x y) (differs_from_zero (negsuc n) (λ e. absurd (cc)))

pub differs_is : (v : ℤ) → one_if (compare_of Ne v (pos 0)) ≡ unless_zero v (pos 1) (pos 0)
differs_is (pos zero) = refl
differs_is (pos (suc n)) = ap one_if (differs_from_zero (pos (suc n)) (λ e. absurd (cc)))
differs_is (negsuc n) = ap one_if (differs_from_zero (negsuc n) (λ e. absurd (cc)))

-- an index by its compare without sign
abbrev pub is_index : ℕ → ℤ → Bool
is_index size (negsuc n) = false
is_index size (pos i) = nat_lt i size

pub index_test : (v : ℤ) (size : ℕ) → IsNumber v → size < 2 ^ 31 → compare_of Ltu v (pos size) ≡ is_index size v
index_test (pos n) size f s =
    let fits : IsNumber (pos size) = record { sfits = omega arith } in
    λ i. nat_lt (unsigned_number (pos n) f i) (unsigned_number (pos size) fits i)
index_test (negsuc n) size f s = by (compare_of Ltu (negsuc n) (pos size)) refl
  where
    by : (t : Bool) → compare_of Ltu (negsuc n) (pos size) ≡ t → compare_of Ltu (negsuc n) (pos size) ≡ false
    by false e = e
    by true e = let h = (index_check_law (negsuc n) size f s).0 e in absurd (omega (arith, ints, h.0))

pub four_times : (j : ℕ) → j < 2 ^ 29 → product_of (pos 4) (pos j) ≡ pos (4 * j)
four_times j h = product_of-exact (pos 4) (pos j) (fits_signed_from_abs w32 (pos (4 * j)) (omega arith))

pub one_up : (k : ℕ) → k < 2 ^ 30 → sum_of (pos k) (pos 1) ≡ pos (k + 1)
one_up k h = sum_of-exact (pos k) (pos 1) (fits_signed_from_abs w32 (pos (k + 1)) (omega arith))

pub cell_of : (size j : ℕ) → j < size → size < 2 ^ 29 → cell_in size (Some (product_of (pos 4) (pos j))) ≡ Some j
cell_of size j h small =
    let few : j < 2 ^ 29 = omega arith in
    let a : (4 * j) % 4 ≡ 0 = omega arith in
    let b : (4 * j) / 4 ≡ j = omega arith in
    ap (λ z. cell_in size (Some z)) (four_times j few)
    ∙ ap (λ r. cond (nat_eq r 0 && nat_lt ((4 * j) / 4) size) (Some ((4 * j) / 4)) None) a ∙ ap (λ r. cond (nat_lt r size) (Some r) None) b ∙ ap (λ t. cond t (Some j) None) (is_below j size h)

-- rows of words, known and as the graph has them

abbrev pub SameRow : List (List ℤ) → List (List Content) → ℕ → Type 0
SameRow xs ys p = slice_index_or ys p [] ≡ map Some (slice_index_or xs p [])

pub map_set : {A B : Type 0} (f : A → B) (xs : List A) (i : ℕ) (x : A) → map f (slice_set xs i x) ≡ slice_set (map f xs) i (f x)
map_set f [] i x = refl
map_set f (y ∷ xs) zero x = refl
map_set f (y ∷ xs) (suc i) x = ap (λ zs. f y ∷ zs) (map_set f xs i x)

pub set_row : (xs : List (List ℤ)) (ys : List (List Content)) (a p : ℕ) (r : List ℤ) (r' : List Content) → length xs ≡ length ys → r' ≡ map Some r → SameRow xs ys p → SameRow (slice_set xs a r) (slice_set ys a r') p
set_row [] [] a p r r' l e h = h
set_row [] (y ∷ ys) a p r r' l e h = absurd (omega arith)
set_row (x ∷ xs) [] a p r r' l e h = absurd (omega arith)
set_row (x ∷ xs) (y ∷ ys) zero zero r r' l e h = e
set_row (x ∷ xs) (y ∷ ys) zero (suc p) r r' l e h = h
set_row (x ∷ xs) (y ∷ ys) (suc a) zero r r' l e h = h
set_row (x ∷ xs) (y ∷ ys) (suc a) (suc p) r r' l e h = set_row xs ys a p r r' (omega arith) e h

-- the lengths of rows stay where a row is set to one of its length
pub set_shape : {A : Type 0} (xs : List (List A)) (a : ℕ) (r : List A) → length r ≡ length (slice_index_or xs a []) → map (λ z. length z) (slice_set xs a r) ≡ map (λ z. length z) xs
set_shape [] a r e = refl
set_shape (x ∷ xs) zero r e = ap (λ n. n ∷ map (λ z. length z) xs) e
set_shape (x ∷ xs) (suc a) r e = ap (λ ns. length x ∷ ns) (set_shape xs a r e)

pub length_of_row : {A : Type 0} (xs : List (List A)) (p : ℕ) → length (slice_index_or xs p []) ≡ slice_index_or (map (λ z. length z) xs) p 0
length_of_row [] p = refl
length_of_row (x ∷ xs) zero = refl
length_of_row (x ∷ xs) (suc p) = length_of_row xs p

pub known_word : (r : List ℤ) (j : ℕ) → j < length r → slice_index_or (map Some r) j None ≡ Some (slice_index_or r j (pos 0))
known_word [] j h = absurd (omega arith)
known_word (x ∷ r) zero h = refl
known_word (x ∷ r) (suc j) h = known_word r j (omega arith)
