-- Steps of the interpreter's store: scalars that are written, arrays that are cleared, formats that are printed.
use Rattle.std.proofs.Common.{◌≡◌, ◌<◌, ◌≤◌, ◌+◌, ◌==◌, ℕ, zero, suc, ℤ, pos, Bool, true, false, List, [], ◌∷◌, ◌++◌, length, map, take, drop, replicate, slice_index_or, get_or, refl, sym, ◌∙◌, ap, subst, arith, append_assoc, nat_lt, lt-ltb, le-ltb, ◌⊎◌, inl, inr}
use Rattle.std.specs.Prelude.{if◌then◌else◌, slice_set}
use Rattle.std.proofs.Math.Seq.{drop-cons}
use Rattle.std.proofs.lemmas.Bool.{cases_lt}
use Rattle.std.proofs.lemmas.Bool.Decides.{eqb_tells}
use Rattle.std.proofs.lemmas.List.{get_or-set_same, get_or-set_other, take_all, drop_all}
use Rattle.std.proofs.lemmas.Simd.{splat_is_map}
use Rattle.std.specs.Fmt.{signed_decimal}
use Rattle.vx_ast.specs.Meaning.{with_scalar, is_left, Piece, pieces_of, directive_of, printed}
use Rattle.vx_plain.specs.Kept.{Kept, scalars_of, store_of}

-- zeros behind the scalars change none

zero_there : (k y : ℕ) → slice_index_or (replicate k (pos 0)) y (pos 0) ≡ pos 0
zero_there zero y = refl
zero_there (suc k) zero = refl
zero_there (suc k) (suc y) = zero_there k y

zeros_behind : (xs : List ℤ) (k y : ℕ) → slice_index_or (xs ++ replicate k (pos 0)) y (pos 0) ≡ slice_index_or xs y (pos 0)
zeros_behind [] k y = zero_there k y
zeros_behind (x ∷ xs) k zero = refl
zeros_behind (x ∷ xs) k (suc y) = zeros_behind xs k y

pub grown_is : (xs ys : List ℤ) (n k : ℕ) → length xs ≤ n → ys ≡ take n xs ++ replicate k (pos 0) → scalars_of ys ≡ scalars_of xs
grown_is xs ys n k h e = λ i y. (ap (λ zs. slice_index_or zs y (pos 0)) (e ∙ ap (λ zs. zs ++ replicate k (pos 0)) (take_all n xs h)) ∙ zeros_behind xs k y) i

-- one scalar is written

put_at : (xs : List ℤ) (x : ℕ) (v : ℤ) (y : ℕ) → x < length xs → slice_index_or (slice_set xs x v) y (pos 0) ≡ (if y == x then v else slice_index_or xs y (pos 0))
put_at xs x v y h = by (eqb_tells y x)
  where
    by : (((y == x) ≡ true) × (y ≡ x)) ⊎ (((y == x) ≡ false) × (y ≡ x → ⊥)) → slice_index_or (slice_set xs x v) y (pos 0) ≡ (if y == x then v else slice_index_or xs y (pos 0))
    by (inl g) = rw g.0 (ap (λ z. slice_index_or (slice_set xs x v) z (pos 0)) g.1 ∙ get_or-set_same xs x v (pos 0) h)
    by (inr g) = rw g.0 (get_or-set_other xs x y v (pos 0) g.1)

-- the same behind zeros
pub put_is : (xs ys : List ℤ) (x : ℕ) (v : ℤ) → x < length ys → scalars_of ys ≡ scalars_of xs → scalars_of (slice_set ys x v) ≡ (λ y. if y == x then v else scalars_of xs y)
put_is xs ys x v h e = λ i y. (put_at ys x v y h ∙ (λ j. if y == x then v else (e j) y)) i

pub same_store : (k : Kept) (xs : List ℤ) (x : ℕ) (v : ℤ) (m : Kept) → k ≡ m → scalars_of xs ≡ (λ y. if y == x then v else scalars_of m.scalars y) → store_of (record m { scalars = xs }) ≡ with_scalar (store_of k) x v
same_store k xs x v m e f = subst (λ q. store_of (record m { scalars = xs }) ≡ with_scalar (store_of q) x v) (sym e) (ap (λ g. record (store_of m) { scalars = g }) f)

pub zeros_are : (xs : List ℤ) (n : ℕ) → n ≡ length xs → replicate n (pos 0) ≡ map (λ z. pos 0) xs
zeros_are xs n e = splat_is_map xs n (pos 0) (sym e)

-- whether a number of the input is left

left_by : (xs : List ℤ) (n : ℕ) → (n < length xs) ⊎ (length xs ≤ n) → nat_lt n (length xs) ≡ is_left (drop n xs)
left_by xs n (inl h) = rw (lt-ltb n (length xs) h, drop-cons xs n (pos 0) h) refl
left_by xs n (inr h) = rw (drop_all n xs h, le-ltb n (length xs) h) refl

pub left_is : (xs : List ℤ) (n : ℕ) → nat_lt n (length xs) ≡ is_left (drop n xs)
left_is xs n = left_by xs n (cases_lt n (length xs))

-- printing

abbrev pub rest_of : (special : Bool) → List ℕ → List Piece
rest_of true bs = directive_of bs
rest_of false bs = pieces_of bs

-- what was put and what is still to put are the whole text
abbrev pub PutSoFar : (before now : List ℕ) (special : Bool) (format rest : List ℕ) (numbers left : List ℤ) → Type 0
PutSoFar before now special format rest numbers left = before ++ printed (pieces_of format) numbers ≡ now ++ printed (rest_of special rest) left

pub a_percent : (special : Bool) (b : ℕ) (bs : List ℕ) (xs : List ℤ) → special ≡ false → (b == 37) ≡ true → printed (rest_of special (b ∷ bs)) xs ≡ printed (rest_of true bs) xs
a_percent true b bs xs e f = cc
a_percent false b bs xs e f = rw f refl

pub a_number : (special : Bool) (b : ℕ) (bs : List ℕ) (x : ℤ) (xs : List ℤ) → special ≡ true → (b == 100) ≡ true → printed (rest_of special (b ∷ bs)) (x ∷ xs) ≡ signed_decimal x ++ printed (rest_of false bs) xs
a_number true b bs x xs e f = rw f refl
a_number false b bs x xs e f = cc

pub no_number : (special : Bool) (b : ℕ) (bs : List ℕ) → special ≡ true → (b == 100) ≡ true → printed (rest_of special (b ∷ bs)) [] ≡ printed (rest_of false bs) []
no_number true b bs e f = rw f refl
no_number false b bs e f = cc

pub a_byte : (b : ℕ) (bs : List ℕ) (xs : List ℤ) → (b == 37) ≡ false → printed (pieces_of (b ∷ bs)) xs ≡ b ∷ printed (pieces_of bs) xs
a_byte b bs xs f = rw f refl

pub a_directive : (b : ℕ) (bs : List ℕ) (xs : List ℤ) → (b == 100) ≡ false → printed (directive_of (b ∷ bs)) xs ≡ b ∷ printed (pieces_of bs) xs
a_directive b bs xs f = rw f refl

module _ (before now format : List ℕ) (numbers : List ℤ) (special : Bool) (i : ℕ) where
  at_byte : (left : List ℤ) → i < length format → PutSoFar before now special format (drop i format) numbers left → PutSoFar before now special format (get_or format i 0 ∷ drop (i + 1) format) numbers left
  at_byte left h e = let q : i + 1 ≡ suc i = omega arith in rw (q, ← drop-cons format i 0 h) e

  pub step_percent : (left : List ℤ) → i < length format → PutSoFar before now special format (drop i format) numbers left → special ≡ false → (get_or format i 0 == 37) ≡ true → PutSoFar before now true format (drop (i + 1) format) numbers left
  step_percent left h e f g = at_byte left h e ∙ ap (λ l. now ++ l) (a_percent special (get_or format i 0) (drop (i + 1) format) left f g)

  pub step_byte : (left : List ℤ) → i < length format → PutSoFar before now special format (drop i format) numbers left → special ≡ false → (get_or format i 0 == 37) ≡ false → PutSoFar before (now ++ get_or format i 0 ∷ []) false format (drop (i + 1) format) numbers left
  step_byte left h e f g =
      let q : PutSoFar before now false format (get_or format i 0 ∷ drop (i + 1) format) numbers left = subst (λ t. PutSoFar before now t format (get_or format i 0 ∷ drop (i + 1) format) numbers left) f (at_byte left h e) in
      q ∙ ap (λ l. now ++ l) (a_byte (get_or format i 0) (drop (i + 1) format) left g) ∙ sym (append_assoc now (get_or format i 0 ∷ []) (printed (pieces_of (drop (i + 1) format)) left))

  pub step_directive : (left : List ℤ) → i < length format → PutSoFar before now special format (drop i format) numbers left → special ≡ true → (get_or format i 0 == 100) ≡ false → PutSoFar before (now ++ get_or format i 0 ∷ []) false format (drop (i + 1) format) numbers left
  step_directive left h e f g =
      let q : PutSoFar before now true format (get_or format i 0 ∷ drop (i + 1) format) numbers left = subst (λ t. PutSoFar before now t format (get_or format i 0 ∷ drop (i + 1) format) numbers left) f (at_byte left h e) in
      q ∙ ap (λ l. now ++ l) (a_directive (get_or format i 0) (drop (i + 1) format) left g) ∙ sym (append_assoc now (get_or format i 0 ∷ []) (printed (pieces_of (drop (i + 1) format)) left))

  pub step_none : (k : ℕ) → i < length format → PutSoFar before now special format (drop i format) numbers (drop k numbers) → special ≡ true → (get_or format i 0 == 100) ≡ true → length numbers ≤ k → PutSoFar before now false format (drop (i + 1) format) numbers (drop k numbers)
  step_none k h e f g n = rw (drop_all k numbers n) (subst (λ l. PutSoFar before now special format (get_or format i 0 ∷ drop (i + 1) format) numbers l) (drop_all k numbers n) (at_byte (drop k numbers) h e) ∙ ap (λ l. now ++ l) (no_number special (get_or format i 0) (drop (i + 1) format) f g))

  pub step_number : (k : ℕ) → i < length format → PutSoFar before now special format (drop i format) numbers (drop k numbers) → special ≡ true → (get_or format i 0 == 100) ≡ true → k < length numbers → PutSoFar before (now ++ signed_decimal (get_or numbers k (pos 0))) false format (drop (i + 1) format) numbers (drop (k + 1) numbers)
  step_number k h e f g n =
      let q : k + 1 ≡ suc k = omega arith in
      let cut : drop k numbers ≡ get_or numbers k (pos 0) ∷ drop (k + 1) numbers = rw q (drop-cons numbers k (pos 0) n) in
      subst (λ l. PutSoFar before now special format (get_or format i 0 ∷ drop (i + 1) format) numbers l) cut (at_byte (drop k numbers) h e)
      ∙ ap (λ l. now ++ l) (a_number special (get_or format i 0) (drop (i + 1) format) (get_or numbers k (pos 0)) (drop (k + 1) numbers) f g)
      ∙ sym (append_assoc now (signed_decimal (get_or numbers k (pos 0))) (printed (pieces_of (drop (i + 1) format)) (drop (k + 1) numbers)))
