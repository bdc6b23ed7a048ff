-- A field that is written is read again, whatever follows that is no digit.
use Rattle.std.proofs.Common.{◌≡◌, ℕ, zero, suc, ◌^◌, ◌<◌, ◌≤◌, ℤ, pos, negsuc, true, false, List, [], ◌∷◌, ◌++◌, length, get_or, refl, ap, ◌∙◌, append_assoc, arith}
use Rattle.std.specs.Prelude.{decimal, nat_eq, nat_le, codes}
use Rattle.std.specs.Fmt.{signed_decimal}
use Rattle.std.specs.List.{list_all}
use Rattle.std.proofs.lemmas.Fmt.{digits_decimal, decimal_nonempty, first_decimal, decimal_digit}
use Rattle.std.proofs.lemmas.Bool.Decides.{nat_tests}
use Rattle.std.proofs.lemmas.Bool.{lt-ltb}
use borrow.Author.Tests.{leb-true}
use Rattle.vx_isa.specs.declared.operation.GeneralRegister.{GeneralRegister}
use Rattle.vx_isa.specs.declared.operation.BranchRegister.{BranchRegister}
use Rattle.vx_isa.specs.declared.operation.Register.TheVariants.{General, Branch}
use Rattle.vx_isa.specs.declared.operation.Source.{Source}
use Rattle.vx_isa.specs.declared.operation.Source.TheVariants.{Held, Number}
use Rattle.vx_isa.specs.Sound.{can_name, can_name_branch, can_spell}
use Rattle.vx_words.specs.Spelling.{general_text, branch_text, source_text}
use Rattle.vx_reader.specs.Fields.{is_digit, number_at, signed_at, numbers_at, general_at, branch_at, register_at, source_at}
use Rattle.vx_isa.specs.Range.{fits_signed, fits_source}
use Rattle.vx_reader.specs.Reading.{is_number}
use Rattle.vx_reader.proofs.Numbers.{own, both_true, IsNoDigitFirst, number_again}

-- the first byte of a number is a digit
pub first_digit : (n : ℕ) (rest : List ℕ) → n < 2 ^ 64 → is_digit (get_or (decimal n ++ rest) 0 0) ≡ true
first_digit n rest small = first_of (decimal n) (digits_decimal own n small) (decimal_nonempty n small)
  where
    first_of : (ds : List ℕ) → list_all is_digit ds ≡ true → 0 < length ds → is_digit (get_or (ds ++ rest) 0 0) ≡ true
    first_of [] all some = absurd (omega arith)
    first_of (c ∷ cs) all some = (both_true (is_digit c) (list_all is_digit cs) all).0

digit_is_not : (c d : ℕ) → is_digit c ≡ true → d < 48 → nat_eq c d ≡ false
digit_is_not c d e lt = let b = both_true (nat_le 48 c) (nat_le c 57) e in let low : 48 ≤ c = leb-true _ _ b.0 in grind (arith, nat_tests)

pub number_read : (n : ℕ) (rest : List ℕ) → n ≤ 4294967295 → IsNoDigitFirst rest → number_at (decimal n ++ rest) ≡ (n, rest)
unfolding number_at
number_read n rest le stop = number_again 4294967295 n rest le (omega arith) stop

pub signed_read : (z : ℤ) (rest : List ℕ) → fits_signed z ≡ true → IsNoDigitFirst rest → signed_at (signed_decimal z ++ rest) ≡ (z, rest)
unfolding signed_at
signed_read (pos n) rest fits stop =
    let le : n ≤ 2147483647 = leb-true _ _ fits in
    let first : nat_eq (get_or (decimal n ++ rest) 0 0) 45 ≡ false = digit_is_not (get_or (decimal n ++ rest) 0 0) 45 (first_digit n rest (omega arith)) (omega arith) in
    rw (first, number_again 2147483647 n rest le (omega arith) stop) refl
signed_read (negsuc n) rest fits stop =
    let le : n ≤ 2147483647 = leb-true _ _ fits in
    rw (number_again 2147483648 (suc n) rest (omega arith) (omega arith) stop) refl

numbers_read : (c k n : ℕ) (rest : List ℕ) → k ≤ 3 → n ≤ 63 → IsNoDigitFirst rest → numbers_at (36 ∷ c ∷ ((decimal k ++ codes ".") ++ decimal n) ++ rest) ≡ (k, n, rest)
unfolding numbers_at
numbers_read c k n rest ke ne stop =
    let regroup : ((decimal k ++ codes ".") ++ decimal n) ++ rest ≡ decimal k ++ (46 ∷ (decimal n ++ rest)) =
    append_assoc (decimal k ++ codes ".") (decimal n) rest ∙ append_assoc (decimal k) (codes ".") (decimal n ++ rest) in
    let one : number_at (((decimal k ++ codes ".") ++ decimal n) ++ rest) ≡ (k, 46 ∷ (decimal n ++ rest)) = ap number_at regroup ∙ number_read k (46 ∷ (decimal n ++ rest)) (omega arith) refl in
    rw (one, number_read n rest (omega arith) stop) refl

general_bounds : (r : GeneralRegister) → can_name r ≡ true → (r.cluster ≤ 3) × (r.number ≤ 63)
general_bounds r e = let b = both_true (nat_le r.cluster 3) (nat_le r.number 63) e in (leb-true _ _ b.0, leb-true _ _ b.1)

branch_bounds : (r : BranchRegister) → can_name_branch r ≡ true → (r.cluster ≤ 3) × (r.number ≤ 7)
branch_bounds r e = let b = both_true (nat_le r.cluster 3) (nat_le r.number 7) e in (leb-true _ _ b.0, leb-true _ _ b.1)

pub general_read : (r : GeneralRegister) (rest : List ℕ) → can_name r ≡ true → IsNoDigitFirst rest → general_at (general_text r ++ rest) ≡ (r, rest)
unfolding general_at
general_read r rest e stop = let b = general_bounds r e in rw (numbers_read 114 r.cluster r.number rest b.0 b.1 stop) refl

pub branch_read : (r : BranchRegister) (rest : List ℕ) → can_name_branch r ≡ true → IsNoDigitFirst rest → branch_at (branch_text r ++ rest) ≡ (r, rest)
unfolding branch_at
branch_read r rest e stop = let b = branch_bounds r e in rw (numbers_read 98 r.cluster r.number rest b.0 (omega (arith, b.1)) stop) refl

pub register_general_read : (r : GeneralRegister) (rest : List ℕ) → can_name r ≡ true → IsNoDigitFirst rest → register_at (general_text r ++ rest) ≡ (General r, rest)
unfolding register_at
register_general_read r rest e stop = rw (general_read r rest e stop) refl

pub register_branch_read : (r : BranchRegister) (rest : List ℕ) → can_name_branch r ≡ true → IsNoDigitFirst rest → register_at (branch_text r ++ rest) ≡ (Branch r, rest)
unfolding register_at
register_branch_read r rest e stop = rw (branch_read r rest e stop) refl

signed_first : (z : ℤ) (rest : List ℕ) → fits_signed z ≡ true → nat_eq (get_or (signed_decimal z ++ rest) 0 0) 36 ≡ false
signed_first (pos n) rest fits = let le : n ≤ 2147483647 = leb-true _ _ fits in digit_is_not (get_or (decimal n ++ rest) 0 0) 36 (first_digit n rest (omega arith)) (omega arith)
signed_first (negsuc n) rest fits = refl

pub source_read : (a : Source) (rest : List ℕ) → can_spell a ≡ true → fits_source a ≡ true → IsNoDigitFirst rest → source_at (source_text a ++ rest) ≡ (a, rest)
unfolding source_at
source_read (Held r) rest e fits stop = rw (general_read r rest e stop) refl
source_read (Number z) rest e fits stop = rw (signed_first z rest fits, signed_read z rest fits stop) refl

-- what is written is a number
pub decimal_is_number : (n : ℕ) → n < 2 ^ 64 → is_number (decimal n) ≡ true
decimal_is_number n small = is_number_of n small
  where
    is_number_of : (n : ℕ) → n < 2 ^ 64 → is_number (decimal n) ≡ true
    is_number_of zero small = rw (decimal_digit 0 (omega arith)) refl
    is_number_of (suc n) small =
        let first : 48 < get_or (decimal (suc n)) 0 0 = first_decimal (suc n) (omega arith) small in
        let apart : nat_eq (get_or (decimal (suc n)) 0 0) 48 ≡ false = grind (arith, nat_tests) in
        rw (digits_decimal own (suc n) small, lt-ltb _ _ (decimal_nonempty (suc n) small), apart) refl
