-- Reading digits: what is written is read again, and what is read as a number below the cap was written so.
use Rattle.std.proofs.Common.{◌≡◌, ℕ, ◌+◌, ◌-◌, ◌*◌, ◌^◌, ◌<◌, ◌≤◌, min, Bool, true, false, ◌&&◌, ◌||◌, List, [], ◌∷◌, ◌++◌, length, get_or, refl, sym, ap, subst, ◌∙◌, ◌⊎◌, inl, inr, arith, rules}
use Rattle.std.specs.Prelude.{decimal, not, nat_eq, nat_lt}
use Rattle.std.specs.List.{list_all}
use Rattle.std.proofs.lemmas.Str.Parse.{IsNumeralModel, numerals_by_fold}
use Rattle.std.proofs.lemmas.Fmt.{digits_decimal, digits_value-decimal, decimal-digits_value}
use Rattle.std.proofs.lemmas.Bool.{cases_lt}
use borrow.Author.Tests.{ltb-true}
use Rattle.std.proofs.lemmas.Bool.Decides.{nat_tests}
use Rattle.vx_reader.specs.Fields.{is_digit, number_from}
use Rattle.vx_reader.specs.Reading.{is_number}
use Rattle.vx_reader.specs.Steps.{value_from}

pub own : IsNumeralModel (λ ds. list_all is_digit ds ≡ true) (value_from 0)
own = numerals_by_fold _ (search rules) value_from (search rules)

-- digits on from v only make the value larger
value_grows : (n : ℕ) (ds : List ℕ) → n ≤ value_from n ds
value_grows n [] = omega arith
value_grows n (c ∷ cs) = let h = value_grows (10 * n + (c - 48)) cs in omega (arith, h)

pub both_true : (a b : Bool) → (a && b) ≡ true → (a ≡ true) × (b ≡ true)
both_true true true e = (refl, refl)
both_true true false e = absurd cc
both_true false b e = absurd cc

-- digits, and then what is no digit or nothing
pub number_over : (most n : ℕ) (ds rest : List ℕ) → list_all is_digit ds ≡ true → number_from most n (ds ++ rest) ≡ number_from most (number_from most n ds).0 rest
number_over most n [] rest all = refl
number_over most n (c ∷ cs) rest all =
    let b = both_true (is_digit c) (list_all is_digit cs) all in
    rw (b.0) (number_over most (min most (10 * n + (c - 48))) cs rest b.1)

abbrev pub IsNoDigitFirst : List ℕ → Type 0
IsNoDigitFirst [] = Unit {0}
IsNoDigitFirst (c ∷ cs) = is_digit c ≡ false

pub number_stops : (most n : ℕ) (rest : List ℕ) → IsNoDigitFirst rest → number_from most n rest ≡ (n, rest)
number_stops most n [] h = refl
number_stops most n (c ∷ cs) h = rw h refl

-- a value up to the cap is read as it is
pub number_exact : (most n : ℕ) (ds : List ℕ) → list_all is_digit ds ≡ true → value_from n ds ≤ most → (number_from most n ds).0 ≡ value_from n ds
number_exact most n [] all le = refl
number_exact most n (c ∷ cs) all le =
    let b = both_true (is_digit c) (list_all is_digit cs) all in
    let grows = value_grows (10 * n + (c - 48)) cs in
    let whole : min most (10 * n + (c - 48)) ≡ 10 * n + (c - 48) = omega (arith, grows, le) in
    rw (b.0, whole) (number_exact most (10 * n + (c - 48)) cs b.1 le)

-- at the cap it stays there
number_full : (most : ℕ) (ds : List ℕ) → list_all is_digit ds ≡ true → (number_from most most ds).0 ≡ most
number_full most [] all = refl
number_full most (c ∷ cs) all =
    let b = both_true (is_digit c) (list_all is_digit cs) all in
    let whole : min most (10 * most + (c - 48)) ≡ most = omega arith in
    rw (b.0, whole) (number_full most cs b.1)

-- what is read below the cap is the value
number_below_by : (most n c : ℕ) (cs : List ℕ) → is_digit c ≡ true → list_all is_digit cs ≡ true → (most < 10 * n + (c - 48)) ⊎ (10 * n + (c - 48) ≤ most)
    → (number_from most n (c ∷ cs)).0 < most
    → (10 * n + (c - 48) ≤ most → (number_from most (10 * n + (c - 48)) cs).0 < most → value_from (10 * n + (c - 48)) cs ≡ (number_from most (10 * n + (c - 48)) cs).0)
    → value_from (10 * n + (c - 48)) cs ≡ (number_from most n (c ∷ cs)).0
number_below_by most n c cs digit all (inl far) lt again =
    let full : min most (10 * n + (c - 48)) ≡ most = omega arith in
    let lt2 : (number_from most most cs).0 < most = subst (λ v. (number_from most v cs).0 < most) full (rw digit at lt) in
    absurd (omega (arith, lt2, number_full most cs all))
number_below_by most n c cs digit all (inr near) lt again =
    let same : min most (10 * n + (c - 48)) ≡ 10 * n + (c - 48) = omega arith in
    let lt2 : (number_from most (10 * n + (c - 48)) cs).0 < most = subst (λ v. (number_from most v cs).0 < most) same (rw digit at lt) in
    rw (digit, same) (again near lt2)

pub number_below : (most n : ℕ) (ds : List ℕ) → list_all is_digit ds ≡ true → n ≤ most → (number_from most n ds).0 < most → value_from n ds ≡ (number_from most n ds).0
number_below most n [] all le lt = refl
number_below most n (c ∷ cs) all le lt =
    let b = both_true (is_digit c) (list_all is_digit cs) all in
    number_below_by most n c cs b.0 b.1 (cases_lt most (10 * n + (c - 48))) lt (λ near lt2. number_below most (10 * n + (c - 48)) cs b.1 near lt2)

-- what is written is read again
pub number_again : (most n : ℕ) (rest : List ℕ) → n ≤ most → n < 2 ^ 64 → IsNoDigitFirst rest → number_from most 0 (decimal n ++ rest) ≡ (n, rest)
number_again most n rest le small stop =
    let all : list_all is_digit (decimal n) ≡ true = digits_decimal own n small in
    let value : value_from 0 (decimal n) ≡ n = digits_value-decimal own n small in
    let exact : (number_from most 0 (decimal n)).0 ≡ n = number_exact most 0 (decimal n) all (omega (arith, value)) ∙ value in
    number_over most 0 (decimal n) rest all ∙ ap (λ v. number_from most v rest) exact ∙ number_stops most n rest stop

pub is_number_digits : (ds : List ℕ) → is_number ds ≡ true → list_all is_digit ds ≡ true
is_number_digits ds e = (both_true (list_all is_digit ds) (nat_lt 0 (length ds)) (both_true (list_all is_digit ds && nat_lt 0 (length ds)) (not (nat_eq (get_or ds 0 0) 48) || nat_eq (length ds) 1) e).0).0

-- what is read as a number below the cap was written so
pub number_is_written : (most : ℕ) (ds : List ℕ) → most < 2 ^ 64 → is_number ds ≡ true → (number_from most 0 ds).0 < most → decimal (number_from most 0 ds).0 ≡ ds
number_is_written most ds small e lt =
    let all = is_number_digits ds e in
    let value = number_below most 0 ds all (omega arith) lt in
    let some : 0 < length ds = ltb-true _ _ (both_true (list_all is_digit ds) (nat_lt 0 (length ds)) (both_true (list_all is_digit ds && nat_lt 0 (length ds)) (not (nat_eq (get_or ds 0 0) 48) || nat_eq (length ds) 1) e).0).1 in
    let first : get_or ds 0 0 ≡ 48 → length ds ≡ 1 = λ z. grind (arith, nat_tests, z, (both_true (list_all is_digit ds && nat_lt 0 (length ds)) (not (nat_eq (get_or ds 0 0) 48) || nat_eq (length ds) 1) e).1) in
    ap decimal (sym value) ∙ decimal-digits_value own ds all some first (omega (arith, value))
