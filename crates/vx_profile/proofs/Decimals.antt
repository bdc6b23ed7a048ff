-- Numbers in decimal, however long: what is written is a number of that value, and each number is written so.
use Rattle.std.proofs.Common.{◌≡◌, ℕ, zero, suc, ◌+◌, ◌-◌, ◌*◌, ◌/◌, ◌%◌, ◌^◌, ◌<◌, ◌≤◌, Bool, true, false, ◌&&◌, ◌||◌, ◌==◌, List, [], ◌∷◌, ◌++◌, length, refl, sym, ap, ◌∙◌, ◌⊎◌, inl, inr, arith, rules, append-nil}
use Rattle.std.specs.Prelude.{decimal, not, nat_lt, nat_le}
use Rattle.std.specs.List.{list_all}
use Rattle.std.specs.Fmt.{digits_onto}
use Rattle.std.proofs.lemmas.Bool.{cases_lt, lt-ltb}
use Rattle.std.proofs.lemmas.Bool.Decides.{nat_tests}
use Rattle.std.proofs.lemmas.Fmt.{decimal_from_prepends, length-decimal-le_succ}
use Rattle.vx_profile.specs.Reading.{is_digit, value_from, is_number}
use Rattle.vx_profile.specs.Text.{number_text}

-- the digits of n in front of others, with room for so many
abbrev onto : (room n : ℕ) → List ℕ → List ℕ
onto k n acc = digits_onto k 10 false n acc

onto_one : (k n : ℕ) (acc : List ℕ) → n < 10 → onto (suc k) n acc ≡ (48 + n) ∷ acc
onto_one k n acc lt =
    let none : n / 10 ≡ 0 = omega arith in
    let whole : n % 10 ≡ n = omega arith in
    rw (none, whole, lt-ltb n 10 lt) refl

onto_more : (k n : ℕ) (acc : List ℕ) → 10 ≤ n → onto (suc k) n acc ≡ onto k (n / 10) ((48 + n % 10) ∷ acc)
onto_more k n acc le =
    let some : (n / 10 == 0) ≡ false = grind (arith, nat_tests) in
    let small : n % 10 < 10 = omega arith in
    rw (some, lt-ltb (n % 10) 10 small) refl

-- the value

value_onto : (k n : ℕ) (acc : List ℕ) → n < k → value_from 0 (onto k n acc) ≡ value_from n acc
value_onto zero n acc lt = absurd (omega arith)
value_onto (suc k) n acc lt = by (cases_lt n 10) (λ less. value_onto k (n / 10) ((48 + n % 10) ∷ acc) less)
  where
    by : (n < 10) ⊎ (10 ≤ n) → (n / 10 < k → value_from 0 (onto k (n / 10) ((48 + n % 10) ∷ acc)) ≡ value_from (n / 10) ((48 + n % 10) ∷ acc)) → value_from 0 (onto (suc k) n acc) ≡ value_from n acc
    by (inl small) again = ap (value_from 0) (onto_one k n acc small) ∙ ap (λ v. value_from v acc) (let e : 10 * 0 + (48 + n - 48) ≡ n = omega arith in e)
    by (inr large) again =
        ap (value_from 0) (onto_more k n acc large)
        ∙ again (omega arith)
        ∙ ap (λ v. value_from v acc) (let e : 10 * (n / 10) + (48 + n % 10 - 48) ≡ n = omega arith in e)

pub number_value : (n : ℕ) → value_from 0 (number_text n) ≡ n
unfolding number_text
number_value n = value_onto (suc n) n [] (omega arith)

-- the digits

digit_of : (d : ℕ) → d < 10 → is_digit (48 + d) ≡ true
digit_of d lt = grind (arith, nat_tests)

all_onto : (k n : ℕ) (acc : List ℕ) → n < k → list_all is_digit acc ≡ true → list_all is_digit (onto k n acc) ≡ true
all_onto zero n acc lt all = absurd (omega arith)
all_onto (suc k) n acc lt all = by (cases_lt n 10) (λ less small. all_onto k (n / 10) ((48 + n % 10) ∷ acc) less (rw (digit_of (n % 10) small) all))
  where
    by : (n < 10) ⊎ (10 ≤ n) → (n / 10 < k → n % 10 < 10 → list_all is_digit (onto k (n / 10) ((48 + n % 10) ∷ acc)) ≡ true) → list_all is_digit (onto (suc k) n acc) ≡ true
    by (inl small) again = ap (list_all is_digit) (onto_one k n acc small) ∙ rw (digit_of n small) all
    by (inr large) again = ap (list_all is_digit) (onto_more k n acc large) ∙ again (omega arith) (omega arith)

pub number_digits : (n : ℕ) → list_all is_digit (number_text n) ≡ true
unfolding number_text
number_digits n = all_onto (suc n) n [] (omega arith) refl

-- no zero leads

pub record Leads (text : List ℕ) : Type 0 where
  first : ℕ
  later : List ℕ
  is : text ≡ first ∷ later
  some : 48 < first

lead_onto : (k n : ℕ) (acc : List ℕ) → n < k → 0 < n → Leads (onto k n acc)
lead_onto zero n acc lt some = absurd (omega arith)
lead_onto (suc k) n acc lt some = by (cases_lt n 10) (λ less left. lead_onto k (n / 10) ((48 + n % 10) ∷ acc) less left)
  where
    by : (n < 10) ⊎ (10 ≤ n) → (n / 10 < k → 0 < n / 10 → Leads (onto k (n / 10) ((48 + n % 10) ∷ acc))) → Leads (onto (suc k) n acc)
    by (inl small) again = record { first = 48 + n; later = acc; is = onto_one k n acc small; some = omega arith }
    by (inr large) again =
        let l = again (omega arith) (omega arith) in
        record { first = l.first; later = l.later; is = onto_more k n acc large ∙ l.is; some = l.some }

leads_number : (text : List ℕ) → Leads text → is_number text ≡ true
leads_number text l = ap is_number l.is ∙ is_true l.first l.later l.some
  where
    is_true : (c : ℕ) (cs : List ℕ) → 48 < c → is_number (c ∷ cs) ≡ true
    is_true c cs lt = let apart : (c == 48) ≡ false = grind (arith, nat_tests) in rw (apart, lt-ltb 0 (length (c ∷ cs)) (omega arith)) refl

pub number_is_number : (n : ℕ) → is_number (number_text n) ≡ true
unfolding number_text
number_is_number zero = refl
number_is_number (suc n) = leads_number (number_text (suc n)) (lead_onto (suc (suc n)) (suc n) [] (omega arith) (omega arith))

-- each number is written so

onto_same : (k j n : ℕ) (acc : List ℕ) → n < k → n < j → onto k n acc ≡ onto j n acc
onto_same zero j n acc lt le = absurd (omega arith)
onto_same (suc k) zero n acc lt le = absurd (omega arith)
onto_same (suc k) (suc j) n acc lt le = by (cases_lt n 10) (λ one two. onto_same k j (n / 10) ((48 + n % 10) ∷ acc) one two)
  where
    by : (n < 10) ⊎ (10 ≤ n) → (n / 10 < k → n / 10 < j → onto k (n / 10) ((48 + n % 10) ∷ acc) ≡ onto j (n / 10) ((48 + n % 10) ∷ acc)) → onto (suc k) n acc ≡ onto (suc j) n acc
    by (inl small) again = onto_one k n acc small ∙ sym (onto_one j n acc small)
    by (inr large) again = onto_more k n acc large ∙ again (omega arith) (omega arith) ∙ sym (onto_more j n acc large)

onto_push : (k m d : ℕ) (acc : List ℕ) → 0 < m → d < 10 → 10 * m + d < k → onto k (10 * m + d) acc ≡ onto k m ((48 + d) ∷ acc)
onto_push zero m d acc some lt room = absurd (omega arith)
onto_push (suc k) m d acc some lt room =
    let front : (10 * m + d) / 10 ≡ m = omega arith in
    let back : (10 * m + d) % 10 ≡ d = omega arith in
    onto_more k (10 * m + d) acc (omega arith)
    ∙ ap (λ n. onto k n ((48 + (10 * m + d) % 10) ∷ acc)) front
    ∙ ap (λ c. onto k m ((48 + c) ∷ acc)) back
    ∙ onto_same k (suc k) m ((48 + d) ∷ acc) (omega arith) (omega arith)

-- digits on from v only make the value larger
pub value_grows : (n : ℕ) (ds : List ℕ) → n ≤ value_from n ds
value_grows n [] = omega arith
value_grows n (c ∷ cs) = let h = value_grows (10 * n + (c - 48)) cs in omega (arith, h)

pub both_true : (a b : Bool) → (a && b) ≡ true → (a ≡ true) × (b ≡ true)
both_true true true e = (refl, refl)
both_true true false e = absurd cc
both_true false b e = absurd cc

digit_bounds : (c : ℕ) → is_digit c ≡ true → (48 ≤ c) × (c ≤ 57)
digit_bounds c e = let b = both_true (nat_le 48 c) (nat_le c 57) e in (grind (arith, nat_tests, b.0), grind (arith, nat_tests, b.1))

onto_back : (k m : ℕ) (ds acc : List ℕ) → 0 < m → list_all is_digit ds ≡ true → value_from m ds < k → onto k (value_from m ds) acc ≡ onto k m (ds ++ acc)
onto_back k m [] acc some all room = refl
onto_back k m (c ∷ cs) acc some all room =
    let b = both_true (is_digit c) (list_all is_digit cs) all in
    let bounds = digit_bounds c b.0 in
    let grows = value_grows (10 * m + (c - 48)) cs in
    let same : 48 + (c - 48) ≡ c = omega (arith, bounds.0) in
    onto_back k (10 * m + (c - 48)) cs acc (omega arith) b.1 room
    ∙ onto_push k m (c - 48) (cs ++ acc) some (omega (arith, bounds.0, bounds.1)) (omega (arith, grows, room))
    ∙ ap (λ d. onto k m (d ∷ (cs ++ acc))) same

written_by : (c : ℕ) (cs : List ℕ) (b : Bool) → (c == 48) ≡ b → list_all is_digit (c ∷ cs) ≡ true → is_number (c ∷ cs) ≡ true → number_text (value_from 0 (c ∷ cs)) ≡ c ∷ cs
unfolding number_text
written_by c [] true e all lead = let zero_digit : c ≡ 48 = grind (arith, nat_tests) in rw zero_digit refl
written_by c (d ∷ ds) true e all lead = absurd (grind (arith, nat_tests, both_true (nat_lt 0 (length (c ∷ d ∷ ds))) (not (c == 48) || (length (c ∷ d ∷ ds) == 1)) lead))
written_by c cs false e all lead =
    let b = both_true (is_digit c) (list_all is_digit cs) all in
    let bounds = digit_bounds c b.0 in
    let apart : 48 < c = grind (arith, nat_tests, bounds.0, e) in
    let n = value_from 0 (c ∷ cs) in
    let same : 48 + (10 * 0 + (c - 48)) ≡ c = omega (arith, apart) in
    onto_back (suc n) (10 * 0 + (c - 48)) cs [] (omega (arith, apart)) b.1 (omega arith)
    ∙ onto_one n (10 * 0 + (c - 48)) (cs ++ []) (omega (arith, apart, bounds.1))
    ∙ ap (λ d. d ∷ (cs ++ [])) same
    ∙ ap (λ t. c ∷ t) (append-nil cs)

pub number_written : (ds : List ℕ) → list_all is_digit ds ≡ true → is_number ds ≡ true → number_text (value_from 0 ds) ≡ ds
number_written [] all lead = absurd cc
number_written (c ∷ cs) all lead = written_by c cs (c == 48) refl all lead

-- below 2 ^ 64 it is what is written of an unsigned number

pub decimal_is_number : (n : ℕ) → n < 2 ^ 64 → decimal n ≡ number_text n
unfolding number_text
decimal_is_number n small =
    sym (decimal_from_prepends (λ k n acc. onto k n acc) (search rules) (suc n) n [] small (let h = length-decimal-le_succ n small in omega (arith, h)) ∙ append-nil (decimal n))
