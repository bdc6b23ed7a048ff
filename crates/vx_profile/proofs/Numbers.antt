-- What is written at the front of a text is read again, and what is read was written so.
use Rattle.std.proofs.Common.{◌≡◌, ℕ, suc, ◌+◌, ◌-◌, ◌*◌, ◌^◌, ◌<◌, ◌≤◌, Bool, true, false, cond, List, [], ◌∷◌, ◌++◌, length, take, drop, Option, Some, None, get_or, refl, sym, ap, subst, ◌∙◌, arith, drop-cons}
use Rattle.std.specs.Prelude.{codes, nat_eq, nat_lt}
use Rattle.std.specs.List.{list_all, prefix_len}
use Rattle.std.specs.Str.{bytes_eq}
use Rattle.std.proofs.lemmas.Bool.{eqb-true, lt-ltb}
use Rattle.std.proofs.lemmas.Bool.Decides.{nat_tests}
use Rattle.std.proofs.lemmas.List.{take-append-drop, take_at, drop_all, drop_more}
use Rattle.vx_profile.specs.Reading.{◌>>=◌, is_digit, value_from, is_number, below, behind, number_at, name_at}
use Rattle.vx_profile.specs.Text.{number_text}
use Rattle.vx_profile.proofs.Decimals.{both_true, value_grows, number_value, number_digits, number_is_number, number_written}

-- options

pub bind_some : {X Y : Type 0} (o : Option X) (f : X → Option Y) (y : Y) → (o >>= f) ≡ Some y → (x : X) × (o ≡ Some x) × (f x ≡ Some y)
bind_some None f y e = absurd cc
bind_some (Some x) f y e = (x, refl, e)

pub some_is : {X : Type 0} (x y : X) → Some x ≡ Some y → x ≡ y
some_is x y e = cc

pub never : {X : Type 0} (o : Option X) (x : X) → o ≡ None → o ≡ Some x → ⊥
never None x none some = let e : None ≡ Some x = some in absurd cc
never (Some y) x none some = let e : Some y ≡ None = none in absurd cc

kept : {X : Type 0} (b : Bool) (x y : X) → cond b (Some x) None ≡ Some y → (b ≡ true) × (x ≡ y)
kept true x y e = (refl, some_is x y e)
kept false x y e = absurd cc

pub below_is : (bound n m : ℕ) → below bound n ≡ Some m → (n < bound) × (n ≡ m)
below_is bound n m e = let k = kept (nat_lt n bound) n m e in (grind (arith, nat_tests, k.0), k.1)

pub below_again : (bound n : ℕ) → n < bound → below bound n ≡ Some n
below_again bound n lt = rw (lt-ltb n bound lt) refl

pub below_none : (bound n : ℕ) → bound ≤ n → below bound n ≡ None
below_none bound n le = let no : nat_lt n bound ≡ false = grind (arith, nat_tests) in rw no refl

pub below_none_is : (bound n : ℕ) → below bound n ≡ None → bound ≤ n
below_none_is bound n e = by (nat_lt n bound) refl e
  where
    by : (b : Bool) → nat_lt n bound ≡ b → cond b (Some n) None ≡ None → bound ≤ n
    by true is e = absurd cc
    by false is e = grind (arith, nat_tests)

-- fronts

bytes_same : (xs ys : List ℕ) → bytes_eq xs ys ≡ true → xs ≡ ys
bytes_same [] [] e = refl
bytes_same [] (y ∷ ys) e = absurd cc
bytes_same (x ∷ xs) [] e = absurd cc
bytes_same (x ∷ xs) (y ∷ ys) e =
    let b = both_true (nat_eq x y) (bytes_eq xs ys) e in
    ap (λ k. k ∷ xs) (eqb-true x y b.0) ∙ ap (λ t. y ∷ t) (bytes_same xs ys b.1)

pub behind_is : (front text rest : List ℕ) → behind front text ≡ Some rest → text ≡ front ++ rest
unfolding behind
behind_is front text rest e =
    let k = kept (bytes_eq (take (length front) text) front) (drop (length front) text) rest e in
    sym (take-append-drop (length front) text) ∙ ap (λ t. t ++ drop (length front) text) (bytes_same (take (length front) text) front k.0) ∙ ap (λ t. front ++ t) k.1

-- numbers

abbrev pub IsNoDigitFirst : List ℕ → Type 0
IsNoDigitFirst [] = Unit {0}
IsNoDigitFirst (c ∷ cs) = is_digit c ≡ false

digits_here : (text : List ℕ) → list_all is_digit (take (prefix_len is_digit text) text) ≡ true
digits_here [] = refl
digits_here (c ∷ cs) = by (is_digit c) refl (digits_here cs)
  where
    by : (b : Bool) → is_digit c ≡ b → list_all is_digit (take (prefix_len is_digit cs) cs) ≡ true → list_all is_digit (take (prefix_len is_digit (c ∷ cs)) (c ∷ cs)) ≡ true
    by true e h = let one : 1 + prefix_len is_digit cs ≡ suc (prefix_len is_digit cs) = omega arith in rw (e, one, e) h
    by false e h = rw e refl

digits_end : (ds rest : List ℕ) → list_all is_digit ds ≡ true → IsNoDigitFirst rest → prefix_len is_digit (ds ++ rest) ≡ length ds
digits_end [] [] all stop = refl
digits_end [] (c ∷ cs) all stop = rw stop refl
digits_end (d ∷ ds) rest all stop =
    let b = both_true (is_digit d) (list_all is_digit ds) all in
    rw (b.0, digits_end ds rest b.1 stop) (omega arith)

drop_at : (ds rest : List ℕ) → drop (length ds) (ds ++ rest) ≡ rest
drop_at [] rest = refl
drop_at (d ∷ ds) rest = drop_at ds rest

pub number_is : (text : List ℕ) (x : Option ℕ × List ℕ) → number_at text ≡ Some x → (n : ℕ) × (below (2 ^ 64) n ≡ x.0) × (text ≡ number_text n ++ x.1)
unfolding number_at
number_is text x e =
    let k = prefix_len is_digit text in
    let ds = take k text in
    let h = kept (is_number ds) (below (2 ^ 64) (value_from 0 ds), drop k text) x e in
    let written = number_written ds (digits_here text) h.0 in
    (value_from 0 ds, ap (λ p. p.0) h.1, sym (take-append-drop k text) ∙ ap (λ t. t ++ drop k text) (sym written) ∙ ap (λ p. number_text (value_from 0 ds) ++ p.1) h.1)

pub number_again : (n : ℕ) (rest : List ℕ) → IsNoDigitFirst rest → number_at (number_text n ++ rest) ≡ Some (below (2 ^ 64) n, rest)
unfolding number_at
number_again n rest stop =
    let end = digits_end (number_text n) rest (number_digits n) stop in
    let front : take (length (number_text n)) (number_text n ++ rest) ≡ number_text n = take_at (number_text n) rest (length (number_text n)) refl in
    rw (end, front, number_is_number n, number_value n, drop_at (number_text n) rest) refl

-- names

pub name_is : (text : List ℕ) (x : ℕ × List ℕ) → name_at text ≡ Some x → (x.0 < 2 ^ 32) × (text ≡ number_text x.0 ++ 32 ∷ x.1)
unfolding name_at
name_is text x e =
    let n = bind_some (number_at text) _ x e in
    let rest = bind_some (behind (codes " ") n.0.1) _ x n.2 in
    let value = bind_some n.0.0 _ x rest.2 in
    let name = bind_some (below (2 ^ 32) value.0) _ x value.2 in
    let same = some_is (name.0, rest.0) x name.2 in
    let small = below_is (2 ^ 32) value.0 name.0 name.1 in
    let number = number_is text n.0 n.1 in
    let whole = below_is (2 ^ 64) number.0 value.0 (number.1 ∙ value.1) in
    let is : number.0 ≡ x.0 = whole.1 ∙ small.1 ∙ ap (λ p. p.0) same in (
      subst (λ k. k < 2 ^ 32) (small.1 ∙ ap (λ p. p.0) same) small.0,
      number.2 ∙ ap (λ k. number_text k ++ n.0.1) is ∙ ap (λ t. number_text x.0 ++ t) (behind_is (codes " ") n.0.1 rest.0 rest.1) ∙ ap (λ p. number_text x.0 ++ 32 ∷ p.1) same,
    )

pub name_again : (n : ℕ) (rest : List ℕ) → n < 2 ^ 32 → name_at (number_text n ++ 32 ∷ rest) ≡ Some (n, rest)
unfolding name_at behind
name_again n rest lt =
    rw (number_again n (32 ∷ rest) refl, below_again (2 ^ 64) n (omega arith), below_again (2 ^ 32) n lt) refl

-- the value of digits, from the left

pub value_end : (ds : List ℕ) (i v : ℕ) → value_from v (drop i ds) ≡ value_from 0 ds → length ds ≤ i → v < 2 ^ 64 → Some v ≡ below (2 ^ 64) (value_from 0 ds)
value_end ds i v e over small =
    let none : drop i ds ≡ [] = drop_all i ds over in
    let same : v ≡ value_from 0 ds = sym (ap (value_from v) none) ∙ e in
    sym (below_again (2 ^ 64) v small) ∙ ap (below (2 ^ 64)) same

pub value_over : (ds : List ℕ) (i v : ℕ) → value_from v (drop i ds) ≡ value_from 0 ds → i < length ds → below (2 ^ 64) (10 * v + (get_or ds i 0 - 48)) ≡ None → below (2 ^ 64) (value_from 0 ds) ≡ None
value_over ds i v e there none =
    let m = 10 * v + (get_or ds i 0 - 48) in
    let more : value_from m (drop (suc i) ds) ≡ value_from 0 ds = sym (ap (value_from v) (drop-cons ds i 0 there)) ∙ e in
    let grows = value_grows m (drop (suc i) ds) in
    let large = below_none_is (2 ^ 64) m none in
    below_none (2 ^ 64) (value_from 0 ds) (omega (arith, large, grows, more))

pub value_more : (ds : List ℕ) (i v w : ℕ) → value_from v (drop i ds) ≡ value_from 0 ds → i < length ds → below (2 ^ 64) (10 * v + (get_or ds i 0 - 48)) ≡ Some w → (value_from w (drop (i + 1) ds) ≡ value_from 0 ds) × (w < 2 ^ 64)
value_more ds i v w e there some =
    let b = below_is (2 ^ 64) (10 * v + (get_or ds i 0 - 48)) w some in
    (sym (ap (λ z. value_from z (drop (i + 1) ds)) b.1) ∙ sym (ap (value_from v) (drop_more ds i 0 there)) ∙ e, subst (λ z. z < 2 ^ 64) b.1 b.0)
