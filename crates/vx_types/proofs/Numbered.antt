-- Consecutive numbers, as declarations take them.
use Rattle.std.proofs.Common.{◌≡◌, ℕ, zero, suc, ◌+◌, ◌-◌, ◌<◌, ◌≤◌, Bool, true, false, ◌&&◌, ◌||◌, nat_eq, nat_lt, List, [], ◌∷◌, ◌++◌, map, refl, ap, sym, ◌∙◌, arith}
use Rattle.std.specs.List.{list_all}
use Rattle.std.proofs.lemmas.Bool.{lt-ltb, eq-eqb, eqb-true, ltb-true}
use Rattle.vx_ast.specs.Accepted.{is_in, at_most, below, are_all_from}
use Rattle.vx_types.proofs.Suits.{and_both}

pub eq_itself : (n : ℕ) → nat_eq n n ≡ true
eq_itself n = eq-eqb n n refl

bool_false : (b : Bool) → (b ≡ true → ⊥) → b ≡ false
bool_false true h = absurd (h refl)
bool_false false h = refl

pub apart_false : (m n : ℕ) → (m ≡ n → ⊥) → nat_eq m n ≡ false
apart_false m n h = bool_false (nat_eq m n) (λ e. h (eqb-true m n e))

pub lt_true : (m n : ℕ) → m < n → nat_lt m n ≡ true
lt_true m n h = lt-ltb m n h

pub lt_false : (m n : ℕ) → n ≤ m → nat_lt m n ≡ false
lt_false m n h = bool_false (nat_lt m n) (λ e. let k : m < n = ltb-true m n e in omega arith)

or_left : (a b : Bool) → a ≡ true → (a || b) ≡ true
or_left a b p = ap (λ (z : Bool). z || b) p

or_right : (a b : Bool) → b ≡ true → (a || b) ≡ true
or_right true b p = refl
or_right false b p = p

or_neither : (a b : Bool) → a ≡ false → b ≡ false → (a || b) ≡ false
or_neither a b p q = ap (λ (z : Bool). z || b) p ∙ q

pub in_front : (x : ℕ) (xs : List ℕ) → is_in x (x ∷ xs) ≡ true
in_front x xs = or_left (nat_eq x x) (is_in x xs) (eq_itself x)

pub in_more : (x y : ℕ) (xs : List ℕ) → is_in x xs ≡ true → is_in x (y ∷ xs) ≡ true
in_more x y xs h = or_right (nat_eq x y) (is_in x xs) h

pub in_below : (n m : ℕ) → n < m → is_in n (below m) ≡ true
in_below n zero h = absurd (omega arith)
in_below n (suc m) h =
    let by : (b : Bool) → nat_eq n m ≡ b → is_in n (m ∷ below m) ≡ true
    = λ b. elim b as (λ b. nat_eq n m ≡ b → is_in n (m ∷ below m) ≡ true) [
      | true ↦ λ e. or_left (nat_eq n m) (is_in n (below m)) e
      | false ↦ λ e. or_right (nat_eq n m) (is_in n (below m)) (in_below n m (let k : n ≡ m → ⊥ = λ q. (let t = eq-eqb n m q in cc) in (let w : n < suc m = h in omega (arith, w, k))))
    ] in
    by (nat_eq n m) refl

-- the same behind a number that is added to each
pub in_added : (base a m : ℕ) → base ≤ a → a < base + m → is_in a (map (λ k. base + k) (below m)) ≡ true
in_added base a zero h k = absurd (omega (arith, h, k))
in_added base a (suc m) h k =
    let by : (b : Bool) → nat_eq a (base + m) ≡ b → is_in a ((base + m) ∷ map (λ k. base + k) (below m)) ≡ true
    = λ b. elim b as (λ b. nat_eq a (base + m) ≡ b → is_in a ((base + m) ∷ map (λ k. base + k) (below m)) ≡ true) [
      | true ↦ λ e. or_left (nat_eq a (base + m)) (is_in a (map (λ k. base + k) (below m))) e
      | false ↦ λ e. or_right (nat_eq a (base + m)) (is_in a (map (λ k. base + k) (below m)))
          (in_added base a m h (let apart : a ≡ base + m → ⊥ = (λ q. (let t = eq-eqb a (base + m) q in cc)) in (let w : a < base + suc m = k in omega (arith, w, apart))))
    ] in
    by (nat_eq a (base + m)) refl

-- so many numbers, from one on
abbrev pub from : ℕ → ℕ → List ℕ
from s zero = []
from s (suc n) = s ∷ from (s + 1) n

from_append : (s m n : ℕ) → from s m ++ from (s + m) n ≡ from s (m + n)
from_append s zero n = (let k : s + 0 ≡ s = omega arith in let l : 0 + n ≡ n = omega arith in ap (λ z. from z n) k ∙ sym (ap (λ z. from s z) l))
from_append s (suc m) n =
    let k : s + suc m ≡ s + 1 + m = omega arith in
    let l : suc m + n ≡ suc (m + n) = omega arith in
    ap (λ z. s ∷ (from (s + 1) m ++ from z n)) k ∙ ap (λ (z : List ℕ). s ∷ z) (from_append (s + 1) m n) ∙ sym (ap (λ z. from s z) l)

in_from : (x s n : ℕ) → s ≤ x → x < s + n → is_in x (from s n) ≡ true
in_from x s zero h k = absurd (omega arith)
in_from x s (suc n) h k =
    let by : (b : Bool) → nat_eq x s ≡ b → is_in x (s ∷ from (s + 1) n) ≡ true
    = λ b. elim b as (λ b. nat_eq x s ≡ b → is_in x (s ∷ from (s + 1) n) ≡ true) [
      | true ↦ λ e. or_left (nat_eq x s) (is_in x (from (s + 1) n)) e
      | false ↦ λ e. let apart : x ≡ s → ⊥ = (λ q. (let t = eq-eqb x s q in cc)) in or_right (nat_eq x s) (is_in x (from (s + 1) n)) (in_from x (s + 1) n (omega (arith, h, apart)) (omega (arith, k)))
    ] in
    by (nat_eq x s) refl

each_in_from : (first count m : ℕ) → m ≤ count → list_all (λ k. is_in (first + k) (from first count)) (below m) ≡ true
each_in_from first count zero h = refl
each_in_from first count (suc m) h =
    and_both (is_in (first + m) (from first count)) (list_all (λ k. is_in (first + k) (from first count)) (below m)) (in_from (first + m) first count (omega arith) (omega arith)) (each_in_from first count m (omega arith))

within_from : (first top s n : ℕ) → first ≤ s → s + n ≤ top → list_all (λ x. at_most first x && nat_lt x top) (from s n) ≡ true
within_from first top s zero h k = refl
within_from first top s (suc n) h k =
    and_both (at_most first s && nat_lt s top) (list_all (λ x. at_most first x && nat_lt x top) (from (s + 1) n))
    (and_both (at_most first s) (nat_lt s top) (lt_true first (suc s) (omega arith)) (lt_true s top (omega arith)))
    (within_from first top (s + 1) n (omega arith) (omega arith))

pub all_from : (first count : ℕ) → are_all_from first count (from first count) ≡ true
all_from first count =
    and_both (list_all (λ k. is_in (first + k) (from first count)) (below count)) (list_all (λ x. at_most first x && nat_lt x (first + count)) (from first count))
    (each_in_from first count count (omega arith))
    (within_from first (first + count) first count (omega arith) (omega arith))

-- the numbers from one on, up to the next one
pub record Numbers (start next : ℕ) (list : List ℕ) : Type 0 where
  pub count : ℕ
  pub after : next ≡ start + count
  pub is : list ≡ from start count

pub numbers_none : (n : ℕ) → Numbers n n []
numbers_none n = record { count = 0; after = omega arith; is = refl }

pub numbers_one : (n : ℕ) → Numbers n (n + 1) (n ∷ [])
numbers_one n = record { count = suc zero; after = omega arith; is = refl }

pub numbers_on : (a b c : ℕ) (xs ys : List ℕ) → Numbers a b xs → Numbers b c ys → Numbers a c (xs ++ ys)
numbers_on a b c xs ys p q = record {
  count = p.count + q.count;
  after = (let k = p.after in let l = q.after in omega (arith, k, l));
  is = ap (λ (z : List ℕ). z ++ ys) p.is ∙ ap (λ (z : List ℕ). from a p.count ++ z) (q.is ∙ ap (λ (z : ℕ). from z q.count) p.after) ∙ from_append a p.count q.count;
}

pub numbers_all : (start next : ℕ) (list : List ℕ) → Numbers start next list → are_all_from start (next - start) list ≡ true
numbers_all start next list n =
    let k : next - start ≡ n.count = (let a = n.after in omega (arith, a)) in
    ap (λ (z : ℕ). are_all_from start z list) k ∙ ap (λ (z : List ℕ). are_all_from start n.count z) n.is ∙ all_from start n.count

pub numbers_rise : (start next : ℕ) (list : List ℕ) → Numbers start next list → start ≤ next
numbers_rise start next list n = (let a = n.after in omega (arith, a))
