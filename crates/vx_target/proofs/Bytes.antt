-- Addresses in bytes of words counted by 4: sums of them do not wrap.
use Rattle.std.proofs.Common.{◌≡◌, ℕ, ◌+◌, ◌*◌, ◌%◌, ◌^◌, ◌<◌, ℤ, pos, ◌+ℤ◌, true, refl, sym, ap, ◌∙◌, subst, arith, eqb}
use Rattle.std.proofs.lemmas.Bool.{le-leb, eq-eqb, and_from}
use Rattle.std.proofs.Math.Nat.{mod-eq_of_lt}
use Rattle.std.specs.Int.{w32}
use Rattle.std.proofs.lemmas.Int.{ints, int_wrap-add_left, int_wrap-add_right}
use Rattle.vx_base.specs.Arithmetic.{IsNumber, wrap, unsigned, sum_of, sh2add_of, product_of}
use Rattle.vx_base.proofs.WrapLaws.{unsigned-pos, unsigned-wrap, sum_of-exact}
use Rattle.vx_isa.specs.Machine.{is_word_of}

pub unsigned_small : (n : ℕ) → n < 2 ^ 32 → unsigned (pos n) ≡ n
unsigned_small n h = unsigned-pos n ∙ mod-eq_of_lt h

pub sum_is : (a b : ℤ) → sum_of a b ≡ wrap (a +ℤ b)
unfolding sum_of
sum_is a b = refl

pub address_is : (a b : ℕ) → a + b < 2 ^ 32 → unsigned (sum_of (pos a) (pos b)) ≡ a + b
address_is a b h = ap unsigned (sum_is (pos a) (pos b)) ∙ unsigned-wrap (pos a +ℤ pos b) ∙ unsigned_small (a + b) h

-- a place that has an address added, and then an offset
pub sum_then : (a b c : ℤ) → sum_of (sum_of a b) c ≡ wrap ((a +ℤ b) +ℤ c)
sum_then a b c = sum_is (sum_of a b) c ∙ ap (λ z. wrap (z +ℤ c)) (sum_is a b) ∙ int_wrap-add_left w32 (a +ℤ b) c

pub address_then : (a b c : ℕ) → a + b + c < 2 ^ 32 → unsigned (sum_of (sum_of (pos a) (pos b)) (pos c)) ≡ a + b + c
address_then a b c h = ap unsigned (sum_then (pos a) (pos b) (pos c)) ∙ unsigned-wrap ((pos a +ℤ pos b) +ℤ pos c) ∙ unsigned_small (a + b + c) h

-- an address and an offset that is itself a sum
pub sum_of_sum : (a b c : ℤ) → sum_of a (sum_of b c) ≡ wrap (a +ℤ (b +ℤ c))
sum_of_sum a b c = sum_is a (sum_of b c) ∙ ap (λ z. wrap (a +ℤ z)) (sum_is b c) ∙ int_wrap-add_right w32 a (b +ℤ c)

pub address_of_sum : (a b c : ℕ) → a + (b + c) < 2 ^ 32 → unsigned (sum_of (pos a) (sum_of (pos b) (pos c))) ≡ a + (b + c)
address_of_sum a b c h = ap unsigned (sum_of_sum (pos a) (pos b) (pos c)) ∙ unsigned-wrap (pos a +ℤ (pos b +ℤ pos c)) ∙ unsigned_small (a + (b + c)) h

-- an address with an offset, where both are words of a small memory
pub sum_up : (a b : ℕ) → a + b < 2 ^ 31 → sum_of (pos a) (pos b) ≡ pos (a + b)
sum_up a b h =
    let z : pos a +ℤ pos b ≡ pos (a + b) = omega (arith, ints) in
    sum_of-exact (pos a) (pos b) (subst IsNumber (sym z) (record { sfits = omega arith })) ∙ z

-- a place, with an address or with 0 added
pub place_with : (i a : ℤ) → sh2add_of i a ≡ sum_of (product_of (pos 4) i) a
unfolding sh2add_of product_of
place_with i a = sym (sum_is (product_of (pos 4) i) a ∙ int_wrap-add_left w32 _ a)

pub place_alone : (i : ℤ) → sh2add_of i (pos 0) ≡ product_of (pos 4) i
unfolding sh2add_of product_of
place_alone i = ap wrap (omega (arith, ints))

-- a word by its number is a word of a memory of so many
remainder : (x : ℕ) → (4 * x) % 4 ≡ 0
remainder x = omega arith

pub is_word : (x words : ℕ) → x < words → is_word_of (4 * words) (4 * x) ≡ true
is_word x words h = and_from (eqb ((4 * x) % 4) 0) _ (eq-eqb _ 0 (remainder x)) (le-leb (4 * x + 4) (4 * words) (omega arith))
