-- Intervals: what holds of operands holds of what an operation gives, and what a test says of its operands holds of them.
use Rattle.std.proofs.Common.{◌≡◌, ℕ, zero, suc, ◌^◌, ◌<◌, ◌==◌, Bool, true, false, cond, ◌&&◌, ◌≤ℤ◌, ◌<ℤ◌, ℤ, pos, negsuc, ◌+ℤ◌, ◌-ℤ◌, ◌*ℤ◌, int_le, int_lt, ◌*◌, ◌/◌, ◌%◌, ◌≤◌, bit_and, List, [], ◌∷◌, Some, None, refl, sym, ap, ◌∙◌, subst, arith}
use Rattle.std.specs.Int.{w32, int_max, int_min}
use Rattle.std.proofs.lemmas.Int.{ints, int_wrap_fits, int_wrap-mul_right}
use Rattle.std.proofs.lemmas.Bool.{eqb-true}
use Rattle.vx_base.specs.Arithmetic.{IsNumber, wrap, unsigned, shift_by, product_of, shl_of, and_of, remainder_of, mpylu_of, mpyhs_of, sum_of, difference_of, one_if, value_of, compare_of}
use Rattle.vx_base.specs.declared.arithmetic.Code.{Code}
use Rattle.vx_base.specs.declared.arithmetic.Code.TheVariants.{Add, Sub, And, Or, Xor, Shl, Shr, Shru, Sh2add, Max, Min, Mov, ToGeneral, ToBranch, Mpylu, Mpyhs, Div, Rem}
use Rattle.vx_base.proofs.WrapLaws.{wrap_fits, unsigned_number, wrap-unsigned_times}
use Rattle.std.proofs.Math.IntN.{*ℤ_comm, *ℤ-zero, suc_ℤ-*ℤ}
use Rattle.std.proofs.Math.Nat.{mod-eq_of_lt}
use Rattle.std.proofs.lemmas.Nat.{and_le_l, and_le_r, mod_below}
use Rattle.vx_base.proofs.ArithmeticLaws.{value_fits_law}
use Rattle.vx_flow.specs.declared.graph.Operand.{Operand}
use Rattle.vx_flow.specs.declared.graph.Operand.TheVariants.{Held, Number, Stack}
use Rattle.vx_flow.specs.Effects.{Content, both, computed, is_unary}
use Rattle.vx_claims.specs.declared.intervals.Interval.{Interval}
use Rattle.vx_claims.specs.declared.residues.Residue.{Residue}
use Rattle.vx_claims.specs.declared.fact.Fact.{Fact}
use Rattle.vx_claims.specs.declared.fact.Fact.TheVariants.{Between, Congruent, Equals, Never}
use Rattle.vx_claims.specs.Residues.{Agrees, exactly}
use Rattle.vx_narrow.proofs.Congruences.{unknown_holds, exactly_holds, finer_holds, rounded_holds}
use Rattle.vx_claims.specs.Facts.{least, greatest, full, Within, content, AllHold, meet, meet_if, range, finer_if, residue, is_single, residue_within, range_of, residue_of, fitting, sum_within, difference_within, up_to, is_above, and_within, remainder_within, times_if, product_if, is_half, times_or_product, low_product_within, high_product_within, zero_only, bit, shifted_within, result_within}

pub number_within : (z : ℤ) → IsNumber z → Within full (Some z)
number_within (pos n) f = (omega (arith, ints), omega (arith, ints, f.sfits))
number_within (negsuc n) f = (omega (arith, ints, f.sfits), omega (arith, ints))

pub within_number : (z : ℤ) → Within full (Some z) → IsNumber z
within_number (pos n) w = record { sfits = omega (arith, ints, w.1) }
within_number (negsuc n) w = record { sfits = omega (arith, ints, w.0) }

pub and_one : (a b : Bool) → (a && b) ≡ true → a ≡ true
and_one true b h = refl
and_one false b h = h

pub and_two : (a b : Bool) → (a && b) ≡ true → b ≡ true
and_two true b h = h
and_two false b h = absurd (cc)

pub le_holds : (a b : ℤ) → int_le a b ≡ true → a ≤ℤ b
le_holds a b e = omega (arith, ints)

pub lt_holds : (a b : ℤ) → int_lt a b ≡ true → a <ℤ b
lt_holds a b e = omega (arith, ints)

max_below : (a b z : ℤ) → a ≤ℤ z → b ≤ℤ z → int_max a b ≤ℤ z
max_below a b z h k = by (int_lt b a)
  where
    by : (t : Bool) → cond t a b ≤ℤ z
    by true = h
    by false = k

min_above : (a b z : ℤ) → z ≤ℤ a → z ≤ℤ b → z ≤ℤ int_min a b
min_above a b z h k = by (int_lt b a)
  where
    by : (t : Bool) → z ≤ℤ cond t b a
    by true = k
    by false = h

meet_within : (i j : Interval) (c : Content) → Within i c → Within j c → Within (meet i j) c
meet_within i j None h k = tt
meet_within i j (Some z) h k = (max_below i.low j.low z h.0 k.0, min_above i.high j.high z h.1 k.1)

meet_holds : (t : Bool) (i j : Interval) (c : Content) → (t ≡ true → Within i c) → Within j c → Within (meet_if t i j) c
meet_holds true i j c h k = meet_within i j c (h refl) k
meet_holds false i j c h k = k

abbrev pub Fit : (ℕ → Content) → Type 0
Fit values = (v : ℕ) → Within full (values v)

pub range_holds : (values : ℕ → Content) (fs : List Fact) (v : ℕ) → Fit values → AllHold values fs → Within (range fs v) (values v)
range_holds values [] v fit h = fit v
range_holds values (Between u i ∷ fs) v fit h =
    meet_holds (u == v) i (range fs v) (values v) (λ e. subst (λ w. Within i (values w)) (eqb-true u v e) h.0) (range_holds values fs v fit h.1)
range_holds values (Congruent u c ∷ fs) v fit h = range_holds values fs v fit h.1
range_holds values (Equals u code a b ∷ fs) v fit h = range_holds values fs v fit h.1
range_holds values (Never ∷ fs) v fit h = absurd h.0

refined_holds : (t : Bool) (c d : Residue) (x : Content) → (t ≡ true → Agrees c x) → Agrees d x → Agrees (finer_if t c d) x
refined_holds true c d x h k = finer_holds c d x (h refl) k
refined_holds false c d x h k = k

residue_holds : (values : ℕ → Content) (fs : List Fact) (v : ℕ) → AllHold values fs → Agrees (residue fs v) (values v)
residue_holds values [] v h = unknown_holds (values v)
residue_holds values (Between u i ∷ fs) v h = residue_holds values fs v h.1
residue_holds values (Congruent u c ∷ fs) v h =
    refined_holds (u == v) c (residue fs v) (values v) (λ e. subst (λ w. Agrees c (values w)) (eqb-true u v e) h.0) (residue_holds values fs v h.1)
residue_holds values (Equals u code a b ∷ fs) v h = residue_holds values fs v h.1
residue_holds values (Never ∷ fs) v h = absurd h.0

le_same : (z : ℤ) → z ≤ℤ z
le_same z = omega (arith, ints)

pub range_of_holds : (values : ℕ → Content) (fs : List Fact) (x : Operand) → Fit values → AllHold values fs → Within (range_of fs x) (content values x)
range_of_holds values fs (Held v) fit h = rounded_holds (residue fs v) (range fs v) (values v) (residue_holds values fs v h) (range_holds values fs v fit h)
range_of_holds values fs (Number n) fit h = (le_same n, le_same n)
range_of_holds values fs Stack fit h = tt

single_holds : (i : Interval) (c : Residue) (x : Content) → Within i x → Agrees c x → Agrees (residue_within i c) x
single_holds i c None w h = tt
single_holds i c (Some z) w h = by (is_single i) refl
  where
    by : (t : Bool) → int_le i.high i.low ≡ t → Agrees (cond t (exactly i.low) c) (Some z)
    by true e = let l : i.high ≤ℤ i.low = le_holds i.high i.low e in let w0 : i.low ≤ℤ z = w.0 in let w1 : z ≤ℤ i.high = w.1 in exactly_holds i.low z (omega (arith, ints))
    by false e = h

pub residue_of_holds : (values : ℕ → Content) (fs : List Fact) (x : Operand) → Fit values → AllHold values fs → Agrees (residue_of fs x) (content values x)
residue_of_holds values fs (Held v) fit h = single_holds (range_of fs (Held v)) (residue fs v) (values v) (range_of_holds values fs (Held v) fit h) (residue_holds values fs v h)
residue_of_holds values fs (Number n) fit h = exactly_holds n n refl
residue_of_holds values fs Stack fit h = tt

-- ---- results

fitting_holds : (low high z : ℤ) → low ≤ℤ z → z ≤ℤ high → Within (fitting low high) (Some (wrap z))
fitting_holds low high z h k = by ((int_le least low && int_le high greatest) && int_le low high) refl
  where
    by : (t : Bool) → ((int_le least low && int_le high greatest) && int_le low high) ≡ t → Within (cond t (record { low = low; high = high }) full) (Some (wrap z))
    by true e0 =
        let e = and_one (int_le least low && int_le high greatest) (int_le low high) e0 in
        let l : least ≤ℤ low = le_holds least low (and_one (int_le least low) (int_le high greatest) e) in
        let g : high ≤ℤ greatest = le_holds high greatest (and_two (int_le least low) (int_le high greatest) e) in
        let a : least ≤ℤ z = omega (arith, ints) in
        let b : z ≤ℤ greatest = omega (arith, ints) in
        let is : wrap z ≡ z = int_wrap_fits w32 z (within_number z (a, b)) in
        subst (λ y. Within (record { low = low; high = high }) (Some y)) (sym is) (h, k)
    by false e = number_within (wrap z) (wrap_fits z)

add_above : (a b c d : ℤ) → a ≤ℤ b → c ≤ℤ d → (a +ℤ c) ≤ℤ (b +ℤ d)
add_above a b c d h k = omega (arith, ints)

sub_above : (a b c d : ℤ) → a ≤ℤ b → c ≤ℤ d → (a -ℤ d) ≤ℤ (b -ℤ c)
sub_above a b c d h k = omega (arith, ints)

sum_holds : (i j : Interval) (x y : ℤ) → Within i (Some x) → Within j (Some y) → Within (sum_within i j) (Some (sum_of x y))
unfolding sum_of
sum_holds i j x y h k = fitting_holds (i.low +ℤ j.low) (i.high +ℤ j.high) (x +ℤ y) (add_above _ _ _ _ h.0 k.0) (add_above _ _ _ _ h.1 k.1)

difference_holds : (i j : Interval) (x y : ℤ) → Within i (Some x) → Within j (Some y) → Within (difference_within i j) (Some (difference_of x y))
unfolding difference_of
difference_holds i j x y h k = fitting_holds (i.low -ℤ j.high) (i.high -ℤ j.low) (x -ℤ y) (sub_above _ _ _ _ h.0 k.1) (sub_above _ _ _ _ h.1 k.0)

pub product_suc : (x : ℤ) (n : ℕ) → x *ℤ pos (suc n) ≡ x *ℤ pos n +ℤ x
product_suc x n = *ℤ_comm x (pos (suc n)) ∙ suc_ℤ-*ℤ (pos n) x ∙ ap (λ z. z +ℤ x) (*ℤ_comm (pos n) x)

times_above : (x y : ℤ) (n : ℕ) → x ≤ℤ y → (x *ℤ pos n) ≤ℤ (y *ℤ pos n)
times_above x y zero h = subst (λ z. (x *ℤ pos 0) ≤ℤ z) (*ℤ-zero x ∙ sym (*ℤ-zero y)) (le_same (x *ℤ pos 0))
times_above x y (suc n) h =
    let k : (x *ℤ pos n) ≤ℤ (y *ℤ pos n) = times_above x y n h in
    let m : (x *ℤ pos n +ℤ x) ≤ℤ (y *ℤ pos n +ℤ y) = add_above (x *ℤ pos n) (y *ℤ pos n) x y k h in
    subst (λ z. z ≤ℤ (y *ℤ pos (suc n))) (sym (product_suc x n)) (subst (λ z. (x *ℤ pos n +ℤ x) ≤ℤ z) (sym (product_suc y n)) m)

pub times_holds : (i : Interval) (x : ℤ) (n : ℕ) → Within i (Some x) → Within (times_if true i (pos n)) (Some (wrap (x *ℤ pos n)))
times_holds i x n h = fitting_holds (i.low *ℤ pos n) (i.high *ℤ pos n) (x *ℤ pos n) (times_above i.low x n h.0) (times_above x i.high n h.1)

one_times : (z : ℤ) → pos 1 *ℤ z ≡ z
one_times z = omega (arith, ints)

pub shifted_whole : (a k n : ℤ) → shl_of (pos 1) k ≡ n → shl_of a k ≡ product_of a n
unfolding shl_of product_of
shifted_whole a k n e =
    let power : ℤ = pos (2 ^ shift_by k) in
    ap (λ z. wrap (a *ℤ z)) (sym (one_times power)) ∙ sym (int_wrap-mul_right w32 a (pos 1 *ℤ power)) ∙ ap (λ z. wrap (a *ℤ z)) e

factor_holds : (i : Interval) (x n m : ℤ) → Within i (Some x) → n ≡ m → pos 0 ≤ℤ m → Within (times_if true i m) (Some (product_of x n))
unfolding product_of
factor_holds i x n (pos m) h e l = subst (λ z. Within (times_if true i (pos m)) (Some (wrap (x *ℤ z)))) (sym e) (times_holds i x m h)
factor_holds i x n (negsuc m) h e l = absurd (omega (arith, ints))

shl_fits : (x y : ℤ) → IsNumber (shl_of x y)
unfolding shl_of
shl_fits x y = wrap_fits (x *ℤ pos (2 ^ shift_by y))

shifted_holds : (i j : Interval) (x y : ℤ) → Within i (Some x) → Within j (Some y) → Within (shifted_within i j) (Some (shl_of x y))
shifted_holds i j x y h k = by (int_le j.high j.low && int_le (pos 0) n) refl
  where
    n : ℤ
    n = shl_of (pos 1) j.low

    by : (t : Bool) → (int_le j.high j.low && int_le (pos 0) n) ≡ t → Within (times_if t i n) (Some (shl_of x y))
    by true e =
        let l : j.high ≤ℤ j.low = le_holds j.high j.low (and_one (int_le j.high j.low) (int_le (pos 0) n) e) in
        let k0 : j.low ≤ℤ y = k.0 in
        let k1 : y ≤ℤ j.high = k.1 in
        let same : j.low ≡ y = omega (arith, ints) in
        subst (λ z. Within (times_if true i n) (Some z)) (sym (shifted_whole x j.low n refl) ∙ ap (shl_of x) same) (factor_holds i x n n h refl (le_holds (pos 0) n (and_two (int_le j.high j.low) (int_le (pos 0) n) e)))
    by false e = number_within (shl_of x y) (shl_fits x y)

bits_of : (n : ℕ) → n < 2 ^ 31 → unsigned (pos n) ≡ n
bits_of n h = unsigned_number (pos n) (record { sfits = omega arith })

le_then : (a b c : ℤ) → a ≤ℤ b → b ≤ℤ c → a ≤ℤ c
le_then a b c h k = omega (arith, ints)

product_above : (a b c d : ℤ) → pos 0 ≤ℤ a → a ≤ℤ c → pos 0 ≤ℤ b → b ≤ℤ d → (a *ℤ b) ≤ℤ (c *ℤ d)
product_above (pos m) b c (pos q) h l g r =
    let u : (b *ℤ pos m) ≤ℤ (pos q *ℤ pos m) = times_above b (pos q) m r in
    let w : (pos m *ℤ b) ≤ℤ (pos m *ℤ pos q) = subst (λ z. z ≤ℤ (pos m *ℤ pos q)) (*ℤ_comm b (pos m)) (subst (λ z. (b *ℤ pos m) ≤ℤ z) (*ℤ_comm (pos q) (pos m)) u) in
    le_then (pos m *ℤ b) (pos m *ℤ pos q) (c *ℤ pos q) w (times_above (pos m) c q l)
product_above (pos m) b c (negsuc q) h l g r = absurd (omega (arith, ints))
product_above (negsuc m) b c d h l g r = absurd (omega (arith, ints))

product_holds : (i j : Interval) (x y : ℤ) → Within i (Some x) → Within j (Some y) → pos 0 ≤ℤ i.low → pos 0 ≤ℤ j.low → Within (product_if true i j) (Some (wrap (x *ℤ y)))
product_holds i j x y h k a b =
    fitting_holds (i.low *ℤ j.low) (i.high *ℤ j.high) (x *ℤ y) (product_above i.low j.low x y a h.0 b k.0)
    (product_above x y i.high j.high (le_then (pos 0) i.low x a h.0) h.1 (le_then (pos 0) j.low y b k.0) k.1)

-- times a number below 2 ^ 16
pub small_product : (x : ℤ) (n : ℕ) → pos n ≤ℤ pos 65535 → wrap (pos (unsigned x * (unsigned (pos n) % 2 ^ 16))) ≡ wrap (x *ℤ pos n)
small_product x n l =
    let m : n < 2 ^ 16 = omega (arith, ints) in
    let w : n < 2 ^ 31 = omega arith in
    ap (λ u. wrap (pos (unsigned x * (u % 2 ^ 16)))) (bits_of n w) ∙ ap (λ u. wrap (pos (unsigned x * u))) (mod-eq_of_lt m) ∙ wrap-unsigned_times x n

low_product_holds : (i j : Interval) (x y : ℤ) → Within i (Some x) → Within j (Some y) → Within full (Some x) → Within (low_product_within i j) (Some (mpylu_of x y))
unfolding mpylu_of
low_product_holds i j x y h k f = by (int_le j.high j.low && (int_le (pos 0) j.low && int_le j.high (pos 65535))) refl
  where
    at : (z : ℤ) → pos 0 ≤ℤ z → z ≤ℤ pos 65535 → Within (times_if true i z) (Some (wrap (pos (unsigned x * (unsigned z % 2 ^ 16)))))
    at (pos n) a b = subst (λ u. Within (times_if true i (pos n)) (Some u)) (sym (small_product x n b)) (times_holds i x n h)
    at (negsuc n) a b = absurd (omega (arith, ints))

    product : (z : ℤ) → Within j (Some z) → pos 0 ≤ℤ i.low → pos 0 ≤ℤ j.low → j.high ≤ℤ pos 65535 → Within (product_if true i j) (Some (wrap (pos (unsigned x * (unsigned z % 2 ^ 16)))))
    product (pos n) w a b c = let l : pos n ≤ℤ pos 65535 = le_then (pos n) j.high (pos 65535) w.1 c in subst (λ u. Within (product_if true i j) (Some u)) (sym (small_product x n l)) (product_holds i j x (pos n) h w a b)
    product (negsuc n) w a b c = let m : pos 0 ≤ℤ negsuc n = le_then (pos 0) j.low (negsuc n) b w.0 in absurd (omega (arith, ints))

    other : (t : Bool) → (int_le (pos 0) i.low && (int_le (pos 0) j.low && int_le j.high (pos 65535))) ≡ t → Within (product_if t i j) (Some (wrap (pos (unsigned x * (unsigned y % 2 ^ 16)))))
    other true e =
        let e2 = and_two (int_le (pos 0) i.low) (int_le (pos 0) j.low && int_le j.high (pos 65535)) e in
        product y k (le_holds (pos 0) i.low (and_one (int_le (pos 0) i.low) (int_le (pos 0) j.low && int_le j.high (pos 65535)) e)) (le_holds (pos 0) j.low (and_one (int_le (pos 0) j.low) (int_le j.high (pos 65535)) e2))
        (le_holds j.high (pos 65535) (and_two (int_le (pos 0) j.low) (int_le j.high (pos 65535)) e2))
    other false e = number_within _ (wrap_fits (pos (unsigned x * (unsigned y % 2 ^ 16))))

    by : (t : Bool) → (int_le j.high j.low && (int_le (pos 0) j.low && int_le j.high (pos 65535))) ≡ t →
        Within (times_or_product t (int_le (pos 0) i.low && is_half j) i j) (Some (wrap (pos (unsigned x * (unsigned y % 2 ^ 16)))))
    by true e =
        let e2 = and_two (int_le j.high j.low) (int_le (pos 0) j.low && int_le j.high (pos 65535)) e in
        let l : j.high ≤ℤ j.low = le_holds j.high j.low (and_one (int_le j.high j.low) (int_le (pos 0) j.low && int_le j.high (pos 65535)) e) in
        let z : pos 0 ≤ℤ j.low = le_holds (pos 0) j.low (and_one (int_le (pos 0) j.low) (int_le j.high (pos 65535)) e2) in
        let g : j.high ≤ℤ pos 65535 = le_holds j.high (pos 65535) (and_two (int_le (pos 0) j.low) (int_le j.high (pos 65535)) e2) in
        let k0 : j.low ≤ℤ y = k.0 in
        let k1 : y ≤ℤ j.high = k.1 in
        let same : j.low ≡ y = omega (arith, ints) in
        let top : j.low ≤ℤ pos 65535 = omega (arith, ints) in
        subst (λ u. Within (times_if true i j.low) (Some (wrap (pos (unsigned x * (unsigned u % 2 ^ 16)))))) same (at j.low z top)
    by false e = other (int_le (pos 0) i.low && (int_le (pos 0) j.low && int_le j.high (pos 65535))) refl

high_product_holds : (j : Interval) (x y : ℤ) → Within j (Some y) → Within (high_product_within j) (Some (mpyhs_of x y))
unfolding mpyhs_of
high_product_holds j x y k = by (int_le (pos 0) j.low && int_le j.high (pos 65535)) refl
  where
    none : (n : ℕ) → n < 2 ^ 16 → wrap (pos (unsigned x * (unsigned (pos n) / 2 ^ 16) * 2 ^ 16)) ≡ pos 0
    none n m =
        let w : n < 2 ^ 31 = omega arith in
        let d : n / 2 ^ 16 ≡ 0 = omega arith in
        let e : unsigned x * 0 * 2 ^ 16 ≡ 0 = omega arith in
        ap (λ u. wrap (pos (unsigned x * (u / 2 ^ 16) * 2 ^ 16))) (bits_of n w) ∙ ap (λ u. wrap (pos (unsigned x * u * 2 ^ 16))) d ∙ ap (λ u. wrap (pos u)) e ∙ int_wrap_fits w32 (pos 0) (record { sfits = omega arith })

    at : (z : ℤ) → pos 0 ≤ℤ z → z ≤ℤ pos 65535 → Within zero_only (Some (wrap (pos (unsigned x * (unsigned z / 2 ^ 16) * 2 ^ 16))))
    at (pos n) a b = let m : n < 2 ^ 16 = omega (arith, ints) in subst (λ u. Within zero_only (Some u)) (sym (none n m)) (le_same (pos 0), le_same (pos 0))
    at (negsuc n) a b = absurd (omega (arith, ints))

    by : (t : Bool) → (int_le (pos 0) j.low && int_le j.high (pos 65535)) ≡ t → Within (cond t zero_only full) (Some (wrap (pos (unsigned x * (unsigned y / 2 ^ 16) * 2 ^ 16))))
    by true e =
        let z : pos 0 ≤ℤ j.low = le_holds (pos 0) j.low (and_one (int_le (pos 0) j.low) (int_le j.high (pos 65535)) e) in
        let g : j.high ≤ℤ pos 65535 = le_holds j.high (pos 65535) (and_two (int_le (pos 0) j.low) (int_le j.high (pos 65535)) e) in
        let k0 : j.low ≤ℤ y = k.0 in
        let k1 : y ≤ℤ j.high = k.1 in
        at y (omega (arith, ints)) (omega (arith, ints))
    by false e = number_within _ (wrap_fits (pos (unsigned x * (unsigned y / 2 ^ 16) * 2 ^ 16)))

-- a number that is not below 0 masks
masks : (n : ℕ) (m : ℕ) → n < 2 ^ 31 → m ≤ n → Within (record { low = pos 0; high = pos n }) (Some (wrap (pos m)))
masks n m h k =
    let is : wrap (pos m) ≡ pos m = int_wrap_fits w32 (pos m) (record { sfits = omega arith }) in
    subst (λ z. Within (record { low = pos 0; high = pos n }) (Some z)) (sym is) (omega (arith, ints), omega (arith, ints))

and_right : (x y : ℤ) → pos 0 ≤ℤ y → y ≤ℤ greatest → Within (record { low = pos 0; high = y }) (Some (and_of x y))
unfolding and_of
and_right x (pos n) h k = let w : n < 2 ^ 31 = omega (arith, ints) in let b : unsigned (pos n) ≡ n = bits_of n w in let c = and_le_r (unsigned x) (unsigned (pos n)) in let d : bit_and (unsigned x) (unsigned (pos n)) ≤ n = subst (λ z. bit_and (unsigned x) (unsigned (pos n)) ≤ z) b c in masks n (bit_and (unsigned x) (unsigned (pos n))) w d
and_right x (negsuc n) h k = absurd (omega (arith, ints))

and_left : (x y : ℤ) → pos 0 ≤ℤ x → x ≤ℤ greatest → Within (record { low = pos 0; high = x }) (Some (and_of x y))
unfolding and_of
and_left (pos n) y h k = let w : n < 2 ^ 31 = omega (arith, ints) in let b : unsigned (pos n) ≡ n = bits_of n w in let c = and_le_l (unsigned (pos n)) (unsigned y) in let d : bit_and (unsigned (pos n)) (unsigned y) ≤ n = subst (λ z. bit_and (unsigned (pos n)) (unsigned y) ≤ z) b c in masks n (bit_and (unsigned (pos n)) (unsigned y)) w d
and_left (negsuc n) y h k = absurd (omega (arith, ints))

up_to_holds : (t : Bool) (high z : ℤ) (i : Interval) → (t ≡ true → Within (record { low = pos 0; high = high }) (Some z)) → Within i (Some z) → Within (up_to t high i) (Some z)
up_to_holds true high z i h k = h refl
up_to_holds false high z i h k = k

pub above_holds : (n : ℤ) (i : Interval) (x : ℤ) → is_above n i ≡ true → Within i (Some x) → (n ≤ℤ x) × (x ≤ℤ greatest)
above_holds n i x e h =
    let a : n ≤ℤ i.low = le_holds n i.low (and_one (int_le n i.low) (int_le n i.high && int_le i.high greatest) e) in
    let b : i.high ≤ℤ greatest = le_holds i.high greatest (and_two (int_le n i.high) (int_le i.high greatest) (and_two (int_le n i.low) (int_le n i.high && int_le i.high greatest) e)) in
    let h0 : i.low ≤ℤ x = h.0 in let h1 : x ≤ℤ i.high = h.1 in
    (omega (arith, ints), omega (arith, ints))

wider : (x high z : ℤ) → x ≤ℤ high → Within (record { low = pos 0; high = x }) (Some z) → Within (record { low = pos 0; high = high }) (Some z)
wider x high z h k = let k1 : z ≤ℤ x = k.1 in (k.0, omega (arith, ints))

and_holds : (i j : Interval) (x y : ℤ) → Within i (Some x) → Within j (Some y) → Within full (Some (and_of x y)) → Within (and_within i j) (Some (and_of x y))
and_holds i j x y h k f =
    up_to_holds (is_above (pos 0) j) j.high (and_of x y) (up_to (is_above (pos 0) i) i.high full)
    (λ e. let a = above_holds (pos 0) j y e k in wider y j.high (and_of x y) k.1 (and_right x y a.0 a.1))
    (up_to_holds (is_above (pos 0) i) i.high (and_of x y) full (λ e. let a = above_holds (pos 0) i x e h in wider x i.high (and_of x y) h.1 (and_left x y a.0 a.1)) f)

rest_below : (x y : ℤ) → pos 0 ≤ℤ x → pos 1 ≤ℤ y → Within (record { low = pos 0; high = y -ℤ pos 1 }) (Some (remainder_of x y))
unfolding remainder_of
rest_below (pos m) (pos (suc n)) h k = let l : m % suc n < suc n = mod_below m (suc n) (omega arith) in (omega (arith, ints), omega (arith, ints))
rest_below (pos m) (pos zero) h k = absurd (omega (arith, ints))
rest_below (pos m) (negsuc n) h k = absurd (omega (arith, ints))
rest_below (negsuc m) y h k = absurd (omega (arith, ints))

remainder_holds : (i j : Interval) (x y : ℤ) → Within i (Some x) → Within j (Some y) → Within full (Some (remainder_of x y)) → Within (remainder_within i j) (Some (remainder_of x y))
remainder_holds i j x y h k f =
    up_to_holds (is_above (pos 0) i && is_above (pos 1) j) (j.high -ℤ pos 1) (remainder_of x y) full
    (λ e. let a = above_holds (pos 0) i x (and_one (is_above (pos 0) i) (is_above (pos 1) j) e) h in
    let b = above_holds (pos 1) j y (and_two (is_above (pos 0) i) (is_above (pos 1) j) e) k in
    let k1 : y ≤ℤ j.high = k.1 in
    let l : (y -ℤ pos 1) ≤ℤ (j.high -ℤ pos 1) = sub_above y j.high (pos 1) (pos 1) k1 (le_same (pos 1)) in
    wider (y -ℤ pos 1) (j.high -ℤ pos 1) (remainder_of x y) l (rest_below x y a.0 b.0))
    f

pub bit_holds : (t : Bool) → Within bit (Some (one_if t))
bit_holds true = (omega (arith, ints), omega (arith, ints))
bit_holds false = (omega (arith, ints), omega (arith, ints))

fits_full : (code : Code) (x y : ℤ) → Within full (Some x) → Within full (Some y) → Within full (Some (value_of code x y))
fits_full code x y f g = number_within (value_of code x y) (value_fits_law code x y (within_number x f) (within_number y g))

result_holds : (code : Code) (i j : Interval) (x y : ℤ) → Within i (Some x) → Within j (Some y) → Within full (Some x) → Within full (Some y) → Within (result_within code i j) (Some (value_of code x y))
result_holds Add i j x y h k f g = sum_holds i j x y h k
result_holds Sub i j x y h k f g = difference_holds i j x y h k
result_holds And i j x y h k f g = and_holds i j x y h k (fits_full And x y f g)
result_holds Or i j x y h k f g = fits_full Or x y f g
result_holds Xor i j x y h k f g = fits_full Xor x y f g
result_holds Shl i j x y h k f g = shifted_holds i j x y h k
result_holds Shr i j x y h k f g = fits_full Shr x y f g
result_holds Shru i j x y h k f g = fits_full Shru x y f g
result_holds Sh2add i j x y h k f g = fits_full Sh2add x y f g
result_holds Max i j x y h k f g = fits_full Max x y f g
result_holds Min i j x y h k f g = fits_full Min x y f g
result_holds Mov i j x y h k f g = h
result_holds (ToGeneral compare) i j x y h k f g = bit_holds (compare_of compare x y)
result_holds (ToBranch compare) i j x y h k f g = bit_holds (compare_of compare x y)
result_holds Mpylu i j x y h k f g = low_product_holds i j x y h k f
result_holds Mpyhs i j x y h k f g = high_product_holds j x y k
result_holds Div i j x y h k f g = fits_full Div x y f g
result_holds Rem i j x y h k f g = remainder_holds i j x y h k (fits_full Rem x y f g)

both_hold : (k : Interval) (f : ℤ → ℤ → ℤ) (a b : Content) → ((x y : ℤ) → a ≡ Some x → b ≡ Some y → Within k (Some (f x y))) → Within k (both f a b)
both_hold k f None b h = tt
both_hold k f (Some x) None h = tt
both_hold k f (Some x) (Some y) h = h x y refl refl

pub computed_holds : (code : Code) (i j : Interval) (a b : Content) → Within i a → Within j b → Within full a → Within full b → Within (result_within code i j) (computed code a b)
computed_holds code i j a b h k f g = by code (is_unary code) refl
  where
    by : (c : Code) (u : Bool) → is_unary c ≡ u → Within (result_within c i j) (computed c a b)
    by Mov u q = h
    by c false q =
        subst (λ t. Within (result_within c i j) (cond t a (both (value_of c) a b))) (sym q) (both_hold (result_within c i j) (value_of c) a b (λ x y e d.
        result_holds c i j x y (subst (Within i) e h) (subst (Within j) d k) (subst (Within full) e f) (subst (Within full) d g)))
    by c true q = absurd (cc)

pub computed_fits : (code : Code) (a b : Content) → Within full a → Within full b → Within full (computed code a b)
computed_fits code a b f g = by (is_unary code)
  where
    by : (t : Bool) → Within full (cond t a (both (value_of code) a b))
    by true = f
    by false = both_hold full (value_of code) a b (λ x y e d. fits_full code x y (subst (Within full) e f) (subst (Within full) d g))
