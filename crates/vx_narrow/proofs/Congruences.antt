-- Numbers that differ by a multiple of a number, above all of a power of 2: what sums, products and reductions to 32 bits make of them,
-- and the ends of an interval of which the low bits are known.
use Rattle.std.proofs.Common.{◌≡◌, ℕ, zero, suc, ◌+◌, ◌-◌, ◌*◌, ◌/◌, ◌%◌, ◌^◌, ◌<◌, ◌≤◌, ◌==◌, Bool, true, false, cond, ◌&&◌, nat_le, ℤ, pos, negsuc, neg_ℤ, ◌+ℤ◌, ◌-ℤ◌, ◌*ℤ◌, ◌≤ℤ◌, int_le, Some, None, refl, sym, ap, ◌∙◌, subst, arith, lit<}
use Rattle.std.specs.Int.{w32}
use Rattle.std.proofs.lemmas.Int.{ints, int_wrap-mul_right}
use Rattle.std.proofs.lemmas.Nat.{div-add-mod', mod_below, pow-add, pow_pos}
use Rattle.std.proofs.lemmas.Bool.{leb-true, leb-false, eqb-true}
use Rattle.std.proofs.Math.IntN.{*ℤ_comm, *ℤ-zero, *ℤ-one, suc_ℤ-*ℤ}
use Rattle.vx_base.specs.Arithmetic.{wrap, unsigned, sum_of, difference_of, product_of}
use Rattle.vx_base.proofs.WrapLaws.{wrap-unsigned_any, wrap-and_multiple, wraps_alike_law}
use Rattle.vx_flow.specs.Effects.{Content}
use Rattle.vx_claims.specs.declared.intervals.Interval.{Interval}
use Rattle.vx_claims.specs.declared.residues.Residue.{Residue}
use Rattle.vx_claims.specs.Residues.{Agrees, unknown, exactly, fewer, low_bits, empty_places, finer, known_of_both, sum_residue, difference_residue, times_residue, joined, is_implied}
use Rattle.vx_claims.specs.Facts.{least, greatest, Within, number_or, rounded_unless, rounded}

-- ---- products with a number that is not below 0

times_more : (x : ℤ) (n : ℕ) → x *ℤ pos (suc n) ≡ x *ℤ pos n +ℤ x
times_more x n = *ℤ_comm x (pos (suc n)) ∙ suc_ℤ-*ℤ (pos n) x ∙ ap (λ z. z +ℤ x) (*ℤ_comm (pos n) x)

over_sum : (a b : ℤ) (n : ℕ) → (a +ℤ b) *ℤ pos n ≡ a *ℤ pos n +ℤ b *ℤ pos n
over_sum a b zero = let p = *ℤ-zero (a +ℤ b) in let q = *ℤ-zero a in let r = *ℤ-zero b in omega (arith, ints, p, q, r)
over_sum a b (suc n) =
    let e = over_sum a b n in
    let p = times_more (a +ℤ b) n in
    let q = times_more a n in
    let r = times_more b n in
    omega (arith, ints, e, p, q, r)

over_opposite : (a : ℤ) (n : ℕ) → neg_ℤ a *ℤ pos n ≡ neg_ℤ (a *ℤ pos n)
over_opposite a zero = let p = *ℤ-zero (neg_ℤ a) in let q = *ℤ-zero a in omega (arith, ints, p, q)
over_opposite a (suc n) =
    let e = over_opposite a n in
    let p = times_more (neg_ℤ a) n in
    let q = times_more a n in
    omega (arith, ints, e, p, q)

naturals : (a d n : ℕ) → a * d * n ≡ a * (d * n)
naturals a d n = omega arith

grouped : (k : ℤ) (d n : ℕ) → (k *ℤ pos d) *ℤ pos n ≡ k *ℤ pos (d * n)
grouped (pos a) d n = ap pos (naturals a d n)
grouped (negsuc a) d n = over_opposite (pos (suc a * d)) n ∙ ap (λ m. neg_ℤ (pos m)) (naturals (suc a) d n)

-- ---- numbers that differ by a multiple of n

abbrev pub Apart : ℕ → ℤ → ℤ → Type 0
Apart n x y = (k : ℤ) × (x ≡ y +ℤ k *ℤ pos n)

module _ (n : ℕ) where
  pub alike : (x y : ℤ) → x ≡ y → Apart n x y
  alike x y e = let z : pos 0 *ℤ pos n ≡ pos 0 = ap pos (let m : 0 * n ≡ 0 = omega arith in m) in (pos 0, omega (arith, ints, e, z))

  pub turned : (x y : ℤ) → Apart n x y → Apart n y x
  turned x y h = let e = over_opposite h.0 n in (neg_ℤ h.0, omega (arith, ints, e, h.1))

  pub chained : (x y z : ℤ) → Apart n x y → Apart n y z → Apart n x z
  chained x y z h k = let e = over_sum k.0 h.0 n in (k.0 +ℤ h.0, omega (arith, ints, e, h.1, k.1))

  pub added : (x y u v : ℤ) → Apart n x y → Apart n u v → Apart n (x +ℤ u) (y +ℤ v)
  added x y u v h k = let e = over_sum h.0 k.0 n in (h.0 +ℤ k.0, omega (arith, ints, e, h.1, k.1))

  pub opposed : (x y : ℤ) → Apart n x y → Apart n (neg_ℤ x) (neg_ℤ y)
  opposed x y h = let e = over_opposite h.0 n in (neg_ℤ h.0, omega (arith, ints, e, h.1))

  pub taken_off : (x y u v : ℤ) → Apart n x y → Apart n u v → Apart n (x -ℤ u) (y -ℤ v)
  taken_off x y u v h k = added x y (neg_ℤ u) (neg_ℤ v) h (opposed u v k)

  -- it is also a multiple of what divides n
  pub by_divisor : (d m : ℕ) (x y : ℤ) → n ≡ d * m → Apart n x y → Apart m x y
  by_divisor d m x y e h = (h.0 *ℤ pos d, h.1 ∙ ap (λ z. y +ℤ z) (ap (λ l. h.0 *ℤ pos l) e ∙ sym (grouped h.0 d m)))

  pub scaled : (m : ℕ) (x y : ℤ) → Apart n x y → Apart (n * m) (x *ℤ pos m) (y *ℤ pos m)
  scaled m x y h = (h.0, ap (λ z. z *ℤ pos m) h.1 ∙ over_sum y (h.0 *ℤ pos n) m ∙ ap (λ z. y *ℤ pos m +ℤ z) (grouped h.0 n m))

  -- of the numbers from 0 on it is the least one that is below n
  pub least_one : (w : ℤ) (a : ℕ) → Apart n w (pos a) → pos 0 ≤ℤ w → a < n → pos a ≤ℤ w
  least_one w a h l b = by h.0 h.1
    where
      by : (k : ℤ) → w ≡ pos a +ℤ k *ℤ pos n → pos a ≤ℤ w
      by (pos j) e = let f : w ≡ pos a +ℤ pos (j * n) = e in omega (arith, ints)
      by (negsuc j) e = let f : w ≡ pos a +ℤ neg_ℤ (pos (suc j * n)) = e in let m : n ≤ suc j * n = omega arith in absurd (omega (arith, ints))

-- ---- powers of 2

pub in_fewer_places : (p q : ℕ) (x y : ℤ) → q ≤ p → Apart (2 ^ p) x y → Apart (2 ^ q) x y
in_fewer_places p q x y l h =
    let s : (p - q) + q ≡ p = omega (arith, l) in
    by_divisor (2 ^ p) (2 ^ (p - q)) (2 ^ q) x y (ap (λ m. 2 ^ m) (sym s) ∙ pow-add 2 (p - q) q) h

pub wrapped_apart : (p : ℕ) (x : ℤ) → p ≤ 32 → Apart (2 ^ p) (wrap x) x
wrapped_apart p x l = in_fewer_places 32 p (wrap x) x l (turned (2 ^ 32) x (wrap x) (wrap-and_multiple x))

-- the low bits of a number are apart from it by a multiple
pub low_apart : (p : ℕ) (x : ℤ) → p ≤ 32 → Apart (2 ^ p) x (pos (unsigned x % 2 ^ p))
low_apart p x l =
    let u : ℕ = unsigned x in
    let bits : Apart (2 ^ 32) (pos u) x = (wraps_alike_law (pos u) x).0 (wrap-unsigned_any x) in
    let parts = div-add-mod' u (2 ^ p) in
    let sum : u ≡ u % 2 ^ p + u / 2 ^ p * 2 ^ p = omega (arith, parts) in
    let low : Apart (2 ^ p) (pos u) (pos (u % 2 ^ p)) = (pos (u / 2 ^ p), ap pos sum) in
    chained (2 ^ p) x (pos u) (pos (u % 2 ^ p)) (turned (2 ^ p) (pos u) x (in_fewer_places 32 p (pos u) x l bits)) low

-- ---- how many places are known

same_le : (m : ℕ) → m ≤ m
same_le m = omega arith

le_through : (k m n : ℕ) → k ≤ m → m ≤ n → k ≤ n
le_through k m n h l = omega (arith, h, l)

less_le : (m n : ℕ) → m < n → m ≤ n
less_le m n h = omega (arith, h)

fewer_by : (t : Bool) (m n : ℕ) → nat_le m n ≡ t → (cond t m n ≤ m) × (cond t m n ≤ n)
fewer_by true m n e = (same_le m, leb-true m n e)
fewer_by false m n e = (less_le n m (leb-false m n e), same_le n)

pub fewer_low : (m n : ℕ) → (fewer m n ≤ m) × (fewer m n ≤ n)
fewer_low m n = fewer_by (nat_le m n) m n refl

both_fewer : (c d : Residue) → (known_of_both c d ≤ c.places) × (known_of_both c d ≤ d.places) × (known_of_both c d ≤ 32)
both_fewer c d =
    let f = fewer_low c.places d.places in
    let g = fewer_low (fewer c.places d.places) 32 in
    let both : ℕ = fewer c.places d.places in
    (le_through (known_of_both c d) both c.places g.0 f.0, le_through (known_of_both c d) both d.places g.0 f.1, g.1)

above_word : (p : ℕ) → p ≤ 32 → 32 < p → ⊥
above_word p l h = omega (arith, l, h)

fewer_same : (p : ℕ) → p ≤ 32 → fewer p 32 ≡ p
fewer_same p l = by (nat_le p 32) refl
  where
    by : (t : Bool) → nat_le p 32 ≡ t → cond t p 32 ≡ p
    by true e = refl
    by false e = absurd (above_word p l (leb-false p 32 e))

-- ---- residues

pub agrees_less : (c : Residue) (q : ℕ) (z : ℤ) → q ≤ c.places → Agrees c (Some z) → Apart (2 ^ q) z c.rest
agrees_less c q z l h = in_fewer_places c.places q z c.rest l h

pub unknown_holds : (x : Content) → Agrees unknown x
unfolding lib.IntN.one
unknown_holds None = tt
unknown_holds (Some z) = let e : z *ℤ pos (2 ^ 0) ≡ z = *ℤ-one z in (z, omega (arith, ints, e))

pub exactly_holds : (n z : ℤ) → z ≡ n → Agrees (exactly n) (Some z)
exactly_holds n z e = alike (2 ^ 32) z n e

pub finer_holds : (c d : Residue) (x : Content) → Agrees c x → Agrees d x → Agrees (finer c d) x
finer_holds c d x h k = by (nat_le d.places c.places)
  where
    by : (t : Bool) → Agrees (cond t c d) x
    by true = h
    by false = k

pub sum_agrees : (c d : Residue) (x y : ℤ) → Agrees c (Some x) → Agrees d (Some y) → Agrees (sum_residue c d) (Some (sum_of x y))
unfolding sum_of
sum_agrees c d x y h k =
    let p : ℕ = known_of_both c d in
    let b = both_fewer c d in
    let m : ℕ = 2 ^ p in
    let s : Apart m (x +ℤ y) (c.rest +ℤ d.rest) = added m x c.rest y d.rest (agrees_less c p x b.0 h) (agrees_less d p y b.1 k) in
    chained m (wrap (x +ℤ y)) (x +ℤ y) (wrap (c.rest +ℤ d.rest)) (wrapped_apart p (x +ℤ y) b.2)
    (chained m (x +ℤ y) (c.rest +ℤ d.rest) (wrap (c.rest +ℤ d.rest)) s (turned m (wrap (c.rest +ℤ d.rest)) (c.rest +ℤ d.rest) (wrapped_apart p (c.rest +ℤ d.rest) b.2)))

pub difference_agrees : (c d : Residue) (x y : ℤ) → Agrees c (Some x) → Agrees d (Some y) → Agrees (difference_residue c d) (Some (difference_of x y))
unfolding difference_of
difference_agrees c d x y h k =
    let p : ℕ = known_of_both c d in
    let b = both_fewer c d in
    let m : ℕ = 2 ^ p in
    let s : Apart m (x -ℤ y) (c.rest -ℤ d.rest) = taken_off m x c.rest y d.rest (agrees_less c p x b.0 h) (agrees_less d p y b.1 k) in
    chained m (wrap (x -ℤ y)) (x -ℤ y) (wrap (c.rest -ℤ d.rest)) (wrapped_apart p (x -ℤ y) b.2)
    (chained m (x -ℤ y) (c.rest -ℤ d.rest) (wrap (c.rest -ℤ d.rest)) s (turned m (wrap (c.rest -ℤ d.rest)) (c.rest -ℤ d.rest) (wrapped_apart p (c.rest -ℤ d.rest) b.2)))

-- ---- empty places

next_le : (k : ℕ) → k ≤ suc k
next_le k = omega arith

pub places_are_empty : (k : ℕ) (n : ℤ) → (empty_places k n ≤ k) × (low_bits (empty_places k n) n ≡ 0)
places_are_empty zero n = let e : unsigned n % 1 ≡ 0 = omega arith in (same_le 0, e)
places_are_empty (suc k) n = by (low_bits (suc k) n == 0) refl (places_are_empty k n)
  where
    by : (t : Bool) → (low_bits (suc k) n == 0) ≡ t → (empty_places k n ≤ k) × (low_bits (empty_places k n) n ≡ 0) → (cond t (suc k) (empty_places k n) ≤ suc k) × (low_bits (cond t (suc k) (empty_places k n)) n ≡ 0)
    by true e h = (same_le (suc k), eqb-true (low_bits (suc k) n) 0 e)
    by false e h = (le_through (empty_places k n) k (suc k) h.0 (next_le k), h.1)

no_low_bits : (p : ℕ) (n : ℤ) → p ≤ 32 → low_bits p n ≡ 0 → unsigned n % 2 ^ p ≡ 0
no_low_bits p n l e = ap (λ q. unsigned n % 2 ^ q) (sym (fewer_same p l)) ∙ e

-- numbers whose difference has no low bits
pub same_low : (p : ℕ) (x y : ℤ) → p ≤ 32 → low_bits p (difference_of x y) ≡ 0 → Apart (2 ^ p) x y
unfolding difference_of
same_low p x y l e =
    let m : ℕ = 2 ^ p in
    let none : Apart m (wrap (x -ℤ y)) (pos 0) = subst (λ n. Apart m (wrap (x -ℤ y)) (pos n)) (no_low_bits p (wrap (x -ℤ y)) l e) (low_apart p (wrap (x -ℤ y)) l) in
    let whole : Apart m (x -ℤ y) (pos 0) = chained m (x -ℤ y) (wrap (x -ℤ y)) (pos 0) (turned m (wrap (x -ℤ y)) (x -ℤ y) (wrapped_apart p (x -ℤ y) l)) none in
    let back : Apart m ((x -ℤ y) +ℤ y) (pos 0 +ℤ y) = added m (x -ℤ y) (pos 0) y y whole (alike m y y refl) in
    chained m x ((x -ℤ y) +ℤ y) y (alike m x ((x -ℤ y) +ℤ y) (omega (arith, ints)))
    (chained m ((x -ℤ y) +ℤ y) (pos 0 +ℤ y) y back (alike m (pos 0 +ℤ y) y (omega (arith, ints))))

product_unsigned : (x n : ℤ) → product_of x n ≡ wrap (x *ℤ pos (unsigned n))
unfolding product_of
product_unsigned x n = sym (int_wrap-mul_right w32 x n) ∙ ap (λ z. wrap (x *ℤ z)) (sym (wrap-unsigned_any n)) ∙ int_wrap-mul_right w32 x (pos (unsigned n))

places_together : (p t : ℕ) → p ≤ 32 → t ≤ 32 - p → (p + t ≤ 32) × (t ≤ 32)
places_together p t h l = (omega (arith, h, l), omega (arith, l))

front_exchanged : (a b c : ℕ) → a * (b * c) ≡ b * (a * c)
front_exchanged a b c = omega arith

pub times_agrees : (c : Residue) (x n : ℤ) → Agrees c (Some x) → Agrees (times_residue c n) (Some (product_of x n))
times_agrees c x n h =
    let p : ℕ = fewer c.places 32 in
    let t : ℕ = empty_places (32 - p) n in
    let u : ℕ = unsigned n in
    let f = fewer_low c.places 32 in
    let e = places_are_empty (32 - p) n in
    let most = places_together p t f.1 e.0 in
    let l : p + t ≤ 32 = most.0 in
    let none : u % 2 ^ t ≡ 0 = no_low_bits t n most.1 e.1 in
    let parts = div-add-mod' u (2 ^ t) in
    let whole : u ≡ u / 2 ^ t * 2 ^ t = omega (arith, parts, none) in
    let power : 2 ^ (p + t) ≡ 2 ^ p * 2 ^ t = pow-add 2 p t in
    let divided : 2 ^ p * u ≡ u / 2 ^ t * 2 ^ (p + t) = ap (λ w. 2 ^ p * w) whole ∙ front_exchanged (2 ^ p) (u / 2 ^ t) (2 ^ t) ∙ ap (λ w. u / 2 ^ t * w) (sym power) in
    let m : ℕ = 2 ^ (p + t) in
    let r : ℤ = c.rest in
    let products : Apart m (x *ℤ pos u) (r *ℤ pos u) = by_divisor (2 ^ p * u) (u / 2 ^ t) m (x *ℤ pos u) (r *ℤ pos u) divided (scaled (2 ^ p) u x r (agrees_less c p x f.0 h)) in
    let reduced : Apart m (wrap (x *ℤ pos u)) (wrap (r *ℤ pos u)) =
    chained m (wrap (x *ℤ pos u)) (x *ℤ pos u) (wrap (r *ℤ pos u)) (wrapped_apart (p + t) (x *ℤ pos u) l)
    (chained m (x *ℤ pos u) (r *ℤ pos u) (wrap (r *ℤ pos u)) products (turned m (wrap (r *ℤ pos u)) (r *ℤ pos u) (wrapped_apart (p + t) (r *ℤ pos u) l))) in
    subst (λ y. Apart m y (product_of r n)) (sym (product_unsigned x n)) (subst (λ y. Apart m (wrap (x *ℤ pos u)) y) (sym (product_unsigned r n)) reduced)

-- ---- what two have in common, and what one says of another

pub joined_first : (c d : Residue) (x : Content) → Agrees c x → Agrees (joined c d) x
joined_first c d None h = tt
joined_first c d (Some z) h =
    let b = both_fewer c d in
    let e = places_are_empty (known_of_both c d) (difference_of c.rest d.rest) in
    let p : ℕ = empty_places (known_of_both c d) (difference_of c.rest d.rest) in
    agrees_less c p z (le_through p (known_of_both c d) c.places e.0 b.0) h

pub joined_second : (c d : Residue) (x : Content) → Agrees d x → Agrees (joined c d) x
joined_second c d None h = tt
joined_second c d (Some z) h =
    let b = both_fewer c d in
    let e = places_are_empty (known_of_both c d) (difference_of c.rest d.rest) in
    let p : ℕ = empty_places (known_of_both c d) (difference_of c.rest d.rest) in
    let l : p ≤ 32 = le_through p (known_of_both c d) 32 e.0 b.2 in
    chained (2 ^ p) z d.rest c.rest (agrees_less d p z (le_through p (known_of_both c d) d.places e.0 b.1) h) (turned (2 ^ p) c.rest d.rest (same_low p c.rest d.rest l e.1))

both_true : (s t : Bool) → (s && t) ≡ true → (s ≡ true) × (t ≡ true)
both_true true t h = (refl, h)
both_true false t h = absurd (cc)

pub implied_holds : (d c : Residue) (x : Content) → is_implied d c ≡ true → Agrees d x → Agrees c x
implied_holds d c None e h = tt
implied_holds d c (Some z) e h =
    let s = both_true (nat_le c.places (fewer d.places 32)) (low_bits c.places (difference_of d.rest c.rest) == 0) e in
    let f = fewer_low d.places 32 in
    let l : c.places ≤ fewer d.places 32 = leb-true c.places (fewer d.places 32) s.0 in
    let none : low_bits c.places (difference_of d.rest c.rest) ≡ 0 = eqb-true (low_bits c.places (difference_of d.rest c.rest)) 0 s.1 in
    chained (2 ^ c.places) z d.rest c.rest (agrees_less d c.places z (le_through c.places (fewer d.places 32) d.places l f.0) h) (same_low c.places d.rest c.rest (le_through c.places (fewer d.places 32) 32 l f.1) none)

-- ---- the ends of an interval

low_below : (p : ℕ) (n : ℤ) → low_bits p n < 2 ^ fewer p 32
low_below p n = mod_below (unsigned n) (2 ^ fewer p 32) (pow_pos (fewer p 32))

difference_low : (p : ℕ) (x y : ℤ) → Apart (2 ^ fewer p 32) (x -ℤ y) (pos (low_bits p (difference_of x y)))
unfolding difference_of
difference_low p x y =
    let q : ℕ = fewer p 32 in
    let l : q ≤ 32 = (fewer_low p 32).1 in
    let w : ℤ = wrap (x -ℤ y) in
    chained (2 ^ q) (x -ℤ y) w (pos (low_bits p w)) (turned (2 ^ q) w (x -ℤ y) (wrapped_apart q (x -ℤ y) l)) (low_apart q w l)

first_reached : (c : Residue) (n z : ℤ) → Agrees c (Some z) → n ≤ℤ z → (n +ℤ pos (low_bits c.places (difference_of c.rest n))) ≤ℤ z
first_reached c n z h l =
    let q : ℕ = fewer c.places 32 in
    let m : ℕ = 2 ^ q in
    let a : ℕ = low_bits c.places (difference_of c.rest n) in
    let near : Apart m (z -ℤ n) (c.rest -ℤ n) = taken_off m z c.rest n n (agrees_less c q z (fewer_low c.places 32).0 h) (alike m n n refl) in
    let is : Apart m (z -ℤ n) (pos a) = chained m (z -ℤ n) (c.rest -ℤ n) (pos a) near (difference_low c.places c.rest n) in
    let k : pos a ≤ℤ (z -ℤ n) = least_one m (z -ℤ n) a is (omega (arith, ints)) (low_below c.places (difference_of c.rest n)) in
    omega (arith, ints)

last_reached : (c : Residue) (n z : ℤ) → Agrees c (Some z) → z ≤ℤ n → z ≤ℤ (n -ℤ pos (low_bits c.places (difference_of n c.rest)))
last_reached c n z h l =
    let q : ℕ = fewer c.places 32 in
    let m : ℕ = 2 ^ q in
    let a : ℕ = low_bits c.places (difference_of n c.rest) in
    let near : Apart m (n -ℤ z) (n -ℤ c.rest) = taken_off m n n z c.rest (alike m n n refl) (agrees_less c q z (fewer_low c.places 32).0 h) in
    let is : Apart m (n -ℤ z) (pos a) = chained m (n -ℤ z) (n -ℤ c.rest) (pos a) near (difference_low c.places n c.rest) in
    let k : pos a ≤ℤ (n -ℤ z) = least_one m (n -ℤ z) a is (omega (arith, ints)) (low_below c.places (difference_of n c.rest)) in
    omega (arith, ints)

number_or_above : (n m z : ℤ) → n ≤ℤ z → m ≤ℤ z → number_or n m ≤ℤ z
number_or_above n m z h k = by (int_le least m && int_le m greatest)
  where
    by : (t : Bool) → cond t m n ≤ℤ z
    by true = k
    by false = h

number_or_below : (n m z : ℤ) → z ≤ℤ n → z ≤ℤ m → z ≤ℤ number_or n m
number_or_below n m z h k = by (int_le least m && int_le m greatest)
  where
    by : (t : Bool) → z ≤ℤ cond t m n
    by true = k
    by false = h

pub rounded_holds : (c : Residue) (i : Interval) (x : Content) → Agrees c x → Within i x → Within (rounded c i) x
rounded_holds c i None h w = tt
rounded_holds c i (Some z) h w = by (c.places == 0)
  where
    by : (t : Bool) → Within (rounded_unless t c i) (Some z)
    by true = w
    by false = (
      number_or_above i.low (i.low +ℤ pos (low_bits c.places (difference_of c.rest i.low))) z w.0 (first_reached c i.low z h w.0),
      number_or_below i.high (i.high -ℤ pos (low_bits c.places (difference_of i.high c.rest))) z w.1 (last_reached c i.high z h w.1),
    )
