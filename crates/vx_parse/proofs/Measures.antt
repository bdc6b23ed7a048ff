-- What is left to read falls: fewer tokens, or as many for a phrase of lower rank. Depths and heights stay small.
use Rattle.std.proofs.Common.{◌≡◌, ◌≤◌, ◌<◌, ◌+◌, ◌-◌, ◌*◌, ℕ, max, Fits, w32, arith}

-- further on
pub further_falls : (n here there k m t : ℕ) → 32 * (n - here) + m ≡ t → here < n → here < there → k < 32 → 32 * (n - there) + k < t
further_falls n here there k m t e w h s = omega arith

-- here or further on, of lower rank
pub rank_falls : (n here there k m t : ℕ) → 32 * (n - here) + m ≡ t → here ≤ there → k < m → 32 * (n - there) + k < t
rank_falls n here there k m t e h s = omega arith

-- one construct deeper, what is read at a depth, and one construct around what is read one deeper

pub deeper_fits : (k : ℕ) → k ≤ 200 → Fits w32 (k + 1)
deeper_fits k h = omega (arith, h)

pub depth_fits : (k h : ℕ) → k + h ≤ 200 → Fits w32 (k + h)
depth_fits k h s = omega (arith, s)

pub height_fits : (k h : ℕ) → k + 1 + h ≤ 200 → Fits w32 (1 + h)
height_fits k h s = omega (arith, s)

pub behind_place : (i j : ℕ) → i ≤ j → i < j + 1
behind_place i j h = omega (arith, h)

pub depth_within : (k h : ℕ) → k + h ≤ 200 → k ≤ 200
depth_within k h s = omega (arith, s)

-- ranks

pub below_four : 4 < 32
below_four = omega arith

pub below_6 : 6 < 32
below_6 = omega arith

pub below_19 : 19 < 32
below_19 = omega arith

pub below_20 : 20 < 32
below_20 = omega arith

pub below_21 : 21 < 32
below_21 = omega arith

pub below_4 : 3 < 4
below_4 = omega arith

pub primary_first : 5 < 6
primary_first = omega arith

pub expression_first : 20 < 21
expression_first = omega arith

pub level_first_of : 8 + 10 < 20
level_first_of = omega arith

pub unary_first : (l : ℕ) → 6 < 8 + l
unary_first l = omega arith

pub level_below : (l : ℕ) → l ≤ 9 → 8 + l < 32
level_below l h = omega (arith, h)

pub level_within : (l : ℕ) → l ≤ 9 → l ≤ 10
level_within l h = omega (arith, h)

-- places

pub same : (i : ℕ) → i ≤ i
same i = omega arith

pub one_on : (i : ℕ) → i < i + 1
one_on i = omega arith

pub just_on : (i j : ℕ) → j ≡ i + 1 → i < j
just_on i j e = omega (arith, e)

pub past_one : (i j : ℕ) → i < j → i < j + 1
past_one i j h = omega (arith, h)

pub past_next : (i j : ℕ) → i + 1 < j → i < j
past_next i j h = omega (arith, h)

pub past_both : (i j k : ℕ) → i < j → j + 1 < k → i < k + 1
past_both i j k h g = omega (arith, h, g)

-- depths

pub room : (k h : ℕ) → k + h < 200 → k + 1 ≤ 200
room k h s = omega (arith, s)

pub one_on_within : (k : ℕ) → k < 200 → k + 1 ≤ 200
one_on_within k s = omega (arith, s)

pub both_within : (k l r m : ℕ) → m ≡ max l r → k + l < 200 → k + 1 + r ≤ 200 → k + (1 + m) ≤ 200
both_within k l r m e s u = omega (arith, e, s, u)
