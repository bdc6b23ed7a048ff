-- Products in one operation: the sum of the two half products of two operands is one low product where one of them is below
-- 2 ^ 16, and one shift where one of them is a power of 2.
use Rattle.std.specs.Prelude.{ℕ, zero, suc, ◌==◌, Bool, true, false, ◌&&◌, ℤ, pos, Option, Some, None, List, [], ◌∷◌}
use Rattle.std.specs.Ordering.{int_eq}
use Rattle.vx_base.specs.Arithmetic.{value_of}
use Rattle.vx_base.specs.declared.arithmetic.Code.{Code}
use Rattle.vx_base.specs.declared.arithmetic.Code.TheVariants.{Add, And, Shl, Mpylu, Mpyhs}
use Rattle.vx_flow.specs.declared.graph.Operand.{Operand}
use Rattle.vx_flow.specs.declared.graph.Operand.TheVariants.{Held, Number, Stack}
use Rattle.vx_flow.specs.declared.graph.Array.{Array}
use Rattle.vx_flow.specs.declared.graph.Op.{Op}
use Rattle.vx_flow.specs.declared.graph.Op.TheVariants.{Compute}
use Rattle.vx_claims.specs.declared.fact.Fact.{Fact}
use Rattle.vx_claims.specs.declared.fact.Fact.TheVariants.{Between, Congruent, Equals, Never}
use Rattle.vx_narrow.specs.declared.one_product.Factors.{Factors}
use Rattle.vx_claims.specs.Facts.{range_of, is_half, has_equals}
use Rattle.vx_claims.specs.Forming.{form, after_known}
use Rattle.vx_claims.specs.declared.access.Access.{Access}
use Rattle.vx_claims.specs.declared.claim.Claim.{Claim}
use Rattle.vx_claims.specs.Accesses.{accessed}
use Rattle.vx_narrow.specs.Masking.{far_mask}
use Rattle.vx_narrow.specs.Placing.{placed}

abbrev pub shift_if : Bool → ℕ → Option ℕ → Option ℕ
shift_if true k otherwise = Some k
shift_if false k otherwise = otherwise

-- how far 1 is shifted to be the number, from so far at most down to 1
unfoldable pub shift_below : ℕ → ℤ → Option ℕ
shift_below zero n = None
shift_below (suc k) n = shift_if (int_eq (value_of Shl (pos 1) (pos (suc k))) n) (suc k) (shift_below k n)

unfoldable pub shift_of : ℤ → Option ℕ
shift_of n = shift_below 30 n

abbrev pub shift_in : Operand → Option ℕ
shift_in (Held v) = None
shift_in (Number n) = shift_of n
shift_in Stack = None

abbrev pub shifted_or : Option ℕ → ℕ → Operand → Op → Op
shifted_or None v a otherwise = otherwise
shifted_or (Some k) v a otherwise = Compute Shl v a (Number (pos k))

abbrev pub low_or : Bool → ℕ → Operand → Operand → Op → Op
low_or true v a b otherwise = Compute Mpylu v a b
low_or false v a b otherwise = otherwise

abbrev pub names_number : Operand → Bool
names_number (Held v) = false
names_number (Number n) = true
names_number Stack = false

-- the product of a and b into v, with the number on the right
abbrev pub product_or : List Fact → ℕ → Operand → Operand → Op → Op
product_or fs v a b otherwise =
    shifted_or (shift_in b) v a (shifted_or (shift_in a) v b (low_or (names_number a && is_half (range_of fs a)) v b a (low_or (is_half (range_of fs b)) v a b (low_or (is_half (range_of fs a)) v b a otherwise))))

abbrev pub is_low : ℕ → ℕ → Code → Bool
is_low u w Mpylu = w == u
is_low u w code = false

abbrev pub factors_if : Bool → Operand → Operand → Option Factors → Option Factors
factors_if true a b otherwise = Some (record { left = a; right = b })
factors_if false a b otherwise = otherwise

-- the operands whose low product value u holds
abbrev pub factors_of : List Fact → ℕ → Option Factors
factors_of [] u = None
factors_of (Between w i ∷ fs) u = factors_of fs u
factors_of (Congruent w c ∷ fs) u = factors_of fs u
factors_of (Never ∷ fs) u = factors_of fs u
factors_of (Equals w code a b ∷ fs) u = factors_if (is_low u w code) a b (factors_of fs u)

abbrev pub product_if : Bool → List Fact → ℕ → Operand → Operand → Op → Op
product_if true fs v a b otherwise = product_or fs v a b otherwise
product_if false fs v a b otherwise = otherwise

-- a sum into v whose right operand is value w, where the low product of these factors is its left one
abbrev pub sum_as : List Fact → Option Factors → ℕ → ℕ → Op → Op
sum_as fs None v w otherwise = otherwise
sum_as fs (Some f) v w otherwise = product_if (has_equals fs w Mpyhs f.left f.right) fs v f.left f.right otherwise

abbrev pub short_sum : List Fact → ℕ → Operand → Operand → Op
short_sum fs v (Held u) (Held w) = sum_as fs (factors_of fs u) v w (Compute Add v (Held u) (Held w))
short_sum fs v a b = Compute Add v a b

abbrev pub shortened : List Fact → Op → Op
shortened fs (Compute Add v a b) = short_sum fs v a b
shortened fs (Compute And v a b) = far_mask fs v a b
shortened fs op = op

-- the operation of this block in its other form, and in one operation where it is the last of three or near a place at hand, and with the mask far behind
abbrev pub improved : List Array → (block : List Op) → List Fact → List Access → Op → Op
improved arrays block fs xs op = placed arrays block fs xs (shortened fs (form fs xs op))

-- those of a function with these arrays
abbrev pub improved_from : List Array → (block : List Op) → List Fact → List Access → List Op → List Op
improved_from arrays block fs xs [] = []
improved_from arrays block fs xs (op ∷ ops) = improved arrays block fs xs op ∷ improved_from arrays block (after_known fs xs op (form fs xs op)) (accessed arrays xs (form fs xs op)) ops

abbrev pub improved_all : List Array → Claim → List Op → List Op
improved_all arrays claim ops = improved_from arrays ops claim.facts claim.accesses ops
