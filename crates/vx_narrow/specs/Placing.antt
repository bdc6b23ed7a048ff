-- Places as sums: the place of an element that stands so many words behind another one is its place and four times as many.
use Rattle.std.specs.Prelude.{ℕ, ◌==◌, Bool, true, false, ◌&&◌, not, ℤ, pos, Option, Some, None, List, [], ◌∷◌}
use Rattle.vx_base.specs.Arithmetic.{product_of}
use Rattle.vx_base.specs.declared.arithmetic.Code.TheVariants.{Add}
use Rattle.vx_flow.specs.declared.graph.Operand.{Operand}
use Rattle.vx_flow.specs.declared.graph.Operand.TheVariants.{Held, Number, Stack}
use Rattle.vx_flow.specs.declared.graph.Array.{Array}
use Rattle.vx_flow.specs.declared.graph.Op.{Op}
use Rattle.vx_flow.specs.declared.graph.Op.TheVariants.{Compute, Place, Store}
use Rattle.vx_flow.specs.Apart.{array_in}
use Rattle.vx_flow.specs.Sound.{is_value}
use Rattle.vx_claims.specs.declared.fact.Fact.{Fact}
use Rattle.vx_claims.specs.declared.access.Access.{Access}
use Rattle.vx_claims.specs.declared.access.Access.TheVariants.{Placed, Stored}
use Rattle.vx_claims.specs.declared.sums.Sum.{Sum}
use Rattle.vx_claims.specs.Sums.{held_as_sum}

abbrev pub stores_to : ℕ → Op → Bool
stores_to a (Store b p x) = b == a
stores_to a op = false

abbrev pub true_or : Bool → Bool → Bool
true_or true t = true
true_or false t = t

abbrev pub is_stored : List Op → ℕ → Bool
is_stored [] a = false
is_stored (op ∷ ops) a = true_or (stores_to a op) (is_stored ops a)

-- the array is a global to which the operations store nothing
abbrev pub is_open : List Array → List Op → ℕ → Bool
is_open arrays ops a = (array_in arrays a).global && not (is_stored ops a)

-- the sum that the operand holds
abbrev pub held_sum : List Fact → Operand → Option Sum
held_sum fs (Held v) = held_as_sum fs v
held_sum fs (Number n) = None
held_sum fs Stack = None

abbrev pub near_if : Bool → ℕ → Option ℕ → Option ℕ
near_if true p o = Some p
near_if false p o = o

-- a place at hand of the element of array a whose index is value u
abbrev pub near : List Access → ℕ → ℕ → Option ℕ
near [] a u = None
near (Placed p b i ∷ xs) a u = near_if ((b == a) && is_value u i) p (near xs a u)
near (Stored b p x ∷ xs) a u = near xs a u

abbrev pub placed_at : Option ℕ → ℕ → ℤ → Op → Op
placed_at (Some p) v n otherwise = Compute Add v (Held p) (Number (product_of (pos 4) n))
placed_at None v n otherwise = otherwise

abbrev pub placed_by : List Access → ℕ → Option Sum → ℕ → Op → Op
placed_by xs a (Some s) v otherwise = placed_at (near xs a s.base) v s.by otherwise
placed_by xs a None v otherwise = otherwise

abbrev pub placed_if : Bool → List Access → ℕ → Option Sum → ℕ → Op → Op
placed_if true xs a o v otherwise = placed_by xs a o v otherwise
placed_if false xs a o v otherwise = otherwise

-- the operation, or a sum where it is a place near one that is at hand
abbrev pub placed : List Array → List Op → List Fact → List Access → Op → Op
placed arrays ops fs xs (Place v a i) = placed_if (is_open arrays ops a) xs a (held_sum fs i) v (Place v a i)
placed arrays ops fs xs op = op
