-- Sums of a value and a number: which one a value is known to hold, and computations on it as sums of what is at hand.
use Rattle.std.specs.Prelude.{ℕ, ◌==◌, Bool, true, false, ℤ, pos, Option, Some, None, List, [], ◌∷◌}
use Rattle.vx_base.specs.Arithmetic.{sum_of, difference_of, value_of}
use Rattle.vx_base.specs.declared.arithmetic.Code.{Code}
use Rattle.vx_base.specs.declared.arithmetic.Code.TheVariants.{Add, Sub, Shl}
use Rattle.vx_flow.specs.declared.graph.Operand.{Operand}
use Rattle.vx_flow.specs.declared.graph.Operand.TheVariants.{Held, Number}
use Rattle.vx_claims.specs.declared.fact.Fact.{Fact}
use Rattle.vx_claims.specs.declared.fact.Fact.TheVariants.{Between, Congruent, Equals, Never}
use Rattle.vx_claims.specs.declared.sums.Sum.{Sum}
use Rattle.vx_claims.specs.declared.sums.Computation.{Computation}
use Rattle.vx_claims.specs.Facts.{found}

abbrev pub sum_if : Bool → ℕ → ℤ → Option Sum
sum_if true u n = Some (record { base = u; by = n })
sum_if false u n = None

-- the sum that value v holds by a fact on what value u holds
abbrev pub sum_at : ℕ → ℕ → Code → Operand → Operand → Option Sum
sum_at v u Add (Held w) (Number n) = sum_if (u == v) w n
sum_at v u Sub (Held w) (Number n) = sum_if (u == v) w (difference_of (pos 0) n)
sum_at v u code a b = None

abbrev pub first_sum : Option Sum → Option Sum → Option Sum
first_sum (Some s) o = Some s
first_sum None o = o

-- the sum that value v is known to hold
abbrev pub held_as_sum : List Fact → ℕ → Option Sum
held_as_sum [] v = None
held_as_sum (Between u i ∷ fs) v = held_as_sum fs v
held_as_sum (Congruent u c ∷ fs) v = held_as_sum fs v
held_as_sum (Never ∷ fs) v = held_as_sum fs v
held_as_sum (Equals u code a b ∷ fs) v = first_sum (sum_at v u code a b) (held_as_sum fs v)

abbrev pub behind_if : Option Sum → (here further : List Fact) → List Fact
behind_if (Some s) here further = here
behind_if None here further = further

-- the facts behind the one by which value v is such a sum: what they say was known before
abbrev pub behind : List Fact → ℕ → List Fact
behind [] v = []
behind (Between u i ∷ fs) v = behind fs v
behind (Congruent u c ∷ fs) v = behind fs v
behind (Never ∷ fs) v = behind fs v
behind (Equals u code a b ∷ fs) v = behind_if (sum_at v u code a b) fs (behind fs v)

-- with the number the other way
abbrev pub below : Option Sum → Option Sum
below (Some s) = Some (record { base = s.base; by = difference_of (pos 0) s.by })
below None = None

abbrev pub as_is : Code → Operand → Operand → Computation
as_is code a b = record { code = code; left = a; right = b }

-- the number as one of 32 bits
abbrev pub plus : ℕ → ℤ → Computation
plus u n = record { code = Add; left = Held u; right = Number (sum_of (pos 0) n) }

abbrev pub plus_or : Option ℕ → ℤ → Computation → Computation
plus_or (Some u) n otherwise = plus u n
plus_or None n otherwise = otherwise

-- such a sum and a number
abbrev pub number_added : Option Sum → ℤ → Computation → Computation
number_added (Some s) n otherwise = plus s.base (sum_of s.by n)
number_added None n otherwise = otherwise

-- a computation whose left operand is such a sum
abbrev pub left_sum : List Fact → Code → Option Sum → Operand → Computation → Computation
left_sum fs code (Some s) b otherwise = plus_or (found fs code (Held s.base) b) s.by otherwise
left_sum fs code None b otherwise = otherwise

-- a computation whose right operand is such a sum
abbrev pub right_sum : List Fact → Code → Operand → Option Sum → Computation → Computation
right_sum fs code a (Some s) otherwise = plus_or (found fs code a (Held s.base)) s.by otherwise
right_sum fs code a None otherwise = otherwise

abbrev pub held_sum : List Fact → ℕ → ℕ → Computation
held_sum fs u v = left_sum (behind fs u) Add (held_as_sum fs u) (Held v) (right_sum (behind fs v) Add (Held u) (held_as_sum fs v) (as_is Add (Held u) (Held v)))

abbrev pub held_difference : List Fact → ℕ → ℕ → Computation
held_difference fs u v = left_sum (behind fs u) Sub (held_as_sum fs u) (Held v) (right_sum (behind fs v) Sub (Held u) (below (held_as_sum fs v)) (as_is Sub (Held u) (Held v)))

-- such a sum shifted by a number of places
abbrev pub shifted : List Fact → Option Sum → ℤ → Computation → Computation
shifted fs (Some s) n otherwise = plus_or (found fs Shl (Held s.base) (Number n)) (value_of Shl s.by n) otherwise
shifted fs None n otherwise = otherwise

abbrev pub based_sum : List Fact → Operand → Operand → Computation
based_sum fs (Held v) (Number n) = number_added (held_as_sum fs v) n (as_is Add (Held v) (Number n))
based_sum fs (Held u) (Held v) = held_sum fs u v
based_sum fs a b = as_is Add a b

abbrev pub based_difference : List Fact → Operand → Operand → Computation
based_difference fs (Held v) (Number n) = number_added (held_as_sum fs v) (difference_of (pos 0) n) (as_is Sub (Held v) (Number n))
based_difference fs (Held u) (Held v) = held_difference fs u v
based_difference fs a b = as_is Sub a b

abbrev pub based_shift : List Fact → Operand → Operand → Computation
based_shift fs (Held v) (Number n) = shifted (behind fs v) (held_as_sum fs v) n (as_is Shl (Held v) (Number n))
based_shift fs a b = as_is Shl a b

-- a computation with the same result: a sum of what is at hand, where its operands are such sums that were made later
abbrev pub based : List Fact → Code → Operand → Operand → Computation
based fs Add a b = based_sum fs a b
based fs Sub a b = based_difference fs a b
based fs Shl a b = based_shift fs a b
based fs code a b = as_is code a b
