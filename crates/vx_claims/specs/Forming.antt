-- Operations in another form with the same result: what was moved is read where it was moved from, and what stands in a value
-- already is moved from there.
use Rattle.std.specs.Prelude.{ℕ, zero, suc, ◌==◌, Bool, true, false, ◌&&◌, ◌||◌, pos, Option, Some, None, List, [], ◌∷◌, ◌++◌}
use Rattle.vx_base.specs.declared.arithmetic.Code.{Code}
use Rattle.vx_base.specs.declared.arithmetic.Code.TheVariants.{Mov, ToBranch}
use Rattle.vx_flow.specs.declared.graph.Operand.{Operand}
use Rattle.vx_flow.specs.declared.graph.Operand.TheVariants.{Held, Number, Stack}
use Rattle.vx_flow.specs.declared.graph.Array.{Array}
use Rattle.vx_flow.specs.declared.graph.Op.{Op}
use Rattle.vx_flow.specs.declared.graph.Op.TheVariants.{Compute, Place}
use Rattle.vx_flow.specs.Operands.{with_operands}
use Rattle.vx_flow.specs.Sound.{is_value}
use Rattle.vx_claims.specs.declared.fact.Fact.{Fact}
use Rattle.vx_claims.specs.declared.fact.Fact.TheVariants.{Between, Congruent, Equals, Never}
use Rattle.vx_claims.specs.declared.access.Access.{Access}
use Rattle.vx_claims.specs.declared.claim.Claim.{Claim}
use Rattle.vx_claims.specs.Facts.{range_of, times_if, computed_within, computed_residue, equals_if, lies_in, stands_in, after, same_code, same_operand, found}
use Rattle.vx_claims.specs.declared.sums.Computation.{Computation}
use Rattle.vx_claims.specs.Sums.{based}
use Rattle.vx_claims.specs.Accesses.{accessed, with_words, place_known}

-- whether the code is a move, into v
abbrev pub moves : ℕ → ℕ → Code → Bool
moves v u Mov = u == v
moves v u code = false

abbrev pub operand_if : Bool → Operand → Operand → Operand
operand_if true a otherwise = a
operand_if false a otherwise = otherwise

-- from where value v was moved, and v itself where it was not
abbrev pub source_of : List Fact → ℕ → Operand
source_of [] v = Held v
source_of (Between u i ∷ fs) v = source_of fs v
source_of (Congruent u c ∷ fs) v = source_of fs v
source_of (Equals u code a b ∷ fs) v = operand_if (moves v u code) a (source_of fs v)
source_of (Never ∷ fs) v = source_of fs v

-- an operand that holds the same
abbrev pub read : List Fact → Operand → Operand
read fs (Held v) = source_of fs v
read fs (Number n) = Number n
read fs Stack = Stack

-- a branch value cannot be moved, and what is moved already need not be
abbrev pub is_readable : Code → Bool
is_readable Mov = false
is_readable (ToBranch compare) = false
is_readable code = true

abbrev pub read_if : Bool → Code → ℕ → Operand → Operand → Option ℕ → Op
read_if true code v a b (Some w) = Compute Mov v (Held w) (Number (pos 0))
read_if true code v a b None = Compute code v a b
read_if false code v a b o = Compute code v a b

abbrev pub computed_as : List Fact → Code → ℕ → Operand → Operand → Op
computed_as fs code v a b = read_if (is_readable code) code v a b (found fs code a b)

abbrev pub computed_by : List Fact → ℕ → Computation → Op
computed_by fs v c = computed_as fs c.code v c.left c.right

abbrev pub formed : List Fact → Op → Op
formed fs (Compute code v a b) = computed_by fs v (based fs code (read fs a) (read fs b))
formed fs op = with_operands (read fs) op

-- the same, and a load of a known word is a move
abbrev pub form : List Fact → List Access → Op → Op
form fs xs op = with_words xs (formed fs op)

-- what the operation as it was says besides: of the operands from which it is not read, more may be known

abbrev pub same_form : Op → Op → Bool
same_form (Compute code v a b) (Compute code' v' a' b') = same_code code code' && (same_operand a a' && same_operand b b')
same_form (Place v a i) (Place v' a' i') = same_operand i i'
same_form op op' = false

abbrev pub is_test : Code → Bool
is_test (ToBranch compare) = true
is_test code = false

abbrev pub facts_if : Bool → List Fact → List Fact
facts_if true fs = fs
facts_if false fs = []

abbrev pub said_unless : Bool → List Fact → Op → List Fact
said_unless true fs op = []
said_unless false fs (Compute code v a b) = stands_in v (computed_within fs code a b) (computed_residue fs code a b) (facts_if (is_test code) (equals_if (is_value v a || is_value v b) v code a b))
said_unless false fs (Place v a i) = lies_in v (times_if true (range_of fs i) (pos 4)) []
said_unless false fs op = []

-- of the facts on what operations give so many are kept, the newest, so that a long block takes no longer for each operation; those
-- on where values lie and what their low bits are are kept all
abbrev pub most_equals : ℕ
most_equals = 64

abbrev pub newest : (left : ℕ) → List Fact → List Fact
newest left [] = []
newest left (Between v i ∷ fs) = Between v i ∷ newest left fs
newest left (Congruent v c ∷ fs) = Congruent v c ∷ newest left fs
newest left (Never ∷ fs) = Never ∷ newest left fs
newest zero (Equals v code a b ∷ fs) = newest zero fs
newest (suc left) (Equals v code a b ∷ fs) = Equals v code a b ∷ newest left fs

-- what is known behind an operation that has this form
abbrev pub after_known : List Fact → List Access → Op → Op → List Fact
after_known fs xs op op' = newest most_equals (place_known xs op' ++ (said_unless (same_form op op') fs op ++ after fs op'))

-- behind operations of a function with these arrays
abbrev pub after_from : List Array → List Fact → List Access → List Op → List Fact
after_from arrays fs xs [] = fs
after_from arrays fs xs (op ∷ ops) = after_from arrays (after_known fs xs op (form fs xs op)) (accessed arrays xs (form fs xs op)) ops

abbrev pub accessed_from : List Array → List Fact → List Access → List Op → List Access
accessed_from arrays fs xs [] = xs
accessed_from arrays fs xs (op ∷ ops) = accessed_from arrays (after_known fs xs op (form fs xs op)) (accessed arrays xs (form fs xs op)) ops

-- what is known behind the operations of a block at whose start this is claimed

abbrev pub after_all : List Array → Claim → List Op → List Fact
after_all arrays claim ops = after_from arrays claim.facts claim.accesses ops

abbrev pub accessed_all : List Array → Claim → List Op → List Access
accessed_all arrays claim ops = accessed_from arrays claim.facts claim.accesses ops
