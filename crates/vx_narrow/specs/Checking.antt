-- When facts claimed at the starts of the blocks of a program are checked, and the laws of checked facts.
use Rattle.std.specs.Prelude.{◌≡◌, ℕ, zero, suc, Bool, true, false, ◌&&◌, ◌||◌, ℤ, int_le, nat_lt, ◌≤◌, Option, Some, None, List, [], ◌∷◌, length, slice_get, slice_index_or}
use Rattle.std.specs.List.{list_all}
use Rattle.vx_base.specs.Arithmetic.{IsNumber}
use Rattle.vx_base.specs.Outcome.{On}
use Rattle.vx_flow.specs.declared.graph.Operand.{Operand}
use Rattle.vx_flow.specs.declared.graph.Operand.TheVariants.{Held, Number, Stack}
use Rattle.vx_flow.specs.declared.graph.Op.{Op}
use Rattle.vx_flow.specs.declared.graph.Op.TheVariants.{Compute, Select, Store, Base}
use Rattle.vx_flow.specs.declared.graph.Array.{Array}
use Rattle.vx_flow.specs.declared.graph.Exit.{Exit}
use Rattle.vx_flow.specs.declared.graph.Exit.TheVariants.{Goto, Split, Call, Return, Ends}
use Rattle.vx_flow.specs.declared.graph.Block.{Block}
use Rattle.vx_flow.specs.declared.graph.Graph.{Graph}
use Rattle.vx_flow.specs.declared.graph.Global.{Global}
use Rattle.vx_flow.specs.declared.graph.Flow.{Flow}
use Rattle.vx_flow.specs.Apart.{HasGlobalsFirst}
use Rattle.vx_flow.specs.Effects.{IsIn}
use Rattle.vx_flow.specs.Meaning.{Active, next, program_of, start}
use Rattle.vx_claims.specs.declared.claim.Claim.{Claim}
use Rattle.vx_claims.specs.declared.intervals.Interval.{Interval}
use Rattle.vx_claims.specs.declared.fact.Fact.{Fact}
use Rattle.vx_claims.specs.Facts.{AllHold, least, greatest, range_of, without, without_written, lies_in, on_side, decided}
use Rattle.vx_claims.specs.Forming.{after_all, accessed_all}
use Rattle.vx_claims.specs.declared.access.Access.{Access}
use Rattle.vx_claims.specs.Accesses.{tell}
use Rattle.vx_claims.specs.Claims.{is_inside, is_never, give}

-- the check of one block, where so much is given of the parameters of each function: an interval for each place, and nothing of
-- the places behind the last interval

abbrev pub is_number : ℤ → Bool
is_number n = int_le least n && int_le n greatest

abbrev pub has_number : Operand → Bool
has_number (Held v) = true
has_number (Number n) = is_number n
has_number Stack = true

-- as many arrays a function has at most, so that where each array of a run stands is a number of 32 bits: at most 512 functions are
-- active
unfoldable pub most_arrays : ℕ
most_arrays = 1048576

-- each number that the operation computes with, chooses or stores has 32 bits; of an index, of a place and of what is printed
-- nothing is asked. A base is the number of where its array stands
abbrev pub has_numbers : Op → Bool
has_numbers (Compute code v a b) = has_number a && has_number b
has_numbers (Select v p a b) = has_number a && has_number b
has_numbers (Store a p x) = has_number x
has_numbers (Base v a x) = nat_lt a most_arrays
has_numbers op = true

abbrev pub are_given : List Fact → List Access → Claim → Bool
are_given fs xs claim = give fs claim.facts && tell xs claim.accesses

-- behind a call nothing is known of words
abbrev pub are_given_behind : List Fact → Claim → Bool
are_given_behind fs claim = give fs claim.facts && tell [] claim.accesses

-- by the facts each argument lies in the interval of its place
abbrev pub are_passed : List Fact → List Operand → List Interval → Bool
are_passed fs [] is = true
are_passed fs (x ∷ xs) [] = true
are_passed fs (x ∷ xs) (i ∷ is) = is_inside (range_of fs x) i && are_passed fs xs is

-- whether a test came out the other way
abbrev pub is_against : Bool → Option Bool → Bool
is_against answer None = false
is_against true (Some true) = false
is_against true (Some false) = true
is_against false (Some true) = true
is_against false (Some false) = false

-- to the side against which the facts decide no run goes
abbrev pub are_given_on : Bool → List Fact → List Access → ℕ → Claim → Bool
are_given_on answer fs xs p claim = is_against answer (decided fs p) || are_given (on_side fs answer p) xs claim

abbrev pub is_exit_checked : (given : ℕ → List Interval) → (ℕ → Claim) → List Fact → List Access → Exit → Bool
is_exit_checked given claims fs xs (Goto c) = are_given fs xs (claims c)
is_exit_checked given claims fs xs (Split p c d) = are_given_on true fs xs p (claims c) && are_given_on false fs xs p (claims d)
is_exit_checked given claims fs xs (Call g arguments result next) = list_all has_number arguments && (are_passed fs arguments (given g) && are_given_behind (without_written result fs) (claims next))
is_exit_checked given claims fs xs (Return x) = has_number x
is_exit_checked given claims fs xs (Ends k) = true

-- of a block to which no run comes nothing is asked but that its numbers have 32 bits
abbrev pub is_left_checked : (given : ℕ → List Interval) → (ℕ → Claim) → List Fact → List Access → Exit → Bool
is_left_checked given claims fs xs exit = is_never fs || is_exit_checked given claims fs xs exit

-- of a block of a function with these arrays
abbrev pub is_block_checked : List Array → (given : ℕ → List Interval) → (ℕ → Claim) → ℕ → Block → Bool
is_block_checked arrays given claims b block = list_all has_numbers block.ops && is_left_checked given claims (after_all arrays (claims b) block.ops) (accessed_all arrays (claims b) block.ops) block.exit

-- the check of an entry

-- each parameter lies in the interval of its place; where a value is a parameter twice, its first place counts
abbrev pub lie_in : (parameters : List ℕ) → List Interval → List Fact
lie_in [] is = []
lie_in (q ∷ qs) [] = []
lie_in (q ∷ qs) (i ∷ is) = lies_in q i (without q (lie_in qs is))

-- what is given of the parameters gives what is claimed at the entry, and of words nothing is known there
abbrev pub is_entry_checked : List Interval → (parameters : List ℕ) → Claim → Bool
is_entry_checked is parameters claim = are_given (lie_in parameters is) [] claim

-- none where there is no such function
abbrev pub parameters_of : Option Graph → List ℕ
parameters_of None = []
parameters_of (Some g) = g.parameters

-- what a table gives of the parameters of a function: nothing where it has no row
abbrev pub listed_given : List (List Interval) → ℕ → List Interval
listed_given table f = slice_index_or table f []

-- the check of a program: what is given of the parameters of each function, and what is claimed in it at the start of each block;
-- where `main` begins the program it has no arguments, and what holds no number lies in every interval

pub record Checked (flow : Flow) (given : ℕ → List Interval) (claims : ℕ → ℕ → Claim) : Type 0 where
  pub entries : (f : ℕ) → is_entry_checked (given f) (parameters_of (slice_get flow.functions f)) (claims f 0) ≡ true
  pub blocks : (f b : ℕ) (g : Graph) (block : Block) → slice_get flow.functions f ≡ Some g → slice_get g.blocks b ≡ Some block → is_block_checked g.arrays given (claims f) b block ≡ true
  pub globals : list_all (λ (g : Global). is_number g.first) flow.globals ≡ true
  pub first : HasGlobalsFirst flow
  pub few : (f : ℕ) (g : Graph) → slice_get flow.functions f ≡ Some g → length g.arrays ≤ most_arrays

-- so many blocks lead from one active function to another
abbrev pub Leads : Flow → ℕ → Active → Active → Type 0
Leads flow zero r q = r ≡ q
Leads flow (suc n) r q = (m : Active) × (next (program_of flow) r ≡ On m) × Leads flow n m q

-- on every input of numbers, wherever a block is entered, the values are as claimed there
abbrev pub FactsHold : Type 0
FactsHold = (flow : Flow) (given : ℕ → List Interval) (claims : ℕ → ℕ → Claim) → Checked flow given claims → (input : List ℤ) → ((n : ℤ) → IsIn n input → IsNumber n) →
    (n : ℕ) (r : Active) → Leads flow n (start flow input) r → AllHold r.state.values (claims r.function r.block).facts
