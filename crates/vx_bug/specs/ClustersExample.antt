-- Worked rows: two sums, and the sum of both, on two clusters that issue one operation a word each.
use Rattle.std.specs.Prelude.{◌≡◌, ℕ, pos, Option, Some, None, List, [], ◌∷◌, take}
use Rattle.vx_base.specs.declared.arithmetic.Code.TheVariants.{Add}
use Rattle.vx_flow.specs.declared.graph.Operand.{Operand}
use Rattle.vx_flow.specs.declared.graph.Operand.TheVariants.{Held, Number}
use Rattle.vx_flow.specs.declared.graph.Op.TheVariants.{Compute, Across}
use Rattle.vx_flow.specs.declared.trace.TraceOp.{TraceOp}
use Rattle.vx_flow.specs.declared.trace.TraceOp.TheVariants.{Plain}
use Rattle.vx_flow.specs.declared.trace.Join.{Join}
use Rattle.vx_flow.specs.declared.trace.Trace.{Trace}
use Rattle.vx_flow.specs.declared.trace.Homes.{Homes}
use Rattle.vx_isa.specs.Numbers.{Numbers, narrow}
use Rattle.vx_room.specs.Room.{home_of}
use Rattle.vx_bug.specs.Clusters.{Books, listed, at_first, books_after, estimate_of}
use Rattle.vx_bug.specs.Copies.{with_copies}

abbrev pub two_narrow : Numbers
two_narrow = record narrow { clusters = 2 }

abbrev pub sum : (to left : ℕ) → Operand → TraceOp
sum to left right = Plain (Compute Add to (Held left) right)

abbrev pub trace_of : List TraceOp → (fixed : List (Option ℕ)) → List Join → Trace
trace_of ops fixed joins = record { function = 0; blocks = 0 ∷ []; ops = ops; fixed = fixed; joins = joins; values = 20; arrays = [] }

-- v3 = v1 + 1; v4 = v2 + 1; v5 = v3 + v4

abbrev pub left_sum : TraceOp
left_sum = sum 3 1 (Number (pos 1))

abbrev pub right_sum : TraceOp
right_sum = sum 4 2 (Number (pos 1))

abbrev pub both_sums : TraceOp
both_sums = sum 5 3 (Held 4)

abbrev pub sums : Trace
sums = trace_of (left_sum ∷ right_sum ∷ both_sums ∷ []) (None ∷ None ∷ None ∷ []) []

-- v1 on cluster 0, v2 on cluster 1
abbrev pub apart : Homes
apart = record { clusters = None ∷ Some 0 ∷ Some 1 ∷ [] }

abbrev pub nowhere : Homes
nowhere = record { clusters = [] }

abbrev pub chosen : List ℕ
chosen = 0 ∷ 1 ∷ 0 ∷ []

-- before the turn at place k of the order
abbrev pub books : Homes → ℕ → Books
books homes k = books_after two_narrow sums chosen (at_first homes) (take k (0 ∷ 1 ∷ 2 ∷ []))

-- v2 = v1 + 1; v3 = v1 + 2, v1 on cluster 1, the others on cluster 0

abbrev pub uses : (joins : List Join) → Trace
uses joins = trace_of (sum 2 1 (Number (pos 1)) ∷ sum 3 1 (Number (pos 2)) ∷ []) (None ∷ None ∷ []) joins

abbrev pub crossed : Homes
crossed = record { clusters = None ∷ Some 1 ∷ Some 0 ∷ Some 0 ∷ [] }

abbrev pub joined_at : (place : ℕ) → Join
joined_at place = record { place = place; block = 2; edges = record { from = 3; to = 2 } ∷ [] }

pub record ClustersExample : Type 0 where
  pub order : listed sums ≡ 0 ∷ 1 ∷ 2 ∷ []
  -- a first turn: v1 is on cluster 0, one cycle away from cluster 1
  pub left_on_0 : estimate_of two_narrow sums (books apart 0) 0 left_sum 0 ≡ 1
  pub left_on_1 : estimate_of two_narrow sums (books apart 0) 0 left_sum 1 ≡ 2
  -- the slot of cluster 0 is booked in cycle 0
  pub right_on_0 : estimate_of two_narrow sums (books apart 1) 1 right_sum 0 ≡ 2
  pub right_on_1 : estimate_of two_narrow sums (books apart 1) 1 right_sum 1 ≡ 1
  pub both_on_0 : estimate_of two_narrow sums (books apart 2) 2 both_sums 0 ≡ 3
  pub both_on_1 : estimate_of two_narrow sums (books apart 2) 2 both_sums 1 ≡ 3
  -- without homes they count as standing where the operation is tried
  pub free_left_on_1 : estimate_of two_narrow sums (books nowhere 0) 0 left_sum 1 ≡ 1
  pub free_right_on_0 : estimate_of two_narrow sums (books nowhere 1) 1 right_sum 0 ≡ 2
  pub free_right_on_1 : estimate_of two_narrow sums (books nowhere 1) 1 right_sum 1 ≡ 1
  pub home_of_left : (books nowhere 3).homes 1 ≡ Some 0
  pub home_of_right : (books nowhere 3).homes 2 ≡ Some 1
  -- the copy of v4 to cluster 0 stands directly before its use
  pub ops : (with_copies sums (books apart 3).homes chosen).trace.ops ≡ left_sum ∷ right_sum ∷ Plain (Across 24 4) ∷ sum 5 3 (Held 24) ∷ []
  pub clusters : (with_copies sums (books apart 3).homes chosen).clusters ≡ 0 ∷ 1 ∷ 0 ∷ 0 ∷ []
  -- one copy serves two uses, but none behind a join, which stands above the second one
  pub one_copy : (with_copies (uses []) (home_of crossed) (0 ∷ 0 ∷ [])).trace.ops ≡ Plain (Across 21 1) ∷ sum 2 21 (Number (pos 1)) ∷ sum 3 21 (Number (pos 2)) ∷ []
  pub two_copies : (with_copies (uses (joined_at 1 ∷ [])) (home_of crossed) (0 ∷ 0 ∷ [])).trace.ops ≡ Plain (Across 21 1) ∷ sum 2 21 (Number (pos 1)) ∷ Plain (Across 21 1) ∷ sum 3 21 (Number (pos 2)) ∷ []
  pub join_moved : (with_copies (uses (joined_at 1 ∷ [])) (home_of crossed) (0 ∷ 0 ∷ [])).trace.joins ≡ joined_at 2 ∷ []
