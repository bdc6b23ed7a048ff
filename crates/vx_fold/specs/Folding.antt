-- A flow in which values that only ever hold one number are read as that number, and the laws that it does the same and stays a
-- flow of its program.
use Rattle.std.specs.Prelude.{◌≡◌, ℕ, ℤ, pos, Bool, true, false, ◌&&◌, if◌then◌else◌, Option, Some, None, List, map, slice_get}
use Rattle.std.specs.List.{list_all}
use Rattle.std.specs.Ordering.{int_eq}
use Rattle.vx_base.specs.Outcome.{NeverFails}
use Rattle.vx_base.specs.declared.arithmetic.Code.TheVariants.{Mov}
use Rattle.vx_ast.specs.Tree.{Function, Program}
use Rattle.vx_flow.specs.declared.graph.Operand.{Operand}
use Rattle.vx_flow.specs.declared.graph.Operand.TheVariants.{Held, Number, Stack}
use Rattle.vx_flow.specs.declared.graph.Op.{Op}
use Rattle.vx_flow.specs.declared.graph.Op.TheVariants.{Compute, Select, Place, Across, PlaceIn}
use Rattle.vx_flow.specs.declared.graph.Exit.{Exit}
use Rattle.vx_flow.specs.declared.graph.Exit.TheVariants.{Goto, Split, Call, Return, Ends}
use Rattle.vx_flow.specs.declared.graph.Block.{Block}
use Rattle.vx_flow.specs.declared.graph.Graph.{Graph}
use Rattle.vx_flow.specs.declared.graph.Flow.{Flow}
use Rattle.vx_flow.specs.Effects.{Content, is_one, computed, place_of}
use Rattle.vx_flow.specs.Operands.{written_by, with_operands}
use Rattle.vx_flow.specs.Meaning.{graph_run}
use Rattle.vx_flow.specs.Sound.{is_sound_flow}
use Rattle.vx_lower.specs.FlowOf.{GraphOf, FlowOf}
use Rattle.vx_shape.specs.Flows.{with_graphs, Each}

-- each value with the one number that it holds, None where it may hold others

abbrev pub no_number : Option ℤ → Bool
no_number None = true
no_number (Some n) = false

abbrev pub number_in : (ℕ → Option ℤ) → Operand → Content
number_in numbers (Held v) = numbers v
number_in numbers (Number n) = Some n
number_in numbers Stack = None

abbrev pub is_content : ℤ → Content → Bool
is_content n None = false
is_content n (Some m) = int_eq m n

abbrev pub gives : Option ℤ → Content → Bool
gives None x = true
gives (Some n) x = is_content n x

abbrev pub is_free : (ℕ → Option ℤ) → Option ℕ → Bool
is_free numbers None = true
is_free numbers (Some v) = no_number (numbers v)

-- what writes a value with a number computes that number, or is the place at such an index; a copy across reads no such value, and no
-- such value is a base
abbrev pub settles : (ℕ → Option ℤ) → Op → Bool
settles numbers (Compute code v a b) = gives (numbers v) (computed code (number_in numbers a) (number_in numbers b))
settles numbers (Place v a i) = gives (numbers v) (place_of (number_in numbers i))
settles numbers (Across v u) = no_number (numbers v) && no_number (numbers u)
settles numbers (PlaceIn v a u i) = no_number (numbers v) && no_number (numbers u)
settles numbers op = is_free numbers (written_by op)

abbrev pub settles_exit : (ℕ → Option ℤ) → Exit → Bool
settles_exit numbers (Goto c) = true
settles_exit numbers (Split p c d) = true
settles_exit numbers (Call f arguments result c) = is_free numbers result
settles_exit numbers (Return x) = true
settles_exit numbers (Ends k) = true

abbrev pub settles_block : (ℕ → Option ℤ) → Block → Bool
settles_block numbers block = list_all (settles numbers) block.ops && settles_exit numbers block.exit

abbrev pub settles_graph : (ℕ → Option ℤ) → Graph → Bool
settles_graph numbers g = list_all (λ v. no_number (numbers v)) g.parameters && list_all (settles_block numbers) g.blocks

-- with each such value read as its number, and each split by one a jump

abbrev pub operand_by : Option ℤ → ℕ → Operand
operand_by None v = Held v
operand_by (Some n) v = Number n

abbrev pub folded : (ℕ → Option ℤ) → Operand → Operand
folded numbers (Held v) = operand_by (numbers v) v
folded numbers (Number n) = Number n
folded numbers Stack = Stack

abbrev pub select_by : Option ℤ → (v p : ℕ) → Operand → Operand → Op
select_by None v p a b = Select v p a b
select_by (Some z) v p a b = Compute Mov v (if is_one z then a else b) (Number (pos 0))

abbrev pub folded_op : (ℕ → Option ℤ) → Op → Op
folded_op numbers (Select v p a b) = select_by (numbers p) v p (folded numbers a) (folded numbers b)
folded_op numbers op = with_operands (folded numbers) op

abbrev pub split_by : Option ℤ → (p c d : ℕ) → Exit
split_by None p c d = Split p c d
split_by (Some z) p c d = Goto (if is_one z then c else d)

abbrev pub folded_exit : (ℕ → Option ℤ) → Exit → Exit
folded_exit numbers (Goto c) = Goto c
folded_exit numbers (Split p c d) = split_by (numbers p) p c d
folded_exit numbers (Call f arguments result c) = Call f (map (folded numbers) arguments) result c
folded_exit numbers (Return x) = Return (folded numbers x)
folded_exit numbers (Ends k) = Ends k

abbrev pub folded_block : (ℕ → Option ℤ) → Block → Block
folded_block numbers block = record { ops = map (folded_op numbers) block.ops; exit = folded_exit numbers block.exit }

abbrev pub folded_graph : (ℕ → Option ℤ) → Graph → Graph
folded_graph numbers g = record g { blocks = map (folded_block numbers) g.blocks }

-- the numbers as a list
abbrev pub number_or_none : Option (Option ℤ) → Option ℤ
number_or_none None = None
number_or_none (Some o) = o

abbrev pub numbers_of : List (Option ℤ) → ℕ → Option ℤ
numbers_of list v = number_or_none (slice_get list v)

-- the new graph is the old one folded, and keeps the shape that the graph of a function has
pub record GraphFolds (old new : Graph) : Type 0 where
  pub numbers : ℕ → Option ℤ
  pub settled : settles_graph numbers old ≡ true
  pub is : new ≡ folded_graph numbers old
  pub shape : (p : Program) (function : Function) → GraphOf p function old → GraphOf p function new

-- on every input where the old flow never fails, the new one comes to the same at every bound
abbrev pub FoldedRuns : Type 0
FoldedRuns = (flow : Flow) (graphs : List Graph) → Each GraphFolds flow.functions graphs → (input : List ℤ) → NeverFails (graph_run flow input) → (n : ℕ) → graph_run (with_graphs flow graphs) input n ≡ graph_run flow input n

abbrev pub FoldedStays : Type 0
FoldedStays = (p : Program) (flow : Flow) (graphs : List Graph) → Each GraphFolds flow.functions graphs → is_sound_flow (with_graphs flow graphs) ≡ true → FlowOf p flow → FlowOf p (with_graphs flow graphs)
