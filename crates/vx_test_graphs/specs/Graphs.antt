-- The graph that a constant says, and the program.
use Rattle.std.specs.Prelude.{pos, false, Option, Some, None, List, [], ◌∷◌, ◌++◌, map}
use Rattle.vx_flow.specs.declared.graph.Block.{Block}
use Rattle.vx_flow.specs.declared.graph.Exit.{Exit}
use Rattle.vx_flow.specs.declared.graph.Exit.TheVariants.{Goto, Split, Call, Return, Ends}
use Rattle.vx_flow.specs.declared.graph.Flow.{Flow}
use Rattle.vx_flow.specs.declared.graph.Graph.{Graph}
use Rattle.vx_flow.specs.declared.graph.Op.{Op}
use Rattle.vx_flow.specs.declared.graph.Op.TheVariants.{Compute, Load, Store, Select}
use Rattle.vx_flow.specs.declared.graph.Operand.{Operand}
use Rattle.vx_flow.specs.declared.graph.Operand.TheVariants.{Held, Number}
use Rattle.vx_test_graphs.specs.declared.shapes.Act.{Act}
use Rattle.vx_test_graphs.specs.declared.shapes.Act.TheVariants.{On, Load as Loads, Store as Stores, Select as Selects, Plain}
use Rattle.vx_test_graphs.specs.declared.shapes.Part.{Part}
use Rattle.vx_test_graphs.specs.declared.shapes.Shape.{Shape}
use Rattle.vx_test_graphs.specs.declared.shapes.Way.{Way}
use Rattle.vx_test_graphs.specs.declared.shapes.Way.TheVariants.{Goto as Goes, Split as Splits, Call as Calls, Return as Returns, Ends as Traps}
use Rattle.vx_test_graphs.specs.declared.shapes.Whole.{Whole}

abbrev pub op_of : Act → Op
op_of (On code to left right) = Compute code to (Held left) right
op_of (Loads to array place) = Load to array place false
op_of (Stores array place from) = Store array place from
op_of (Selects to test) = Select to test (Number (pos 1)) (Held 2)
op_of (Plain op) = op

-- an argument, where there is one
abbrev pub listed : Option Operand → List Operand
listed (Some x) = x ∷ []
listed None = []

abbrev pub given : (first second : Option Operand) → List Operand
given first second = listed first ++ listed second

abbrev pub exit_of : Way → Exit
exit_of (Goes block) = Goto block
exit_of (Splits test one other) = Split test one other
exit_of (Calls function first second result next) = Call function (given first second) result next
exit_of (Returns x) = Return x
exit_of (Traps trap) = Ends trap

abbrev pub block_of : Part → Block
block_of part = record { ops = map op_of part.0.now; exit = exit_of part.1 }

abbrev pub graph_of : Shape → Graph
graph_of shape = record { blocks = map block_of shape.parts.now; banks = shape.banks.now; parameters = shape.parameters.now; arrays = shape.arrays.now }

abbrev pub program_of : Whole → Flow
program_of whole = record { functions = map graph_of whole.functions.now; globals = whole.globals.now; texts = (10 ∷ []) ∷ []; main = whole.main }
