use Rattle.std.proofs.Common.{map, take}
use Rattle.vx_ast.specs.View.{function_of, program_of}
use Rattle.vx_lower.specs.FunctionShape.{GraphsWell}
use Rattle.vx_lower.specs.Graphs.{AllGraphed}
use Rattle.vx_lower.proofs.lowering.lower_functions.Given as goal

abbrev pub invariant-loop-f : goal.invariant-loop-f
invariant-loop-f l = AllGraphed (program_of l.fn.source) (map function_of (take l.f-index l.fn.source.functions.items)) l.graphs l.fn.texts l.texts × GraphsWell (program_of l.fn.source) (map function_of (take l.f-index l.fn.source.functions.items)) l.graphs l.texts
