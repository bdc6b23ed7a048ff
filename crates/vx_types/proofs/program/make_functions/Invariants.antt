use Rattle.std.proofs.Common.{drop, map}
use Rattle.vx_ast.specs.SyntaxView.{definition_of, program_of}
use Rattle.vx_ast.specs.View as view
use Rattle.vx_types.proofs.Wholes.{PassedSo}
use Rattle.vx_types.proofs.program.make_functions.Given as goal

abbrev pub invariant-loop-one : goal.invariant-loop-one
invariant-loop-one l = PassedSo (program_of l.fn.program) l.fn.arrays (map view.function_of l.made.all.items) l.names l.made.first l.one-index (map definition_of (drop l.one-index l.fn.program.definitions.items))
