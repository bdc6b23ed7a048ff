use Rattle.std.proofs.Common.{◌≡◌, drop, map}
use Rattle.vx_ast.specs.Resolved.{main_from}
use Rattle.vx_ast.specs.SyntaxView.{definition_of}
use Rattle.vx_types.proofs.program.main_number.Given as goal

abbrev pub invariant-loop-definition : goal.invariant-loop-definition
invariant-loop-definition l = main_from l.number (map definition_of (drop l.definition-index l.fn.definitions)) ≡ main_from 0 (map definition_of l.fn.definitions)
