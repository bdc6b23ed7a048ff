use Rattle.std.proofs.Common.{◌≡◌, drop, map}
use Rattle.std.specs.List.{list_any}
use Rattle.vx_ast.specs.Faults.{is_main}
use Rattle.vx_ast.specs.SyntaxView.{definition_of}
use Rattle.vx_types.proofs.program.has_main.Given as goal

abbrev pub invariant-loop-definition : goal.invariant-loop-definition
invariant-loop-definition l = list_any is_main (map definition_of (drop l.definition-index l.fn.definitions)) ≡ list_any is_main (map definition_of l.fn.definitions)
