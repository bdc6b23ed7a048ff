use Rattle.std.proofs.Common.{◌≡◌, ◌++◌, drop, map}
use Rattle.vx_ast.specs.Scopes.{names_from}
use Rattle.vx_ast.specs.SyntaxView.{definition_of}
use Rattle.vx_types.proofs.program.file_names.Given as goal

abbrev pub invariant-loop-definition : goal.invariant-loop-definition
invariant-loop-definition l = l.made ++ names_from l.arrays l.functions (map definition_of (drop l.definition-index l.fn.definitions)) ≡ names_from 0 0 (map definition_of l.fn.definitions)
