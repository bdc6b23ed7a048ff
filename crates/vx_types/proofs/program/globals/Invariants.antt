use Rattle.std.proofs.Common.{◌≡◌, ◌++◌, drop, map}
use Rattle.vx_ast.specs.Scopes.{globals_of}
use Rattle.vx_ast.specs.SyntaxView.{definition_of}
use Rattle.vx_types.proofs.program.globals.Given as goal

abbrev pub invariant-loop-definition : goal.invariant-loop-definition
invariant-loop-definition l = l.made ++ globals_of (map definition_of (drop l.definition-index l.fn.definitions)) ≡ globals_of (map definition_of l.fn.definitions)
