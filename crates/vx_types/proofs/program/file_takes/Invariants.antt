use Rattle.std.proofs.Common.{◌≡◌, ◌++◌, drop, map}
use Rattle.vx_ast.specs.Scopes.{takes_from}
use Rattle.vx_ast.specs.SyntaxView.{definition_of}
use Rattle.vx_types.proofs.program.file_takes.Given as goal

abbrev pub invariant-loop-definition : goal.invariant-loop-definition
invariant-loop-definition l = l.made ++ takes_from (map definition_of (drop l.definition-index l.fn.definitions)) ≡ takes_from (map definition_of l.fn.definitions)
