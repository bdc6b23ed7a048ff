use Rattle.std.proofs.Common.{◌≡◌, ◌++◌, drop}
use Rattle.vx_ast.specs.Scopes.{takes_of}
use Rattle.vx_types.proofs.program.takes_of.Given as goal

abbrev pub invariant-loop-one : goal.invariant-loop-one
invariant-loop-one l = l.made ++ takes_of (drop l.one-index l.fn.all) ≡ takes_of l.fn.all
