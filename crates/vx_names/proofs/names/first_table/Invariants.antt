use Rattle.std.proofs.Common.{◌≡◌, ℕ, List, ◌++◌, take}
use Rattle.vx_ast.specs.Scopes.{find, predeclared, known_of}
use Rattle.vx_names.specs.Entries.{entry_of}
use Rattle.vx_names.proofs.names.first_table.Given as goal

abbrev pub invariant-loop-name : goal.invariant-loop-name
invariant-loop-name l = (x : List ℕ) → entry_of x l.table.entries.entries ≡ find x (predeclared ++ known_of 0 (take l.name-index l.fn.names))
