-- The first globals are read.
use Rattle.std.proofs.Common.{◌≡◌, map, take}
use Rattle.vx_ast.specs.Meaning.{words_at_start}
use Rattle.vx_plain.proofs.store.rows_of.Given as goal

abbrev pub invariant-loop-global : goal.invariant-loop-global
invariant-loop-global l = l.rows.items ≡ map words_at_start (take l.global-index l.globals)
