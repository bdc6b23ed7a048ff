use Rattle.vx_search.specs.Rows.{SameRows}
use Rattle.vx_search.proofs.parameters.go_over_all.Given as goal

abbrev pub invariant-loop-function : goal.invariant-loop-function
invariant-loop-function l = SameRows l.initial.found l.found
