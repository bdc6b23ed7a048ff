use Rattle.vx_search.specs.Rows.{SameRows}
use Rattle.vx_search.proofs.parameters.go_over_ready.Given as goal

abbrev pub invariant-going : goal.invariant-going
invariant-going l = SameRows l.initial.found l.found
