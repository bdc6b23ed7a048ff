use Rattle.std.proofs.Common.{◌≡◌, map, take}
use Rattle.vx_tally.specs.Tally.{empty_row}
use Rattle.vx_tally.proofs.tally.empty_rows.Given as goal

abbrev pub invariant-loop-graph : goal.invariant-loop-graph
invariant-loop-graph l = l.rows.items ≡ map empty_row (take l.graph-index l.graphs)
