use Rattle.std.proofs.Common.{◌≡◌, take, map}
use Rattle.vx_test_graphs.specs.Traces.{join_at}
use Rattle.vx_test_graphs.proofs.traces.joins.Given as goal

abbrev pub invariant-loop-place : goal.invariant-loop-place
invariant-loop-place l = l.list ≡ map join_at (take l.place-index l.places)
