-- the best of those that were tried
use Rattle.std.proofs.Common.{◌≤◌, ◌-◌}
use Rattle.vx_bug.specs.Clusters.{cycle_of}
use Rattle.vx_bug.specs.Ledgers.{books_of}
use Rattle.vx_bug.proofs.Best.{Compared}
use Rattle.vx_bug.proofs.cluster_choice.best.Given as goal

abbrev pub invariant-compare : goal.invariant-compare
invariant-compare l = record {
  best : Compared (cycle_of l.fn.turn.machine l.fn.turn.trace.now (books_of l.fn.ledger) l.fn.turn.place l.fn.turn.op.now) l.fn.span.first l.count l.best;
  some : 1 ≤ l.count;
  within : l.count ≤ l.fn.span.count;
}

abbrev pub decreases-compare : goal.decreases-compare
decreases-compare l = l.fn.span.count - l.count
