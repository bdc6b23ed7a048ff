-- A run that its sink cut has the line of that fault.
use Rattle.std.proofs.Common.{subst}
use Rattle.vx_status.specs.Status.{Tells, status_line}
use Rattle.vx_runs.proofs.run.conclude.Goals as goal

pub returns-in-SinkFault-clause-told : goal.returns-in-SinkFault-clause-told
returns-in-SinkFault-clause-told g c = λ cut.
    subst (λ status. Tells (status_line status) (g.E.Sink.told c.args.err.now) (g.E.Sink.told c.tell.new.err) (g.E.Sink.faults c.args.err.now) (g.E.Sink.faults c.tell.new.err)) c.tell.ensures.same c.tell.ensures.tells

pub returns-in-SinkFault-clause-cut : goal.returns-in-SinkFault-clause-cut
returns-in-SinkFault-clause-cut g c = λ cut. c.tell.ensures.same

pub returns-in-SinkFault-clause-adds : goal.returns-in-SinkFault-clause-adds
returns-in-SinkFault-clause-adds g c = c.tell.ensures.adds
