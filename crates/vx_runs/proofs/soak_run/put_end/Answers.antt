-- The line of a result is put, and nothing of a trap.
use Rattle.vx_runs.specs.Summary.{trapped}
use Rattle.vx_runs.proofs.SoakEnds.{put_halted}
use Rattle.vx_runs.proofs.soak_run.put_end.Goals as goal

pub returns-in-Halted-clause-puts : goal.returns-in-Halted-clause-puts
returns-in-Halted-clause-puts g c = put_halted c.args.report.now.ended c.in-Halted.field-0 c.args.report.now.line.items c.as_slice.result.now _ c.put_summary.result c.in-Halted.is c.as_slice.ensures.value c.put_summary.ensures.puts

pub returns-in-Trapped-clause-puts : goal.returns-in-Trapped-clause-puts
returns-in-Trapped-clause-puts g c = trapped c.in-Trapped.trap c.in-Trapped.is c.tell.ensures.same
