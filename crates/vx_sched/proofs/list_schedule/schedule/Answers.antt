use Rattle.std.proofs.Common.{ap, ◌∙◌}
use Rattle.vx_sched.specs.Placement.{length_of}
use Rattle.vx_sched.proofs.list_schedule.schedule.Goals as goal

pub returns-clause-length : goal.returns-clause-length
returns-clause-length c = c.in_ok-length.ensures ∙ ap length_of c.as_slice.ensures
