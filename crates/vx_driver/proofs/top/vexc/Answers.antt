-- The clauses are the parts of what was performed, and the answer excludes all others where nothing fails.
use Rattle.vx_commands.proofs.Completed.{completes}
use Rattle.vx_driver.proofs.top.vexc.Goals as goal

pub returns-clause-answers : goal.returns-clause-answers
returns-clause-answers g c = c.perform.ensures.performed.answers

pub returns-clause-complete : goal.returns-clause-complete
returns-clause-complete g c = completes _ _ _ _ _ c.perform.ensures.performed.answers

pub returns-clause-nothing_on_out : goal.returns-clause-nothing_on_out
returns-clause-nothing_on_out g c = c.perform.ensures.performed.nothing

pub returns-clause-line : goal.returns-clause-line
returns-clause-line g c = c.perform.ensures.performed.line

pub returns-clause-no_command : goal.returns-clause-no_command
returns-clause-no_command g c = c.perform.ensures.no_command

pub returns-clause-line_on_err : goal.returns-clause-line_on_err
returns-clause-line_on_err g c = record { more = c.perform.ensures.performed.adds.more; is = c.perform.ensures.performed.adds.is }

pub returns-clause-out_never_falls : goal.returns-clause-out_never_falls
returns-clause-out_never_falls g c = c.perform.ensures.performed.out_never_falls

pub returns-clause-err_never_falls : goal.returns-clause-err_never_falls
returns-clause-err_never_falls g c = c.perform.ensures.performed.adds.never_fall

pub returns-clause-reads_never_fall : goal.returns-clause-reads_never_fall
returns-clause-reads_never_fall g c = c.perform.ensures.performed.reads_never_fall

pub returns-clause-replaces_never_fall : goal.returns-clause-replaces_never_fall
returns-clause-replaces_never_fall g c = c.perform.ensures.performed.replaces_never_fall
