-- The lines of the end are put, or they are not and the fault is told.
use Rattle.std.proofs.Common.{inl, inr}
use Rattle.vx_status.proofs.Appending.{appends_on}
use Rattle.vx_runs.proofs.Ends.{end_fault, rose_then}
use Rattle.vx_runs.proofs.run.finish.Goals as goal

pub returns-in-Ok-clause-finishes : goal.returns-in-Ok-clause-finishes
returns-in-Ok-clause-finishes g c = inl (c.status_of.ensures, c.in-Ok.ensures.shows)

pub returns-in-Err-clause-finishes : goal.returns-in-Err-clause-finishes
returns-in-Err-clause-finishes g c = inr (c.tell.ensures.same, rose_then _ _ _ c.in-Err.ensures.adds.never_fall c.tell.ensures.adds.never_fall c.in-Err.ensures.failed, c.in-Err.ensures.wanted, end_fault c.args.end.ended _ _ c.tell.result c.tell.ensures.same c.in-Err.ensures.cut c.tell.ensures.tells)

pub returns-in-Err-clause-adds : goal.returns-in-Err-clause-adds
returns-in-Err-clause-adds g c = appends_on c.in-Err.ensures.adds c.tell.ensures.adds
