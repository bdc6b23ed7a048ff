-- The line of the end, that of the words and the reports behind it.
use Rattle.std.proofs.Common.{arith}
use Rattle.vx_status.proofs.Appending.{adds_put, appends_on}
use Rattle.vx_runs.proofs.Ends.{cuts_on, issued_cut, line_cut, shows_on, rose_on, or_on}
use Rattle.vx_sim.proofs.Printing.{on_err}
use Rattle.vx_runs.proofs.run.put_end.Goals as goal

pub returns-clause-shows : goal.returns-clause-shows
returns-clause-shows g c = shows_on c.put_reports.result c.args.end.ended _ _ _ _ _ _ _ _ _ _ c.requires c.put_ended.ensures.adds.never_fall c.put_told.ensures.adds.never_fall c.put_reports.ensures.puts.never_fall c.in_ok-put_ended.ensures.shows c.in_ok-put_told.ensures.shows c.put_reports.ensures.puts.all

pub returns-in_err-put_ended-clause-cut : goal.returns-in_err-put_ended-clause-cut
returns-in_err-put_ended-clause-cut g c = on_err _ c.from_residual.result (line_cut c.args.end.ended _ _ c.in_err-put_ended.ensures.wanted c.in_err-put_ended.ensures.part)

pub returns-in_err-put_told-clause-cut : goal.returns-in_err-put_told-clause-cut
returns-in_err-put_told-clause-cut g c = on_err _ c.from_residual-in_err-put_told.result (issued_cut c.args.end.ended _ _ _ _ c.in_err-put_told.ensures.wanted c.in_ok-put_ended.ensures.shows c.in_err-put_told.ensures.part)

pub returns-clause-cut : goal.returns-clause-cut
returns-clause-cut g c = cuts_on c.put_reports.result c.args.end.ended _ _ _ _ _ _ _ _ _ c.requires c.in_ok-put_ended.ensures.shows c.in_ok-put_told.ensures.shows c.put_reports.ensures.puts.part

pub returns-in_err-put_told-clause-adds : goal.returns-in_err-put_told-clause-adds
returns-in_err-put_told-clause-adds g c = appends_on c.put_ended.ensures.adds c.put_told.ensures.adds

pub returns-clause-adds : goal.returns-clause-adds
returns-clause-adds g c = appends_on c.put_ended.ensures.adds (appends_on c.put_told.ensures.adds (adds_put _ _ c.put_reports.ensures.puts))

pub returns-clause-failed : goal.returns-clause-failed
returns-clause-failed g c =
    let faults = g.E.Sink.faults in
    rose_on c.put_reports.result (faults c.args.err.now) (faults c.put_told.new.err) (faults c.put_reports.new.err) (omega (arith, c.put_ended.ensures.adds.never_fall, c.put_told.ensures.adds.never_fall)) c.put_reports.ensures.puts.never_fall c.put_reports.ensures.puts.failed

pub returns-clause-wanted : goal.returns-clause-wanted
returns-clause-wanted g c = or_on _ _ c.put_reports.result c.put_reports.ensures.some
