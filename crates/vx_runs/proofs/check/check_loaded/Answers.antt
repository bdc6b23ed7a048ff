-- What is found is put, or memory is wanted.
use Rattle.std.proofs.Common.{inl, inr}
use Rattle.vx_runs.proofs.check.check_loaded.Goals as goal

pub returns-in-Ok-clause-checked : goal.returns-in-Ok-clause-checked
returns-in-Ok-clause-checked g c = inr (c.in-Ok.verdict, c.in-Ok.ensures.checks, c.put_verdict.ensures.puts)

pub returns-in-Err-clause-checked : goal.returns-in-Err-clause-checked
returns-in-Err-clause-checked g c = inl c.tell.ensures.same
