-- The input was read before the run.
use Rattle.std.proofs.Common.{inl, inr}
use Rattle.std.proofs.lemmas.Result.{IfErr-weaker, IfOk-weaker}
use Rattle.vx_runs.proofs.FileSteps.{still_some}
use Rattle.vx_runs.proofs.counts.count_on.Goals as goal

pub returns-in-Ok-clause-only_reads : goal.returns-in-Ok-clause-only_reads
returns-in-Ok-clause-only_reads g c = record { files = c.in-Ok.ensures.same_files; reads = c.in-Ok.ensures.reads_never_fall; replaces = c.in-Ok.ensures.replaces_never_fall }

pub returns-in-Err-clause-only_reads : goal.returns-in-Err-clause-only_reads
returns-in-Err-clause-only_reads g c = record { files = c.in-Err.ensures.same_files; reads = c.in-Err.ensures.reads_never_fall; replaces = c.in-Err.ensures.replaces_never_fall }

pub returns-in-Ok-clause-counted : goal.returns-in-Ok-clause-counted
returns-in-Ok-clause-counted g c =
    IfOk-weaker c.counted_or.result _ _ (λ counted is. record { input = c.in-Ok.input.items; input_is = c.in-Ok.ensures.numbers; unnamed = c.in-Ok.ensures.unnamed; is = is }) (rw c.as_slice.ensures.value at c.counted_or.ensures.counted)

pub returns-in-Ok-clause-stops : goal.returns-in-Ok-clause-stops
returns-in-Ok-clause-stops g c = IfErr-weaker c.counted_or.result _ _ (λ status memory. inl memory) c.counted_or.ensures.memory

pub returns-in-Err-clause-stops : goal.returns-in-Err-clause-stops
returns-in-Err-clause-stops g c = inr (still_some _ c.args.name c.in-Err.ensures.named, c.in-Err.ensures.answers)
