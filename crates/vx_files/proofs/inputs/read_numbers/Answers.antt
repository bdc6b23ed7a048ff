-- An input's text that was read whole, and one that was not.
use Rattle.std.proofs.Common.{◌≡◌, ◌⊎◌, Ok, Err}
use Rattle.std.proofs.lemmas.Result.{IfErr-weaker, IfOk-weaker}
use Rattle.vx_status.specs.declared.status.Status.TheVariants.{NoMemory}
use Rattle.vx_files.specs.Effects.{effect_of}
use Rattle.vx_files.specs.InputText.{input_reading}
use Rattle.vx_files.specs.Held.{input_as}
use Rattle.vx_files.proofs.InputFile.{input_read, input_refused, input_unread}
use Rattle.vx_files.proofs.inputs.read_numbers.Goals as goal

pub returns-in-Ok-clause-numbers : goal.returns-in-Ok-clause-numbers
returns-in-Ok-clause-numbers g c =
    IfOk-weaker c.numbers_of.result (λ numbers. input_reading c.in-Ok.bytes.items ≡ Ok numbers.items) _
    (λ numbers is. input_read (g.D.Depot.files c.args.depot.now) c.args.name.now c.in-Ok.bytes numbers.items c.in-Ok.ensures.content is)
    (rw c.as_slice.ensures.value at c.numbers_of.ensures.numbers)

pub returns-in-Ok-clause-answers : goal.returns-in-Ok-clause-answers
returns-in-Ok-clause-answers g c =
    IfErr-weaker c.numbers_of.result (λ status. (status ≡ NoMemory) ⊎ (input_as (input_reading c.in-Ok.bytes.items) ≡ Err status)) _
    (λ status why. input_refused c.args.name.now c.in-Ok.bytes (effect_of g.D.Depot.files g.D.Depot.failed_reads g.D.Depot.failed_replaces c.args.depot.now c.read_whole.new.depot) status c.in-Ok.ensures.short c.read_whole.ensures.same_files c.in-Ok.ensures.content why)
    (rw c.as_slice.ensures.value at c.numbers_of.ensures.refused)

pub returns-in-Ok-clause-same_files : goal.returns-in-Ok-clause-same_files
returns-in-Ok-clause-same_files g c = c.read_whole.ensures.same_files

pub returns-in-Ok-clause-reads_never_fall : goal.returns-in-Ok-clause-reads_never_fall
returns-in-Ok-clause-reads_never_fall g c = c.read_whole.ensures.reads_never_fall

pub returns-in-Ok-clause-replaces_never_fall : goal.returns-in-Ok-clause-replaces_never_fall
returns-in-Ok-clause-replaces_never_fall g c = c.read_whole.ensures.replaces_never_fall

pub returns-in-Err : goal.returns-in-Err
returns-in-Err g c = record {
  same_files = c.read_whole.ensures.same_files;
  numbers = tt;
  in_range = tt;
  answers = input_unread c.args.name.now (effect_of g.D.Depot.files g.D.Depot.failed_reads g.D.Depot.failed_replaces c.args.depot.now c.read_whole.new.depot) c.in-Err.status c.read_whole.ensures.same_files c.in-Err.ensures.refused;
  reads_never_fall = c.read_whole.ensures.reads_never_fall;
  replaces_never_fall = c.read_whole.ensures.replaces_never_fall;
}
