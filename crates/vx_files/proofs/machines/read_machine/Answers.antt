-- A description that was read whole, and one that was not.
use Rattle.std.proofs.Common.{◌≡◌, Ok}
use Rattle.std.proofs.lemmas.Result.{IfErr-weaker, IfOk-weaker}
use Rattle.vx_machine.specs.Descriptions.{reading}
use Rattle.vx_files.specs.Effects.{effect_of}
use Rattle.vx_files.specs.Held.{RefusesDescription}
use Rattle.vx_files.proofs.MachineFile.{described, undescribed, machine_unread}
use Rattle.vx_files.proofs.machines.read_machine.Goals as goal

pub returns-in-Ok-clause-machine : goal.returns-in-Ok-clause-machine
returns-in-Ok-clause-machine g c =
    IfOk-weaker c.machine_of.result (λ machine. reading c.in-Ok.bytes.items ≡ Ok machine) _
    (λ machine is. described (g.D.Depot.files c.args.depot.now) c.args.name.now c.in-Ok.bytes machine c.in-Ok.ensures.content is)
    (rw c.as_slice.ensures.value at c.machine_of.ensures.described)

pub returns-in-Ok-clause-answers : goal.returns-in-Ok-clause-answers
returns-in-Ok-clause-answers g c =
    IfErr-weaker c.machine_of.result (RefusesDescription c.in-Ok.bytes.items) _
    (λ status why. undescribed c.args.name.now c.in-Ok.bytes
    (effect_of g.D.Depot.files g.D.Depot.failed_reads g.D.Depot.failed_replaces c.args.depot.now c.read_whole.new.depot) status c.in-Ok.ensures.short c.in-Ok.ensures.content c.read_whole.ensures.same_files why)
    (rw c.as_slice.ensures.value at c.machine_of.ensures.refused)

pub returns-in-Ok-clause-same_files : goal.returns-in-Ok-clause-same_files
returns-in-Ok-clause-same_files g c = c.read_whole.ensures.same_files

pub returns-in-Ok-clause-reads_never_fall : goal.returns-in-Ok-clause-reads_never_fall
returns-in-Ok-clause-reads_never_fall g c = c.read_whole.ensures.reads_never_fall

pub returns-in-Ok-clause-replaces_never_fall : goal.returns-in-Ok-clause-replaces_never_fall
returns-in-Ok-clause-replaces_never_fall g c = c.read_whole.ensures.replaces_never_fall

pub returns-in-Err : goal.returns-in-Err
returns-in-Err g c = record {
  same_files = c.read_whole.ensures.same_files;
  machine = tt;
  answers = machine_unread c.args.name.now (effect_of g.D.Depot.files g.D.Depot.failed_reads g.D.Depot.failed_replaces c.args.depot.now c.read_whole.new.depot) c.in-Err.status c.read_whole.ensures.same_files c.in-Err.ensures.refused;
  reads_never_fall = c.read_whole.ensures.reads_never_fall;
  replaces_never_fall = c.read_whole.ensures.replaces_never_fall;
}
