-- A profile that was read whole, and one that was not.
use Rattle.std.proofs.Common.{◌≡◌, ◌⊎◌}
use Rattle.std.proofs.lemmas.Result.{IfErr-weaker, IfOk-weaker}
use Rattle.vx_profile.specs.Text.{Spells}
use Rattle.vx_status.specs.declared.status.Status.TheVariants.{NoMemory}
use Rattle.vx_files.specs.Effects.{effect_of}
use Rattle.vx_files.specs.Held.{BadProfile}
use Rattle.vx_files.proofs.ProfileFile.{spelled, refused, unread}
use Rattle.vx_files.proofs.profiles.read_profile.Goals as goal

pub returns-in-Ok-clause-counts : goal.returns-in-Ok-clause-counts
returns-in-Ok-clause-counts g c =
    IfOk-weaker c.counts_in.result (λ counts. Spells c.in-Ok.bytes.items counts) _
    (λ counts is. spelled (g.D.Depot.files c.args.depot.now) c.args.name.now c.in-Ok.bytes counts c.in-Ok.ensures.content is)
    (rw c.as_slice.ensures.value at c.counts_in.ensures.spelled)

pub returns-in-Ok-clause-answers : goal.returns-in-Ok-clause-answers
returns-in-Ok-clause-answers g c =
    IfErr-weaker c.counts_in.result (λ status. (status ≡ NoMemory) ⊎ BadProfile c.in-Ok.bytes.items status) _
    (λ status why. refused c.args.name.now c.in-Ok.bytes (effect_of g.D.Depot.files g.D.Depot.failed_reads g.D.Depot.failed_replaces c.args.depot.now c.read_whole.new.depot) status c.read_whole.ensures.same_files c.in-Ok.ensures.content why)
    (rw c.as_slice.ensures.value at c.counts_in.ensures.refused)

pub returns-in-Ok-clause-same_files : goal.returns-in-Ok-clause-same_files
returns-in-Ok-clause-same_files g c = c.read_whole.ensures.same_files

pub returns-in-Ok-clause-reads_never_fall : goal.returns-in-Ok-clause-reads_never_fall
returns-in-Ok-clause-reads_never_fall g c = c.read_whole.ensures.reads_never_fall

pub returns-in-Ok-clause-replaces_never_fall : goal.returns-in-Ok-clause-replaces_never_fall
returns-in-Ok-clause-replaces_never_fall g c = c.read_whole.ensures.replaces_never_fall

pub returns-in-Err : goal.returns-in-Err
returns-in-Err g c = record {
  same_files = c.read_whole.ensures.same_files;
  counts = tt;
  answers = unread c.args.name.now (effect_of g.D.Depot.files g.D.Depot.failed_reads g.D.Depot.failed_replaces c.args.depot.now c.read_whole.new.depot) c.in-Err.status c.read_whole.ensures.same_files c.in-Err.ensures.refused;
  reads_never_fall = c.read_whole.ensures.reads_never_fall;
  replaces_never_fall = c.read_whole.ensures.replaces_never_fall;
}
