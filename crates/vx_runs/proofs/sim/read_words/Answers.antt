-- A text of words that was read whole, one that is too long, and one that is not there.
use Rattle.std.proofs.Common.{◌≡◌, ◌⊎◌, Ok, Err, None, ap, refl}
use Rattle.std.proofs.lemmas.Result.{IfErr-weaker, IfOk-weaker}
use Rattle.vx_io.specs.declared.role.Role.TheVariants.{Words as TheWords}
use Rattle.vx_words.specs.Spelling.{Spells}
use Rattle.vx_reader.specs.Text.{reading}
use Rattle.vx_status.specs.declared.status.Status.TheVariants.{Limit, NoMemory}
use Rattle.vx_files.specs.Effects.{effect_of}
use Rattle.vx_runs.specs.Simulated.{words_as, is_named}
use Rattle.vx_files.proofs.WholeFile.{whole}
use Rattle.vx_runs.proofs.FileSteps.{spells_in, words_refused, words_long}
use Rattle.vx_runs.proofs.sim.read_words.Goals as goal

pub returns-in-Ok-Whole-clause-program : goal.returns-in-Ok-Whole-clause-program
returns-in-Ok-Whole-clause-program g c =
    IfOk-weaker c.words_of.result (λ program. reading c.in-Ok-Whole.bytes.items ≡ Ok program) _
    (λ program is. whole TheWords 536870912 (Limit 9 536870913) (λ content. words_as (reading content)) (g.D.Depot.files c.args.depot.now) c.args.name.now c.in-Ok-Whole.bytes (Ok program) (rw c.in-Ok-Whole.field-0-is at c.in-Ok-Whole.ensures.content) (ap words_as is))
    (rw c.as_slice.ensures.value at c.words_of.ensures.program)

pub returns-in-Ok-Whole-clause-spells : goal.returns-in-Ok-Whole-clause-spells
returns-in-Ok-Whole-clause-spells g c =
    IfOk-weaker c.words_of.result (λ program. Spells c.in-Ok-Whole.bytes.items program) _
    (λ program is. spells_in (g.D.Depot.files c.args.depot.now) c.args.name.now 536870912 c.in-Ok-Whole.bytes program (rw c.in-Ok-Whole.field-0-is at c.in-Ok-Whole.ensures.content) is)
    (rw c.as_slice.ensures.value at c.words_of.ensures.spells)

pub returns-in-Ok-Whole-clause-stops : goal.returns-in-Ok-Whole-clause-stops
returns-in-Ok-Whole-clause-stops g c =
    IfErr-weaker c.words_of.result (λ status. (status ≡ NoMemory) ⊎ (words_as (reading c.in-Ok-Whole.bytes.items) ≡ Err status)) _
    (λ status why. words_refused (is_named None None) c.args.name.now c.in-Ok-Whole.bytes (effect_of g.D.Depot.files g.D.Depot.failed_reads g.D.Depot.failed_replaces c.args.depot.now c.read_file.new.depot) status (rw c.in-Ok-Whole.field-0-is at c.in-Ok-Whole.ensures.at_most) (rw c.in-Ok-Whole.field-0-is at c.in-Ok-Whole.ensures.content) why)
    (rw c.as_slice.ensures.value at c.words_of.ensures.refused)

pub returns-in-Ok-TooLong-clause-stops : goal.returns-in-Ok-TooLong-clause-stops
returns-in-Ok-TooLong-clause-stops g c =
    words_long (is_named None None) c.args.name.now (effect_of g.D.Depot.files g.D.Depot.failed_reads g.D.Depot.failed_replaces c.args.depot.now c.read_file.new.depot) refl
    (rw c.in-Ok-TooLong.field-0-is at c.in-Ok-TooLong.ensures.content)

pub returns-in-Ok-Whole-clause-same_files : goal.returns-in-Ok-Whole-clause-same_files
returns-in-Ok-Whole-clause-same_files g c = c.read_file.ensures.same_files

pub returns-in-Ok-Whole-clause-reads_never_fall : goal.returns-in-Ok-Whole-clause-reads_never_fall
returns-in-Ok-Whole-clause-reads_never_fall g c = c.read_file.ensures.reads_never_fall

pub returns-in-Ok-Whole-clause-replaces_never_fall : goal.returns-in-Ok-Whole-clause-replaces_never_fall
returns-in-Ok-Whole-clause-replaces_never_fall g c = c.read_file.ensures.replaces_never_fall

pub returns-in-Ok-TooLong-clause-same_files : goal.returns-in-Ok-TooLong-clause-same_files
returns-in-Ok-TooLong-clause-same_files g c = c.read_file.ensures.same_files

pub returns-in-Ok-TooLong-clause-reads_never_fall : goal.returns-in-Ok-TooLong-clause-reads_never_fall
returns-in-Ok-TooLong-clause-reads_never_fall g c = c.read_file.ensures.reads_never_fall

pub returns-in-Ok-TooLong-clause-replaces_never_fall : goal.returns-in-Ok-TooLong-clause-replaces_never_fall
returns-in-Ok-TooLong-clause-replaces_never_fall g c = c.read_file.ensures.replaces_never_fall

pub returns-in-Ok-TooLong-clause-sound : goal.returns-in-Ok-TooLong-clause-sound
returns-in-Ok-TooLong-clause-sound g c = tt

pub returns-in-Ok-TooLong-clause-program : goal.returns-in-Ok-TooLong-clause-program
returns-in-Ok-TooLong-clause-program g c = tt

pub returns-in-Ok-TooLong-clause-spells : goal.returns-in-Ok-TooLong-clause-spells
returns-in-Ok-TooLong-clause-spells g c = tt

pub returns-in-Err-Failed-clause-same_files : goal.returns-in-Err-Failed-clause-same_files
returns-in-Err-Failed-clause-same_files g c = c.read_file.ensures.same_files

pub returns-in-Err-Failed-clause-reads_never_fall : goal.returns-in-Err-Failed-clause-reads_never_fall
returns-in-Err-Failed-clause-reads_never_fall g c = c.read_file.ensures.reads_never_fall

pub returns-in-Err-Failed-clause-replaces_never_fall : goal.returns-in-Err-Failed-clause-replaces_never_fall
returns-in-Err-Failed-clause-replaces_never_fall g c = c.read_file.ensures.replaces_never_fall

pub returns-in-Err-Failed-clause-sound : goal.returns-in-Err-Failed-clause-sound
returns-in-Err-Failed-clause-sound g c = tt

pub returns-in-Err-Failed-clause-program : goal.returns-in-Err-Failed-clause-program
returns-in-Err-Failed-clause-program g c = tt

pub returns-in-Err-Failed-clause-spells : goal.returns-in-Err-Failed-clause-spells
returns-in-Err-Failed-clause-spells g c = tt

pub returns-in-Err-NoFile-clause-same_files : goal.returns-in-Err-NoFile-clause-same_files
returns-in-Err-NoFile-clause-same_files g c = c.read_file.ensures.same_files

pub returns-in-Err-NoFile-clause-reads_never_fall : goal.returns-in-Err-NoFile-clause-reads_never_fall
returns-in-Err-NoFile-clause-reads_never_fall g c = c.read_file.ensures.reads_never_fall

pub returns-in-Err-NoFile-clause-replaces_never_fall : goal.returns-in-Err-NoFile-clause-replaces_never_fall
returns-in-Err-NoFile-clause-replaces_never_fall g c = c.read_file.ensures.replaces_never_fall

pub returns-in-Err-NoFile-clause-sound : goal.returns-in-Err-NoFile-clause-sound
returns-in-Err-NoFile-clause-sound g c = tt

pub returns-in-Err-NoFile-clause-program : goal.returns-in-Err-NoFile-clause-program
returns-in-Err-NoFile-clause-program g c = tt

pub returns-in-Err-NoFile-clause-spells : goal.returns-in-Err-NoFile-clause-spells
returns-in-Err-NoFile-clause-spells g c = tt

pub returns-in-Err-NoMemory-clause-same_files : goal.returns-in-Err-NoMemory-clause-same_files
returns-in-Err-NoMemory-clause-same_files g c = c.read_file.ensures.same_files

pub returns-in-Err-NoMemory-clause-reads_never_fall : goal.returns-in-Err-NoMemory-clause-reads_never_fall
returns-in-Err-NoMemory-clause-reads_never_fall g c = c.read_file.ensures.reads_never_fall

pub returns-in-Err-NoMemory-clause-replaces_never_fall : goal.returns-in-Err-NoMemory-clause-replaces_never_fall
returns-in-Err-NoMemory-clause-replaces_never_fall g c = c.read_file.ensures.replaces_never_fall

pub returns-in-Err-NoMemory-clause-sound : goal.returns-in-Err-NoMemory-clause-sound
returns-in-Err-NoMemory-clause-sound g c = tt

pub returns-in-Err-NoMemory-clause-program : goal.returns-in-Err-NoMemory-clause-program
returns-in-Err-NoMemory-clause-program g c = tt

pub returns-in-Err-NoMemory-clause-spells : goal.returns-in-Err-NoMemory-clause-spells
returns-in-Err-NoMemory-clause-spells g c = tt
