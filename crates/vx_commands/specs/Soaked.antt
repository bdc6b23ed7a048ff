-- What `soak` does: the source of a seed and a size is compiled for the default machine by no counts, and its words are run on the
-- empty input; one line says how much there was of everything.
use Rattle.std.specs.Prelude.{◌≡◌, ℕ, ℤ, List, [], length, codes, None}
use Rattle.vx_base.specs.Outcome.{Outcome, Ends, Traps, Goes, IsGoing}
use Rattle.vx_io.specs.Outside.{PutsFront, with_bytes}
use Rattle.vx_ast.specs.Reads.{Reads}
use Rattle.vx_ast.specs.Tree.{Program}
use Rattle.vx_gen.specs.Program.{program_text}
use Rattle.vx_isa.specs.declared.program.WordProgram.{WordProgram}
use Rattle.vx_isa.specs.Numbers.{vex}
use Rattle.vx_profile.specs.Counts.{CountsOf}
use Rattle.vx_profile.specs.declared.counts.Counts.{Counts}
use Rattle.vx_report.specs.declared.plan.Plan.{Plan}
use Rattle.vx_files.specs.Effects.{Effect, SameFiles}
use Rattle.vx_runs.specs.Boxes.{Boxes, Chosen, chosen}
use Rattle.vx_command.specs.Command.{Soaking}
use Rattle.vx_compiled.specs.Compiled.{Compiled}
use Rattle.vx_commands.specs.Executed.{Issues, InSource, SourceHas}
use Rattle.vx_runs.specs.Simulated.{BoxAnswers, Loaded, OutRose, Streams, with_input, outcome_within}
use Rattle.vx_status.specs.declared.status.Status.{Status}
use Rattle.vx_status.specs.declared.status.Status.TheVariants.{Done, Trapped, WriteFault, Stopped, NoMemory}
use Rattle.vx_compiled.specs.Sized.{all_blocks}
use Rattle.vx_runs.specs.Summary.{soak_budget, byte_sum, summary}

-- the most operations that are copied
abbrev pub soak_growth : ℕ
soak_growth = 4000

-- what is run: words that are compiled from the source of the seed and the size
pub record Soaked (asked : Soaking) : Type 0 where
  pub program : Program
  pub reads : Reads (program_text asked.seed asked.size) program
  pub counts : Counts
  pub none : CountsOf counts []
  pub words : WordProgram
  pub plan : Plan
  pub compiled : Compiled program counts (vex 1) soak_growth words plan

abbrev pub soaked_words : {asked : Soaking} → Soaked asked → Loaded
soaked_words x = with_input x.words (vex 1) []

-- the run comes to this outcome within the budget, and so does the source
pub record SoakRuns (asked : Soaking) (boxes : Chosen) (outcome : Outcome) : Type 0 where
  pub soaked : Soaked asked
  pub issued : ℕ
  pub issues : Issues (outcome_within (soaked_words soaked) boxes.times) soak_budget outcome issued
  pub in_source : InSource soaked.program [] outcome

-- the line

-- the functions and blocks of the graphs, the traces and copied operations of the plan, the words of the program, the sum of its
-- output's bytes, and the words that were issued
abbrev pub summary_of : {asked : Soaking} → Soaked asked → (out : List ℕ) → (issued : ℕ) → List ℕ
summary_of x out issued =
    summary (length x.compiled.flow.functions) (all_blocks x.compiled.flow.functions) (length x.plan.traces) (length x.words.words) x.plan.copies (byte_sum out) issued

-- the answers

-- the run has ended with a result, and its line is put, whole
pub record PutsSummary (asked : Soaking) (boxes : Chosen) (s : Streams) : Type 0 where
  pub number : ℤ
  pub out : List ℕ
  pub run : SoakRuns asked boxes (Ends number out)
  pub put : s.out_after ≡ with_bytes s.out_before (summary_of run.soaked out run.issued)
  pub quiet : s.err_after ≡ s.err_before

-- the run has ended with a result, and a front of its line is put
pub record CutsSummary (asked : Soaking) (boxes : Chosen) (s : Streams) : Type 0 where
  pub rose : OutRose s
  pub number : ℤ
  pub out : List ℕ
  pub run : SoakRuns asked boxes (Ends number out)
  pub front : PutsFront s.out_before s.out_after (summary_of run.soaked out run.issued)

abbrev pub SoakedAnswers : Soaking → Streams → Status → Chosen → Type 0
SoakedAnswers asked s Done boxes = PutsSummary asked boxes s
SoakedAnswers asked s (Trapped trap) boxes = (out : List ℕ) × SoakRuns asked boxes (Traps trap out)
SoakedAnswers asked s WriteFault boxes = CutsSummary asked boxes s
SoakedAnswers asked s Stopped boxes = (out : List ℕ) × SoakRuns asked boxes (Goes out)
SoakedAnswers asked s NoMemory boxes = Unit {0}
SoakedAnswers asked s status boxes = ⊥

-- no file ever changes; the timing is the first box that is called `late`
abbrev pub SoakAnswers : Soaking → Boxes → Effect → Streams → Status → Type 0
SoakAnswers asked boxes e s status = SameFiles e × BoxAnswers (SoakedAnswers asked s status) (chosen (codes "late") None boxes) status

-- where the output takes its line; want of memory is the one free answer

-- words of the source go on with the whole budget
pub record SoakGoesOn (asked : Soaking) (boxes : Chosen) : Type 0 where
  pub soaked : Soaked asked
  pub going : IsGoing (outcome_within (soaked_words soaked) boxes.times soak_budget)

-- as the source ends, or as its words go on
abbrev pub SoakEnds : Soaking → Status → Chosen → Type 0
SoakEnds asked Done boxes = (p : Program) → Reads (program_text asked.seed asked.size) p → (z : ℤ) × (out : List ℕ) × SourceHas p [] (Ends z out)
SoakEnds asked (Trapped k) boxes = (p : Program) → Reads (program_text asked.seed asked.size) p → (out : List ℕ) × SourceHas p [] (Traps k out)
SoakEnds asked Stopped boxes = SoakGoesOn asked boxes
SoakEnds asked NoMemory boxes = Unit {0}
SoakEnds asked status boxes = ⊥

abbrev pub SoakCompletes : Soaking → Boxes → Streams → Status → Type 0
SoakCompletes asked boxes s status = (OutRose s → ⊥) → BoxAnswers (SoakEnds asked status) (chosen (codes "late") None boxes) status
