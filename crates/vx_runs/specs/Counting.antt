-- What the steps of `profile` hand on.
use Rattle.std.specs.Prelude.{◌≡◌, ◌↔◌, ◌⊎◌, ℕ, ℤ, Bool, true, false, List, Option, IfSome, Ok}
use Rattle.vx_base.specs.Outcome.{IsOver}
use Rattle.vx_io.specs.Outside.{PutsFront, with_bytes}
use Rattle.vx_ast.specs.Tree.{Program}
use Rattle.vx_flow.specs.Meaning.{graph_run}
use Rattle.vx_profile.specs.Text.{counts_text}
use Rattle.vx_status.specs.declared.status.Status.{Status}
use Rattle.vx_status.specs.declared.status.Status.TheVariants.{Done, WriteFault, Stopped, NoMemory}
use Rattle.vx_command.specs.Command.{Profiling}
use Rattle.vx_files.specs.Effects.{Effect, SourceAnswers}
use Rattle.vx_files.specs.Held.{EmptyUnless, input_found}
use Rattle.vx_runs.specs.Simulated.{Streams, OutRose}
use Rattle.vx_runs.specs.Counted.{RunOfGraphs, CountedRun, IsEnded, StopsAtCountsInput}

-- the text of the counts of such a run, and whether it is over
pub record IsCounted (p : Program) (select : Option ℕ) (input : List ℤ) (blocks : ℕ) (text : List ℕ) (complete : Bool) : Type 0 where
  pub run : RunOfGraphs p select input blocks
  pub text_is : text ≡ counts_text run.counts
  pub ended : (complete ≡ true) ↔ IsOver (graph_run run.flow input blocks)

-- the same, on the input of the command
pub record CountedOn (p : Program) (select : Option ℕ) (name : Option (List ℕ)) (blocks : ℕ) (e : Effect) (text : List ℕ) (complete : Bool) : Type 0 where
  pub input : List ℤ
  pub input_is : IfSome e.before (λ held. input_found held name ≡ Ok input)
  pub unnamed : EmptyUnless name input
  pub is : IsCounted p select input blocks text complete

-- the same, of the program of the command
pub record CountedFor (asked : Profiling) (e : Effect) (text : List ℕ) (complete : Bool) : Type 0 where
  pub counted : CountedRun asked e
  pub text_is : text ≡ counts_text counted.run.counts
  pub ended : (complete ≡ true) ↔ IsEnded asked e counted

-- a step before the run stops a profiling
abbrev pub StopsProfiling : Profiling → Effect → Status → Type 0
StopsProfiling asked e status = (status ≡ NoMemory) ⊎ SourceAnswers asked.source e status ⊎ StopsAtCountsInput asked e status

-- what the putting of the text says: it is put, whole, and the status says whether the run is over; or a front of it is put
pub data PutsText (text : List ℕ) (complete : Bool) (s : Streams) (status : Status) : Type 0 where
  over : complete ≡ true → status ≡ Done → s.out_after ≡ with_bytes s.out_before text → s.err_after ≡ s.err_before → PutsText text complete s status
  goes_on : complete ≡ false → status ≡ Stopped → s.out_after ≡ with_bytes s.out_before text → PutsText text complete s status
  cut : status ≡ WriteFault → OutRose s → PutsFront s.out_before s.out_after text → PutsText text complete s status
