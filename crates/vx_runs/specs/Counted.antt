-- What `profile` does: it runs graphs of the source, as it is rewritten, on the input of the command, for at most so many blocks,
-- and puts how often each block and each edge was passed.
use Rattle.std.specs.Prelude.{◌≡◌, ◌⊎◌, true, ℕ, ℤ, List, is_some, Option, Some, None, IfSome, Ok, Err}
use Rattle.vx_base.specs.Outcome.{IsOver}
use Rattle.vx_io.specs.Outside.{Files, PutsFront, with_bytes}
use Rattle.vx_io.specs.declared.role.Role.{Role}
use Rattle.vx_io.specs.declared.role.Role.TheVariants.{Source as TheSource, Input as TheInput}
use Rattle.vx_ast.specs.Tree.{Program}
use Rattle.vx_ast.specs.Reads.{Refusal}
use Rattle.vx_ast.specs.declared.fault.SourceFault.{SourceFault}
use Rattle.vx_flow.specs.declared.graph.Flow.{Flow}
use Rattle.vx_flow.specs.Meaning.{graph_path, graph_run}
use Rattle.vx_lower.specs.FlowOf.{FlowOf}
use Rattle.vx_rewrite.specs.Rewritten.{Rewritten}
use Rattle.vx_profile.specs.declared.counts.Counts.{Counts}
use Rattle.vx_profile.specs.Counts.{CountsOf}
use Rattle.vx_profile.specs.Text.{AreAscending, counts_text}
use Rattle.vx_status.specs.declared.status.Status.{Status}
use Rattle.vx_status.specs.declared.status.Status.TheVariants.{Done, Trapped, Usage, Source, Limit, Words, Profile, Machine, NoFile, ReadFault, WriteFault, Stopped, Input, Stuck, NoMemory, NotStrict}
use Rattle.vx_command.specs.Command.{Profiling}
use Rattle.vx_files.specs.Held.{HoldsProgram, Accepts, status_of, EmptyUnless, input_found}
use Rattle.vx_files.specs.Effects.{Effect, ReadsRose, SameFiles, SourceAnswers, InputAnswers}
use Rattle.vx_runs.specs.Simulated.{Streams, OutRose}
use Rattle.vx_unroll.specs.Unrolling.{UnrolledBy}

-- what is read for the counts: the program of the source, and the input
pub record CountsRead (held : Files) (asked : Profiling) (p : Program) (input : List ℤ) : Type 0 where
  pub program_is : HoldsProgram held asked.source p
  pub input_is : input_found held asked.input ≡ Ok input

-- graphs of a program, with diamonds converted as asked, run on an input for at most so many blocks, and the counts are those of the path of the run, each block and
-- each edge once, ascending
pub record RunOfGraphs (p : Program) (select : Option ℕ) (input : List ℤ) (blocks : ℕ) : Type 0 where
  pub flow : Flow
  pub flow_of : FlowOf p flow
  pub rewritten : Rewritten p None select flow
  pub counts : Counts
  pub counts_of : CountsOf counts (graph_path flow input blocks)
  pub ascending : AreAscending counts

-- such a run of the program that was read, with its loops unrolled as asked, on the input that was read
pub record CountedRun (asked : Profiling) (e : Effect) : Type 0 where
  pub program : Program
  pub input : List ℤ
  pub read : IfSome e.before (λ held. CountsRead held asked program input)
  pub unnamed : EmptyUnless asked.input input
  pub unrolled : Program
  pub turns : UnrolledBy asked.rewriting.unroll program unrolled
  pub run : RunOfGraphs unrolled asked.rewriting.select input asked.blocks

-- the text of the counts is put, whole
pub record PutsCounts (asked : Profiling) (e : Effect) (s : Streams) : Type 0 where
  pub counted : CountedRun asked e
  pub put : s.out_after ≡ with_bytes s.out_before (counts_text counted.run.counts)

-- the run is over within its bound, by a result or by a trap
abbrev pub IsEnded : (asked : Profiling) (e : Effect) → CountedRun asked e → Type 0
IsEnded asked e counted = IsOver (graph_run counted.run.flow counted.input asked.blocks)

-- a front of the text of the counts is put
pub record CountsCut (asked : Profiling) (e : Effect) (s : Streams) : Type 0 where
  pub counted : CountedRun asked e
  pub rose : OutRose s
  pub front : PutsFront s.out_before s.out_after (counts_text counted.run.counts)

-- the input of the command is looked at only where one is named and the source is accepted
pub record StopsAtCountsInput (asked : Profiling) (e : Effect) (status : Status) : Type 0 where
  pub named : is_some asked.input ≡ true
  pub accepted : IfSome e.before (λ held. Accepts held asked.source)
  pub answers : InputAnswers asked.input e status

-- a file that is missing or cannot be read is the source's, or the input's once the source is accepted
abbrev pub StopsCountsAt : Role → Profiling → Effect → Status → Type 0
StopsCountsAt TheSource asked e status = SourceAnswers asked.source e status
StopsCountsAt TheInput asked e status = StopsAtCountsInput asked e status
StopsCountsAt role asked e status = ⊥

-- the answers

abbrev pub CountsAnswers : Profiling → Effect → Streams → Status → Type 0
CountsAnswers asked e s Done = (x : PutsCounts asked e s) × IsEnded asked e x.counted × (s.err_after ≡ s.err_before)
CountsAnswers asked e s (Trapped trap) = ⊥
CountsAnswers asked e s Usage = ⊥
CountsAnswers asked e s (Source code line column) = StopsCountsAt TheSource asked e (Source code line column)
CountsAnswers asked e s (Limit number count) = StopsCountsAt TheSource asked e (Limit number count) ⊎ StopsCountsAt TheInput asked e (Limit number count)
CountsAnswers asked e s (Words code line) = ⊥
CountsAnswers asked e s (Profile code line) = ⊥
CountsAnswers asked e s (Machine code field) = ⊥
CountsAnswers asked e s (NoFile role) = StopsCountsAt role asked e (NoFile role)
CountsAnswers asked e s (ReadFault role) = StopsCountsAt role asked e (ReadFault role)
CountsAnswers asked e s WriteFault = CountsCut asked e s
CountsAnswers asked e s Stopped = (x : PutsCounts asked e s) × (IsEnded asked e x.counted → ⊥)
CountsAnswers asked e s (Input place) = StopsCountsAt TheInput asked e (Input place)
CountsAnswers asked e s (Stuck reason place) = ⊥
CountsAnswers asked e s (NotStrict breach place) = ⊥
CountsAnswers asked e s NoMemory = Unit {0}

-- no file ever changes
abbrev pub ProfilingAnswers : Profiling → Effect → Streams → Status → Type 0
ProfilingAnswers asked e s status = SameFiles e × CountsAnswers asked e s status

-- where nothing fails; want of memory is the one free answer
pub record CountsEnd (asked : Profiling) (held : Files) (status : Status) : Type 0 where
  -- the run is over, or it has had all its blocks
  pub accepted : (p : Program) (input : List ℤ) → CountsRead held asked p input → (status ≡ Done) ⊎ (status ≡ Stopped) ⊎ (status ≡ NoMemory)
  pub refused : (content : List ℕ) (fault : SourceFault) → held asked.source ≡ Some content → Refusal content fault → (status ≡ status_of fault) ⊎ (status ≡ NoMemory)
  pub missing : held asked.source ≡ None → (status ≡ NoFile TheSource) ⊎ (status ≡ NoMemory)
  pub no_input : (why : Status) → Accepts held asked.source → input_found held asked.input ≡ Err why → (status ≡ why) ⊎ (status ≡ NoMemory)

abbrev pub ProfilingCompletes : Profiling → Effect → Streams → Status → Type 0
ProfilingCompletes asked e s status = (ReadsRose e → ⊥) → (OutRose s → ⊥) → IfSome e.before (λ held. CountsEnd asked held status)
