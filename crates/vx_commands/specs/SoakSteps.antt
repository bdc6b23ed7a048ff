-- What the steps of `soak` hand on.
use Rattle.std.specs.Prelude.{◌≡◌, ℕ, List, [], length}
use Rattle.vx_ast.specs.Tree.{Program}
use Rattle.vx_isa.specs.Numbers.{vex}
use Rattle.vx_probe.specs.Times.{Times}
use Rattle.vx_profile.specs.Counts.{CountsOf}
use Rattle.vx_profile.specs.declared.counts.Counts.{Counts}
use Rattle.vx_report.specs.declared.plan.Plan.{Plan}
use Rattle.vx_sim.specs.Ran.{outcome_of}
use Rattle.vx_sim.specs.declared.ended.Ended.{Ended}
use Rattle.vx_runs.specs.declared.soak_run.ProgramSizes.{ProgramSizes}
use Rattle.vx_command.specs.Command.{Soaking}
use Rattle.vx_compiled.specs.Compiled.{Compiled}
use Rattle.vx_runs.specs.Simulated.{Loaded, with_input}
use Rattle.vx_commands.specs.Soaked.{Soaked, SoakRuns, soak_growth, soaked_words, summary_of}
use Rattle.vx_compiled.specs.Sized.{all_blocks}

-- how much there is of the words that are run
abbrev pub sizes_of : {asked : Soaking} → Soaked asked → ProgramSizes
sizes_of x = record {
  functions = length x.compiled.flow.functions;
  blocks = all_blocks x.compiled.flow.functions;
  traces = length x.plan.traces;
  words = length x.words.words;
  copies = x.plan.copies;
}

-- the words of a program on the empty input, and their sizes
pub record IsMadeFrom (p : Program) (x : Loaded) (sizes : ProgramSizes) : Type 0 where
  pub counts : Counts
  pub none : CountsOf counts []
  pub plan : Plan
  pub compiled : Compiled p counts (vex 1) soak_growth x.program plan
  pub words_are : x ≡ with_input x.program (vex 1) []
  pub sizes_are : sizes ≡ record {
    functions = length compiled.flow.functions;
    blocks = all_blocks compiled.flow.functions;
    traces = length plan.traces;
    words = length x.program.words;
    copies = plan.copies;
  }

-- words that are made for a seed and a size, on the empty input, and their sizes
pub record IsMade (asked : Soaking) (x : Loaded) (sizes : ProgramSizes) : Type 0 where
  pub soaked : Soaked asked
  pub words_are : x ≡ soaked_words soaked
  pub sizes_are : sizes ≡ sizes_of soaked

-- the run of words that are made ends so, and this is its line
pub record SoakRan (asked : Soaking) (times : Times) (ended : Ended) (line : List ℕ) : Type 0 where
  pub out : List ℕ
  pub run : SoakRuns asked (record { times = times; watches = [] }) (outcome_of ended out)
  pub line_is : line ≡ summary_of run.soaked out run.issued
