-- What the words of the commands ask for, as the code holds it.
use Rattle.std.specs.Prelude.{option_map}
use Rattle.vx_command.specs.Command.{Checking, Command, Compilation, Execution, Makes, Profiling, Rewriting, Simulation, Soaking}
use Rattle.vx_command.specs.declared.check_words.CheckWords.{CheckWords}
use Rattle.vx_command.specs.declared.command.CompileWords.{CompileWords}
use Rattle.vx_command.specs.declared.profile_words.ProfileWords.{ProfileWords}
use Rattle.vx_command.specs.declared.rewriting.Rewriting.{Rewriting as RewritingWords}
use Rattle.vx_command.specs.declared.run_words.ExecWords.{ExecWords}
use Rattle.vx_command.specs.declared.run_words.RunWords.{RunWords}
use Rattle.vx_command.specs.declared.soak_request.SoakWords.{SoakWords}

abbrev pub rewriting_asked : RewritingWords → Rewriting
rewriting_asked asked = record { unroll = asked.unroll; inline = asked.inline; select = asked.select }

abbrev pub compilation_of : CompileWords → Compilation
compilation_of asked = record {
  source = asked.source.now;
  out = asked.out.now;
  profile = option_map (λ s. s.now) asked.profile;
  machine = option_map (λ s. s.now) asked.machine;
  growth = asked.growth;
  rewriting = rewriting_asked asked.rewriting;
  report = option_map (λ s. s.now) asked.report;
}

abbrev pub simulation_of : RunWords → Simulation
simulation_of asked = record {
  words = asked.file.now;
  machine = option_map (λ s. s.now) asked.machine;
  input = option_map (λ s. s.now) asked.input;
  budget = asked.budget;
  timing = asked.timing.now;
  probe = option_map (λ s. s.now) asked.probe;
}

abbrev pub execution_of : ExecWords → Execution
execution_of asked = record {
  source = asked.run.file.now;
  growth = asked.growth;
  rewriting = rewriting_asked asked.rewriting;
  profile = option_map (λ s. s.now) asked.profile;
  machine = option_map (λ s. s.now) asked.run.machine;
  input = option_map (λ s. s.now) asked.run.input;
  budget = asked.run.budget;
  timing = asked.run.timing.now;
  probe = option_map (λ s. s.now) asked.run.probe;
}

abbrev pub profiling_of : ProfileWords → Profiling
profiling_of asked = record { source = asked.source.now; input = option_map (λ s. s.now) asked.input; blocks = asked.blocks; rewriting = rewriting_asked asked.rewriting }

abbrev pub soaking_of : SoakWords → Soaking
soaking_of asked = record { seed = asked.seed; size = asked.size }

abbrev pub checking_of : CheckWords → Checking
checking_of asked = record { words = asked.file.now; machine = option_map (λ s. s.now) asked.machine }

abbrev pub asks : Makes → RunWords → Command
asks makes asked = makes asked.file.now (option_map (λ s. s.now) asked.machine) (option_map (λ s. s.now) asked.input) asked.budget asked.timing.now (option_map (λ s. s.now) asked.probe)
