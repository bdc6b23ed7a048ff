use Rattle.std.proofs.Common.{◌≡◌, ◌-◌}
use Rattle.vx_flow.specs.Meaning.{graph_path, graph_run, program_of, program_run}
use Rattle.vx_tally.specs.Machine.{active_of}
use Rattle.vx_tally.proofs.Paths.{Counted}
use Rattle.vx_tally.proofs.plain.run_counted.Given as goal

abbrev pub invariant-each : goal.invariant-each
invariant-each l = record {
  outcome : graph_run l.flow l.input l.blocks ≡ program_run (program_of l.flow) (l.blocks - l.counter) (active_of l.machine);
  tally : Counted (program_of l.flow) (graph_path l.flow l.input l.blocks) l.tally (l.blocks - l.counter) (active_of l.machine);
}
