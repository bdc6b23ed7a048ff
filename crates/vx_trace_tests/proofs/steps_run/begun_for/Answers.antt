use Rattle.vx_trace_tests.proofs.steps_run.begun_for.Goals as goal

pub returns : goal.returns
returns c = c.graphs_begin_so.ensures c.args.machine.now c.args.graph.now c.in_ok-mixed.mixed c.in_ok-mixed.mixed.function c.keeps_ranges.ensures c.requires.sound c.in_ok-mixed.ensures
