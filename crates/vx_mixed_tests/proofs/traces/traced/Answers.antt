use Rattle.vx_motion.proofs.Traced.{if_traces}
use Rattle.vx_mixed_tests.proofs.traces.traced.Goals as goal

pub trace-requires : goal.trace-requires
trace-requires c = if_traces c.args.graph.now c.requires.blocks c.in_ok-mixed.mixed c.in_ok-mixed.ensures
