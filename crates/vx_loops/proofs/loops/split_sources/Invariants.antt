use Rattle.vx_flow.specs.Rows.{row_at}
use Rattle.vx_loops.specs.Path.{EachFrom}
use Rattle.vx_loops.proofs.loops.split_sources.Given as goal

abbrev pub invariant-loop-source : goal.invariant-loop-source
invariant-loop-source l = EachFrom (row_at l.loops.sources.items l.block) l.sources.before.items
