-- The number of turns is one that may be asked.
use Rattle.vx_runs.proofs.rewritten.rewritten.Goals as goal

pub unrolled_by-requires : goal.unrolled_by-requires
unrolled_by-requires c = record { turns = c.args.asked.turns }
