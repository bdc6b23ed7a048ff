use Rattle.std.proofs.Common.{◌<◌, length}
use Rattle.vx_clean.proofs.layout.chain.Given as goal

abbrev pub invariant-loop-turn : goal.invariant-loop-turn
invariant-loop-turn l = 0 < l._turn → 0 < length l.chain
