use Rattle.std.proofs.Common.{drop}
use Rattle.vx_inline.specs.Keeping.{LiveFor}
use Rattle.vx_inline.proofs.known.live_of.Given as goal

abbrev pub invariant-loop-place : goal.invariant-loop-place
invariant-loop-place l = LiveFor l.functions l.lives.items (drop l.place l.functions)
