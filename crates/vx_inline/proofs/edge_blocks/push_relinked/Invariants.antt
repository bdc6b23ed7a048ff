use Rattle.std.proofs.Common.{◌≡◌, ◌++◌, drop}
use Rattle.vx_inline.specs.Inlined.{relinked}
use Rattle.vx_inline.proofs.edge_blocks.push_relinked.Given as goal

abbrev pub invariant-loop-from : goal.invariant-loop-from
invariant-loop-from l = l.new ++ relinked l.place l.edges l.from (drop l.from l.blocks) ≡ l.initial.new ++ relinked l.place l.edges 0 l.blocks
