use Rattle.std.proofs.Common.{◌≡◌, ◌≤◌, ◌+◌, drop}
use Rattle.vx_inline.specs.Inlined.{entries}
use Rattle.vx_inline.proofs.edge_blocks.entries.Given as goal

abbrev pub invariant-loop-block : goal.invariant-loop-block
invariant-loop-block l = record { counted : l.count + entries (drop l.block-index l.blocks) l.to ≡ entries l.blocks l.to; few : l.count ≤ l.block-index }
