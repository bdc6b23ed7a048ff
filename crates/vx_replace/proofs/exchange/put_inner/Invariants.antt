use Rattle.std.proofs.Common.{◌≡◌, length, drop}
use Rattle.vx_replace.specs.Exchanged.{with_inner}
use Rattle.vx_replace.proofs.exchange.put_inner.Given as goal

abbrev pub invariant-loop-block : goal.invariant-loop-block
invariant-loop-block l = (with_inner (drop l.block-index l.blocks) l.nodes ≡ with_inner l.blocks l.initial.nodes) × (length l.nodes ≡ length l.initial.nodes)
