use Rattle.std.proofs.Common.{◌≡◌, length, drop}
use Rattle.vx_replace.specs.Exchanged.{with_rejoins}
use Rattle.vx_replace.proofs.exchange.put_rejoins.Given as goal

abbrev pub invariant-loop-index : goal.invariant-loop-index
invariant-loop-index l = (with_rejoins l.region (drop l.index l.joins) (drop l.index l.rejoins) l.nodes ≡ with_rejoins l.region l.joins l.rejoins l.initial.nodes) × (length l.nodes ≡ length l.initial.nodes)
