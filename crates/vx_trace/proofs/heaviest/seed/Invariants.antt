-- the best of the unused blocks so far
use Rattle.std.proofs.Common.{◌≡◌, ◌<◌, length}
use Rattle.vx_trace.specs.Growing.{BestOf}
use Rattle.vx_trace.specs.Picked.{IsUnused, count_of_block}
use Rattle.vx_trace.proofs.heaviest.seed.Given as goal

abbrev pub invariant-loop-block : goal.invariant-loop-block
invariant-loop-block l = BestOf (λ b. (b < l.block) × IsUnused l.mixed b) (count_of_block l.mixed l.counts) (λ b. b) l.best × (l.block-end ≡ length l.mixed.nodes)
