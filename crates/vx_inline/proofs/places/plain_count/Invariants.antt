use Rattle.std.proofs.Common.{◌≡◌, ◌+◌, length, drop}
use Rattle.std.specs.List.{filter}
use Rattle.vx_inline.specs.Inlined.{is_plain}
use Rattle.vx_inline.proofs.places.plain_count.Given as goal

abbrev pub invariant-loop-block : goal.invariant-loop-block
invariant-loop-block l = l.count + length (filter is_plain (drop l.block-index l.blocks)) ≡ length (filter is_plain l.blocks)
