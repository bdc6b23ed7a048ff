use Rattle.std.proofs.Common.{◌≡◌, ◌++◌, drop, map}
use Rattle.std.specs.List.{filter}
use Rattle.vx_inline.specs.Inlined.{is_plain}
use Rattle.vx_inline.specs.Splicing.{copied_by}
use Rattle.vx_inline.proofs.splice.push_copied.Given as goal

abbrev pub invariant-loop-block : goal.invariant-loop-block
invariant-loop-block l = l.blocks ++ filter is_plain (map (copied_by l.splice) (drop l.block-index l.splice.call.now.callee.now.blocks)) ≡ l.initial.blocks ++ filter is_plain (map (copied_by l.splice) l.splice.call.now.callee.now.blocks)
