use Rattle.std.proofs.Common.{◌≡◌, ◌++◌, map}
use Rattle.std.specs.List.{AllByRecursion, filter, flat_map}
use Rattle.vx_profile.specs.Text.{Fits, block_row, is_passed, row_text}
use Rattle.vx_profile.proofs.count_writer.push_blocks.Given as goal

abbrev pub invariant-loop-block : goal.invariant-loop-block
invariant-loop-block l = record {
  text : l.out.items ++ flat_map row_text (filter is_passed (map block_row l.block-iterator)) ≡ l.fn.out.items ++ flat_map row_text (filter is_passed (map block_row l.blocks.entries));
  fit : AllByRecursion Fits (filter is_passed (map block_row l.block-iterator)) → AllByRecursion Fits (filter is_passed (map block_row l.blocks.entries));
}
