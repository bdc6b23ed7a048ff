use Rattle.std.proofs.Common.{◌≡◌, ◌++◌, length}
use Rattle.vx_inline.proofs.caller_blocks.push_all.Given as goal

abbrev pub invariant-loop-block : goal.invariant-loop-block
invariant-loop-block l = record {
  made : l.blocks ≡ l.initial.blocks ++ l.yielded;
  rest : l.yielded ++ l.block-iterator.rest.items ≡ l.fn.more;
  size : length l.block-iterator.rest.items ≡ l.block-iterator.rest.len;
}
