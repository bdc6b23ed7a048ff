use Rattle.std.proofs.Common.{◌≡◌, ◌++◌, map, take}
use Rattle.vx_lower.specs.Finished.{trap_block}
use Rattle.vx_lower.proofs.trap_blocks.add_traps.Given as goal

abbrev pub invariant-loop-kind : goal.invariant-loop-kind
invariant-loop-kind l = l.blocks.items ≡ l.fn.blocks.items ++ map trap_block (take l.kind-index l.fn.kinds)
