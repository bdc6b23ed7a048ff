use Rattle.std.proofs.Common.{◌≡◌, ◌++◌, map, take}
use Rattle.vx_inline.specs.Splicing.{trap_block}
use Rattle.vx_inline.proofs.splice.push_traps.Given as goal

abbrev pub invariant-loop-kind : goal.invariant-loop-kind
invariant-loop-kind l = l.blocks ≡ l.initial.blocks ++ map trap_block (take l.kind-index l.kinds)
