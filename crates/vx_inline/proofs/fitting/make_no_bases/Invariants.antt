use Rattle.std.proofs.Common.{◌≡◌, true, take}
use Rattle.std.specs.List.{list_all}
use Rattle.vx_flow.specs.declared.graph.Block.{Block}
use Rattle.vx_inline.specs.Fitting.{makes_no_base}
use Rattle.vx_inline.proofs.fitting.make_no_bases.Given as goal

abbrev pub invariant-loop-block : goal.invariant-loop-block
invariant-loop-block l = list_all (λ (block : Block). makes_no_base block.ops) (take l.block-index l.blocks) ≡ true
