use Rattle.std.proofs.Common.{◌≡◌, false, take}
use Rattle.std.specs.List.{list_any}
use Rattle.vx_flow.specs.Sound.{makes_base}
use Rattle.vx_sound.proofs.arguments.blocks_make.Given as goal

abbrev pub invariant-loop-block : goal.invariant-loop-block
invariant-loop-block l = list_any (λ b. list_any (makes_base l.value) b.ops) (take l.block-index l.blocks) ≡ false
