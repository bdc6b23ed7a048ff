use Rattle.std.proofs.Common.{◌≡◌, ◌++◌, take}
use Rattle.std.specs.List.{flat_map}
use Rattle.vx_mixed.specs.Routes.{reading_item}
use Rattle.vx_mixed.proofs.touches.push_all_reads.Given as goal

abbrev pub invariant-loop-item : goal.invariant-loop-item
invariant-loop-item l = l.touches ≡ l.initial.touches ++ flat_map reading_item (take l.item-index l.word)
