use Rattle.std.proofs.Common.{◌≡◌, ◌++◌, take}
use Rattle.std.specs.List.{flat_map}
use Rattle.vx_mixed.specs.Routes.{off_end}
use Rattle.vx_mixed.proofs.routes.push_off_ends.Given as goal

abbrev pub invariant-loop-item : goal.invariant-loop-item
invariant-loop-item l = l.to ≡ l.initial.to ++ flat_map off_end (take l.item-index l.word)
