use Rattle.std.proofs.Common.{◌≡◌, map, take}
use Rattle.vx_ast.specs.View.{item_of}
use Rattle.vx_unroll.proofs.parts.copied_items.Given as goal

abbrev pub invariant-loop-item : goal.invariant-loop-item
invariant-loop-item l = map item_of l.copy.items ≡ map item_of (take l.item-index l.fn.items)
