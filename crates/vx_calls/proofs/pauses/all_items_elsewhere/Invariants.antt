-- all items so far are
use Rattle.std.proofs.Common.{◌≡◌, true, take}
use Rattle.std.specs.List.{list_all}
use Rattle.vx_slots.specs.Seen.{seen}
use Rattle.vx_target.specs.Target.{item_elsewhere}
use Rattle.vx_calls.proofs.pauses.all_items_elsewhere.Given as goal

abbrev pub invariant-loop-item : goal.invariant-loop-item
invariant-loop-item l = list_all (item_elsewhere (seen l.fn.whole) l.fn.function l.fn.register) (take l.item-index l.items) ≡ true
