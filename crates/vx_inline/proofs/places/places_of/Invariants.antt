use Rattle.std.proofs.Common.{◌≡◌, ◌++◌, drop}
use Rattle.vx_inline.specs.Placing.{places_from, place_behind}
use Rattle.vx_inline.proofs.places.places_of.Given as goal

abbrev pub invariant-loop-block : goal.invariant-loop-block
invariant-loop-block l = record { told : l.places.items ++ places_from l.next l.traps l.kinds (drop l.block-index l.blocks) ≡ places_from l.first l.traps l.kinds l.blocks; beyond : place_behind l.next (drop l.block-index l.blocks) ≡ place_behind l.first l.blocks }
