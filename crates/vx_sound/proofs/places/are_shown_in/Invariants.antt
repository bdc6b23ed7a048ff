use Rattle.std.proofs.Common.{◌≡◌, true, take}
use Rattle.std.specs.List.{list_all}
use Rattle.vx_sound.specs.Origins.{is_shown_in}
use Rattle.vx_sound.proofs.places.are_shown_in.Given as goal

abbrev pub invariant-loop-op : goal.invariant-loop-op
invariant-loop-op l = list_all (is_shown_in l.origins l.graph) (take l.op-index l.ops) ≡ true
