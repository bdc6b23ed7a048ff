use Rattle.std.proofs.Common.{◌≡◌, true, take}
use Rattle.std.specs.List.{list_all}
use Rattle.vx_raise.specs.Raising.{is_either, takes_in}
use Rattle.vx_raise.specs.Lifting.{known_at}
use Rattle.vx_raise.proofs.lift_test.all_take_in.Given as goal

abbrev pub invariant-loop-block : goal.invariant-loop-block
invariant-loop-block l = list_all (takes_in (known_at l.known.live l.known.noted) (is_either l.from.block l.from.other) l.value) (take l.block-index l.blocks) ≡ true
