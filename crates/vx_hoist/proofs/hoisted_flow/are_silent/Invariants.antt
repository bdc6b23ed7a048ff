use Rattle.std.proofs.Common.{◌≡◌, true, take}
use Rattle.std.specs.List.{list_all}
use Rattle.vx_fold.specs.Thinning.{unread_of}
use Rattle.vx_hoist.specs.Growing.{is_silent}
use Rattle.vx_hoist.proofs.hoisted_flow.are_silent.Given as goal

abbrev pub invariant-loop-op : goal.invariant-loop-op
invariant-loop-op l = list_all (is_silent (unread_of l.named)) (take l.op-index l.ops) ≡ true
