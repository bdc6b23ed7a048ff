use Rattle.std.proofs.Common.{◌≡◌, true, take}
use Rattle.std.specs.List.{list_all}
use Rattle.vx_flow.specs.Effects.{reads}
use Rattle.vx_fold.specs.Thinning.{are_read, unread_of}
use Rattle.vx_hoist.proofs.hoisted_flow.ops_read_named.Given as goal

abbrev pub invariant-loop-op : goal.invariant-loop-op
invariant-loop-op l = list_all (λ op. are_read (unread_of l.named) (reads op)) (take l.op-index l.ops) ≡ true
