use Rattle.std.proofs.Common.{◌≡◌, take, true}
use Rattle.std.specs.List.{list_all}
use Rattle.vx_fold.specs.Thinning.{reads_read, unread_of}
use Rattle.vx_fold.proofs.reads.ops_read_needed.Given as goal

abbrev pub invariant-loop-op : goal.invariant-loop-op
invariant-loop-op l = list_all (reads_read (unread_of l.needed)) (take l.op-index l.ops) ≡ true
