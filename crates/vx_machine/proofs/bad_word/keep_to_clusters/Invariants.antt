use Rattle.std.proofs.Common.{◌≡◌, true, take}
use Rattle.std.specs.List.{list_all}
use Rattle.vx_isa.specs.Fits.{keeps_to_cluster}
use Rattle.vx_machine.proofs.bad_word.keep_to_clusters.Given as goal

abbrev pub invariant-loop-op : goal.invariant-loop-op
invariant-loop-op l = list_all keeps_to_cluster (take l.op-index l.ops) ≡ true
