use Rattle.std.proofs.Common.{◌≡◌, true, nat_lt, take}
use Rattle.std.specs.List.{list_all}
use Rattle.vx_isa.specs.Operations.{cluster_of}
use Rattle.vx_machine.proofs.fit.has_clusters.Given as goal

abbrev pub invariant-loop-op : goal.invariant-loop-op
invariant-loop-op l = list_all (λ op. nat_lt (cluster_of op) l.machine.clusters) (take l.op-index l.ops) ≡ true
