use Rattle.std.proofs.Common.{◌≡◌, ◌++◌, take, map, Some}
use Rattle.vx_replace.proofs.trace.push_clusters.Given as goal

abbrev pub invariant-loop-cluster : goal.invariant-loop-cluster
invariant-loop-cluster l = l.fixed ≡ l.initial.fixed ++ map Some (take l.cluster-index l.origin.clusters)
