use Rattle.std.proofs.Common.{◌<◌, List, Some, get_or, length, ap, subst}
use Rattle.std.specs.Prelude.{ℕ}
use Rattle.vx_replace.proofs.Pushed.{mapped_behind}
use Rattle.vx_replace.proofs.trace.push_clusters.Goals as goal

pub loop-cluster-preserved : goal.loop-cluster-preserved
loop-cluster-preserved c =
    let i = c.loop-cluster.cluster-index in
    mapped_behind Some _ c.args.origin.now.clusters i 0 _ _ _ (subst (λ (l : List ℕ). i < length l) c.as_slice-cluster-items.ensures c.loop-cluster-test.true) c.loop-cluster.invariant c.in_ok-push.ensures.ok (ap (λ (l : List ℕ). Some (get_or l i 0)) c.as_slice-cluster-items.ensures)
