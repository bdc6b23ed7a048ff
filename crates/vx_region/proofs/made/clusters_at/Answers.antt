use Rattle.std.proofs.Common.{ap}
use Rattle.std.proofs.lemmas.List.{nil_from_length}
use Rattle.vx_region.specs.Planned.{clusters_at}
use Rattle.vx_region.proofs.Fronts.{no_more, piece_more}
use Rattle.vx_region.proofs.made.clusters_at.Goals as goal

pub returns-in-None : goal.returns-in-None
returns-in-None c = no_more c.copy.clusters _ _ (ap (clusters_at c.args.placed.now.clustered) (nil_from_length c.copy.rest.now c.in-None.ensures.cases)) c.copy.invariant

pub copy-preserved : goal.copy-preserved
copy-preserved c =
    piece_more c.copy.clusters c.push_cluster.new.clusters _ (clusters_at c.args.placed.now.clustered c.in-Some.others.now) _ _ c.in_ok-push_cluster-in-Some.ensures (ap (clusters_at c.args.placed.now.clustered) c.in-Some.ensures.cases.0) c.copy.invariant
