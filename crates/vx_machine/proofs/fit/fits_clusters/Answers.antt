use Rattle.std.proofs.Common.{sym, ◌∙◌, arith}
use Rattle.vx_isa.proofs.FitsLaw.{all_below-fails}
use Rattle.vx_isa.specs.Fits.{fits_cluster}
use Rattle.vx_machine.proofs.fit.fits_clusters.Goals as goal

pub returns-then-not-fits_cluster : goal.returns-then-not-fits_cluster
returns-then-not-fits_cluster c = sym (all_below-fails (fits_cluster c.args.machine.now c.args.ops.now) c.args.machine.now.clusters c.loop-cluster.cluster (omega arith) (sym c.fits_cluster.ensures ∙ c.if-not-fits_cluster.true))
