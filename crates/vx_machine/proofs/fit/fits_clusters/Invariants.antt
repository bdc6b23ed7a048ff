use Rattle.std.proofs.Common.{◌≡◌, true}
use Rattle.vx_isa.specs.Fits.{all_below, fits_cluster}
use Rattle.vx_machine.proofs.fit.fits_clusters.Given as goal

abbrev pub invariant-loop-cluster : goal.invariant-loop-cluster
invariant-loop-cluster l = all_below l.cluster (fits_cluster l.machine l.ops) ≡ true
