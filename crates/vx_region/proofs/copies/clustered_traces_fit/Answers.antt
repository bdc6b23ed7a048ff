use Rattle.vx_region.proofs.Fields.{clustered_fits, assigned_fits}
use Rattle.vx_region.proofs.copies.clustered_traces_fit.Goals as goal

pub returns : goal.returns
returns c = record { fits = clustered_fits; assigned = assigned_fits }
