use Rattle.vx_region.proofs.FromValid.{assigned_trace_fits}
use Rattle.vx_region.proofs.copies.assigned_traces_fit.Goals as goal

pub returns : goal.returns
returns c = assigned_trace_fits
