use Rattle.std.proofs.Common.{◌∙◌}
use Rattle.vx_flow.proofs.copies.copied_clustered.Goals as goal

pub returns : goal.returns
returns c = λ i. record { trace = c.in_ok-trace.ensures i; clusters = (c.in_ok-clusters.ensures ∙ c.as_slice.ensures) i }
