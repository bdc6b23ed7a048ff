use Rattle.std.proofs.Common.{sym, ◌∙◌}
use Rattle.vx_flow.proofs.ClosingSteps.{any_in, in_any}
use Rattle.vx_trace.proofs.Readings.{never}
use Rattle.vx_trace.proofs.blocks.is_header.Goals as goal

pub returns-clause-holds : goal.returns-clause-holds
returns-clause-holds c = λ h. any_in c.args.block c.args.mixed.now.headers (sym c.is_header.ensures ∙ h)

pub returns-clause-fails : goal.returns-clause-fails
returns-clause-fails c = λ h i. never _ _ c.is_header.ensures h (in_any c.args.block c.args.mixed.now.headers i)
