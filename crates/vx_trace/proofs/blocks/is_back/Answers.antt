use Rattle.std.proofs.Common.{sym, ◌∙◌}
use Rattle.vx_trace.proofs.Readings.{back_in, in_back, never}
use Rattle.vx_trace.proofs.blocks.is_back.Goals as goal

pub returns-clause-holds : goal.returns-clause-holds
returns-clause-holds c = λ h. back_in c.args.edge c.args.mixed.now.back (sym c.is_back.ensures ∙ h)

pub returns-clause-fails : goal.returns-clause-fails
returns-clause-fails c = λ h i. never _ _ c.is_back.ensures h (in_back c.args.edge c.args.mixed.now.back i)
