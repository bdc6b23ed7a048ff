use Rattle.std.proofs.Common.{sym, ◌∙◌}
use Rattle.vx_claims.proofs.Fronts.{told_at}
use Rattle.vx_claims.proofs.access.past_told.Goals as goal

pub returns-then-same_access : goal.returns-then-same_access
returns-then-same_access c = told_at c.args.known.now c.loop-told.told-index _ c.args.access c.loop-told-test.true (sym c.same_access.ensures ∙ c.if-same_access.true)
