use Rattle.std.proofs.Common.{◌∙◌, sym, ap}
use Rattle.std.proofs.lemmas.Result.{IfOk-weaker}
use Rattle.vx_inline.specs.Fitting.{calls_nothing}
use Rattle.vx_inline.proofs.KnownStays.{knows_all, knows_nothing}
use Rattle.vx_inline.proofs.known.live_behind.Goals as goal

pub returns-then-calls_nothing : goal.returns-then-calls_nothing
returns-then-calls_nothing c = knows_nothing c.args.graph.now _ (sym (c.calls_nothing.ensures ∙ ap calls_nothing c.as_slice.ensures) ∙ c.if-calls_nothing.true)

pub returns-else-calls_nothing : goal.returns-else-calls_nothing
returns-else-calls_nothing c = IfOk-weaker c.live.result _ _ (λ live h. knows_all c.args.graph.now live h) c.live.ensures.exact
