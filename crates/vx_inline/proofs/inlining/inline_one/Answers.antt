use Rattle.std.proofs.lemmas.Result.{IfOk-weaker}
use Rattle.vx_inline.proofs.Programs.{inlined_stays}
use Rattle.vx_inline.proofs.inlining.inline_one.Goals as goal

pub returns-clause-stays : goal.returns-clause-stays
returns-clause-stays c = IfOk-weaker c.with_call.result _ _ (λ new i p accepted of. inlined_stays p c.args.flow new c.args.site accepted of i) c.with_call.ensures
