use Rattle.std.proofs.Common.{sym}
use Rattle.std.proofs.lemmas.Result.{IfOk-weaker}
use Rattle.vx_inline.specs.Finding.{seen}
use Rattle.vx_inline.proofs.Candidates.{permitted_by}
use Rattle.vx_inline.proofs.permission.permitted.Goals as goal

pub returns-in-Some : goal.returns-in-Some
returns-in-Some c = record {
  exact = IfOk-weaker c.may_inline.result _ _ (λ may h. permitted_by c.args.flow.now c.args.site.now (seen c.in-Some.found) may (sym c.in-Some.ensures) h) c.may_inline.ensures;
}
