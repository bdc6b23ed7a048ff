use Rattle.std.proofs.lemmas.Result.{IfOk-weaker}
use Rattle.vx_inline.specs.Finding.{seen}
use Rattle.vx_inline.proofs.Candidates.{enough_by}
use Rattle.vx_inline.proofs.permission.has_enough.Goals as goal

pub returns : goal.returns
returns c = IfOk-weaker c.has_values.result _ _ (λ has e. enough_by c.in_ok-live.live (seen c.args.found.now) has c.in_ok-live.ensures.exact e) c.has_values.ensures
