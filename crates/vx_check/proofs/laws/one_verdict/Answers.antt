use Rattle.vx_check.proofs.Verdicts.{one_verdict}
use Rattle.vx_check.proofs.laws.one_verdict.Goals as goal

pub returns : goal.returns
returns c = one_verdict
