use Rattle.std.proofs.Common.{sym}
use Rattle.vx_layout.proofs.LayingSteps.{start_within, start_past}
use Rattle.vx_layout.proofs.words.start_of.Goals as goal

pub returns-then-index-starts : goal.returns-then-index-starts
returns-then-index-starts c = λ regions e. start_within regions c.args.starts.now c.args.region 0 e c.if-index-starts.true

pub returns-in-Some : goal.returns-in-Some
returns-in-Some c = λ regions e. start_past regions c.args.starts.now c.args.region c.in-Some.end.now e c.if-index-starts.false (sym c.in-Some.ensures.value)
