use Rattle.std.proofs.Common.{sym}
use Rattle.std.proofs.lemmas.Result.{IfOk-weaker}
use Rattle.vx_inline.specs.Finding.{seen}
use Rattle.vx_inline.proofs.Joints.{found_behind}
use Rattle.vx_inline.proofs.inlining.live_in.Goals as goal

pub returns-in-Some : goal.returns-in-Some
returns-in-Some c = IfOk-weaker c.live.result _ _ (λ live h. found_behind c.args.flow.now c.args.site.now (seen c.in-Some.found) live (sym c.in-Some.ensures) h) c.live.ensures.exact
