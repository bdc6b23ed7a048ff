use Rattle.std.proofs.lemmas.Result.{IfOk-weaker}
use Rattle.vx_inline.specs.Finding.{seen}
use Rattle.vx_inline.proofs.Joints.{any_free}
use Rattle.vx_inline.proofs.inlining.joint_for.Goals as goal

pub returns : goal.returns
returns c = IfOk-weaker c.joint_taking.result _ _ (λ joint j. any_free c.args.live.now (seen c.args.found.now) c.in_ok-named.named c.in_ok-free.free joint c.requires.behind c.in_ok-named.ensures c.in_ok-free.ensures j) c.joint_taking.ensures
