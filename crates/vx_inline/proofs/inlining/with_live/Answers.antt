use Rattle.std.proofs.lemmas.Result.{IfOk-weaker}
use Rattle.vx_inline.proofs.Joints.{is_inlined}
use Rattle.vx_inline.proofs.inlining.with_live.Goals as goal

pub returns : goal.returns
returns c =
    record { inlined = IfOk-weaker c.with_joint_at.result _ _ (λ new h. is_inlined c.args.flow new c.args.site c.in_ok-joint.joint c.requires.permitted c.in_ok-joint.ensures h) c.with_joint_at.ensures }
