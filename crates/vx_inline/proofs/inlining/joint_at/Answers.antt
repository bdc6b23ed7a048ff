use Rattle.std.proofs.Common.{sym}
use Rattle.std.proofs.lemmas.Result.{IfOk-weaker}
use Rattle.vx_inline.specs.Finding.{seen}
use Rattle.vx_inline.proofs.Joints.{behind_found, joint_found}
use Rattle.vx_inline.proofs.KnownStays.{call_bare}
use Rattle.vx_inline.proofs.inlining.joint_at.Goals as goal

pub joint_for-requires-clause-bare : goal.joint_for-requires-clause-bare
joint_for-requires-clause-bare c = call_bare c.args.flow.now c.args.site.now (seen c.in-Some.found) c.args.bare (sym c.in-Some.ensures) c.requires.bare

pub joint_for-requires-clause-behind : goal.joint_for-requires-clause-behind
joint_for-requires-clause-behind c = behind_found c.args.flow.now c.args.site.now (seen c.in-Some.found) c.args.live.now c.requires.live (sym c.in-Some.ensures)

pub returns-in-Some : goal.returns-in-Some
returns-in-Some c = IfOk-weaker c.joint_for.result _ _ (λ joint j. joint_found c.args.flow.now c.args.site.now (seen c.in-Some.found) joint (sym c.in-Some.ensures) j) c.joint_for.ensures
