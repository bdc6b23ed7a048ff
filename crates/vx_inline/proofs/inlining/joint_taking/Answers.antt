use Rattle.std.proofs.Common.{◌∙◌, refl, ap, subst}
use Rattle.std.proofs.lemmas.Result.{IfOk-weaker}
use Rattle.vx_inline.specs.Finding.{seen}
use Rattle.vx_inline.specs.Inlined.{taken}
use Rattle.vx_inline.specs.Taking.{Tells, value_at}
use Rattle.vx_inline.specs.Values.{of_bank}
use Rattle.vx_inline.proofs.Joints.{joint_same}
use Rattle.vx_inline.proofs.Tables.{named_rises, value_told}
use Rattle.vx_inline.proofs.inlining.joint_taking.Goals as goal

pub takes-requires : goal.takes-requires
takes-requires c = named_rises (seen c.args.found.now).callee c.args.names.now c.requires.names

pub returns : goal.returns
returns c =
    let call = seen c.args.found.now in
    let free = c.args.free.now in
    let to = c.in_ok-to.to.items in
    let tells : Tells call.callee.banks c.args.names.now free to = subst (λ bs. Tells bs c.args.names.now free to) c.as_slice.ensures c.in_ok-to.ensures in
    IfOk-weaker c.joint_of.result _ _ (λ joint j. joint_same call (value_at c.as_slice-2.result.now) (taken call.callee (of_bank free)) joint
    (λ v. ap (λ l. value_at l v) c.as_slice-2.ensures.value ∙ value_told call.callee c.args.names.now free (of_bank free) to c.requires.names (λ bank. refl) tells v) j) c.joint_of.ensures
