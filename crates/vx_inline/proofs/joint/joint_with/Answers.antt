use Rattle.std.proofs.Common.{◌≡◌, ◌∙◌, ◌++◌, ap, map}
use Rattle.std.specs.List.{filter}
use Rattle.vx_inline.specs.Finding.{seen}
use Rattle.vx_inline.specs.Inlined.{all_kinds, copied, is_plain, kinds_of, placed}
use Rattle.vx_inline.specs.Placing.{place_in}
use Rattle.vx_inline.specs.Splicing.{trap_block}
use Rattle.vx_inline.specs.Taking.{value_at}
use Rattle.vx_inline.proofs.Joints.{is_joint}
use Rattle.vx_inline.proofs.joint.joint_with.Goals as goal

pub returns : goal.returns
returns c =
    let call = seen c.args.found.now in
    let to = value_at c.args.to.now in
    let all = c.args.all in
    let kinds = c.in_ok-kinds.kinds in
    let at = c.in_ok-at.at in
    let copy = c.in_ok-copy.copy in
    let caller = c.as_slice-caller.ensures in
    let callee = c.as_slice-callee.ensures in
    let told : kinds ≡ all_kinds call = c.in_ok-kinds.ensures ∙ ap (λ bs. kinds_of (bs ++ c.as_slice-callee.result.now)) caller ∙ ap (λ bs. kinds_of (call.caller.blocks ++ bs)) callee in
    is_joint call to at copy kinds c.in_ok-moves.moves c.in_ok-more.more c.place_of-first.result all c.args.callers c.requires.callers c.requires.all told
    (λ b. c.in_ok-at.ensures b ∙ ap (λ ks. placed 0 all ks c.as_slice-caller.result.now b) c.as_slice.ensures ∙ ap (λ bs. placed 0 all kinds bs b) caller)
    (λ b. c.in_ok-copy.ensures b ∙ ap (λ ks. placed c.args.callers all ks c.as_slice-callee.result.now b) c.as_slice-2.ensures ∙ ap (λ bs. placed c.args.callers all kinds bs b) callee)
    c.in_ok-moves.ensures c.place_of-first.ensures
    (c.in_ok-more.ensures ∙ ap (λ ks. filter is_plain (map (copied (place_in copy) to call.result (place_in at call.next)) call.callee.blocks) ++ map trap_block ks) c.as_slice-3.ensures)
