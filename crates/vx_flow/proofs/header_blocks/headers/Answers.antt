use Rattle.std.proofs.Common.{◌≡◌, ◌∙◌, length}
use Rattle.std.proofs.lemmas.Result.{IfOk-weaker}
use Rattle.vx_flow.proofs.HeaderSteps.{headers_by}
use Rattle.vx_flow.proofs.header_blocks.headers.Goals as goal

pub returns : goal.returns
returns c =
    let k : length c.in_ok-targets.targets.items ≡ length c.args.graph.now.blocks = c.in_ok-targets.ensures.len ∙ c.len.ensures.len in
    IfOk-weaker c.marked_blocks.result _ _ (λ found is.
    headers_by c.args.graph.now c.in_ok-back.back.items c.as_slice.result.now c.mark_targets.new.targets.items c.as_slice-2.result.now found.items (length c.in_ok-targets.targets.items) c.len-2.result
    c.in_ok-back.ensures c.as_slice.ensures.value k c.mark_targets.ensures c.as_slice-2.ensures.value c.len-2.ensures.len is) c.marked_blocks.ensures

pub mark_targets-requires : goal.mark_targets-requires
mark_targets-requires c = c.in_ok-targets.ensures.none
