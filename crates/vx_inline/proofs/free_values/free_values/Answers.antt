use Rattle.std.proofs.lemmas.Result.{IfOk-weaker}
use Rattle.vx_inline.specs.Finding.{seen}
use Rattle.vx_inline.proofs.Named.{free_by}
use Rattle.vx_inline.proofs.free_values.free_values.Goals as goal

pub returns : goal.returns
returns c =
    IfOk-weaker c.first_unmarked.result _ _
    (λ values h. free_by c.args.live.now (seen c.args.found.now) c.in_ok-kept.kept c.as_slice.result.now c.in_ok-marks.marks.items c.as_slice-3.result.now c.as_slice-2.result.now c.len.result c.args.others.now values c.in_ok-kept.ensures c.as_slice.ensures c.len.ensures.len c.in_ok-marks.ensures c.as_slice-2.ensures c.as_slice-3.ensures.value h)
    c.first_unmarked.ensures
