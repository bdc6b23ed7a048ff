use Rattle.std.proofs.lemmas.Result.{IfOk-weaker}
use Rattle.vx_trace.proofs.Grows.{picked}
use Rattle.vx_trace.proofs.picked_trace.grown_from.Goals as goal

pub returns : goal.returns
returns c =
    IfOk-weaker c.backward.result _ _
    (λ blocks back. picked c.args.mixed.now c.args.counts.now c.args.seed c.in_ok-grown.grown.blocks.items blocks.items c.requires c.in_ok-grown.ensures.grown back)
    c.backward.ensures
