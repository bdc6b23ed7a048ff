use Rattle.std.proofs.Common.{◌≤◌, ◌-◌, ◌∙◌, drop, length, take, subst, sym, arith}
use Rattle.std.proofs.lemmas.Result.{IfOk-weaker}
use Rattle.vx_replace.specs.TraceLists.{Entering}
use Rattle.vx_replace.proofs.TraceSteps.{joins_at_first}
use Rattle.vx_replace.proofs.joins.joins_of.Goals as goal

pub returns-in_ok-place-in-len1-up : goal.returns-in_ok-place-in-len1-up
returns-in_ok-place-in-len1-up c =
    let many = c.in-len1-up.len_at_least in
    let some : 1 ≤ length c.args.blocks.now = omega arith in
    let rows = subst (Entering c.args.edges.now (take (length c.args.blocks.now - 1) (drop 1 c.args.blocks.now))) (sym c.as_slice.ensures) c.in_ok-entering-in-len1-up.ensures in
    IfOk-weaker c.joins_behind.result _ _ (λ joins are live. are live c.args.edges.now rows ∙ joins_at_first c.args.graph.now live c.args.edges.now c.args.blocks.now c.in_ok-place-in-len1-up.place some (c.in_ok-place-in-len1-up.ensures live))
    c.joins_behind.ensures
