use Rattle.std.proofs.Common.{◌<◌, ◌+◌, ◌∷◌, ◌++◌, ◌∙◌, [], List, drop, get_or, length, sym, ap, subst, append_assoc}
use Rattle.vx_mixed.specs.declared.region.Node.{Node}
use Rattle.vx_mixed.specs.Next.{nodes_from, trace_node}
use Rattle.vx_mixed.proofs.RouteSteps.{left_at}
use Rattle.vx_replace.proofs.nodes.push_old_nodes.Goals as goal

pub loop-index-preserved : goal.loop-index-preserved
loop-index-preserved c =
    let m = c.args.graph.now in
    let r = c.args.replacement.now in
    let i = c.loop-index.index in
    let node = c.index-old-index.result in
    let nodes = c.loop-index.nodes in
    let later = nodes_from m r (i + 1) (drop (i + 1) m.nodes) in
    let low = subst (λ (l : List Node). i < length l) c.as_slice-old.ensures c.loop-index-test.true in
    let is = c.index-old-index.is ∙ ap (λ l. get_or l i node) c.as_slice-old.ensures in
    ap (λ l. l ++ later) (c.in_ok-push.ensures.ok ∙ ap (λ y. nodes ++ y ∷ []) c.in_ok-after.ensures)
    ∙ append_assoc nodes (trace_node m r r.trace.blocks i node ∷ []) later
    ∙ ap (λ l. nodes ++ nodes_from m r i l) (sym (left_at m.nodes i node low is))
    ∙ c.loop-index.invariant
