use Rattle.std.proofs.Common.{◌≡◌, ◌+◌, ◌∷◌, ◌++◌, ◌∙◌, [], drop, sym, ap, append_assoc, arith}
use Rattle.vx_flow.specs.Walk.{edge}
use Rattle.vx_mixed.specs.MovedEdges.{made_edges}
use Rattle.vx_mixed.proofs.RouteSteps.{left_at}
use Rattle.vx_replace.proofs.edges.push_made_edges.Goals as goal

pub loop-index-preserved : goal.loop-index-preserved
loop-index-preserved c =
    let first = c.args.first in
    let i = c.loop-index.index in
    let x = c.index-made-index.result in
    let edges = c.loop-index.edges.items in
    let later = drop (i + 1) c.args.made.now in
    let next : (first + i) + 1 ≡ first + (i + 1) = omega arith in
    ap (λ l. l ++ made_edges (first + (i + 1)) later) c.in_ok-push.ensures.items
    ∙ append_assoc edges (edge (first + i) x.edge.to ∷ []) (made_edges (first + (i + 1)) later)
    ∙ ap (λ n. edges ++ edge (first + i) x.edge.to ∷ made_edges n later) (sym next)
    ∙ ap (λ l. edges ++ made_edges (first + i) l) (sym (left_at c.args.made.now i x c.loop-index-test.true c.index-made-index.is))
    ∙ c.loop-index.invariant
