use Rattle.std.proofs.Common.{◌++◌, ◌∷◌, [], ◌∙◌, ap, map, replicate, sym, take, take_all}
use Rattle.std.proofs.lemmas.List.{map_more}
use Rattle.vx_tally.specs.Tally.{empty_row, never}
use Rattle.vx_tally.proofs.tally.empty_rows.Goals as goal

pub loop-graph-preserved : goal.loop-graph-preserved
loop-graph-preserved c =
    let graphs = c.args.graphs.now in
    let i = c.loop-graph.graph-index in
    c.in_ok-push.ensures.items ∙ ap (λ rows. rows ++ c.in_ok-row.row ∷ []) c.loop-graph.invariant
    ∙ ap (λ row. map empty_row (take i graphs) ++ row ∷ []) (c.in_ok-row.ensures ∙ ap (λ n. replicate n never) c.len.ensures.len ∙ ap empty_row c.graph-item.is) ∙ sym (map_more empty_row graphs i _ c.loop-graph-test.true)

pub returns : goal.returns
returns c = c.loop-graph.invariant ∙ ap (map empty_row) (take_all c.loop-graph.graph-index c.args.graphs.now c.loop-graph-test.false)
