use Rattle.std.proofs.Common.{◌≡◌, ◌∷◌, ◌++◌, ◌∙◌, [], Bool, true, false, cond, get_or, not, sym, take, ap, append-nil}
use Rattle.std.specs.List.{filter}
use Rattle.std.proofs.lemmas.List.{take_all}
use Rattle.std.proofs.lemmas.List.Elements.{filter_more}
use Rattle.vx_flow.specs.declared.graph.Edge.{Edge}
use Rattle.std.specs.Prelude.{◌==◌, ◌&&◌}
use Rattle.vx_mixed.specs.FromGraph.{same_edge}
use Rattle.vx_replace.proofs.joins.other_edges.Goals.{then-joins_with+in_ok-push, else-joins_with}
use Rattle.vx_replace.proofs.joins.other_edges.Goals as goal

pub loop-edge-preserved : goal.loop-edge-preserved
loop-edge-preserved c =
    let edges = c.args.edges.now in
    let i = c.loop-edge.edge-index in
    let d : Edge = record { from = 0; to = 0 } in
    let x = get_or edges i d in
    let p : Edge → Bool = λ (e : Edge). (e.to == c.args.apart.to) && not (same_edge e c.args.apart) in
    let so_far = filter p (take i edges) in
    let more = sym (filter_more p edges i d c.loop-edge-test.true) in
    elim c.if-joins_with.branch [
      | then-joins_with+in_ok-push w ↦
          let is : p x ≡ true = sym c.joins_with.ensures ∙ w.if-joins_with.true in
          w.others-is ∙ w.in_ok-push.ensures.ok ∙ ap (λ l. l ++ x ∷ []) c.loop-edge.invariant ∙ ap (λ b. so_far ++ cond b (x ∷ []) []) (sym is) ∙ more
      | else-joins_with w ↦
          let is : p x ≡ false = sym c.joins_with.ensures ∙ w.if-joins_with.false in
          w.others-is ∙ c.loop-edge.invariant ∙ sym (append-nil so_far) ∙ ap (λ b. so_far ++ cond b (x ∷ []) []) (sym is) ∙ more
    ]

pub returns : goal.returns
returns c = c.loop-edge.invariant ∙ ap (filter (λ (e : Edge). (e.to == c.args.apart.to) && not (same_edge e c.args.apart))) (take_all c.loop-edge.edge-index c.args.edges.now c.loop-edge-test.false)
