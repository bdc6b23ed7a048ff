use Rattle.std.proofs.Common.{◌≡◌, ◌∷◌, ◌++◌, ◌∙◌, [], Bool, true, false, cond, get_or, slice_index_or, sym, take, ap, append-nil}
use Rattle.std.specs.List.{filter}
use Rattle.std.proofs.lemmas.List.{take_all}
use Rattle.std.proofs.lemmas.List.Elements.{filter_more}
use Rattle.vx_flow.specs.declared.graph.Edge.{Edge}
use Rattle.vx_replace.proofs.joins.edges_into.Goals.{then-is_marked+in_ok-push, else-is_marked}
use Rattle.vx_replace.proofs.joins.edges_into.Goals as goal

pub loop-edge-preserved : goal.loop-edge-preserved
loop-edge-preserved c =
    let edges = c.args.edges.now in
    let i = c.loop-edge.edge-index in
    let d : Edge = record { from = 0; to = 0 } in
    let x = get_or edges i d in
    let p : Edge → Bool = λ (e : Edge). slice_index_or c.args.marks.now e.to true in
    let so_far = filter p (take i edges) in
    let more = sym (filter_more p edges i d c.loop-edge-test.true) in
    elim c.if-is_marked.branch [
      | then-is_marked+in_ok-push w ↦
          let is : p x ≡ true = sym c.is_marked.ensures ∙ w.if-is_marked.true in
          w.into-is ∙ w.in_ok-push.ensures.ok ∙ ap (λ l. l ++ x ∷ []) c.loop-edge.invariant ∙ ap (λ b. so_far ++ cond b (x ∷ []) []) (sym is) ∙ more
      | else-is_marked w ↦
          let is : p x ≡ false = sym c.is_marked.ensures ∙ w.if-is_marked.false in
          w.into-is ∙ c.loop-edge.invariant ∙ sym (append-nil so_far) ∙ ap (λ b. so_far ++ cond b (x ∷ []) []) (sym is) ∙ more
    ]

pub returns : goal.returns
returns c = c.loop-edge.invariant ∙ ap (filter (λ (e : Edge). slice_index_or c.args.marks.now e.to true)) (take_all c.loop-edge.edge-index c.args.edges.now c.loop-edge-test.false)
