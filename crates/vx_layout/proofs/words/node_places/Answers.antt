use Rattle.std.proofs.Common.{◌∷◌, ◌++◌, ◌∙◌, [], ℕ, Some, List, map, take, sym, ap}
use Rattle.std.proofs.lemmas.List.{map_more}
use Rattle.vx_mixed.specs.declared.region.Node.{Node}
use Rattle.vx_mixed.specs.Layout.{place_of_node}
use Rattle.vx_layout.proofs.words.node_places.Goals as goal

pub loop-node-preserved : goal.loop-node-preserved
loop-node-preserved c = λ regions starts.
    let nodes = c.args.nodes.now in
    let i = c.loop-node.node-index in
    let node = c.node-item.result in
    let f : Node → ℕ = λ node. place_of_node regions (Some node) in
    c.in_ok-push.ensures.items
    ∙ ap (λ (l : List ℕ). l ++ c.in_ok-node_place.field-0 ∷ []) (c.loop-node.invariant regions starts)
    ∙ ap (λ place. map f (take i nodes) ++ place ∷ []) (c.in_ok-node_place.ensures regions starts ∙ ap f c.node-item.is)
    ∙ sym (map_more f nodes i node c.loop-node-test.true)
