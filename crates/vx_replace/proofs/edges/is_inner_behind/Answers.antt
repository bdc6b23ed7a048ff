use Rattle.std.proofs.Common.{◌≡◌, ◌+◌, ◌∷◌, ◌∙◌, ◌&&◌, ◌||◌, ℕ, true, List, drop, get_or, sym, ap}
use Rattle.std.specs.Prelude.{◌==◌}
use Rattle.std.proofs.lemmas.Bool.{eq-eqb, ne_eqb}
use Rattle.std.proofs.lemmas.List.{drop_all}
use Rattle.vx_flow.specs.declared.graph.Edge.{Edge}
use Rattle.vx_mixed.specs.MovedEdges.{is_inner}
use Rattle.vx_mixed.proofs.RouteSteps.{left_from}
use Rattle.vx_replace.proofs.edges.is_inner_behind.Goals.{else-before-edge-via-then-before-edge+else-block-edge, else-before-edge-via-else-before-edge}
use Rattle.vx_replace.proofs.edges.is_inner_behind.Goals as goal

-- the first two of some blocks have the edge between them, or not
here : (b x : ℕ) (rest : List ℕ) (e : Edge) → b ≡ e.from → x ≡ e.to → is_inner (b ∷ x ∷ rest) e ≡ true
here b x rest e p q = ap (λ s. (s && (x == e.to)) || is_inner (x ∷ rest) e) (eq-eqb b e.from p) ∙ ap (λ t. t || is_inner (x ∷ rest) e) (eq-eqb x e.to q)

other_from : (b x : ℕ) (rest : List ℕ) (e : Edge) → (b ≡ e.from → ⊥) → is_inner (b ∷ x ∷ rest) e ≡ is_inner (x ∷ rest) e
other_from b x rest e n = ap (λ s. (s && (x == e.to)) || is_inner (x ∷ rest) e) (ne_eqb b e.from n)

other_to : (b x : ℕ) (rest : List ℕ) (e : Edge) → b ≡ e.from → (x ≡ e.to → ⊥) → is_inner (b ∷ x ∷ rest) e ≡ is_inner (x ∷ rest) e
other_to b x rest e p n = ap (λ s. (s && (x == e.to)) || is_inner (x ∷ rest) e) (eq-eqb b e.from p) ∙ ap (λ t. t || is_inner (x ∷ rest) e) (ne_eqb x e.to n)

pub returns-then-block-edge : goal.returns-then-block-edge
returns-then-block-edge c =
    let bs = c.args.blocks.now in
    let i = c.loop-block.block-index in
    sym (ap (λ z. is_inner (c.loop-block.before ∷ z) c.args.edge) (left_from bs i 0 c.loop-block-test.true) ∙ here c.loop-block.before (get_or bs i 0) (drop (i + 1) bs) c.args.edge c.if-before-edge.true c.if-block-edge.true) ∙ c.loop-block.invariant

pub loop-block-preserved : goal.loop-block-preserved
loop-block-preserved c =
    let bs = c.args.blocks.now in
    let i = c.loop-block.block-index in
    let b = c.loop-block.before in
    let now = ap (λ z. is_inner (b ∷ z) c.args.edge) (left_from bs i 0 c.loop-block-test.true) in
    elim c.else-before-edge.branch [
      | else-before-edge-via-then-before-edge+else-block-edge w ↦ sym (now ∙ other_to b (get_or bs i 0) (drop (i + 1) bs) c.args.edge w.if-before-edge.true w.if-block-edge.false) ∙ c.loop-block.invariant
      | else-before-edge-via-else-before-edge w ↦ sym (now ∙ other_from b (get_or bs i 0) (drop (i + 1) bs) c.args.edge w.if-before-edge.false) ∙ c.loop-block.invariant
    ]

pub returns : goal.returns
returns c = sym (ap (λ z. is_inner (c.loop-block.before ∷ z) c.args.edge) (drop_all c.loop-block.block-index c.args.blocks.now c.loop-block-test.false)) ∙ c.loop-block.invariant
