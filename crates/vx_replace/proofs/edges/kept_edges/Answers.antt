use Rattle.std.proofs.Common.{◌≡◌, ◌<◌, ◌+◌, ◌∷◌, ◌++◌, ◌∙◌, [], ℕ, Vec, Global, List, Bool, true, false, cond, get_or, length, map, not, sym, take, ap, append-nil}
use Rattle.std.specs.List.{filter}
use Rattle.std.proofs.lemmas.List.{map-append, take_all}
use Rattle.std.proofs.lemmas.List.Elements.{filter_more}
use Rattle.vx_flow.specs.declared.graph.Edge.{Edge}
use Rattle.vx_mixed.specs.declared.mixed.MixedGraph.{MixedGraph}
use Rattle.vx_mixed.specs.declared.replacement.Replacement.{Replacement}
use Rattle.vx_mixed.specs.MovedEdges.{is_inner, kept_edges, moved}
use Rattle.vx_replace.proofs.edges.kept_edges.Goals.{then-not-is_inner+in_ok-push, else-not-is_inner}
use Rattle.vx_replace.proofs.edges.kept_edges.Goals as goal

kept_one : (m : MixedGraph) (r : Replacement) (edges : List Edge) (i : ℕ) (d : Edge) (now next : List Edge) → i < length edges → now ≡ kept_edges m r (take i edges) → is_inner r.trace.blocks (get_or edges i d) ≡ false → next ≡ now ++ moved m r.made (get_or edges i d) ∷ [] → next ≡ kept_edges m r (take (i + 1) edges)
kept_one m r edges i d now next h e q n =
    let x = get_or edges i d in
    let p : Edge → Bool = λ y. not (is_inner r.trace.blocks y) in
    let f : Edge → Edge = moved m r.made in
    n
    ∙ ap (λ l. l ++ f x ∷ []) e
    ∙ sym (map-append f (filter p (take i edges)) (x ∷ []))
    ∙ ap (λ b. map f (filter p (take i edges) ++ cond b (x ∷ []) [])) (sym (ap not q))
    ∙ ap (map f) (sym (filter_more p edges i d h))

kept_none : (m : MixedGraph) (r : Replacement) (edges : List Edge) (i : ℕ) (d : Edge) (now next : List Edge) → i < length edges → now ≡ kept_edges m r (take i edges) → is_inner r.trace.blocks (get_or edges i d) ≡ true → next ≡ now → next ≡ kept_edges m r (take (i + 1) edges)
kept_none m r edges i d now next h e q n =
    let x = get_or edges i d in
    let p : Edge → Bool = λ y. not (is_inner r.trace.blocks y) in
    let f : Edge → Edge = moved m r.made in
    n
    ∙ e
    ∙ ap (map f) (sym (append-nil (filter p (take i edges))))
    ∙ ap (λ b. map f (filter p (take i edges) ++ cond b (x ∷ []) [])) (sym (ap not q))
    ∙ ap (map f) (sym (filter_more p edges i d h))

pub loop-edge-preserved : goal.loop-edge-preserved
loop-edge-preserved c =
    let m = c.args.graph.now in
    let r = c.args.replacement.now in
    let es = c.args.edges.now in
    let i = c.loop-edge.edge-index in
    let d : Edge = record { from = 0; to = 0 } in
    elim c.if-not-is_inner.branch [
      | then-not-is_inner+in_ok-push w ↦ kept_one m r es i d c.loop-edge.kept.items c.if-not-is_inner.kept.items c.loop-edge-test.true c.loop-edge.invariant
          (ap (λ bs. is_inner bs (get_or es i d)) (sym c.as_slice.ensures) ∙ sym c.is_inner.ensures ∙ w.if-not-is_inner.true)
          (ap (λ (v : Vec Edge Global). v.items) w.kept-is ∙ w.in_ok-push.ensures.items ∙ ap (λ z. c.loop-edge.kept.items ++ z ∷ []) w.moved.ensures)
      | else-not-is_inner w ↦ kept_none m r es i d c.loop-edge.kept.items c.if-not-is_inner.kept.items c.loop-edge-test.true c.loop-edge.invariant
          (ap (λ bs. is_inner bs (get_or es i d)) (sym c.as_slice.ensures) ∙ sym c.is_inner.ensures ∙ w.if-not-is_inner.false)
          (ap (λ (v : Vec Edge Global). v.items) w.kept-is)
    ]

pub loop-edge-init : goal.loop-edge-init
loop-edge-init c = c.new-kept.ensures.items

pub returns : goal.returns
returns c = c.loop-edge.invariant ∙ ap (kept_edges c.args.graph.now c.args.replacement.now) (take_all c.loop-edge.edge-index c.args.edges.now c.loop-edge-test.false)
