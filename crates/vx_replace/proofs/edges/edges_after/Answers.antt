use Rattle.std.proofs.Common.{◌≡◌, ◌∙◌, ◌++◌, length, sym, ap, subst}
use Rattle.std.specs.List.Sorted.{IsPermutation}
use Rattle.vx_mixed.specs.Edges.{EdgesOf}
use Rattle.vx_mixed.specs.MovedEdges.{kept_edges, made_edges}
use Rattle.vx_mixed.specs.Next.{next_mixed}
use Rattle.vx_mixed.proofs.MovedEdges.{sorted_edges_are}
use Rattle.vx_replace.proofs.edges.edges_after.Goals as goal

pub returns : goal.returns
returns c =
    let m = c.args.graph.now in
    let r = c.args.replacement.now in
    let first : c.len-first.result ≡ length m.nodes = c.len-first.ensures.len in
    let all : c.push_made_edges.new.edges.items ≡ kept_edges m r c.args.edges.now ++ made_edges (length m.nodes) r.made =
    c.in_ok-push_made_edges.ensures
    ∙ ap (λ l. l ++ made_edges c.len-first.result c.as_slice.result.now) c.in_ok-after.ensures
    ∙ ap (λ n. kept_edges m r c.args.edges.now ++ made_edges n c.as_slice.result.now) first
    ∙ ap (λ xs. kept_edges m r c.args.edges.now ++ made_edges (length m.nodes) xs) c.as_slice.ensures in
    subst (EdgesOf (next_mixed m r)) (sym c.in_ok-from_vec.ensures)
    (sorted_edges_are m r c.args.edges.now c.sort_edges.new.edges.items c.requires.valid c.requires.can c.requires.edges c.requires.few
    (subst (λ l. IsPermutation l c.sort_edges.new.edges.items) all c.sort_edges.ensures.same) c.sort_edges.ensures.sorted)
