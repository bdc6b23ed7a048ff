use Rattle.std.proofs.Common.{◌++◌, ◌∙◌, ap}
use Rattle.std.specs.List.{flat_map}
use Rattle.std.proofs.lemmas.List.{nil_from_length}
use Rattle.vx_region.specs.Planned.{clusters_at, made_of, placed_at}
use Rattle.vx_region.proofs.Fronts.{no_more, piece_more}
use Rattle.vx_region.proofs.made.push_join.Goals as goal

pub returns-in-None : goal.returns-in-None
returns-in-None c =
    let p = c.args.placed.now in
    let places = c.args.rejoin.now.copies in
    no_more c.edges.made _ _ (ap (flat_map (λ e. made_of e (placed_at p places) (clusters_at p.clustered places))) (nil_from_length c.edges.rest.now c.in-None.ensures.cases)) c.edges.invariant

pub edges-init : goal.edges-init
edges-init c =
    let p = c.args.placed.now in
    let places = c.args.rejoin.now.copies in
    ap (λ edges. c.args.made.now ++ flat_map (λ e. made_of e (placed_at p places) (clusters_at p.clustered places)) edges) c.as_slice-rest.ensures

pub edges-preserved : goal.edges-preserved
edges-preserved c =
    let p = c.args.placed.now in
    let places = c.args.rejoin.now.copies in
    let edge = c.in-Some.edge.now in
    let made = c.edges.made in
    piece_more made c.push_made.new.made (made_of edge (placed_at p places) (clusters_at p.clustered places)) (flat_map (λ e. made_of e (placed_at p places) (clusters_at p.clustered places)) c.in-Some.others.now) _ _
    (c.in_ok-push_made-in-Some.ensures
    ∙ ap (λ l. made ++ made_of edge l c.in_ok-clusters-in-Some.clusters) (c.in_ok-copies-in-Some.ensures ∙ ap (placed_at p) c.as_slice.ensures)
    ∙ ap (λ l. made ++ made_of edge (placed_at p places) l) (c.in_ok-clusters-in-Some.ensures ∙ ap (clusters_at p.clustered) c.as_slice-in-Some.ensures))
    (ap (flat_map (λ e. made_of e (placed_at p places) (clusters_at p.clustered places))) c.in-Some.ensures.cases.0) c.edges.invariant
