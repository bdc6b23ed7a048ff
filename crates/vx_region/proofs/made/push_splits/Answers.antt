use Rattle.std.proofs.Common.{◌++◌, ◌∙◌, ap}
use Rattle.std.proofs.lemmas.List.{nil_from_length}
use Rattle.vx_region.specs.Planned.{clusters_at, made_at_splits, made_of, ops_at}
use Rattle.vx_region.proofs.Fronts.{no_more, piece_more}
use Rattle.vx_region.proofs.made.push_splits.Goals as goal

pub returns-in-None : goal.returns-in-None
returns-in-None c = no_more c.splits.made _ _ (ap (made_at_splits c.args.placed.now) (nil_from_length c.splits.rest.now c.in-None.ensures.cases)) c.splits.invariant

pub splits-preserved : goal.splits-preserved
splits-preserved c =
    let p = c.args.placed.now in
    let x = c.in-Some.split.now in
    let made = c.splits.made in
    piece_more made c.push_made.new.made (made_of x.edge (ops_at p.clustered.trace.ops x.copies) (clusters_at p.clustered x.copies)) (made_at_splits p c.in-Some.others.now) _ _
    (c.in_ok-push_made-in-Some.ensures
    ∙ ap (λ l. made ++ made_of x.edge l c.in_ok-clusters-in-Some.clusters) (c.in_ok-copies-in-Some.ensures ∙ ap (λ ops. ops_at ops c.as_slice.result.now) c.as_slice-ops.ensures ∙ ap (ops_at p.clustered.trace.ops) c.as_slice.ensures)
    ∙ ap (λ l. made ++ made_of x.edge (ops_at p.clustered.trace.ops x.copies) l) (c.in_ok-clusters-in-Some.ensures ∙ ap (clusters_at p.clustered) c.as_slice-in-Some.ensures))
    (ap (made_at_splits p) c.in-Some.ensures.cases.0) c.splits.invariant
