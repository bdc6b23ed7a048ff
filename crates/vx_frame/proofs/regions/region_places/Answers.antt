use Rattle.std.proofs.Common.{◌++◌, List, sym, ap, ◌∙◌}
use Rattle.std.proofs.lemmas.List.{nil_from_length}
use Rattle.vx_mixed.specs.declared.layout.VWords.{VWords}
use Rattle.vx_target.specs.declared.finished.TracePlaces.{TracePlaces}
use Rattle.vx_frame.specs.Regions.{all_traces}
use Rattle.vx_frame.proofs.RegionPlaces.{traces_are, traces_next}
use Rattle.vx_frame.proofs.Shorter.{shorter}
use Rattle.vx_frame.proofs.regions.region_places.Goals as goal

-- no layout so far
pub layouts-init : goal.layouts-init
layouts-init c = ap (λ (z : List TracePlaces). z ++ all_traces c.args.places.now 0 c.args.layouts.now) c.requires

-- one layout more
pub layouts-preserved : goal.layouts-preserved
layouts-preserved c =
    let places = c.args.places.now in
    let f = c.layouts.function in
    let regions = c.layouts.regions in
    traces_next places f c.in_ok-function-in-Some.function c.in-Some.layout.now c.in-Some.others.now c.args.layouts.now c.in_ok-rows-in-Some.rows.items c.marks_of.result.now regions c.push_rows.new.regions
    (ap (λ (z : List VWords). regions ++ all_traces places f z) (sym c.in-Some.ensures.cases.0) ∙ c.layouts.invariant)
    c.marks_of.ensures c.in_ok-rows-in-Some.ensures c.in_ok-push_rows-in-Some.ensures c.in_ok-function-in-Some.ensures

-- no layout is left
pub returns-in-None : goal.returns-in-None
returns-in-None c =
    let places = c.args.places.now in
    traces_are places c.layouts.function c.args.layouts.now c.layouts.regions
    (ap (λ (z : List VWords). c.layouts.regions ++ all_traces places c.layouts.function z) (sym (nil_from_length c.layouts.rest.now c.in-None.ensures.cases)) ∙ c.layouts.invariant)

pub layouts-smaller : goal.layouts-smaller
layouts-smaller c = shorter c.layouts.rest.now c.in-Some.others.now c.in-Some.layout.now c.in-Some.ensures.cases.0
