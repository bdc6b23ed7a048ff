use Rattle.std.proofs.Common.{◌++◌, ap}
use Rattle.std.proofs.lemmas.List.{nil_from_length}
use Rattle.vx_region.specs.Planned.{placed_at}
use Rattle.vx_region.proofs.Fronts.{no_more, piece_more}
use Rattle.vx_region.proofs.made.placed_at.Goals as goal

pub returns-in-None : goal.returns-in-None
returns-in-None c = no_more c.copy.copies _ _ (ap (placed_at c.args.placed.now) (nil_from_length c.copy.rest.now c.in-None.ensures.cases)) c.copy.invariant

pub copy-init : goal.copy-init
copy-init c = ap (λ l. l ++ placed_at c.args.placed.now c.args.places.now) c.new-copies.ensures

pub copy-preserved : goal.copy-preserved
copy-preserved c =
    piece_more c.copy.copies c.push_placed.new.copies _ (placed_at c.args.placed.now c.in-Some.others.now) _ _ c.in_ok-push_placed-in-Some.ensures (ap (placed_at c.args.placed.now) c.in-Some.ensures.cases.0) c.copy.invariant
