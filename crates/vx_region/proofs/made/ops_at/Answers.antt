use Rattle.std.proofs.Common.{◌++◌, ap}
use Rattle.std.proofs.lemmas.List.{nil_from_length}
use Rattle.vx_region.specs.Planned.{ops_at}
use Rattle.vx_region.proofs.Fronts.{no_more, piece_more}
use Rattle.vx_region.proofs.made.ops_at.Goals as goal

pub returns-in-None : goal.returns-in-None
returns-in-None c = no_more c.copy.copies _ _ (ap (ops_at c.args.ops.now) (nil_from_length c.copy.rest.now c.in-None.ensures.cases)) c.copy.invariant

pub copy-init : goal.copy-init
copy-init c = ap (λ l. l ++ ops_at c.args.ops.now c.args.places.now) c.new-copies.ensures

pub copy-preserved : goal.copy-preserved
copy-preserved c =
    piece_more c.copy.copies c.push_op.new.copies _ (ops_at c.args.ops.now c.in-Some.others.now) _ _ c.in_ok-push_op-in-Some.ensures (ap (ops_at c.args.ops.now) c.in-Some.ensures.cases.0) c.copy.invariant
