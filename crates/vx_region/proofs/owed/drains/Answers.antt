use Rattle.std.proofs.Common.{◌∷◌, [], map, ap}
use Rattle.std.proofs.lemmas.List.{nil_from_length}
use Rattle.vx_dep.specs.declared.copies.EdgeCopies.{EdgeCopies}
use Rattle.vx_region.proofs.Fronts.{no_more, piece_more}
use Rattle.vx_region.proofs.owed.drains.Goals as goal

pub returns-in-None : goal.returns-in-None
returns-in-None c = no_more c.drain.drains _ _ (ap (map (λ (x : EdgeCopies). x.drain)) (nil_from_length c.drain.rest.now c.in-None.ensures.cases)) c.drain.invariant

pub drain-preserved : goal.drain-preserved
drain-preserved c =
    piece_more c.drain.drains c.push.new.self (c.in-Some.split.now.drain ∷ []) (map (λ (x : EdgeCopies). x.drain) c.in-Some.others.now) _ _ c.in_ok-push-in-Some.ensures.ok (ap (map (λ (x : EdgeCopies). x.drain)) c.in-Some.ensures.cases.0) c.drain.invariant
