use Rattle.std.proofs.Common.{◌∷◌, [], map, ap}
use Rattle.std.proofs.lemmas.List.{nil_from_length}
use Rattle.vx_dep.specs.declared.copies.Rejoin.{Rejoin}
use Rattle.vx_region.proofs.Fronts.{no_more, piece_more}
use Rattle.vx_region.proofs.owed.starts.Goals as goal

pub returns-in-None : goal.returns-in-None
returns-in-None c = no_more c.start.starts _ _ (ap (map (λ (x : Rejoin). x.word)) (nil_from_length c.start.rest.now c.in-None.ensures.cases)) c.start.invariant

pub start-preserved : goal.start-preserved
start-preserved c =
    piece_more c.start.starts c.push.new.self (c.in-Some.rejoin.now.word ∷ []) (map (λ (x : Rejoin). x.word) c.in-Some.others.now) _ _ c.in_ok-push-in-Some.ensures.ok (ap (map (λ (x : Rejoin). x.word)) c.in-Some.ensures.cases.0) c.start.invariant
