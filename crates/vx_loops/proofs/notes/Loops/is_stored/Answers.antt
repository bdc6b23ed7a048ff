use Rattle.std.proofs.Common.{◌≡◌, true, ltb-false, ltb-true, sym}
use Rattle.std.proofs.lemmas.Option.{slice_get_past}
use Rattle.vx_flow.proofs.IndexSteps.{get_some}
use Rattle.vx_loops.proofs.Notings.{stands_past, stands_there}
use Rattle.vx_loops.proofs.notes.Loops.is_stored.Goals as goal

pub returns-in-Some : goal.returns-in-Some
returns-in-Some c =
    let row : c.deref.result.now ≡ c.args.self.now.stores.items = search in
    let l = c.in-Some.ensures.lookup in
    stands_there true c.args.self.now.stores.items c.deref.result.now c.args.array c.in-Some.number.now c.args.self.now.number row (get_some c.deref.result.now c.args.array c.in-Some.number.now (ltb-true _ _ (sym l.0)) l.1)

pub returns-in-None : goal.returns-in-None
returns-in-None c =
    let row : c.deref.result.now ≡ c.args.self.now.stores.items = search in
    stands_past true c.args.self.now.stores.items c.deref.result.now c.args.array c.args.self.now.number row (slice_get_past c.deref.result.now c.args.array (ltb-false _ _ (sym c.in-None.ensures.lookup.0)))
