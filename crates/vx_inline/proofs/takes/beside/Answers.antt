use Rattle.std.proofs.Common.{◌≡◌, ◌∙◌, Some, slice_get, sym, ap}
use Rattle.std.proofs.lemmas.Bool.{ltb-false, ltb-true}
use Rattle.std.proofs.lemmas.Option.{slice_get-get_or, slice_get_past}
use Rattle.vx_inline.proofs.Tables.{beside_missed, beside_past, beside_some}
use Rattle.vx_inline.proofs.takes.beside.Goals as goal

pub returns-in-Some : goal.returns-in-Some
returns-in-Some c =
    let free = c.args.free.now in
    let place = c.in-Ok.place in
    let taken = c.in-Some.taken.now in
    let l = c.in-Some.ensures.lookup in
    let at : slice_get free place ≡ Some taken = slice_get-get_or free place taken (ltb-true _ _ (sym l.0)) ∙ ap Some (sym l.1) in
    beside_some c.args.named.now free c.args.value place taken c.requires c.in-Ok.ensures.position at

pub returns-in-None : goal.returns-in-None
returns-in-None c =
    let free = c.args.free.now in
    let place = c.in-Ok.place in
    beside_past c.args.named.now free c.args.value place c.requires c.in-Ok.ensures.position (slice_get_past free place (ltb-false _ _ (sym c.in-None.ensures.lookup.0)))

pub returns-in-Err : goal.returns-in-Err
returns-in-Err c = beside_missed c.args.named.now c.args.free.now c.args.value c.in-Err.field-0 c.requires c.in-Err.ensures.position
