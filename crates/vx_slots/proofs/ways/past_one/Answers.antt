use Rattle.std.proofs.Common.{◌∙◌, Some, sym, ap}
use Rattle.std.proofs.lemmas.Bool.{ltb-true, ltb-false}
use Rattle.std.proofs.lemmas.Option.{slice_get-get_or, slice_get_past}
use Rattle.vx_target.specs.Target.{past_there}
use Rattle.vx_slots.proofs.ways.past_one.Goals as goal

pub returns-in-Some : goal.returns-in-Some
returns-in-Some c =
    let words = c.args.words.now in
    let place = c.args.place in
    let word = c.in-Some.word.now in
    let l = c.in-Some.ensures.lookup in
    c.past_word.ensures
    ∙ ap (past_there place) (sym (slice_get-get_or words place word (ltb-true _ _ (sym l.0)) ∙ ap Some (sym l.1)))

pub returns-in-None : goal.returns-in-None
returns-in-None c =
    let words = c.args.words.now in
    let place = c.args.place in
    ap (past_there place) (sym (slice_get_past words place (ltb-false _ _ (sym c.in-None.ensures.lookup.0))))
