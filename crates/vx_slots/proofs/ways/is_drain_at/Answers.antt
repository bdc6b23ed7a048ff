use Rattle.std.proofs.Common.{◌∙◌, List, Some, slice_get, sym, ap}
use Rattle.std.proofs.lemmas.Bool.{ltb-true, ltb-false}
use Rattle.std.proofs.lemmas.Option.{slice_get-get_or, slice_get_past}
use Rattle.vx_mixed.specs.declared.layout.VirtualWord.{VirtualWord}
use Rattle.vx_target.specs.Target.{is_drain_there}
use Rattle.vx_slots.proofs.ways.is_drain_at.Goals as goal

pub returns-in-Some : goal.returns-in-Some
returns-in-Some c =
    let words = c.words_of.result.now in
    let place = c.args.place in
    let word = c.in-Some.word.now in
    let l = c.in-Some.ensures.lookup in
    c.is_drain.ensures
    ∙ ap is_drain_there (sym (slice_get-get_or words place word (ltb-true _ _ (sym l.0)) ∙ ap Some (sym l.1)))
    ∙ ap (λ (z : List VirtualWord). is_drain_there (slice_get z place)) c.words_of.ensures

pub returns-in-None : goal.returns-in-None
returns-in-None c =
    let words = c.words_of.result.now in
    let place = c.args.place in
    ap is_drain_there (sym (slice_get_past words place (ltb-false _ _ (sym c.in-None.ensures.lookup.0))))
    ∙ ap (λ (z : List VirtualWord). is_drain_there (slice_get z place)) c.words_of.ensures
