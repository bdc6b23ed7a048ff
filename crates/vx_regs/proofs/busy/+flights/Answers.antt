use Rattle.std.proofs.lemmas.List.{nil_from_length}
use Rattle.std.proofs.lemmas.Option.{slice_get-get_or, slice_get_past}
use Rattle.std.proofs.lemmas.Result.{IfOk-weaker}
use Rattle.std.proofs.lemmas.Bool.{ltb-true, ltb-false}
use Rattle.std.proofs.Common.{zero, suc, refl, ◌≡◌, ◌∙◌, ◌<◌, ◌+◌, ◌-◌, List, ℕ, None, Some, ap, sym, subst, slice_get, arith}
use Rattle.vx_mixed.specs.LaidSettled.{cycles_of}
use Rattle.vx_regs.specs.BusyPlaces.{InFlight, InFlights, leads_list}
use Rattle.vx_regs.specs.Hulls.{Notes}
use Rattle.vx_regs.proofs.BusyNotes.{flight_over, flight_nowhere, flight_on, flight_still, flights_none, flights_more}
use Rattle.vx_regs.proofs.busy.+flights.Goals as goal

some_left : (left : ℕ) → (left ≡ 0 → ⊥) → 0 < left
some_left zero h = absurd (h refl)
some_left (suc left) h = omega arith

pub note_flight-returns-in-None : goal.note_flight-returns-in-None
note_flight-returns-in-None t c =
    let some : 0 < c.args.left = some_left c.args.left c.if-left-eq0.false in
    let none : slice_get c.args.words.now c.args.place ≡ None = slice_get_past c.args.words.now c.args.place (ltb-false _ _ (sym c.in-None.ensures.lookup.0)) in
    flight_nowhere c.args.words.now c.args.place c.args.left c.args.value c.args.hulls.now.items c.note.new.hulls.items some none c.in_ok-note.ensures

pub note_flight-returns-then-cycles-eq0 : goal.note_flight-returns-then-cycles-eq0
note_flight-returns-then-cycles-eq0 t c =
    let some : 0 < c.args.left = some_left c.args.left c.if-left-eq0.false in
    let word = c.in-Some.word.now in
    let l = c.in-Some.ensures.lookup in
    let at : slice_get c.args.words.now c.args.place ≡ Some word = slice_get-get_or c.args.words.now c.args.place word (ltb-true _ _ (sym l.0)) ∙ ap Some (sym l.1) in
    let none : cycles_of word ≡ 0 = sym c.cycles_of-cycles.ensures ∙ c.if-cycles-eq0.true in
    let next : c.in_ok-sum-in-Some.field-0 ≡ c.args.place + 1 = c.in_ok-sum-in-Some.ensures in
    IfOk-weaker c.note_flight.result (λ _. Notes (InFlight c.args.words.now c.in_ok-sum-in-Some.field-0 c.args.left c.args.value) c.note.new.hulls.items c.note_flight.new.hulls.items)
    (λ _. Notes (InFlight c.args.words.now c.args.place c.args.left c.args.value) c.args.hulls.now.items c.note_flight.new.hulls.items)
    (λ x e. flight_still c.args.words.now c.args.place c.args.left c.in_ok-sum-in-Some.field-0 c.args.value word c.args.hulls.now.items c.note.new.hulls.items c.note_flight.new.hulls.items some at none next c.in_ok-note.ensures e)
    c.note_flight.ensures

pub note_flight-returns-in_ok-targets-in-Some : goal.note_flight-returns-in_ok-targets-in-Some
note_flight-returns-in_ok-targets-in-Some t c =
    let some : 0 < c.args.left = some_left c.args.left c.if-left-eq0.false in
    let word = c.in-Some.word.now in
    let l = c.in-Some.ensures.lookup in
    let at : slice_get c.args.words.now c.args.place ≡ Some word = slice_get-get_or c.args.words.now c.args.place word (ltb-true _ _ (sym l.0)) ∙ ap Some (sym l.1) in
    let targets : c.as_slice.result.now ≡ leads_list c.args.place word = c.as_slice.ensures ∙ c.in_ok-targets-in-Some.ensures in
    let rest : c.saturating_sub.result ≡ c.args.left - cycles_of word = c.saturating_sub.ensures ∙ ap (λ k. c.args.left - k) c.cycles_of-cycles.ensures in
    IfOk-weaker c.note_flights.result (λ _. Notes (InFlights c.args.words.now c.as_slice.result.now c.saturating_sub.result c.args.value) c.note.new.hulls.items c.note_flights.new.hulls.items)
    (λ _. Notes (InFlight c.args.words.now c.args.place c.args.left c.args.value) c.args.hulls.now.items c.note_flights.new.hulls.items)
    (λ x e. flight_on c.args.words.now c.args.place c.args.left c.saturating_sub.result c.args.value word c.args.hulls.now.items c.note.new.hulls.items c.note_flights.new.hulls.items some at rest c.in_ok-note.ensures
    (subst (λ (z : List ℕ). Notes (InFlights c.args.words.now z c.saturating_sub.result c.args.value) c.note.new.hulls.items c.note_flights.new.hulls.items) targets e))
    c.note_flights.ensures

pub note_flight-returns-then-left-eq0 : goal.note_flight-returns-then-left-eq0
note_flight-returns-then-left-eq0 t c = flight_over c.args.words.now c.args.place c.args.left c.args.value c.args.hulls.now.items c.if-left-eq0.true

pub note_flights-returns-in-None : goal.note_flights-returns-in-None
note_flights-returns-in-None t c =
    let words = c.args.words.now in
    let old = c.args.hulls.now.items in
    subst (λ (z : List ℕ). Notes (InFlights words z c.args.left c.args.value) old old) (sym (nil_from_length c.args.targets.now c.in-None.ensures.cases)) (flights_none words c.args.left c.args.value old)

pub note_flights-returns-in_ok-note_flight-in-Some :
    goal.note_flights-returns-in_ok-note_flight-in-Some
note_flights-returns-in_ok-note_flight-in-Some t c =
    let words = c.args.words.now in
    let old = c.args.hulls.now.items in
    let mid = c.note_flight.new.hulls.items in
    let new = c.note_flights.new.hulls.items in
    let target = c.in-Some.target.now in
    let rest = c.in-Some.rest.now in
    IfOk-weaker c.note_flights.result (λ _. Notes (InFlights words rest c.args.left c.args.value) mid new) (λ _. Notes (InFlights words c.args.targets.now c.args.left c.args.value) old new)
    (λ x e. subst (λ (z : List ℕ). Notes (InFlights words z c.args.left c.args.value) old new) (sym c.in-Some.ensures.cases.0) (flights_more words target rest c.args.left c.args.value old mid new c.in_ok-note_flight-in-Some.ensures e))
    c.note_flights.ensures
