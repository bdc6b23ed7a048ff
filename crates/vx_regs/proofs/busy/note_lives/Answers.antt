use Rattle.std.proofs.lemmas.Option.{slice_get-get_or}
use Rattle.std.proofs.Common.{◌≡◌, ◌∙◌, List, Some, ℕ, ap, sym, slice_get, length, subst, arith, rules}
use Rattle.vx_regs.specs.BusyPlaces.{LiveAmong, LiveNear, nodes_near}
use Rattle.vx_regs.specs.Hulls.{Notes}
use Rattle.vx_regs.proofs.BusyNotes.{near_next}
use Rattle.vx_regs.proofs.busy.note_lives.Goals as goal

pub loop-place-preserved : goal.loop-place-preserved
loop-place-preserved c =
    let at : slice_get c.args.words.now c.loop-place.place ≡ Some c.index-words-place.result = slice_get-get_or c.args.words.now c.loop-place.place c.index-words-place.result c.loop-place-test.true ∙ ap Some (sym c.index-words-place.is) in
    let n : c.in_ok-number.number ≡ c.loop-place.place = c.in_ok-number.ensures in
    let w = c.index-words-place.result in
    let rows = c.args.living.now.live in
    let numbers = c.args.living.now.nodes.numbers in
    let old = c.loop-place.hulls.items in
    let new = c.note_live_among.new.hulls.items in
    let near : c.as_slice.result.now ≡ nodes_near numbers c.in_ok-number.number w = search rules in
    let a : Notes (LiveAmong rows (nodes_near numbers c.in_ok-number.number w) c.in_ok-number.number c.args.count) old new =
    subst (λ (z : List ℕ). Notes (LiveAmong rows z c.in_ok-number.number c.args.count) old new) near c.in_ok-note_live_among.ensures in
    near_next rows numbers c.args.words.now c.args.count c.loop-place.place w c.args.hulls.now.items old new at c.loop-place.invariant
    (subst (λ z. Notes (LiveAmong rows (nodes_near numbers z w) z c.args.count) old new) n a)

pub returns : goal.returns
returns c =
    let rows = c.args.living.now.live in
    let numbers = c.args.living.now.nodes.numbers in
    let all = c.loop-place-test.false in
    let within = c.loop-place.auto.place-end in
    let e : c.loop-place.place ≡ length c.args.words.now = omega arith in
    subst (λ (n : ℕ). Notes (LiveNear rows numbers c.args.words.now c.args.count n) c.args.hulls.now.items c.loop-place.hulls.items) e c.loop-place.invariant
