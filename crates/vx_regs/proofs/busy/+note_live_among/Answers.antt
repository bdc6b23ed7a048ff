use Rattle.std.proofs.lemmas.List.{nil_from_length}
use Rattle.std.proofs.lemmas.Result.{IfOk-weaker}
use Rattle.std.proofs.Common.{ℕ, List, sym, subst}
use Rattle.vx_regs.specs.BusyPlaces.{LiveAmong}
use Rattle.vx_regs.specs.Hulls.{Notes}
use Rattle.vx_regs.proofs.BusyNotes.{among_none, among_more}
use Rattle.vx_regs.proofs.busy.+note_live_among.Goals as goal

pub returns-in-None : goal.returns-in-None
returns-in-None t c =
    let rows = c.args.live.now in
    let old = c.args.hulls.now.items in
    subst (λ (z : List ℕ). Notes (LiveAmong rows z c.args.place c.args.count) old old) (sym (nil_from_length c.args.nodes.now c.in-None.ensures.cases)) (among_none rows c.args.place c.args.count old)

pub returns-in_ok-note_live-in-Some : goal.returns-in_ok-note_live-in-Some
returns-in_ok-note_live-in-Some t c =
    let rows = c.args.live.now in
    let old = c.args.hulls.now.items in
    let mid = c.note_live.new.hulls.items in
    let new = c.note_live_among.new.hulls.items in
    let node = c.in-Some.node.now in
    let rest = c.in-Some.rest.now in
    IfOk-weaker c.note_live_among.result (λ _. Notes (LiveAmong rows rest c.args.place c.args.count) mid new) (λ _. Notes (LiveAmong rows c.args.nodes.now c.args.place c.args.count) old new)
    (λ x e. subst (λ (z : List ℕ). Notes (LiveAmong rows z c.args.place c.args.count) old new) (sym c.in-Some.ensures.cases.0) (among_more rows node rest c.args.place c.args.count old mid new c.in_ok-note_live-in-Some.ensures e))
    c.note_live_among.ensures
