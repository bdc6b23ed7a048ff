use Rattle.std.proofs.lemmas.List.{nil_from_length}
use Rattle.std.proofs.lemmas.Result.{IfOk-weaker}
use Rattle.std.proofs.Common.{◌≡◌, ◌∷◌, List, sym, subst}
use Rattle.vx_room.specs.Items.{latency_of_op}
use Rattle.vx_mixed.specs.declared.layout.Laid.{Laid}
use Rattle.vx_regs.specs.BusyPlaces.{Wrote}
use Rattle.vx_regs.specs.Hulls.{Notes}
use Rattle.vx_regs.proofs.BusyNotes.{items_more, items_none}
use Rattle.vx_regs.proofs.busy.+note_items.Goals as goal

pub returns-in_ok-note_item-in-Some : goal.returns-in_ok-note_item-in-Some
returns-in_ok-note_item-in-Some t c =
    let latency = latency_of_op c.args.machine.now in
    let words = c.args.words.now in
    let targets = c.args.targets.now in
    let old = c.args.hulls.now.items in
    let mid = c.note_item.new.hulls.items in
    let new = c.note_items.new.hulls.items in
    let item = c.in-Some.item.now in
    let rest = c.in-Some.rest.now in
    let all : c.args.items.now ≡ item ∷ rest = c.in-Some.ensures.cases.0 in
    IfOk-weaker c.note_items.result (λ _. Notes (Wrote latency words rest targets) mid new) (λ _. Notes (Wrote latency words c.args.items.now targets) old new)
    (λ x e. subst (λ (z : List Laid). Notes (Wrote latency words z targets) old new) (sym all) (items_more latency words item rest targets old mid new c.in_ok-note_item-in-Some.ensures e))
    c.note_items.ensures

pub returns-in-None : goal.returns-in-None
returns-in-None t c =
    let latency = latency_of_op c.args.machine.now in
    let words = c.args.words.now in
    let targets = c.args.targets.now in
    let old = c.args.hulls.now.items in
    subst (λ (z : List Laid). Notes (Wrote latency words z targets) old old) (sym (nil_from_length c.args.items.now c.in-None.ensures.cases)) (items_none latency words targets old)
