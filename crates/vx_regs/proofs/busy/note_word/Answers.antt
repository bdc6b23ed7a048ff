use Rattle.std.proofs.lemmas.Result.{IfOk-weaker}
use Rattle.std.proofs.Common.{◌≡◌, ◌∙◌, List, ℕ, ap, sym, subst, rules}
use Rattle.vx_room.specs.Items.{latency_of_op}
use Rattle.vx_mixed.specs.declared.layout.Laid.{Laid}
use Rattle.vx_mixed.specs.declared.layout.VirtualWord.TheVariants.{Planned}
use Rattle.vx_regs.specs.BusyPlaces.{WordWrote, Wrote, leads_list}
use Rattle.vx_regs.specs.Hulls.{Notes}
use Rattle.vx_regs.proofs.BusyNotes.{word_planned}
use Rattle.vx_regs.proofs.busy.note_word.Goals as goal

pub returns-in_ok-targets-in-Planned : goal.returns-in_ok-targets-in-Planned
returns-in_ok-targets-in-Planned c =
    let latency = latency_of_op c.args.machine.now in
    let r = c.in-Planned.region in
    let w = c.in-Planned.word in
    let is = c.in-Planned.items in
    let word : c.args.word.now ≡ Planned r w is = c.in-Planned.is in
    let targets : c.as_slice-in-Planned.result.now ≡ leads_list c.args.place c.args.word.now = search rules in
    let items : c.as_slice.result.now ≡ is = search rules in
    let old = c.args.hulls.now.items in
    let new = c.note_items.new.hulls.items in
    IfOk-weaker c.note_items.result (λ _. Notes (Wrote latency c.args.words.now c.as_slice.result.now c.as_slice-in-Planned.result.now) old new)
    (λ _. Notes (WordWrote latency c.args.words.now c.args.place c.args.word.now) old new)
    (λ x e. subst (λ z. Notes (WordWrote latency c.args.words.now c.args.place z) old new) (sym word)
    (word_planned latency c.args.words.now c.args.place r w is old new
    (subst (λ (z : List Laid). Notes (Wrote latency c.args.words.now z (leads_list c.args.place (Planned r w is))) old new) items
    (subst (λ (z : List ℕ). Notes (Wrote latency c.args.words.now c.as_slice.result.now z) old new) (targets ∙ ap (leads_list c.args.place) word) e))))
    c.note_items.ensures
