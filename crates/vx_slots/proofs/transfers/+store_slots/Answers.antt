use Rattle.std.proofs.Common.{◌++◌, ℕ, List, sym, ap, ◌∙◌, append-nil}
use Rattle.std.proofs.lemmas.List.{nil_from_length}
use Rattle.std.proofs.lemmas.Result.{IfOk-equal}
use Rattle.vx_isa.specs.declared.operation.GeneralRegister.{GeneralRegister}
use Rattle.vx_target.specs.Target.{general_of, store_slot, store_slots}
use Rattle.vx_slots.specs.Seen.{seen}
use Rattle.vx_slots.proofs.Settling.{onto}
use Rattle.vx_slots.proofs.transfers.+store_slots.Goals as goal

pub returns-in_ok-store_slot-in-Some : goal.returns-in_ok-store_slot-in-Some
returns-in_ok-store_slot-in-Some t c =
    let T = seen c.args.whole.now in
    let f = c.args.function in
    let names = c.args.names.now in
    let old = c.args.words.now in
    let value = c.in-Some.value.now in
    let from = c.in_ok-from-in-Some.from in
    let more = store_slots T f names c.in-Some.rest.now in
    IfOk-equal _ _ _ _ c.store_slots.ensures
    (onto old c.store_slot.new.words (store_slot T f value from.general from.branch) more c.in_ok-store_slot-in-Some.ensures
    ∙ ap (λ (g : GeneralRegister). old ++ (store_slot T f value g from.branch ++ more)) c.in_ok-from-in-Some.ensures.general
    ∙ ap (λ (b : ℕ). old ++ (store_slot T f value (general_of T f names value) b ++ more)) c.in_ok-from-in-Some.ensures.branch
    ∙ ap (λ (z : List ℕ). old ++ store_slots T f names z) (sym c.in-Some.ensures.cases.0))

pub returns-in-None : goal.returns-in-None
returns-in-None t c =
    let old = c.args.words.now in
    sym (append-nil old) ∙ ap (λ (z : List ℕ). old ++ store_slots (seen c.args.whole.now) c.args.function c.args.names.now z) (sym (nil_from_length c.args.values.now c.in-None.ensures.cases))
