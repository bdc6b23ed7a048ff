use Rattle.std.proofs.Common.{◌≡◌, ◌<◌, length, drop, ap, sym, subst, ◌∙◌, Some}
use Rattle.std.proofs.lemmas.Option.{slice_get_within}
use Rattle.vx_flow.specs.Effects.{State, with_value}
use Rattle.vx_tally.specs.Storage.{state_of}
use Rattle.vx_tally.proofs.Storing.{next_at, next_none}
use Rattle.vx_tally.proofs.operations.input.Goals as goal

pub with_next-storage-requires : goal.with_next-storage-requires
with_next-storage-requires c =
    let within : c.args.storage.now.read < length c.args.storage.now.input.items = slice_get_within c.args.storage.now.input.items c.args.storage.now.read c.in-Some.field-0 (sym c.next-number.ensures ∙ c.in-Some.is) in
    subst (λ xs. c.args.storage.now.read < length xs) (sym c.as_slice.ensures.value) within

pub returns-in_ok-write-in-Some : goal.returns-in_ok-write-in-Some
returns-in_ok-write-in-Some c =
    let s : State = record (state_of c.args.storage.now) { input = drop c.with_next-storage.result c.args.storage.now.input.items } in
    let written : state_of c.write.new.self ≡ with_value s c.args.to c.next-number.result = c.in_ok-write-in-Some.ensures in
    next_at (state_of c.args.storage.now) c.args.to c.args.storage.now.input.items c.args.storage.now.read c.with_next-storage.result c.in-Some.field-0 (sym c.next-number.ensures ∙ c.in-Some.is) c.with_next-storage.ensures
    ∙ ap Some (sym (written ∙ ap (λ x. with_value s c.args.to x) c.in-Some.is))

pub returns-in-None : goal.returns-in-None
returns-in-None c = next_none (state_of c.args.storage.now) c.args.to c.args.storage.now.input.items c.args.storage.now.read (sym c.next-number.ensures ∙ c.in-None.is)
