use Rattle.std.proofs.Common.{◌≡◌, ◌++◌, ◌∷◌, [], ℕ, ℤ, Bool, List, pos, true, to_z, of_z, w32, rules, append_assoc, ap, sym, ◌∙◌}
use Rattle.std.proofs.lemmas.Result.{IfOk-equal}
use Rattle.std.specs.Prelude.{if◌then◌else◌}
use Rattle.vx_isa.specs.declared.operation.GeneralRegister.{GeneralRegister}
use Rattle.vx_isa.specs.declared.operation.Operation.{Operation}
use Rattle.vx_isa.specs.declared.operation.Operation.TheVariants.{Select, Store}
use Rattle.vx_isa.specs.declared.operation.Source.TheVariants.{Held, Number}
use Rattle.vx_isa.specs.declared.program.Word.{Word}
use Rattle.vx_target.specs.Target.{Target, answer, bytes, holds_branch, one, settled, stack_on, store_slot}
use Rattle.vx_slots.specs.Seen.{seen}
use Rattle.vx_slots.proofs.transfers.store_slot.Goals as goal

module _ (T : Target) (f v : ℕ) (from : GeneralRegister) (branch : ℕ) where
  abbrev Stored : GeneralRegister → ℤ → Operation
  Stored from offset = Store from.cluster offset (stack_on from.cluster) (Held from)

  abbrev Selected : Operation
  Selected = Select 0 answer (record { cluster = 0; number = branch }) (Number (pos 1)) (Number (pos 0))

  abbrev Offset : ℤ
  Offset = bytes (T.slot f v)

  abbrev Words : Bool → List Word
  Words b = if b then settled T (one Selected ∷ []) ++ one (Stored answer Offset) ∷ [] else one (Stored from Offset) ∷ []

  -- a branch value goes by way of the answer's register
  by_answer : (b : Bool) (a : GeneralRegister) (select store : Operation) (s : ℕ) (made offset : ℤ) → b ≡ holds_branch T f v → b ≡ true → store ≡ Stored a offset → a ≡ answer → offset ≡ made → made ≡ bytes s → s ≡ T.slot f v → select ≡ Selected → settled T (one select ∷ []) ++ one store ∷ [] ≡ store_slot T f v from branch
  by_answer b a select store s made offset h e st is fit o n t =
      ap (λ (x : Operation). settled T (one x ∷ []) ++ one store ∷ []) t
      ∙ ap (λ (x : Operation). settled T (one Selected ∷ []) ++ one x ∷ []) (st ∙ ap (λ (r : GeneralRegister). Stored r offset) is ∙ ap (Stored answer) (fit ∙ o ∙ ap bytes n))
      ∙ ap Words (sym e ∙ h)

pub returns-in_ok-push_settled : goal.returns-in_ok-push_settled
returns-in_ok-push_settled c =
    let T = seen c.args.whole.now in
    let old = c.args.words.now in
    let select = c.from_branch.result in
    let store = c.frame_store.result in
    let made = c.in_ok-offset.offset in
    let fit : to_z w32 (of_z w32 made) ≡ made = search rules in
    IfOk-equal _ _ _ _ c.push_one.ensures
    (ap (λ (z : List Word). z ++ one store ∷ []) c.in_ok-push_settled.ensures
    ∙ append_assoc old (settled T (one select ∷ [])) (one store ∷ [])
    ∙ ap (λ (z : List Word). old ++ z) (by_answer T c.args.function c.args.value c.args.from.general c.args.from.branch c.holds_branch.result c.answer.result select store c.slot.result made (to_z w32 (of_z w32 made)) c.holds_branch.ensures c.if-holds_branch.true c.frame_store.ensures c.answer.ensures fit c.in_ok-offset.ensures c.slot.ensures c.from_branch.ensures))
