use Rattle.std.proofs.Common.{◌≡◌, ◌+◌, ◌++◌, ◌∷◌, [], ℕ, ℤ, Bool, List, pos, true, false, to_z, of_z, w32, rules, append_assoc, ap, sym, ◌∙◌}
use Rattle.std.proofs.lemmas.Result.{IfOk-equal}
use Rattle.std.specs.Prelude.{if◌then◌else◌}
use Rattle.vx_base.specs.declared.arithmetic.Code.TheVariants.{ToBranch}
use Rattle.vx_base.specs.declared.arithmetic.Compare.TheVariants.{Ne}
use Rattle.vx_isa.specs.declared.operation.GeneralRegister.{GeneralRegister}
use Rattle.vx_isa.specs.declared.operation.Operation.{Operation}
use Rattle.vx_isa.specs.declared.operation.Operation.TheVariants.{Compute, Load}
use Rattle.vx_isa.specs.declared.operation.Register.TheVariants.{Branch as InBranch}
use Rattle.vx_isa.specs.declared.operation.Source.TheVariants.{Held, Number}
use Rattle.vx_isa.specs.declared.program.Word.{Word}
use Rattle.vx_target.specs.Target.{Target, answer, bytes, holds_branch, load_slot, one, settled, stack_on}
use Rattle.vx_slots.specs.Seen.{seen}
use Rattle.vx_slots.proofs.transfers.load_slot.Goals as goal

module _ (T : Target) (f up v : ℕ) (to : GeneralRegister) (branch : ℕ) where
  abbrev Loaded : GeneralRegister → ℤ → Operation
  Loaded to offset = Load to.cluster to offset (stack_on to.cluster) false

  abbrev Tested : Operation
  Tested = Compute 0 (ToBranch Ne) (InBranch (record { cluster = 0; number = branch })) (Held answer) (Number (pos 0))

  abbrev Offset : ℤ
  Offset = bytes (up + T.slot f v)

  abbrev Words : Bool → List Word
  Words b = if b then settled T (one (Loaded answer Offset) ∷ []) ++ one Tested ∷ [] else one (Loaded to Offset) ∷ []

  offset_is : (n s : ℕ) (made offset : ℤ) → s ≡ T.slot f v → n ≡ up + s → made ≡ bytes n → offset ≡ made → offset ≡ Offset
  offset_is n s made offset is sum e fit = fit ∙ e ∙ ap bytes (sum ∙ ap (λ (z : ℕ). up + z) is)

  -- a general value's slot
  to_general : (b : Bool) (load : Operation) (offset : ℤ) → b ≡ holds_branch T f v → b ≡ false → load ≡ Loaded to offset → offset ≡ Offset → one load ∷ [] ≡ load_slot T f up v to branch
  to_general b load offset h e l o = ap (λ (x : Operation). one x ∷ []) (l ∙ ap (Loaded to) o) ∙ ap Words (sym e ∙ h)

  -- a branch value's slot
  by_answer : (b : Bool) (a : GeneralRegister) (load test : Operation) (offset : ℤ) → b ≡ holds_branch T f v → b ≡ true → load ≡ Loaded a offset → a ≡ answer → offset ≡ Offset → test ≡ Tested → settled T (one load ∷ []) ++ one test ∷ [] ≡ load_slot T f up v to branch
  by_answer b a load test offset h e l is o t =
      ap (λ (x : Operation). settled T (one x ∷ []) ++ one test ∷ []) (l ∙ ap (λ (r : GeneralRegister). Loaded r offset) is ∙ ap (Loaded answer) o)
      ∙ ap (λ (x : Operation). settled T (one (Loaded answer Offset) ∷ []) ++ one x ∷ []) t
      ∙ ap Words (sym e ∙ h)

pub returns-in_ok-push_settled : goal.returns-in_ok-push_settled
returns-in_ok-push_settled c =
    let T = seen c.args.whole.now in
    let old = c.args.words.now in
    let load = c.frame_load.result in
    let test = c.to_branch.result in
    let made = c.in_ok-offset.offset in
    let fit : to_z w32 (of_z w32 made) ≡ made = search rules in
    let offset = offset_is T c.args.function c.args.up c.args.value c.args.to.general c.args.to.branch c.in_ok-sum.field-0 c.slot.result made (to_z w32 (of_z w32 made)) c.slot.ensures c.in_ok-sum.ensures c.in_ok-offset.ensures fit in
    IfOk-equal _ _ _ _ c.push_one.ensures
    (ap (λ (z : List Word). z ++ one test ∷ []) c.in_ok-push_settled.ensures
    ∙ append_assoc old (settled T (one load ∷ [])) (one test ∷ [])
    ∙ ap (λ (z : List Word). old ++ z) (by_answer T c.args.function c.args.up c.args.value c.args.to.general c.args.to.branch c.holds_branch.result c.answer.result load test (to_z w32 (of_z w32 made)) c.holds_branch.ensures c.if-holds_branch.true c.frame_load.ensures c.answer.ensures offset c.to_branch.ensures))

pub returns-else-holds_branch : goal.returns-else-holds_branch
returns-else-holds_branch c =
    let T = seen c.args.whole.now in
    let old = c.args.words.now in
    let load = c.frame_load-else-holds_branch.result in
    let made = c.in_ok-offset.offset in
    let fit : to_z w32 (of_z w32 made) ≡ made = search rules in
    let offset = offset_is T c.args.function c.args.up c.args.value c.args.to.general c.args.to.branch c.in_ok-sum.field-0 c.slot.result made (to_z w32 (of_z w32 made)) c.slot.ensures c.in_ok-sum.ensures c.in_ok-offset.ensures fit in
    IfOk-equal _ _ _ _ c.push_one-else-holds_branch.ensures
    (ap (λ (z : List Word). old ++ z) (to_general T c.args.function c.args.up c.args.value c.args.to.general c.args.to.branch c.holds_branch.result load (to_z w32 (of_z w32 made)) c.holds_branch.ensures c.if-holds_branch.false c.frame_load-else-holds_branch.ensures offset))
