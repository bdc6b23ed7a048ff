use Rattle.std.proofs.Common.{◌≡◌, ◌++◌, ◌∷◌, [], ℕ, ℤ, Bool, List, Option, Some, true, false, to_z, of_z, w32, rules, ap, sym, ◌∙◌}
use Rattle.std.proofs.lemmas.Result.{IfOk-equal}
use Rattle.std.specs.Prelude.{if◌then◌else◌}
use Rattle.vx_isa.specs.declared.operation.GeneralRegister.{GeneralRegister}
use Rattle.vx_isa.specs.declared.operation.Operation.TheVariants.{Move, Store}
use Rattle.vx_isa.specs.declared.operation.Source.TheVariants.{Held}
use Rattle.vx_isa.specs.declared.program.Word.{Word}
use Rattle.vx_target.specs.Target.{Target, answer, bytes, general_of, home, is_slotted, kept, one, result_words, settled, stack_on}
use Rattle.vx_slots.specs.Seen.{seen}
use Rattle.vx_calls.proofs.call_words.take_result.Goals as goal

module _ (T : Target) (f v : ℕ) where
  abbrev Copied : ℕ → GeneralRegister → GeneralRegister → List Word
  Copied k to from = settled T (one (Move k to (Held from)) ∷ [])

  abbrev Stored : ℤ → GeneralRegister → GeneralRegister → List Word
  Stored offset base from = one (Store 0 offset base (Held from)) ∷ []

  abbrev Taken : Bool → List Word
  Taken b = if b then Stored (bytes (T.slot f v)) (stack_on 0) answer else Copied (home T f v) (general_of T f (v ∷ []) v) answer

  -- a result that is kept in a register, and one that is not
  copied : (taken : Option ℕ) (slotted : Bool) (k : ℕ) (to from : GeneralRegister) → taken ≡ Some v → slotted ≡ is_slotted (kept T f v) → slotted ≡ false → k ≡ home T f v → to ≡ general_of T f (v ∷ []) v → from ≡ answer → Copied k to from ≡ result_words T f taken
  copied taken slotted k to from is s e cluster register a =
      ap (λ (n : ℕ). Copied n to from) cluster
      ∙ ap (λ (r : GeneralRegister). Copied (home T f v) r from) register
      ∙ ap (λ (r : GeneralRegister). Copied (home T f v) (general_of T f (v ∷ []) v) r) a
      ∙ ap Taken (sym e ∙ s)
      ∙ ap (λ (x : Option ℕ). result_words T f x) (sym is)

  stored : (taken : Option ℕ) (slotted : Bool) (n : ℕ) (made offset : ℤ) (base from : GeneralRegister) → taken ≡ Some v → slotted ≡ is_slotted (kept T f v) → slotted ≡ true → offset ≡ made → made ≡ bytes n → n ≡ T.slot f v → base ≡ stack_on 0 → from ≡ answer → Stored offset base from ≡ result_words T f taken
  stored taken slotted n made offset base from is s e fit o slot b a =
      ap (λ (z : ℤ). Stored z base from) (fit ∙ o ∙ ap bytes slot)
      ∙ ap (λ (r : GeneralRegister). Stored (bytes (T.slot f v)) r from) b
      ∙ ap (λ (r : GeneralRegister). Stored (bytes (T.slot f v)) (stack_on 0) r) a
      ∙ ap Taken (sym e ∙ s)
      ∙ ap (λ (x : Option ℕ). result_words T f x) (sym is)

pub returns-then-is_slotted : goal.returns-then-is_slotted
returns-then-is_slotted c =
    let made = c.in_ok-bytes.field-0 in
    let fit : to_z w32 (of_z w32 made) ≡ made = search rules in
    IfOk-equal _ _ _ _ c.push_one.ensures
    (ap (λ (z : List Word). c.args.words.now ++ z) (stored (seen c.args.whole.now) c.args.function c.in-Some.value c.args.taken c.is_slotted.result c.slot.result made (to_z w32 (of_z w32 made)) c.stack_on.result c.answer.result
    c.in-Some.is c.is_slotted.ensures c.if-is_slotted.true fit c.in_ok-bytes.ensures c.slot.ensures c.stack_on.ensures c.answer.ensures))

pub returns : goal.returns
returns c =
    IfOk-equal _ _ _ _ c.push_settled.ensures
    (ap (λ (z : List Word). c.args.words.now ++ z) (copied (seen c.args.whole.now) c.args.function c.in-Some.value c.args.taken c.is_slotted.result c.home.result c.general_of.result c.answer-2.result
    c.in-Some.is c.is_slotted.ensures c.if-is_slotted.false c.home.ensures c.general_of.ensures c.answer-2.ensures))
