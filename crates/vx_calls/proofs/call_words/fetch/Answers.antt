use Rattle.std.proofs.Common.{◌≡◌, ◌++◌, ◌∷◌, [], ℕ, Bool, List, true, ap, sym, ◌∙◌}
use Rattle.std.proofs.lemmas.Result.{IfOk-equal}
use Rattle.std.specs.Prelude.{if◌then◌else◌}
use Rattle.vx_flow.specs.declared.graph.Operand.{Operand}
use Rattle.vx_flow.specs.declared.graph.Operand.TheVariants as operands
use Rattle.vx_isa.specs.declared.operation.GeneralRegister.{GeneralRegister}
use Rattle.vx_isa.specs.declared.program.Word.{Word}
use Rattle.vx_target.specs.Target.{Target, branch_of, fetch_words, general_of, is_slotted, kept, load_slot, settled}
use Rattle.vx_slots.specs.Seen.{seen}
use Rattle.vx_slots.proofs.Settling.{begins_within, settles}
use Rattle.vx_calls.proofs.call_words.fetch.Goals as goal

module _ (T : Target) (f up v : ℕ) where
  abbrev Loaded : GeneralRegister → ℕ → List Word
  Loaded g b = settled T (load_slot T f up v g b)

  -- what is brought is in a slot
  fetched_is : (x : Operand) (slotted : Bool) (g : GeneralRegister) (b : ℕ) → x ≡ operands.Held v → slotted ≡ is_slotted (kept T f v) → slotted ≡ true → g ≡ general_of T f (v ∷ []) v → b ≡ branch_of T f (v ∷ []) v → Loaded g b ≡ fetch_words T f up x
  fetched_is x slotted g b is s e general branch =
      ap (λ (r : GeneralRegister). Loaded r b) general
      ∙ ap (λ (k : ℕ). Loaded (general_of T f (v ∷ []) v) k) branch
      ∙ ap (λ (z : Bool). if z then Loaded (general_of T f (v ∷ []) v) (branch_of T f (v ∷ []) v) else []) (sym e ∙ s)
      ∙ ap (λ (z : Operand). fetch_words T f up z) (sym is)

pub push_wait-requires : goal.push_wait-requires
push_wait-requires c = begins_within c.len-begin.result c.args.words.now c.load_slot.new.words _ c.len-begin.ensures.len c.in_ok-load_slot-in-Held.ensures

pub returns-in_ok-load_slot-in-Held : goal.returns-in_ok-load_slot-in-Held
returns-in_ok-load_slot-in-Held c =
    let T = seen c.args.whole.now in
    let old = c.args.words.now in
    IfOk-equal _ _ _ _ c.push_wait.ensures
    (settles T c.len-begin.result old c.load_slot.new.words _ c.len-begin.ensures.len c.in_ok-load_slot-in-Held.ensures
    ∙ ap (λ (z : List Word). old ++ z) (fetched_is T c.args.function c.args.up c.in-Held.value c.args.operand c.is_slotted.result _ _ c.in-Held.is c.is_slotted.ensures c.if-is_slotted.true c.in_ok-to-in-Held.ensures.general c.in_ok-to-in-Held.ensures.branch))
