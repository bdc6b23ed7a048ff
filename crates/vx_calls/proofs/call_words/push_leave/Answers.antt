use Rattle.std.proofs.Common.{◌≡◌, ◌++◌, ◌∷◌, [], ℕ, Bool, List, pos, true, false, ap, sym, ◌∙◌}
use Rattle.std.proofs.lemmas.Result.{IfOk-equal}
use Rattle.std.specs.Prelude.{if◌then◌else◌}
use Rattle.vx_flow.specs.declared.graph.Operand.{Operand}
use Rattle.vx_isa.specs.declared.operation.GeneralRegister.{GeneralRegister}
use Rattle.vx_isa.specs.declared.operation.Operation.{Operation}
use Rattle.vx_isa.specs.declared.operation.Operation.TheVariants.{Load, Move, Return, ToLink}
use Rattle.vx_isa.specs.declared.operation.Source.{Source}
use Rattle.vx_isa.specs.declared.operation.Source.TheVariants.{Held}
use Rattle.vx_isa.specs.declared.program.Word.{Word}
use Rattle.vx_target.specs.Target.{Target, answer, fetched, general, is_caller, last_beside, leave_words, one, settled, stack_on, together}
use Rattle.vx_slots.specs.Seen.{seen}
use Rattle.vx_slots.proofs.Settling.{onto}
use Rattle.vx_calls.proofs.call_words.push_leave.Goals as goal

module _ (T : Target) (f : ℕ) (x : Operand) where
  abbrev ByFrame : Operation → List Word
  ByFrame give = settled T (together T.machine give (Load 0 (general 0 3) (pos 0) (stack_on 0) false)) ++ settled T (one (ToLink (Held (general 0 3))) ∷ [])

  abbrev Gives : Operation
  Gives = Move 0 answer (fetched T f x)

  abbrev Leaves : Bool → List Word
  Leaves b = if b then ByFrame Gives ++ one Return ∷ [] else last_beside T Gives Return

  gives : (a : GeneralRegister) (from : Source) → a ≡ answer → from ≡ fetched T f x → Move 0 a from ≡ Gives
  gives a from is e = ap (λ (r : GeneralRegister). Move 0 r from) is ∙ ap (λ (s : Source). Move 0 answer s) e

  by_frame : (give : Operation) (caller : Bool) → give ≡ Gives → caller ≡ is_caller T f → caller ≡ true → ByFrame give ++ one Return ∷ [] ≡ leave_words T f x
  by_frame give caller g is e = ap (λ (o : Operation). ByFrame o ++ one Return ∷ []) g ∙ ap Leaves (sym e ∙ is)

  alone : (give : Operation) (caller : Bool) → give ≡ Gives → caller ≡ is_caller T f → caller ≡ false → last_beside T give Return ≡ leave_words T f x
  alone give caller g is e = ap (λ (o : Operation). last_beside T o Return) g ∙ ap Leaves (sym e ∙ is)

pub returns-then-is_caller : goal.returns-then-is_caller
returns-then-is_caller c =
    let T = seen c.args.whole.now in
    let f = c.args.function in
    let x = c.args.operand in
    let old = c.args.words.now in
    let give = Move 0 c.answer.result c.fetched.result in
    IfOk-equal _ _ _ _ c.push_one.ensures
    (onto old c.answer_by_frame.new.words (ByFrame T f x give) (one Return ∷ []) c.in_ok-answer_by_frame.ensures
    ∙ ap (λ (z : List Word). old ++ z) (by_frame T f x give c.is_caller.result (gives T f x _ _ c.answer.ensures c.fetched.ensures) c.is_caller.ensures c.if-is_caller.true))

pub returns : goal.returns
returns c =
    let T = seen c.args.whole.now in
    let f = c.args.function in
    let x = c.args.operand in
    let old = c.args.words.now in
    IfOk-equal _ _ _ _ c.push_last.ensures
    (ap (λ (z : List Word). old ++ z) (alone T f x (Move 0 c.answer.result c.fetched.result) c.is_caller.result (gives T f x _ _ c.answer.ensures c.fetched.ensures) c.is_caller.ensures c.if-is_caller.false))
