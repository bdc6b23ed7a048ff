use Rattle.std.proofs.Common.{◌≡◌, ◌++◌, ◌∷◌, [], ◌==◌, ◌&&◌, ℤ, Bool, List, true, to_z, of_z, w32, rules, sym, ap, ◌∙◌}
use Rattle.std.proofs.lemmas.Result.{IfOk-equal}
use Rattle.vx_isa.specs.Fits.{fits}
use Rattle.vx_isa.specs.declared.operation.Operation.TheVariants.{BranchOn}
use Rattle.vx_isa.specs.declared.program.Word.{Word}
use Rattle.vx_target.specs.Target.{Target, move_stack, one, stack_steps}
use Rattle.vx_slots.specs.Seen.{seen}
use Rattle.vx_calls.proofs.CallSteps.{lowers_beside, lowers_behind}
use Rattle.vx_calls.proofs.call_words.leave_or_lower.Goals as goal

module _ (T : Target) where
  abbrev Beside : ℤ → Word
  Beside z = record { ops = BranchOn 0 true T.depth_trap ∷ stack_steps T z; idle = 0 }

  abbrev Behind : ℤ → List Word
  Behind z = one (BranchOn 0 true T.depth_trap) ∷ move_stack T z

  abbrev Room : Word → Bool
  Room w = (T.machine.latency_alu == 1) && fits T.machine w.ops

pub returns-then-is_at_once : goal.returns-then-is_at_once
returns-then-is_at_once c =
    let T = seen c.args.whole.now in
    let old = c.args.words.now in
    let step = c.in_ok-step.step in
    let fit : to_z w32 (of_z w32 step) ≡ step = search rules in
    let is = c.in_ok-word.ensures ∙ ap (Beside T) (fit ∙ c.in_ok-step.ensures) in
    c.in_ok-push.ensures.ok
    ∙ ap (λ (w : Word). old ++ w ∷ []) is
    ∙ ap (λ (z : List Word). old ++ z) (sym (lowers_beside T (ap (Room T) (sym is) ∙ sym c.is_at_once.ensures ∙ c.if-is_at_once.true)))

pub returns : goal.returns
returns c =
    let T = seen c.args.whole.now in
    let old = c.args.words.now in
    let step = c.in_ok-step.step in
    let fit : to_z w32 (of_z w32 step) ≡ step = search rules in
    let is = c.in_ok-word.ensures ∙ ap (Beside T) (fit ∙ c.in_ok-step.ensures) in
    IfOk-equal _ _ _ _ c.leave_then_step.ensures
    (ap (λ (z : ℤ). old ++ Behind T z) (fit ∙ c.in_ok-step.ensures)
    ∙ ap (λ (z : List Word). old ++ z) (sym (lowers_behind T (ap (Room T) (sym is) ∙ sym c.is_at_once.ensures ∙ c.if-is_at_once.false))))
