use Rattle.std.proofs.Common.{◌++◌, ◌∷◌, [], ℕ, ap, ◌∙◌}
use Rattle.std.proofs.lemmas.Result.{IfOk-equal}
use Rattle.vx_isa.specs.declared.operation.Operation.TheVariants.{Goto}
use Rattle.vx_target.specs.Target.{behind, one}
use Rattle.vx_slots.specs.Seen.{seen}
use Rattle.vx_slots.proofs.Settling.{onto}
use Rattle.vx_carry.proofs.carried_word.push_landing.Goals as goal

pub returns : goal.returns
returns c =
    let T = seen c.args.whole.now in
    let plan = c.args.plan.now in
    let old = c.args.words.now in
    let stored = behind T plan.function plan.items.now in
    IfOk-equal _ _ _ _ c.push_one.ensures
    (onto old c.push_behind.new.words stored (one (Goto c.start-target.result) ∷ []) c.in_ok-push_behind.ensures
    ∙ ap (λ (n : ℕ). old ++ (stored ++ one (Goto n) ∷ [])) (c.start-target.ensures ∙ ap (T.starts plan.function) c.past.ensures))
