use Rattle.std.proofs.Common.{◌++◌, ◌∷◌, [], ℕ, ap, ◌∙◌}
use Rattle.std.proofs.lemmas.Result.{IfOk-equal}
use Rattle.vx_isa.specs.declared.operation.GeneralRegister.{GeneralRegister}
use Rattle.vx_isa.specs.declared.operation.Operation.TheVariants.{Call, Halt}
use Rattle.vx_isa.specs.declared.operation.Source.TheVariants.{Held}
use Rattle.vx_target.specs.Target.{one, set_stack}
use Rattle.vx_slots.specs.Seen.{seen}
use Rattle.vx_slots.proofs.Settling.{onto}
use Rattle.vx_calls.proofs.call_words.push_start.Goals as goal

pub returns : goal.returns
returns c =
    let T = seen c.args.whole.now in
    let old = c.args.words.now in
    let call = one (Call c.entry-target.result) in
    let end = one (Halt (Held c.answer.result)) in
    IfOk-equal _ _ _ _ c.push_one-2.ensures
    (onto c.push_set_stack.new.words c.push_one.new.words (call ∷ []) (end ∷ []) c.in_ok-push_one.ensures
    ∙ onto old c.push_set_stack.new.words (set_stack T) (call ∷ end ∷ []) c.in_ok-push_set_stack.ensures
    ∙ ap (λ (n : ℕ). old ++ (set_stack T ++ one (Call n) ∷ end ∷ [])) c.entry-target.ensures
    ∙ ap (λ (r : GeneralRegister). old ++ (set_stack T ++ one (Call (T.entry c.args.main)) ∷ one (Halt (Held r)) ∷ [])) c.answer.ensures)
