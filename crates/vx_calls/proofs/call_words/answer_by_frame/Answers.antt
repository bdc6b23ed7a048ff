use Rattle.std.proofs.Common.{◌++◌, ◌∷◌, [], pos, false, ap, ◌∙◌}
use Rattle.std.proofs.lemmas.Result.{IfOk-equal}
use Rattle.vx_isa.specs.declared.operation.GeneralRegister.{GeneralRegister}
use Rattle.vx_isa.specs.declared.operation.Operation.{Operation}
use Rattle.vx_isa.specs.declared.operation.Operation.TheVariants.{Load, ToLink}
use Rattle.vx_isa.specs.declared.operation.Source.TheVariants.{Held}
use Rattle.vx_target.specs.Target.{general, one, settled, stack_on, together}
use Rattle.vx_slots.specs.Seen.{seen}
use Rattle.vx_slots.proofs.Settling.{onto}
use Rattle.vx_calls.proofs.call_words.answer_by_frame.Goals as goal

pub returns : goal.returns
returns c =
    let T = seen c.args.whole.now in
    let old = c.args.words.now in
    let give = c.args.give in
    let link = settled T (one (ToLink (Held c.link_scratch.result)) ∷ []) in
    IfOk-equal _ _ _ _ c.push_settled.ensures
    (onto old c.push_settled_two.new.words (settled T (together T.machine give c.link_load.result)) link c.in_ok-push_settled_two.ensures
    ∙ ap (λ (x : Operation). old ++ (settled T (together T.machine give x) ++ link)) c.link_load.ensures
    ∙ ap (λ (r : GeneralRegister). old ++ (settled T (together T.machine give (Load 0 (general 0 3) (pos 0) (stack_on 0) false)) ++ settled T (one (ToLink (Held r)) ∷ []))) c.link_scratch.ensures)
