use Rattle.std.proofs.Common.{◌++◌, ◌∷◌, [], Bool, List, pos, sym, ap, ◌∙◌}
use Rattle.std.proofs.lemmas.Result.{IfOk-equal}
use Rattle.std.specs.Prelude.{if◌then◌else◌}
use Rattle.vx_isa.specs.declared.operation.GeneralRegister.{GeneralRegister}
use Rattle.vx_isa.specs.declared.operation.Operation.TheVariants.{FromLink, Store}
use Rattle.vx_isa.specs.declared.operation.Source.TheVariants.{Held}
use Rattle.vx_isa.specs.declared.program.Word.{Word}
use Rattle.vx_target.specs.Target.{Target, general, one, settled, stack_on}
use Rattle.vx_slots.specs.Seen.{seen}
use Rattle.vx_slots.proofs.Settling.{onto}
use Rattle.vx_calls.proofs.call_words.keep_link.Goals as goal

abbrev Kept : Target → (from base by : GeneralRegister) → List Word
Kept T from base by = settled T (one (FromLink from) ∷ []) ++ one (Store 0 (pos 0) base (Held by)) ∷ []

pub returns : goal.returns
returns c =
    let T = seen c.args.whole.now in
    let old = c.args.words.now in
    let from = c.link_scratch.result in
    let base = c.stack_on.result in
    let by = c.link_scratch-2.result in
    IfOk-equal _ _ _ _ c.push_one.ensures
    (onto old c.push_settled.new.words (settled T (one (FromLink from) ∷ [])) (one (Store 0 (pos 0) base (Held by)) ∷ []) c.in_ok-push_settled.ensures
    ∙ ap (λ (r : GeneralRegister). old ++ Kept T r base by) c.link_scratch.ensures
    ∙ ap (λ (r : GeneralRegister). old ++ Kept T (general 0 3) r by) c.stack_on.ensures
    ∙ ap (λ (r : GeneralRegister). old ++ Kept T (general 0 3) (stack_on 0) r) c.link_scratch-2.ensures
    ∙ ap (λ (b : Bool). old ++ (if b then Kept T (general 0 3) (stack_on 0) (general 0 3) else [])) (sym c.if-not-is_caller.false ∙ c.is_caller.ensures))
