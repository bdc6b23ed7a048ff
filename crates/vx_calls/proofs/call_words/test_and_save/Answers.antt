use Rattle.std.proofs.Common.{◌≡◌, ◌++◌, ◌∷◌, [], ℤ, to_z, of_z, w32, rules, ap, ◌∙◌}
use Rattle.std.proofs.lemmas.Result.{IfOk-equal}
use Rattle.vx_base.specs.declared.arithmetic.Code.TheVariants.{ToBranch}
use Rattle.vx_base.specs.declared.arithmetic.Compare.TheVariants.{Ltu}
use Rattle.vx_isa.specs.declared.operation.Operation.{Operation}
use Rattle.vx_isa.specs.declared.operation.Operation.TheVariants.{Compute}
use Rattle.vx_isa.specs.declared.operation.Register.TheVariants.{Branch as InBranch}
use Rattle.vx_isa.specs.declared.operation.Source.TheVariants.{Held, Number}
use Rattle.vx_target.specs.Target.{bytes, one, save_words, settled, stack_on}
use Rattle.vx_slots.specs.Seen.{seen}
use Rattle.vx_calls.proofs.CallSteps.{behind_both}
use Rattle.vx_slots.proofs.Settling.{begins_within, settles}
use Rattle.vx_calls.proofs.call_words.test_and_save.Goals as goal

abbrev Tested : ℤ → Operation
Tested least = Compute 0 (ToBranch Ltu) (InBranch (record { cluster = 0; number = 0 })) (Held (stack_on 0)) (Number least)

pub push_wait-requires : goal.push_wait-requires
push_wait-requires c =
    let saved = save_words (seen c.args.whole.now) c.args.function c.args.values.now in
    let both = behind_both c.args.words.now c.push_one.new.words c.save.new.words (one c.depth_test.result ∷ []) saved c.in_ok-push_one.ensures c.in_ok-save.ensures in
    begins_within c.len-begin.result c.args.words.now c.save.new.words _ c.len-begin.ensures.len both

pub returns : goal.returns
returns c =
    let T = seen c.args.whole.now in
    let old = c.args.words.now in
    let saved = save_words T c.args.function c.args.values.now in
    let both = behind_both old c.push_one.new.words c.save.new.words (one c.depth_test.result ∷ []) saved c.in_ok-push_one.ensures c.in_ok-save.ensures in
    let least = c.in_ok-least.least in
    let fit : to_z w32 (of_z w32 least) ≡ least = search rules in
    IfOk-equal _ _ _ _ c.push_wait.ensures
    (settles T c.len-begin.result old c.save.new.words _ c.len-begin.ensures.len both
    ∙ ap (λ (x : Operation). old ++ settled T (one x ∷ saved)) (c.depth_test.ensures ∙ ap Tested (fit ∙ c.in_ok-least.ensures ∙ ap bytes c.in_ok-sum.ensures)))
