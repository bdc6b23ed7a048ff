use Rattle.std.proofs.Common.{◌++◌, ◌+◌, ◌∷◌, ℕ, List, ap, ◌∙◌}
use Rattle.std.proofs.lemmas.Result.{IfOk-equal}
use Rattle.vx_base.specs.declared.arithmetic.Code.TheVariants.{ToBranch}
use Rattle.vx_base.specs.declared.arithmetic.Compare.TheVariants.{Ltu}
use Rattle.vx_isa.specs.declared.operation.Operation.TheVariants.{Compute}
use Rattle.vx_isa.specs.declared.operation.Register.TheVariants.{Branch as InBranch}
use Rattle.vx_isa.specs.declared.operation.Source.TheVariants.{Held, Number}
use Rattle.vx_isa.specs.declared.program.Word.{Word}
use Rattle.vx_target.specs.Target.{Target, argument_words, bytes, leave_or_lower, one, save_words, settled, stack_on}
use Rattle.vx_slots.specs.Seen.{seen}
use Rattle.vx_slots.proofs.Settling.{onto}
use Rattle.vx_calls.proofs.call_words.push_call.Goals as goal

-- the test of the depth, while values are saved
abbrev Saving : Target → ℕ → List ℕ → List Word
Saving T f values = settled T (one (Compute 0 (ToBranch Ltu) (InBranch (record { cluster = 0; number = 0 })) (Held (stack_on 0)) (Number (bytes (T.globals + T.frame)))) ∷ save_words T f values)

pub returns : goal.returns
returns c =
    let T = seen c.args.whole.now in
    let f = c.args.function in
    let old = c.args.words.now in
    let arguments = c.args.arguments.now in
    let lower = leave_or_lower T in
    let passed = argument_words T f c.args.called c.parameters-passed.result.now arguments in
    IfOk-equal _ _ _ _ c.pass_all.ensures
    (onto c.test_and_save.new.words c.leave_or_lower.new.words lower passed c.in_ok-leave_or_lower.ensures
    ∙ onto old c.test_and_save.new.words (Saving T f c.saved.result.now) (lower ++ passed) c.in_ok-test_and_save.ensures
    ∙ ap (λ (z : List ℕ). old ++ (Saving T f z ++ (lower ++ passed))) c.saved.ensures
    ∙ ap (λ (z : List ℕ). old ++ (Saving T f (T.saved f c.args.place) ++ (lower ++ argument_words T f c.args.called z arguments))) c.parameters-passed.ensures)
