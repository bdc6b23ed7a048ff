-- The command so far has the words so far, and what clap promises of a simple command at these words.
use Rattle.std.proofs.Common.{◌≡◌, ◌≢◌, ◌∙◌, [], inl, inr, ap, map, subst, arith}
use Rattle.std.proofs.lemmas.List.{take_all}
use Rattle.clap.specs.Simple.{app_of_fields}
use Rattle.clap.specs.Words.{App, app_of, fault_of, is_simple, is_simple_and_free, matches_of, new_app, with_rule}
use Rattle.vx_command.specs.Words.{with_words}
use Rattle.vx_command.proofs.CommandWords.{fault_then}
use Rattle.vx_command.proofs.WithWords.{one_more}
use Rattle.vx_command.proofs.command.found_or_refused.Goals as goal

pub loop-word-preserved : goal.loop-word-preserved
loop-word-preserved c =
    one_more _ (app_of c.loop-word.command) _ c.args.options.now c.loop-word.word-index _ c.loop-word-test.true c.loop-word.invariant
    (c.in-Ok.ensures.shape c.arg_of.ensures.local ∙ ap (with_rule (app_of c.loop-word.command)) c.arg_of.ensures.rule)

pub loop-word-init : goal.loop-word-init
loop-word-init c = ap app_of_fields c.about-command.ensures ∙ c.new.ensures.app

pub returns-in-Ok-try_get_matches_from-clause-none : goal.returns-in-Ok-try_get_matches_from-clause-none
returns-in-Ok-try_get_matches_from-clause-none c =
    let made : app_of c.loop-word.command ≡ with_words (new_app c.args.name.now) c.args.options.now = c.loop-word.invariant ∙ ap (with_words (new_app c.args.name.now)) (take_all c.loop-word.word-index c.args.options.now (omega (arith, c.loop-word-test.false))) in
    subst (λ (a : App). fault_of a (map (λ w. w.now) c.args.words.now) ≡ []) made (c.in-Ok-try_get_matches_from.ensures.kinds (ap is_simple_and_free made ∙ c.requires.free))

pub returns-in-Ok-try_get_matches_from-clause-rows : goal.returns-in-Ok-try_get_matches_from-clause-rows
returns-in-Ok-try_get_matches_from-clause-rows c =
    let made : app_of c.loop-word.command ≡ with_words (new_app c.args.name.now) c.args.options.now = c.loop-word.invariant ∙ ap (with_words (new_app c.args.name.now)) (take_all c.loop-word.word-index c.args.options.now (omega (arith, c.loop-word-test.false))) in
    (c.in-Ok-try_get_matches_from.ensures.matches (ap is_simple made ∙ c.requires.simple)).0 ∙ ap (λ (a : App). matches_of a (map (λ w. w.now) c.args.words.now)) made

pub returns-in-Ok-try_get_matches_from-clause-refused : goal.returns-in-Ok-try_get_matches_from-clause-refused
returns-in-Ok-try_get_matches_from-clause-refused c = tt

pub returns-in-Err-try_get_matches_from-clause-refused : goal.returns-in-Err-try_get_matches_from-clause-refused
returns-in-Err-try_get_matches_from-clause-refused c =
    let made : app_of c.loop-word.command ≡ with_words (new_app c.args.name.now) c.args.options.now = c.loop-word.invariant ∙ ap (with_words (new_app c.args.name.now)) (take_all c.loop-word.word-index c.args.options.now (omega (arith, c.loop-word-test.false))) in
    elim c.refusal_of.ensures [
      | inl memory ↦ inl memory.1
      | inr other ↦ elim (c.in-Err-try_get_matches_from.ensures.kinds (ap is_simple_and_free made ∙ c.requires.free)) [
        | inl memory ↦ absurd (other.0 memory)
        | inr among ↦ inr (other.1, subst (λ (a : App). fault_of a (map (λ w. w.now) c.args.words.now) ≢ []) made (fault_then _ _ among))
      ]
    ]

pub returns-in-Err-try_get_matches_from-clause-none : goal.returns-in-Err-try_get_matches_from-clause-none
returns-in-Err-try_get_matches_from-clause-none c = tt

pub returns-in-Err-try_get_matches_from-clause-rows : goal.returns-in-Err-try_get_matches_from-clause-rows
returns-in-Err-try_get_matches_from-clause-rows c = tt

pub returns-in-Err-clause-refused : goal.returns-in-Err-clause-refused
returns-in-Err-clause-refused c = inl c.without_text.ensures

pub returns-in-Err-clause-none : goal.returns-in-Err-clause-none
returns-in-Err-clause-none c = tt

pub returns-in-Err-clause-rows : goal.returns-in-Err-clause-rows
returns-in-Err-clause-rows c = tt
