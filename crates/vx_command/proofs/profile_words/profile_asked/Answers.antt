-- What was found in the words of `profile`, and that they are refused.
use Rattle.std.proofs.Common.{◌∙◌, inl, inr, map, refl, sym}
use Rattle.std.proofs.lemmas.Result.{IfOk-weaker, IfErr-weaker}
use Rattle.clap.specs.Words.{found_of, rows_of}
use Rattle.vx_command.specs.Command.{profile_app}
use Rattle.vx_command.proofs.ProfileFound.{profile_is_simple, profile_is_free, profile_taken, profile_refused}
use Rattle.vx_command.proofs.profile_words.profile_asked.Goals as goal

pub found_or_refused-requires : goal.found_or_refused-requires
unfolding profile_app
found_or_refused-requires c = record { simple = profile_is_simple; free = profile_is_free }

pub returns-in-Ok-clause-asked : goal.returns-in-Ok-clause-asked
unfolding profile_app
returns-in-Ok-clause-asked c =
    let is = profile_taken profile_app refl (map (λ w. w.now) c.args.words.now) (rows_of (found_of c.in-Ok.found)) c.in-Ok.ensures.none c.in-Ok.ensures.rows in
    IfOk-weaker c.profile_found-asked.result _ _ (λ asked same. is ∙ sym same) c.profile_found-asked.ensures.asked

pub returns-in-Ok-clause-refused : goal.returns-in-Ok-clause-refused
unfolding profile_app
returns-in-Ok-clause-refused c =
    let is = profile_taken profile_app refl (map (λ w. w.now) c.args.words.now) (rows_of (found_of c.in-Ok.found)) c.in-Ok.ensures.none c.in-Ok.ensures.rows in
    IfErr-weaker c.profile_found-asked.result _ _ (λ _ why. inr (why.0, is ∙ sym why.1)) c.profile_found-asked.ensures.refused

pub returns-in-Err-clause-refused : goal.returns-in-Err-clause-refused
unfolding profile_app
returns-in-Err-clause-refused c = elim c.in-Err.ensures.refused [
  | inl memory ↦ inl memory
  | inr usage ↦ inr (usage.0, profile_refused profile_app refl (map (λ w. w.now) c.args.words.now) usage.1)
]

pub returns-in-Err-clause-asked : goal.returns-in-Err-clause-asked
returns-in-Err-clause-asked c = tt
