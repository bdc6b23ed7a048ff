-- What was found in the words of `check`, and that they are refused.
use Rattle.std.proofs.Common.{◌∙◌, Some, ap, inl, inr, map, refl, sym}
use Rattle.clap.specs.Words.{found_of, rows_of}
use Rattle.vx_command.specs.Command.{check_app}
use Rattle.vx_command.proofs.CheckFound.{check_is_simple, check_is_free, check_taken, check_refused}
use Rattle.vx_command.proofs.check_words.check_asked.Goals as goal

pub found_or_refused-requires : goal.found_or_refused-requires
unfolding check_app
found_or_refused-requires c = record { simple = check_is_simple; free = check_is_free }

pub returns-in-Ok-clause-asked : goal.returns-in-Ok-clause-asked
unfolding check_app
returns-in-Ok-clause-asked c =
    check_taken check_app refl (map (λ w. w.now) c.args.words.now) (rows_of (found_of c.in-Ok.found)) c.in-Ok.ensures.none c.in-Ok.ensures.rows ∙ ap Some (sym c.check_found-asked.ensures)

pub returns-in-Ok-clause-refused : goal.returns-in-Ok-clause-refused
returns-in-Ok-clause-refused c = tt

pub returns-in-Err-clause-refused : goal.returns-in-Err-clause-refused
unfolding check_app
returns-in-Err-clause-refused c = elim c.in-Err.ensures.refused [
  | inl memory ↦ inl memory
  | inr usage ↦ inr (usage.0, check_refused check_app refl (map (λ w. w.now) c.args.words.now) usage.1)
]

pub returns-in-Err-clause-asked : goal.returns-in-Err-clause-asked
returns-in-Err-clause-asked c = tt
