-- What was found in the words of `compile`, and that they are refused.
use Rattle.std.proofs.Common.{◌∙◌, inl, inr, map, refl, sym}
use Rattle.std.proofs.lemmas.Result.{IfOk-weaker, IfErr-weaker}
use Rattle.clap.specs.Words.{found_of, rows_of}
use Rattle.vx_command.specs.Command.{compile_app}
use Rattle.vx_command.proofs.CommandWords.{compile_is_simple, compile_is_free, taken, refused}
use Rattle.vx_command.proofs.command.compile_asked.Goals as goal

pub found_or_refused-requires : goal.found_or_refused-requires
unfolding compile_app
found_or_refused-requires c = record { simple = compile_is_simple; free = compile_is_free }

pub returns-in-Ok-clause-asked : goal.returns-in-Ok-clause-asked
unfolding compile_app
returns-in-Ok-clause-asked c =
    let is = taken compile_app refl (map (λ w. w.now) c.args.words.now) (rows_of (found_of c.in-Ok.found)) c.in-Ok.ensures.none c.in-Ok.ensures.rows in
    IfOk-weaker c.compile_found-asked.result _ _ (λ asked same. is ∙ sym same) c.compile_found-asked.ensures.asked

pub returns-in-Ok-clause-refused : goal.returns-in-Ok-clause-refused
unfolding compile_app
returns-in-Ok-clause-refused c =
    let is = taken compile_app refl (map (λ w. w.now) c.args.words.now) (rows_of (found_of c.in-Ok.found)) c.in-Ok.ensures.none c.in-Ok.ensures.rows in
    IfErr-weaker c.compile_found-asked.result _ _ (λ _ why. inr (why.0, is ∙ sym why.1)) c.compile_found-asked.ensures.refused

pub returns-in-Err-clause-refused : goal.returns-in-Err-clause-refused
unfolding compile_app
returns-in-Err-clause-refused c = elim c.in-Err.ensures.refused [
  | inl memory ↦ inl memory
  | inr usage ↦ inr (usage.0, refused compile_app refl (map (λ w. w.now) c.args.words.now) usage.1)
]

pub returns-in-Err-clause-asked : goal.returns-in-Err-clause-asked
returns-in-Err-clause-asked c = tt
