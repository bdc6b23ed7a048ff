-- The numbers that were found, or that one is none.
use Rattle.std.proofs.Common.{◌∙◌, Some, None, ap, refl}
use Rattle.clap.specs.Words.{found_of}
use Rattle.vx_command.specs.Command.{number_or_none}
use Rattle.vx_command.proofs.CommandWords.{rewriting_is}
use Rattle.vx_command.proofs.rewriting_words.rewriting_found.Goals as goal

pub returns-in-Some-number_or_none : goal.returns-in-Some-number_or_none
returns-in-Some-number_or_none c =
    c.with_calls.ensures ∙ rewriting_is (found_of c.args.found.now) (Some c.in-Some.unroll) (Some c.in-Some-number_or_none.inline) _ (c.in-Some.ensures.number ∙ ap (number_or_none 2 8) c.get_str.ensures) (c.in-Some-number_or_none.ensures.number ∙ ap (number_or_none 1 4000) c.get_str-in-Some.ensures) refl

pub returns-in-None-number_or_none : goal.returns-in-None-number_or_none
returns-in-None-number_or_none c =
    rewriting_is (found_of c.args.found.now) (Some c.in-Some.unroll) None _ (c.in-Some.ensures.number ∙ ap (number_or_none 2 8) c.get_str.ensures) (c.in-None-number_or_none.ensures.number ∙ ap (number_or_none 1 4000) c.get_str-in-Some.ensures) refl

pub returns-in-None : goal.returns-in-None
returns-in-None c = rewriting_is (found_of c.args.found.now) None _ _ (c.in-None.ensures.number ∙ ap (number_or_none 2 8) c.get_str.ensures) refl refl
