-- What was found, word by word.
use Rattle.std.proofs.Common.{◌∙◌, ap}
use Rattle.clap.specs.Words.{found_of}
use Rattle.vx_command.specs.Command.{budget_of}
use Rattle.vx_command.proofs.RunFound.{words_are, no_words}
use Rattle.vx_command.proofs.run_words.words_found.Goals as goal

pub returns-in-Some : goal.returns-in-Some
returns-in-Some c = λ makes.
    words_are makes (found_of c.args.found.now) c.args.file.now _ _ _ _ _ _ c.text_at.ensures c.get_str-in-Some.ensures c.get_str-in-Some-2.ensures c.text_or.ensures c.get_str-in-Some-3.ensures (c.in-Some.ensures ∙ ap budget_of c.get_str.ensures)

pub returns-in-None : goal.returns-in-None
returns-in-None c = λ makes. no_words makes (found_of c.args.found.now) c.args.file.now (c.in-None.ensures ∙ ap budget_of c.get_str.ensures)
