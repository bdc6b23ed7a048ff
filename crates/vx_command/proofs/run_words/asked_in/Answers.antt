-- What was found, or that nothing was.
use Rattle.std.proofs.Common.{◌∙◌, ap, option_map, sym}
use Rattle.vx_command.specs.Asked.{asks}
use Rattle.vx_command.proofs.run_words.asked_in.Goals as goal

pub returns-in-Some-clause-asked : goal.returns-in-Some-clause-asked
returns-in-Some-clause-asked c = λ makes. sym (ap (option_map (asks makes)) c.in-Some.is) ∙ c.words_found.ensures makes

pub returns-in-Some-clause-refused : goal.returns-in-Some-clause-refused
returns-in-Some-clause-refused c = λ makes. tt

pub returns-in-None-clause-asked : goal.returns-in-None-clause-asked
returns-in-None-clause-asked c = λ makes. tt

pub returns-in-None-clause-refused : goal.returns-in-None-clause-refused
returns-in-None-clause-refused c = λ makes. (c.without_text.ensures, sym (ap (option_map (asks makes)) c.in-None.is) ∙ c.words_found.ensures makes)
