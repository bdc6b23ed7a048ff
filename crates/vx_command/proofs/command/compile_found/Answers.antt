-- What was found with the number of operations and what is to be rewritten, where both were.
use Rattle.std.proofs.Common.{◌∙◌, ap}
use Rattle.clap.specs.Words.{found_of}
use Rattle.vx_command.specs.Asked.{rewriting_asked}
use Rattle.vx_command.specs.Command.{growth_of}
use Rattle.vx_command.proofs.CommandWords.{all_found, no_growth_found, none_found}
use Rattle.vx_command.proofs.command.compile_found.Goals as goal

pub returns-in-Some-rewriting_found-clause-asked : goal.returns-in-Some-rewriting_found-clause-asked
returns-in-Some-rewriting_found-clause-asked c =
    all_found (found_of c.args.found.now) c.in-Some.growth (rewriting_asked c.in-Some-rewriting_found.rewriting) _ (c.in-Some.ensures ∙ ap growth_of c.get_str.ensures) c.in-Some-rewriting_found.ensures c.compile_with.ensures

pub returns-in-None-rewriting_found-clause-refused : goal.returns-in-None-rewriting_found-clause-refused
returns-in-None-rewriting_found-clause-refused c = (c.without_text.ensures, none_found (found_of c.args.found.now) c.in-Some.growth (c.in-Some.ensures ∙ ap growth_of c.get_str.ensures) c.in-None-rewriting_found.ensures)

pub returns-in-None-clause-refused : goal.returns-in-None-clause-refused
returns-in-None-clause-refused c = (c.without_text-in-None.ensures, no_growth_found (found_of c.args.found.now) (c.in-None.ensures ∙ ap growth_of c.get_str.ensures))
