-- What was found with the number of blocks and what is to be rewritten, where both were.
use Rattle.std.proofs.Common.{◌∙◌, ap}
use Rattle.clap.specs.Words.{found_of}
use Rattle.vx_command.specs.Asked.{rewriting_asked}
use Rattle.vx_command.specs.Command.{budget_of}
use Rattle.vx_command.proofs.ProfileFound.{all_found, no_blocks_found, none_found}
use Rattle.vx_command.proofs.profile_words.profile_found.Goals as goal

pub returns-in-Some-rewriting_found-clause-asked : goal.returns-in-Some-rewriting_found-clause-asked
returns-in-Some-rewriting_found-clause-asked c =
    all_found (found_of c.args.found.now) c.in-Some.blocks (rewriting_asked c.in-Some-rewriting_found.rewriting) _ (c.in-Some.ensures ∙ ap budget_of c.get_str.ensures) c.in-Some-rewriting_found.ensures c.profile_with.ensures

pub returns-in-None-rewriting_found-clause-refused : goal.returns-in-None-rewriting_found-clause-refused
returns-in-None-rewriting_found-clause-refused c = (c.without_text.ensures, none_found (found_of c.args.found.now) c.in-Some.blocks (c.in-Some.ensures ∙ ap budget_of c.get_str.ensures) c.in-None-rewriting_found.ensures)

pub returns-in-None-clause-refused : goal.returns-in-None-clause-refused
returns-in-None-clause-refused c = (c.without_text-in-None.ensures, no_blocks_found (found_of c.args.found.now) (c.in-None.ensures ∙ ap budget_of c.get_str.ensures))
