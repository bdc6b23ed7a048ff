-- What was found with the number of operations and what is to be rewritten, where both were.
use Rattle.std.proofs.Common.{◌∙◌, None, ap}
use Rattle.std.proofs.lemmas.Result.{IfOk-weaker, IfErr-weaker}
use Rattle.clap.specs.Words.{found_of}
use Rattle.vx_command.specs.Asked.{rewriting_asked}
use Rattle.vx_command.specs.Command.{growth_of}
use Rattle.vx_command.proofs.RunFound.{with_both, no_growth, no_rewriting}
use Rattle.vx_command.proofs.run_words.exec_found.Goals as goal

pub returns-in-Some-rewriting_found-clause-asked : goal.returns-in-Some-rewriting_found-clause-asked
returns-in-Some-rewriting_found-clause-asked c =
    IfOk-weaker c.exec_with.result _ _
    (λ asked is. with_both (found_of c.args.found.now) _ c.in-Some.growth (rewriting_asked c.in-Some-rewriting_found.rewriting) _ c.get_str-in-Some-rewriting_found.ensures (c.in-Some.ensures ∙ ap growth_of c.get_str.ensures) c.in-Some-rewriting_found.ensures is) c.exec_with.ensures.asked

pub returns-in-Some-rewriting_found-clause-refused : goal.returns-in-Some-rewriting_found-clause-refused
returns-in-Some-rewriting_found-clause-refused c =
    IfErr-weaker c.exec_with.result _ _
    (λ _ why. (why.0, with_both (found_of c.args.found.now) _ c.in-Some.growth (rewriting_asked c.in-Some-rewriting_found.rewriting) None c.get_str-in-Some-rewriting_found.ensures (c.in-Some.ensures ∙ ap growth_of c.get_str.ensures) c.in-Some-rewriting_found.ensures why.1)) c.exec_with.ensures.refused

pub returns-in-None-rewriting_found-clause-refused : goal.returns-in-None-rewriting_found-clause-refused
returns-in-None-rewriting_found-clause-refused c = (c.without_text.ensures, no_rewriting (found_of c.args.found.now) c.in-Some.growth (c.in-Some.ensures ∙ ap growth_of c.get_str.ensures) c.in-None-rewriting_found.ensures)

pub returns-in-None-clause-refused : goal.returns-in-None-clause-refused
returns-in-None-clause-refused c = (c.without_text-in-None.ensures, no_growth (found_of c.args.found.now) (c.in-None.ensures ∙ ap growth_of c.get_str.ensures))
