-- The number that was found, or that none was.
use Rattle.std.proofs.Common.{◌∙◌, Some, ap}
use Rattle.vx_command.specs.Command.{number_or_none, rewriting_by}
use Rattle.vx_command.proofs.rewriting_words.with_calls.Goals as goal

pub returns-in-Some : goal.returns-in-Some
returns-in-Some c = ap (rewriting_by (Some c.args.unroll) (Some c.args.inline)) (c.in-Some.ensures.number ∙ ap (number_or_none 1 16) c.get_str.ensures)

pub returns-in-None : goal.returns-in-None
returns-in-None c = ap (rewriting_by (Some c.args.unroll) (Some c.args.inline)) (c.in-None.ensures.number ∙ ap (number_or_none 1 16) c.get_str.ensures)
