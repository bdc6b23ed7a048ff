-- The number of the text that is there.
use Rattle.std.proofs.Common.{◌∙◌, ap, sym, option_map}
use Rattle.vx_command.specs.Command.{number_in}
use Rattle.vx_command.proofs.options.number_or_least.Goals as goal

pub returns-in-Some-clause-number : goal.returns-in-Some-clause-number
returns-in-Some-clause-number c = c.number_in.ensures.number c.args.low ∙ ap (number_in c.args.low c.args.high c.args.low) (sym (ap (option_map (λ s. s.now)) c.in-Some.is))
