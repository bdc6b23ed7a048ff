-- The number of the text that is there.
use Rattle.std.proofs.Common.{◌∙◌, Some, ap, sym, option_map}
use Rattle.vx_command.specs.Command.{number_or_none}
use Rattle.vx_command.proofs.options.number_or_none.Goals as goal

pub returns-in-Some-number_in-clause-number : goal.returns-in-Some-number_in-clause-number
returns-in-Some-number_in-clause-number c = ap (option_map Some) (c.in-Some-number_in.ensures.number c.args.low) ∙ ap (number_or_none c.args.low c.args.high) (sym (ap (option_map (λ s. s.now)) c.in-Some.is))

pub returns-in-None-number_in-clause-number : goal.returns-in-None-number_in-clause-number
returns-in-None-number_in-clause-number c = ap (option_map Some) (c.in-None-number_in.ensures.number c.args.low) ∙ ap (number_or_none c.args.low c.args.high) (sym (ap (option_map (λ s. s.now)) c.in-Some.is))
