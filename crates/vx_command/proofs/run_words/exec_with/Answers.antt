-- A run's words with the number of operations and what is to be rewritten.
use Rattle.std.proofs.Common.{option_map}
use Rattle.vx_command.specs.Asked.{rewriting_asked}
use Rattle.vx_command.specs.Command.{executes}
use Rattle.vx_command.proofs.run_words.exec_with.Goals as goal

pub returns-in-Ok-clause-asked : goal.returns-in-Ok-clause-asked
returns-in-Ok-clause-asked c = c.in-Ok.ensures.asked (executes (option_map (λ s. s.now) c.args.profile) c.args.growth (rewriting_asked c.args.rewriting))

pub returns-in-Err-clause-refused : goal.returns-in-Err-clause-refused
returns-in-Err-clause-refused c = c.in-Err.ensures.refused (executes (option_map (λ s. s.now) c.args.profile) c.args.growth (rewriting_asked c.args.rewriting))
