-- The size is that of the definition.
use Rattle.std.proofs.Common.{◌∙◌, ap}
use Rattle.clap.specs.Words.{found_of}
use Rattle.vx_command.specs.Command.{number_in}
use Rattle.vx_command.proofs.SoakFound.{size_found}
use Rattle.vx_command.proofs.soak_words.with_seed.Goals as goal

pub returns-in-Some : goal.returns-in-Some
returns-in-Some c = size_found (found_of c.args.found.now) c.args.seed _ (c.in-Some.ensures.number ∙ ap (number_in 1 10000 1) c.get_str.ensures)

pub returns-in-None : goal.returns-in-None
returns-in-None c = size_found (found_of c.args.found.now) c.args.seed _ (c.in-None.ensures.number ∙ ap (number_in 1 10000 1) c.get_str.ensures)
