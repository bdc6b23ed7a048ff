-- The seed is that of the definition.
use Rattle.std.proofs.Common.{◌∙◌, ap}
use Rattle.clap.specs.Words.{found_of}
use Rattle.vx_command.specs.Command.{number_in}
use Rattle.vx_command.proofs.SoakFound.{seed_found, no_seed}
use Rattle.vx_command.proofs.soak_words.numbers_found.Goals as goal

pub returns-in-Some : goal.returns-in-Some
returns-in-Some c = seed_found (found_of c.args.found.now) c.in-Some.seed _ (c.in-Some.ensures.number ∙ ap (number_in 0 1000000000 0) c.get_str.ensures) c.with_seed.ensures

pub returns-in-None : goal.returns-in-None
returns-in-None c = no_seed (found_of c.args.found.now) (c.in-None.ensures.number ∙ ap (number_in 0 1000000000 0) c.get_str.ensures)
