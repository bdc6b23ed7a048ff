-- What was found, word by word.
use Rattle.clap.specs.Words.{found_of}
use Rattle.vx_command.proofs.CheckFound.{found_is}
use Rattle.vx_command.proofs.check_words.check_found.Goals as goal

pub returns : goal.returns
returns c = found_is (found_of c.args.found.now) _ _ c.text_at.ensures c.get_str.ensures
