-- What was found, word by word.
use Rattle.clap.specs.Words.{found_of}
use Rattle.vx_command.specs.Asked.{rewriting_asked}
use Rattle.vx_command.proofs.ProfileFound.{found_is}
use Rattle.vx_command.proofs.profile_words.profile_with.Goals as goal

pub returns : goal.returns
returns c = found_is (found_of c.args.found.now) _ _ c.args.blocks (rewriting_asked c.args.rewriting) c.text_at.ensures c.get_str.ensures
