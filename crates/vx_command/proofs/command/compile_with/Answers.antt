-- What was found, word by word.
use Rattle.clap.specs.Words.{found_of}
use Rattle.vx_command.specs.Asked.{rewriting_asked}
use Rattle.vx_command.proofs.CommandWords.{found_is}
use Rattle.vx_command.proofs.command.compile_with.Goals as goal

pub returns : goal.returns
returns c = found_is (found_of c.args.found.now) _ _ _ _ _ c.args.growth (rewriting_asked c.args.rewriting) c.text_at.ensures c.text_at-2.ensures c.get_str.ensures c.get_str-2.ensures c.get_str-3.ensures
