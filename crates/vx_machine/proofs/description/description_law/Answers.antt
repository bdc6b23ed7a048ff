use Rattle.vx_machine.proofs.ReadsLaw.{reads_in_words}
use Rattle.vx_machine.proofs.description.description_law.Goals as goal

pub returns : goal.returns
returns c = reads_in_words
