use Rattle.vx_tie.proofs.Simple.{simple_law}
use Rattle.vx_tie.proofs.laws.other_words_are_carried.Goals as goal

pub returns : goal.returns
returns c = simple_law
