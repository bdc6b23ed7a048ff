use Rattle.vx_linear.proofs.Apart.{never_law}
use Rattle.vx_linear.proofs.laws.never_touch_one_word.Goals as goal

pub returns : goal.returns
returns c = never_law
