use Rattle.vx_select.proofs.laws.lesser_is_chosen.Goals as goal
use Rattle.vx_select.proofs.Lesser.{lesser_is_chosen}

pub returns : goal.returns
returns c = lesser_is_chosen
