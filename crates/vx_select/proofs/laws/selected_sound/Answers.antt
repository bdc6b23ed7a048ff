use Rattle.vx_select.proofs.laws.selected_sound.Goals as goal
use Rattle.vx_select.proofs.Flows.{selected_sound}

pub returns : goal.returns
returns c = selected_sound
