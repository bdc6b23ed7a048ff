use Rattle.vx_layout.proofs.laws.drains_stay_brief.Goals as goal
use Rattle.vx_layout.proofs.StayBrief.{brief_stays, layout_is_brief}

pub returns : goal.returns
returns c = record { stays = brief_stays; layout = layout_is_brief }
