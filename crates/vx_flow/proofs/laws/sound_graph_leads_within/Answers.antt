use Rattle.vx_flow.proofs.SoundLeads.{sound_leads_within}
use Rattle.vx_flow.proofs.laws.sound_graph_leads_within.Goals as goal

pub returns : goal.returns
returns c = sound_leads_within
