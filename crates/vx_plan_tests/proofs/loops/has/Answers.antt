use Rattle.std.proofs.Common.{sym, ◌∙◌}
use Rattle.vx_flow.proofs.SoundLeads.{sound_leads_within}
use Rattle.vx_plan_tests.proofs.loops.has.Goals as goal

pub are_back-requires : goal.are_back-requires
are_back-requires c = sound_leads_within c.args.graph.now (sym c.graph_is_sound.ensures.test ∙ c.if-not-graph_is_sound.false)

pub are_headers-requires : goal.are_headers-requires
are_headers-requires c = sound_leads_within c.args.graph.now (sym c.graph_is_sound.ensures.test ∙ c.if-not-graph_is_sound.false)
