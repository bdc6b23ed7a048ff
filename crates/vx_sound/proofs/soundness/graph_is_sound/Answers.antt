use Rattle.vx_flow.proofs.SoundLaw.{told}
use Rattle.vx_sound.proofs.soundness.graph_is_sound.Goals as goal

pub returns-clause-words : goal.returns-clause-words
returns-clause-words c = told c.args.graph.now c.is_sound_graph.result c.is_sound_graph.ensures
