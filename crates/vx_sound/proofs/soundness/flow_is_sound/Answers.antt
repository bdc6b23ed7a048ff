use Rattle.vx_flow.proofs.SoundFlowLaw.{told}
use Rattle.vx_sound.proofs.soundness.flow_is_sound.Goals as goal

pub returns-clause-words : goal.returns-clause-words
returns-clause-words c = told c.args.flow.now c.is_sound_flow.result c.is_sound_flow.ensures
