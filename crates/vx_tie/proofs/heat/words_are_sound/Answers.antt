use Rattle.vx_tie.proofs.SoundWords.{sound_law}
use Rattle.vx_tie.proofs.heat.words_are_sound.Goals as goal

pub returns : goal.returns
returns c = sound_law c.fits_by_room_law.ensures
