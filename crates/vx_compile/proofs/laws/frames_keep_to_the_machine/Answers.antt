use Rattle.vx_compile.proofs.FrameLaws.{frame_law}
use Rattle.vx_compile.proofs.laws.frames_keep_to_the_machine.Goals as goal

pub returns : goal.returns
returns c = frame_law c.words_fit.ensures c.paths_are_never_early.ensures c.programs_do_the_same.ensures
