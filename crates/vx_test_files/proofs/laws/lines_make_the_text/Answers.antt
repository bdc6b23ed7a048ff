use Rattle.vx_test_files.proofs.LinesLaw.{lines_make_the_text}
use Rattle.vx_test_files.proofs.laws.lines_make_the_text.Goals as goal

pub returns : goal.returns
returns c = lines_make_the_text
