use Rattle.vx_copy_laws.proofs.Rows.{example}
use Rattle.vx_copy_laws.proofs.laws.copies_example_law.Goals as goal

pub returns : goal.returns
returns c = example
