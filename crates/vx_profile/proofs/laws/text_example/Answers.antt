use Rattle.vx_profile.proofs.TextRows.{text_example}
use Rattle.vx_profile.proofs.laws.text_example.Goals as goal

pub returns : goal.returns
returns c = text_example
