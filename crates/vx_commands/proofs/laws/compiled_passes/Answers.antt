use Rattle.vx_commands.proofs.Passed.{compiled_passes}
use Rattle.vx_commands.proofs.laws.compiled_passes.Goals as goal

pub returns : goal.returns
returns c = compiled_passes
