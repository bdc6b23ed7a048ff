-- The words are those that were compiled.
use Rattle.std.proofs.Common.{refl}
use Rattle.vx_commands.proofs.exec.load_words.Goals as goal

pub returns-in-Ok-clause-loaded : goal.returns-in-Ok-clause-loaded
returns-in-Ok-clause-loaded g c = record { machine_is = refl; input_is = refl; compiled = record { plan = c.in-Ok.compiled.plan; compiled = c.in-Ok.ensures } }
