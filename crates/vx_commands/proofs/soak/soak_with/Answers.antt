-- What is put of the run's end.
use Rattle.vx_command.specs.Asked.{soaking_of}
use Rattle.vx_commands.proofs.SoakLaws.{soaked_answers}
use Rattle.vx_commands.proofs.soak.soak_with.Goals as goal

pub returns-in-Ok-clause-answers : goal.returns-in-Ok-clause-answers
returns-in-Ok-clause-answers g c = soaked_answers (soaking_of c.args.asked.now) _ c.in-Ok.report.ended c.in-Ok.report.line.items _ c.in-Ok.ensures c.put_end.result c.put_end.ensures.puts
