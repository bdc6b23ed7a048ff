-- The words of the program that was made.
use Rattle.std.proofs.lemmas.Result.{IfOk-weaker}
use Rattle.vx_ast.specs.View.{program_of}
use Rattle.vx_runs.specs.Ending.{loaded_of}
use Rattle.vx_commands.proofs.SoakLaws.{made_of}
use Rattle.vx_commands.proofs.soak.words_made.Goals as goal

pub returns : goal.returns
returns g c =
    IfOk-weaker c.words_of-made.result _ _
    (λ made is. made_of (record { seed = c.args.seed; size = c.args.size }) (program_of c.in_ok-program.program.program) (loaded_of made.loaded) made.sizes c.in_ok-program.ensures is)
    c.words_of-made.ensures
