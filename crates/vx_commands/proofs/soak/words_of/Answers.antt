-- The words and the sizes are those of one compilation.
use Rattle.vx_ast.specs.View.{program_of}
use Rattle.vx_runs.specs.Ending.{loaded_of}
use Rattle.vx_commands.proofs.SoakLaws.{made_from}
use Rattle.vx_commands.proofs.soak.words_of.Goals as goal

pub returns : goal.returns
returns g c =
    made_from (program_of c.args.program.now.program) c.new-counts.result c.vex-machine.result _ _ c.in_ok-sized.sized.size c.sizes_of-sizes.result (loaded_of c.loaded_with-loaded.result) c.new-counts.ensures c.vex-machine.ensures
    c.in_ok-sized.ensures c.sizes_of-sizes.ensures c.loaded_with-loaded.ensures
