use Rattle.vx_ast.specs.View.{function_of}
use Rattle.vx_unroll.specs.Growth.{is_small_function}
use Rattle.vx_unroll.proofs.Declaring.{kept_at}
use Rattle.vx_unroll.proofs.program.functions_unrolled.Goals as goal

pub function_unrolled-requires : goal.function_unrolled-requires
function_unrolled-requires c = record {
  least = c.requires.least;
  most = c.requires.most;
  few = c.requires.few;
  small = kept_at is_small_function function_of c.args.functions.now c.loop-function.function-index c.function-item.result c.requires.small c.loop-function-test.true c.function-item.is;
}
