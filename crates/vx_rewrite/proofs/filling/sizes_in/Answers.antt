-- Each function is one of the list.
use Rattle.vx_ast.specs.View.{function_of}
use Rattle.vx_rewrite.proofs.Full.{small_at}
use Rattle.vx_rewrite.proofs.filling.sizes_in.Goals as goal

pub nodes_in-requires : goal.nodes_in-requires
nodes_in-requires c = small_at function_of c.args.functions.now c.requires c.loop-function.function-index c.function-item.result c.loop-function-test.true c.function-item.is
