use Rattle.std.proofs.Common.{ap}
use Rattle.vx_ast.specs.View.{all_in, function_of}
use Rattle.vx_unroll.proofs.Declaring.{size_counted}
use Rattle.vx_unroll.proofs.program.size_of.Goals as goal

pub returns : goal.returns
returns c =
    size_counted c.args.globals (function_of c.args.function.now) c.first_own-own.result c.as_slice-2.result.now (all_in c.as_slice.result.now) c.counted_nodes-nodes.result c.list_words-words.result c.requires.small c.first_own-own.ensures c.as_slice-2.ensures (ap all_in c.as_slice.ensures.value)
    c.counted_nodes-nodes.ensures.nodes c.list_words-words.ensures
