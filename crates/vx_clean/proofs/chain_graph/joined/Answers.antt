use Rattle.std.proofs.Common.{◌∙◌, List, ap}
use Rattle.vx_flow.specs.declared.graph.Block.{Block}
use Rattle.vx_flow.specs.declared.graph.Exit.{Exit}
use Rattle.vx_flow.specs.declared.graph.Op.{Op}
use Rattle.vx_clean.specs.Laying.{ops_of}
use Rattle.vx_clean.proofs.chain_graph.joined.Goals as goal

abbrev block : List Op → Exit → Block
block ops exit = record { ops = ops; exit = exit }

pub returns : goal.returns
returns c = ap (λ ops. block ops c.in_ok-exit.exit) c.in_ok-ops.ensures ∙ ap (block (ops_of c.args.blocks.now c.args.chain.now)) c.in_ok-exit.ensures
