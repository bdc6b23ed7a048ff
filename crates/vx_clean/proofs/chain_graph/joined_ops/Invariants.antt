use Rattle.std.proofs.Common.{◌≡◌, ◌++◌, drop}
use Rattle.vx_clean.specs.Laying.{ops_of}
use Rattle.vx_clean.proofs.chain_graph.joined_ops.Given as goal

abbrev pub invariant-loop-block : goal.invariant-loop-block
invariant-loop-block l = l.ops ++ ops_of l.blocks (drop l.block-index l.chain) ≡ ops_of l.blocks l.chain
