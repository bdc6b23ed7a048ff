use Rattle.std.proofs.Common.{◌≡◌, map, take}
use Rattle.vx_clean.specs.Laying.{joined}
use Rattle.vx_clean.specs.LinkTest.{moves}
use Rattle.vx_clean.proofs.chain_graph.joined_all.Given as goal

abbrev pub invariant-loop-chain : goal.invariant-loop-chain
invariant-loop-chain l = l.made ≡ map (joined (moves l.to) l.blocks) (take l.chain-index l.chains)
