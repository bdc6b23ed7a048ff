use Rattle.std.proofs.Common.{◌≡◌, take, true}
use Rattle.std.specs.List.{list_all}
use Rattle.vx_clean.specs.LinkTest.{is_linked, moves}
use Rattle.vx_clean.proofs.link_test.are_linked.Given as goal

abbrev pub invariant-loop-chain : goal.invariant-loop-chain
invariant-loop-chain l = list_all (is_linked (moves l.to) l.blocks l.chains) (take l.chain-index l.chains) ≡ true
