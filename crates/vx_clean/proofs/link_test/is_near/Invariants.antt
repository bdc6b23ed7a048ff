use Rattle.std.proofs.Common.{◌≡◌, drop}
use Rattle.vx_clean.specs.LinkTest.{is_near}
use Rattle.vx_clean.proofs.link_test.is_near.Given as goal

abbrev pub invariant-loop-other : goal.invariant-loop-other
invariant-loop-other l = is_near l.blocks l.block l.chain ≡ is_near l.blocks l.block (drop l.other-index l.chain)
