use Rattle.std.proofs.Common.{◌≡◌, drop}
use Rattle.vx_clean.specs.LinkTest.{is_linked, moves}
use Rattle.vx_clean.proofs.link_test.is_linked.Given as goal

abbrev pub invariant-loop-place : goal.invariant-loop-place
invariant-loop-place l = is_linked (moves l.to) l.blocks l.chains l.chain ≡ is_linked (moves l.to) l.blocks l.chains (drop l.place l.chain)
