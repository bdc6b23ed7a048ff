-- the spot so many bytes behind
use Rattle.std.proofs.Common.{◌≡◌, ◌+◌}
use Rattle.vx_lex.specs.Answer.{IsSpot}
use Rattle.vx_lex.proofs.scanner.behind.Given as goal

abbrev pub invariant-loop-passed : goal.invariant-loop-passed
invariant-loop-passed l = record { spot : IsSpot l.bytes l.here; place : l.here.place ≡ l.fn.spot.place + l._passed }
