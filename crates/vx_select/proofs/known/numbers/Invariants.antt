use Rattle.std.proofs.Common.{true}
use Rattle.vx_select.specs.Values.{Listing}
use Rattle.vx_select.proofs.known.numbers.Given as goal

abbrev pub invariant-loop-number : goal.invariant-loop-number
invariant-loop-number l = Listing (λ v. true) l.count l.number l.numbers
