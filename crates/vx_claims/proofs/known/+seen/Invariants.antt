-- what lies behind the facts that do not speak of the value says the same
use Rattle.std.proofs.Common.{◌≡◌, ◌≤◌, length}
use Rattle.vx_claims.specs.Facts.{range, residue}
use Rattle.vx_claims.proofs.known.+seen.Given as goal

abbrev pub decreases-seen : goal.decreases-seen
decreases-seen l = length l.facts.now

abbrev pub invariant-next : goal.invariant-next
invariant-next l = record {
  within : range l.rest l.value ≡ range l.facts l.value;
  residue : residue l.rest l.value ≡ residue l.facts l.value;
  fewer : length l.rest ≤ length l.facts;
}

abbrev pub decreases-next : goal.decreases-next
decreases-next l = length l.rest
