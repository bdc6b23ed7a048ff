-- what was passed of the chain is listed, as far as it is near
use Rattle.vx_dep.specs.Links.{head_at}
use Rattle.vx_dep.proofs.Nearby.{AreWalked}
use Rattle.vx_dep.proofs.near.collect_on.Given as goal

abbrev pub invariant-walk : goal.invariant-walk
invariant-walk l = AreWalked l.fn.sight.keys l.fn.b l.fn.chains.links.items (head_at l.fn.chains.heads.items l.fn.row) l.at l.fn.places.items l.places.items

abbrev pub decreases-walk : goal.decreases-walk
decreases-walk l = l.at
