use Rattle.std.proofs.Common.{◌≡◌, ◌-◌, length}
use Rattle.vx_bug.specs.Ledgers.{homes_in}
use Rattle.vx_bug.proofs.homes.lengthen.Given as goal

abbrev pub invariant-grow : goal.invariant-grow
invariant-grow l = homes_in l.homes.items ≡ homes_in l.initial.homes.items

abbrev pub decreases-grow : goal.decreases-grow
decreases-grow l = l.long - length l.homes.items
