use Rattle.std.proofs.Common.{◌∙◌, ap, sym}
use Rattle.vx_bug.specs.Laying.{with_homes_of_copies}
use Rattle.vx_bug.specs.Ledgers.{homes_in}
use Rattle.vx_bug.proofs.Listing.{nothing_left}
use Rattle.vx_bug.proofs.copy_homes.house_copies.Goals as goal

pub returns-in-None : goal.returns-in-None
returns-in-None c =
    sym (ap (λ os. with_homes_of_copies c.args.values (homes_in c.house.homes.items) os c.house.clusters_left.now c.house.fixed_left.now) (nothing_left c.house.ops_left.now c.in-None.ensures.cases)) ∙ c.house.invariant
