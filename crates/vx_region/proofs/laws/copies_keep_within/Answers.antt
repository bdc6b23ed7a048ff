use Rattle.vx_region.proofs.Counts.{few_made}
use Rattle.vx_region.proofs.Modes.{within_cap, one_mode, barred_over_cap, sums_may_stop}
use Rattle.vx_region.proofs.laws.copies_keep_within.Goals as goal

pub returns-clause-few : goal.returns-clause-few
returns-clause-few c = few_made

pub returns-clause-within : goal.returns-clause-within
returns-clause-within c = within_cap

pub returns-clause-one : goal.returns-clause-one
returns-clause-one c = one_mode

pub returns-clause-over : goal.returns-clause-over
returns-clause-over c = barred_over_cap

pub returns-clause-stop : goal.returns-clause-stop
returns-clause-stop c = sums_may_stop
