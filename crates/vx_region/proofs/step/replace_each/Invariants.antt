-- the steps so far, and how many there may still be
use Rattle.std.proofs.Common.{◌≡◌, ◌+◌, ◌-◌}
use Rattle.vx_mixed.specs.Routes.{live_values}
use Rattle.vx_region.specs.Ending.{unused_in}
use Rattle.vx_region.specs.LiveEnds.{TellsLive}
use Rattle.vx_region.specs.Stepping.{Stepped}
use Rattle.vx_region.proofs.step.replace_each.Given as goal

abbrev pub invariant-step : goal.invariant-step
invariant-step l = Stepped l.machine l.counts l.initial.budget.cap l.initial.mixed l.initial.budget.used l.plans l.mixed l.budget.used × (l.budget.cap ≡ l.initial.budget.cap) × TellsLive l.mixed (live_values l.live)

abbrev pub decreases-step : goal.decreases-step
decreases-step l = unused_in l.mixed.nodes + (l.budget.cap - l.budget.used)
