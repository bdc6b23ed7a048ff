-- none of those passed has a delay
use Rattle.std.proofs.Common.{◌-◌, ◌≤◌}
use Rattle.vx_dep.specs.Earlier.{NoneBetween}
use Rattle.vx_dep.proofs.sights.Sight.pass.Given as goal

abbrev pub invariant-pass : goal.invariant-pass
invariant-pass l = record {
  from : l.fn.from ≤ l.near;
  within : l.near ≤ l.fn.place;
  none : NoneBetween l.fn.self.machine l.fn.self.mode l.fn.self.trace.now l.fn.place l.fn.from l.near;
}

abbrev pub decreases-pass : goal.decreases-pass
decreases-pass l = l.fn.place - l.near
