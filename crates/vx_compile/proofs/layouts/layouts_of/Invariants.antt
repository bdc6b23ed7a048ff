-- The graphs so far have their layouts and plans.
use Rattle.std.proofs.Common.{◌≡◌, take}
use Rattle.vx_compile.specs.Stages.{AreLaidOut}
use Rattle.vx_compile.proofs.layouts.layouts_of.Given as goal

abbrev pub invariant-loop-graph : goal.invariant-loop-graph
invariant-loop-graph l = AreLaidOut l.fn.machine l.fn.counts l.fn.growth (take l.graph-index l.fn.graphs) l.traces l.layouts l.budget.used × (l.budget.cap ≡ l.fn.growth)
