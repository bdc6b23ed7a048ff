use Rattle.std.proofs.Common.{take}
use Rattle.vx_narrow.specs.Checking.{listed_given}
use Rattle.vx_narrow.specs.Narrowing.{NarrowedWith}
use Rattle.vx_narrow.proofs.narrowed_flow.narrowed_graphs.Given as goal

abbrev pub invariant-loop-function : goal.invariant-loop-function
invariant-loop-function l = NarrowedWith (listed_given l.given) 0 (take l.function l.graphs) l.made
