use Rattle.vx_raise.specs.Lifting.{Standing}
use Rattle.vx_raise.proofs.lifted_graph.raise_all.Given as goal

abbrev pub invariant-loop-one : goal.invariant-loop-one
invariant-loop-one l = Standing l.graph l.known.live l.known.noted l.current
