use Rattle.vx_thread.specs.Threading.{Steps}
use Rattle.vx_thread.proofs.threaded_flow.threaded_on.Given as goal

abbrev pub invariant-loop : goal.invariant-loop
invariant-loop l = Steps l.graphs l.now
