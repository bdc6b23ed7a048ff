-- The traces so far are put behind the others.
use Rattle.std.proofs.Common.{◌≡◌, ◌++◌, length}
use Rattle.vx_compile.proofs.layouts.put_traces.Given as goal

abbrev pub invariant-loop-trace : goal.invariant-loop-trace
invariant-loop-trace l = record {
  made : l.traces ≡ l.fn.traces ++ l.yielded;
  rest : l.yielded ++ l.trace-iterator.rest.items ≡ l.fn.more;
  size : length l.trace-iterator.rest.items ≡ l.trace-iterator.rest.len;
}
