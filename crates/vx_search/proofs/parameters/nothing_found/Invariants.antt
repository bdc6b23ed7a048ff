use Rattle.std.proofs.Common.{◌≡◌, length}
use Rattle.vx_search.proofs.parameters.nothing_found.Given as goal

abbrev pub invariant-loop-function : goal.invariant-loop-function
invariant-loop-function l = record { given : length l.given.items ≡ l._function; kept : length l.kept.items ≡ l._function }
