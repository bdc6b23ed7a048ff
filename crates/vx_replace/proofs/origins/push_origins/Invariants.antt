use Rattle.std.proofs.Common.{◌≡◌, ◌++◌, take}
use Rattle.vx_replace.proofs.origins.push_origins.Given as goal

abbrev pub invariant-loop-origin : goal.invariant-loop-origin
invariant-loop-origin l = l.after ≡ l.initial.after ++ take l.origin-index l.origins
