-- no join so far stands there
use Rattle.std.proofs.Common.{◌≡◌, false, take, nat_eq}
use Rattle.std.specs.List.{list_any}
use Rattle.vx_bug.proofs.clustered.is_join.Given as goal

abbrev pub invariant-loop-join : goal.invariant-loop-join
invariant-loop-join l = list_any (λ join. nat_eq join.place l.place) (take l.join-index l.fn.trace.joins) ≡ false
