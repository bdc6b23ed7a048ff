-- The arrays of the first sizes stand behind the others.
use Rattle.std.proofs.Common.{◌≡◌, ◌++◌, pos, map, replicate, take}
use Rattle.vx_plain.proofs.store.push_rows.Given as goal

abbrev pub invariant-loop-size : goal.invariant-loop-size
invariant-loop-size l = l.arrays.items ≡ l.initial.arrays.items ++ map (λ size. replicate size (pos 0)) (take l.size-index l.sizes)
