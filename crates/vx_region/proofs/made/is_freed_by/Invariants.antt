-- none of the splits so far frees it
use Rattle.std.proofs.Common.{◌≡◌, false, take}
use Rattle.std.specs.Prelude.{◌&&◌, nat_le, nat_lt}
use Rattle.std.specs.List.{list_any}
use Rattle.vx_dep.specs.declared.copies.EdgeCopies.{EdgeCopies}
use Rattle.vx_dep.specs.Compensation.{word_at}
use Rattle.vx_region.proofs.made.is_freed_by.Given as goal

abbrev pub invariant-loop-split : goal.invariant-loop-split
invariant-loop-split l = list_any (λ (s : EdgeCopies). nat_lt s.split l.place && nat_le (word_at l.words l.place) (word_at l.words s.split)) (take l.split-index l.splits) ≡ false
