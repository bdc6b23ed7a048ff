use Rattle.std.proofs.Common.{◌≡◌, drop}
use Rattle.vx_rename.specs.Renaming.{place_all}
use Rattle.vx_rename.specs.Making.{standing}
use Rattle.vx_rename.proofs.made_block.place_all.Given as goal

abbrev pub invariant-loop-at : goal.invariant-loop-at
invariant-loop-at l = place_all (standing l.table) (drop l.at-index l.start) ≡ place_all (standing l.initial.table) l.start
