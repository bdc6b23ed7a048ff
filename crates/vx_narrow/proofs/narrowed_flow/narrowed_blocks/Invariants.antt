use Rattle.std.proofs.Common.{◌≡◌, ◌++◌, drop}
use Rattle.vx_narrow.specs.Narrowing.{are_blocks_checked}
use Rattle.vx_claims.specs.Claims.{listed_claims}
use Rattle.vx_narrow.specs.Checking.{listed_given}
use Rattle.vx_narrow.specs.Rewriting.{narrowed_from}
use Rattle.vx_narrow.proofs.narrowed_flow.narrowed_blocks.Given as goal

abbrev pub invariant-loop-place : goal.invariant-loop-place
invariant-loop-place l = record {
  made : l.made ++ narrowed_from l.arrays (listed_claims l.table) l.place (drop l.place l.blocks) ≡ narrowed_from l.arrays (listed_claims l.table) 0 l.blocks;
  checked : are_blocks_checked l.arrays (listed_given l.given) (listed_claims l.table) l.place (drop l.place l.blocks) ≡ are_blocks_checked l.arrays (listed_given l.given) (listed_claims l.table) 0 l.blocks;
}
