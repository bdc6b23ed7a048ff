use Rattle.std.proofs.Common.{◌≡◌, take}
use Rattle.vx_mixed.specs.Next.{last_of}
use Rattle.vx_replace.proofs.region.last_of.Given as goal

abbrev pub invariant-loop-block : goal.invariant-loop-block
invariant-loop-block l = l.last ≡ last_of (take l.block-index l.blocks)
