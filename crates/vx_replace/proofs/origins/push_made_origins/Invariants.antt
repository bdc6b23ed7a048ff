use Rattle.std.proofs.Common.{◌≡◌, ◌++◌, take, map}
use Rattle.vx_mixed.specs.Next.{made_origin}
use Rattle.vx_replace.proofs.origins.push_made_origins.Given as goal

abbrev pub invariant-loop-block : goal.invariant-loop-block
invariant-loop-block l = l.after ≡ l.initial.after ++ map (made_origin l.ops) (take l.block-index l.made)
