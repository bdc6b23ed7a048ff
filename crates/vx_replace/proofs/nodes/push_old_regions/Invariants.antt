use Rattle.std.proofs.Common.{◌≡◌, ◌++◌, take, map}
use Rattle.vx_mixed.specs.Next.{new_end, renamed_region}
use Rattle.vx_replace.proofs.nodes.push_old_regions.Given as goal

abbrev pub invariant-loop-region : goal.invariant-loop-region
invariant-loop-region l = l.regions ≡ l.initial.regions ++ map (renamed_region (new_end l.graph l.replacement.made)) (take l.region-index l.graph.regions)
