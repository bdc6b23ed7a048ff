-- none so far does
use Rattle.std.proofs.Common.{◌≡◌, false, take}
use Rattle.std.specs.List.{list_any}
use Rattle.vx_replace.specs.MadeEdges.{region_leads}
use Rattle.vx_replace.proofs.made_edges.any_leads.Given as goal

abbrev pub invariant-loop-region : goal.invariant-loop-region
invariant-loop-region l = list_any (region_leads l.made) (take l.region-index l.regions) ≡ false
