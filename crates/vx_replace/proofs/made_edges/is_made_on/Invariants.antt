-- none so far does
use Rattle.std.proofs.Common.{◌≡◌, false, take}
use Rattle.std.specs.List.{list_any}
use Rattle.vx_mixed.specs.declared.region.Made.{Made}
use Rattle.vx_mixed.specs.FromGraph.{same_edge}
use Rattle.vx_replace.proofs.made_edges.is_made_on.Given as goal

abbrev pub invariant-loop-block : goal.invariant-loop-block
invariant-loop-block l = list_any (λ (x : Made). same_edge x.edge l.edge) (take l.block-index l.made) ≡ false
