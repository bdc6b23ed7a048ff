-- none so far does
use Rattle.std.proofs.Common.{◌≡◌, false, take}
use Rattle.std.specs.List.{list_any}
use Rattle.vx_replace.specs.MadeEdges.{item_leads}
use Rattle.vx_replace.proofs.made_edges.word_leads.Given as goal

abbrev pub invariant-loop-item : goal.invariant-loop-item
invariant-loop-item l = list_any (item_leads l.made) (take l.item-index l.word) ≡ false
