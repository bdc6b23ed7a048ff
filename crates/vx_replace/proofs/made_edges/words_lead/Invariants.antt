-- none so far does
use Rattle.std.proofs.Common.{◌≡◌, false, take}
use Rattle.std.specs.List.{list_any}
use Rattle.vx_replace.specs.MadeEdges.{item_leads}
use Rattle.vx_replace.proofs.made_edges.words_lead.Given as goal

abbrev pub invariant-loop-word : goal.invariant-loop-word
invariant-loop-word l = list_any (list_any (item_leads l.made)) (take l.word-index l.words) ≡ false
