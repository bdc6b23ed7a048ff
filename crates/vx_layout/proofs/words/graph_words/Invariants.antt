use Rattle.std.proofs.Common.{◌≡◌, take}
use Rattle.vx_mixed.specs.Layout.{all_words}
use Rattle.vx_layout.proofs.words.graph_words.Given as goal

abbrev pub invariant-loop-number : goal.invariant-loop-number
invariant-loop-number l = l.words ≡ all_words l.graph 0 0 (take l.number l.graph.regions)
