use Rattle.std.proofs.Common.{◌≡◌, take, map}
use Rattle.vx_mixed.specs.Next.{new_end, rename}
use Rattle.vx_replace.proofs.nodes.renamed_word.Given as goal

abbrev pub invariant-loop-item : goal.invariant-loop-item
invariant-loop-item l = l.after ≡ map (rename (new_end l.graph l.replacement.made)) (take l.item-index l.word)
