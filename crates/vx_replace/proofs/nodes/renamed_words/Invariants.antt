use Rattle.std.proofs.Common.{◌≡◌, take, map}
use Rattle.vx_mixed.specs.Next.{new_end, rename}
use Rattle.vx_replace.proofs.nodes.renamed_words.Given as goal

abbrev pub invariant-loop-word : goal.invariant-loop-word
invariant-loop-word l = l.after ≡ map (map (rename (new_end l.graph l.replacement.made))) (take l.word-index l.words)
