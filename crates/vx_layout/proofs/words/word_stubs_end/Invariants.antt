use Rattle.std.proofs.Common.{◌≡◌, ◌+◌, length, take}
use Rattle.vx_mixed.specs.Layout.{word_stubs}
use Rattle.vx_layout.proofs.words.word_stubs_end.Given as goal

abbrev pub invariant-loop-item : goal.invariant-loop-item
invariant-loop-item l = l.place ≡ l.first + length (word_stubs (λ b. 0) (take l.item-index l.word))
