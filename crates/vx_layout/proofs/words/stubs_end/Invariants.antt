use Rattle.std.proofs.Common.{◌≡◌, ◌+◌, length, take}
use Rattle.vx_mixed.specs.Layout.{stubs}
use Rattle.vx_layout.proofs.words.stubs_end.Given as goal

abbrev pub invariant-loop-word : goal.invariant-loop-word
invariant-loop-word l = l.place ≡ l.first + length (stubs (λ b. 0) (take l.word-index l.words))
