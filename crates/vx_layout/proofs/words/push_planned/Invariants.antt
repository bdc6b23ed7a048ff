use Rattle.std.proofs.Common.{◌≡◌, ◌+◌, ◌++◌, length, take}
use Rattle.vx_mixed.specs.Layout.{laid_words, stubs}
use Rattle.vx_layout.proofs.words.push_planned.Given as goal

abbrev pub invariant-loop-number : goal.invariant-loop-number
invariant-loop-number l = (l.place ≡ l.first + length (stubs (λ b. 0) (take l.number l.list))) × (l.words ≡ l.initial.words ++ laid_words l.region 0 l.first (take l.number l.list))
