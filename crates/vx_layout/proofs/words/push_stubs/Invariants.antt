use Rattle.std.proofs.Common.{◌≡◌, ◌++◌, take}
use Rattle.vx_mixed.specs.Layout.{stubs}
use Rattle.vx_layout.specs.Laying.{place_in}
use Rattle.vx_layout.proofs.words.push_stubs.Given as goal

abbrev pub invariant-loop-word : goal.invariant-loop-word
invariant-loop-word l = l.words ≡ l.initial.words ++ stubs (place_in l.places) (take l.word-index l.list)
