use Rattle.std.proofs.Common.{◌≡◌, ◌++◌, take}
use Rattle.vx_mixed.specs.Layout.{word_stubs}
use Rattle.vx_layout.specs.Laying.{place_in}
use Rattle.vx_layout.proofs.words.push_word_stubs.Given as goal

abbrev pub invariant-loop-item : goal.invariant-loop-item
invariant-loop-item l = l.words ≡ l.initial.words ++ word_stubs (place_in l.places) (take l.item-index l.word)
