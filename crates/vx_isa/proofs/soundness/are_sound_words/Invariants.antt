-- each word so far is sound
use Rattle.std.proofs.Common.{◌≡◌, true, take}
use Rattle.std.specs.List.{list_all}
use Rattle.vx_isa.specs.Sound.{is_sound_word}
use Rattle.vx_isa.proofs.soundness.are_sound_words.Given as goal

abbrev pub invariant-loop-word : goal.invariant-loop-word
invariant-loop-word l = list_all (is_sound_word l.words l.texts) (take l.word-index l.list) ≡ true
