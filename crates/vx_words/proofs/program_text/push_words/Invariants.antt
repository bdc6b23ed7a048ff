use Rattle.std.proofs.Common.{◌≡◌, ◌++◌, drop}
use Rattle.vx_words.specs.Spelling.{words_from}
use Rattle.vx_words.proofs.program_text.push_words.Given as goal

-- what is written and what the words from here on still give make the whole
abbrev pub invariant-loop-place : goal.invariant-loop-place
invariant-loop-place l = l.out.items ++ words_from l.words l.place (drop l.place l.words) ≡ l.fn.out.items ++ words_from l.words 0 l.words
