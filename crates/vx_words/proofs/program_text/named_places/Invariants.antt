use Rattle.std.proofs.Common.{◌≡◌, ℕ, ◌<◌, false, get_or, length, vec_len, take}
use Rattle.vx_words.specs.Spelling.{is_named}
use Rattle.vx_words.proofs.program_text.named_places.Given as goal

abbrev pub invariant-loop-word : goal.invariant-loop-word
invariant-loop-word l = (vec_len l.named ≡ length l.words) ×
    ((p : ℕ) → p < length l.words → get_or l.named.items p false ≡ is_named (take l.word-index l.words) p)
