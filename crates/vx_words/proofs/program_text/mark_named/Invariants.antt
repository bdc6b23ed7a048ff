use Rattle.std.proofs.Common.{◌≡◌, ℕ, ◌<◌, false, ◌||◌, get_or, length, take}
use Rattle.std.specs.List.{list_any}
use Rattle.vx_words.specs.Spelling.{names}
use Rattle.vx_words.proofs.program_text.mark_named.Given as goal

abbrev pub invariant-loop-operation : goal.invariant-loop-operation
invariant-loop-operation l = (p : ℕ) → p < length l.fn.named →
    get_or l.named p false ≡ (get_or l.fn.named p false || list_any (names p) (take l.operation-index l.operations))
