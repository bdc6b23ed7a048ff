use Rattle.std.proofs.Common.{◌≡◌, ◌<◌, ◌≤◌, ◌+◌, ◌*◌, ℕ, true, Some, List, length, slice_get, subst, ◌∙◌, rules}
use Rattle.vx_flow.specs.declared.graph.Global.{Global}
use Rattle.vx_isa.specs.Machine.{memory_at_start}
use Rattle.vx_isa.specs.Sound.{is_start}
use Rattle.vx_target.specs.Frames.{first_or_zero}
use Rattle.vx_target.specs.Tied.{words_before}
use Rattle.vx_frame.proofs.program_words.program_with.Goals as goal

pub returns : goal.returns
returns c =
    let start = c.in_ok-start.start in
    record {
      version = c.branches-version.ensures;
      memory = c.memory_bytes-memory.ensures.is;
      few_bytes = c.memory_bytes-memory.ensures.few;
      start = subst (λ (gs : List Global). (a i : ℕ) (x : Global) → slice_get gs a ≡ Some x → i < x.words → memory_at_start start (4 * (words_before gs a + i)) ≡ first_or_zero x.first i) c.as_slice.ensures c.in_ok-start.ensures.start;
      ascending = subst (λ (gs : List Global). (memory : ℕ) → 4 * words_before gs (length gs) ≤ memory → is_start memory 0 start ≡ true) c.as_slice.ensures c.in_ok-start.ensures.ascending;
      texts = c.in_ok-texts.ensures ∙ c.as_slice-2.ensures;
      placed = c.requires.placed;
      few = search rules;
    }
