use Rattle.std.proofs.Common.{◌≡◌, ◌∙◌, ◌+◌, ◌*◌, ◌/◌, ℕ, ℤ, pos, List, length, drop, get_or, replicate, sym, ap, subst, true, arith, drop_of_length-le}
use Rattle.std.proofs.lemmas.List.{length-replicate}
use Rattle.vx_isa.specs.Sound.{is_start}
use Rattle.vx_sim.specs.Held.{word_of}
use Rattle.vx_sim.proofs.Operations.{item_at}
use Rattle.vx_sim.proofs.Starting.{started, sound_start, begins, start_word, started_more, started_none, first_words, four_times}
use Rattle.vx_sim.proofs.memory.memory_of.Goals as goal

pub loop-word-init : goal.loop-word-init
loop-word-init c =
    let w = c.args.program.now in
    let s = sound_start w c.requires in
    let zeros = c.in_ok-memory.ensures in
    let n = w.memory / 4 in
    record {
      least = 0;
      ascends = ap (is_start w.memory 0) c.as_slice-word-items.ensures ∙ s.start;
      words = ap (started c.as_slice-word-items.result.now) (ap word_of zeros) ∙ ap (λ (ps : List (ℕ × ℤ)). started ps (word_of (replicate n (pos 0)))) c.as_slice-word-items.ensures ∙ first_words w.start n;
      size = four_times w.memory (length c.in_ok-memory.memory.items) s.aligned (ap length zeros ∙ length-replicate n (pos 0));
    }

pub store_word-requires : goal.store_word-requires
store_word-requires c =
    let items = c.as_slice-word-items.result.now in
    let i = c.loop-word.word-index in
    let h = c.loop-word.invariant in
    let asc = subst (λ ps. is_start c.args.program.now.memory h.least ps ≡ true) (item_at items i (0, pos 0) c.loop-word-test.true) h.ascends in
    start_word c.args.program.now.memory (length c.loop-word.memory.items) h.least (get_or items i (0, pos 0)) (drop (i + 1) items) asc h.size

pub loop-word-preserved : goal.loop-word-preserved
loop-word-preserved c =
    let items = c.as_slice-word-items.result.now in
    let i = c.loop-word.word-index in
    let p = get_or items i (0, pos 0) in
    let rest = drop (i + 1) items in
    let h = c.loop-word.invariant in
    let split = item_at items i (0, pos 0) c.loop-word-test.true in
    let asc = subst (λ ps. is_start c.args.program.now.memory h.least ps ≡ true) split h.ascends in
    record {
      least = p.0 + 1;
      ascends = (begins c.args.program.now.memory h.least p rest asc).rest;
      words = ap (started rest) c.store_word.ensures.stores ∙ started_more c.args.program.now.memory h.least p rest (word_of c.loop-word.memory.items) asc ∙ ap (λ (ps : List (ℕ × ℤ)). started ps (word_of c.loop-word.memory.items)) (sym split) ∙ h.words;
      size = h.size ∙ ap (λ n. 4 * n) (sym c.store_word.ensures.len);
    }

pub returns-clause-words : goal.returns-clause-words
returns-clause-words c =
    let items = c.as_slice-word-items.result.now in
    sym (started_none (word_of c.loop-word.memory.items)) ∙ ap (λ (ps : List (ℕ × ℤ)). started ps (word_of c.loop-word.memory.items)) (sym (drop_of_length-le items (omega (arith, c.loop-word-test.false)))) ∙ c.loop-word.invariant.words
