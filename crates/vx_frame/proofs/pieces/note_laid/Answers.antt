use Rattle.std.proofs.Common.{◌∷◌, ◌++◌, [], ℕ, List, ap, ◌∙◌, subst}
use Rattle.std.proofs.lemmas.List.{nil_from_length}
use Rattle.vx_mixed.specs.declared.layout.VirtualWord.{VirtualWord}
use Rattle.vx_slots.specs.Seen.{seen}
use Rattle.vx_frame.proofs.Emitting.{Emits, emits_marks, emits_none, emits_starts, emits_turn, emits_words}
use Rattle.vx_frame.proofs.Shorter.{shorter}
use Rattle.vx_frame.proofs.pieces.note_laid.Goals as goal

pub laid-init : goal.laid-init
laid-init c = emits_none (seen c.args.whole.now) c.args.function c.args.laid.now c.args.words.now c.args.starts.now c.args.marks.now c.requires.no_starts c.requires.no_marks

-- one word more
pub laid-preserved : goal.laid-preserved
laid-preserved c =
    emits_turn (seen c.args.whole.now) c.args.function c.laid.place c.in_ok-next-in-Some.next c.in_ok-mark-in-Some.mark c.len-begin.result c.args.laid.now c.laid.rest.now c.in-Some.others.now c.in-Some.word.now c.args.words.now c.laid.words c.push_word.new.words c.laid.starts c.laid.marks c.push.new.self c.push-in-Some.new.self
    c.laid.invariant c.in-Some.ensures.cases.0 c.in_ok-mark-in-Some.ensures.words c.in_ok-mark-in-Some.ensures.mark c.len-begin.ensures.len c.in_ok-push.ensures.ok c.in_ok-push-in-Some.ensures.ok c.in_ok-next-in-Some.ensures

-- no word is left
pub returns-in-None-clause-words : goal.returns-in-None-clause-words
returns-in-None-clause-words c =
    let T = seen c.args.whole.now in
    emits_words T c.args.function c.laid.place c.args.laid.now c.args.words.now c.laid.words c.laid.starts c.laid.marks
    (subst (λ (z : List VirtualWord). Emits T c.args.function c.args.laid.now c.args.words.now c.laid.words c.laid.starts c.laid.marks c.laid.place z) (nil_from_length c.laid.rest.now c.in-None.ensures.cases) c.laid.invariant)

pub returns-in-None-clause-starts : goal.returns-in-None-clause-starts
returns-in-None-clause-starts c =
    let T = seen c.args.whole.now in
    c.in_ok-push.ensures.ok ∙ ap (λ (n : ℕ). c.laid.starts ++ n ∷ []) c.len-begin.ensures.len ∙ emits_starts T c.args.function c.laid.place c.args.laid.now c.args.words.now c.laid.words c.laid.starts c.laid.marks
    (subst (λ (z : List VirtualWord). Emits T c.args.function c.args.laid.now c.args.words.now c.laid.words c.laid.starts c.laid.marks c.laid.place z) (nil_from_length c.laid.rest.now c.in-None.ensures.cases) c.laid.invariant)

pub returns-in-None-clause-marks : goal.returns-in-None-clause-marks
returns-in-None-clause-marks c =
    let T = seen c.args.whole.now in
    emits_marks T c.args.function c.laid.place c.args.laid.now c.args.words.now c.laid.words c.laid.starts c.laid.marks
    (subst (λ (z : List VirtualWord). Emits T c.args.function c.args.laid.now c.args.words.now c.laid.words c.laid.starts c.laid.marks c.laid.place z) (nil_from_length c.laid.rest.now c.in-None.ensures.cases) c.laid.invariant)

pub laid-smaller : goal.laid-smaller
laid-smaller c = shorter c.laid.rest.now c.in-Some.others.now c.in-Some.word.now c.in-Some.ensures.cases.0
