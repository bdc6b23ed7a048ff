use Rattle.std.proofs.Common.{◌≡◌, ◌+◌, ◌++◌, IfOk, length, sym, subst}
use Rattle.vx_mixed.specs.declared.layout.VirtualWord.TheVariants.{Call}
use Rattle.vx_mixed.specs.LaidSettled.{laid_reads}
use Rattle.vx_frame.specs.Placing.{mark_of}
use Rattle.vx_slots.specs.Seen.{seen}
use Rattle.vx_target.specs.Target.{before, plan_words, word_words}
use Rattle.vx_frame.proofs.pieces.push_word.Goals as goal

pub returns-in-Planned-clause-words : goal.returns-in-Planned-clause-words
returns-in-Planned-clause-words c =
    let T = seen c.args.whole.now in
    let old = c.args.words.now in
    let new = c.push_planned.new.words in
    subst (λ x. IfOk c.push_planned.result (λ _. new ≡ old ++ word_words T c.args.function c.args.place x)) (sym c.in-Planned.is)
    (subst (λ xs. IfOk c.push_planned.result (λ _. new ≡ old ++ plan_words T c.args.function c.args.place xs)) c.as_slice.ensures c.push_planned.ensures.words)

pub returns-in-Planned-clause-mark : goal.returns-in-Planned-clause-mark
returns-in-Planned-clause-mark c =
    let T = seen c.args.whole.now in
    let old = c.args.words.now in
    subst (λ x. IfOk c.push_planned.result (λ (mark : _). mark ≡ mark_of T c.args.function (length old) c.args.place x)) (sym c.in-Planned.is)
    (subst (λ xs. IfOk c.push_planned.result (λ (mark : _). mark ≡ length old + length (before T c.args.function (laid_reads xs)))) c.as_slice.ensures c.push_planned.ensures.mark)

pub returns-in-Call-clause-words : goal.returns-in-Call-clause-words
returns-in-Call-clause-words c =
    let T = seen c.args.whole.now in
    let old = c.args.words.now in
    let new = c.push_called.new.words in
    subst (λ x. IfOk c.push_called.result (λ _. new ≡ old ++ word_words T c.args.function c.args.place x)) (sym c.in-Call.is)
    (subst (λ xs. IfOk c.push_called.result (λ _. new ≡ old ++ word_words T c.args.function c.args.place (Call c.in-Call.called xs c.in-Call.taken))) c.as_slice-in-Call.ensures c.push_called.ensures.words)

pub returns-in-Call-clause-mark : goal.returns-in-Call-clause-mark
returns-in-Call-clause-mark c =
    let T = seen c.args.whole.now in
    let old = c.args.words.now in
    subst (λ x. IfOk c.push_called.result (λ (mark : _). mark ≡ mark_of T c.args.function (length old) c.args.place x)) (sym c.in-Call.is)
    (subst (λ xs. IfOk c.push_called.result (λ (mark : _). mark ≡ mark_of T c.args.function (length old) c.args.place (Call c.in-Call.called xs c.in-Call.taken))) c.as_slice-in-Call.ensures c.push_called.ensures.mark)
