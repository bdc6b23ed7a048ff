use Rattle.std.proofs.Common.{◌++◌, List, length, ap, ◌∙◌}
use Rattle.std.proofs.lemmas.Result.{IfOk-weaker}
use Rattle.vx_isa.specs.declared.program.Word.{Word}
use Rattle.vx_mixed.specs.declared.layout.VirtualWord.{VirtualWord}
use Rattle.vx_target.specs.Placed.{laid_pieces, landing_pieces, words_of}
use Rattle.vx_frame.specs.Placing.{landings_from, marks_from, starts_from}
use Rattle.vx_slots.specs.Seen.{seen}
use Rattle.vx_frame.proofs.Emitting.{function_words, places_are_at}
use Rattle.vx_frame.proofs.pieces.note_function.Goals as goal

pub returns-clause-words : goal.returns-clause-words
returns-clause-words c =
    let T = seen c.args.whole.now in
    let f = c.args.function in
    let laid : List Word = c.note_laid.new.words in
    IfOk-weaker c.push_landings.result _ _ (λ _ landed. function_words T f c.args.words.now c.push_entry.new.words laid c.push_landings.new.words c.in_ok-push_entry.ensures
    (c.in_ok-note_laid.ensures.words ∙ ap (λ (xs : List VirtualWord). c.push_entry.new.words ++ words_of (laid_pieces T f 0 xs)) c.words_of-laid.ensures)
    (landed ∙ ap (λ (xs : List VirtualWord). laid ++ words_of (landing_pieces T f 0 xs)) c.words_of-laid.ensures)) c.push_landings.ensures.words

pub returns-clause-places : goal.returns-clause-places
returns-clause-places c =
    let T = seen c.args.whole.now in
    let f = c.args.function in
    let entered : List Word = c.push_entry.new.words in
    let laid : List Word = c.note_laid.new.words in
    IfOk-weaker c.push_landings.result _ _ (λ _ landed x entry starts landings marks. places_are_at T f c.args.words.now entered laid x c.in_ok-push_entry.ensures
    (c.in_ok-note_laid.ensures.words ∙ ap (λ (xs : List VirtualWord). entered ++ words_of (laid_pieces T f 0 xs)) c.words_of-laid.ensures)
    entry
    (starts ∙ c.in_ok-note_laid.ensures.starts ∙ ap (starts_from T f (length entered) 0) c.words_of-laid.ensures)
    (landings ∙ landed ∙ ap (landings_from T f (length laid) 0) c.words_of-laid.ensures)
    (marks ∙ c.in_ok-note_laid.ensures.marks ∙ ap (marks_from T f (length entered) 0) c.words_of-laid.ensures)) c.push_landings.ensures.landings
