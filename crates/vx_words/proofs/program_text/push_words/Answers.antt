-- Each turn puts one word more, behind its label where it has one.
use Rattle.std.proofs.Common.{◌∙◌, ◌<◌, ◌++◌, [], false, length, codes, ap, sym, arith}
use Rattle.std.specs.Prelude.{if◌then◌else◌}
use Rattle.std.proofs.lemmas.List.{append-nil, get_or_read}
use Rattle.vx_words.specs.Spelling.{label_line, place_text}
use Rattle.vx_words.proofs.Pieces.{two_put, words_all, words_more}
use Rattle.vx_words.proofs.program_text.push_words.Goals as goal
use Rattle.vx_words.proofs.program_text.push_words.Goals.{then-index+in_ok-push_place+in_ok-push_bytes, else-index}

pub loop-place-preserved : goal.loop-place-preserved
loop-place-preserved c =
    let words = c.args.words.now in
    let place = c.loop-place.place in
    let out = c.loop-place.out.items in
    let named = c.index.result.now in
    let there : place < length c.in_ok-named.named.items = omega (arith, c.loop-place-test.true, c.in_ok-named.ensures.length, c.in_ok-named.named.ok.0) in
    let same = get_or_read c.in_ok-named.named.items place named there c.index.ensures false ∙ c.in_ok-named.ensures.named place c.loop-place-test.true in
    words_more words words place out _ c.loop-place.invariant c.index-words-place.result c.if-index.out.items c.push_word.new.out.items named c.index-words-place.is c.loop-place-test.true same (elim c.if-index.branch [
      | then-index+in_ok-push_place+in_ok-push_bytes w ↦ ap (λ o. o.items) w.out-is ∙ two_put out _ _ (place_text place) (codes "\n") w.in_ok-push_place.ensures w.in_ok-push_bytes.ensures ∙ ap (λ b. out ++ (if b then label_line place else [])) (sym w.if-index.true)
      | else-index w ↦ ap (λ o. o.items) w.out-is ∙ sym (append-nil out) ∙ ap (λ b. out ++ (if b then label_line place else [])) (sym w.if-index.false)
    ]) c.in_ok-push_word.ensures

pub returns : goal.returns
returns c = words_all c.args.words.now c.args.words.now c.loop-place.place c.loop-place.out.items _ c.loop-place.invariant c.loop-place-test.false
