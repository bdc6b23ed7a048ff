-- Each turn marks the places of one word more.
use Rattle.std.proofs.Common.{◌≡◌, ◌∙◌, ◌||◌, false, get_or, length, ap, arith, subst}
use Rattle.std.specs.List.{list_any}
use Rattle.std.proofs.lemmas.List.{take_all}
use Rattle.vx_words.specs.Spelling.{is_named, names}
use Rattle.vx_words.proofs.Marks.{named_more}
use Rattle.vx_words.proofs.program_text.named_places.Goals as goal

pub loop-word-preserved : goal.loop-word-preserved
loop-word-preserved c = (
  c.loop-word.invariant.0,
  named_more c.args.words.now c.loop-word.word-index c.word-item.result c.loop-word.named.items c.mark_named.new.named c.loop-word.named.len c.as_slice.result.now c.loop-word.invariant.0 (omega (arith, c.loop-word.named.ok.0)) (omega (arith, c.mark_named.auto.named, c.deref_mut.ensures.len, ap (λ l. length l) c.deref_mut.ensures.value))
      c.loop-word.invariant.1 (λ p lt. subst (λ l. get_or c.mark_named.new.named p false ≡ (get_or l p false || list_any (names p) c.as_slice.result.now)) c.deref_mut.ensures.value (c.mark_named.ensures p (omega (arith, lt, ap (λ l. length l) c.deref_mut.ensures.value)))) c.as_slice.ensures c.word-item.is c.loop-word-test.true,
)

pub returns-clause-named : goal.returns-clause-named
returns-clause-named c = λ p lt. c.loop-word.invariant.1 p lt ∙ ap (λ l. is_named l p) (take_all c.loop-word.word-index c.args.words.now c.loop-word-test.false)
