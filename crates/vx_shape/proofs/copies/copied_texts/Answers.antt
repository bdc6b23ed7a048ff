use Rattle.std.proofs.Common.{◌∙◌, ◌∷◌, ◌++◌, [], List, ℕ, take, sym, ap}
use Rattle.std.proofs.lemmas.List.{take_all, take_more}
use Rattle.vx_shape.proofs.copies.copied_texts.Goals as goal

pub loop-text-preserved : goal.loop-text-preserved
loop-text-preserved c =
    let texts = c.args.texts.now in
    let i = c.loop-text.text-index in
    c.in_ok-push.ensures.ok
    ∙ ap (λ (z : List (List ℕ)). z ++ c.in_ok-copied.field-0 ∷ []) c.loop-text.invariant
    ∙ ap (λ (x : List ℕ). take i texts ++ x ∷ []) (c.in_ok-copied.ensures ∙ c.as_slice.ensures ∙ c.text-item.is)
    ∙ sym (take_more texts i c.text-item.result c.loop-text-test.true)

pub returns : goal.returns
returns c = c.loop-text.invariant ∙ take_all c.loop-text.text-index c.args.texts.now c.loop-text-test.false
