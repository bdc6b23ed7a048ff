-- Each turn saves the values of one place more.
use Rattle.std.proofs.Common.{◌∙◌, ◌+◌, ◌++◌, ◌∷◌, [], get_or, refl, ap}
use Rattle.vx_mixed.specs.declared.layout.VirtualWord.{VirtualWord}
use Rattle.vx_calls.specs.Saves.{saved_from, saved_round}
use Rattle.vx_calls.proofs.Pieces.{placed_all, placed_more}
use Rattle.vx_calls.proofs.saves.saved.Goals as goal

pub loop-place-preserved : goal.loop-place-preserved
loop-place-preserved c =
    let living = c.args.living.now in
    let values = c.args.values.now in
    let words = c.args.words.now in
    let place = c.loop-place.place in
    let out = c.loop-place.saved in
    let word = c.index-words-place.result in
    placed_more (saved_from living values) out _ place words place c.loop-place.invariant c.push_round.new.saved (saved_round living values (place + 1) (get_or words place word) ∷ []) (place + 1) word c.loop-place-test.true refl
    (c.in_ok-push_round.ensures ∙ ap (λ (w : VirtualWord). out ++ saved_round living values (place + 1) w ∷ []) c.index-words-place.is)

pub returns : goal.returns
returns c = placed_all (saved_from c.args.living.now c.args.values.now) c.loop-place.saved _ c.loop-place.place c.args.words.now c.loop-place.place c.loop-place.invariant c.loop-place-test.false refl
