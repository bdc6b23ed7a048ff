-- None of those so far is the value.
use Rattle.std.proofs.Common.{◌≡◌, ◌∙◌, ◌||◌, ◌+◌, ◌<◌, ℕ, Bool, List, false, length, take, get_or, ap, sym}
use Rattle.std.specs.Prelude.{◌==◌}
use Rattle.std.specs.List.{list_any}
use Rattle.std.proofs.lemmas.Bool.{eq-eqb, ne_eqb}
use Rattle.std.proofs.lemmas.List.{take_all}
use Rattle.std.proofs.lemmas.List.Folds.{list_any_at, list_any_more}
use Rattle.vx_calls.proofs.saves.is_among.Goals as goal

none_more : (p : ℕ → Bool) (xs : List ℕ) (i d : ℕ) → i < length xs → list_any p (take i xs) ≡ false → p (get_or xs i d) ≡ false → list_any p (take (i + 1) xs) ≡ false
none_more p xs i d inside so none = list_any_more p xs i d inside ∙ ap (λ b. b || p (get_or xs i d)) so ∙ none

pub loop-other-preserved : goal.loop-other-preserved
loop-other-preserved c = none_more (λ u. u == c.args.value) c.args.values.now c.loop-other.other-index _ c.loop-other-test.true c.loop-other.invariant (ne_eqb _ _ c.if-other-value.false)

pub returns-then-other-value : goal.returns-then-other-value
returns-then-other-value c = sym (list_any_at (λ u. u == c.args.value) c.args.values.now c.loop-other.other-index _ c.loop-other-test.true (eq-eqb _ _ c.if-other-value.true))

pub returns : goal.returns
returns c = sym c.loop-other.invariant ∙ ap (list_any (λ u. u == c.args.value)) (take_all c.loop-other.other-index c.args.values.now c.loop-other-test.false)
