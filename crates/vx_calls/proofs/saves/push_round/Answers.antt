use Rattle.std.proofs.Common.{◌∙◌, ◌+◌, ◌++◌, ◌∷◌, [], ℕ, List, ap}
use Rattle.vx_calls.specs.Saves.{saved_round}
use Rattle.vx_calls.proofs.saves.push_round.Goals as goal

pub returns : goal.returns
returns c =
    let old = c.args.saved.now in
    let round = c.in_ok-saved_round.ensures
    ∙ ap (λ (n : ℕ). saved_round c.args.living.now c.args.values.now n c.args.word.now) (c.in_ok-next.ensures ∙ ap (λ (n : ℕ). n + 1) c.in_ok-number_of.ensures) in
    c.in_ok-push.ensures.ok ∙ ap (λ (z : List ℕ). old ++ z ∷ []) round
