-- The number at the place of a timing whose list is not empty.
use Rattle.std.proofs.Common.{◌≡◌, ◌<◌, ℕ, List, [], ◌∷◌, length, get_or, min, max, sym, ap, ◌∙◌, arith}
use Rattle.std.proofs.Math.Nat.{min_comm, max_comm, mod-eq_of_lt}
use Rattle.std.proofs.lemmas.Grind.{get_or_default_zero}
use Rattle.vx_base.specs.Flight.{landing_time}
use Rattle.vx_probe.specs.Times.{list_of, cycling}

pub number_at : (list : List ℕ) (p number latency : ℕ) → p < length list → number ≡ get_or list p number → min (max number 1) latency ≡ landing_time (list_of (cycling list p)) p latency
number_at [] p number latency inside at = absurd (omega (arith, inside))
number_at (x ∷ xs) p number latency inside at =
    min_comm (max number 1) latency
    ∙ ap (λ n. min latency n) (max_comm number 1
    ∙ ap (λ n. max 1 n) (at ∙ get_or_default_zero (x ∷ xs) p number inside ∙ ap (λ i. get_or (x ∷ xs) i 0) (sym (mod-eq_of_lt inside))))
