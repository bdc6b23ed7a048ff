-- One step along the places above a split.
use Rattle.std.proofs.Common.{◌≡◌, ℕ, suc, ◌+◌, ◌-◌, ◌<◌, sym, ◌∙◌, ap, arith, Bool, if◌then◌else◌, List, ◌∷◌, ◌++◌}
use Rattle.std.specs.List.{filter}
use Rattle.vx_flow.specs.Walk.{numbers}

-- the next number is the first of those that are left
numbers_step : (place end : ℕ) → place < end → numbers place (end - place) ≡ place ∷ numbers (place + 1) (end - (place + 1))
numbers_step place end h = let e : end - place ≡ suc (end - (place + 1)) = omega (arith, h) in ap (numbers place) e

pub filter_step : (test : ℕ → Bool) (place end : ℕ) (copies next whole : List ℕ) → place < end →
    ((rest : List ℕ) → next ++ rest ≡ copies ++ (if test place then place ∷ rest else rest)) → copies ++ filter test (numbers place (end - place)) ≡ whole →
    next ++ filter test (numbers (place + 1) (end - (place + 1))) ≡ whole
filter_step test place end copies next whole h step more = step (filter test (numbers (place + 1) (end - (place + 1)))) ∙ ap (λ ns. copies ++ filter test ns) (sym (numbers_step place end h)) ∙ more
