-- One chain more.
use Rattle.std.proofs.Common.{◌≡◌, ℕ, zero, suc, ◌<◌, List, [], ◌∷◌, ◌++◌, length, sym, subst, ap, ◌∙◌, arith}
use Rattle.std.specs.Prelude.{replicate}
use Rattle.std.proofs.lemmas.List.{length-replicate}
use Rattle.std.proofs.lemmas.Option.{same_Some}
use Rattle.vx_clean.specs.Chains.{AreFilled}

pub filled_more : (chains : List (List ℕ)) (chain : List ℕ) → AreFilled chains → 0 < length chain → AreFilled (chains ++ chain ∷ [])
filled_more [] chain h some zero other e = subst (λ z. 0 < length z) (same_Some chain other e) some
filled_more [] chain h some (suc i) other e = absurd (cc)
filled_more (x ∷ chains) chain h some zero other e = h zero other e
filled_more (x ∷ chains) chain h some (suc i) other e = filled_more chains chain (λ j c q. h (suc j) c q) some i other e

some : (xs : List ℕ) (y : ℕ) → 0 < length (xs ++ y ∷ [])
some [] y = omega arith
some (x ∷ xs) y = omega arith

-- a list at whose end something was put
pub pushed_some : (xs ys : List ℕ) (y : ℕ) → ys ≡ xs ++ y ∷ [] → 0 < length ys
pushed_some xs ys y e = subst (λ z. 0 < length z) (sym e) (some xs y)

-- a table that has one number everywhere
pub filled_length : (n k : ℕ) (table : List ℕ) → table ≡ replicate n k → length table ≡ n
filled_length n k table e = ap (λ (z : List ℕ). length z) e ∙ length-replicate n k
