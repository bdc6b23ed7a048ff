-- Each of some values once: the same values, and none twice.
use Rattle.std.proofs.Common.{◌≡◌, inl, inr, ⊎_elim, ◌==◌, ℕ, Bool, true, false, not, eqb, List, [], ◌∷◌, sym, ap, ◌∙◌, arith}
use Rattle.std.specs.Prelude.{if◌then◌else◌}
use Rattle.std.specs.List.{filter}
use Rattle.std.proofs.lemmas.Bool.Decides.{nat_tests}
use Rattle.vx_flow.specs.Effects.{IsIn}
use Rattle.vx_mixed.specs.Settled.{NoTwice}
use Rattle.vx_mixed.proofs.TraceFacts.{in_filter, filter_has}
use Rattle.vx_target.specs.Target.{once}
use Rattle.vx_target.proofs.Cells.{same_or_not}

eqb_self : (n : ℕ) → eqb n n ≡ true
eqb_self n = grind (arith, nat_tests)

pub in_once : (v : ℕ) (vs : List ℕ) → IsIn v vs → IsIn v (once vs)
in_once v [] i = i
in_once v (u ∷ us) i = ⊎_elim (λ q. inl q.1) (λ q. inr (filter_has (λ x. not (x == u)) (once us) v (in_once v us (⊎_elim (λ e. absurd (q.1 e)) (λ j. j) i)) (ap not q.0))) (same_or_not v u)

pub once_in : (v : ℕ) (vs : List ℕ) → IsIn v (once vs) → IsIn v vs
once_in v [] i = i
once_in v (u ∷ us) i = ⊎_elim (λ e. inl e) (λ j. inr (once_in v us (in_filter (λ x. not (x == u)) (once us) v j).0)) i

filter_once : (p : ℕ → Bool) (vs : List ℕ) → NoTwice vs → NoTwice (filter p vs)
filter_once p [] n = tt
filter_once p (u ∷ us) n = by (p u) (filter_once p us n.1)
  where
    by : (b : Bool) → NoTwice (filter p us) → NoTwice (if b then u ∷ filter p us else filter p us)
    by true more = ((λ i. n.0 (in_filter p us u i).0), more)
    by false more = more

pub no_twice : (vs : List ℕ) → NoTwice (once vs)
no_twice [] = tt
no_twice (u ∷ us) = (
  λ i. (let h : not (eqb u u) ≡ true = (in_filter (λ x. not (x == u)) (once us) u i).1 in let e : false ≡ true = sym (ap not (eqb_self u)) ∙ h in cc),
  filter_once (λ x. not (x == u)) (once us) (no_twice us),
)
