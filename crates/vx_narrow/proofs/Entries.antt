-- What holds at an entry, by one more parameter.
use Rattle.std.proofs.Common.{◌≡◌, ℕ, ◌-◌, ◌≤◌, List, [], ◌∷◌, ◌++◌, length, take, drop, get_or, ap, ◌∙◌, arith}
use Rattle.std.proofs.lemmas.List.{take_all}
use Rattle.vx_claims.specs.declared.intervals.Interval.{Interval}
use Rattle.vx_claims.specs.declared.fact.Fact.{Fact}
use Rattle.vx_claims.specs.Facts.{lies_in, without}
use Rattle.vx_narrow.specs.Checking.{lie_in}

pub lie_more : (qs : List ℕ) (is : List Interval) (d : ℕ) (k : Interval) (behind seen start new : List Fact) → 1 ≤ length qs → 1 ≤ length is →
    behind ≡ lie_in (take (length qs - 1) (drop 1 qs)) (take (length is - 1) (drop 1 is)) → seen ≡ behind → start ≡ [] →
    new ≡ start ++ lies_in (get_or qs 0 d) (get_or is 0 k) (without (get_or qs 0 d) seen) → new ≡ lie_in qs is
lie_more [] is d k behind seen start new n m e s z w = absurd (omega (arith, n))
lie_more (q ∷ qs) [] d k behind seen start new n m e s z w = absurd (omega (arith, m))
lie_more (q ∷ qs) (i ∷ is) d k behind seen start new n m e s z w =
    let a : take (length (q ∷ qs) - 1) qs ≡ qs = take_all (length (q ∷ qs) - 1) qs (omega arith) in
    let b : take (length (i ∷ is) - 1) is ≡ is = take_all (length (i ∷ is) - 1) is (omega arith) in
    let there : seen ≡ lie_in qs is = s ∙ e ∙ ap (λ l. lie_in l (take (length (i ∷ is) - 1) is)) a ∙ ap (λ l. lie_in qs l) b in
    w ∙ ap (λ l. l ++ lies_in q i (without q seen)) z ∙ ap (λ l. lies_in q i (without q l)) there
