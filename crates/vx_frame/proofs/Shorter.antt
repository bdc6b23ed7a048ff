-- A list behind its first item is shorter.
use Rattle.std.proofs.Common.{◌≡◌, ◌<◌, suc, List, ◌∷◌, length, arith, subst, sym}

pub shorter : {X : Type 0} (rest others : List X) (x : X) → rest ≡ x ∷ others → length others < length rest
shorter rest others x e =
    let less : length others < suc (length others) = omega arith in
    subst (λ z. length others < length z) (sym e) less
