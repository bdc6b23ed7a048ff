-- What is escaped has no byte that begins or ends an element, or the value of an attribute.
use Rattle.std.proofs.Common.{◌≡◌, ◌∙◌, ℕ, ◌==◌, ◌||◌, ◌&&◌, Bool, true, false, not, if◌then◌else◌, List, [], ◌∷◌, codes, ap, refl}
use Rattle.std.specs.List.{flat_map, list_all}
use Rattle.std.proofs.lemmas.List.Folds.{list_all-append}
use Rattle.vx_page.specs.Escaped.{StaysInside, escaped, is_inner}

-- the text of a byte by the answers of the five tests
abbrev named : (less greater and double single : Bool) → ℕ → List ℕ
named less greater and double single c =
    if less then codes "&lt;"
    else if greater then codes "&gt;"
    else if and then codes "&amp;"
    else if double then codes "&quot;"
    else if single then codes "&#39;"
    else c ∷ []

named_inside : (less greater and double single : Bool) (c : ℕ) → is_inner c ≡ not (less || greater || double || single) → list_all is_inner (named less greater and double single c) ≡ true
named_inside true greater and double single c is = refl
named_inside false true and double single c is = refl
named_inside false false true double single c is = refl
named_inside false false false true single c is = refl
named_inside false false false false true c is = refl
named_inside false false false false false c is = ap (λ b. b && true) is

pub stays_inside : StaysInside
stays_inside [] = refl
stays_inside (c ∷ cs) =
    list_all-append is_inner (escaped c) (flat_map escaped cs) ∙ ap (λ b. b && list_all is_inner (flat_map escaped cs)) (named_inside (c == 60) (c == 62) (c == 38) (c == 34) (c == 39) c refl) ∙ stays_inside cs
