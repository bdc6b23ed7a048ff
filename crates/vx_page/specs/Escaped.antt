-- Bytes of a source in a page: the five bytes that could end an element or the value of an attribute stand there by their names, and
-- every other byte as it is.
use Rattle.std.specs.Prelude.{◌≡◌, ℕ, ◌==◌, ◌||◌, Bool, true, not, if◌then◌else◌, List, [], ◌∷◌, codes}
use Rattle.std.specs.List.{flat_map, list_all}

-- `<`, `>`, `&`, `"`, `'`
abbrev pub escaped : ℕ → List ℕ
escaped c =
    if c == 60 then codes "&lt;"
    else if c == 62 then codes "&gt;"
    else if c == 38 then codes "&amp;"
    else if c == 34 then codes "&quot;"
    else if c == 39 then codes "&#39;"
    else c ∷ []

-- the byte neither begins nor ends an element, or the value of an attribute
abbrev pub is_inner : ℕ → Bool
is_inner c = not ((c == 60) || (c == 62) || (c == 34) || (c == 39))

-- whatever stands in a source, no byte of what is put for it does
abbrev pub StaysInside : Type 0
StaysInside = (text : List ℕ) → list_all is_inner (flat_map escaped text) ≡ true
