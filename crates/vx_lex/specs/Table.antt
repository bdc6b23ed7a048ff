-- Tables whose spellings are behind references.
use Rattle.std.specs.Prelude.{ℕ, List, Option, find, length, map, nat_eq}
use Rattle.std.specs.List.{starts_with}
use Rattle.std.specs.Option.{option_map}
use Rattle.std.specs.Borrow.{Bor}
use Rattle.vx_ast.specs.declared.token.Keyword.{Keyword}
use Rattle.vx_ast.specs.declared.token.Mark.{Mark}

-- its entries
abbrev pub spelled : List (Bor (List ℕ) × Keyword) → List (List ℕ × Keyword)
spelled table = map (λ (k : Bor (List ℕ) × Keyword). (k.0.now, k.1)) table

-- the entries of one of marks
abbrev pub marked : List (Bor (List ℕ) × Mark) → List (List ℕ × Mark)
marked table = map (λ (m : Bor (List ℕ) × Mark). (m.0.now, m.1)) table

-- the mark of the first entry that begins a text, and how many bytes it has
abbrev pub mark_in : List (List ℕ × Mark) → List ℕ → Option (Mark × ℕ)
mark_in table text = option_map (λ (m : List ℕ × Mark). (m.1, length m.0)) (find (λ (m : List ℕ × Mark). starts_with nat_eq text m.0) table)
