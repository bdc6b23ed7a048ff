-- Counts that stop at the greatest number of 64 bits, and counts that are over a limit.
use Rattle.std.specs.Prelude.{ℕ, min, List, length, map, Option, Some, None}
use Rattle.vx_ast.specs.Accepted.{Over}
use Rattle.vx_limits.specs.declared.limits.Over.{Over as Found}

abbrev pub capped : ℕ → ℕ
capped n = min n 18446744073709551615

abbrev pub over_of : ℕ → ℕ → Over
over_of number count = record { number = number; count = count }

abbrev pub over_is : Found → Over
over_is o = record { number = o.number; count = o.count }

abbrev pub lengths_of : List (List ℕ) → List ℕ
lengths_of formats = map (λ format. length format) formats

abbrev pub or_count : Option ℕ → Option ℕ → Option ℕ
or_count (Some n) other = Some n
or_count None other = other
