-- What the tables of a trace tell of a pair of places.
use Rattle.std.specs.Prelude.{◌-◌, ℕ, Bool, false, nat_lt, nat_le, Option, Some, None, List, slice_index_or}
use Rattle.vx_dep.specs.declared.tables.Standing.{Standing}

-- from place i down to place j nothing writes what the operation at i writes, whose entry is given
abbrev pub reaches : Standing → (i j : ℕ) → Bool
reaches standing i j = nat_le (j - i - 1) standing.kept

-- a join stands below place i, down to the place whose entry is given
abbrev pub has_join : Standing → ℕ → Bool
has_join standing i = nat_lt i standing.joined

-- what the operation at place j writes is live where the split at place i leaves, whose list is given
abbrev pub is_live : Option (List Bool) → (i j : ℕ) → Bool
is_live None i j = false
is_live (Some live) i j = slice_index_or live (j - i - 1) false
