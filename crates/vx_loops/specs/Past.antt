-- Rows of numbers of loops, and counts.
use Rattle.std.specs.Prelude.{◌≡◌, ◌<◌, ◌+◌, ◌-◌, ◌^◌, ℕ, Bool, if◌then◌else◌, min, List, slice_index_or}

-- the row names loops up to the one with this number, or no loop, which is the greatest number
abbrev pub NamesPast : ℕ → List ℕ → Type 0
NamesPast number row = (k : ℕ) → number < slice_index_or row k 0 → slice_index_or row k 0 ≡ 2 ^ 64 - 1

-- one more of what was counted before, up to the greatest count, or the first
abbrev pub counted_again : ℕ → Bool → ℕ
counted_again times again = if again then min (times + 1) (2 ^ 32 - 1) else 1
