-- Chains of blocks.
use Rattle.std.specs.Prelude.{◌≡◌, ◌<◌, ℕ, List, Some, length, slice_get}

-- each of the chains has a block
abbrev pub AreFilled : List (List ℕ) → Type 0
AreFilled chains = (i : ℕ) (chain : List ℕ) → slice_get chains i ≡ Some chain → 0 < length chain
