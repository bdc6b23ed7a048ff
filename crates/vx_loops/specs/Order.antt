-- Orders of the blocks of a graph, as lists of their numbers.
use Rattle.std.specs.Prelude.{◌≡◌, ◌==◌, ◌+◌, ◌<◌, ◌≤◌, ◌^◌, ℕ, Bool, true, if◌then◌else◌, List, [], ◌∷◌}
use Rattle.vx_flow.specs.Rows.{is_marked}

-- how often a number stands in a list
abbrev pub times_in : ℕ → List ℕ → ℕ
times_in b [] = 0
times_in b (x ∷ xs) = (if x == b then 1 else 0) + times_in b xs

-- each number below count stands in the list once, and no other number stands there
pub record HasEachOnce (count : ℕ) (xs : List ℕ) : Type 0 where
  pub each : (b : ℕ) → b < count → times_in b xs ≡ 1
  pub no_other : (b : ℕ) → count ≤ b → times_in b xs ≡ 0

-- the marked places are those whose numbers stand in the list, each once
pub record Placed (marks : List Bool) (xs : List ℕ) : Type 0 where
  pub counted : (b : ℕ) → times_in b xs ≡ (if is_marked marks b then 1 else 0)
  pub small : (b : ℕ) → is_marked marks b ≡ true → b < 2 ^ 32

-- what is marked stays so
abbrev pub MarksStay : List Bool → List Bool → Type 0
MarksStay before after = (b : ℕ) → is_marked before b ≡ true → is_marked after b ≡ true
