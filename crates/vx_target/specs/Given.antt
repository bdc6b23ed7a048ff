-- Arrays that are given to a function by its caller, and its own: the spots where they stand.
use Rattle.std.specs.Prelude.{not, ◌≡◌, ◌⊎◌, ◌<◌, ◌≤◌, ◌+◌, ◌-◌, ℕ, Bool, true, false, Option, Some, None, List, slice_get, slice_index_or}
use Rattle.std.specs.List.{filter}
use Rattle.vx_flow.specs.Meaning.{spot_in}
use Rattle.vx_flow.specs.Walk.{numbers}

-- those of its own among so many behind the globals
abbrev pub owned : (given : ℕ → Bool) → (globals count : ℕ) → List ℕ
owned given globals count = filter (λ a. not (given a)) (numbers globals count)

-- for each array that is given, a spot is passed, and for none else
pub record Passes (given : ℕ → Bool) (globals count : ℕ) (passed : List (Option ℕ)) : Type 0 where
  pub spots : (j : ℕ) → j < count → given (globals + j) ≡ true → (k : ℕ) × (slice_index_or passed j None ≡ Some k)
  pub no_more : (j : ℕ) → j < count → given (globals + j) ≡ false → slice_index_or passed j None ≡ None

-- the arrays of its own stand one behind the other from the base on
abbrev pub OwnSpotsLaw : Type 0
OwnSpotsLaw =
    (given : ℕ → Bool) (globals count base : ℕ) (passed : List (Option ℕ)) → Passes given globals count passed → (j a : ℕ) → slice_get (owned given globals count) j ≡ Some a → spot_in globals passed base a ≡ base + j

-- each array behind the globals that is not given is one of them
abbrev pub OwnedLaw : Type 0
OwnedLaw = (given : ℕ → Bool) (globals count a : ℕ) → globals ≤ a → a < globals + count → given a ≡ false → (j : ℕ) × (slice_get (owned given globals count) j ≡ Some a)

-- one that is given stands at the spot that is passed for it
abbrev pub GivenSpotsLaw : Type 0
GivenSpotsLaw = (globals base a k : ℕ) (passed : List (Option ℕ)) → globals ≤ a → slice_index_or passed (a - globals) None ≡ Some k → spot_in globals passed base a ≡ k

-- an array is a global or given
abbrev pub IsForeign : (given : ℕ → Bool) → (globals a : ℕ) → Type 0
IsForeign given globals a = (a < globals) ⊎ (given a ≡ true)

-- where only spots in front of the base are passed, two arrays at one spot are one, or both are global or given
abbrev pub SpotsApartLaw : Type 0
SpotsApartLaw =
    (given : ℕ → Bool) (globals count base : ℕ) (passed : List (Option ℕ)) → Passes given globals count passed → globals ≤ base → ((j k : ℕ) → slice_index_or passed j None ≡ Some k → k < base) →
    (a b : ℕ) → a < globals + count → b < globals + count → spot_in globals passed base a ≡ spot_in globals passed base b → (a ≡ b) ⊎ (IsForeign given globals a × IsForeign given globals b)
