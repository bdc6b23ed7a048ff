-- Places in chains, one chain for each number: each place with the entry of the one that was put before it.
use Rattle.std.specs.Prelude.{◌≡◌, ◌≤◌, ◌+◌, ℕ, Some, List, length, slice_get, slice_index_or}
use Rattle.vx_dep.specs.declared.links.Link.{Link}

-- the entry of the last place of a number's chain, counted from 1; 0 where none was put
abbrev pub head_at : List ℕ → ℕ → ℕ
head_at heads row = slice_index_or heads row 0

-- a place is in the chain that ends with an entry
pub data OnChain (links : List Link) (i : ℕ) : (at : ℕ) → Type 0 where
  here : (at k : ℕ) (l : Link) → at ≡ k + 1 → slice_get links k ≡ Some l → i ≡ l.place → OnChain links i at
  there : (at k : ℕ) (l : Link) → at ≡ k + 1 → slice_get links k ≡ Some l → OnChain links i l.before → OnChain links i at

-- the entry before one was put before it
abbrev pub AreBefore : List Link → Type 0
AreBefore links = (k : ℕ) (l : Link) → slice_get links k ≡ Some l → l.before ≤ k

abbrev pub AreHeads : List ℕ → List Link → Type 0
AreHeads heads links = (row : ℕ) → head_at heads row ≤ length links

-- a place was put for a number
abbrev pub IsPut : List ℕ → List Link → (row i : ℕ) → Type 0
IsPut heads links row i = OnChain links i (head_at heads row)

-- what was put stays so
abbrev pub PutsStay : (heads : List ℕ) → (links : List Link) → (others : List ℕ) → (more : List Link) → Type 0
PutsStay heads links others more = (row i : ℕ) → IsPut heads links row i → IsPut others more row i
