-- Hulls of places: what a note of places adds to them.
use Rattle.std.specs.Prelude.{◌≡◌, ◌⊎◌, ◌≤◌, ℕ, nat_lt, if◌then◌else◌, Option, Some, None, List, slice_index_or}
use Rattle.vx_regs.specs.declared.hulls.Hull.{Hull}

abbrev pub hull_at : List (Option Hull) → ℕ → Option Hull
hull_at hulls v = slice_index_or hulls v None

abbrev pub lesser : ℕ → ℕ → ℕ
lesser a b = if nat_lt a b then a else b

abbrev pub greater : ℕ → ℕ → ℕ
greater a b = if nat_lt b a then a else b

abbrev pub widened : Option Hull → ℕ → Hull
widened None place = record { from = place; to = place }
widened (Some h) place = record { from = lesser place h.from; to = greater place h.to }

-- a place is in the hull of a value
pub record Spanned (hulls : List (Option Hull)) (v place : ℕ) : Type 0 where
  pub hull : Hull
  pub is : hull_at hulls v ≡ Some hull
  pub below : hull.from ≤ place
  pub above : place ≤ hull.to

-- a place is the first or the last of the hull of a value
pub record AtEdge (hulls : List (Option Hull)) (v place : ℕ) : Type 0 where
  pub hull : Hull
  pub is : hull_at hulls v ≡ Some hull
  pub edge : (hull.from ≡ place) ⊎ (hull.to ≡ place)

-- these values are noted at these places, and nothing else is
pub record Notes (noted : ℕ → ℕ → Type 0) (old new : List (Option Hull)) : Type 0 where
  pub more : (v place : ℕ) → noted v place → Spanned new v place
  pub kept : (v place : ℕ) → Spanned old v place → Spanned new v place
  pub only : (v place : ℕ) → AtEdge new v place → noted v place ⊎ AtEdge old v place

-- this value at this place
abbrev pub At : ℕ → ℕ → ℕ → ℕ → Type 0
At value at v place = (v ≡ value) × (place ≡ at)
