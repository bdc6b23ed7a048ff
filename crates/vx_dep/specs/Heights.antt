-- Heights so far, found from the last operation to the first.
use Rattle.std.specs.Prelude.{◌≡◌, ◌≤◌, ◌⊎◌, ◌+◌, ℕ, List, length, slice_index_or}
use Rattle.vx_flow.specs.declared.trace.Trace.{Trace}
use Rattle.vx_isa.specs.Numbers.{Numbers}
use Rattle.vx_dep.specs.declared.mode.Mode.{Mode}
use Rattle.vx_dep.specs.Delays.{Applies}

abbrev pub at : List ℕ → ℕ → ℕ
at heights i = slice_index_or heights i 0

-- so many heights, all 0
pub record AreZero (count : ℕ) (heights : List ℕ) : Type 0 where
  pub each : length heights ≡ count
  pub zero : (i : ℕ) → at heights i ≡ 0

-- the greatest sum of a delay of the operation at place i and the height below it, over the operations from place k on
pub record IsHighest (m : Numbers) (mode : Mode) (t : Trace) (height : ℕ → ℕ) (i k found : ℕ) : Type 0 where
  pub met : (j delay : ℕ) → k ≤ j → Applies m mode t i j delay → delay + height j ≤ found
  pub reached : ((found ≡ 0) × ((j delay : ℕ) → k ≤ j → Applies m mode t i j delay → ⊥)) ⊎ ((j : ℕ) × (delay : ℕ) × (k ≤ j) × Applies m mode t i j delay × (found ≡ delay + height j))
