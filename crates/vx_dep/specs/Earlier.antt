-- The operations above another one of a trace that it has to stand behind, as a list.
use Rattle.std.specs.Prelude.{◌≡◌, ◌<◌, ◌≤◌, ◌+◌, ℕ, max, Option, Some, None, List, [], ◌∷◌, length, slice_set, slice_index_or}
use Rattle.vx_flow.specs.declared.trace.Trace.{Trace}
use Rattle.vx_flow.specs.Effects.{IsIn}
use Rattle.vx_isa.specs.Numbers.{Numbers}
use Rattle.vx_dep.specs.declared.mode.Mode.{Mode}
use Rattle.vx_dep.specs.declared.earlier.Earlier.{Earlier}
use Rattle.vx_dep.specs.Delays.{Applies, IsDelay}

-- the operation at place i is listed, with so many words at least
pub record IsListed (list : List Earlier) (i words : ℕ) : Type 0 where
  pub entry : Earlier
  pub is : IsIn entry list
  pub place : entry.place ≡ i
  pub delay : words ≤ entry.delay

-- those before place k that the operation at place j has to stand behind, each with its delay
pub record AreEarlier (m : Numbers) (mode : Mode) (t : Trace) (j k : ℕ) (list : List Earlier) : Type 0 where
  pub sound : (e : Earlier) → IsIn e list → IsDelay m mode t e.place j (Some e.delay)
  pub whole : (i delay : ℕ) → i < k → Applies m mode t i j delay → IsListed list i delay

-- the operation at place j has no delay behind those from place i on and before place k
abbrev pub NoneBetween : Numbers → Mode → Trace → (j i k : ℕ) → Type 0
NoneBetween m mode t j i k = (above delay : ℕ) → i ≤ above → above < k → Applies m mode t above j delay → ⊥

-- one list for each operation
abbrev pub list_at : List (List Earlier) → ℕ → List Earlier
list_at lists j = slice_index_or lists j []

pub record AreAllEarlier (m : Numbers) (mode : Mode) (t : Trace) (lists : List (List Earlier)) : Type 0 where
  pub each : length lists ≡ length t.ops
  pub right : (j : ℕ) → AreEarlier m mode t j j (list_at lists j)

-- what is noted of the operation at a place, where there is a delay
abbrev pub noted : ℕ → Option ℕ → List Earlier
noted i None = []
noted i (Some delay) = record { place = i; delay = delay } ∷ []

-- heights raised by those that an operation of a height has to stand behind

abbrev pub raised_at : (below : ℕ) → List ℕ → Earlier → List ℕ
raised_at below heights e = slice_set heights e.place (max (slice_index_or heights e.place 0) (e.delay + below))

abbrev pub raised : (below : ℕ) → List ℕ → List Earlier → List ℕ
raised below heights [] = heights
raised below heights (e ∷ es) = raised below (raised_at below heights e) es
