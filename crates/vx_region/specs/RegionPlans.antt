-- The words of traces on clusters.
use Rattle.std.specs.Prelude.{◌≡◌, ℕ}
use Rattle.vx_flow.specs.declared.trace.Clustered.{Clustered}
use Rattle.vx_flow.specs.declared.trace.Placed.{Placed}
use Rattle.vx_flow.specs.declared.trace.Homes.{Homes}
use Rattle.vx_isa.specs.Numbers.{Numbers}
use Rattle.vx_dep.specs.declared.mode.Mode.{Mode}
use Rattle.vx_dep.specs.Delays.{AreHeights}
use Rattle.vx_sched.specs.Placement.{PlacedBy, length_of}

-- the words are those of list scheduling, with the heights of the trace
pub record IsPlaced (c : Clustered) (machine : Numbers) (homes : Homes) (mode : Mode) (p : Placed) : Type 0 where
  pub height : ℕ → ℕ
  pub heights : AreHeights machine mode c.trace height
  pub words : PlacedBy c machine homes mode height p.words
  pub length_is : p.length ≡ length_of p.words
  pub clustered : p.clustered ≡ c
