-- The delays and heights of a trace as they are kept.
use Rattle.std.specs.Prelude.{◌≡◌, ℕ, slice_index_or}
use Rattle.vx_flow.specs.declared.trace.Trace.{Trace}
use Rattle.vx_isa.specs.Numbers.{Numbers}
use Rattle.vx_dep.specs.declared.mode.Mode.{Mode}
use Rattle.vx_dep.specs.declared.deps.Deps.{Deps}
use Rattle.vx_dep.specs.Delays.{AreHeights}
use Rattle.vx_dep.specs.Earlier.{AreAllEarlier}

-- the height that is kept for the operation at a place
abbrev pub height_in : Deps → ℕ → ℕ
height_in deps i = slice_index_or deps.heights i 0

-- what is kept is of this machine, mode and trace, the heights are right, and so are the pairs that have a delay
pub record IsDeps (m : Numbers) (mode : Mode) (t : Trace) (deps : Deps) : Type 0 where
  pub machine : deps.sight.machine ≡ m
  pub mode_is : deps.sight.mode ≡ mode
  pub trace : deps.sight.trace.now ≡ t
  pub heights : AreHeights m mode t (height_in deps)
  pub earlier : AreAllEarlier m mode t deps.earlier
