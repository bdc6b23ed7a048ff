-- What is kept of a trace is of its machine, its mode and the trace.
use Rattle.std.proofs.Common.{◌≡◌, ℕ, List, subst, sym}
use Rattle.vx_flow.specs.declared.trace.Trace.{Trace}
use Rattle.vx_isa.specs.Numbers.{Numbers}
use Rattle.vx_dep.specs.declared.mode.Mode.{Mode}
use Rattle.vx_dep.specs.declared.deps.Deps.{Deps}
use Rattle.vx_dep.specs.Delays.{AreHeights}
use Rattle.vx_dep.specs.Heights.{at}
use Rattle.vx_dep.specs.declared.earlier.Earlier.{Earlier}
use Rattle.vx_dep.specs.Earlier.{AreEarlier, AreAllEarlier, list_at}
use Rattle.vx_dep.specs.Deps.{IsDeps, height_in}

pub deps_are : (m : Numbers) (mode : Mode) (t : Trace) (deps : Deps) → deps.sight.machine ≡ m → deps.sight.mode ≡ mode → deps.sight.trace.now ≡ t
    → AreHeights deps.sight.machine deps.sight.mode deps.sight.trace.now (at deps.heights) → AreAllEarlier deps.sight.machine deps.sight.mode deps.sight.trace.now deps.earlier → IsDeps m mode t deps
deps_are m mode t deps e f g h k = record {
  machine = e;
  mode_is = f;
  trace = g;
  heights = subst (λ x. AreHeights x mode t (height_in deps)) e (subst (λ x. AreHeights deps.sight.machine x t (height_in deps)) f (subst (λ x. AreHeights deps.sight.machine deps.sight.mode x (height_in deps)) g h));
  earlier = subst (λ x. AreAllEarlier x mode t deps.earlier) e (subst (λ x. AreAllEarlier deps.sight.machine x t deps.earlier) f (subst (λ x. AreAllEarlier deps.sight.machine deps.sight.mode x deps.earlier) g k));
}

pub earlier_are : (m : Numbers) (mode : Mode) (t : Trace) (deps : Deps) (j : ℕ) (list : List Earlier) → list ≡ list_at deps.earlier j → IsDeps m mode t deps → AreEarlier m mode t j j list
earlier_are m mode t deps j list e is = subst (AreEarlier m mode t j j) (sym e) (is.earlier.right j)
