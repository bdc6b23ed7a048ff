use Rattle.std.proofs.Common.{sym, subst}
use Rattle.vx_dep.specs.Delays.{AreHeights}
use Rattle.vx_dep.specs.Earlier.{AreAllEarlier}
use Rattle.vx_dep.specs.Heights.{at}
use Rattle.vx_dep.proofs.Kept.{deps_are}
use Rattle.vx_dep.proofs.deps.pairs.Goals as goal

pub returns : goal.returns
returns c =
    let s = c.in_ok-sight.sight in
    let earlier : AreAllEarlier s.machine s.mode s.trace.now c.in_ok-earlier.earlier = c.in_ok-earlier.ensures in
    let heights : AreHeights s.machine s.mode s.trace.now (at c.in_ok-heights.heights) = c.in_ok-heights.ensures in
    deps_are c.args.machine.now c.args.mode c.args.trace.now (record { sight = s; heights = c.in_ok-heights.heights; earlier = c.in_ok-earlier.earlier }) c.in_ok-sight.ensures.machine c.in_ok-sight.ensures.mode c.in_ok-sight.ensures.trace heights earlier

pub heights-requires : goal.heights-requires
heights-requires c =
    let s = c.in_ok-sight.sight in
    subst (AreAllEarlier s.machine s.mode s.trace.now) (sym c.as_slice.ensures) c.in_ok-earlier.ensures
