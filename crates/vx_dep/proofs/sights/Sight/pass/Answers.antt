use Rattle.std.proofs.Common.{rules, ◌≡◌, ◌<◌, Some, true, slice_get, arith}
use Rattle.vx_dep.specs.Keys.{are_apart}
use Rattle.vx_dep.proofs.Apart.{one_passed}
use Rattle.vx_dep.proofs.sights.Sight.pass.Goals as goal

pub pass-preserved : goal.pass-preserved
pass-preserved c =
    let s = c.args.self.now in
    let from = c.pass.invariant.from in
    let inside : c.pass.near < c.args.place = search rules in
    let above : slice_get s.keys c.pass.near ≡ Some c.in-Some.a.now = search rules in
    let apart : are_apart c.in-Some.a.now c.args.b.now ≡ true = search rules in
    record {
      from = omega (arith, from);
      within = omega (arith, inside);
      none = one_passed s.machine s.mode s.trace.now s.standings s.keys s.standings_exact s.keys_exact s.lives c.args.place c.args.from c.pass.near c.in-Some.a.now c.args.b.now s.lives_exact c.requires.passes from inside above c.requires.stands apart c.pass.invariant.none;
    }
