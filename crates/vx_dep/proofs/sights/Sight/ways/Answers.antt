use Rattle.std.proofs.Common.{◌≡◌, ◌∙◌, ◌&&◌, slice_get, ap, sym}
use Rattle.vx_dep.specs.Sights.{is_live}
use Rattle.vx_dep.proofs.Standing.{tells}
use Rattle.vx_dep.proofs.sights.Sight.ways.Goals as goal

pub returns-then-a : goal.returns-then-a
returns-then-a c =
    let s = c.args.self.now in
    let i = c.args.i in
    let j = c.args.j in
    let a = c.args.a.now in
    let is : c.is_live.result ≡ is_live (slice_get s.lives i) i j = c.is_live.ensures ∙ ap (λ ls. is_live (slice_get ls i) i j) c.as_slice.ensures in
    let live : c.is_live.result ≡ (a.traits.leaves && is_live (slice_get s.lives i) i j) = is ∙ ap (λ b. b && is_live (slice_get s.lives i) i j) (sym c.if-a.true) in
    tells s.machine s.trace.now s.standings s.lives i j a c.args.b.now (record { last = c.reaches.result; touch = c.touch.result; joined = c.has_join.result; live = c.is_live.result }) s.standings_exact s.lives_exact c.requires.in_order c.requires.stands_one c.requires.stands_two c.reaches.ensures c.has_join.ensures live c.touch.ensures.yes c.touch.ensures.no
