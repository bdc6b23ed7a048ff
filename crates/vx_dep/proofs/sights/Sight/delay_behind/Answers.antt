use Rattle.std.proofs.Common.{rules, ◌≡◌, ◌<◌, Some, true, nat_lt, slice_get}
use Rattle.vx_dep.specs.Keys.{are_apart, apart_delay_of}
use Rattle.vx_dep.proofs.Apart.{apart_delay_is}
use Rattle.vx_dep.proofs.sights.Sight.delay_behind.Goals as goal

pub returns-then-are_apart : goal.returns-then-are_apart
returns-then-are_apart c =
    let s = c.args.self.now in
    let above : slice_get s.keys c.args.i ≡ Some c.in-Some.a.now = search rules in
    let below : slice_get s.keys c.args.j ≡ Some c.args.b.now = search rules in
    let in_order : c.args.i < c.args.j = search rules in
    let apart : are_apart c.in-Some.a.now c.args.b.now ≡ true = search rules in
    let is : c.apart_delay.result ≡ apart_delay_of s.mode c.in-Some.a.now c.args.b.now (nat_lt c.args.i c.args.b.now.joined) = search rules in
    apart_delay_is s.machine s.mode s.trace.now s.standings s.keys s.standings_exact s.keys_exact s.lives c.args.i c.args.j c.in-Some.a.now c.args.b.now c.apart_delay.result s.lives_exact in_order above below apart is
