use Rattle.std.proofs.Common.{rules, ◌≡◌, None, slice_get}
use Rattle.vx_dep.proofs.Standing.{none_above, none_below}
use Rattle.vx_dep.proofs.sights.Sight.delay_of_two.Goals as goal

pub returns-in-None : goal.returns-in-None
returns-in-None c =
    let s = c.args.self.now in
    let nothing : slice_get s.standings c.args.i ≡ None = search rules in
    none_above s.machine s.trace.now s.standings s.standings_exact s.mode c.args.i c.args.j nothing

pub returns-in-None-standing : goal.returns-in-None-standing
returns-in-None-standing c =
    let s = c.args.self.now in
    let nothing : slice_get s.standings c.args.j ≡ None = search rules in
    none_below s.machine s.trace.now s.standings s.standings_exact s.mode c.args.i c.args.j nothing
