use Rattle.std.proofs.Common.{◌≡◌, ◌∙◌, true, ap, sym}
use Rattle.vx_dep.specs.Rows.{are_quiet, quiet_delay_of}
use Rattle.vx_dep.specs.Sights.{reaches, has_join}
use Rattle.vx_dep.proofs.Quiet.{quiet_delay_is}
use Rattle.vx_dep.proofs.sights.Sight.delay_between.Goals as goal

pub returns-then-are_quiet : goal.returns-then-are_quiet
returns-then-are_quiet c =
    let s = c.args.self.now in
    let i = c.args.i in
    let j = c.args.j in
    let a = c.args.a.now in
    let b = c.args.b.now in
    let quiet : are_quiet a.traits b.traits ≡ true = sym c.are_quiet.ensures ∙ c.if-are_quiet.true in
    let is : c.quiet_delay_of.result ≡ quiet_delay_of s.mode a.traits b.traits (reaches a i j) (has_join b i) = c.quiet_delay_of.ensures ∙ ap (λ l. quiet_delay_of s.mode a.traits b.traits l c.has_join-then-are_quiet.result) c.reaches-last.ensures ∙ ap (quiet_delay_of s.mode a.traits b.traits (reaches a i j)) c.has_join-then-are_quiet.ensures in
    quiet_delay_is s.machine s.mode s.trace.now s.standings s.lives i j a b c.quiet_delay_of.result s.standings_exact s.lives_exact c.requires.in_order c.requires.stands_one c.requires.stands_two quiet is
