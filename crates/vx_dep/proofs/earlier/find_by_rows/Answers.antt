use Rattle.std.proofs.Common.{subst}
use Rattle.vx_dep.specs.Near.{AreBehind}
use Rattle.vx_dep.proofs.Nearby.{ok_along}
use Rattle.vx_dep.proofs.Sought.{all_sorted, earlier_by_rows}
use Rattle.vx_dep.proofs.earlier.find_by_rows.Goals as goal

pub returns : goal.returns
returns c =
    let s = c.args.sight.now in
    let near = c.args.near.now in
    let b = c.args.b.now in
    let j = c.args.place in
    let places = c.sort_unstable.new.self.items in
    let list = c.note_all.new.found.items in
    let all = all_sorted s.keys near b c.collect.new.places.items places c.in_ok-collect.ensures c.sort_unstable.ensures.permutation in
    ok_along c.note_all.result
    (λ h. earlier_by_rows s.machine s.mode s.trace.now s.standings s.keys s.standings_exact s.keys_exact s.lives s.lives_exact near b j places list c.requires.noted c.requires.stands c.requires.rows all (subst (λ ps. AreBehind s.machine s.mode s.trace.now j ps list) c.as_slice.ensures.value h))
    c.note_all.ensures
