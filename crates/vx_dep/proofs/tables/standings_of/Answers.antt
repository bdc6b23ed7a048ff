use Rattle.std.proofs.Common.{length, refl}
use Rattle.vx_dep.specs.Tables.{standings_from}
use Rattle.vx_dep.proofs.Moved.{all_moved}
use Rattle.vx_dep.proofs.Standing.{standing_more}
use Rattle.vx_dep.proofs.tables.standings_of.Goals as goal

pub stand-preserved : goal.stand-preserved
stand-preserved c =
    standing_more (standings_from c.args.joins.now 0 c.args.traits.now) c.args.joins.now c.stand.standings c.push.new.self c.stand.joined c.last_joined-joined.result c.len.result c.kept.result c.in-Some.first.now c.stand.rest.now c.in-Some.behind.now c.stand.invariant c.in-Some.ensures.cases.0
    c.len.ensures.len c.last_joined-joined.ensures c.kept.ensures c.in_ok-push-in-Some.ensures.ok

pub returns-in-None : goal.returns-in-None
returns-in-None c =
    let joins = c.args.joins.now in
    all_moved (standings_from joins (length c.stand.standings)) (standings_from joins 0 c.args.traits.now) c.stand.standings c.stand.rest.now refl c.in-None.ensures.cases c.stand.invariant.whole
