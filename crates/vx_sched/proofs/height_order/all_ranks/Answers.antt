use Rattle.std.proofs.Common.{rules, ◌<◌, ◌+◌, arith, sym, subst}
use Rattle.vx_dep.specs.Deps.{height_in}
use Rattle.vx_sched.specs.Ranking.{AreRanked}
use Rattle.vx_sched.proofs.Ranks.{one_ranked}
use Rattle.vx_sched.proofs.height_order.all_ranks.Goals as goal

pub rank-preserved : goal.rank-preserved
rank-preserved c =
    let h = height_in c.args.deps.now in
    let inside : c.rank.place < c.args.count = search rules in
    (subst (AreRanked h (c.rank.place + 1)) (sym c.in_ok-push.ensures.items) (one_ranked h c.rank.place c.rank.all.items c.rank_at.result c.rank.invariant.0 c.rank_at.ensures.place c.rank_at.ensures.rank), omega (arith, inside))
