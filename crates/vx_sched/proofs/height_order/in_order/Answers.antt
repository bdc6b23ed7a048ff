use Rattle.std.proofs.Common.{rules}
use Rattle.vx_dep.specs.Deps.{height_in}
use Rattle.vx_sched.specs.Ranking.{AreRanked}
use Rattle.vx_sched.proofs.Ranks.{sorted_ranked}
use Rattle.vx_sched.proofs.height_order.in_order.Goals as goal

pub returns-clause-ranked : goal.returns-clause-ranked
returns-clause-ranked c =
    let h = height_in c.args.deps.now in
    let all : AreRanked h c.args.count c.in_ok-order.order.items = search rules in
    sorted_ranked h c.args.count c.in_ok-order.order.items c.sort_ranks.new.order.items c.sort_ranks.ensures.same all

pub returns-clause-sorted : goal.returns-clause-sorted
returns-clause-sorted c = c.sort_ranks.ensures.sorted
