use Rattle.std.proofs.Common.{rules, ◌≡◌, ◌<◌, ◌+◌, ℕ, arith, refl, subst}
use Rattle.vx_bug.specs.Choices.{IsLeast, compared}
use Rattle.vx_bug.specs.Clusters.{cycle_of}
use Rattle.vx_bug.specs.Ledgers.{books_of}
use Rattle.vx_bug.proofs.Best.{more_compared}
use Rattle.vx_bug.proofs.cluster_choice.best.Goals as goal

pub compare-preserved : goal.compare-preserved
compare-preserved c =
    let f : ℕ → ℕ = cycle_of c.args.turn.now.machine c.args.turn.now.trace.now (books_of c.args.ledger.now) c.args.turn.now.place c.args.turn.now.op.now in
    let inside : c.compare.count < c.args.span.count = c.compare-test.true in
    let chosen : c.in_ok-best-2.best ≡ compared (f (c.args.span.first + c.compare.count)) (c.args.span.first + c.compare.count) c.compare.best = search rules in
    record {
      best = more_compared f c.args.span.first c.compare.count c.compare.best (record { cluster = c.args.span.first + c.compare.count; cycle = f (c.args.span.first + c.compare.count) }) c.in_ok-best-2.best c.compare.invariant.best refl refl chosen;
      some = omega arith;
      within = omega (arith, inside);
    }

pub tried-requires : goal.tried-requires
tried-requires c = c.find_sources-sources.ensures

pub compared-requires : goal.compared-requires
compared-requires c = c.find_sources-sources.ensures

pub returns-clause-least : goal.returns-clause-least
returns-clause-least c =
    let f : ℕ → ℕ = cycle_of c.args.turn.now.machine c.args.turn.now.trace.now (books_of c.args.ledger.now) c.args.turn.now.place c.args.turn.now.op.now in
    let all : c.compare.count ≡ c.args.span.count = omega (arith, c.compare-test.false, c.compare.invariant.within) in
    subst (λ (n : ℕ). IsLeast f c.args.span.first n c.compare.best.cluster) all c.compare.invariant.best.least
