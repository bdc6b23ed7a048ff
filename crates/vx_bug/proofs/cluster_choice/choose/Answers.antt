use Rattle.vx_bug.specs.Ledgers.{books_of}
use Rattle.vx_bug.proofs.Best.{best_is}
use Rattle.vx_bug.proofs.cluster_choice.choose.Goals as goal

pub returns-clause-best : goal.returns-clause-best
returns-clause-best c =
    best_is c.args.turn.now.machine c.args.turn.now.trace.now (books_of c.args.ledger.now) c.args.turn.now.place c.args.fixed c.args.turn.now.op.now
    c.permitted-span.result.first c.permitted-span.result.count c.in_ok-choice.choice.cluster c.permitted-span.ensures.clusters c.in_ok-choice.ensures.least
