use Rattle.vx_bug.specs.Ledgers.{books_of}
use Rattle.vx_bug.proofs.Sourced.{are_sources}
use Rattle.vx_bug.proofs.turns.find_sources.Goals as goal

pub returns : goal.returns
returns c =
    let turn = c.args.turn.now in
    are_sources turn.machine turn.trace.now (books_of c.args.ledger.now) turn.place turn.op.now c.reads_of-read.result c.find_source_if-first.result c.find_source_if-second.result c.find_source_if-third.result
    c.reads_of-read.ensures c.find_source_if-first.ensures c.find_source_if-second.ensures c.find_source_if-third.ensures
