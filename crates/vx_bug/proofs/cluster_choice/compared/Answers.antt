use Rattle.std.proofs.Common.{rules, ◌≤◌}
use Rattle.vx_bug.specs.Ledgers.{books_of}
use Rattle.vx_bug.proofs.Pruned.{none_earlier}
use Rattle.vx_bug.proofs.cluster_choice.compared.Goals as goal

pub returns-then-best-earliest : goal.returns-then-best-earliest
returns-then-best-earliest c =
    let most : c.args.best.cycle ≤ c.earliest.result = search rules in
    none_earlier c.args.turn.now.machine c.args.turn.now.trace.now (books_of c.args.ledger.now) c.args.turn.now.place c.args.turn.now.op.now c.args.sources c.args.cluster c.earliest.result c.args.best c.requires c.earliest.ensures most
