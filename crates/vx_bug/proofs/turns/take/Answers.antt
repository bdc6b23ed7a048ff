use Rattle.std.proofs.Common.{◌+◌, ℕ, ap, ◌∙◌}
use Rattle.vx_room.specs.Items.{latency_of_item}
use Rattle.vx_bug.specs.Clusters.{cycle_of}
use Rattle.vx_bug.specs.Ledgers.{books_of}
use Rattle.vx_bug.proofs.turns.take.Goals as goal

pub returns-clause-estimate : goal.returns-clause-estimate
returns-clause-estimate c =
    let turn = c.args.turn.now in
    let cycle : ℕ = cycle_of turn.machine turn.trace.now (books_of c.args.ledger.now) turn.place turn.op.now c.args.cluster in
    c.in_ok-estimate.ensures ∙ ap (λ (n : ℕ). n + c.latency.result) (c.in_ok-issued.ensures ∙ c.requires)
    ∙ ap (λ (n : ℕ). cycle + n) (c.latency.ensures ∙ ap (λ i. latency_of_item turn.machine i) c.of_trace-item.ensures)
