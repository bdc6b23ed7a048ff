use Rattle.vx_tally.proofs.Tallying.{tally_edge_added}
use Rattle.vx_tally.proofs.tally.Tally.take.Goals as goal

pub returns-in-Some : goal.returns-in-Some
returns-in-Some c =
    tally_edge_added c.args.self.now c.set_entry.new.self c.args.function c.args.from c.args.to c.in-Some.next c.args.entry c.requires.there (rw c.in-Some.is at c.in_ok-next.ensures.passed) (rw c.in-Some.is at c.in_ok-next.ensures.edges) (record { rows = c.set_entry.ensures.rows; rest = c.set_entry.ensures.rest })
