use Rattle.std.proofs.Common.{sym, subst}
use Rattle.vx_tally.specs.Tally.{TallyMore}
use Rattle.vx_tally.proofs.Paths.{edge_back_last}
use Rattle.vx_tally.proofs.machine.count_edge_back.Goals as goal

pub returns-in_ok-add_edge-in-Some : goal.returns-in_ok-add_edge-in-Some
returns-in_ok-add_edge-in-Some c =
    subst (TallyMore c.args.tally.now c.add_edge.new.self) (sym (edge_back_last c.args.waiting.now c.in-Some.last.now (sym c.in-Some.ensures.value))) c.in_ok-add_edge-in-Some.ensures
