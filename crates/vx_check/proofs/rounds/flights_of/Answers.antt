use Rattle.std.proofs.Common.{arith}
use Rattle.vx_isa.specs.declared.operation.Operation.{Operation}
use Rattle.vx_check.proofs.Passing.{tells_all, tells_next}
use Rattle.vx_check.proofs.rounds.flights_of.Goals as goal

pub rounds-preserved : goal.rounds-preserved
rounds-preserved c = record {
  due = c.in_ok-pass_all.ensures.due;
  tells = tells_next c.args.machine.now c.args.program.now c.rounds.counter c.rounds.flights.at.items c.pass_all.new.flights.at.items c.rounds.flights.anywhere c.pass_all.new.flights.anywhere c.rounds.invariant.tells c.in_ok-pass_all.ensures.passed;
}

pub returns-clause-tell : goal.returns-clause-tell
returns-clause-tell c =
    tells_all c.args.machine.now c.args.program.now c.rounds.counter c.rounds.flights.at.items c.rounds.flights.anywhere
    (λ (op : Operation). let most = c.greatest_latency-end.ensures op in let over = c.rounds-test.false in omega arith) c.rounds.invariant.tells
