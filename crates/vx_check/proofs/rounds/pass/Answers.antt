use Rattle.std.proofs.Common.{◌+◌, List, subst}
use Rattle.std.proofs.lemmas.Result.{IfOk-weaker}
use Rattle.vx_isa.specs.declared.operation.Operation.{Operation}
use Rattle.vx_tables.specs.Rows.{row_at}
use Rattle.vx_check.specs.declared.in_flight.InFlight.{InFlight}
use Rattle.vx_check.specs.InFlight.{AreDue, Leaves, Passed, Spread}
use Rattle.vx_check.proofs.Passing.{passed, still_due}
use Rattle.vx_check.proofs.rounds.pass.Goals as goal

pub returns-clause-passed : goal.returns-clause-passed
returns-clause-passed c =
    let m = c.args.machine.now in
    let w = c.args.program.now in
    let word = c.word_at-word.result.now in
    let leaves : Leaves m word (row_at c.args.flights.now.at.items c.args.place) c.in_ok-out.out = subst (λ (row : List InFlight). Leaves m word row c.in_ok-out.out) c.row_of.ensures c.in_ok-out.ensures in
    IfOk-weaker c.spread.result (λ x. Spread c.as_slice.result.now (c.args.place + 1) c.as_slice-2.result.now c.args.flights.now.at.items c.args.flights.now.anywhere c.spread.new.flights.at.items c.spread.new.flights.anywhere)
    (λ x. Passed m w c.args.place c.args.flights.now.at.items c.args.flights.now.anywhere c.spread.new.flights.at.items c.spread.new.flights.anywhere)
    (λ x s. passed m w c.args.place word c.word_at-word.ensures c.args.flights.now.at.items c.spread.new.flights.at.items c.in_ok-out.out c.args.flights.now.anywhere c.spread.new.flights.anywhere
    (subst (λ (out : List InFlight). Spread word.ops (c.args.place + 1) out c.args.flights.now.at.items c.args.flights.now.anywhere c.spread.new.flights.at.items c.spread.new.flights.anywhere) c.as_slice-2.ensures
    (subst (λ (ops : List Operation). Spread ops (c.args.place + 1) c.as_slice-2.result.now c.args.flights.now.at.items c.args.flights.now.anywhere c.spread.new.flights.at.items c.spread.new.flights.anywhere) c.as_slice.ensures s))
    leaves c.requires.len) c.spread.ensures

pub returns-clause-due : goal.returns-clause-due
returns-clause-due c =
    let m = c.args.machine.now in
    let w = c.args.program.now in
    let word = c.word_at-word.result.now in
    let leaves : Leaves m word (row_at c.args.flights.now.at.items c.args.place) c.in_ok-out.out = subst (λ (row : List InFlight). Leaves m word row c.in_ok-out.out) c.row_of.ensures c.in_ok-out.ensures in
    IfOk-weaker c.spread.result (λ x. Spread c.as_slice.result.now (c.args.place + 1) c.as_slice-2.result.now c.args.flights.now.at.items c.args.flights.now.anywhere c.spread.new.flights.at.items c.spread.new.flights.anywhere)
    (λ x. AreDue m w c.args.flights.now.at.items c.args.flights.now.anywhere → AreDue m w c.spread.new.flights.at.items c.spread.new.flights.anywhere)
    (λ x s due. still_due m w c.args.place word c.word_at-word.ensures c.args.flights.now.at.items c.spread.new.flights.at.items c.in_ok-out.out c.args.flights.now.anywhere c.spread.new.flights.anywhere
    (subst (λ (out : List InFlight). Spread word.ops (c.args.place + 1) out c.args.flights.now.at.items c.args.flights.now.anywhere c.spread.new.flights.at.items c.spread.new.flights.anywhere) c.as_slice-2.ensures
    (subst (λ (ops : List Operation). Spread ops (c.args.place + 1) c.as_slice-2.result.now c.args.flights.now.at.items c.args.flights.now.anywhere c.spread.new.flights.at.items c.spread.new.flights.anywhere) c.as_slice.ensures s))
    leaves c.requires.len c.requires.reached due) c.spread.ensures
