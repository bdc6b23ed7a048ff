use Rattle.std.proofs.Common.{◌≡◌, List, sym, ap, ◌∙◌}
use Rattle.std.specs.List.{list_any}
use Rattle.vx_isa.specs.declared.operation.Operation.{Operation}
use Rattle.vx_isa.specs.Fits.{operands}
use Rattle.vx_tables.specs.Rows.{row_at}
use Rattle.vx_check.specs.declared.in_flight.InFlight.{InFlight}
use Rattle.vx_check.specs.InFlight.{is_hot}
use Rattle.vx_check.proofs.Tables.{word_cold, word_hot}
use Rattle.vx_check.proofs.strictness.is_hot_at.Goals as goal

pub returns-clause-hot : goal.returns-clause-hot
returns-clause-hot c =
    let at = c.word_at-word.ensures in
    let is : list_any (is_hot (row_at c.args.flights.now.at.items c.args.place) c.args.flights.now.anywhere) (operands c.word_at-word.result.now.ops) ≡ c.any_reads_hot.result =
    ap (λ (row : List InFlight). list_any (is_hot row c.args.flights.now.anywhere) (operands c.word_at-word.result.now.ops)) (sym c.row_of-row.ensures)
    ∙ ap (λ (anywhere : List InFlight). list_any (is_hot c.row_of-row.result.now anywhere) (operands c.word_at-word.result.now.ops)) (sym c.as_slice.ensures)
    ∙ ap (λ (ops : List Operation). list_any (is_hot c.row_of-row.result.now c.as_slice.result.now) (operands ops)) (sym c.as_slice-2.ensures) ∙ sym c.any_reads_hot.ensures in
    λ e. word_hot c.args.program.now c.args.flights.now.at.items c.args.flights.now.anywhere c.args.place c.word_at-word.result.now at (is ∙ e)

pub returns-clause-cold : goal.returns-clause-cold
returns-clause-cold c =
    let at = c.word_at-word.ensures in
    let is : list_any (is_hot (row_at c.args.flights.now.at.items c.args.place) c.args.flights.now.anywhere) (operands c.word_at-word.result.now.ops) ≡ c.any_reads_hot.result =
    ap (λ (row : List InFlight). list_any (is_hot row c.args.flights.now.anywhere) (operands c.word_at-word.result.now.ops)) (sym c.row_of-row.ensures)
    ∙ ap (λ (anywhere : List InFlight). list_any (is_hot c.row_of-row.result.now anywhere) (operands c.word_at-word.result.now.ops)) (sym c.as_slice.ensures)
    ∙ ap (λ (ops : List Operation). list_any (is_hot c.row_of-row.result.now c.as_slice.result.now) (operands ops)) (sym c.as_slice-2.ensures) ∙ sym c.any_reads_hot.ensures in
    λ e. word_cold c.args.program.now c.args.flights.now.at.items c.args.flights.now.anywhere c.args.place c.word_at-word.result.now at (is ∙ e)
