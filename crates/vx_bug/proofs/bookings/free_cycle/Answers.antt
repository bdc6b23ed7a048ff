use Rattle.std.proofs.Common.{◌≡◌, ◌∙◌, ◌+◌, length, reverse, drop, ap, sym, rules}
use Rattle.std.proofs.lemmas.List.{length-reverse}
use Rattle.vx_bug.specs.Booked.{row_at}
use Rattle.vx_bug.specs.Clusters.{first_free}
use Rattle.vx_bug.specs.Ledgers.{is_left}
use Rattle.vx_bug.proofs.ByCycle.{first_open_free}
use Rattle.vx_bug.proofs.bookings.free_cycle.Goals as goal

pub returns-in-Some : goal.returns-in-Some
returns-in-Some c =
    let b = c.args.booked.now in
    let behind : c.rows_from-rows.result.now ≡ drop c.args.from b.rows.items = search rules in
    let wait : c.first_open-wait.result ≡ first_free (length b.bookings.items) (λ w. is_left c.args.machine.now c.args.cluster c.args.unit (row_at c.rows_from-rows.result.now w)) 0 = search rules in
    let as_many : c.first_open-wait.result ≡ first_free (length (reverse b.bookings.items)) (λ w. is_left c.args.machine.now c.args.cluster c.args.unit (row_at c.rows_from-rows.result.now w)) 0 = wait ∙ ap (λ n. first_free n (λ w. is_left c.args.machine.now c.args.cluster c.args.unit (row_at c.rows_from-rows.result.now w)) 0) (sym (length-reverse b.bookings.items)) in
    let cycle : c.in-Some.cycle ≡ c.args.from + c.first_open-wait.result = search rules in
    first_open_free c.args.machine.now b.rows.items c.rows_from-rows.result.now (reverse b.bookings.items) c.args.cluster c.args.unit c.args.from c.first_open-wait.result c.in-Some.cycle b.in_rows behind as_many cycle
