use Rattle.std.proofs.Common.{◌≡◌, ◌<◌, ◌∙◌, ap, sym, arith, rules, Bool, ℕ, true, false}
use Rattle.vx_bug.specs.Booked.{row_at}
use Rattle.vx_bug.specs.Ledgers.{is_left}
use Rattle.vx_bug.proofs.ByCycle.{first_found, first_passed}
use Rattle.vx_bug.proofs.bookings.first_open.Goals as goal

pub wait-preserved : goal.wait-preserved
wait-preserved c =
    let free : ℕ → Bool = λ w. is_left c.args.machine.now c.args.cluster c.args.unit (row_at c.args.rows.now w) in
    let inside : c.wait.wait < c.args.most = search rules in
    let taken : free c.wait.wait ≡ false = search rules in
    record {
      so_far = sym (first_passed free c.args.most c.wait.wait inside taken) ∙ c.wait.invariant.so_far;
      within = omega arith;
    }

pub returns-then-are_left : goal.returns-then-are_left
returns-then-are_left c =
    let free : ℕ → Bool = λ w. is_left c.args.machine.now c.args.cluster c.args.unit (row_at c.args.rows.now w) in
    let there : free c.wait.wait ≡ true = sym (c.are_left.ensures ∙ ap (is_left c.args.machine.now c.args.cluster c.args.unit) c.row_at.ensures) ∙ c.if-are_left.true in
    sym (first_found free c.args.most c.wait.wait c.wait-test.true there) ∙ c.wait.invariant.so_far
