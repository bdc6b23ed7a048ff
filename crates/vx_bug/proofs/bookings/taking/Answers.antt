use Rattle.std.proofs.Common.{◌≤◌, length, arith}
use Rattle.vx_bug.specs.Ledgers.{takes}
use Rattle.vx_bug.proofs.Counted.{all_counted, counted, passed}
use Rattle.vx_bug.proofs.bookings.taking.Goals as goal
use Rattle.vx_bug.proofs.bookings.taking.Goals.{then-takes, else-takes}

pub loop-booking-preserved : goal.loop-booking-preserved
loop-booking-preserved c = elim c.if-takes.branch [
  | then-takes w ↦ counted (takes c.args.cluster c.args.resource) c.args.row.now c.loop-booking.booking-index _ c.loop-booking.count c.loop-booking-test.true c.loop-booking.invariant c.takes.result _ c.takes.ensures w.if-takes.true w.count-is
  | else-takes w ↦ passed (takes c.args.cluster c.args.resource) c.args.row.now c.loop-booking.booking-index _ c.loop-booking.count c.loop-booking-test.true c.loop-booking.invariant c.takes.result _ c.takes.ensures w.if-takes.false w.count-is
]

pub returns : goal.returns
returns c =
    let past : length c.args.row.now ≤ c.loop-booking.booking-index = omega (arith, c.loop-booking-test.false) in
    all_counted (takes c.args.cluster c.args.resource) c.args.row.now c.loop-booking.booking-index c.loop-booking.count past c.loop-booking.invariant.0
