use Rattle.std.proofs.Common.{◌++◌, ◌∷◌, [], List, ap, ◌∙◌}
use Rattle.vx_bug.specs.declared.bookings.Booking.{Booking}
use Rattle.vx_bug.specs.Booked.{row_at}
use Rattle.vx_bug.proofs.ByCycle.{empty_row}
use Rattle.vx_bug.proofs.booked.reach.Goals as goal

pub reach-preserved : goal.reach-preserved
reach-preserved c = λ other.
    ap (λ (rows : List (List Booking)). row_at rows other) c.in_ok-push.ensures.items
    ∙ ap (λ (row : List Booking). row_at (c.reach.rows.items ++ row ∷ []) other) c.new.ensures
    ∙ empty_row c.reach.rows.items other ∙ c.reach.invariant other
