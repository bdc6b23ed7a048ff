use Rattle.std.proofs.Common.{◌≡◌, ◌∙◌, ◌<◌, ◌++◌, ◌∷◌, [], refl, ap, subst, sym, length, reverse, slice_set}
use Rattle.vx_bug.specs.Booked.{row_at, AreRows, AreEstimates}
use Rattle.vx_bug.proofs.ByCycle.{one_more_row}
use Rattle.vx_bug.proofs.ByPlace.{latest_first, one_more_estimate}
use Rattle.vx_bug.proofs.booked.Booked.add.Goals as goal

pub invariant_of-self-2 : goal.invariant_of-self-2
invariant_of-self-2 c =
    let b = c.args.booking in
    let old = reverse c.args.self.now.bookings.items in
    let there : b.cycle < length c.reach.new.rows.items = c.in_ok-reach.ensures.there in
    let row : c.in_ok-row.row ≡ row_at c.reach.new.rows.items b.cycle ++ b ∷ [] = c.in_ok-row.ensures ∙ ap (λ r. r ++ b ∷ []) (c.row_at.ensures ∙ ap (λ rs. row_at rs b.cycle) c.as_slice.ensures.value) in
    let all : reverse c.push.new.self.items ≡ b ∷ old = latest_first c.args.self.now.bookings.items c.push.new.self.items b c.in_ok-push.ensures.items in
    let rows = one_more_row c.args.self.now.rows.items c.reach.new.rows.items old b b.cycle c.args.self.now.in_rows refl there c.reach.ensures.same in
    let estimates = one_more_estimate c.args.self.now.estimates.items c.reach_place.new.estimates.items old b c.args.self.now.by_place c.in_ok-reach_place.ensures.there c.reach_place.ensures.same in
    record {
      in_rows = subst (AreRows (slice_set c.reach.new.rows.items b.cycle c.in_ok-row.row)) (sym all)
          (subst (λ x. AreRows (slice_set c.reach.new.rows.items b.cycle x) (b ∷ old)) (sym row) rows);
      by_place = subst (AreEstimates (slice_set c.reach_place.new.estimates.items b.place b.estimate)) (sym all) estimates;
    }

pub returns : goal.returns
returns c = latest_first c.args.self.now.bookings.items c.push.new.self.items c.args.booking c.in_ok-push.ensures.items
