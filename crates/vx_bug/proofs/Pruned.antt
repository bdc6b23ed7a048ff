-- A cluster on which the operands are not there before the cycle of a choice is not better than the choice.
use Rattle.std.proofs.Common.{◌≡◌, ◌<◌, ◌≤◌, ◌+◌, refl, sym, ◌∙◌, ap, arith, ℕ, zero, suc, Bool, true, false, nat_lt, if◌then◌else◌, length, map}
use Rattle.std.proofs.lemmas.Bool.{ltb-true}
use Rattle.vx_flow.specs.declared.trace.TraceOp.{TraceOp}
use Rattle.vx_flow.specs.declared.trace.Trace.{Trace}
use Rattle.vx_isa.specs.Numbers.{Numbers}
use Rattle.vx_room.specs.Items.{item_of, unit_of_item}
use Rattle.vx_dep.specs.Delays.{reads_of}
use Rattle.vx_dep.specs.Compensation.{greatest}
use Rattle.vx_bug.specs.declared.cluster_choice.Choice.{Choice}
use Rattle.vx_bug.specs.declared.turns.Sources.{Sources}
use Rattle.vx_bug.specs.Clusters.{Books, available, is_free, first_free, cycle_of}
use Rattle.vx_bug.specs.Choices.{compared}
use Rattle.vx_bug.specs.Sources.{earliest_on, AreSources}

not_before : (n : ℕ) (free : ℕ → Bool) (from : ℕ) → from ≤ first_free n free from
not_before zero free from = omega arith
not_before (suc n) free from = by (free from) (not_before n free (from + 1))
  where
    by : (b : Bool) → from + 1 ≤ first_free n free (from + 1) → from ≤ (if b then from else first_free n free (from + 1))
    by true h = omega arith
    by false h = omega (arith, h)

not_less : (n c : ℕ) → c ≤ n → nat_lt n c ≡ false
not_less n c h = by (nat_lt n c) refl
  where
    by : (b : Bool) → nat_lt n c ≡ b → b ≡ false
    by true e = let l : n < c = ltb-true n c e in absurd (omega (arith, l, h))
    by false e = refl

module _ (m : Numbers) (t : Trace) (books : Books) (i : ℕ) (op : TraceOp) where
  pub none_earlier : (s : Sources) (cluster from : ℕ) (best : Choice) → AreSources m t books i op s → from ≡ earliest_on m cluster s → best.cycle ≤ from → best ≡ compared (cycle_of m t books i op cluster) cluster best
  none_earlier s cluster from best are e h =
      let first : ℕ = greatest (map (available m t books i op cluster) (reads_of op)) in
      let is : from ≡ first = e ∙ are cluster in
      let least : first ≤ cycle_of m t books i op cluster = not_before (length books.bookings) (is_free m books.bookings cluster (unit_of_item (item_of op))) first in
      let most : best.cycle ≤ cycle_of m t books i op cluster = omega (arith, h, is, least) in
      sym (ap (λ b. if b then record { cluster = cluster; cycle = cycle_of m t books i op cluster } else best) (not_less (cycle_of m t books i op cluster) best.cycle most))

pub better_is : (f cluster : ℕ) (best next result : Choice) → next.cluster ≡ cluster → next.cycle ≡ f → result ≡ (if nat_lt next.cycle best.cycle then next else best) → result ≡ compared f cluster best
better_is f cluster best next result e k r = r ∙ (λ i. if nat_lt (k i) best.cycle then record { cluster = e i; cycle = k i } else best)
