-- What is found once of the operands of an operation tells from which cycle on they are there, on each cluster.
use Rattle.std.proofs.Common.{◌≡◌, ◌+◌, refl, ◌∙◌, ap, arith, ℕ, Bool, true, false, Option, Some, None, [], ◌∷◌, length}
use Rattle.std.specs.Prelude.{if◌then◌else◌}
use Rattle.vx_flow.specs.declared.trace.TraceOp.{TraceOp}
use Rattle.vx_flow.specs.declared.trace.Trace.{Trace}
use Rattle.vx_flow.specs.declared.operands.Reads.{Reads}
use Rattle.vx_flow.specs.Operands.{values_read}
use Rattle.vx_isa.specs.Numbers.{Numbers}
use Rattle.vx_room.specs.Items.{item_of, unit_of_item}
use Rattle.vx_linear.specs.Writers.{writer}
use Rattle.vx_dep.specs.Delays.{reads_of}
use Rattle.vx_bug.specs.declared.turns.Source.{Source}
use Rattle.vx_bug.specs.declared.turns.Sources.{Sources}
use Rattle.vx_bug.specs.Clusters.{Books, some_of, is_across, way_from, written_at, available, is_free, first_free, cycle_of}
use Rattle.vx_bug.specs.Sources.{there_on, earliest_on, IsSource, AreSources}
use Rattle.vx_bug.proofs.Latest.{of_three}

module _ (m : Numbers) (t : Trace) (books : Books) (i : ℕ) (op : TraceOp) where
  pub source_is : (v written : ℕ) (home : Option ℕ) → written ≡ written_at books.bookings (writer t.ops i v) → home ≡ (if is_across op then None else books.homes v)
      → (cluster : ℕ) → written + way_from m home cluster ≡ available m t books i op cluster v
  source_is v written home e f cluster =
      ap (λ w. w + way_from m home cluster) e
      ∙ ap (λ w. written_at books.bookings (writer t.ops i v) + w) (ap (λ h. way_from m h cluster) f ∙ by (is_across op))
    where
      by : (b : Bool) → way_from m (if b then None else books.homes v) cluster ≡ (if b then 0 else way_from m (books.homes v) cluster)
      by true = refl
      by false = refl

  pub no_source : IsSource m t books i op [] None
  no_source cluster = refl

  pub one_source : (v : ℕ) (s : Source) → ((cluster : ℕ) → s.written + way_from m s.home cluster ≡ available m t books i op cluster v) → IsSource m t books i op (v ∷ []) (Some s)
  one_source v s is cluster = let h = is cluster in omega (arith, h)

  pub are_sources : (r : Reads) (first second third : Option Source) → reads_of op ≡ values_read r → IsSource m t books i op (some_of r.first) first → IsSource m t books i op (some_of r.second) second → IsSource m t books i op (some_of r.third) third
      → AreSources m t books i op (record { first = first; second = second; third = third })
  are_sources r first second third reads one two three cluster =
      of_three (available m t books i op cluster) op r (there_on m cluster first) (there_on m cluster second) (there_on m cluster third) reads (one cluster) (two cluster) (three cluster)

  pub cycle_is : (s : Sources) (cluster from cycle : ℕ) → AreSources m t books i op s → from ≡ earliest_on m cluster s
      → cycle ≡ first_free (length books.bookings) (is_free m books.bookings cluster (unit_of_item (item_of op))) from → cycle ≡ cycle_of m t books i op cluster
  cycle_is s cluster from cycle are e f = f ∙ ap (first_free (length books.bookings) (is_free m books.bookings cluster (unit_of_item (item_of op)))) (e ∙ are cluster)
