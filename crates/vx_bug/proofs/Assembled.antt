-- Turns, copies and homes together are the assignment.
use Rattle.std.proofs.Common.{◌≡◌, sym, ◌∙◌, ap, subst, ℕ, Option, List}
use Rattle.vx_flow.specs.declared.trace.Trace.{Trace}
use Rattle.vx_flow.specs.declared.trace.Homes.{Homes}
use Rattle.vx_isa.specs.Numbers.{Numbers}
use Rattle.vx_room.specs.Room.{home_of}
use Rattle.vx_bug.specs.declared.clusters.Clusters.{Clusters}
use Rattle.vx_bug.specs.Clusters.{Books, listed, at_first}
use Rattle.vx_bug.specs.Copies.{Standing, copy_of, pieces_of, joined, with_copies}
use Rattle.vx_bug.specs.Choices.{TurnsTaken}
use Rattle.vx_bug.specs.Ledgers.{homes_in}
use Rattle.vx_bug.specs.Laying.{with_homes_of_copies}
use Rattle.vx_bug.specs.CanAssign.{ValuesAreThere}
use Rattle.vx_bug.specs.Assigned.{last_books, Assigned}
use Rattle.vx_bug.specs.Further.{IsHoused}
use Rattle.vx_bug.proofs.Housed.{housed, housed_lists, housed_other, housed_made, copy_is_new, Bounded}
use Rattle.vx_bug.proofs.Making.{pieces_bounded}

pub assigned : (m : Numbers) (t : Trace) (homes : Homes) (r : Clusters) (last : Books) → ValuesAreThere t → r.order ≡ listed t → TurnsTaken m t (at_first homes) r.order r.chosen r.estimates last →
    r.clustered ≡ with_copies t last.homes r.chosen →
    home_of r.homes ≡ with_homes_of_copies t.values last.homes r.clustered.trace.ops r.clustered.clusters r.clustered.trace.fixed → Assigned m t homes r
assigned m t homes r last values order turns clustered housing =
    let books : Books = last_books m t homes r in
    let ss : List Standing = joined (pieces_of t books.homes r.chosen) in
    let with_them : r.clustered ≡ with_copies t books.homes r.chosen = subst (λ (b : Books). r.clustered ≡ with_copies t b.homes r.chosen) turns.books clustered in
    let housed_so : home_of r.homes ≡ with_homes_of_copies t.values books.homes r.clustered.trace.ops r.clustered.clusters r.clustered.trace.fixed =
    subst (λ (b : Books). home_of r.homes ≡ with_homes_of_copies t.values b.homes r.clustered.trace.ops r.clustered.clusters r.clustered.trace.fixed) turns.books housing in
    let all : home_of r.homes ≡ housed t.values books.homes ss =
    housed_so ∙ ap (λ c. with_homes_of_copies t.values books.homes c.trace.ops c.clusters c.trace.fixed) with_them ∙ housed_lists t.values books.homes ss in
    let at : (v : ℕ) → home_of r.homes v ≡ housed t.values books.homes ss v = λ v. ap (λ (h : ℕ → Option ℕ). h v) all in
    let bounded : Bounded t.values ss = pieces_bounded t books.homes r.chosen values in
    record {
      order = order;
      each_estimate = turns.each_estimate;
      each_chosen = turns.each_chosen;
      best = turns.best;
      estimates = turns.expected;
      clustered = with_them;
      homes_of_values = λ v h. at v ∙ housed_other t.values v books.homes ss (λ w k i e. copy_is_new t.values v w k h e);
      homes_of_copies = λ v k made. at (copy_of t.values v k) ∙ housed_made t.values v k books.homes ss (bounded.below v k made.is) bounded made.is;
      homes_of_others = λ u h. at u ∙ housed_other t.values u books.homes ss (λ w k i e. h w k (record { is = i }) e);
    }

-- as the code has them
module _ (m : Numbers) (t : Trace) (homes : Homes) (r : Clusters) (last : Books) (chosen estimates : List ℕ) (table : List (Option ℕ)) (o : r.order ≡ listed t) (e : r.estimates ≡ estimates) (c : r.chosen ≡ chosen)
    (h : r.homes.clusters ≡ table) (made : TurnsTaken m t (at_first homes) (listed t) chosen estimates last) (clustered : r.clustered ≡ with_copies t last.homes chosen)
    (housing : homes_in table ≡ with_homes_of_copies t.values last.homes r.clustered.trace.ops r.clustered.clusters r.clustered.trace.fixed) where
  turns : TurnsTaken m t (at_first homes) r.order r.chosen r.estimates last
  turns =
      subst (λ x. TurnsTaken m t (at_first homes) x r.chosen r.estimates last) (sym o)
      (subst (λ x. TurnsTaken m t (at_first homes) (listed t) x r.estimates last) (sym c)
      (subst (λ x. TurnsTaken m t (at_first homes) (listed t) chosen x last) (sym e) made))

  pub assigned_told : ValuesAreThere t → Assigned m t homes r
  assigned_told values = assigned m t homes r last values o turns (clustered ∙ ap (λ x. with_copies t last.homes x) (sym c)) (ap homes_in h ∙ housing)

  pub housed_told : IsHoused m t homes r
  housed_told = record {
    housed = subst (λ (b : Books). home_of r.homes ≡ with_homes_of_copies t.values b.homes r.clustered.trace.ops r.clustered.clusters r.clustered.trace.fixed) turns.books (ap homes_in h ∙ housing);
  }
