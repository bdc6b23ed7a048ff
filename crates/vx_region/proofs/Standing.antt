-- What is assigned stands where the values do that it names.
use Rattle.std.proofs.Common.{◌≡◌, ◌≢◌, ◌<◌, ◌≤◌, ◌⊎◌, ⊎_elim, ◌==◌, not, refl, sym, ◌∙◌, ap, subst, arith, Bool, true, false, if◌then◌else◌, ℕ, Option, Some, None, List, map, slice_get, slice_index_or}
use Rattle.std.proofs.Math.Path.{fun_ext}
use Rattle.std.proofs.lemmas.Bool.{eqb-true, eq-eqb, cases_lt, true≢false}
use Rattle.std.proofs.lemmas.Option.{slice_get_within}
use Rattle.vx_flow.specs.declared.graph.Op.TheVariants.{Across}
use Rattle.vx_flow.specs.declared.trace.TraceOp.{TraceOp}
use Rattle.vx_flow.specs.declared.trace.TraceOp.TheVariants.{Plain}
use Rattle.vx_flow.specs.declared.trace.Trace.{Trace}
use Rattle.vx_flow.specs.declared.trace.Homes.{Homes}
use Rattle.vx_flow.specs.Effects.{IsIn}
use Rattle.vx_isa.specs.Numbers.{Numbers, IsMachine}
use Rattle.vx_room.specs.Room.{home_of, RoomAlone}
use Rattle.vx_dep.specs.Delays.{Stands}
use Rattle.vx_bug.specs.declared.clusters.Clusters.{Clusters}
use Rattle.vx_bug.specs.Assigned.{last_books, Assigned}
use Rattle.vx_bug.specs.CanAssign.{BoundAtHome, FixedAtHome, FixedReadsHere, ClustersAreThere, ValuesAreThere}
use Rattle.vx_bug.specs.Clusters.{general_reads, general_writes, is_bound, is_across, at_first}
use Rattle.vx_bug.specs.Copies.{copy_of, is_away, reads_copies, renamed_op, here, Standing, across, pieces_of, joined}
use Rattle.vx_bug.specs.Further.{IsHoused, HomesAreThere, RoomForEach}
use Rattle.vx_bug.specs.Laying.{with_homes_of_copies}
use Rattle.vx_bug.proofs.Belows.{Has, books_stay, books_have, chosen_there, bound_at_zero, fixed_is_chosen}
use Rattle.vx_bug.proofs.Besides.{homes_are_there, room_for_each}
use Rattle.vx_bug.proofs.Best.{some_clusters}
use Rattle.vx_bug.proofs.Everyone.{listed_all}
use Rattle.vx_bug.proofs.Grounds.{Entry, entry}
use Rattle.vx_bug.proofs.Housed.{housed, housed_lists, housed_other, housed_made, one_cluster, Bounded}
use Rattle.vx_bug.proofs.Listing.{in_append, append_in_left}
use Rattle.vx_bug.proofs.Making.{pieces_bounded, reading_is_none}
use Rattle.vx_region.specs.AtHome.{CopiesAtHome, AcrossOfValues, copies, stays, renames, StandsWell, AssignedStands}
use Rattle.vx_region.proofs.Lists.{general_in_reads}
use Rattle.vx_region.proofs.CopiesMade.{IsMadeIn, IsNone, made_or_none, IsCopy, IsRenamed, IsItself, pieces_ground}
use Rattle.vx_region.proofs.Renamed.{IsNamed, reads_named, writes_stay, bound_stays, across_stays, writes_in, read_across, other_reads}
use Rattle.vx_region.proofs.Turns.{IsNamedAt, written_home, home_from}

away_home : (o : Option ℕ) (cluster : ℕ) → is_away o cluster ≡ true → (h : ℕ) × (o ≡ Some h) × (h ≢ cluster)
away_home None cluster e = absurd cc
away_home (Some h) cluster e = (h, refl, λ q. true≢false (sym e ∙ ap not (eq-eqb h cluster q)))

near_home : (h cluster : ℕ) → is_away (Some h) cluster ≡ false → h ≡ cluster
near_home h cluster e = by (h == cluster) refl
  where
    by : (b : Bool) → (h == cluster) ≡ b → h ≡ cluster
    by true q = eqb-true h cluster q
    by false q = absurd (true≢false (ap not (sym q) ∙ e))

module _ (m : Numbers) (t : Trace) (homes : Homes) (r : Clusters) (machine : IsMachine m) (bound_home : BoundAtHome t homes) (fixed_home : FixedAtHome t homes) (fixed_reads : FixedReadsHere t homes) (there : ClustersAreThere m t homes)
    (values : ValuesAreThere t) (start : CopiesAtHome t.values (home_of homes)) (a : Assigned m t homes r) where
  some : 1 ≤ m.clusters
  some = some_clusters m machine

  abbrev last : ℕ → Option ℕ
  last = (last_books m t homes r).homes

  abbrev all : List Standing
  all = joined (pieces_of t (last_books m t homes r).homes r.chosen)

  bounded : Bounded t.values all
  bounded = pieces_bounded t last r.chosen values

  -- homes

  made_home : (v k : ℕ) → IsIn (across t.values k v) all → home_of r.homes (copy_of t.values v k) ≡ Some k
  made_home v k i = a.homes_of_copies v k (record { is = i })

  none_home : (u : ℕ) → IsNone t.values all u → home_of r.homes u ≡ last u
  none_home u n = a.homes_of_others u (λ v k made e. n v k made.is e)

  start_stays : (u k : ℕ) → home_of homes u ≡ Some k → last u ≡ Some k
  start_stays u k e = books_stay m t r.chosen (at_first homes) r.order u k e

  copy_stays : (u k : ℕ) → home_of homes u ≡ Some k → ((v : ℕ) × (v < t.values) × (u ≡ copy_of t.values v k)) → home_of r.homes u ≡ Some k
  copy_stays u k e p = ⊎_elim
      (λ (x : IsMadeIn t.values all u).
      let small : x.value < t.values = bounded.below x.value x.cluster x.member in
      let same : x.cluster ≡ k = one_cluster t.values x.value p.0 x.cluster k small p.1 (sym x.number ∙ p.2) in
      ap (home_of r.homes) x.number ∙ made_home x.value x.cluster x.member ∙ ap Some same)
      (λ (n : IsNone t.values all u). none_home u n ∙ start_stays u k e)
      (made_or_none t.values all u)

  pub homes_stay : (u k : ℕ) → home_of homes u ≡ Some k → home_of r.homes u ≡ Some k
  homes_stay u k e = ⊎_elim
      (λ l. a.homes_of_values u l ∙ start_stays u k e)
      (λ l. copy_stays u k e (start u k e l))
      (cases_lt u t.values)

  at : (u : ℕ) → home_of r.homes u ≡ housed t.values last all u
  at u = ⊎_elim
      (λ (x : IsMadeIn t.values all u).
      let small : x.value < t.values = bounded.below x.value x.cluster x.member in
      ap (home_of r.homes) x.number ∙ made_home x.value x.cluster x.member ∙ sym (housed_made t.values x.value x.cluster last all small bounded x.member) ∙ ap (housed t.values last all) (sym x.number))
      (λ (n : IsNone t.values all u). none_home u n ∙ sym (housed_other t.values u last all n))
      (made_or_none t.values all u)

  is_housed : IsHoused m t homes r
  is_housed = record {
    housed = fun_ext at ∙ sym (housed_lists t.values last all) ∙ sym (ap (λ c. with_homes_of_copies t.values (last_books m t homes r).homes c.trace.ops c.clusters c.trace.fixed) a.clustered);
  }

  pub homes_there : HomesAreThere m r
  homes_there = homes_are_there m t homes r machine fixed_home there a is_housed

  pub room : RoomAlone → RoomForEach m r
  room alone = room_for_each m t homes r machine fixed_home there a is_housed alone

  -- homes of copies

  abbrev IsCopyHere : ℕ → ℕ → Type 0
  IsCopyHere u k = (v : ℕ) × (v < t.values) × (u ≡ copy_of t.values v k)

  at_start : (u k c : ℕ) → last u ≡ Some k → home_of homes u ≡ Some c → t.values ≤ u → IsCopyHere u k
  at_start u k c e h l =
      let f : Some c ≡ Some k = sym (start_stays u c h) ∙ e in
      let g : c ≡ k = cc in
      start u k (h ∙ ap Some g) l

  fixed_named : AcrossOfValues t → (u k c i : ℕ) (op : TraceOp) → last u ≡ Some k → t.values ≤ u → Stands t i op → slice_index_or t.fixed i None ≡ Some c → IsIn u (general_reads op) ⊎ IsIn u (general_writes op) → IsCopyHere u k
  fixed_named across_of u k c i op e l s f h = ⊎_elim
      (λ j. by j (is_across op) refl)
      (λ j. at_start u k c e (fixed_home.result i c op u s f j) l)
      h
    where
      by : IsIn u (general_reads op) → (b : Bool) → is_across op ≡ b → IsCopyHere u k
      by j true n = let p = read_across op u n j in absurd (let g : u < t.values = across_of i p.0 u (s ∙ ap Some p.1) in omega (arith, g, l))
      by j false n = at_start u k c e (fixed_reads i c op u s f n j) l

  free_named : (u i : ℕ) (op : TraceOp) → t.values ≤ u → Stands t i op → slice_index_or t.fixed i None ≡ None → IsIn u (general_reads op) ⊎ IsIn u (general_writes op) → ⊥
  free_named u i op l s f h = ⊎_elim
      (λ j. let g : u < t.values = values.reads i op u s f (general_in_reads op u j) in omega (arith, g, l))
      (λ j. let g : u < t.values = values.writes i op u s f (writes_in op u j) in omega (arith, g, l))
      h

  named : AcrossOfValues t → (u k : ℕ) → last u ≡ Some k → t.values ≤ u → IsNamedAt t u → IsCopyHere u k
  named across_of u k e l n = by (slice_index_or t.fixed n.place None) refl
    where
      by : (f : Option ℕ) → slice_index_or t.fixed n.place None ≡ f → IsCopyHere u k
      by None f = absurd (free_named u n.place n.op l n.stands f (in_append u (general_reads n.op) (general_writes n.op) n.member))
      by (Some c) f = fixed_named across_of u k c n.place n.op e l n.stands f (in_append u (general_reads n.op) (general_writes n.op) n.member)

  pub copies_at_home : AcrossOfValues t → CopiesAtHome t.values (home_of r.homes)
  copies_at_home across_of u k e l = ⊎_elim
      (λ (x : IsMadeIn t.values all u).
      let small : x.value < t.values = bounded.below x.value x.cluster x.member in
      let f : Some x.cluster ≡ Some k = sym (made_home x.value x.cluster x.member) ∙ ap (home_of r.homes) (sym x.number) ∙ e in
      let g : x.cluster ≡ k = cc in
      (x.value, small, x.number ∙ ap (λ c. copy_of t.values x.value c) g))
      (λ (n : IsNone t.values all u).
      let f : last u ≡ Some k = sym (none_home u n) ∙ e in
      ⊎_elim (λ h. start u k h l) (λ (d : IsNamedAt t u). named across_of u k f l d) (home_from m t homes r some there a u k f))
      (made_or_none t.values all u)

  -- what stands

  copy_stands : (i v : ℕ) (op : TraceOp) → Stands t i op → (slice_index_or t.fixed i None ≡ None) × (is_across op ≡ false) → IsIn v (general_reads op) → is_away (last v) (slice_index_or r.chosen i 0) ≡ true →
      IsIn (across t.values (slice_index_or r.chosen i 0) v) all → StandsWell m t homes r (Plain (Across (copy_of t.values v (slice_index_or r.chosen i 0)) v)) (slice_index_or r.chosen i 0)
  copy_stands i v op s p h w j =
      let k : ℕ = slice_index_or r.chosen i 0 in
      let q = away_home (last v) k w in
      record {
        at_home = record {
          reads = λ x n y. absurd (true≢false n);
          writes = λ x y. ⊎_elim (λ e. ap (home_of r.homes) e ∙ made_home v k j) (λ z. absurd z) y;
          bound = λ e. absurd (true≢false (sym e));
        };
        there = chosen_there m t homes r some there a i;
        for = copies i v q.0 op s p.0 p.1 h q.1 q.2 refl;
      }

  free_writes : (i w : ℕ) (op : TraceOp) → Stands t i op → slice_index_or t.fixed i None ≡ None → IsIn w (general_writes op) → home_of r.homes w ≡ Some (slice_index_or r.chosen i 0)
  free_writes i w op s f h = a.homes_of_values w (values.writes i op w s f (writes_in op w h)) ∙ written_home m t homes r some there a bound_home i op w s f h

  free_bound : (i : ℕ) (op : TraceOp) → Stands t i op → slice_index_or t.fixed i None ≡ None → is_bound op ≡ true → slice_index_or r.chosen i 0 ≡ 0
  free_bound i op s f e = bound_at_zero m t homes r some there a i op (slice_get_within t.ops i op s) s f e

  read_home : (i w : ℕ) (op : TraceOp) → Stands t i op → IsIn w (general_reads op) → Has last w
  read_home i w op s h =
      books_have m t r.chosen (at_first homes) r.order i op w (subst (λ (is : List ℕ). IsIn i is) (sym a.order) (listed_all t i (slice_get_within t.ops i op s))) s (append_in_left w (general_reads op) (general_writes op) h)

  renamed_read : (i w : ℕ) (op : TraceOp) → Stands t i op → slice_index_or t.fixed i None ≡ None → IsIn w (general_reads op) → (is_away (last w) (slice_index_or r.chosen i 0) ≡ true → IsIn (across t.values (slice_index_or r.chosen i 0) w) all) →
      home_of r.homes (here t.values last (slice_index_or r.chosen i 0) w) ≡ Some (slice_index_or r.chosen i 0)
  renamed_read i w op s f h made = by (is_away (last w) (slice_index_or r.chosen i 0)) refl
    where
      near : Has last w → is_away (last w) (slice_index_or r.chosen i 0) ≡ false → home_of r.homes w ≡ Some (slice_index_or r.chosen i 0)
      near g q =
          let same : g.home ≡ slice_index_or r.chosen i 0 = near_home g.home (slice_index_or r.chosen i 0) (ap (λ o. is_away o (slice_index_or r.chosen i 0)) (sym g.is) ∙ q) in
          a.homes_of_values w (values.reads i op w s f (general_in_reads op w h)) ∙ g.is ∙ ap Some same

      by : (b : Bool) → is_away (last w) (slice_index_or r.chosen i 0) ≡ b → home_of r.homes (here t.values last (slice_index_or r.chosen i 0) w) ≡ Some (slice_index_or r.chosen i 0)
      by true q = ap (λ b. home_of r.homes (if b then copy_of t.values w (slice_index_or r.chosen i 0) else w)) q ∙ made_home w (slice_index_or r.chosen i 0) (made q)
      by false q = ap (λ b. home_of r.homes (if b then copy_of t.values w (slice_index_or r.chosen i 0) else w)) q ∙ near (read_home i w op s h) q

  renamed_stands : (i : ℕ) (op : TraceOp) → Stands t i op → (slice_index_or t.fixed i None ≡ None) × (is_across op ≡ false) →
      ((v : ℕ) → IsIn v (general_reads op) → is_away (last v) (slice_index_or r.chosen i 0) ≡ true → IsIn (across t.values (slice_index_or r.chosen i 0) v) all) →
      StandsWell m t homes r (renamed_op (here t.values last (slice_index_or r.chosen i 0)) op) (slice_index_or r.chosen i 0)
  renamed_stands i op s p made =
      let k : ℕ = slice_index_or r.chosen i 0 in
      let to : ℕ → ℕ = here t.values last k in
      record {
        at_home = record {
          reads = λ x n y. let g : IsNamed to (general_reads op) x = reads_named to op x p.1 y in ap (home_of r.homes) g.is ∙ renamed_read i g.value op s p.0 g.member (made g.value g.member);
          writes = λ x y. free_writes i x op s p.0 (subst (λ xs. IsIn x xs) (writes_stay to op) y);
          bound = λ e. free_bound i op s p.0 (sym (bound_stays to op) ∙ e);
        };
        there = chosen_there m t homes r some there a i;
        for = renames i op s p.0 refl;
      }

  itself_stands : (i : ℕ) (op : TraceOp) → Stands t i op → (f : Option ℕ) → slice_index_or t.fixed i None ≡ f → reads_copies f op ≡ false → StandsWell m t homes r op (slice_index_or r.chosen i 0)
  itself_stands i op s None f n =
      let c : is_across op ≡ true = other_reads op n in
      record {
        at_home = record {
          reads = λ x no y. absurd (true≢false (sym c ∙ no));
          writes = λ x y. free_writes i x op s f y;
          bound = λ e. free_bound i op s f e;
        };
        there = chosen_there m t homes r some there a i;
        for = renames i op s f (sym (across_stays (here t.values last (slice_index_or r.chosen i 0)) op c));
      }
  itself_stands i op s (Some k) f n =
      let same : slice_index_or r.chosen i 0 ≡ k = fixed_is_chosen m t homes r some there a i k op (slice_get_within t.ops i op s) s f in
      record {
        at_home = record {
          reads = λ x no y. homes_stay x k (fixed_reads i k op x s f no y) ∙ ap Some (sym same);
          writes = λ x y. homes_stay x k (fixed_home.result i k op x s f y) ∙ ap Some (sym same);
          bound = λ e. same ∙ fixed_home.bound i k op s f e;
        };
        there = chosen_there m t homes r some there a i;
        for = stays i s (f ∙ ap Some (sym same));
      }

  stands_well : (s : Standing) → IsIn s all → StandsWell m t homes r s.op s.cluster
  stands_well s i =
      let g = pieces_ground t last r.chosen s i in
      ⊎_elim
      (λ (c : IsCopy t.values last g.op (slice_index_or r.chosen g.place 0) (slice_index_or t.fixed g.place None) s).
      subst (λ (x : Standing). StandsWell m t homes r x.op x.cluster) (sym c.is)
      (copy_stands g.place c.value g.op g.stands (reading_is_none (slice_index_or t.fixed g.place None) g.op c.reading) c.is_read c.away (subst (λ (x : Standing). IsIn x all) c.is i)))
      (λ o. ⊎_elim
      (λ (c : IsRenamed t.values last g.op (slice_index_or r.chosen g.place 0) (slice_index_or t.fixed g.place None) all s).
      subst (λ (x : Standing). StandsWell m t homes r x.op x.cluster) (sym c.is)
      (renamed_stands g.place g.op g.stands (reading_is_none (slice_index_or t.fixed g.place None) g.op c.reading) c.made))
      (λ (c : IsItself g.op (slice_index_or r.chosen g.place 0) (slice_index_or t.fixed g.place None) s).
      subst (λ (x : Standing). StandsWell m t homes r x.op x.cluster) (sym c.is)
      (itself_stands g.place g.op g.stands (slice_index_or t.fixed g.place None) refl c.reading))
      o)
      g.ground

  ops_are : r.clustered.trace.ops ≡ map (λ (s : Standing). s.op) all
  ops_are = ap (λ c. c.trace.ops) a.clustered

  clusters_are : r.clustered.clusters ≡ map (λ (s : Standing). s.cluster) all
  clusters_are = ap (λ c. c.clusters) a.clustered

  pub each_stands : (i : ℕ) (op : TraceOp) → slice_get r.clustered.trace.ops i ≡ Some op → StandsWell m t homes r op (slice_index_or r.clustered.clusters i 0)
  each_stands i op e =
      let n : Entry all i op = entry all i op (ap (λ ops. slice_get ops i) (sym ops_are) ∙ e) in
      let k : slice_index_or r.clustered.clusters i 0 ≡ n.standing_there.cluster = ap (λ ks. slice_index_or ks i 0) clusters_are ∙ n.cluster_is in
      subst (λ c. StandsWell m t homes r op c) (sym k) (subst (λ o. StandsWell m t homes r o n.standing_there.cluster) (sym n.op_is) (stands_well n.standing_there n.member))

pub assigned_stands : RoomAlone → AssignedStands
assigned_stands alone m t homes r machine bound fixed reads there values across_of well start a = record {
  each = each_stands m t homes r machine bound fixed reads there values start a;
  homes_stay = homes_stay m t homes r machine bound fixed reads there values start a;
  copies = copies_at_home m t homes r machine bound fixed reads there values start a across_of;
  homes_there = homes_there m t homes r machine bound fixed reads there values start a;
  room = room m t homes r machine bound fixed reads there values start a alone;
}
