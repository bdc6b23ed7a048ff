-- What the layers above need: clusters that are there, homes that stay, homes for what is copied, and room for each operation.
use Rattle.std.proofs.Common.{◌≡◌, ◌<◌, ◌≤◌, inl, inr, ⊎_elim, ◌&&◌, ◌||◌, ◌==◌, not, refl, sym, ◌∙◌, ap, arith, subst, Bool, true, false, nat_lt, if◌then◌else◌, ℕ, Option, Some, None, is_some, List, [], ◌∷◌, ◌++◌, length, map, slice_get, slice_index_or}
use Rattle.std.specs.List.{list_all, flat_map, filter}
use Rattle.std.proofs.lemmas.Bool.{true≢false, or_left, or_right, lt-ltb, eq-eqb}
use Rattle.std.proofs.lemmas.List.{append-nil}
use Rattle.std.proofs.lemmas.Option.{slice_get_within}
use Rattle.vx_flow.specs.declared.graph.Operand.{Operand}
use Rattle.vx_flow.specs.declared.graph.Op.TheVariants.{Compute, Select, Place, Load, Store, More, Input, Text, Decimal, Across, Base, PlaceIn}
use Rattle.vx_flow.specs.declared.trace.TraceOp.{TraceOp}
use Rattle.vx_flow.specs.declared.trace.TraceOp.TheVariants.{Plain, Split}
use Rattle.vx_flow.specs.declared.trace.Trace.{Trace}
use Rattle.vx_flow.specs.declared.trace.Homes.{Homes}
use Rattle.vx_flow.specs.Effects.{IsIn}
use Rattle.vx_isa.specs.Numbers.{Numbers, IsMachine}
use Rattle.vx_room.specs.declared.items.ClusteredItem.{ClusteredItem}
use Rattle.vx_room.specs.Items.{item_of, is_split, is_observable_item, general_reads, takes_port}
use Rattle.vx_room.specs.Room.{home_of, source_by, read_clusters, stands_well, stand_well, is_cluster, RoomAlone}
use Rattle.vx_dep.specs.Delays.{Stands}
use Rattle.vx_bug.specs.declared.clusters.Clusters.{Clusters}
use Rattle.vx_bug.specs.Clusters.{is_bound, is_across, names_branch, at_first}
use Rattle.vx_bug.specs.Copies.{copy_of, renamed_op, here, Standing, pieces_of, joined}
use Rattle.vx_bug.specs.Laying.{with_copy, with_homes_of_copies}
use Rattle.vx_bug.specs.CanAssign.{FixedAtHome, ClustersAreThere}
use Rattle.vx_bug.specs.Assigned.{last_books, Assigned}
use Rattle.vx_bug.specs.Further.{IsHoused, ChosenAreThere, HomesAreThere, HomesStay, AcrossHasHome, RoomForEach}
use Rattle.vx_bug.proofs.Best.{some_clusters}
use Rattle.vx_bug.proofs.Making.{stays, reading_is_none}
use Rattle.vx_bug.proofs.Housed.{housed, housed_lists, Makes, Leaves, either}
use Rattle.vx_bug.proofs.Everyone.{listed_all}
use Rattle.vx_bug.proofs.Belows.{HomesBelow, Has, books_stay, books_have, last_below, chosen_there, bound_at_zero, fixed_is_chosen}
use Rattle.vx_bug.proofs.Grounds.{IsCopy, IsRenamed, IsItself, pieces_ground, Entry, entry}

-- homes of copies

housed_below : (n values : ℕ) (homes : ℕ → Option ℕ) (ss : List Standing) → HomesBelow n homes → ((s : Standing) → IsIn s ss → s.cluster < n) → HomesBelow n (housed values homes ss)
housed_below n values homes [] h l = h
housed_below n values homes (s ∷ ss) h l = housed_below n values (with_copy values homes s.fixed s.op s.cluster) ss (one s h (l s (inl refl))) (λ x i. l x (inr i))
  where
    by_value : (s : Standing) → HomesBelow n homes → s.cluster < n → (m : Makes values homes s.fixed s.op s.cluster) → (v c : ℕ) → (b : Bool) → (v == copy_of values m.from s.cluster) ≡ b → with_copy values homes s.fixed s.op s.cluster v ≡ Some c → c < n
    by_value s h k m v c true q e =
        let f : Some s.cluster ≡ Some c = sym (m.new v ∙ ap (λ x. if x then Some s.cluster else homes v) q) ∙ e in
        let g : s.cluster ≡ c = cc in omega (arith, k, g)
    by_value s h k m v c false q e = h.below v c (sym (m.new v ∙ ap (λ x. if x then Some s.cluster else homes v) q) ∙ e)

    one : (s : Standing) → HomesBelow n homes → s.cluster < n → HomesBelow n (with_copy values homes s.fixed s.op s.cluster)
    one s h k = ⊎_elim
        (λ (m : Makes values homes s.fixed s.op s.cluster). record { below = λ v c e. by_value s h k m v c (v == copy_of values m.from s.cluster) refl e })
        (λ (f : Leaves values homes s.fixed s.op s.cluster). record { below = λ v c e. h.below v c (sym (f v) ∙ e) })
        (either values homes s.fixed s.op s.cluster)

housed_has : (values : ℕ) (homes : ℕ → Option ℕ) (ss : List Standing) (u : ℕ) → Has homes u → Has (housed values homes ss) u
housed_has values homes [] u h = h
housed_has values homes (s ∷ ss) u h = housed_has values (with_copy values homes s.fixed s.op s.cluster) ss u (⊎_elim
    (λ (m : Makes values homes s.fixed s.op s.cluster). by m (u == copy_of values m.from s.cluster) refl)
    (λ (f : Leaves values homes s.fixed s.op s.cluster). record { home = h.home; is = f u ∙ h.is })
    (either values homes s.fixed s.op s.cluster))
  where
    by : (m : Makes values homes s.fixed s.op s.cluster) (b : Bool) → (u == copy_of values m.from s.cluster) ≡ b → Has (with_copy values homes s.fixed s.op s.cluster) u
    by m true q = record { home = s.cluster; is = m.new u ∙ ap (λ x. if x then Some s.cluster else homes u) q }
    by m false q = record { home = h.home; is = m.new u ∙ ap (λ x. if x then Some s.cluster else homes u) q ∙ h.is }

-- what an operation is, whatever its operands

abbrev stays_at_zero : TraceOp → Bool
stays_at_zero op = is_split (item_of op) || is_observable_item (item_of op)

same_kind : (to : ℕ → ℕ) (op : TraceOp) → stays_at_zero (renamed_op to op) ≡ stays_at_zero op
same_kind to (Split test leaves_when edge live) = refl
same_kind to (Plain (Compute code v a b)) = refl
same_kind to (Plain (Select v test a b)) = refl
same_kind to (Plain (Place v a i)) = refl
same_kind to (Plain (Load v a p dismissible)) = refl
same_kind to (Plain (Store a p x)) = refl
same_kind to (Plain (More v)) = refl
same_kind to (Plain (Input v)) = refl
same_kind to (Plain (Text n)) = refl
same_kind to (Plain (Decimal x)) = refl
same_kind to (Plain (Across v u)) = refl
same_kind to (Plain (Base v a x)) = refl
same_kind to (Plain (PlaceIn v a u i)) = refl

bound_from : (op : TraceOp) → stays_at_zero op ≡ true → is_bound op ≡ true
bound_from (Split test leaves_when edge live) e = refl
bound_from (Plain op) e = or_right (names_branch (Plain op)) (is_observable_item (item_of (Plain op))) e

-- a single item stands well

reads_there : (m : Numbers) (c : Option ℕ) (ys : List Operand) → is_cluster m c ≡ true → list_all (is_cluster m) (map (λ (y : Operand). c) ys) ≡ true
reads_there m c [] e = refl
reads_there m c (y ∷ ys) e = ap (λ b. b && list_all (is_cluster m) (map (λ (y : Operand). c) ys)) e ∙ reads_there m c ys e

both_true : (a b : Bool) → a ≡ true → b ≡ true → (a && b) ≡ true
both_true a b e f = ap (λ x. x && b) e ∙ f

not_true : (a b : Bool) → b ≡ false → (a || not b) ≡ true
not_true a b e = or_right a (not b) (ap not e)

well_by : (m : Numbers) (k : ℕ) (op : TraceOp) (b : Bool) → stays_at_zero op ≡ b → k < m.clusters → (stays_at_zero op ≡ true → k ≡ 0) → stands_well m (record { cluster = k; item = item_of op }) ≡ true
well_by m k op true e l z = both_true (nat_lt k m.clusters) ((k == 0) || not (stays_at_zero op)) (lt-ltb k m.clusters l) (or_left (k == 0) (not (stays_at_zero op)) (eq-eqb k 0 (z e)))
well_by m k op false e l z = both_true (nat_lt k m.clusters) ((k == 0) || not (stays_at_zero op)) (lt-ltb k m.clusters l) (not_true (k == 0) (stays_at_zero op) e)

and_true : (b : Bool) → (b && true) ≡ b
and_true true = refl
and_true false = refl

stands_alone : (m : Numbers) (homes : Homes) (k : ℕ) (op : TraceOp) → k < m.clusters → (stays_at_zero op ≡ true → k ≡ 0) → is_cluster m (source_by homes k (item_of op)) ≡ true →
    stand_well m homes (record { cluster = k; item = item_of op } ∷ []) ≡ true
stands_alone m homes k op l z s =
    let x : ClusteredItem = record { cluster = k; item = item_of op } in
    let sources : list_all (is_cluster m) (read_clusters homes x ++ []) ≡ true =
    ap (list_all (is_cluster m)) (append-nil (read_clusters homes x)) ∙ reads_there m (source_by homes k (item_of op)) (filter takes_port (general_reads (item_of op))) s in
    both_true (list_all (stands_well m) (x ∷ [])) (list_all (is_cluster m) (flat_map (read_clusters homes) (x ∷ [])))
    (and_true (stands_well m x) ∙ well_by m k op (stays_at_zero op) refl l z)
    sources

own_cluster : (m : Numbers) (k : ℕ) → k < m.clusters → is_cluster m (Some k) ≡ true
own_cluster m k l = lt-ltb k m.clusters l

source_there : (m : Numbers) (homes : Homes) (k : ℕ) (op : TraceOp) → k < m.clusters → ((v u : ℕ) → op ≡ Plain (Across v u) → is_cluster m (home_of homes u) ≡ true) → is_cluster m (source_by homes k (item_of op)) ≡ true
source_there m homes k (Split test leaves_when edge live) l a = own_cluster m k l
source_there m homes k (Plain (Compute code v x y)) l a = own_cluster m k l
source_there m homes k (Plain (Select v test x y)) l a = own_cluster m k l
source_there m homes k (Plain (Place v x i)) l a = own_cluster m k l
source_there m homes k (Plain (Load v x p dismissible)) l a = own_cluster m k l
source_there m homes k (Plain (Store x p y)) l a = own_cluster m k l
source_there m homes k (Plain (More v)) l a = own_cluster m k l
source_there m homes k (Plain (Input v)) l a = own_cluster m k l
source_there m homes k (Plain (Text n)) l a = own_cluster m k l
source_there m homes k (Plain (Decimal x)) l a = own_cluster m k l
source_there m homes k (Plain (Across v u)) l a = a v u refl
source_there m homes k (Plain (Base v b x)) l a = own_cluster m k l
source_there m homes k (Plain (PlaceIn v x u i)) l a = own_cluster m k l

-- the assignment

module _ (m : Numbers) (t : Trace) (homes : Homes) (r : Clusters) (machine : IsMachine m) (fixed : FixedAtHome t homes) (there : ClustersAreThere m t homes) (a : Assigned m t homes r) (h : IsHoused m t homes r) where
  some : 1 ≤ m.clusters
  some = some_clusters m machine

  abbrev last : ℕ → Option ℕ
  last = (last_books m t homes r).homes

  abbrev all_standing : List Standing
  all_standing = joined (pieces_of t (last_books m t homes r).homes r.chosen)

  at : (v : ℕ) → home_of r.homes v ≡ housed t.values (last_books m t homes r).homes (joined (pieces_of t (last_books m t homes r).homes r.chosen)) v
  at v = ap (λ (f : ℕ → Option ℕ). f v)
      (h.housed ∙ ap (λ c. with_homes_of_copies t.values (last_books m t homes r).homes c.trace.ops c.clusters c.trace.fixed) a.clustered
      ∙ housed_lists t.values (last_books m t homes r).homes (joined (pieces_of t (last_books m t homes r).homes r.chosen)))

  pub chosen_are_there : ChosenAreThere m r
  chosen_are_there i = chosen_there m t homes r some there a i

  standing_below : (s : Standing) → IsIn s (joined (pieces_of t (last_books m t homes r).homes r.chosen)) → s.cluster < m.clusters
  standing_below s i =
      let g = pieces_ground t (last_books m t homes r).homes r.chosen s i in
      let k : slice_index_or r.chosen g.place 0 < m.clusters = chosen_there m t homes r some there a g.place in
      ⊎_elim
      (λ (c : IsCopy t.values (last_books m t homes r).homes (slice_index_or r.chosen g.place 0) s). subst (λ (x : Standing). x.cluster < m.clusters) (sym c.is) k)
      (λ o. ⊎_elim
      (λ (c : IsRenamed t.values (last_books m t homes r).homes g.op (slice_index_or r.chosen g.place 0) (slice_index_or t.fixed g.place None) s). subst (λ (x : Standing). x.cluster < m.clusters) (sym c.is) k)
      (λ (c : IsItself g.op (slice_index_or r.chosen g.place 0) (slice_index_or t.fixed g.place None) s). subst (λ (x : Standing). x.cluster < m.clusters) (sym c.is) k)
      o)
      g.ground

  homes_below : HomesBelow m.clusters (housed t.values (last_books m t homes r).homes (joined (pieces_of t (last_books m t homes r).homes r.chosen)))
  homes_below = housed_below m.clusters t.values (last_books m t homes r).homes (joined (pieces_of t (last_books m t homes r).homes r.chosen)) (last_below m t homes r some there a) standing_below

  pub homes_are_there : HomesAreThere m r
  homes_are_there v cluster e = homes_below.below v cluster (sym (at v) ∙ e)

  pub homes_stay : HomesStay m t homes r
  homes_stay = record {
    of_values = λ v cluster l e. a.homes_of_values v l ∙ books_stay m t r.chosen (at_first homes) r.order v cluster e;
    of_others = λ v cluster n e. a.homes_of_others v n ∙ books_stay m t r.chosen (at_first homes) r.order v cluster e;
  }

  has_home : (u : ℕ) → Has (last_books m t homes r).homes u → Has (home_of r.homes) u
  has_home u g =
      let x = housed_has t.values (last_books m t homes r).homes (joined (pieces_of t (last_books m t homes r).homes r.chosen)) u g in
      record { home = x.home; is = at u ∙ x.is }

  listed_there : (i : ℕ) (op : TraceOp) → Stands t i op → IsIn i r.order
  listed_there i op s = subst (λ (is : List ℕ). IsIn i is) (sym a.order) (listed_all t i (slice_get_within t.ops i op s))

  across_has : (s : Standing) (v u : ℕ) → IsIn s (joined (pieces_of t (last_books m t homes r).homes r.chosen)) → s.op ≡ Plain (Across v u) → Has (home_of r.homes) u
  across_has s v u i e =
      let g = pieces_ground t (last_books m t homes r).homes r.chosen s i in
      ⊎_elim
      (λ (c : IsCopy t.values (last_books m t homes r).homes (slice_index_or r.chosen g.place 0) s).
      let f : Plain (Across (copy_of t.values c.value (slice_index_or r.chosen g.place 0)) c.value) ≡ Plain (Across v u) = sym (ap (λ (x : Standing). x.op) c.is) ∙ e in
      let q : c.value ≡ u = cc in
      has_home u (subst (λ x. Has (last_books m t homes r).homes x) q (record { home = c.home; is = c.stands })))
      (λ o. ⊎_elim
      (λ (c : IsRenamed t.values (last_books m t homes r).homes g.op (slice_index_or r.chosen g.place 0) (slice_index_or t.fixed g.place None) s).
      let p = reading_is_none (slice_index_or t.fixed g.place None) g.op c.reading in
      let other = p.1 in
      let f : true ≡ false = ap is_across (sym e ∙ ap (λ (x : Standing). x.op) c.is) ∙ stays (here t.values (last_books m t homes r).homes (slice_index_or r.chosen g.place 0)) g.op ∙ other in
      absurd (true≢false f))
      (λ (c : IsItself g.op (slice_index_or r.chosen g.place 0) (slice_index_or t.fixed g.place None) s).
      let f : Plain (Across v u) ≡ g.op = sym e ∙ ap (λ (x : Standing). x.op) c.is in
      let stands : Stands t g.place (Plain (Across v u)) = subst (λ x. Stands t g.place x) (sym f) g.stands in
      has_home u (books_have m t r.chosen (at_first homes) r.order g.place (Plain (Across v u)) u (listed_there g.place (Plain (Across v u)) stands) stands (inl refl)))
      o)
      g.ground

  ops_are : r.clustered.trace.ops ≡ map (λ (s : Standing). s.op) (joined (pieces_of t (last_books m t homes r).homes r.chosen))
  ops_are = ap (λ c. c.trace.ops) a.clustered

  clusters_are : r.clustered.clusters ≡ map (λ (s : Standing). s.cluster) (joined (pieces_of t (last_books m t homes r).homes r.chosen))
  clusters_are = ap (λ c. c.clusters) a.clustered

  there_at : (i : ℕ) (op : TraceOp) → slice_get r.clustered.trace.ops i ≡ Some op → Entry (joined (pieces_of t (last_books m t homes r).homes r.chosen)) i op
  there_at i op e = entry (joined (pieces_of t (last_books m t homes r).homes r.chosen)) i op (ap (λ ops. slice_get ops i) (sym ops_are) ∙ e)

  pub across_has_home : AcrossHasHome r
  across_has_home i v u e =
      let n = there_at i (Plain (Across v u)) e in
      let x = across_has n.standing_there v u n.member (sym n.op_is) in
      ap is_some x.is

  zero_there : (s : Standing) → IsIn s (joined (pieces_of t (last_books m t homes r).homes r.chosen)) → stays_at_zero s.op ≡ true → s.cluster ≡ 0
  zero_there s i e =
      let g = pieces_ground t (last_books m t homes r).homes r.chosen s i in
      let inside = slice_get_within t.ops g.place g.op g.stands in
      ⊎_elim
      (λ (c : IsCopy t.values (last_books m t homes r).homes (slice_index_or r.chosen g.place 0) s).
      let f : false ≡ true = ap (λ (x : Standing). stays_at_zero x.op) (sym c.is) ∙ e in absurd (true≢false (sym f)))
      (λ o. ⊎_elim
      (λ (c : IsRenamed t.values (last_books m t homes r).homes g.op (slice_index_or r.chosen g.place 0) (slice_index_or t.fixed g.place None) s).
      let p = reading_is_none (slice_index_or t.fixed g.place None) g.op c.reading in
      let none = p.0 in
      let f : stays_at_zero g.op ≡ true = sym (same_kind (here t.values (last_books m t homes r).homes (slice_index_or r.chosen g.place 0)) g.op) ∙ ap (λ (x : Standing). stays_at_zero x.op) (sym c.is) ∙ e in
      ap (λ (x : Standing). x.cluster) c.is ∙ bound_at_zero m t homes r some there a g.place g.op inside g.stands none (bound_from g.op f))
      (λ (c : IsItself g.op (slice_index_or r.chosen g.place 0) (slice_index_or t.fixed g.place None) s).
      let f : stays_at_zero g.op ≡ true = ap (λ (x : Standing). stays_at_zero x.op) (sym c.is) ∙ e in
      ap (λ (x : Standing). x.cluster) c.is ∙ by g.place g.op inside g.stands (bound_from g.op f) (slice_index_or t.fixed g.place None) refl)
      o)
      g.ground
    where
      by : (i : ℕ) (op : TraceOp) → i < length t.ops → Stands t i op → is_bound op ≡ true → (f : Option ℕ) → slice_index_or t.fixed i None ≡ f → slice_index_or r.chosen i 0 ≡ 0
      by i op l s b None f = bound_at_zero m t homes r some there a i op l s f b
      by i op l s b (Some k) f = fixed_is_chosen m t homes r some there a i k op l s f ∙ fixed.bound i k op s f b

  pub room_for_each : RoomAlone → RoomForEach m r
  room_for_each alone i op e =
      let n = there_at i op e in
      let s = n.standing_there in
      let k : slice_index_or r.clustered.clusters i 0 ≡ s.cluster = ap (λ ks. slice_index_or ks i 0) clusters_are ∙ n.cluster_is in
      let below : slice_index_or r.clustered.clusters i 0 < m.clusters = subst (λ x. x < m.clusters) (sym k) (standing_below s n.member) in
      let zero_so : stays_at_zero op ≡ true → slice_index_or r.clustered.clusters i 0 ≡ 0 = λ f. k ∙ zero_there s n.member (ap stays_at_zero (sym n.op_is) ∙ f) in
      let source : is_cluster m (source_by r.homes (slice_index_or r.clustered.clusters i 0) (item_of op)) ≡ true =
      source_there m r.homes (slice_index_or r.clustered.clusters i 0) op below
      (λ v u q. let x = across_has s v u n.member (sym n.op_is ∙ q) in ap (is_cluster m) x.is ∙ own_cluster m x.home (homes_are_there u x.home x.is)) in
      alone m r.homes (record { cluster = slice_index_or r.clustered.clusters i 0; item = item_of op }) machine (stands_alone m r.homes (slice_index_or r.clustered.clusters i 0) op below zero_so source)
