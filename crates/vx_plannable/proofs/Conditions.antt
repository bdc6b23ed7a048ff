-- A trace that can be planned keeps the conditions of the calls.
use Rattle.std.proofs.Common.{ap, ◌∙◌, ◌≡◌, ◌<◌, ◌≤◌, inl, inr, ◌&&◌, ◌==◌, ℕ, zero, suc, Bool, true, false, nat_le, Option, Some, None, List, [], ◌∷◌, ◌++◌, length, slice_get, slice_index_or, refl, sym, subst, arith}
use Rattle.std.specs.Prelude.{is_some, not}
use Rattle.std.specs.List.{list_all}
use Rattle.std.proofs.lemmas.Bool.{ltb-true, leb-true, eqb-true}
use Rattle.std.proofs.lemmas.List.Folds.{list_all-append}
use Rattle.vx_flow.specs.declared.operands.Reads.{Reads}
use Rattle.vx_flow.specs.declared.trace.TraceOp.{TraceOp}
use Rattle.vx_flow.specs.declared.trace.TraceOp.TheVariants.{Plain, Split}
use Rattle.vx_flow.specs.declared.trace.Join.{Join}
use Rattle.vx_flow.specs.declared.trace.Trace.{Trace}
use Rattle.vx_flow.specs.declared.trace.Homes.{Homes}
use Rattle.vx_flow.specs.Effects.{IsIn}
use Rattle.vx_flow.specs.Operands.{binds, value_list, values_read}
use Rattle.vx_isa.specs.Numbers.{Numbers}
use Rattle.vx_room.specs.Room.{has_room}
use Rattle.vx_dep.specs.declared.mode.Mode.{Mode}
use Rattle.vx_dep.specs.declared.deps.Deps.{Deps}
use Rattle.vx_dep.specs.Deps.{IsDeps}
use Rattle.vx_dep.specs.Delays.{Stands, reads_of, writes_of}
use Rattle.vx_dep.specs.Traits.{read, written}
use Rattle.vx_dep.proofs.Written.{reads_are, writes_are}
use Rattle.vx_bug.specs.declared.clusters.Clusters.{Clusters}
use Rattle.vx_bug.specs.CanAssign.{IsFixed, bound_writes, BoundAtHome, FixedAtHome, FixedReadsHere, ClustersAreThere, ValuesAreThere, CopiesHaveNumbers, IsWellFormed}
use Rattle.vx_bug.specs.Further.{RoomForEach}
use Rattle.vx_sched.specs.Placement.{items_at, AreDeps, HaveRoomAlone}
use Rattle.vx_plannable.specs.Plannable.{is_below, all_are_below, binds_none, names_below, is_plannable_op, is_free, ascend, are_within, most_values, is_plannable, is_there}

-- what an operation names, value by value

pub both_below : (values : ℕ) (xs ys : List ℕ) → all_are_below values (xs ++ ys) ≡ (all_are_below values xs && all_are_below values ys)
both_below values xs ys = list_all-append (is_below values) xs ys

pub reads_are_below : (values : ℕ) (op : TraceOp) (r : Reads) → r ≡ read op → all_are_below values (values_read r) ≡ all_are_below values (reads_of op)
reads_are_below values op r e = ap (all_are_below values) (ap values_read e ∙ reads_are op)

pub writes_are_below : (values : ℕ) (op : TraceOp) (w : Option ℕ) → w ≡ written op → all_are_below values (value_list w) ≡ all_are_below values (writes_of op)
writes_are_below values op w e = ap (all_are_below values) (ap value_list e ∙ writes_are op)

pub own_mode : (m : Numbers) (mode : Mode) (t : Trace) (deps : Deps) → IsDeps m mode t deps → AreDeps m t deps
own_mode m mode t deps is = subst (λ x. IsDeps m x t deps) (sym is.mode_is) is

-- lists of which each item passes

both_hold : (a b : Bool) → (a && b) ≡ true → (a ≡ true) × (b ≡ true)
both_hold true b h = (refl, h)
both_hold false b h = cc

same_item : {A : Type 0} (y x : A) → Some y ≡ Some x → y ≡ x
same_item y x e = cc

passes_in : {A : Type 0} (p : A → Bool) (xs : List A) (x : A) → list_all p xs ≡ true → IsIn x xs → p x ≡ true
passes_in p [] x h i = absurd i
passes_in p (y ∷ ys) x h (inl e) = subst (λ z. p z ≡ true) (sym e) (both_hold (p y) (list_all p ys) h).0
passes_in p (y ∷ ys) x h (inr i) = passes_in p ys x (both_hold (p y) (list_all p ys) h).1 i

passes_at : {A : Type 0} (p : A → Bool) (xs : List A) (k : ℕ) (x : A) → list_all p xs ≡ true → slice_get xs k ≡ Some x → p x ≡ true
passes_at p [] k x h e = cc
passes_at p (y ∷ ys) zero x h e = subst (λ z. p z ≡ true) (same_item y x e) (both_hold (p y) (list_all p ys) h).0
passes_at p (y ∷ ys) (suc k) x h e = passes_at p ys k x (both_hold (p y) (list_all p ys) h).1 e

below_in : (values : ℕ) (vs : List ℕ) (v : ℕ) → all_are_below values vs ≡ true → IsIn v vs → v < values
below_in values vs v h i = ltb-true v values (passes_in (is_below values) vs v h i)

-- the parts of the test

record Parts (t : Trace) : Type 0 where
  ops : list_all (is_plannable_op t.values) t.ops ≡ true
  free : list_all is_free t.fixed ≡ true
  each : length t.fixed ≡ length t.ops
  joins : ascend 0 t.joins ≡ true
  within : are_within (length t.ops) t.joins ≡ true
  few : t.values ≤ most_values

six_hold : (a b c d e f : Bool) → (a && b && c && d && e && f) ≡ true → (a ≡ true) × (b ≡ true) × (c ≡ true) × (d ≡ true) × (e ≡ true) × (f ≡ true)
six_hold true true true true true true h = (refl, refl, refl, refl, refl, refl)
six_hold true true true true true false h = cc
six_hold true true true true false f h = cc
six_hold true true true false e f h = cc
six_hold true true false d e f h = cc
six_hold true false c d e f h = cc
six_hold false b c d e f h = cc

parts_of : (t : Trace) → is_plannable t ≡ true → Parts t
parts_of t h =
    let six = six_hold (list_all (is_plannable_op t.values) t.ops) (list_all is_free t.fixed) (length t.fixed == length t.ops) (ascend 0 t.joins) (are_within (length t.ops) t.joins) (nat_le t.values most_values) h in
    record { ops = six.0; free = six.1; each = eqb-true (length t.fixed) (length t.ops) six.2; joins = six.3; within = six.4; few = leb-true t.values most_values six.5 }

-- homes are clusters of the machine, and no operation has a cluster

there_in : (clusters : ℕ) (homes : List (Option ℕ)) (v cluster : ℕ) → list_all (is_there clusters) homes ≡ true → slice_index_or homes v None ≡ Some cluster → cluster < clusters
there_in clusters [] v cluster h e = cc
there_in clusters (None ∷ homes) zero cluster h e = cc
there_in clusters (Some k ∷ homes) zero cluster h e =
    let q : k ≡ cluster = cc in
    subst (λ z. z < clusters) q (ltb-true k clusters (both_hold (is_there clusters (Some k)) (list_all (is_there clusters) homes) h).0)
there_in clusters (home ∷ homes) (suc v) cluster h e = there_in clusters homes v cluster (both_hold (is_there clusters home) (list_all (is_there clusters) homes) h).1 e

not_fixed_in : (fixed : List (Option ℕ)) (i cluster : ℕ) → list_all is_free fixed ≡ true → slice_index_or fixed i None ≡ Some cluster → ⊥
not_fixed_in [] i cluster h e = cc
not_fixed_in (None ∷ xs) zero cluster h e = cc
not_fixed_in (Some c ∷ xs) zero cluster h e = cc
not_fixed_in (x ∷ xs) (suc i) cluster h e = not_fixed_in xs i cluster (both_hold (is_free x) (list_all is_free xs) h).1 e

not_fixed : (t : Trace) (i cluster : ℕ) → Parts t → IsFixed t i cluster → ⊥
not_fixed t i cluster parts e = not_fixed_in t.fixed i cluster parts.free e

not_among : (o : Option ℕ) (v : ℕ) → not (is_some o) ≡ true → IsIn v (value_list o) → ⊥
not_among None v h i = i
not_among (Some u) v h i = cc

not_bound : (op : TraceOp) (v : ℕ) → binds_none op ≡ true → IsIn v (bound_writes op) → ⊥
not_bound (Plain op) v h i = not_among (binds op) v h i
not_bound (Split test leaves_when edge live) v h i = i

-- the conditions of the assignment of clusters

pub bound_at_home : (t : Trace) (homes : Homes) → is_plannable t ≡ true → BoundAtHome t homes
bound_at_home t homes h i op v stands is =
    let passes : is_plannable_op t.values op ≡ true = passes_at (is_plannable_op t.values) t.ops i op (parts_of t h).ops stands in
    absurd (not_bound op v (both_hold (binds_none op) (names_below t.values op) passes).0 is)

pub fixed_at_home : (t : Trace) (homes : Homes) → is_plannable t ≡ true → FixedAtHome t homes
fixed_at_home t homes h = record {
  result = λ i cluster op v stands fixed is. absurd (not_fixed t i cluster (parts_of t h) fixed);
  bound = λ i cluster op stands fixed is. absurd (not_fixed t i cluster (parts_of t h) fixed);
}

pub fixed_reads_here : (t : Trace) (homes : Homes) → is_plannable t ≡ true → FixedReadsHere t homes
fixed_reads_here t homes h i cluster op v stands fixed across is = absurd (not_fixed t i cluster (parts_of t h) fixed)

pub clusters_are_there : (m : Numbers) (t : Trace) (homes : Homes) → is_plannable t ≡ true → list_all (is_there m.clusters) homes.clusters ≡ true → ClustersAreThere m t homes
clusters_are_there m t homes h e = record {
  fixed = λ i cluster fixed. absurd (not_fixed t i cluster (parts_of t h) fixed);
  homes_there = λ v cluster is. there_in m.clusters homes.clusters v cluster e is;
}

names_at : (t : Trace) (i : ℕ) (op : TraceOp) → is_plannable t ≡ true → Stands t i op → (all_are_below t.values (reads_of op) ≡ true) × (all_are_below t.values (writes_of op) ≡ true)
names_at t i op h stands =
    let passes : is_plannable_op t.values op ≡ true = passes_at (is_plannable_op t.values) t.ops i op (parts_of t h).ops stands in
    both_hold (all_are_below t.values (reads_of op)) (all_are_below t.values (writes_of op)) (both_hold (binds_none op) (names_below t.values op) passes).1

pub values_are_there : (t : Trace) → is_plannable t ≡ true → ValuesAreThere t
values_are_there t h = record {
  reads = λ i op v stands free is. below_in t.values (reads_of op) v (names_at t i op h stands).0 is;
  writes = λ i op v stands free is. below_in t.values (writes_of op) v (names_at t i op h stands).1 is;
}

pub copies_have_numbers : (t : Trace) → is_plannable t ≡ true → CopiesHaveNumbers t
copies_have_numbers t h = let few : t.values ≤ 858993459 = (parts_of t h).few in omega arith

-- the joins

least_in : (least : ℕ) (joins : List Join) (k : ℕ) (join : Join) → ascend least joins ≡ true → slice_get joins k ≡ Some join → least ≤ join.place
least_in least [] k join h e = cc
least_in least (j ∷ js) zero join h e = subst (λ (o : Join). least ≤ o.place) (same_item j join e) (leb-true least j.place (both_hold (nat_le least j.place) (ascend j.place js) h).0)
least_in least (j ∷ js) (suc k) join h e =
    let both = both_hold (nat_le least j.place) (ascend j.place js) h in
    let here : least ≤ j.place = leb-true least j.place both.0 in
    let there : j.place ≤ join.place = least_in j.place js k join both.1 e in
    omega arith

in_order : (least : ℕ) (joins : List Join) (j k : ℕ) (above below : Join) → ascend least joins ≡ true → j < k → slice_get joins j ≡ Some above → slice_get joins k ≡ Some below → above.place ≤ below.place
in_order least [] j k above below h l e f = cc
in_order least (x ∷ xs) zero zero above below h l e f = omega (arith, l)
in_order least (x ∷ xs) zero (suc k) above below h l e f = subst (λ (o : Join). o.place ≤ below.place) (same_item x above e) (least_in x.place xs k below (both_hold (nat_le least x.place) (ascend x.place xs) h).1 f)
in_order least (x ∷ xs) (suc j) zero above below h l e f = omega (arith, l)
in_order least (x ∷ xs) (suc j) (suc k) above below h l e f = in_order x.place xs j k above below (both_hold (nat_le least x.place) (ascend x.place xs) h).1 (omega (arith, l)) e f

pub is_well_formed : (t : Trace) → is_plannable t ≡ true → IsWellFormed t
is_well_formed t h = record {
  each_fixed = (parts_of t h).each;
  joins_ascend = λ j k above below l e f. in_order 0 t.joins j k above below (parts_of t h).joins l e f;
  joins_within = λ join is. leb-true join.place (length t.ops) (passes_in (λ (o : Join). nat_le o.place (length t.ops)) t.joins join (parts_of t h).within is);
}

-- each operation has room by itself

has_room_there : (m : Numbers) (r : Clusters) (i : ℕ) (o : Option TraceOp) → slice_get r.clustered.trace.ops i ≡ o → i < length r.clustered.trace.ops → RoomForEach m r → has_room m r.homes (items_at r.clustered (i ∷ [])) ≡ true
has_room_there m r i None e inside room = absurd (none r.clustered.trace.ops i inside e)
  where
    none : {A : Type 0} (xs : List A) (k : ℕ) → k < length xs → slice_get xs k ≡ None → ⊥
    none [] k h f = omega (arith, h)
    none (x ∷ xs) zero h f = cc
    none (x ∷ xs) (suc k) h f = none xs k (omega (arith, h)) f
has_room_there m r i (Some op) e inside room = rw e (room i op e)

pub alone : (m : Numbers) (r : Clusters) → RoomForEach m r → HaveRoomAlone m r.homes r.clustered
alone m r room i inside = has_room_there m r i (slice_get r.clustered.trace.ops i) refl inside room
