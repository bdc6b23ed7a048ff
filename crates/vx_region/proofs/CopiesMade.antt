-- What stands in a clustered trace, and the copies that are made for it.
use Rattle.std.proofs.Common.{◌≡◌, ◌+◌, ◌⊎◌, inl, inr, ⊎_elim, ◌==◌, ◌&&◌, not, refl, sym, ◌∙◌, ap, subst, Bool, true, false, if◌then◌else◌, nat_eq, ℕ, suc, Option, Some, None, List, [], ◌∷◌, ◌++◌, map, slice_get, slice_index_or}
use Rattle.std.specs.List.{list_any}
use Rattle.std.proofs.lemmas.Bool.{eqb-true, eq-eqb, and_parts, true≢false}
use Rattle.vx_flow.specs.declared.graph.Op.TheVariants.{Across}
use Rattle.vx_flow.specs.declared.trace.TraceOp.{TraceOp}
use Rattle.vx_flow.specs.declared.trace.TraceOp.TheVariants.{Plain}
use Rattle.vx_flow.specs.declared.trace.Trace.{Trace}
use Rattle.vx_flow.specs.Effects.{IsIn}
use Rattle.vx_linear.specs.Followed.{is_join}
use Rattle.vx_dep.specs.Delays.{writes_of}
use Rattle.vx_bug.specs.declared.served.Served.{Served}
use Rattle.vx_bug.specs.Clusters.{general_reads}
use Rattle.vx_bug.specs.Copies.{copy_of, is_away, reads_copies, is_served, serve, copied_for, renamed_op, here, Standing, across, with_its_copies, served_behind, pieces_from, pieces_of, joined}
use Rattle.vx_bug.specs.Ledgers.{placed}
use Rattle.vx_bug.specs.Laying.{standing, with_copy, served_at}
use Rattle.vx_bug.proofs.Listing.{in_append, append_in_left, append_in_right}
use Rattle.vx_bug.proofs.Housed.{Makes, Leaves, either}
use Rattle.vx_region.proofs.Lists.{entry, in_filter, copied_in, served_now}

-- a number is that of a copy that is made, or of none

pub record IsMadeIn (values : ℕ) (ss : List Standing) (u : ℕ) : Type 0 where
  pub value : ℕ
  pub cluster : ℕ
  pub member : IsIn (across values cluster value) ss
  pub number : u ≡ copy_of values value cluster

abbrev pub IsNone : ℕ → List Standing → ℕ → Type 0
IsNone values ss u = (v k : ℕ) → IsIn (across values k v) ss → u ≡ copy_of values v k → ⊥

abbrev no_homes : ℕ → Option ℕ
no_homes u = None

made_standing : (values : ℕ) (s : Standing) (m : Makes values no_homes s.fixed s.op s.cluster) → across values s.cluster m.from ≡ s
made_standing values s m = ap (λ o. standing o s.cluster None) (sym m.is) ∙ ap (λ f. standing s.op s.cluster f) (sym m.none)

given_there : (values v k : ℕ) → with_copy values no_homes None (Plain (Across (copy_of values v k) v)) k (copy_of values v k) ≡ Some k
given_there values v k =
    let same : (copy_of values v k == copy_of values v k) ≡ true = eq-eqb (copy_of values v k) (copy_of values v k) refl in
    ap (λ b. (if b then placed k no_homes (copy_of values v k) else no_homes) (copy_of values v k)) same ∙ ap (λ b. if b then Some k else None) same

leaves_none : (values : ℕ) (s : Standing) → Leaves values no_homes s.fixed s.op s.cluster → (v k : ℕ) → across values k v ≡ s → ⊥
leaves_none values s l v k e =
    let f : Some k ≡ None = sym (given_there values v k) ∙ ap (λ (x : Standing). with_copy values no_homes x.fixed x.op x.cluster (copy_of values v k)) e ∙ l (copy_of values v k) in
    cc

one_copy : (values : ℕ) (s : Standing) (m : Makes values no_homes s.fixed s.op s.cluster) (v k : ℕ) → across values k v ≡ s → copy_of values v k ≡ copy_of values m.from s.cluster
one_copy values s m v k e =
    let c : k ≡ s.cluster = ap (λ (x : Standing). x.cluster) e in
    let f : Plain (Across (copy_of values v k) v) ≡ Plain (Across (copy_of values m.from s.cluster) m.from) = ap (λ (x : Standing). x.op) e ∙ m.is in
    let g : v ≡ m.from = cc in
    ap (λ x. copy_of values v x) c ∙ ap (λ x. copy_of values x s.cluster) g

first_of : (values : ℕ) (s : Standing) (u : ℕ) → IsMadeIn values (s ∷ []) u ⊎ IsNone values (s ∷ []) u
first_of values s u = ⊎_elim
    (λ (m : Makes values no_homes s.fixed s.op s.cluster). by m (u == copy_of values m.from s.cluster) refl)
    (λ (l : Leaves values no_homes s.fixed s.op s.cluster). inr (λ v k h e. ⊎_elim (λ q. leaves_none values s l v k q) (λ z. z) h))
    (either values no_homes s.fixed s.op s.cluster)
  where
    by : (m : Makes values no_homes s.fixed s.op s.cluster) (b : Bool) → (u == copy_of values m.from s.cluster) ≡ b → IsMadeIn values (s ∷ []) u ⊎ IsNone values (s ∷ []) u
    by m true q = inl (record { value = m.from; cluster = s.cluster; member = inl (made_standing values s m); number = eqb-true u (copy_of values m.from s.cluster) q })
    by m false q = inr (λ v k h e. ⊎_elim (λ i. true≢false (sym (eq-eqb u (copy_of values m.from s.cluster) (e ∙ one_copy values s m v k i)) ∙ q)) (λ z. z) h)

pub made_or_none : (values : ℕ) (ss : List Standing) (u : ℕ) → IsMadeIn values ss u ⊎ IsNone values ss u
made_or_none values [] u = inr (λ v k h e. h)
made_or_none values (s ∷ ss) u = ⊎_elim
    (λ (a : IsMadeIn values (s ∷ []) u). inl (record { value = a.value; cluster = a.cluster; member = ⊎_elim (λ q. inl q) (λ z. absurd z) a.member; number = a.number }))
    (λ (a : IsNone values (s ∷ []) u). ⊎_elim
    (λ (b : IsMadeIn values ss u). inl (record { value = b.value; cluster = b.cluster; member = inr b.member; number = b.number }))
    (λ (b : IsNone values ss u). inr (λ v k h e. ⊎_elim (λ q. a v k (inl q) e) (λ i. b v k i e) h))
    (made_or_none values ss u))
    (first_of values s u)

-- what stands for an operation, where all copies are made that serve it

abbrev Covers : ℕ → List Served → List Standing → Type 0
Covers values served all = (e : Served) → IsIn e served → IsIn (across values e.cluster e.value) all

pub record IsCopy (values : ℕ) (homes : ℕ → Option ℕ) (op : TraceOp) (cluster : ℕ) (fixed : Option ℕ) (s : Standing) : Type 0 where
  pub reading : reads_copies fixed op ≡ true
  pub value : ℕ
  pub is_read : IsIn value (general_reads op)
  pub away : is_away (homes value) cluster ≡ true
  pub is : s ≡ across values cluster value

pub record IsRenamed (values : ℕ) (homes : ℕ → Option ℕ) (op : TraceOp) (cluster : ℕ) (fixed : Option ℕ) (all : List Standing) (s : Standing) : Type 0 where
  pub reading : reads_copies fixed op ≡ true
  pub made : (v : ℕ) → IsIn v (general_reads op) → is_away (homes v) cluster ≡ true → IsIn (across values cluster v) all
  pub is : s ≡ standing (renamed_op (here values homes cluster) op) cluster fixed

pub record IsItself (op : TraceOp) (cluster : ℕ) (fixed : Option ℕ) (s : Standing) : Type 0 where
  pub reading : reads_copies fixed op ≡ false
  pub is : s ≡ standing op cluster fixed

abbrev pub Ground : (values : ℕ) → (homes : ℕ → Option ℕ) → TraceOp → (cluster : ℕ) → (fixed : Option ℕ) → List Standing → Standing → Type 0
Ground values homes op cluster fixed all s = IsCopy values homes op cluster fixed s ⊎ (IsRenamed values homes op cluster fixed all s ⊎ IsItself op cluster fixed s)

copied_away : (homes : ℕ → Option ℕ) (cluster : ℕ) (served : List Served) (vs : List ℕ) (x : ℕ) → IsIn x (copied_for homes cluster served vs) → is_away (homes x) cluster ≡ true
copied_away homes cluster served [] x h = absurd h
copied_away homes cluster served (v ∷ vs) x h = by (is_away (homes v) cluster && not (is_served served v cluster)) refl (copied_away homes cluster (entry v cluster ∷ served) vs x) (copied_away homes cluster served vs x)
  where
    by : (b : Bool) → (is_away (homes v) cluster && not (is_served served v cluster)) ≡ b → (IsIn x (copied_for homes cluster (entry v cluster ∷ served) vs) → is_away (homes x) cluster ≡ true)
        → (IsIn x (copied_for homes cluster served vs) → is_away (homes x) cluster ≡ true) → is_away (homes x) cluster ≡ true
    by true e one two = ⊎_elim
        (λ q. ap (λ u. is_away (homes u) cluster) q ∙ (and_parts (is_away (homes v) cluster) (not (is_served served v cluster)) e).0)
        one
        (subst (λ b. IsIn x (if b then v ∷ copied_for homes cluster (entry v cluster ∷ served) vs else copied_for homes cluster served vs)) e h)
    by false e one two = two (subst (λ b. IsIn x (if b then v ∷ copied_for homes cluster (entry v cluster ∷ served) vs else copied_for homes cluster served vs)) e h)

-- members of the lists of copies

record IsAcross (values cluster : ℕ) (vs : List ℕ) (s : Standing) : Type 0 where
  value : ℕ
  member : IsIn value vs
  is : s ≡ across values cluster value

in_copies : (values cluster : ℕ) (vs : List ℕ) (s : Standing) → IsIn s (map (across values cluster) vs) → IsAcross values cluster vs s
in_copies values cluster [] s h = absurd h
in_copies values cluster (v ∷ vs) s h = ⊎_elim
    (λ e. record { value = v; member = inl refl; is = e })
    (λ i. let r = in_copies values cluster vs s i in record { value = r.value; member = inr r.member; is = r.is })
    h

copies_have : (values cluster : ℕ) (vs : List ℕ) (v : ℕ) → IsIn v vs → IsIn (across values cluster v) (map (across values cluster) vs)
copies_have values cluster [] v h = absurd h
copies_have values cluster (u ∷ us) v h = ⊎_elim (λ e. inl (ap (across values cluster) e)) (λ i. inr (copies_have values cluster us v i)) h

record IsServe (cluster : ℕ) (vs : List ℕ) (e : Served) : Type 0 where
  value : ℕ
  member : IsIn value vs
  is : e ≡ entry value cluster

in_serve : (cluster : ℕ) (vs : List ℕ) (e : Served) → IsIn e (serve cluster vs) → IsServe cluster vs e
in_serve cluster [] e h = absurd h
in_serve cluster (v ∷ vs) e h = ⊎_elim
    (λ q. record { value = v; member = inl refl; is = q })
    (λ i. let r = in_serve cluster vs e i in record { value = r.value; member = inr r.member; is = r.is })
    h

-- one piece

abbrev piece_by : (values : ℕ) → (homes : ℕ → Option ℕ) → List Served → TraceOp → (cluster : ℕ) → (fixed : Option ℕ) → Bool → List Standing
piece_by values homes served op cluster fixed b =
    if b then map (across values cluster) (copied_for homes cluster served (general_reads op)) ++ standing (renamed_op (here values homes cluster) op) cluster fixed ∷ [] else standing op cluster fixed ∷ []

abbrev serving_by : (homes : ℕ → Option ℕ) → List Served → TraceOp → (cluster : ℕ) → Bool → List Served
serving_by homes served op cluster b = if b then serve cluster (copied_for homes cluster served (general_reads op)) ++ served else served

covers_with : (values : ℕ) (homes : ℕ → Option ℕ) (served : List Served) (op : TraceOp) (cluster : ℕ) (fixed : Option ℕ) (all : List Standing) (b : Bool) →
    Covers values served all → ((s : Standing) → IsIn s (piece_by values homes served op cluster fixed b) → IsIn s all) → Covers values (serving_by homes served op cluster b) all
covers_with values homes served op cluster fixed all true c p e h = ⊎_elim
    (λ i. let r = in_serve cluster (copied_for homes cluster served (general_reads op)) e i in
    subst (λ (d : Served). IsIn (across values d.cluster d.value) all) (sym r.is)
    (p (across values cluster r.value) (append_in_left (across values cluster r.value) (map (across values cluster) (copied_for homes cluster served (general_reads op))) (standing (renamed_op (here values homes cluster) op) cluster fixed ∷ [])
    (copies_have values cluster (copied_for homes cluster served (general_reads op)) r.value r.member))))
    (λ i. c e i)
    (in_append e (serve cluster (copied_for homes cluster served (general_reads op))) served h)
covers_with values homes served op cluster fixed all false c p e h = c e h

covers_behind : (values : ℕ) (homes : ℕ → Option ℕ) (served : List Served) (op : TraceOp) (cluster : ℕ) (fixed : Option ℕ) (all : List Standing) →
    Covers values served all → ((s : Standing) → IsIn s (with_its_copies values homes served op cluster fixed) → IsIn s all) → Covers values (served_behind homes served op cluster fixed) all
covers_behind values homes served op cluster fixed all c p e h =
    let f = in_filter (λ (s : Served). not (list_any (nat_eq s.value) (writes_of op))) e (serving_by homes served op cluster (reads_copies fixed op)) h in
    covers_with values homes served op cluster fixed all (reads_copies fixed op) c p e f.0

covers_at : (values : ℕ) (served : List Served) (all : List Standing) (b : Bool) → Covers values served all → Covers values (if b then [] else served) all
covers_at values served all true c e h = absurd h
covers_at values served all false c e h = c e h

piece_ground : (values : ℕ) (homes : ℕ → Option ℕ) (served : List Served) (op : TraceOp) (cluster : ℕ) (fixed : Option ℕ) (all : List Standing) (s : Standing) (b : Bool) → reads_copies fixed op ≡ b →
    Covers values (serving_by homes served op cluster b) all → IsIn s (piece_by values homes served op cluster fixed b) → Ground values homes op cluster fixed all s
piece_ground values homes served op cluster fixed all s true e c h = ⊎_elim
    (λ i. let r = in_copies values cluster (copied_for homes cluster served (general_reads op)) s i in
    inl (record { reading = e; value = r.value; is_read = copied_in homes cluster served (general_reads op) r.value r.member; away = copied_away homes cluster served (general_reads op) r.value r.member; is = r.is }))
    (λ i. ⊎_elim
    (λ q. inr (inl (record { reading = e; made = λ v m a. c (entry v cluster) (served_now homes cluster served (general_reads op) v m a); is = q })))
    (λ z. absurd z) i)
    (in_append s (map (across values cluster) (copied_for homes cluster served (general_reads op))) (standing (renamed_op (here values homes cluster) op) cluster fixed ∷ []) h)
piece_ground values homes served op cluster fixed all s false e c h = ⊎_elim (λ q. inr (inr (record { reading = e; is = q }))) (λ z. absurd z) h

-- all pieces

pub record Grounded (t : Trace) (homes : ℕ → Option ℕ) (ops : List TraceOp) (clusters : List ℕ) (fixed : List (Option ℕ)) (all : List Standing) (s : Standing) : Type 0 where
  pub place : ℕ
  pub op : TraceOp
  pub stands : slice_get ops place ≡ Some op
  pub ground : Ground t.values homes op (slice_index_or clusters place 0) (slice_index_or fixed place None) all s

from_ground : (t : Trace) (homes : ℕ → Option ℕ) (all : List Standing) (i : ℕ) (served : List Served) (ops : List TraceOp) (clusters : List ℕ) (fixed : List (Option ℕ)) → Covers t.values (served_at t i served) all →
    ((s : Standing) → IsIn s (joined (pieces_from t homes i served ops clusters fixed)) → IsIn s all) →
    (s : Standing) → IsIn s (joined (pieces_from t homes i served ops clusters fixed)) → Grounded t homes ops clusters fixed all s
from_ground t homes all i served [] clusters fixed c p s h = absurd h
from_ground t homes all i served (op ∷ ops) [] fixed c p s h = absurd h
from_ground t homes all i served (op ∷ ops) (k ∷ clusters) [] c p s h = absurd h
from_ground t homes all i served (op ∷ ops) (k ∷ clusters) (f ∷ fixed) c p s h =
    let now : List Served = served_at t i served in
    let next : List Served = served_behind homes now op k f in
    let piece : List Standing = with_its_copies t.values homes now op k f in
    let rest : List Standing = joined (pieces_from t homes (i + 1) next ops clusters fixed) in
    let in_piece : (x : Standing) → IsIn x piece → IsIn x all = λ x q. p x (append_in_left x piece rest q) in
    ⊎_elim
    (λ q. record { place = 0; op = op; stands = refl; ground = piece_ground t.values homes now op k f all s (reads_copies f op) refl (covers_with t.values homes now op k f all (reads_copies f op) c in_piece) q })
    (λ q.
    let g = from_ground t homes all (i + 1) next ops clusters fixed (covers_at t.values next all (is_join t (i + 1)) (covers_behind t.values homes now op k f all c in_piece)) (λ x y. p x (append_in_right x piece rest y)) s q in
    record { place = suc g.place; op = g.op; stands = g.stands; ground = g.ground })
    (in_append s piece rest h)

pub pieces_ground : (t : Trace) (homes : ℕ → Option ℕ) (chosen : List ℕ) (s : Standing) → IsIn s (joined (pieces_of t homes chosen)) → Grounded t homes t.ops chosen t.fixed (joined (pieces_of t homes chosen)) s
pieces_ground t homes chosen s h = from_ground t homes (joined (pieces_of t homes chosen)) 0 [] t.ops chosen t.fixed (covers_at t.values [] (joined (pieces_of t homes chosen)) (is_join t 0) (λ e i. absurd i)) (λ x i. i) s h
