-- Where what stands in a clustered trace comes from: a copy of a value on another cluster, or an operation of the trace.
use Rattle.std.proofs.Common.{◌≡◌, ◌+◌, ◌⊎◌, inl, inr, ⊎_elim, ◌&&◌, not, refl, ◌∙◌, ap, subst, Bool, true, false, if◌then◌else◌, ℕ, zero, suc, Option, Some, None, List, [], ◌∷◌, ◌++◌, map, slice_get, slice_index_or}
use Rattle.std.proofs.lemmas.Bool.{and_parts}
use Rattle.vx_flow.specs.declared.trace.TraceOp.{TraceOp}
use Rattle.vx_flow.specs.declared.trace.Trace.{Trace}
use Rattle.vx_flow.specs.Effects.{IsIn}
use Rattle.vx_bug.specs.declared.served.Served.{Served}
use Rattle.vx_bug.specs.Clusters.{general_reads}
use Rattle.vx_bug.specs.Copies.{is_away, reads_copies, is_served, copied_for, renamed_op, here, Standing, across, with_its_copies, served_behind, pieces_from, pieces_of, joined}
use Rattle.vx_bug.specs.Laying.{standing, served_at}
use Rattle.vx_bug.proofs.Listing.{in_append}

-- one operation

pub record IsCopy (values : ℕ) (homes : ℕ → Option ℕ) (cluster : ℕ) (s : Standing) : Type 0 where
  pub value : ℕ
  pub home : ℕ
  pub is : s ≡ across values cluster value
  pub stands : homes value ≡ Some home

pub record IsRenamed (values : ℕ) (homes : ℕ → Option ℕ) (op : TraceOp) (cluster : ℕ) (fixed : Option ℕ) (s : Standing) : Type 0 where
  pub reading : reads_copies fixed op ≡ true
  pub is : s ≡ standing (renamed_op (here values homes cluster) op) cluster fixed

pub record IsItself (op : TraceOp) (cluster : ℕ) (fixed : Option ℕ) (s : Standing) : Type 0 where
  pub is : s ≡ standing op cluster fixed

abbrev pub Ground : (values : ℕ) → (homes : ℕ → Option ℕ) → TraceOp → (cluster : ℕ) → (fixed : Option ℕ) → Standing → Type 0
Ground values homes op cluster fixed s = IsCopy values homes cluster s ⊎ (IsRenamed values homes op cluster fixed s ⊎ IsItself op cluster fixed s)

away_has : (o : Option ℕ) (cluster : ℕ) → is_away o cluster ≡ true → (h : ℕ) × (o ≡ Some h)
away_has None cluster e = absurd cc
away_has (Some h) cluster e = (h, refl)

copied_away : (homes : ℕ → Option ℕ) (cluster : ℕ) (served : List Served) (vs : List ℕ) (x : ℕ) → IsIn x (copied_for homes cluster served vs) → is_away (homes x) cluster ≡ true
copied_away homes cluster served [] x h = absurd h
copied_away homes cluster served (v ∷ vs) x h = by (is_away (homes v) cluster && not (is_served served v cluster)) refl (copied_away homes cluster (record { value = v; cluster = cluster } ∷ served) vs x) (copied_away homes cluster served vs x)
  where
    by : (b : Bool) → (is_away (homes v) cluster && not (is_served served v cluster)) ≡ b → (IsIn x (copied_for homes cluster (record { value = v; cluster = cluster } ∷ served) vs) → is_away (homes x) cluster ≡ true)
        → (IsIn x (copied_for homes cluster served vs) → is_away (homes x) cluster ≡ true) → is_away (homes x) cluster ≡ true
    by true e one two = ⊎_elim
        (λ q. ap (λ u. is_away (homes u) cluster) q ∙ (and_parts (is_away (homes v) cluster) (not (is_served served v cluster)) e).0)
        one
        (subst (λ b. IsIn x (if b then v ∷ copied_for homes cluster (record { value = v; cluster = cluster } ∷ served) vs else copied_for homes cluster served vs)) e h)
    by false e one two = two (subst (λ b. IsIn x (if b then v ∷ copied_for homes cluster (record { value = v; cluster = cluster } ∷ served) vs else copied_for homes cluster served vs)) e h)

copies_ground : (values : ℕ) (homes : ℕ → Option ℕ) (cluster : ℕ) (vs : List ℕ) (s : Standing) → ((x : ℕ) → IsIn x vs → is_away (homes x) cluster ≡ true) → IsIn s (map (across values cluster) vs) → IsCopy values homes cluster s
copies_ground values homes cluster [] s all h = absurd h
copies_ground values homes cluster (v ∷ vs) s all h = ⊎_elim
    (λ e. let p = away_has (homes v) cluster (all v (inl refl)) in record { value = v; home = p.0; is = e; stands = p.1 })
    (λ i. copies_ground values homes cluster vs s (λ x k. all x (inr k)) i)
    h

piece_ground_by : (values : ℕ) (homes : ℕ → Option ℕ) (served : List Served) (op : TraceOp) (cluster : ℕ) (fixed : Option ℕ) (s : Standing) (b : Bool) → reads_copies fixed op ≡ b →
    IsIn s (if b then map (across values cluster) (copied_for homes cluster served (general_reads op)) ++ standing (renamed_op (here values homes cluster) op) cluster fixed ∷ [] else standing op cluster fixed ∷ []) →
    Ground values homes op cluster fixed s
piece_ground_by values homes served op cluster fixed s true e h = ⊎_elim
    (λ i. inl (copies_ground values homes cluster (copied_for homes cluster served (general_reads op)) s (λ x k. copied_away homes cluster served (general_reads op) x k) i))
    (λ i. ⊎_elim (λ q. inr (inl (record { reading = e; is = q }))) (λ z. absurd z) i)
    (in_append s (map (across values cluster) (copied_for homes cluster served (general_reads op))) (standing (renamed_op (here values homes cluster) op) cluster fixed ∷ []) h)
piece_ground_by values homes served op cluster fixed s false e h = ⊎_elim (λ q. inr (inr (record { is = q }))) (λ z. absurd z) h

-- all operations

pub record Grounded (t : Trace) (homes : ℕ → Option ℕ) (ops : List TraceOp) (clusters : List ℕ) (fixed : List (Option ℕ)) (s : Standing) : Type 0 where
  pub place : ℕ
  pub op : TraceOp
  pub stands : slice_get ops place ≡ Some op
  pub ground : Ground t.values homes op (slice_index_or clusters place 0) (slice_index_or fixed place None) s

from_ground : (t : Trace) (homes : ℕ → Option ℕ) (i : ℕ) (served : List Served) (ops : List TraceOp) (clusters : List ℕ) (fixed : List (Option ℕ)) (s : Standing) → IsIn s (joined (pieces_from t homes i served ops clusters fixed)) → Grounded t homes ops clusters fixed s
from_ground t homes i served [] clusters fixed s h = absurd h
from_ground t homes i served (op ∷ ops) [] fixed s h = absurd h
from_ground t homes i served (op ∷ ops) (k ∷ clusters) [] s h = absurd h
from_ground t homes i served (op ∷ ops) (k ∷ clusters) (f ∷ fixed) s h = ⊎_elim
    (λ p. record { place = 0; op = op; stands = refl; ground = piece_ground_by t.values homes (served_at t i served) op k f s (reads_copies f op) refl p })
    (λ p. let g = from_ground t homes (i + 1) (served_behind homes (served_at t i served) op k f) ops clusters fixed s p in record { place = suc g.place; op = g.op; stands = g.stands; ground = g.ground })
    (in_append s (with_its_copies t.values homes (served_at t i served) op k f) (joined (pieces_from t homes (i + 1) (served_behind homes (served_at t i served) op k f) ops clusters fixed)) h)

pub pieces_ground : (t : Trace) (homes : ℕ → Option ℕ) (chosen : List ℕ) (s : Standing) → IsIn s (joined (pieces_of t homes chosen)) → Grounded t homes t.ops chosen t.fixed s
pieces_ground t homes chosen s h = from_ground t homes 0 [] t.ops chosen t.fixed s h

-- an entry of the clustered trace

pub record Entry (ss : List Standing) (i : ℕ) (op : TraceOp) : Type 0 where
  pub standing_there : Standing
  pub member : IsIn standing_there ss
  pub op_is : op ≡ standing_there.op
  pub cluster_is : slice_index_or (map (λ (s : Standing). s.cluster) ss) i 0 ≡ standing_there.cluster

pub entry : (ss : List Standing) (i : ℕ) (op : TraceOp) → slice_get (map (λ (s : Standing). s.op) ss) i ≡ Some op → Entry ss i op
entry [] i op e = absurd cc
entry (s ∷ ss) zero op e = let h : op ≡ s.op = cc in record { standing_there = s; member = inl refl; op_is = h; cluster_is = refl }
entry (s ∷ ss) (suc i) op e = let r = entry ss i op e in record { standing_there = r.standing_there; member = inr r.member; op_is = r.op_is; cluster_is = r.cluster_is }
