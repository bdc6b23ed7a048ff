-- Copies are made of values of the function's graph.
use Rattle.std.proofs.Common.{◌≡◌, ◌<◌, ◌+◌, inl, inr, ⊎_elim, ◌&&◌, not, refl, sym, ◌∙◌, ap, subst, Bool, true, false, if◌then◌else◌, ℕ, suc, Option, Some, None, List, [], ◌∷◌, ◌++◌, map, slice_get, slice_index_or}
use Rattle.std.proofs.lemmas.Bool.{true≢false}
use Rattle.vx_flow.specs.declared.graph.Op.TheVariants.{Compute, Select, Place, Load, Store, More, Input, Text, Decimal, Across, Base, PlaceIn}
use Rattle.vx_flow.specs.declared.trace.TraceOp.{TraceOp}
use Rattle.vx_flow.specs.declared.trace.TraceOp.TheVariants.{Plain, Split}
use Rattle.vx_flow.specs.declared.trace.Trace.{Trace}
use Rattle.vx_flow.specs.Effects.{IsIn, reads}
use Rattle.vx_dep.specs.Delays.{reads_of}
use Rattle.vx_bug.specs.declared.served.Served.{Served}
use Rattle.vx_bug.specs.Clusters.{general_reads, is_across}
use Rattle.vx_bug.specs.Copies.{copy_of, is_away, reads_copies, is_served, copied_for, renamed_op, here, Standing, across, with_its_copies, served_behind, pieces_from, pieces_of, joined}
use Rattle.vx_bug.specs.Laying.{standing, served_at}
use Rattle.vx_bug.specs.CanAssign.{ValuesAreThere}
use Rattle.vx_bug.proofs.Listing.{in_append}
use Rattle.vx_bug.proofs.Housed.{Bounded}

-- the values that are copied are read

copied_in : (homes : ℕ → Option ℕ) (cluster : ℕ) (served : List Served) (vs : List ℕ) (x : ℕ) → IsIn x (copied_for homes cluster served vs) → IsIn x vs
copied_in homes cluster served [] x h = absurd h
copied_in homes cluster served (v ∷ vs) x h = by (is_away (homes v) cluster && not (is_served served v cluster)) refl (copied_in homes cluster (record { value = v; cluster = cluster } ∷ served) vs x) (copied_in homes cluster served vs x)
  where
    by : (b : Bool) → (is_away (homes v) cluster && not (is_served served v cluster)) ≡ b → (IsIn x (copied_for homes cluster (record { value = v; cluster = cluster } ∷ served) vs) → IsIn x vs) → (IsIn x (copied_for homes cluster served vs) → IsIn x vs) → IsIn x (v ∷ vs)
    by true e one two = ⊎_elim (λ q. inl q) (λ i. inr (one i)) (subst (λ b. IsIn x (if b then v ∷ copied_for homes cluster (record { value = v; cluster = cluster } ∷ served) vs else copied_for homes cluster served vs)) e h)
    by false e one two = inr (two (subst (λ b. IsIn x (if b then v ∷ copied_for homes cluster (record { value = v; cluster = cluster } ∷ served) vs else copied_for homes cluster served vs)) e h))

general_in : (op : TraceOp) (x : ℕ) → IsIn x (general_reads op) → IsIn x (reads_of op)
general_in (Split test leaves_when edge live) x h = absurd h
general_in (Plain (Select v test a b)) x h = inr h
general_in (Plain (Compute code v a b)) x h = h
general_in (Plain (Place v a i)) x h = h
general_in (Plain (Load v a p dismissible)) x h = h
general_in (Plain (Store a p y)) x h = h
general_in (Plain (More v)) x h = h
general_in (Plain (Input v)) x h = h
general_in (Plain (Text n)) x h = h
general_in (Plain (Decimal y)) x h = h
general_in (Plain (Across v u)) x h = h
general_in (Plain (Base v a y)) x h = h
general_in (Plain (PlaceIn v a u i)) x h = h

across_in : (values k : ℕ) (vs : List ℕ) (l v : ℕ) → IsIn (across values l v) (map (across values k) vs) → IsIn v vs
across_in values k [] l v h = absurd h
across_in values k (u ∷ us) l v h = ⊎_elim (λ e. let q : v ≡ u = the_value e in inl q) (λ i. inr (across_in values k us l v i)) h
  where
    the_value : across values l v ≡ across values k u → v ≡ u
    the_value e = let f : Plain (Across (copy_of values v l) v) ≡ Plain (Across (copy_of values u k) u) = ap (λ (s : Standing). s.op) e in cc

-- an operation with other operands is no copy across where it was none

pub stays : (to : ℕ → ℕ) (op : TraceOp) → is_across (renamed_op to op) ≡ is_across op
stays to (Split test leaves_when edge live) = refl
stays to (Plain (Compute code v a b)) = refl
stays to (Plain (Select v test a b)) = refl
stays to (Plain (Place v a i)) = refl
stays to (Plain (Load v a p dismissible)) = refl
stays to (Plain (Store a p x)) = refl
stays to (Plain (More v)) = refl
stays to (Plain (Input v)) = refl
stays to (Plain (Text n)) = refl
stays to (Plain (Decimal x)) = refl
stays to (Plain (Across v u)) = refl
stays to (Plain (Base v a x)) = refl
stays to (Plain (PlaceIn v a u i)) = refl

pub reading_is_none : (fixed : Option ℕ) (op : TraceOp) → reads_copies fixed op ≡ true → (fixed ≡ None) × (is_across op ≡ false)
reading_is_none (Some f) op e = absurd cc
reading_is_none None (Split test leaves_when edge live) e = (refl, refl)
reading_is_none None (Plain (Compute code v a b)) e = (refl, refl)
reading_is_none None (Plain (Select v test a b)) e = (refl, refl)
reading_is_none None (Plain (Place v a i)) e = (refl, refl)
reading_is_none None (Plain (Load v a p dismissible)) e = (refl, refl)
reading_is_none None (Plain (Store a p x)) e = (refl, refl)
reading_is_none None (Plain (More v)) e = (refl, refl)
reading_is_none None (Plain (Input v)) e = (refl, refl)
reading_is_none None (Plain (Text n)) e = (refl, refl)
reading_is_none None (Plain (Decimal x)) e = (refl, refl)
reading_is_none None (Plain (Across v u)) e = absurd cc
reading_is_none None (Plain (Base v a x)) e = (refl, refl)
reading_is_none None (Plain (PlaceIn v a u i)) e = (refl, refl)

-- a piece

abbrev Reads : (values : ℕ) → TraceOp → Option ℕ → Type 0
Reads values op fixed = fixed ≡ None → (v : ℕ) → IsIn v (reads_of op) → v < values

abbrev piece_by : (values : ℕ) (homes : ℕ → Option ℕ) (served : List Served) (op : TraceOp) (cluster : ℕ) (fixed : Option ℕ) → Bool → List Standing
piece_by values homes served op cluster fixed b =
    if b then map (across values cluster) (copied_for homes cluster served (general_reads op)) ++ standing (renamed_op (here values homes cluster) op) cluster fixed ∷ [] else standing op cluster fixed ∷ []

piece_bounded_by : (values : ℕ) (homes : ℕ → Option ℕ) (served : List Served) (op : TraceOp) (cluster : ℕ) (fixed : Option ℕ) → Reads values op fixed → (v k : ℕ) → (b : Bool) → reads_copies fixed op ≡ b →
    IsIn (across values k v) (piece_by values homes served op cluster fixed b) → v < values
piece_bounded_by values homes served op cluster fixed reads v k true e h =
    let r = reading_is_none fixed op e in
    let no = r.0 in
    let other = r.1 in
    ⊎_elim
    (λ i. reads no v (general_in op v (copied_in homes cluster served (general_reads op) v (across_in values cluster (copied_for homes cluster served (general_reads op)) k v i))))
    (λ i. ⊎_elim
    (λ q. let f : Plain (Across (copy_of values v k) v) ≡ renamed_op (here values homes cluster) op = ap (λ (s : Standing). s.op) q in
    let g : true ≡ false = ap is_across f ∙ stays (here values homes cluster) op ∙ other in absurd (true≢false g))
    (λ n. absurd n) i)
    (in_append (across values k v) (map (across values cluster) (copied_for homes cluster served (general_reads op))) (standing (renamed_op (here values homes cluster) op) cluster fixed ∷ []) h)
piece_bounded_by values homes served op cluster fixed reads v k false e h = ⊎_elim
    (λ q. let f : Plain (Across (copy_of values v k) v) ≡ op = ap (λ (s : Standing). s.op) q in
    let no : fixed ≡ None = sym (ap (λ (s : Standing). s.fixed) q) in
    reads no v (subst (λ o. IsIn v (reads_of o)) f (inl refl)))
    (λ n. absurd n)
    h

piece_bounded : (values : ℕ) (homes : ℕ → Option ℕ) (served : List Served) (op : TraceOp) (cluster : ℕ) (fixed : Option ℕ) → Reads values op fixed → (v k : ℕ) → IsIn (across values k v) (with_its_copies values homes served op cluster fixed) → v < values
piece_bounded values homes served op cluster fixed reads v k h = piece_bounded_by values homes served op cluster fixed reads v k (reads_copies fixed op) refl h

-- all pieces

pub record AllReads (values : ℕ) (ops : List TraceOp) (fixed : List (Option ℕ)) : Type 0 where
  pub each : (j : ℕ) (op : TraceOp) → slice_get ops j ≡ Some op → Reads values op (slice_index_or fixed j None)

from_bounded : (t : Trace) (homes : ℕ → Option ℕ) (i : ℕ) (served : List Served) (ops : List TraceOp) (clusters : List ℕ) (fixed : List (Option ℕ)) → AllReads t.values ops fixed →
    (v k : ℕ) → IsIn (across t.values k v) (joined (pieces_from t homes i served ops clusters fixed)) → v < t.values
from_bounded t homes i served [] clusters fixed a v k h = absurd h
from_bounded t homes i served (op ∷ ops) [] fixed a v k h = absurd h
from_bounded t homes i served (op ∷ ops) (c ∷ clusters) [] a v k h = absurd h
from_bounded t homes i served (op ∷ ops) (c ∷ clusters) (f ∷ fixed) a v k h = ⊎_elim
    (λ p. piece_bounded t.values homes (served_at t i served) op c f (a.each 0 op refl) v k p)
    (λ p. from_bounded t homes (i + 1) (served_behind homes (served_at t i served) op c f) ops clusters fixed (record { each = λ j o e. a.each (suc j) o e }) v k p)
    (in_append (across t.values k v) (with_its_copies t.values homes (served_at t i served) op c f) (joined (pieces_from t homes (i + 1) (served_behind homes (served_at t i served) op c f) ops clusters fixed)) h)

pub pieces_bounded : (t : Trace) (homes : ℕ → Option ℕ) (chosen : List ℕ) → ValuesAreThere t → Bounded t.values (joined (pieces_of t homes chosen))
pieces_bounded t homes chosen a = record { below = λ v k h. from_bounded t homes 0 [] t.ops chosen t.fixed (record { each = λ j op e n u i. a.reads j op u e n i }) v k h }
