-- What is asked of a trace, from what its places keep.
use Rattle.std.proofs.Common.{◌≡◌, refl, sym, subst, arith, Bool, true, false, if◌then◌else◌, ℕ, zero, suc, ◌+◌, ◌*◌, ◌≤◌, Option, Some, None, List, [], ◌∷◌, length, slice_get, slice_index_or}
use Rattle.vx_flow.specs.declared.graph.Edge.{Edge}
use Rattle.vx_flow.specs.declared.trace.TraceOp.{TraceOp}
use Rattle.vx_flow.specs.declared.trace.Trace.{Trace}
use Rattle.vx_flow.specs.Effects.{IsIn}
use Rattle.vx_mixed.specs.Alive.{AtEnd}
use Rattle.vx_bug.specs.declared.served.Served.{Served}
use Rattle.vx_bug.specs.Clusters.{general_reads}
use Rattle.vx_bug.specs.Copies.{copy_of, reads_copies, copied_for, served_behind}
use Rattle.vx_bug.specs.Laying.{served_at}
use Rattle.vx_region.specs.Beside.{copied_from, CopiesFit}
use Rattle.vx_region.specs.Ways.{live_in, TracesTidily, FitsLaw}
use Rattle.vx_region.proofs.Lists.{copied_in, general_in_reads}

-- a copy is made for an operation that has no cluster yet and reads the value
record Copied (ops : List TraceOp) (fixed : List (Option ℕ)) (i v : ℕ) : Type 0 where
  op : TraceOp
  stands : slice_get ops i ≡ Some op
  is_free : slice_index_or fixed i None ≡ None
  is_read : IsIn v (general_reads op)

reading : (f : Option ℕ) (op : TraceOp) → reads_copies f op ≡ true → f ≡ None
reading None op e = refl
reading (Some k) op e = let h : false ≡ true = e in absurd cc

copied_at : (t : Trace) (homes : ℕ → Option ℕ) (n : ℕ) (served : List Served) (ops : List TraceOp) (chosen : List ℕ) (fixed : List (Option ℕ)) (i : ℕ) (vs : List ℕ) (v : ℕ) →
    slice_get (copied_from t homes n served ops chosen fixed) i ≡ Some vs → IsIn v vs → Copied ops fixed i v
copied_at t homes n served [] chosen fixed i vs v e m = absurd cc
copied_at t homes n served (op ∷ ops) [] fixed i vs v e m = absurd cc
copied_at t homes n served (op ∷ ops) (k ∷ chosen) [] i vs v e m = absurd cc
copied_at t homes n served (op ∷ ops) (k ∷ chosen) (f ∷ fixed) zero vs v e m =
    let q : (if reads_copies f op then copied_for homes k (served_at t n served) (general_reads op) else []) ≡ vs = cc in
    by (reads_copies f op) refl (subst (λ z. IsIn v z) (sym q) m)
  where
    by : (b : Bool) → reads_copies f op ≡ b → IsIn v (if b then copied_for homes k (served_at t n served) (general_reads op) else []) → Copied (op ∷ ops) (f ∷ fixed) zero v
    by true r h = record { op = op; stands = refl; is_free = reading f op r; is_read = copied_in homes k (served_at t n served) (general_reads op) v h }
    by false r h = absurd h
copied_at t homes n served (op ∷ ops) (k ∷ chosen) (f ∷ fixed) (suc i) vs v e m =
    let c = copied_at t homes (n + 1) (served_behind homes (served_at t n served) op k f) ops chosen fixed i vs v e m in
    record { op = c.op; stands = c.stands; is_free = c.is_free; is_read = c.is_read }

pub fits : (lives : Edge → List ℕ → ℕ → Type 0) (end : ℕ → Type 0) (t : Trace) (homes : ℕ → Option ℕ) (chosen : List ℕ) → TracesTidily t lives end → length chosen ≡ length t.ops →
    CopiesFit t.values t.ops chosen t.fixed (copied_from t homes 0 [] t.ops chosen t.fixed) lives end
fits lives end t homes chosen T e = record {
  each_fixed = T.well_formed.each_fixed;
  each_chosen = e;
  reads = λ i vs v g m. let c = copied_at t homes 0 [] t.ops chosen t.fixed i vs v g m in T.values_there.reads i c.op v c.stands c.is_free (general_in_reads c.op v c.is_read);
  writes = λ i op u s m. T.writes i op u s m;
  free = λ i k vs v g h m w. let c = copied_at t homes 0 [] t.ops chosen t.fixed i vs v g m in T.none_wanted i c.op v (copy_of t.values v k) c.stands c.is_free c.is_read (values_first t.values v k) w;
}
  where
    values_first : (values v k : ℕ) → values ≤ copy_of values v k
    values_first values v k = let e : copy_of values v k ≡ k * values + values + v = omega arith in omega (arith, e)

pub fits_law : FitsLaw
fits_law t homes chosen old exit T e = fits (live_in old) (AtEnd old exit) t homes chosen T e
