-- What stands in the clustered trace for one operation: the copies that are needed in front of it, and the operation.
use Rattle.std.proofs.Common.{◌≡◌, ◌<◌, ◌≤◌, ◌+◌, ◌⊎◌, inl, inr, refl, sym, ◌∙◌, ap, arith, subst, Bool, true, false, if◌then◌else◌, ℕ, zero, suc, Option, Some, None, List, [], ◌∷◌, ◌++◌, length, map, slice_get, slice_index_or, get_or}
use Rattle.std.proofs.lemmas.Bool.{true≢false}
use Rattle.std.proofs.lemmas.Option.{slice_get-get_or, slice_get_within, slice_get_cases}
use Rattle.vx_flow.specs.declared.trace.TraceOp.{TraceOp}
use Rattle.vx_flow.specs.declared.trace.Trace.{Trace}
use Rattle.vx_flow.specs.Effects.{IsIn}
use Rattle.vx_dep.specs.Delays.{Stands}
use Rattle.vx_bug.specs.declared.served.Served.{Served}
use Rattle.vx_bug.specs.Clusters.{general_reads}
use Rattle.vx_bug.specs.Copies.{reads_copies, copied_for, renamed_op, here, Standing, across, with_its_copies, served_behind, pieces_from, pieces_of}
use Rattle.vx_bug.specs.Choices.{Apart}
use Rattle.vx_bug.specs.Laying.{standing, served_at}
use Rattle.vx_bug.proofs.Pieces.{rest_at, rest_more, rest_none}
use Rattle.vx_copy_laws.specs.CopyStands.{CopyStands, ReadBefore, with_copies_read}
use Rattle.vx_copy_laws.proofs.CopiedFor.{copied_apart, copied_in_order}
use Rattle.vx_copy_laws.proofs.Serving.{Turn, Knows, at_first, step, made_stands, stands_made}

module _ (t : Trace) (homes : ℕ → Option ℕ) (chosen : List ℕ) where
  abbrev pub had : ℕ → Option ℕ
  had i = slice_index_or t.fixed i None

  -- the operation as it stands
  abbrev pub itself : (i : ℕ) → TraceOp → (k : ℕ) → Standing
  itself i op k = standing (with_copies_read t.values homes k (had i) op) k (had i)

  pub record IsPiece (i : ℕ) (piece : List Standing) : Type 0 where
    pub op : TraceOp
    pub stands : Stands t i op
    pub k : ℕ
    pub takes : slice_get chosen i ≡ Some k
    pub copied : List ℕ
    pub is : piece ≡ map (across t.values k) copied ++ itself i op k ∷ []
    pub each : (v : ℕ) → IsIn v copied → CopyStands t homes chosen i v k
    pub all : (v c : ℕ) → CopyStands t homes chosen i v c → (c ≡ k) × IsIn v copied
    pub apart : Apart copied
    pub ordered : (a b x y : ℕ) → a < b → slice_get copied a ≡ Some x → slice_get copied b ≡ Some y → ReadBefore x y (general_reads op)

  piece_is : (i : ℕ) (op : TraceOp) (k : ℕ) (now : List Served) → Turn t homes chosen i op k (had i) → Knows t homes chosen i now → IsPiece i (with_its_copies t.values homes now op k (had i))
  piece_is i op k now turn knows = by (reads_copies (had i) op) refl
    where
      by : (b : Bool) → reads_copies (had i) op ≡ b → IsPiece i (with_its_copies t.values homes now op k (had i))
      by true e = record {
        op = op;
        stands = turn.stands;
        k = k;
        takes = turn.takes;
        copied = copied_for homes k now (general_reads op);
        is =
            ap (λ b. if b then map (across t.values k) (copied_for homes k now (general_reads op)) ++ standing (renamed_op (here t.values homes k) op) k (had i) ∷ [] else standing op k (had i) ∷ []) e
            ∙ ap (λ b. map (across t.values k) (copied_for homes k now (general_reads op)) ++ standing (if b then renamed_op (here t.values homes k) op else op) k (had i) ∷ []) (sym e);
        each = λ v h. made_stands t homes chosen i op k (had i) now turn knows v e h;
        all = λ v c s. let r = stands_made t homes chosen i op k (had i) now turn knows v c s in (r.0, r.2);
        apart = copied_apart homes k now (general_reads op);
        ordered = λ a b x y l f g. copied_in_order homes k now (general_reads op) a b x y l f g;
      }
      by false e = record {
        op = op;
        stands = turn.stands;
        k = k;
        takes = turn.takes;
        copied = [];
        is =
            ap (λ b. if b then map (across t.values k) (copied_for homes k now (general_reads op)) ++ standing (renamed_op (here t.values homes k) op) k (had i) ∷ [] else standing op k (had i) ∷ []) e
            ∙ ap (λ b. standing (if b then renamed_op (here t.values homes k) op else op) k (had i) ∷ []) (sym e);
        each = λ v h. absurd h;
        all = λ v c s. let r = stands_made t homes chosen i op k (had i) now turn knows v c s in absurd (true≢false (sym r.1 ∙ e));
        apart = tt;
        ordered = λ a b x y l f g. absurd cc;
      }

  -- all of them

  module _ (each_chosen : length chosen ≡ length t.ops) (each_fixed : length t.fixed ≡ length t.ops) where
    abbrev Of : ℕ → ℕ
    Of i = slice_index_or chosen i 0

    turn_of : (i : ℕ) (op : TraceOp) → Stands t i op → Turn t homes chosen i op (Of i) (had i)
    turn_of i op s =
        let inside : i < length t.ops = slice_get_within t.ops i op s in
        let l : i < length chosen = omega (arith, inside, each_chosen) in
        record { stands = s; takes = slice_get-get_or chosen i 0 l; had = refl }

    -- what is laid down from place i on
    abbrev Rest : (i : ℕ) → List Served → List (List Standing)
    Rest i served = rest_at t homes chosen i served

    nothing : (i n : ℕ) (served : List Served) (piece : List Standing) → slice_get t.ops i ≡ None → slice_get (Rest i served) n ≡ Some piece → IsPiece (i + n) piece
    nothing i n served piece o e =
        let past : length t.ops ≤ i = is_past (slice_get_cases t.ops i).1 in
        let f : None ≡ Some piece = sym (ap (λ l. slice_get l n) (rest_none t homes chosen i served past)) ∙ e in
        absurd cc
      where
        is_past : (((x : TraceOp) × (i < length t.ops) × (slice_get t.ops i ≡ Some x) × (get_or t.ops i x ≡ x)) ⊎ ((length t.ops ≤ i) × (slice_get t.ops i ≡ None))) → length t.ops ≤ i
        is_past (inl p) = let f : Some p.0 ≡ None = sym p.2 ∙ o in absurd cc
        is_past (inr p) = p.0

    -- and for the operation there
    abbrev Here : (i : ℕ) → List Served → TraceOp → List Standing
    Here i served op = with_its_copies t.values homes (served_at t i served) op (Of i) (had i)

    -- what serves behind it
    abbrev Behind : (i : ℕ) → List Served → TraceOp → List Served
    Behind i served op = served_behind homes (served_at t i served) op (Of i) (had i)

    rest_is : (n i : ℕ) (served : List Served) (piece : List Standing) → Knows t homes chosen i (served_at t i served) → slice_get (Rest i served) n ≡ Some piece → IsPiece (i + n) piece
    rest_is zero i served piece knows e = by (slice_get t.ops i) refl
      where
        by : (o : Option TraceOp) → slice_get t.ops i ≡ o → IsPiece (i + 0) piece
        by None o = nothing i 0 served piece o e
        by (Some op) o =
            let f : Some (Here i served op) ≡ Some piece = sym (ap (λ l. slice_get l 0) (rest_more t homes chosen i served op each_chosen each_fixed o)) ∙ e in
            let g : Here i served op ≡ piece = cc in
            let z : i ≡ i + 0 = omega arith in
            subst (λ p. IsPiece (i + 0) p) g (subst (λ j. IsPiece j (Here i served op)) z (piece_is i op (Of i) (served_at t i served) (turn_of i op o) knows))
    rest_is (suc m) i served piece knows e = by (slice_get t.ops i) refl (λ behind next f. rest_is m (i + 1) behind piece next f)
      where
        by : (o : Option TraceOp) → slice_get t.ops i ≡ o
            → ((behind : List Served) → Knows t homes chosen (i + 1) (served_at t (i + 1) behind) → slice_get (Rest (i + 1) behind) m ≡ Some piece → IsPiece (i + 1 + m) piece) → IsPiece (i + suc m) piece
        by None o more = nothing i (suc m) served piece o e
        by (Some op) o more =
            let next = step t homes chosen i op (Of i) (had i) (served_at t i served) (turn_of i op o) knows in
            let f : slice_get (Rest (i + 1) (Behind i served op)) m ≡ Some piece = sym (ap (λ l. slice_get l (suc m)) (rest_more t homes chosen i served op each_chosen each_fixed o)) ∙ e in
            let z : i + 1 + m ≡ i + suc m = omega arith in
            subst (λ j. IsPiece j piece) z (more (Behind i served op) next f)

    pub pieces_are : (i : ℕ) (piece : List Standing) → slice_get (pieces_of t homes chosen) i ≡ Some piece → IsPiece i piece
    pieces_are i piece e = let z : 0 + i ≡ i = omega arith in subst (λ j. IsPiece j piece) z (rest_is i 0 [] piece (at_first t homes chosen) e)

-- one for each operation

from_long : (t : Trace) (homes : ℕ → Option ℕ) (i : ℕ) (served : List Served) (ops : List TraceOp) (clusters : List ℕ) (fixed : List (Option ℕ)) → length clusters ≡ length ops → length fixed ≡ length ops →
    length (pieces_from t homes i served ops clusters fixed) ≡ length ops
from_long t homes i served [] clusters fixed e f = refl
from_long t homes i served (op ∷ ops) [] fixed e f = absurd (omega (arith, e))
from_long t homes i served (op ∷ ops) (k ∷ clusters) [] e f = absurd (omega (arith, f))
from_long t homes i served (op ∷ ops) (k ∷ clusters) (h ∷ fixed) e f =
    let r = from_long t homes (i + 1) (served_behind homes (served_at t i served) op k h) ops clusters fixed (omega (arith, e)) (omega (arith, f)) in
    omega (arith, r)

pub pieces_long : (t : Trace) (homes : ℕ → Option ℕ) (chosen : List ℕ) → length chosen ≡ length t.ops → length t.fixed ≡ length t.ops → length (pieces_of t homes chosen) ≡ length t.ops
pieces_long t homes chosen e f = from_long t homes 0 [] t.ops chosen t.fixed e f
