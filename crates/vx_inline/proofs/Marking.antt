-- The numbers of a list, marked in a table.
use Rattle.std.proofs.Common.{◌≡◌, ℕ, ◌<◌, Bool, true, false, ◌||◌, ◌==◌, List, [], ◌∷◌, length, slice_set, refl, sym, ap, ◌∙◌, arith, eq-eqb, eqb-true}
use Rattle.std.specs.Prelude.{replicate}
use Rattle.std.proofs.lemmas.List.{get_or-replicate, get_or-set_same, get_or-set_other, length-set, length-replicate}
use Rattle.std.proofs.lemmas.Bool.{false≢true}
use Rattle.vx_flow.specs.Rows.{is_marked}
use Rattle.vx_inline.specs.Inlined.{is_among}
use Rattle.vx_inline.specs.Values.{marked_all}

marked_one : (marks : List Bool) (u v : ℕ) → v < length marks → is_marked (slice_set marks u true) v ≡ ((u == v) || is_marked marks v)
marked_one marks u v l = by (u == v) refl
  where
    by : (t : Bool) → (u == v) ≡ t → is_marked (slice_set marks u true) v ≡ (t || is_marked marks v)
    by true e =
        let q : u ≡ v = eqb-true u v e in
        ap (λ w. is_marked (slice_set marks w true) v) q ∙ get_or-set_same marks v true false l
    by false e = get_or-set_other marks u v true false (λ (q : v ≡ u). false≢true (sym e ∙ eq-eqb u v (sym q)))

or_moved : (a b c : Bool) → (a || (b || c)) ≡ ((b || a) || c)
or_moved true true c = refl
or_moved true false c = refl
or_moved false true c = refl
or_moved false false c = refl

pub marked_where : (values : List ℕ) (marks : List Bool) (v : ℕ) → v < length marks → is_marked (marked_all values marks) v ≡ (is_among values v || is_marked marks v)
marked_where [] marks v l = refl
marked_where (u ∷ us) marks v l =
    let n : length (slice_set marks u true) ≡ length marks = length-set marks u true in
    marked_where us (slice_set marks u true) v (omega (arith, l, n)) ∙ ap (λ t. is_among us v || t) (marked_one marks u v l) ∙ or_moved (is_among us v) (u == v) (is_marked marks v)

or_false : (t : Bool) → (t || false) ≡ t
or_false true = refl
or_false false = refl

pub marked_where_among : (values : List ℕ) (count : ℕ) (before after : List Bool) → before ≡ replicate count false → after ≡ marked_all values before → (v : ℕ) → v < count → is_marked after v ≡ is_among values v
marked_where_among values count before after e q v l =
    let n : length before ≡ count = ap length e ∙ length-replicate count false in
    ap (λ m. is_marked m v) q ∙ marked_where values before v (omega (arith, l, n)) ∙ ap (λ t. is_among values v || t) (ap (λ m. is_marked m v) e ∙ get_or-replicate count v false false l) ∙ or_false (is_among values v)
