-- Spans that are sorted by their keys rise in each file, and are the spans that were there.
use Rattle.std.proofs.Common.{◌≡◌, ℕ, suc, ◌+◌, ◌*◌, ◌^◌, ◌<◌, ◌≤◌, ◌==◌, ◌&&◌, Bool, true, false, List, [], ◌∷◌, length, map, slice_index_or, refl, sym, ap, ◌∙◌, subst, ⊎_elim, inl, inr, arith}
use Rattle.std.specs.Prelude.{◌⊎◌, if◌then◌else◌}
use Rattle.std.specs.List.{sum_by}
use Rattle.std.specs.List.Sorted.{IsNonDecreasingBy, IsPermutation}
use Rattle.std.proofs.lemmas.Bool.{cases_lt, eqb-true, eq-eqb}
use Rattle.std.proofs.lemmas.List.Sums.{sum_by-cons}
use Rattle.std.proofs.lemmas.List.Sorted.{IsNonDecreasingBy-drop, sum_by-IsPermutation}
use Rattle.vx_flow.specs.Effects.{IsIn}
use Rattle.vx_mixed.specs.Settled.{NoTwice}
use Rattle.vx_regs.specs.declared.spans.Span.{Span}
use Rattle.vx_regs.specs.Filed.{span_key}
use Rattle.vx_regs.specs.Spans.{Rising, value_of}

abbrev one_if : Bool → ℕ
one_if t = if t then 1 else 0

-- how many spans of a list meet a test

abbrev times : (Span → Bool) → List Span → ℕ
times t ss = sum_by (λ y. one_if (t y)) ss

times_cons : (t : Span → Bool) (y : Span) (ys : List Span) → times t (y ∷ ys) ≡ one_if (t y) + times t ys
times_cons t y ys = sum_by-cons (λ y. one_if (t y)) y ys

times_here : (t : Span → Bool) (y : Span) (ys : List Span) → t y ≡ true → times t (y ∷ ys) ≡ 1 + times t ys
times_here t y ys e = times_cons t y ys ∙ ap (λ b. one_if b + times t ys) e

times_off : (t : Span → Bool) (y : Span) (ys : List Span) → t y ≡ false → times t (y ∷ ys) ≡ times t ys
times_off t y ys e = let a : times t (y ∷ ys) ≡ 0 + times t ys = times_cons t y ys ∙ ap (λ b. one_if b + times t ys) e in omega arith

times_more : (t : Span → Bool) (y : Span) (ys : List Span) → times t ys ≤ times t (y ∷ ys)
times_more t y ys = let e = times_cons t y ys in omega arith

in_times : (t : Span → Bool) (x : Span) (ys : List Span) → IsIn x ys → t x ≡ true → 1 ≤ times t ys
in_times t x [] h e = absurd h
in_times t x (y ∷ ys) (inl q) e = let a = times_here t y ys (ap t (sym q) ∙ e) in omega arith
in_times t x (y ∷ ys) (inr h) e = let a = in_times t x ys h e in let b = times_more t y ys in omega arith

times_in : (t : Span → Bool) (ys : List Span) → 1 ≤ times t ys → (x : Span) × (IsIn x ys) × (t x ≡ true)
times_in t [] h = absurd (let z : times t [] ≡ 0 = refl in omega arith)
times_in t (y ∷ ys) h = by (t y) refl (λ g. times_in t ys g)
  where
    by : (b : Bool) → t y ≡ b → (1 ≤ times t ys → (x : Span) × (IsIn x ys) × (t x ≡ true)) → (x : Span) × (IsIn x (y ∷ ys)) × (t x ≡ true)
    by true e on = (y, inl refl, e)
    by false e on = let r = on (let a = times_off t y ys e in omega arith) in (r.0, inr r.1, r.2)

-- the same span

abbrev same_span : Span → Span → Bool
same_span x y = (x.file == y.file) && ((x.from == y.from) && ((x.to == y.to) && (x.value == y.value)))

and_first : (a b : Bool) → (a && b) ≡ true → a ≡ true
and_first true b e = refl
and_first false b e = absurd (let f : false ≡ true = e in cc)

and_second : (a b : Bool) → (a && b) ≡ true → b ≡ true
and_second true b e = e
and_second false b e = absurd (let f : false ≡ true = e in cc)

is_same : (x y : Span) → same_span x y ≡ true → x ≡ y
is_same x y e =
    let b = and_second (x.file == y.file) ((x.from == y.from) && ((x.to == y.to) && (x.value == y.value))) e in
    let c = and_second (x.from == y.from) ((x.to == y.to) && (x.value == y.value)) b in
    let d = and_second (x.to == y.to) (x.value == y.value) c in
    let file : x.file ≡ y.file = eqb-true x.file y.file (and_first (x.file == y.file) ((x.from == y.from) && ((x.to == y.to) && (x.value == y.value))) e) in
    let from : x.from ≡ y.from = eqb-true x.from y.from (and_first (x.from == y.from) ((x.to == y.to) && (x.value == y.value)) b) in
    let to : x.to ≡ y.to = eqb-true x.to y.to (and_first (x.to == y.to) (x.value == y.value) c) in
    let value : x.value ≡ y.value = eqb-true x.value y.value d in
    λ i. record { file = file i; from = from i; to = to i; value = value i }

same_is : (x : Span) → same_span x x ≡ true
same_is x =
    ap (λ b. b && ((x.from == x.from) && ((x.to == x.to) && (x.value == x.value)))) (eq-eqb x.file x.file refl)
    ∙ ap (λ b. b && ((x.to == x.to) && (x.value == x.value))) (eq-eqb x.from x.from refl)
    ∙ ap (λ b. b && (x.value == x.value)) (eq-eqb x.to x.to refl)
    ∙ eq-eqb x.value x.value refl

pub moved_in : (xs ys : List Span) (x : Span) → IsPermutation xs ys → IsIn x xs → IsIn x ys
moved_in xs ys x p h =
    let a = in_times (same_span x) x xs h (same_is x) in
    let b = sum_by-IsPermutation (λ y. one_if (same_span x y)) xs ys p in
    let r = times_in (same_span x) ys (omega arith) in
    subst (λ z. IsIn z ys) (sym (is_same x r.0 r.2)) r.1

pub moved_out : (xs ys : List Span) (x : Span) → IsPermutation xs ys → IsIn x ys → IsIn x xs
moved_out xs ys x p h =
    let a = in_times (same_span x) x ys h (same_is x) in
    let b = sum_by-IsPermutation (λ y. one_if (same_span x y)) xs ys p in
    let r = times_in (same_span x) xs (omega arith) in
    subst (λ z. IsIn z xs) (sym (is_same x r.0 r.2)) r.1

-- values once each

abbrev of_value : ℕ → Span → Bool
of_value v s = v == s.value

named_in : (s : Span) (spans : List Span) → IsIn s spans → IsIn s.value (map value_of spans)
named_in s [] i = absurd i
named_in s (t ∷ ts) (inl e) = inl (ap value_of e)
named_in s (t ∷ ts) (inr i) = inr (named_in s ts i)

named_at : (v : ℕ) (spans : List Span) → IsIn v (map value_of spans) → (t : Span) × (IsIn t spans) × (t.value ≡ v)
named_at v [] i = absurd i
named_at v (s ∷ ss) (inl e) = (s, inl refl, sym e)
named_at v (s ∷ ss) (inr i) = let r = named_at v ss i in (r.0, inr r.1, r.2)

none_times : (v : ℕ) (ss : List Span) → (IsIn v (map value_of ss) → ⊥) → times (of_value v) ss ≡ 0
none_times v ss n = ⊎_elim
    (λ l. absurd (let r = times_in (of_value v) ss (omega arith) in n (subst (λ z. IsIn z (map value_of ss)) (sym (eqb-true v r.0.value r.2)) (named_in r.0 ss r.1))))
    (λ g. omega arith) (cases_lt 0 (times (of_value v) ss))

once_times : (v : ℕ) (ss : List Span) → NoTwice (map value_of ss) → times (of_value v) ss ≤ 1
once_times v [] o = let z : times (of_value v) [] ≡ 0 = refl in omega arith
once_times v (s ∷ ss) o = by (v == s.value) refl (once_times v ss o.1)
  where
    by : (b : Bool) → (v == s.value) ≡ b → times (of_value v) ss ≤ 1 → times (of_value v) (s ∷ ss) ≤ 1
    by true e few = let a = times_here (of_value v) s ss e in let b = none_times v ss (λ i. o.0 (subst (λ z. IsIn z (map value_of ss)) (eqb-true v s.value e) i)) in omega arith
    by false e few = let a = times_off (of_value v) s ss e in omega arith

times_once : (ss : List Span) → ((v : ℕ) → times (of_value v) ss ≤ 1) → NoTwice (map value_of ss)
times_once [] few = tt
times_once (s ∷ ss) few = (
  (λ i.
      let r = named_at s.value ss i in
      let a = in_times (of_value s.value) r.0 ss r.1 (eq-eqb s.value r.0.value (sym r.2)) in
      let b = times_here (of_value s.value) s ss (eq-eqb s.value s.value refl) in
      let c = few s.value in
      omega arith),
  times_once ss (λ v. let a = times_more (of_value v) s ss in let b = few v in omega arith),
)

pub moved_once : (xs ys : List Span) → IsPermutation xs ys → NoTwice (map value_of xs) → NoTwice (map value_of ys)
moved_once xs ys p o = times_once ys (λ v. let a = once_times v xs o in let b = sum_by-IsPermutation (λ y. one_if (of_value v y)) xs ys p in omega arith)

-- they rise

later : (file from : ℕ) (s : Span) → file * 4294967296 + from ≤ span_key s → from < 2 ^ 32 → s.from < 2 ^ 32 → (file < s.file) ⊎ ((file ≡ s.file) × (from ≤ s.from))
later file from s h a b = ⊎_elim (λ l. inl l) (λ g. inr ((let e : file ≡ s.file = omega arith in e), omega arith)) (cases_lt file s.file)

rise : (file from : ℕ) (ss : List Span) → IsNonDecreasingBy span_key ss → from < 2 ^ 32 → ((s : Span) → IsIn s ss → s.from < 2 ^ 32) → ((s : Span) → IsIn s ss → file * 4294967296 + from ≤ span_key s) → Rising file from ss
rise file from [] sorted a low above = tt
rise file from (s ∷ ss) sorted a low above = (
  later file from s (above s (inl refl)) a (low s (inl refl)),
  rise s.file s.from ss (IsNonDecreasingBy-drop span_key 1 (s ∷ ss) sorted) (low s (inl refl)) (λ t i. low t (inr i)) key,
)
  where
    there : (es : List Span) (f d : Span) → IsIn f es → (i : ℕ) × (i < length es) × (slice_index_or es i d ≡ f)
    there [] f d h = absurd h
    there (y ∷ es) f d (inl q) = (0, omega arith, sym q)
    there (y ∷ es) f d (inr h) = let r = there es f d h in let low = r.1 in (suc r.0, omega arith, r.2)

    key : (t : Span) → IsIn t ss → span_key s ≤ span_key t
    key t h = let r = there ss t s h in let low = r.1 in subst (λ z. span_key s ≤ span_key z) r.2 (sorted 0 (suc r.0) s (omega arith) (omega arith))

pub rises : (ss : List Span) → IsNonDecreasingBy span_key ss → ((s : Span) → IsIn s ss → s.from < 2 ^ 32) → Rising 0 0 ss
rises ss sorted low = rise 0 0 ss sorted (omega arith) low (λ s i. omega arith)
