-- Values that are kept as their spans are, are kept as the layout wants it.
use Rattle.std.proofs.Common.{◌≡◌, ◌≢◌, ◌<◌, ◌≤◌, ◌+◌, ◌%◌, ◌^◌, ℕ, zero, suc, Option, Some, None, List, [], ◌∷◌, ◌++◌, length, map, inl, inr, sym, ap, subst, refl, arith, ◌∙◌, slice_get}
use Rattle.std.specs.List.Sorted.{IsNonDecreasingBy, IsPermutation}
use Rattle.std.proofs.lemmas.Option.{slice_get_within}
use Rattle.vx_flow.specs.declared.graph.Bank.{Bank}
use Rattle.vx_flow.specs.declared.graph.Bank.TheVariants.{General, Branch}
use Rattle.vx_flow.specs.declared.graph.Op.{Op}
use Rattle.vx_flow.specs.Effects.{IsIn}
use Rattle.vx_isa.specs.Numbers.{Numbers}
use Rattle.vx_mixed.specs.declared.layout.VWords.{VWords}
use Rattle.vx_mixed.specs.Settled.{NoTwice}
use Rattle.vx_mixed.specs.LaidSettled.{home_in, bank_in, Pends}
use Rattle.vx_mixed.specs.LaidSettled.Pends.{written, later}
use Rattle.vx_regs.specs.declared.hulls.Hull.{Hull}
use Rattle.vx_regs.specs.declared.map.Kept.{Kept}
use Rattle.vx_regs.specs.declared.map.Kept.TheVariants.{InRegister, InSlot, Nowhere}
use Rattle.vx_regs.specs.declared.spans.Span.{Span}
use Rattle.vx_regs.specs.BusyPlaces.{AreHulls}
use Rattle.vx_regs.specs.Filed.{file_in, file_number, first_register, span_key, spans_from}
use Rattle.vx_regs.specs.Hulls.{Spanned, hull_at}
use Rattle.vx_regs.specs.Intervals.{IsBusy, IsLive, Within}
use Rattle.vx_regs.specs.Intervals.IsBusy.{is_live, is_named, is_pending}
use Rattle.vx_regs.specs.Intervals.IsLive.{here, beyond}
use Rattle.vx_regs.specs.Mapped.{Mapped, KeepsApart, Crowded, InFile, first_of, end_of, allocatable, cluster_in}
use Rattle.vx_regs.specs.Spans.{Covers, Full, Scannable, Scanned, bank_of_file, kept_at, value_of}
use Rattle.vx_regs.proofs.NodeMarks.{Inside}
use Rattle.std.proofs.lemmas.Nat.{mod_below}
use Rattle.vx_regs.proofs.SortedSpans.{moved_in, moved_out, moved_once, rises}

pub nowhere_more : (kept : List Kept) (v : ℕ) → kept_at kept v ≡ Nowhere → kept_at (kept ++ (Nowhere ∷ [])) v ≡ Nowhere
nowhere_more [] zero h = refl
nowhere_more [] (suc v) h = refl
nowhere_more (x ∷ xs) zero h = h
nowhere_more (x ∷ xs) (suc v) h = nowhere_more xs v h

some_is : {A : Type 0} {x y : A} → Some x ≡ Some y → x ≡ y
some_is e = cc

-- spans of hulls

record SpanOf (l : VWords) (first : ℕ) (hulls : List (Option Hull)) (s : Span) : Type 0 where
  pub place : ℕ
  pub value : s.value ≡ first + place
  pub hull : Hull
  pub there : hull_at hulls place ≡ Some hull
  pub from_is : hull.from ≡ s.from
  pub to_is : hull.to ≡ s.to
  pub file_is : s.file ≡ file_in l s.value

span_of : (l : VWords) (first : ℕ) (hulls : List (Option Hull)) (s : Span) → IsIn s (spans_from l first hulls) → SpanOf l first hulls s
span_of l first [] s i = absurd i
span_of l first (None ∷ hs) s i =
    let r = span_of l (first + 1) hs s i in
    let e = r.value in
    record { place = suc r.place; value = omega arith; hull = r.hull; there = r.there; from_is = r.from_is; to_is = r.to_is; file_is = r.file_is }
span_of l first (Some h ∷ hs) s (inl e) =
    record { place = zero; value = (let x : s.value ≡ first = ap value_of e in omega arith); hull = h; there = refl; from_is = ap (λ z. z.from) (sym e); to_is = ap (λ z. z.to) (sym e); file_is = subst (λ z. z.file ≡ file_in l z.value) (sym e) refl }
span_of l first (Some h ∷ hs) s (inr i) =
    let r = span_of l (first + 1) hs s i in
    let e = r.value in
    record { place = suc r.place; value = omega arith; hull = r.hull; there = r.there; from_is = r.from_is; to_is = r.to_is; file_is = r.file_is }

of_span : (l : VWords) (first : ℕ) (hulls : List (Option Hull)) (v : ℕ) (h : Hull) → hull_at hulls v ≡ Some h → IsIn (record { file = file_in l (first + v); from = h.from; to = h.to; value = first + v }) (spans_from l first hulls)
of_span l first [] v h e = absurd (let f : None ≡ Some h = e in cc)
of_span l first (None ∷ hs) zero h e = absurd (let f : None ≡ Some h = e in cc)
of_span l first (Some g ∷ hs) zero h e =
    let f : g ≡ h = some_is e in
    let n : first + 0 ≡ first = omega arith in
    inl (λ i. record { file = file_in l (n i); from = (sym f i).from; to = (sym f i).to; value = n i })
of_span l first (None ∷ hs) (suc v) h e =
    let n : first + 1 + v ≡ first + suc v = omega arith in
    subst (λ z. IsIn (record { file = file_in l z; from = h.from; to = h.to; value = z }) (spans_from l (first + 1) hs)) n (of_span l (first + 1) hs v h e)
of_span l first (Some g ∷ hs) (suc v) h e =
    let n : first + 1 + v ≡ first + suc v = omega arith in
    inr (subst (λ z. IsIn (record { file = file_in l z; from = h.from; to = h.to; value = z }) (spans_from l (first + 1) hs)) n (of_span l (first + 1) hs v h e))

named_at : (v : ℕ) (spans : List Span) → IsIn v (map value_of spans) → (t : Span) × (IsIn t spans) × (t.value ≡ v)
named_at v [] i = absurd i
named_at v (s ∷ ss) (inl e) = (s, inl refl, sym e)
named_at v (s ∷ ss) (inr i) = let r = named_at v ss i in (r.0, inr r.1, r.2)

once_from : (l : VWords) (first : ℕ) (hulls : List (Option Hull)) → NoTwice (map value_of (spans_from l first hulls))
once_from l first [] = tt
once_from l first (None ∷ hs) = once_from l (first + 1) hs
once_from l first (Some h ∷ hs) = (
  (λ i.
      let r = named_at first (spans_from l (first + 1) hs) i in
      let s = span_of l (first + 1) hs r.0 r.1 in
      let a = s.value in
      let b = r.2 in
      omega arith),
  once_from l (first + 1) hs,
)

within_list : (hulls : List (Option Hull)) (v : ℕ) (h : Hull) → hull_at hulls v ≡ Some h → v < length hulls
within_list [] v h e = absurd (let f : None ≡ Some h = e in cc)
within_list (x ∷ xs) zero h e = omega arith
within_list (x ∷ xs) (suc v) h e = let g = within_list xs v h e in omega arith

-- a busy place is a word of the layout

module _ (latency : Op → ℕ) (l : VWords) (inside : Inside l) where
  live_within : (p v : ℕ) → IsLive l p v → p < length l.words
  live_within p v (here {word = word} at i) = slice_get_within l.words p word at
  live_within p v (beyond {word = word} at n leads more) = slice_get_within l.words p word at

  busy_within : (p v : ℕ) → IsBusy latency l p v → p < length l.words
  busy_within p v (is_live h) = live_within p v h
  busy_within p v (is_named {word = word} at i) = slice_get_within l.words p word at
  busy_within p v (is_pending {left = left} h) = by (suc left) h
    where
      by : (n : ℕ) → Pends latency l p v n → p < length l.words
      by n (written {p = from} op cluster at i m leads) = inside from p _ at leads
      by n (later q k word before at leads) = inside q p word at leads

-- files

bank_is : (b : Option Bank) (bank : Bank) (home : ℕ) → b ≡ Some bank → bank_of_file (file_number b home) ≡ bank
bank_is b General home e = ap (λ z. bank_of_file (file_number z home)) e ∙ (let n : home + 1 ≡ suc home = omega arith in ap bank_of_file n)
bank_is b Branch home e = ap (λ z. bank_of_file (file_number z home)) e

file_is : (bank : Bank) (cluster home : ℕ) → cluster_in bank home ≡ cluster → file_number (Some bank) home ≡ file_number (Some bank) cluster
file_is General cluster home e = ap (λ z. z + 1) e
file_is Branch cluster home e = refl

same_file : (b c : Bank) (h k : ℕ) → file_number (Some b) h ≡ file_number (Some c) k → (b ≡ c) × (cluster_in b h ≡ cluster_in c k)
same_file General General h k e = (refl, (let f : h + 1 ≡ k + 1 = e in let g : h ≡ k = omega arith in g))
same_file General Branch h k e = absurd (let f : h + 1 ≡ 0 = e in omega arith)
same_file Branch General h k e = absurd (let f : 0 ≡ k + 1 = e in omega arith)
same_file Branch Branch h k e = (refl, refl)

some_bank : (banks : List Bank) (p : ℕ) → p < length banks → (b : Bank) × (slice_get banks p ≡ Some b)
some_bank [] p h = absurd (let g : p < 0 = h in omega arith)
some_bank (b ∷ bs) zero h = (b, refl)
some_bank (b ∷ bs) (suc p) h = some_bank bs p (omega arith)

pub banked : (l : VWords) → 0 < length l.banks → (v : ℕ) → (b : Bank) × (bank_in l v ≡ Some b)
banked l h v = some_bank l.banks (v % length l.banks) (mod_below v (length l.banks) h)

names_long : (ss : List Span) → length (map value_of ss) ≡ length ss
names_long [] = refl
names_long (s ∷ ss) = ap suc (names_long ss)

module _ (m : Numbers) (latency : Op → ℕ) (l : VWords) (inside : Inside l) (few : length l.words < 2 ^ 32) (hulls : List (Option Hull)) (are : AreHulls latency l hulls)
    (spans : List Span) (same : IsPermutation (spans_from l 0 hulls) spans) (sorted : IsNonDecreasingBy span_key spans) where
  known : (s : Span) → IsIn s spans → SpanOf l 0 hulls s
  known s i = span_of l 0 hulls s (moved_out (spans_from l 0 hulls) spans s same i)

  hull_of : (s : Span) (i : IsIn s spans) → (h : Hull) × (hull_at hulls s.value ≡ Some h) × (h.from ≡ s.from) × (h.to ≡ s.to)
  hull_of s i =
      let k = known s i in
      let e = k.value in
      let n : s.value ≡ k.place = omega arith in
      (k.hull, ap (hull_at hulls) n ∙ k.there, k.from_is, k.to_is)

  begins : (s : Span) → IsIn s spans → IsBusy latency l s.from s.value
  begins s i = let h = hull_of s i in are.edges s.value s.from (record { hull = h.0; is = h.1; edge = inl h.2 })

  ends : (s : Span) → IsIn s spans → IsBusy latency l s.to s.value
  ends s i = let h = hull_of s i in are.edges s.value s.to (record { hull = h.0; is = h.1; edge = inr h.3 })

  covers_of : (s : Span) → IsIn s spans → (p : ℕ) → Spanned hulls s.value p → Covers s p
  covers_of s i p sp =
      let h = hull_of s i in
      let e : h.0 ≡ sp.hull = some_is (sym h.1 ∙ sp.is) in
      let a : s.from ≤ p = subst (λ z. z ≤ p) (ap (λ z. z.from) (sym e) ∙ h.2) sp.below in
      let b : p ≤ s.to = subst (λ z. p ≤ z) (ap (λ z. z.to) (sym e) ∙ h.3) sp.above in
      record { below = a; above = b }

  span_for : (v : ℕ) (p : ℕ) → Spanned hulls v p → (s : Span) × (IsIn s spans) × (s.value ≡ v)
  span_for v p sp =
      let i = of_span l 0 hulls v sp.hull sp.is in
      let n : 0 + v ≡ v = omega arith in
      (record { file = file_in l (0 + v); from = sp.hull.from; to = sp.hull.to; value = 0 + v }, moved_in (spans_from l 0 hulls) spans (record { file = file_in l (0 + v); from = sp.hull.from; to = sp.hull.to; value = 0 + v }) same i, n)

  pub scannable : (kept : List Kept) → length kept ≡ length hulls → ((v : ℕ) → kept_at kept v ≡ Nowhere) → Scannable spans kept
  scannable kept long nowhere = record {
    rising = rises spans sorted (λ s i. let h = busy_within latency l inside s.from s.value (begins s i) in omega arith);
    once = moved_once (spans_from l 0 hulls) spans same (once_from l 0 hulls);
    inside = λ s i. let h = hull_of s i in let w = within_list hulls s.value h.0 h.1 in omega arith;
    nowhere = nowhere;
    proper = λ s i. let c = covers_of s i s.from (are.all s.value s.from (begins s i)) in c.above;
  }

  within_covers : (v p : ℕ) (s : Span) → IsIn s spans → s.value ≡ v → Within latency l v p → Covers s p
  within_covers v p s i e w =
      let a = covers_of s i w.from (subst (λ z. Spanned hulls z w.from) (sym e) (are.all v w.from w.busy_from)) in
      let b = covers_of s i w.to (subst (λ z. Spanned hulls z w.to) (sym e) (are.all v w.to w.busy_to)) in
      let c = a.below in
      let d = b.above in
      let f = w.below in
      let g = w.above in
      record { below = omega arith; above = omega arith }

  covers_within : (s : Span) (p : ℕ) → IsIn s spans → Covers s p → Within latency l s.value p
  covers_within s p i c = record { from = s.from; to = s.to; below = c.below; above = c.above; busy_from = begins s i; busy_to = ends s i }

  file_known : (s : Span) → IsIn s spans → s.file ≡ file_in l s.value
  file_known s i = let k = known s i in k.file_is

  filed : (v cluster : ℕ) (bank : Bank) → InFile l v bank cluster → file_in l v ≡ file_number (Some bank) cluster
  filed v cluster bank f = ap (λ z. file_number z (home_in l v)) f.bank_is ∙ file_is bank cluster (home_in l v) f.cluster_is

  module _ (kept : List Kept) (scanned : Scanned m spans kept) where
    keeps : KeepsApart m latency l (record { values = kept })
    keeps = record {
      placed = λ v p b. let s = span_for v p (are.all v p b) in subst (λ z. kept_at kept z ≢ Nowhere) s.2 (scanned.placed s.0 s.1);
      registers = λ v n cluster bank e f.
          let s = scanned.only v n e in
          let a : kept_at kept s.0.value ≡ InRegister n = ap (kept_at kept) s.1 ∙ e in
          let b : bank_of_file s.0.file ≡ bank = ap bank_of_file (file_known s.0 s.2 ∙ ap (file_in l) s.1) ∙ bank_is (bank_in l v) bank (home_in l v) f.bank_is in
          subst (λ z. (first_of m z ≤ n) × (n < end_of m z)) b (scanned.registers s.0 n s.2 a);
      apart = λ u v p n cluster bank ne fu fv wu wv a b.
          let s = scanned.only u n a in
          let t = scanned.only v n b in
          scanned.apart s.0 t.0 p n s.2 t.2
          (λ e. ne (sym s.1 ∙ e ∙ t.1))
          (file_known s.0 s.2 ∙ ap (file_in l) s.1 ∙ filed u cluster bank fu ∙ sym (filed v cluster bank fv) ∙ ap (file_in l) (sym t.1) ∙ sym (file_known t.0 t.2))
          (within_covers u p s.0 s.2 s.1 wu) (within_covers v p t.0 t.2 t.1 wv)
          (ap (kept_at kept) s.1 ∙ a) (ap (kept_at kept) t.1 ∙ b);
      slots = scanned.slots;
    }

    module _ (some : (v : ℕ) → (b : Bank) × (bank_in l v ≡ Some b)) where
      crowded : (v k : ℕ) → kept_at kept v ≡ InSlot k → Crowded m latency l v
      crowded v k e = record {
        bank = bank;
        cluster = cluster_in bank (home_in l v);
        place = f.place;
        values = map value_of f.crowd;
        file = record { bank_is = b.1; cluster_is = refl };
        at = subst (λ z. Within latency l z f.place) f.own_value (covers_within f.own f.place f.is_own f.own_covers);
        once = f.once;
        each = λ u i. member u (named_at u f.crowd i);
        more =
            let x : bank_of_file f.own.file ≡ bank = ap bank_of_file own_file ∙ bank_is (bank_in l v) bank (home_in l v) b.1 in
            let n = names_long f.crowd in
            let y : allocatable m bank < length f.crowd = subst (λ z. allocatable m z < length f.crowd) x f.more in
            subst (λ z. allocatable m bank < z) (sym n) y;
      }
        where
          f : Full m spans v
          f = scanned.forced v k e

          b : (b : Bank) × (bank_in l v ≡ Some b)
          b = some v

          bank : Bank
          bank = (some v).0

          own_file : (scanned.forced v k e).own.file ≡ file_in l v
          own_file = let g = scanned.forced v k e in file_known g.own g.is_own ∙ ap (file_in l) g.own_value

          member : (u : ℕ) → (t : Span) × (IsIn t (scanned.forced v k e).crowd) × (t.value ≡ u) → InFile l u (some v).0 (cluster_in (some v).0 (home_in l v)) × Within latency l u (scanned.forced v k e).place
          member u t =
              let g = scanned.forced v k e in
              let i : IsIn t.0 spans = g.known t.0 t.1 in
              let c = some u in
              let d = some v in
              let x : file_in l u ≡ file_in l v = ap (file_in l) (sym t.2) ∙ sym (file_known t.0 i) ∙ g.filed t.0 t.1 ∙ own_file in
              let y : file_number (Some c.0) (home_in l u) ≡ file_number (Some d.0) (home_in l v) = ap (λ z. file_number z (home_in l u)) (sym c.1) ∙ x ∙ ap (λ z. file_number z (home_in l v)) d.1 in
              let z = same_file c.0 d.0 (home_in l u) (home_in l v) y in (
                record { bank_is = c.1 ∙ ap Some z.0; cluster_is = subst (λ q. cluster_in q (home_in l u) ≡ cluster_in d.0 (home_in l v)) z.0 z.1 },
                subst (λ q. Within latency l q g.place) t.2 (covers_within t.0 g.place i (g.covers t.0 t.1)),
              )

      pub mapped : Mapped m latency l (record { values = kept })
      mapped = record { keeps = keeps; forced = crowded }

-- where no value has a bank

firsts_of : (hulls : List (Option Hull)) (v : ℕ) (h : Hull) → hull_at hulls v ≡ Some h → kept_at (map first_register hulls) v ≡ InRegister 0
firsts_of [] v h e = absurd (let f : None ≡ Some h = e in cc)
firsts_of (None ∷ hs) zero h e = absurd (let f : None ≡ Some h = e in cc)
firsts_of (Some g ∷ hs) zero h e = refl
firsts_of (x ∷ hs) (suc v) h e = firsts_of hs v h e

no_slots : (hulls : List (Option Hull)) (v k : ℕ) → kept_at (map first_register hulls) v ≡ InSlot k → ⊥
no_slots [] v k e = let f : Nowhere ≡ InSlot k = e in cc
no_slots (None ∷ hs) zero k e = let f : Nowhere ≡ InSlot k = e in cc
no_slots (Some g ∷ hs) zero k e = let f : InRegister 0 ≡ InSlot k = e in cc
no_slots (x ∷ hs) (suc v) k e = no_slots hs v k e

pub mapped_without : (m : Numbers) (latency : Op → ℕ) (l : VWords) (hulls : List (Option Hull)) → AreHulls latency l hulls → length l.banks ≡ 0 → Mapped m latency l (record { values = map first_register hulls })
mapped_without m latency l hulls are none = record {
  keeps = record {
    placed = λ v p b e. let s = are.all v p b in (let f : InRegister 0 ≡ Nowhere = sym (firsts_of hulls v s.hull s.is) ∙ e in cc);
    registers = λ v n cluster bank e f. absurd (no_bank v bank f.bank_is);
    apart = λ u v p n cluster bank ne fu fv wu wv a b. no_bank u bank fu.bank_is;
    slots = λ u v k a b. absurd (no_slots hulls u k a);
  };
  forced = λ v k e. absurd (no_slots hulls v k e);
}
  where
    no_bank : (v : ℕ) (bank : Bank) → bank_in l v ≡ Some bank → ⊥
    no_bank v bank e = let h = slice_get_within l.banks (v % length l.banks) bank e in omega arith
