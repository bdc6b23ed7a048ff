-- The copies in the mode of the rule.
use Rattle.std.proofs.Common.{◌≡◌, ◌⊎◌, inl, inr, ℕ, zero, suc, min, ◌+◌, ◌<◌, ◌≤◌, Bool, true, false, List, ◌∷◌, ◌++◌, length, refl, sym, ap, ◌∙◌, subst, arith}
use Rattle.std.specs.Prelude.{nat_lt, nat_eq, ◌||◌, ◌&&◌, if◌then◌else◌}
use Rattle.std.specs.List.{filter}
use Rattle.std.proofs.lemmas.Bool.{lt-ltb, ltb-true, cases_lt}
use Rattle.vx_flow.specs.declared.trace.Clustered.{Clustered}
use Rattle.vx_flow.specs.declared.trace.Homes.{Homes}
use Rattle.vx_flow.specs.declared.trace.Placed.{Placed}
use Rattle.vx_flow.specs.Walk.{numbers}
use Rattle.vx_room.specs.Room.{has_room}
use Rattle.vx_isa.specs.Numbers.{Numbers}
use Rattle.vx_dep.specs.declared.mode.Mode.{Mode}
use Rattle.vx_dep.specs.declared.mode.Mode.TheVariants.{Free, Barred}
use Rattle.vx_dep.specs.Compensation.{word_at, at_splits_of, at_joins_of}
use Rattle.vx_dep.specs.Delays.{AreHeights}
use Rattle.vx_sched.specs.Placement.{PlacedBy, IsReady, comes_before, with_earlier, items_at}
use Rattle.vx_dep.proofs.Unique.{one_height}
use Rattle.vx_sched.proofs.Unique.{one_placement}
use Rattle.vx_region.specs.Planned.{made_at_splits, made_at_joins}
use Rattle.vx_region.specs.RegionPlans.{IsPlaced}
use Rattle.vx_region.specs.Growth.{copies_in, copies_of, count_splits, count_joins, mode_of, OneMode, BarredOverCap, SumsMayStop, WithinCap}
use Rattle.vx_region.specs.Barring.{BarredOwesNothing}
use Rattle.vx_region.proofs.NoCopies.{splits_empty, joins_empty, not_freed, as_before, as_in_trace}
use Rattle.vx_region.proofs.Counts.{few_made, no_splits, no_joins, empty_of}

pub no_copies : (p : Placed) (machine : Numbers) (homes : Homes) → IsPlaced p.clustered machine homes Barred p → copies_of p ≡ 0
no_copies p machine homes is =
    let a : count_splits (at_splits_of p) ≡ 0 = no_splits (at_splits_of p) (splits_empty p machine homes is) in
    let b : count_joins p.clustered.trace.joins (at_joins_of p) ≡ 0 = no_joins p.clustered.trace.joins (at_joins_of p) (joins_empty p machine homes is) in
    omega (arith, a, b)

pub barred_owes_nothing : BarredOwesNothing
barred_owes_nothing p machine homes is = record {
  splits = splits_empty p machine homes is;
  joins = joins_empty p machine homes is;
  many = no_copies p machine homes is;
  made = empty_of (made_at_splits p (at_splits_of p) ++ made_at_joins p p.clustered.trace.joins (at_joins_of p)) (let f = few_made p in let n = no_copies p machine homes is in omega (arith, f, n));
  freed = not_freed p machine homes is;
  loads = as_before p machine homes is;
  region = as_in_trace p machine homes is;
}

-- the Free placement is one

same_filter : (f g h : ℕ → Bool) (b n : ℕ) → ((i : ℕ) → i < b + n → f i ≡ g i) → filter f (filter h (numbers b n)) ≡ filter g (filter h (numbers b n))
same_filter f g h b zero same = refl
same_filter f g h b (suc n) same = by (h b) (same_filter f g h (b + 1) n (λ i l. same i (omega (arith, l))))
  where
    by : (z : Bool) → filter f (filter h (numbers (b + 1) n)) ≡ filter g (filter h (numbers (b + 1) n)) → filter f (if z then b ∷ filter h (numbers (b + 1) n) else filter h (numbers (b + 1) n)) ≡ filter g (if z then b ∷ filter h (numbers (b + 1) n) else filter h (numbers (b + 1) n))
    by true rest = ap (λ z. if z then b ∷ filter f (filter h (numbers (b + 1) n)) else filter f (filter h (numbers (b + 1) n))) (same b (omega arith)) ∙ ap (λ z. if g b then b ∷ z else z) rest
    by false rest = rest

by_heights : (c : Clustered) (m : Numbers) (homes : Homes) (mode : Mode) (h k : ℕ → ℕ) (words : List ℕ) → ((i : ℕ) → i < length c.trace.ops → k i ≡ h i) → PlacedBy c m homes mode k words → PlacedBy c m homes mode h words
by_heights c m homes mode h k words same placed = record { each = placed.each; ready = placed.ready; room = placed.room; tight = tight }
  where
    earlier : (w o : ℕ) → o < length words → with_earlier k words w o ≡ with_earlier h words w o
    earlier w o inside = ap (λ z. o ∷ z) (same_filter (λ p. comes_before k p o) (λ p. comes_before h p o) (λ i. nat_eq (word_at words i) w) 0 (length words) at)
      where
        at : (i : ℕ) → i < 0 + length words → comes_before k i o ≡ comes_before h i o
        at i lt =
            let many = placed.each in
            let one : k i ≡ h i = same i (omega (arith, lt, many)) in
            let two : k o ≡ h o = same o (omega (arith, inside, many)) in
            ap (λ z. nat_lt (k o) z || (nat_eq z (k o) && nat_lt i o)) one ∙ ap (λ z. nat_lt z (h i) || (nat_eq (h i) z && nat_lt i o)) two

    tight : (o ready w : ℕ) → o < length words → IsReady m mode c.trace words o ready → ready ≤ w → w < word_at words o → has_room m homes (items_at c (with_earlier h words w o)) ≡ false
    tight o ready w inside is l u = subst (λ ps. has_room m homes (items_at c ps) ≡ false) (earlier w o inside) (placed.tight o ready w inside is l u)

one_words : (c : Clustered) (m : Numbers) (homes : Homes) (mode : Mode) (h k : ℕ → ℕ) (words others : List ℕ) → AreHeights m mode c.trace h → AreHeights m mode c.trace k → PlacedBy c m homes mode h words → PlacedBy c m homes mode k others → words ≡ others
one_words c m homes mode h k words others hs ks p q = one_placement c m homes mode h words others hs p (by_heights c m homes mode h k others (λ i l. one_height m mode c.trace k h ks hs i l) q)

same_copies : (c : Clustered) (machine : Numbers) (homes : Homes) (mode : Mode) (p q : Placed) → IsPlaced c machine homes mode p → IsPlaced c machine homes mode q → copies_of p ≡ copies_of q
same_copies c machine homes mode p q is os = at_p ∙ ap (copies_in c.trace) words ∙ sym at_q
  where
    at_p : copies_of p ≡ copies_in c.trace p.words
    at_p = ap (λ (x : Clustered). copies_in x.trace p.words) is.clustered

    at_q : copies_of q ≡ copies_in c.trace q.words
    at_q = ap (λ (x : Clustered). copies_in x.trace q.words) os.clustered

    words : p.words ≡ q.words
    words = one_words c machine homes mode is.height os.height p.words q.words is.heights os.heights is.words os.words

pub barred_over_cap : BarredOverCap
barred_over_cap c machine homes cap used mode free has is = by (nat_lt cap (used + copies_of has.free)) refl
  where
    same : copies_of free ≡ copies_of has.free
    same = same_copies c machine homes Free free has.free is has.is_placed

    by : (b : Bool) → nat_lt cap (used + copies_of has.free) ≡ b → ((mode ≡ Barred) × (cap < used + copies_of free)) ⊎ ((mode ≡ Free) × (used + copies_of free ≤ cap))
    by true e = let lt = ltb-true cap (used + copies_of has.free) e in inl (has.rule ∙ ap (λ z. if z then Barred else Free) e, omega (arith, lt, same))
    by false e = inr (has.rule ∙ ap (λ z. if z then Barred else Free) e, elim (cases_lt cap (used + copies_of has.free)) [ inl lt ↦ (let t : true ≡ false = sym (lt-ltb cap (used + copies_of has.free) lt) ∙ e in absurd (cc)) | inr le ↦ omega (arith, le, same) ])

pub one_mode : OneMode
one_mode c machine homes cap used mode other has hos = has.rule ∙ ap (mode_of cap used) (same_copies c machine homes Free has.free hos.free has.is_placed hos.is_placed) ∙ sym hos.rule

pub within_cap : WithinCap
within_cap p machine homes cap used mode is has = by mode refl
  where
    by : (x : Mode) → mode ≡ x → (copies_of p ≡ 0) ⊎ (used + copies_of p ≤ cap)
    by Barred m = inl (no_copies p machine homes (subst (λ x. IsPlaced p.clustered machine homes x p) m is))
    by Free m = elim (barred_over_cap p.clustered machine homes cap used mode p has (subst (λ x. IsPlaced p.clustered machine homes x p) m is)) [ inl b ↦ (let f : Free ≡ Barred = sym m ∙ b.0 in absurd (cc)) | inr f ↦ inr f.1 ]

pub sums_may_stop : SumsMayStop
sums_may_stop cap top used a b lt = (omega (arith, lt), ap (λ z. if z then Barred else Free) (by (cases_lt cap (used + a))))
  where
    by : (cap < used + a) ⊎ (used + a ≤ cap) → nat_lt cap (used + min top a) ≡ nat_lt cap (used + a)
    by (inl l) = lt-ltb cap (used + min top a) (omega (arith, l, lt)) ∙ sym (lt-ltb cap (used + a) l)
    by (inr l) = ap (λ z. nat_lt cap (used + z)) (omega (arith, l, lt))
