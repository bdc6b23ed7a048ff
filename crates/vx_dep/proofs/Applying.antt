-- The tests of the rows, where they are told what is so of two places, give the delay of the pair.
use Rattle.std.proofs.Common.{◌≡◌, ◌<◌, ◌≤◌, ◌⊎◌, inl, inr, ℕ, refl, sym, ◌∙◌, ap, arith, subst, max, nat_le, Bool, true, false, not, ◌&&◌, ◌||◌, ◌==◌, if◌then◌else◌, Option, Some, None}
use Rattle.std.proofs.lemmas.Bool.{or_cases, or_left, or_right, false≢true, true≢false}
use Rattle.std.proofs.lemmas.Bool.Decides.{leb_tells}
use Rattle.vx_flow.specs.declared.graph.Op.TheVariants.{Compute, Select, Place, Load, Store, More, Input, Text, Decimal, Across, Base, PlaceIn}
use Rattle.vx_flow.specs.declared.trace.TraceOp.{TraceOp}
use Rattle.vx_flow.specs.declared.trace.TraceOp.TheVariants.{Plain, Split}
use Rattle.vx_flow.specs.declared.trace.Trace.{Trace}
use Rattle.vx_flow.specs.Effects.{IsIn}
use Rattle.vx_flow.specs.Operands.{value_list, values_read}
use Rattle.vx_isa.specs.Numbers.{Numbers}
use Rattle.vx_dep.specs.declared.mode.Mode.{Mode}
use Rattle.vx_dep.specs.declared.mode.Mode.TheVariants.{Free, Barred}
use Rattle.vx_dep.specs.declared.rows.Ways.{Ways}
use Rattle.vx_dep.specs.Delays.{Stands, reads_of, writes_of, is_load, is_store, is_observable, leaves, latency_of, live_off, IsLastWriter, JoinBetween, Row, reads_written, writes_written, writes_read, access_behind_store, store_behind_load, both_observable, both_splits, seen_behind_split, live_behind_split, split_behind_observable, seen_behind_join, barred_above_split, barred_below_split, barred_below_join, Applies, IsGreatest, IsDelay}
use Rattle.vx_dep.specs.declared.traits.Traits.{Traits}
use Rattle.vx_dep.specs.Traits.{written, read, has, is_alone, traits_of}
use Rattle.vx_dep.specs.Rows.{is_barred, are_tied, stays_behind_split, stays_behind_join, stays_behind, keeps_split, stays_below, at_least, delay_of, MayTouch, AreWays}
use Rattle.vx_dep.proofs.Written.{reads_are, writes_are, has_value, value_has}

both : (x y : Bool) → (x && y) ≡ true → (x ≡ true) × (y ≡ true)
both true true e = (refl, refl)
both true false e = absurd (false≢true e)
both false y e = absurd (false≢true e)

and_true : (x y : Bool) → x ≡ true → y ≡ true → (x && y) ≡ true
and_true x y e f = ap (λ b. b && y) e ∙ f

no_others : (v one : Bool) → v ≡ true → not (v && one) ≡ true → one ≡ false
no_others true true e f = absurd (false≢true f)
no_others true false e f = refl
no_others false one e f = absurd (false≢true e)

not_alone : (v one : Bool) → one ≡ false → not (v && one) ≡ true
not_alone true true e = absurd (true≢false e)
not_alone true false e = refl
not_alone false one e = refl

is_barred_mode : (mode : Mode) → is_barred mode ≡ true → mode ≡ Barred
is_barred_mode Free e = absurd (false≢true e)
is_barred_mode Barred e = refl

load_alone : (a : TraceOp) → is_load a ≡ true → is_store a ≡ true → ⊥
load_alone (Plain (Load v a p dismissible)) e f = absurd (false≢true f)
load_alone (Plain (Store a p x)) e f = absurd (false≢true e)
load_alone (Plain (Compute code v a b)) e f = absurd (false≢true e)
load_alone (Plain (Select v p a b)) e f = absurd (false≢true e)
load_alone (Plain (Place v a i)) e f = absurd (false≢true e)
load_alone (Plain (More v)) e f = absurd (false≢true e)
load_alone (Plain (Input v)) e f = absurd (false≢true e)
load_alone (Plain (Text n)) e f = absurd (false≢true e)
load_alone (Plain (Decimal x)) e f = absurd (false≢true e)
load_alone (Plain (Across v u)) e f = absurd (false≢true e)
load_alone (Plain (Base v a x)) e f = absurd (false≢true e)
load_alone (Plain (PlaceIn v a u i)) e f = absurd (false≢true e)
load_alone (Split test leaves_when edge live) e f = absurd (false≢true e)

-- what the three tests come to say of a number
pub data Told (tied behind below : Bool) (latency : ℕ) : ℕ → Type 0 where
  by_tie : tied ≡ true → Told tied behind below latency latency
  by_behind : behind ≡ true → Told tied behind below latency 1
  by_below : below ≡ true → Told tied behind below latency 0

module _ (m : Numbers) (mode : Mode) (t : Trace) (i j : ℕ) (a b : TraceOp) (w : Ways) (ways : AreWays t i j (traits_of m a) (traits_of m b) a b w) where
  abbrev upper_traits : Traits
  upper_traits = traits_of m a

  abbrev lower_traits : Traits
  lower_traits = traits_of m b

  abbrev TheRow : ℕ → Type 0
  TheRow d = Row m mode t i j a b d

  -- a test that holds gives a row

  -- what a test finds among the values of an operation is among those that it reads, or writes

  among_read : (x y : TraceOp) → has (written x) (values_read (read y)) ≡ has (written x) (reads_of y)
  among_read x y = ap (has (written x)) (reads_are y)

  among_written : (x y : TraceOp) → has (written x) (value_list (written y)) ≡ has (written x) (writes_of y)
  among_written x y = ap (has (written x)) (writes_are y)

  tied_row : (w.last && has (written a) (values_read (read b)) ≡ true) ⊎ (has (written a) (value_list (written b)) ≡ true) → TheRow (latency_of m a)
  tied_row (inl e) =
      let h = both _ _ e in
      let v = has_value a (reads_of b) (sym (among_read a b) ∙ h.1) in
      reads_written v.value v.writes v.among (ways.last h.0 v.value v.writes)
  tied_row (inr e) = let v = has_value a (writes_of b) (sym (among_written a b) ∙ e) in writes_written v.value v.writes v.among

  -- between two splits, by the branches of the machine

  apart : leaves a ≡ true → is_alone m b ≡ true → TheRow 1
  apart l e = let h = both _ _ e in subst TheRow (ap (λ (one : Bool). if one then 1 else 0) h.1) (both_splits l h.0)

  beside : leaves a ≡ true → leaves b ≡ true → not (is_alone m b) ≡ true → TheRow 0
  beside l k e = subst TheRow (ap (λ (one : Bool). if one then 1 else 0) (no_others (leaves b) (m.branches == 1) k e)) (both_splits l k)

  behind_split : leaves a ≡ true → (is_alone m b ≡ true) ⊎ (is_store b ≡ true) ⊎ (is_observable b ≡ true) ⊎ (w.live ≡ true) ⊎ (is_barred mode ≡ true) → TheRow 1
  behind_split l (inl e) = apart l e
  behind_split l (inr (inl e)) = seen_behind_split l (inl e)
  behind_split l (inr (inr (inl e))) = seen_behind_split l (inr e)
  behind_split l (inr (inr (inr (inl e)))) = let v = ways.live e l in live_behind_split v.0 l v.1 v.2
  behind_split l (inr (inr (inr (inr e)))) = barred_below_split (is_barred_mode mode e) l

  split_cases : stays_behind_split mode lower_traits w ≡ true → (is_alone m b ≡ true) ⊎ (is_store b ≡ true) ⊎ (is_observable b ≡ true) ⊎ (w.live ≡ true) ⊎ (is_barred mode ≡ true)
  split_cases e = four (or_cases _ _ e)
    where
      two : (is_alone m b ≡ true) ⊎ (is_store b ≡ true) → (is_alone m b ≡ true) ⊎ (is_store b ≡ true) ⊎ (is_observable b ≡ true) ⊎ (w.live ≡ true) ⊎ (is_barred mode ≡ true)
      two (inl f) = inl f
      two (inr f) = inr (inl f)

      three : ((is_alone m b || is_store b) ≡ true) ⊎ (is_observable b ≡ true) → (is_alone m b ≡ true) ⊎ (is_store b ≡ true) ⊎ (is_observable b ≡ true) ⊎ (w.live ≡ true) ⊎ (is_barred mode ≡ true)
      three (inl f) = two (or_cases _ _ f)
      three (inr f) = inr (inr (inl f))

      less : (((is_alone m b || is_store b) || is_observable b) ≡ true) ⊎ (w.live ≡ true) → (is_alone m b ≡ true) ⊎ (is_store b ≡ true) ⊎ (is_observable b ≡ true) ⊎ (w.live ≡ true) ⊎ (is_barred mode ≡ true)
      less (inl f) = three (or_cases _ _ f)
      less (inr f) = inr (inr (inr (inl f)))

      four : ((((is_alone m b || is_store b) || is_observable b) || w.live) ≡ true) ⊎ (is_barred mode ≡ true) → (is_alone m b ≡ true) ⊎ (is_store b ≡ true) ⊎ (is_observable b ≡ true) ⊎ (w.live ≡ true) ⊎ (is_barred mode ≡ true)
      four (inl f) = less (or_cases _ _ f)
      four (inr f) = inr (inr (inr (inr f)))

  behind_join : JoinBetween t i j → ((is_observable b || leaves b) ≡ true) ⊎ (is_barred mode ≡ true) → TheRow 1
  behind_join between (inl e) = seen_behind_join between (or_cases _ _ e)
  behind_join between (inr e) = barred_below_join (is_barred_mode mode e) between

  behind_store : is_store a ≡ true → w.touch ≡ true → TheRow 1
  behind_store s e = let k = ways.touch e in access_behind_store s (or_cases _ _ k.lower) k.meet

  behind_row : stays_behind mode upper_traits lower_traits w ≡ true → TheRow 1
  behind_row e = by (or_cases _ _ e)
    where
      first : (w.touch && is_store a ≡ true) ⊎ (is_observable a && is_observable b ≡ true) → TheRow 1
      first (inl f) = let h = both _ _ f in behind_store h.1 h.0
      first (inr f) = let h = both _ _ f in both_observable h.0 h.1

      next : ((w.touch && is_store a) || (is_observable a && is_observable b) ≡ true) ⊎ (leaves a && stays_behind_split mode lower_traits w ≡ true) → TheRow 1
      next (inl f) = first (or_cases _ _ f)
      next (inr f) = let h = both _ _ f in behind_split h.0 (split_cases h.1)

      by : (((w.touch && is_store a) || (is_observable a && is_observable b)) || (leaves a && stays_behind_split mode lower_traits w) ≡ true) ⊎ (w.joined && stays_behind_join mode lower_traits ≡ true) → TheRow 1
      by (inl f) = next (or_cases _ _ f)
      by (inr f) = let h = both _ _ f in behind_join (ways.joined h.0) (or_cases _ _ h.1)

  below_load : is_load a ≡ true → MayTouch t i j upper_traits lower_traits → TheRow 0
  below_load l k = by (or_cases _ _ k.stores)
    where
      by : (is_store a ≡ true) ⊎ (is_store b ≡ true) → TheRow 0
      by (inl f) = absurd (load_alone a l f)
      by (inr f) = store_behind_load l f k.meet

  below_row : stays_below mode upper_traits lower_traits w ≡ true → TheRow 0
  below_row e = by (or_cases _ _ e)
    where
      keeps : leaves b ≡ true → (leaves a && not (is_alone m b) ≡ true) ⊎ (is_observable a ≡ true) → TheRow 0
      keeps l (inl f) = let h = both _ _ f in beside h.0 l h.1
      keeps l (inr f) = split_behind_observable f l

      split : leaves b ≡ true → (keeps_split upper_traits lower_traits ≡ true) ⊎ (is_barred mode ≡ true) → TheRow 0
      split l (inl f) = keeps l (or_cases _ _ f)
      split l (inr f) = barred_above_split (is_barred_mode mode f) l

      first : (has (written b) (values_read (read a)) ≡ true) ⊎ (w.touch && is_load a ≡ true) → TheRow 0
      first (inl f) = let v = has_value b (reads_of a) (sym (among_read b a) ∙ f) in writes_read v.value v.among v.writes
      first (inr f) = let h = both _ _ f in below_load h.1 (ways.touch h.0)

      by : (has (written b) (values_read (read a)) || (w.touch && is_load a) ≡ true) ⊎ (leaves b && (keeps_split upper_traits lower_traits || is_barred mode) ≡ true) → TheRow 0
      by (inl f) = first (or_cases _ _ f)
      by (inr f) = let h = both _ _ f in split h.0 (or_cases _ _ h.1)

  -- a row that applies is told by a test

  abbrev TheTold : ℕ → Type 0
  TheTold d = Told (are_tied upper_traits lower_traits w.last) (stays_behind mode upper_traits lower_traits w) (stays_below mode upper_traits lower_traits w) (latency_of m a) d

  is_last : (v : ℕ) → IsIn v (writes_of a) → IsLastWriter t v i j → w.last ≡ true
  is_last v i last = by w.last refl
    where
      by : (x : Bool) → w.last ≡ x → w.last ≡ true
      by true e = e
      by false e = absurd (ways.not_last e v i last)

  may_touch : MayTouch t i j upper_traits lower_traits → w.touch ≡ true
  may_touch k = by w.touch refl
    where
      by : (x : Bool) → w.touch ≡ x → w.touch ≡ true
      by true e = e
      by false e = absurd (ways.not_touch e k)

  has_joined : JoinBetween t i j → w.joined ≡ true
  has_joined k = by w.joined refl
    where
      by : (x : Bool) → w.joined ≡ x → w.joined ≡ true
      by true e = e
      by false e = absurd (ways.not_joined e k)

  lives_on : leaves a ≡ true → (v : ℕ) → IsIn v (live_off a) → IsIn v (writes_of b) → w.live ≡ true
  lives_on l v on i = by w.live refl
    where
      by : (x : Bool) → w.live ≡ x → w.live ≡ true
      by true e = e
      by false e = absurd (ways.not_live e l v on i)

  from_split : leaves a ≡ true → stays_behind_split mode lower_traits w ≡ true → stays_behind mode upper_traits lower_traits w ≡ true
  from_split l e = or_left _ _ (or_right _ _ (and_true _ _ l e))

  from_join : JoinBetween t i j → stays_behind_join mode lower_traits ≡ true → stays_behind mode upper_traits lower_traits w ≡ true
  from_join k e = or_right _ _ (and_true _ _ (has_joined k) e)

  barred : mode ≡ Barred → is_barred mode ≡ true
  barred e = ap is_barred e

  seen_split : (is_store b ≡ true) ⊎ (is_observable b ≡ true) → stays_behind_split mode lower_traits w ≡ true
  seen_split (inl e) = or_left _ _ (or_left _ _ (or_left _ _ (or_right _ _ e)))
  seen_split (inr e) = or_left _ _ (or_left _ _ (or_right _ _ e))

  seen_join : (is_observable b ≡ true) ⊎ (leaves b ≡ true) → stays_behind_join mode lower_traits ≡ true
  seen_join (inl e) = or_left _ _ (or_left _ _ e)
  seen_join (inr e) = or_left _ _ (or_right _ _ e)

  access : (is_load b ≡ true) ⊎ (is_store b ≡ true) → (is_load b || is_store b) ≡ true
  access (inl e) = or_left _ _ e
  access (inr e) = or_right _ _ e

  between : leaves a ≡ true → leaves b ≡ true → (one : Bool) → (m.branches == 1) ≡ one → TheTold (if one then 1 else 0)
  between x y true e = by_behind (from_split x (or_left _ _ (or_left _ _ (or_left _ _ (or_left _ _ (and_true _ _ y e))))))
  between x y false e = by_below (or_right _ _ (and_true _ _ y (or_left _ _ (or_left _ _ (and_true _ _ x (not_alone (leaves b) (m.branches == 1) e))))))

  told : {d : ℕ} → Row m mode t i j a b d → TheTold d
  told (reads_written v wa rb last) = by_tie (or_left _ _ (and_true _ _ (is_last v wa last) (among_read a b ∙ value_has a (reads_of b) v wa rb)))
  told (writes_written v wa wb) = by_tie (or_right _ _ (among_written a b ∙ value_has a (writes_of b) v wa wb))
  told (writes_read v ra wb) = by_below (or_left _ _ (or_left _ _ (among_read b a ∙ value_has b (reads_of a) v wb ra)))
  told (access_behind_store s x meet) =
      let k : MayTouch t i j upper_traits lower_traits = record { upper = or_right _ _ s; lower = access x; stores = or_left _ _ s; meet = meet } in
      by_behind (or_left _ _ (or_left _ _ (or_left _ _ (and_true _ _ (may_touch k) s))))
  told (store_behind_load l s meet) =
      let k : MayTouch t i j upper_traits lower_traits = record { upper = or_left _ _ l; lower = or_right _ _ s; stores = or_right _ _ s; meet = meet } in
      by_below (or_left _ _ (or_right _ _ (and_true _ _ (may_touch k) l)))
  told (both_observable x y) = by_behind (or_left _ _ (or_left _ _ (or_right _ _ (and_true _ _ x y))))
  told (both_splits x y) = between x y (m.branches == 1) refl
  told (seen_behind_split x y) = by_behind (from_split x (seen_split y))
  told (live_behind_split v x on wb) = by_behind (from_split x (or_left _ _ (or_right _ _ (lives_on x v on wb))))
  told (split_behind_observable x y) = by_below (or_right _ _ (and_true _ _ y (or_left _ _ (or_right _ _ x))))
  told (seen_behind_join k y) = by_behind (from_join k (seen_join y))
  told (barred_above_split e y) = by_below (or_right _ _ (and_true _ _ y (or_right _ _ (barred e))))
  told (barred_below_split e x) = by_behind (from_split x (or_right _ _ (barred e)))
  told (barred_below_join e k) = by_behind (from_join k (or_right _ _ (barred e)))

  -- the greatest

  module _ (in_order : i < j) (stands_one : Stands t i a) (stands_two : Stands t j b) where
    row_here : (d : ℕ) → Applies m mode t i j d → TheRow d
    row_here d p =
        let one : p.one ≡ a = some (sym p.stands_one ∙ stands_one) in
        let two : p.two ≡ b = some (sym p.stands_two ∙ stands_two) in
        subst (λ x. Row m mode t i j a x d) two (subst (λ x. Row m mode t i j x p.two d) one p.row)
      where
        some : {x y : TraceOp} → Some x ≡ Some y → x ≡ y
        some e = cc

    none : ((d : ℕ) → TheTold d → ⊥) → IsDelay m mode t i j None
    none nothing d p = nothing d (told (row_here d p))

    greatest : (d : ℕ) → TheRow d → ((e : ℕ) → TheTold e → e ≤ d) → IsGreatest m mode t i j d
    greatest d row most = record {
      applies = record { one = a; two = b; in_order = in_order; stands_one = stands_one; stands_two = stands_two; row = row };
      greatest = λ e p. most e (told (row_here e p));
    }

    higher_of : (l e : ℕ) → TheRow l → TheRow e → TheRow (max l e)
    higher_of l e r s = by (leb_tells l e)
      where
        by : ((nat_le l e ≡ true) × (l ≤ e)) ⊎ ((nat_le l e ≡ false) × (e < l)) → TheRow (max l e)
        by (inl h) = let u = h.1 in let k : e ≡ max l e = omega (arith, u) in subst TheRow k s
        by (inr h) = let u = h.1 in let k : l ≡ max l e = omega (arith, u) in subst TheRow k r

    abbrev answer : Bool → Bool → Bool → Option ℕ
    answer x y z = if x then at_least (latency_of m a) (if y then Some 1 else (if z then Some 0 else None)) else (if y then Some 1 else (if z then Some 0 else None))

    -- what is told is at most the answer

    at_most : (x y z : Bool) (l d : ℕ) → Told x y z l d → ((x ≡ true) × (d ≡ l)) ⊎ ((y ≡ true) × (d ≡ 1)) ⊎ ((z ≡ true) × (d ≡ 0))
    at_most x y z l _ (by_tie e) = inl (e, refl)
    at_most x y z l _ (by_behind e) = inr (inl (e, refl))
    at_most x y z l _ (by_below e) = inr (inr (e, refl))

    most_of : (x y z : Bool) (l d : ℕ) → (x ≡ true → l ≤ d) → (y ≡ true → 1 ≤ d) → (e : ℕ) → Told x y z l e → e ≤ d
    most_of x y z l d tie behind e (by_tie h) = tie h
    most_of x y z l d tie behind e (by_behind h) = behind h
    most_of x y z l d tie behind e (by_below h) = omega arith

    by : (x y z : Bool) → are_tied upper_traits lower_traits w.last ≡ x → stays_behind mode upper_traits lower_traits w ≡ y → stays_below mode upper_traits lower_traits w ≡ z → IsDelay m mode t i j (answer x y z)
    by true true z e f g =
        let l = latency_of m a in
        greatest (max l 1) (higher_of l 1 (tied_row (or_cases _ _ e)) (behind_row f)) (most_of _ _ _ l (max l 1) (λ h. omega arith) (λ h. omega arith))
    by true false true e f g =
        let l = latency_of m a in
        greatest (max l 0) (higher_of l 0 (tied_row (or_cases _ _ e)) (below_row g)) (most_of _ _ _ l (max l 0) (λ h. omega arith) (λ h. absurd (false≢true (sym f ∙ h))))
    by true false false e f g =
        let l = latency_of m a in
        greatest l (tied_row (or_cases _ _ e)) (most_of _ _ _ l l (λ h. omega arith) (λ h. absurd (false≢true (sym f ∙ h))))
    by false true z e f g = greatest 1 (behind_row f) (most_of _ _ _ (latency_of m a) 1 (λ h. absurd (false≢true (sym e ∙ h))) (λ h. omega arith))
    by false false true e f g = greatest 0 (below_row g) (most_of _ _ _ (latency_of m a) 0 (λ h. absurd (false≢true (sym e ∙ h))) (λ h. absurd (false≢true (sym f ∙ h))))
    by false false false e f g = none (λ d h. nothing d (at_most _ _ _ (latency_of m a) d h))
      where
        nothing : (d : ℕ) → ((are_tied upper_traits lower_traits w.last ≡ true) × (d ≡ latency_of m a)) ⊎ ((stays_behind mode upper_traits lower_traits w ≡ true) × (d ≡ 1)) ⊎ ((stays_below mode upper_traits lower_traits w ≡ true) × (d ≡ 0)) → ⊥
        nothing d (inl h) = false≢true (sym e ∙ h.0)
        nothing d (inr (inl h)) = false≢true (sym f ∙ h.0)
        nothing d (inr (inr h)) = false≢true (sym g ∙ h.0)

    pub is_delay : IsDelay m mode t i j (delay_of mode upper_traits lower_traits w)
    is_delay = by (are_tied upper_traits lower_traits w.last) (stays_behind mode upper_traits lower_traits w) (stays_below mode upper_traits lower_traits w) refl refl refl

    pub delay_is : (d : Option ℕ) → d ≡ delay_of mode upper_traits lower_traits w → IsDelay m mode t i j d
    delay_is d e = subst (IsDelay m mode t i j) (sym e) is_delay
