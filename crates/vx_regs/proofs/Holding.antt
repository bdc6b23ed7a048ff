-- The holders of registers, one after the other.
use Rattle.std.proofs.Common.{◌≡◌, ◌⊎◌, ◌<◌, ◌≤◌, ◌+◌, ◌==◌, ◌&&◌, ◌||◌, ℕ, zero, suc, Bool, true, false, Option, Some, None, List, [], ◌∷◌, ◌++◌, length, inl, inr, sym, ap, subst, refl, arith, ◌∙◌, nat_lt, lt-ltb}
use Rattle.std.specs.Prelude.{if◌then◌else◌, slice_get, slice_index_or, slice_set}
use Rattle.std.proofs.lemmas.Option.{slice_get_within}
use Rattle.vx_regs.specs.declared.map.Kept.{Kept}
use Rattle.vx_regs.specs.declared.map.Kept.TheVariants.{InRegister, InSlot}
use Rattle.vx_regs.specs.Spans.Gives.{takes, refused, evicts}
use Rattle.std.proofs.lemmas.Bool.{cases_lt, eqb-true, eq-eqb, leb-true, leb-false, ltb-true}
use Rattle.vx_regs.specs.declared.scan.Last.{Last}
use Rattle.vx_regs.specs.declared.spans.Span.{Span}
use Rattle.vx_regs.specs.Held.{IsLast, goes_on, later, outlasts}
use Rattle.vx_regs.specs.Spans.{AllHeld, FreeFrom, Gives, Holds, Outlasts}

-- the registers so far are held up to a place
pub record HeldUpTo (held : List (Option Span)) (place count : ℕ) : Type 0 where
  pub all : (i : ℕ) → i < count → (s : Span) × Holds held i s × (place ≤ s.to)

pub none_so_far : (held : List (Option Span)) (place : ℕ) → HeldUpTo held place 0
none_so_far held place = record { all = λ i h. absurd (let g : i < 0 = h in omega arith) }

got : (held : List (Option Span)) (i : ℕ) (d : Option Span) → i < length held → slice_get held i ≡ Some (slice_index_or held i d)
got [] i d h = absurd (let g : i < 0 = h in omega arith)
got (x ∷ xs) zero d h = refl
got (x ∷ xs) (suc i) d h = got xs i d (omega arith)

on_is : (held : List (Option Span)) (place i : ℕ) (x : Option Span) → slice_get held i ≡ Some x → goes_on x place ≡ true → (s : Span) × Holds held i s × (place ≤ s.to)
on_is held place i None g h = absurd (let e : false ≡ true = h in cc)
on_is held place i (Some s) g h = (s, record { holder = g }, leb-true place s.to h)

some_is : {A : Type 0} {x y : A} → Some x ≡ Some y → x ≡ y
some_is e = cc

off_is : (held : List (Option Span)) (place i : ℕ) (x : Option Span) (s : Span) → slice_get held i ≡ Some x → goes_on x place ≡ false → Holds held i s → s.to < place
off_is held place i None s g h a = absurd (let e : Some None ≡ Some (Some s) = sym g ∙ a.holder in let f : None ≡ Some s = some_is e in cc)
off_is held place i (Some t) s g h a =
    let e : Some (Some t) ≡ Some (Some s) = sym g ∙ a.holder in
    let f : t ≡ s = some_is (some_is e) in
    subst (λ z. z.to < place) f (leb-false place t.to h)

pub found_free : (held : List (Option Span)) (place i : ℕ) (d : Option Span) → i < length held → goes_on (slice_index_or held i d) place ≡ false → FreeFrom held place i
found_free held place i d h e = record { is_register = h; ended = λ s a. off_is held place i (slice_index_or held i d) s (got held i d h) e a }

pub one_more : (held : List (Option Span)) (place i : ℕ) (d : Option Span) → i < length held → goes_on (slice_index_or held i d) place ≡ true → HeldUpTo held place i → HeldUpTo held place (i + 1)
one_more held place i d h e u = record { all = λ j g. by j g (cases_lt j i) }
  where
    by : (j : ℕ) → j < i + 1 → (j < i) ⊎ (i ≤ j) → (s : Span) × Holds held j s × (place ≤ s.to)
    by j g (inl a) = u.all j a
    by j g (inr b) = let same : i ≡ j = omega arith in subst (λ k. (s : Span) × Holds held k s × (place ≤ s.to)) same (on_is held place i (slice_index_or held i d) (got held i d h) e)

pub all_held : (held : List (Option Span)) (place i : ℕ) → length held ≤ i → HeldUpTo held place i → AllHeld held place
all_held held place i h u = record { all = λ j g. u.all j (omega arith) }

-- which span outlasts which

outlasts_is : (s t : Span) → outlasts s t ≡ true → Outlasts s t
outlasts_is s t e = by (nat_lt t.to s.to) refl
  where
    two : (x : Bool) → ((t.to == s.to) ≡ x) → (x && nat_lt s.value t.value) ≡ true → Outlasts s t
    two true a h = inr (eqb-true t.to s.to a, ltb-true s.value t.value h)
    two false a h = absurd (let f : false ≡ true = h in cc)

    by : (x : Bool) → nat_lt t.to s.to ≡ x → Outlasts s t
    by true a = inl (ltb-true t.to s.to a)
    by false a = two (t.to == s.to) refl (sym (ap (λ z. z || ((t.to == s.to) && nat_lt s.value t.value)) a) ∙ e)

outlasts_not : (s t : Span) → outlasts s t ≡ false → Outlasts s t → ⊥
outlasts_not s t e (inl h) =
    let a : true ≡ false = sym (ap (λ z. z || ((t.to == s.to) && nat_lt s.value t.value)) (lt-ltb t.to s.to h)) ∙ e in cc
outlasts_not s t e (inr h) = by (nat_lt t.to s.to) refl
  where
    by : (x : Bool) → nat_lt t.to s.to ≡ x → ⊥
    by true a = let b = ltb-true t.to s.to a in let c = h.0 in omega arith
    by false a =
        let b : ((t.to == s.to) && nat_lt s.value t.value) ≡ false = sym (ap (λ z. z || ((t.to == s.to) && nat_lt s.value t.value)) a) ∙ e in
        let c : (true && nat_lt s.value t.value) ≡ false = sym (ap (λ z. z && nat_lt s.value t.value) (eq-eqb t.to s.to h.0)) ∙ b in
        let d : true ≡ false = sym (lt-ltb s.value t.value h.1) ∙ c in cc

outlasts_both : (r s t : Span) → Outlasts r s → Outlasts s t → Outlasts r t
outlasts_both r s t (inl a) (inl b) = inl (omega arith)
outlasts_both r s t (inl a) (inr b) = let c = b.0 in inl (omega arith)
outlasts_both r s t (inr a) (inl b) = let c = a.0 in inl (omega arith)
outlasts_both r s t (inr a) (inr b) = let c = a.0 in let d = b.0 in let e = a.1 in let f = b.1 in inr (omega arith, omega arith)

pub last_first : (held : List (Option Span)) (span : Span) → IsLast held span 0 (record { register = None; span = span })
last_first held span = record {
  own = λ e. refl;
  holds = λ i e. absurd (let f : None ≡ Some i = e in cc);
  longer = λ i e. absurd (let f : None ≡ Some i = e in cc);
  none = λ j s h. absurd (let g : j < 0 = h in omega arith);
}

last_is : (held : List (Option Span)) (span : Span) (i : ℕ) (last : Last) (x : Option Span) → slice_get held i ≡ Some x → IsLast held span i last → IsLast held span (i + 1) (later last i x)
last_is held span i last None g l = record {
  own = l.own;
  holds = l.holds;
  longer = l.longer;
  none = λ j s h a. by j s h a (cases_lt j i);
}
  where
    by : (j : ℕ) (s : Span) → j < i + 1 → Holds held j s → (j < i) ⊎ (i ≤ j) → Outlasts s last.span → ⊥
    by j s h a (inl b) = l.none j s b a
    by j s h a (inr b) = absurd (
        let same : j ≡ i = omega arith in
        let e : Some None ≡ Some (Some s) = sym g ∙ subst (λ k. slice_get held k ≡ Some (Some s)) same a.holder in
        let f : None ≡ Some s = some_is e in cc)
last_is held span i last (Some t) g l = by (outlasts t last.span) refl
  where
    is_there : (j : ℕ) (s : Span) → j < i + 1 → i ≤ j → Holds held j s → t ≡ s
    is_there j s h b a =
        let same : j ≡ i = omega arith in
        let e : Some (Some t) ≡ Some (Some s) = sym g ∙ subst (λ k. slice_get held k ≡ Some (Some s)) same a.holder in
        some_is (some_is e)

    old : outlasts t last.span ≡ false → (j : ℕ) (s : Span) → j < i + 1 → Holds held j s → (j < i) ⊎ (i ≤ j) → Outlasts s last.span → ⊥
    old e j s h a (inl b) = l.none j s b a
    old e j s h a (inr b) = subst (λ z. Outlasts z last.span → ⊥) (is_there j s h b a) (outlasts_not t last.span e)

    more : outlasts t last.span ≡ true → (o : Option ℕ) → last.register ≡ o → Outlasts t span
    more e None n = subst (Outlasts t) (l.own n) (outlasts_is t last.span e)
    more e (Some k) n = outlasts_both t last.span span (outlasts_is t last.span e) (l.longer k n)

    now : outlasts t last.span ≡ true → (j : ℕ) (s : Span) → j < i + 1 → Holds held j s → (j < i) ⊎ (i ≤ j) → Outlasts s t → ⊥
    now e j s h a (inl b) o = l.none j s b a (outlasts_both s t last.span o (outlasts_is t last.span e))
    now e j s h a (inr b) o = irreflexive (subst (λ z. Outlasts z t) (sym (is_there j s h b a)) o)
      where
        irreflexive : Outlasts t t → ⊥
        irreflexive (inl c) = omega arith
        irreflexive (inr c) = let d = c.1 in omega arith

    by : (x : Bool) → outlasts t last.span ≡ x → IsLast held span (i + 1) (if x then record { register = Some i; span = t } else last)
    by true e = record {
      own = λ n. absurd (let f : Some i ≡ None = n in cc);
      holds = λ k n. subst (λ z. Holds held z t) (let f : Some i ≡ Some k = n in some_is f) (record { holder = g });
      longer = λ k n. more e last.register refl;
      none = λ j s h a. now e j s h a (cases_lt j i);
    }
    by false e = record {
      own = l.own;
      holds = l.holds;
      longer = l.longer;
      none = λ j s h a. old e j s h a (cases_lt j i);
    }

pub last_next : (held : List (Option Span)) (span : Span) (i : ℕ) (last : Last) (d : Option Span) → i < length held → IsLast held span i last → IsLast held span (i + 1) (later last i (slice_index_or held i d))
last_next held span i last d h l = last_is held span i last (slice_index_or held i d) (got held i d h) l

-- what a span gets

pub gives_free : (span : Span) (first next : ℕ) (held new_held : List (Option Span)) (kept new_kept : List Kept) (i : ℕ) → FreeFrom held span.from i → new_held ≡ slice_set held i (Some span) → new_kept ≡ slice_set kept span.value (InRegister (first + i)) → Gives span first held kept next new_held new_kept next
gives_free span first next held new_held kept new_kept i free a b = takes i free a b refl

pub last_within : (held : List (Option Span)) (span : Span) (last : Last) (i : ℕ) → IsLast held span (length held) last → last.register ≡ Some i → i < length held
last_within held span last i l e = let h = l.holds i e in slice_get_within held i (Some last.span) h.holder

pub gives_slot : (span : Span) (first next new : ℕ) (held : List (Option Span)) (kept new_kept : List Kept) (last : Last) → AllHeld held span.from → IsLast held span (length held) last → last.register ≡ None → new_kept ≡ slice_set kept span.value (InSlot next) → new ≡ next + 1 → Gives span first held kept next held new_kept new
gives_slot span first next new held kept new_kept last all l e k n =
    refused all (λ i s h o. l.none i s (let x = h.holder in slice_get_within held i (Some s) x) h (subst (Outlasts s) (sym (l.own e)) o)) refl k (omega arith)

pub gives_its : (span : Span) (first next new : ℕ) (held new_held : List (Option Span)) (kept between new_kept : List Kept) (last : Last) (i : ℕ) → AllHeld held span.from → IsLast held span (length held) last → last.register ≡ Some i → between ≡ slice_set kept last.span.value (InSlot next) → new_held ≡ slice_set held i (Some span) → new_kept ≡ slice_set between span.value (InRegister (first + i)) → new ≡ next + 1 → Gives span first held kept next new_held new_kept new
gives_its span first next new held new_held kept between new_kept last i all l e b h k n =
    evicts i last.span all (l.holds i e) (l.longer i e) (λ j s a o. l.none j s (let x = a.holder in slice_get_within held j (Some s) x) a o) h (k ∙ ap (λ z. slice_set z span.value (InRegister (first + i))) b) (omega arith)

-- one free register more
pub none_held : (held : List (Option Span)) → ((i : ℕ) (s : Span) → Holds held i s → ⊥) → (i : ℕ) (s : Span) → Holds (held ++ None ∷ []) i s → ⊥
none_held [] free zero s h = let e : Some None ≡ Some (Some s) = h.holder in absurd (cc)
none_held [] free (suc i) s h = let e : None ≡ Some (Some s) = h.holder in absurd (cc)
none_held (x ∷ held) free zero s h = free 0 s (record { holder = h.holder })
none_held (x ∷ held) free (suc i) s h = none_held held (λ j t k. free (suc j) t (record { holder = k.holder })) i s (record { holder = h.holder })
