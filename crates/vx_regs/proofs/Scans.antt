-- The scan of spans from left to right, one span after the other.
use Rattle.std.proofs.Common.{◌≡◌, ◌≢◌, ◌⊎◌, ◌<◌, ◌≤◌, ◌+◌, ◌-◌, ◌==◌, ℕ, zero, suc, true, false, Option, Some, None, List, [], ◌∷◌, length, map, inl, inr, sym, ap, subst, refl, arith, ◌∙◌}
use Rattle.std.specs.Prelude.{slice_get, slice_set}
use Rattle.std.proofs.lemmas.Bool.Decides.{eqb_tells}
use Rattle.std.proofs.lemmas.List.{get_or-set_same, get_or-set_other, length-set}
use Rattle.vx_flow.specs.Effects.{IsIn}
use Rattle.vx_isa.specs.Numbers.{Numbers}
use Rattle.vx_mixed.specs.Settled.{NoTwice}
use Rattle.vx_regs.specs.declared.map.Kept.{Kept}
use Rattle.vx_regs.specs.declared.map.Kept.TheVariants.{InRegister, InSlot, Nowhere}
use Rattle.vx_regs.specs.declared.spans.Span.{Span}
use Rattle.vx_regs.specs.Mapped.{first_of, end_of, allocatable}
use Rattle.vx_regs.specs.Spans.Gives.{takes, refused, evicts}
use Rattle.vx_regs.specs.Spans.{AllHeld, Covers, FreeFrom, Full, Gives, Holds, Rising, Scannable, Scanned, TurnsTo, bank_of_file, kept_at, value_of}

-- either the same number or another
same_or : (a b : ℕ) → (a ≡ b) ⊎ (a ≢ b)
same_or a b = by (eqb_tells a b)
  where
    by : (((a == b) ≡ true) × (a ≡ b)) ⊎ (((a == b) ≡ false) × (a ≡ b → ⊥)) → (a ≡ b) ⊎ (a ≢ b)
    by (inl g) = inl g.1
    by (inr g) = inr g.1

some_is : {A : Type 0} {x y : A} → Some x ≡ Some y → x ≡ y
some_is e = cc

number_is : {a b : ℕ} → InRegister a ≡ InRegister b → a ≡ b
number_is e = cc

slot_is : {a b : ℕ} → InSlot a ≡ InSlot b → a ≡ b
slot_is e = cc

not_both : {a b : ℕ} → InRegister a ≡ InSlot b → ⊥
not_both e = cc

no_register : {a : ℕ} → Nowhere ≡ InRegister a → ⊥
no_register e = cc

no_slot : {a : ℕ} → Nowhere ≡ InSlot a → ⊥
no_slot e = cc

-- lists in which one place is set

kept_there : (kept : List Kept) (v : ℕ) (x : Kept) → v < length kept → kept_at (slice_set kept v x) v ≡ x
kept_there kept v x h = get_or-set_same kept v x Nowhere h

kept_else : (kept : List Kept) (v u : ℕ) (x : Kept) → u ≢ v → kept_at (slice_set kept v x) u ≡ kept_at kept u
kept_else kept v u x h = get_or-set_other kept v u x Nowhere h

held_there : (held : List (Option Span)) (i : ℕ) (x : Option Span) → i < length held → slice_get (slice_set held i x) i ≡ Some x
held_there [] i x h = absurd (let g : i < 0 = h in omega arith)
held_there (y ∷ ys) zero x h = refl
held_there (y ∷ ys) (suc i) x h = held_there ys i x (omega arith)

held_else : (held : List (Option Span)) (i j : ℕ) (x : Option Span) → j ≢ i → slice_get (slice_set held i x) j ≡ slice_get held j
held_else [] i j x h = refl
held_else (y ∷ ys) zero zero x h = absurd (h (let z : zero ≡ zero = refl in z))
held_else (y ∷ ys) zero (suc j) x h = refl
held_else (y ∷ ys) (suc i) zero x h = refl
held_else (y ∷ ys) (suc i) (suc j) x h = held_else ys i j x (λ e. h (ap suc e))

held_within : (held : List (Option Span)) (i : ℕ) (x : Option Span) → slice_get held i ≡ Some x → i < length held
held_within [] i x e = absurd (let f : None ≡ Some x = e in cc)
held_within (y ∷ ys) zero x e = omega arith
held_within (y ∷ ys) (suc i) x e = let h = held_within ys i x e in omega arith

-- spans of which no two are of one value

named_in : (s : Span) (spans : List Span) → IsIn s spans → IsIn s.value (map value_of spans)
named_in s [] i = absurd i
named_in s (t ∷ ts) (inl e) = inl (ap value_of e)
named_in s (t ∷ ts) (inr i) = inr (named_in s ts i)

pub one_each : (spans : List Span) → NoTwice (map value_of spans) → (s t : Span) → IsIn s spans → IsIn t spans → s.value ≡ t.value → s ≡ t
one_each [] n s t i j e = absurd i
one_each (x ∷ xs) n s t (inl a) (inl b) e = a ∙ sym b
one_each (x ∷ xs) n s t (inl a) (inr j) e = absurd (n.0 (subst (λ z. IsIn z (map value_of xs)) (sym e ∙ ap value_of a) (named_in t xs j)))
one_each (x ∷ xs) n s t (inr i) (inl b) e = absurd (n.0 (subst (λ z. IsIn z (map value_of xs)) (e ∙ ap value_of b) (named_in s xs i)))
one_each (x ∷ xs) n s t (inr i) (inr j) e = one_each xs n.1 s t i j e

-- what is held is of the file, and kept in that register
pub record Holder (m : Numbers) (spans : List Span) (file from : ℕ) (kept : List Kept) (i : ℕ) (s : Span) : Type 0 where
  pub known : IsIn s spans
  pub filed : s.file ≡ file
  pub begins : s.from ≤ from
  pub there : kept_at kept s.value ≡ InRegister (first_of m (bank_of_file file) + i)

-- what stands when the spans above `from` in a file have been scanned, and those of the files before it
pub record Scanning (m : Numbers) (spans : List Span) (file from : ℕ) (held : List (Option Span)) (kept : List Kept) (next : ℕ) : Type 0 where
  pub room : length held ≡ allocatable m (bank_of_file file)
  pub inside : (s : Span) → IsIn s spans → s.value < length kept
  pub holds : (i : ℕ) (s : Span) → Holds held i s → Holder m spans file from kept i s
  pub registers : (s : Span) (n : ℕ) → IsIn s spans → kept_at kept s.value ≡ InRegister n → (first_of m (bank_of_file s.file) ≤ n) × (n < end_of m (bank_of_file s.file))
  pub apart : (s t : Span) (n : ℕ) → IsIn s spans → IsIn t spans → s.value ≢ t.value → s.file ≡ t.file → kept_at kept s.value ≡ InRegister n → kept_at kept t.value ≡ InRegister n → (s.to < t.from) ⊎ (t.to < s.from)
  pub latest : (s : Span) (i : ℕ) → IsIn s spans → s.file ≡ file → kept_at kept s.value ≡ InRegister (first_of m (bank_of_file file) + i) → (s.to < from) ⊎ Holds held i s
  pub earlier : (s : Span) → IsIn s spans → kept_at kept s.value ≢ Nowhere → s.file ≤ file
  pub slots : (u v k : ℕ) → kept_at kept u ≡ InSlot k → kept_at kept v ≡ InSlot k → u ≡ v
  pub fresh : (u k : ℕ) → kept_at kept u ≡ InSlot k → k < next
  pub forced : (v k : ℕ) → kept_at kept v ≡ InSlot k → Full m spans v
  pub only : (v n : ℕ) → kept_at kept v ≡ InRegister n → (s : Span) × (s.value ≡ v) × IsIn s spans

module _ (m : Numbers) (spans : List Span) (once : NoTwice (map value_of spans)) where
  -- a value goes to the next slot
  slotted : (file from : ℕ) (held new_held : List (Option Span)) (kept : List Kept) (next : ℕ) (s : Span)
      → Scanning m spans file from held kept next → IsIn s spans → s.file ≤ file → Full m spans s.value
      → length new_held ≡ length held
      → ((i : ℕ) (t : Span) → Holds new_held i t → Holds held i t × (t.value ≢ s.value))
      → ((i : ℕ) (t : Span) → Holds held i t → t.value ≢ s.value → Holds new_held i t)
      → Scanning m spans file from new_held (slice_set kept s.value (InSlot next)) (suc next)
  slotted file from held new_held kept next s g is_in before full long old back = record {
    room = long ∙ g.room;
    inside = λ t i. subst (λ n. t.value < n) (sym (length-set kept s.value (InSlot next))) (g.inside t i);
    holds = λ i t h. let o = old i t h in let p = g.holds i t o.0 in record { known = p.known; filed = p.filed; begins = p.begins; there = kept_else kept s.value t.value (InSlot next) o.1 ∙ p.there };
    registers = λ t n i e. g.registers t n i (as_before t.value n e);
    apart = λ t u n i j ne f a b. g.apart t u n i j ne f (as_before t.value n a) (as_before u.value n b);
    latest = λ t i is f e. still t i (g.latest t i is f (as_before t.value _ e)) (other t.value _ e);
    earlier = λ t i e. early t i e (same_or t.value s.value);
    slots = λ u v k a b. once_each u v k a b (same_or u s.value) (same_or v s.value);
    fresh = λ u k e. new u k e (same_or u s.value);
    forced = λ v k e. why v k e (same_or v s.value);
    only = λ v n e. g.only v n (as_before v n e);
  }
    where
      set : kept_at (slice_set kept s.value (InSlot next)) s.value ≡ InSlot next
      set = kept_there kept s.value (InSlot next) (g.inside s is_in)

      other : (v n : ℕ) → kept_at (slice_set kept s.value (InSlot next)) v ≡ InRegister n → v ≢ s.value
      other v n e same = not_both (sym e ∙ ap (kept_at (slice_set kept s.value (InSlot next))) same ∙ set)

      as_before : (v n : ℕ) → kept_at (slice_set kept s.value (InSlot next)) v ≡ InRegister n → kept_at kept v ≡ InRegister n
      as_before v n e = sym (kept_else kept s.value v (InSlot next) (other v n e)) ∙ e

      still : (t : Span) (i : ℕ) → (t.to < from) ⊎ Holds held i t → t.value ≢ s.value → (t.to < from) ⊎ Holds new_held i t
      still t i (inl a) ne = inl a
      still t i (inr h) ne = inr (back i t h ne)

      early : (t : Span) → IsIn t spans → kept_at (slice_set kept s.value (InSlot next)) t.value ≢ Nowhere → (t.value ≡ s.value) ⊎ (t.value ≢ s.value) → t.file ≤ file
      early t i e (inl same) = subst (λ z. z.file ≤ file) (sym (one_each spans once t s i is_in same)) before
      early t i e (inr ne) = g.earlier t i (λ z. e (kept_else kept s.value t.value (InSlot next) ne ∙ z))

      slot_before : (v k : ℕ) → v ≢ s.value → kept_at (slice_set kept s.value (InSlot next)) v ≡ InSlot k → kept_at kept v ≡ InSlot k
      slot_before v k ne e = sym (kept_else kept s.value v (InSlot next) ne) ∙ e

      slot_now : (v k : ℕ) → v ≡ s.value → kept_at (slice_set kept s.value (InSlot next)) v ≡ InSlot k → k ≡ next
      slot_now v k same e = slot_is (sym e ∙ ap (kept_at (slice_set kept s.value (InSlot next))) same ∙ set)

      once_each : (u v k : ℕ) → kept_at (slice_set kept s.value (InSlot next)) u ≡ InSlot k → kept_at (slice_set kept s.value (InSlot next)) v ≡ InSlot k → (u ≡ s.value) ⊎ (u ≢ s.value) → (v ≡ s.value) ⊎ (v ≢ s.value) → u ≡ v
      once_each u v k a b (inl c) (inl d) = c ∙ sym d
      once_each u v k a b (inl c) (inr d) = absurd (let x = slot_now u k c a in let y = g.fresh v k (slot_before v k d b) in omega arith)
      once_each u v k a b (inr c) (inl d) = absurd (let x = slot_now v k d b in let y = g.fresh u k (slot_before u k c a) in omega arith)
      once_each u v k a b (inr c) (inr d) = g.slots u v k (slot_before u k c a) (slot_before v k d b)

      new : (u k : ℕ) → kept_at (slice_set kept s.value (InSlot next)) u ≡ InSlot k → (u ≡ s.value) ⊎ (u ≢ s.value) → k < suc next
      new u k e (inl same) = let x = slot_now u k same e in omega arith
      new u k e (inr ne) = let y = g.fresh u k (slot_before u k ne e) in omega arith

      why : (v k : ℕ) → kept_at (slice_set kept s.value (InSlot next)) v ≡ InSlot k → (v ≡ s.value) ⊎ (v ≢ s.value) → Full m spans v
      why v k e (inl same) = subst (Full m spans) (sym same) full
      why v k e (inr ne) = g.forced v k (slot_before v k ne e)

  -- a span that is kept nowhere takes a register that is free where it begins
  taken : (file from : ℕ) (held : List (Option Span)) (kept : List Kept) (next i : ℕ) (s : Span)
      → Scanning m spans file from held kept next → IsIn s spans → s.file ≡ file → from ≤ s.from → kept_at kept s.value ≡ Nowhere
      → FreeFrom held s.from i
      → Scanning m spans file s.from (slice_set held i (Some s)) (slice_set kept s.value (InRegister (first_of m (bank_of_file file) + i))) next
  taken file from held kept next i s g is_in filed later nowhere free = record {
    room = length-set held i (Some s) ∙ g.room;
    inside = λ t j. subst (λ n. t.value < n) (sym (length-set kept s.value _)) (g.inside t j);
    holds = λ j t h. holding j t h (same_or j i);
    registers = λ t n j e. in_range t n j e (same_or t.value s.value);
    apart = λ t u n j k ne f a b. two t u n j k ne f a b (same_or t.value s.value) (same_or u.value s.value);
    latest = λ t j is f e. last t j is f e (same_or t.value s.value);
    earlier = λ t j e. early t j e (same_or t.value s.value);
    slots = λ u v k a b. g.slots u v k (slot_before u k a) (slot_before v k b);
    fresh = λ u k e. g.fresh u k (slot_before u k e);
    forced = λ v k e. g.forced v k (slot_before v k e);
    only = λ v n e. which v n e (same_or v s.value);
  }
    where
      first : ℕ
      first = first_of m (bank_of_file file)

      new : List Kept
      new = slice_set kept s.value (InRegister (first_of m (bank_of_file file) + i))

      set : kept_at (slice_set kept s.value (InRegister (first_of m (bank_of_file file) + i))) s.value ≡ InRegister (first_of m (bank_of_file file) + i)
      set = kept_there kept s.value (InRegister (first_of m (bank_of_file file) + i)) (g.inside s is_in)

      else_ : (v : ℕ) → v ≢ s.value → kept_at (slice_set kept s.value (InRegister (first_of m (bank_of_file file) + i))) v ≡ kept_at kept v
      else_ v ne = kept_else kept s.value v (InRegister (first_of m (bank_of_file file) + i)) ne

      now : (v n : ℕ) → v ≡ s.value → kept_at (slice_set kept s.value (InRegister (first_of m (bank_of_file file) + i))) v ≡ InRegister n → n ≡ first_of m (bank_of_file file) + i
      now v n same e = number_is (sym e ∙ ap (kept_at (slice_set kept s.value (InRegister (first_of m (bank_of_file file) + i)))) same ∙ set)

      slot_before : (v k : ℕ) → kept_at (slice_set kept s.value (InRegister (first_of m (bank_of_file file) + i))) v ≡ InSlot k → kept_at kept v ≡ InSlot k
      slot_before v k e = by (same_or v s.value)
        where
          by : (v ≡ s.value) ⊎ (v ≢ s.value) → kept_at kept v ≡ InSlot k
          by (inl same) = absurd (not_both (sym set ∙ ap (kept_at (slice_set kept s.value (InRegister (first_of m (bank_of_file file) + i)))) (sym same) ∙ e))
          by (inr ne) = sym (else_ v ne) ∙ e

      held_before : (t : Span) (n : ℕ) → kept_at kept t.value ≡ InRegister n → t.value ≢ s.value
      held_before t n e same = no_register (sym nowhere ∙ ap (kept_at kept) (sym same) ∙ e)

      holding : (j : ℕ) (t : Span) → Holds (slice_set held i (Some s)) j t → (j ≡ i) ⊎ (j ≢ i) → Holder m spans file s.from (slice_set kept s.value (InRegister (first_of m (bank_of_file file) + i))) j t
      holding j t h (inl same) =
          let e : Some (Some s) ≡ Some (Some t) = sym (held_there held i (Some s) free.is_register) ∙ ap (slice_get (slice_set held i (Some s))) (sym same) ∙ h.holder in
          let f : s ≡ t = some_is (some_is e) in
          subst (Holder m spans file s.from (slice_set kept s.value (InRegister (first_of m (bank_of_file file) + i))) j) f
          (record { known = is_in; filed = filed; begins = omega arith; there = subst (λ k. kept_at (slice_set kept s.value (InRegister (first_of m (bank_of_file file) + i))) s.value ≡ InRegister (first_of m (bank_of_file file) + k)) (sym same) set })
      holding j t h (inr ne) =
          let o : Holds held j t = record { holder = sym (held_else held i j (Some s) ne) ∙ h.holder } in
          let p = g.holds j t o in
          let b = p.begins in
          record { known = p.known; filed = p.filed; begins = omega arith; there = else_ t.value (held_before t _ p.there) ∙ p.there }

      in_range : (t : Span) (n : ℕ) → IsIn t spans → kept_at (slice_set kept s.value (InRegister (first_of m (bank_of_file file) + i))) t.value ≡ InRegister n → (t.value ≡ s.value) ⊎ (t.value ≢ s.value) → (first_of m (bank_of_file t.file) ≤ n) × (n < end_of m (bank_of_file t.file))
      in_range t n j e (inl same) =
          let x : n ≡ first_of m (bank_of_file file) + i = now t.value n same e in
          let y : t.file ≡ file = ap (λ z. z.file) (one_each spans once t s j is_in same) ∙ filed in
          let r : length held ≡ end_of m (bank_of_file file) - first_of m (bank_of_file file) = g.room in
          let f : i < length held = free.is_register in
          let low : first_of m (bank_of_file file) ≤ n = omega arith in
          let high : n < end_of m (bank_of_file file) = omega arith in
          subst (λ z. (first_of m (bank_of_file z) ≤ n) × (n < end_of m (bank_of_file z))) (sym y) (low, high)
      in_range t n j e (inr ne) = g.registers t n j (sym (else_ t.value ne) ∙ e)

      -- those that were kept in the register end before the new one
      before : (t : Span) (n : ℕ) → IsIn t spans → t.file ≡ file → t.value ≢ s.value → kept_at kept t.value ≡ InRegister n → n ≡ first_of m (bank_of_file file) + i → t.to < s.from
      before t n j f ne e same = by (g.latest t i j f (e ∙ ap InRegister same))
        where
          by : (t.to < from) ⊎ Holds held i t → t.to < s.from
          by (inl a) = omega arith
          by (inr h) = free.ended t h

      two : (t u : Span) (n : ℕ) → IsIn t spans → IsIn u spans → t.value ≢ u.value → t.file ≡ u.file
          → kept_at (slice_set kept s.value (InRegister (first_of m (bank_of_file file) + i))) t.value ≡ InRegister n
          → kept_at (slice_set kept s.value (InRegister (first_of m (bank_of_file file) + i))) u.value ≡ InRegister n
          → (t.value ≡ s.value) ⊎ (t.value ≢ s.value) → (u.value ≡ s.value) ⊎ (u.value ≢ s.value) → (t.to < u.from) ⊎ (u.to < t.from)
      two t u n j k ne f a b (inl c) (inl d) = absurd (ne (c ∙ sym d))
      two t u n j k ne f a b (inl c) (inr d) =
          let is : t ≡ s = one_each spans once t s j is_in c in
          let y : u.file ≡ file = sym f ∙ ap (λ z. z.file) is ∙ filed in
          let r : u.to < s.from = before u n k y d (sym (else_ u.value d) ∙ b) (now t.value n c a) in
          inr (subst (λ z. u.to < z.from) (sym is) r)
      two t u n j k ne f a b (inr c) (inl d) =
          let is : u ≡ s = one_each spans once u s k is_in d in
          let y : t.file ≡ file = f ∙ ap (λ z. z.file) is ∙ filed in
          let r : t.to < s.from = before t n j y c (sym (else_ t.value c) ∙ a) (now u.value n d b) in
          inl (subst (λ z. t.to < z.from) (sym is) r)
      two t u n j k ne f a b (inr c) (inr d) = g.apart t u n j k ne f (sym (else_ t.value c) ∙ a) (sym (else_ u.value d) ∙ b)

      last : (t : Span) (j : ℕ) → IsIn t spans → t.file ≡ file → kept_at (slice_set kept s.value (InRegister (first_of m (bank_of_file file) + i))) t.value ≡ InRegister (first_of m (bank_of_file file) + j) → (t.value ≡ s.value) ⊎ (t.value ≢ s.value) → (t.to < s.from) ⊎ Holds (slice_set held i (Some s)) j t
      last t j is f e (inl same) =
          let x : first_of m (bank_of_file file) + j ≡ first_of m (bank_of_file file) + i = now t.value (first_of m (bank_of_file file) + j) same e in
          let y : i ≡ j = omega arith in
          let z : s ≡ t = sym (one_each spans once t s is is_in same) in
          let w : slice_get (slice_set held i (Some s)) i ≡ Some (Some s) = held_there held i (Some s) free.is_register in
          inr (record { holder = ap (slice_get (slice_set held i (Some s))) (sym y) ∙ w ∙ ap (λ q. Some (Some q)) z })
      last t j is f e (inr ne) = by (same_or j i)
        where
          old : kept_at kept t.value ≡ InRegister (first_of m (bank_of_file file) + j)
          old = sym (else_ t.value ne) ∙ e

          kept_on : j ≢ i → (t.to < from) ⊎ Holds held j t → (t.to < s.from) ⊎ Holds (slice_set held i (Some s)) j t
          kept_on d (inl a) = inl (omega arith)
          kept_on d (inr h) = inr (record { holder = held_else held i j (Some s) d ∙ h.holder })

          by : (j ≡ i) ⊎ (j ≢ i) → (t.to < s.from) ⊎ Holds (slice_set held i (Some s)) j t
          by (inl same) = inl (before t (first_of m (bank_of_file file) + j) is f ne old (ap (λ k. first_of m (bank_of_file file) + k) same))
          by (inr d) = kept_on d (g.latest t j is f old)

      early : (t : Span) → IsIn t spans → kept_at (slice_set kept s.value (InRegister (first_of m (bank_of_file file) + i))) t.value ≢ Nowhere → (t.value ≡ s.value) ⊎ (t.value ≢ s.value) → t.file ≤ file
      early t j e (inl same) = let x : t.file ≡ file = ap (λ z. z.file) (one_each spans once t s j is_in same) ∙ filed in omega arith
      early t j e (inr ne) = g.earlier t j (λ z. e (else_ t.value ne ∙ z))

      which : (v n : ℕ) → kept_at (slice_set kept s.value (InRegister (first_of m (bank_of_file file) + i))) v ≡ InRegister n → (v ≡ s.value) ⊎ (v ≢ s.value) → (t : Span) × (t.value ≡ v) × IsIn t spans
      which v n e (inl same) = (s, sym same, is_in)
      which v n e (inr ne) = g.only v n (sym (else_ v ne) ∙ e)

  -- later spans begin further on
  raised : (file from more : ℕ) (held : List (Option Span)) (kept : List Kept) (next : ℕ) → Scanning m spans file from held kept next → from ≤ more → Scanning m spans file more held kept next
  raised file from more held kept next g le = record {
    room = g.room;
    inside = g.inside;
    holds = λ i t h. let p = g.holds i t h in let b = p.begins in record { known = p.known; filed = p.filed; begins = omega arith; there = p.there };
    registers = g.registers;
    apart = g.apart;
    latest = λ t i is f e. by t i (g.latest t i is f e);
    earlier = g.earlier;
    slots = g.slots;
    fresh = g.fresh;
    forced = g.forced;
    only = g.only;
  }
    where
      by : (t : Span) (i : ℕ) → (t.to < from) ⊎ Holds held i t → (t.to < more) ⊎ Holds held i t
      by t i (inl a) = inl (omega arith)
      by t i (inr h) = inr h

  -- the next file
  turning : (file from number more : ℕ) (held new_held : List (Option Span)) (kept : List Kept) (next : ℕ) → Scanning m spans file from held kept next → file < number
      → length new_held ≡ allocatable m (bank_of_file number) → ((i : ℕ) (s : Span) → Holds new_held i s → ⊥) → Scanning m spans number more new_held kept next
  turning file from number more held new_held kept next g lt long free = record {
    room = long;
    inside = g.inside;
    holds = λ i t h. absurd (free i t h);
    registers = g.registers;
    apart = g.apart;
    latest = λ t i is f e. absurd (let h = g.earlier t is (λ z. no_register (sym z ∙ e)) in let k : t.file ≡ number = f in omega arith);
    earlier = λ t is e. let h = g.earlier t is e in omega arith;
    slots = g.slots;
    fresh = g.fresh;
    forced = g.forced;
    only = g.only;
  }

-- those that hold registers

holders : List (Option Span) → List Span
holders [] = []
holders (None ∷ xs) = holders xs
holders (Some s ∷ xs) = s ∷ holders xs

holds_at : (xs : List (Option Span)) (t : Span) → IsIn t (holders xs) → (i : ℕ) × (slice_get xs i ≡ Some (Some t))
unfolding holders
holds_at [] t i = absurd i
holds_at (None ∷ xs) t i = let r = holds_at xs t i in (suc r.0, r.1)
holds_at (Some s ∷ xs) t (inl e) = (zero, ap (λ z. Some (Some z)) (sym e))
holds_at (Some s ∷ xs) t (inr i) = let r = holds_at xs t i in (suc r.0, r.1)

all_hold : (xs : List (Option Span)) → ((i : ℕ) → i < length xs → (s : Span) × (slice_get xs i ≡ Some (Some s))) → length (holders xs) ≡ length xs
unfolding holders
all_hold [] all = refl
all_hold (None ∷ xs) all = absurd (
    let r = all zero (omega arith) in
    let e : Some None ≡ Some (Some r.0) = r.1 in
    let f : None ≡ Some r.0 = some_is e in cc)
all_hold (Some s ∷ xs) all = ap suc (all_hold xs (λ i h. all (suc i) (omega arith)))

named_at : (v : ℕ) (spans : List Span) → IsIn v (map value_of spans) → (t : Span) × (IsIn t spans) × (t.value ≡ v)
named_at v [] i = absurd i
named_at v (s ∷ ss) (inl e) = (s, inl refl, sym e)
named_at v (s ∷ ss) (inr i) = let r = named_at v ss i in (r.0, inr r.1, r.2)

none_twice : (xs : List (Option Span)) → ((i j : ℕ) (t u : Span) → slice_get xs i ≡ Some (Some t) → slice_get xs j ≡ Some (Some u) → t.value ≡ u.value → i ≡ j) → NoTwice (map value_of (holders xs))
unfolding holders
none_twice [] one = tt
none_twice (None ∷ xs) one = none_twice xs (λ i j t u a b e. let h = one (suc i) (suc j) t u a b e in let k : i ≡ j = omega arith in k)
none_twice (Some s ∷ xs) one = (new, none_twice xs (λ i j t u a b e. let h = one (suc i) (suc j) t u a b e in let k : i ≡ j = omega arith in k))
  where
    new : IsIn s.value (map value_of (holders xs)) → ⊥
    new i =
        let r = named_at s.value (holders xs) i in
        let p = holds_at xs r.0 r.1 in
        let h : zero ≡ suc p.0 = one zero (suc p.0) s r.0 refl p.1 (sym r.2) in
        omega arith

module _ (m : Numbers) (spans : List Span) where
  -- where no register is free, the file is full for a span that begins there, and for those that hold the registers
  full : (file : ℕ) (held : List (Option Span)) (kept : List Kept) (next : ℕ) (span own : Span)
      → Scanning m spans file span.from held kept next → IsIn span spans → span.file ≡ file → span.from ≤ span.to → kept_at kept span.value ≡ Nowhere
      → AllHeld held span.from → IsIn own (span ∷ holders held) → Full m spans own.value
  full file held kept next span own g is_in filed proper nowhere held_all own_in = record {
    place = span.from;
    crowd = span ∷ holders held;
    own = own;
    is_own = known own own_in;
    own_value = refl;
    own_covers = covers own own_in;
    known = known;
    filed = λ t i. file_of t i ∙ sym (file_of own own_in);
    covers = covers;
    once = (new, none_twice held one);
    more =
        let a : length (holders held) ≡ length held = all_hold held (λ i h. let r = held_all.all i h in let e = r.1 in (r.0, e.holder)) in
        let b : length held ≡ allocatable m (bank_of_file file) = g.room in
        let c : allocatable m (bank_of_file file) < suc (length (holders held)) = omega arith in
        subst (λ z. allocatable m (bank_of_file z) < suc (length (holders held))) (sym (file_of own own_in)) c;
  }
    where
      held_by : (t : Span) → IsIn t (holders held) → (i : ℕ) × Holder m spans file span.from kept i t
      held_by t i = let r = holds_at held t i in (r.0, g.holds r.0 t (record { holder = r.1 }))

      known : (t : Span) → IsIn t (span ∷ holders held) → IsIn t spans
      known t (inl e) = subst (λ z. IsIn z spans) (sym e) is_in
      known t (inr i) = let r = held_by t i in let h = r.1 in h.known

      file_of : (t : Span) → IsIn t (span ∷ holders held) → t.file ≡ file
      file_of t (inl e) = ap (λ z. z.file) e ∙ filed
      file_of t (inr i) = let r = held_by t i in let h = r.1 in h.filed

      covers : (t : Span) → IsIn t (span ∷ holders held) → Covers t span.from
      covers t (inl e) = subst (λ z. Covers z span.from) (sym e) (record { below = omega arith; above = proper })
      covers t (inr i) =
          let r = holds_at held t i in
          let h = g.holds r.0 t (record { holder = r.1 }) in
          let a = held_all.all r.0 (held_within held r.0 (Some t) r.1) in
          let b = a.1 in
          let e : Some (Some a.0) ≡ Some (Some t) = sym b.holder ∙ r.1 in
          let f : a.0 ≡ t = some_is (some_is e) in
          record { below = h.begins; above = subst (λ z. span.from ≤ z.to) f a.2 }

      new : IsIn span.value (map value_of (holders held)) → ⊥
      new i =
          let r = named_at span.value (holders held) i in
          let p = held_by r.0 r.1 in
          let h = p.1 in
          no_register (sym nowhere ∙ ap (kept_at kept) (sym r.2) ∙ h.there)

      one : (i j : ℕ) (t u : Span) → slice_get held i ≡ Some (Some t) → slice_get held j ≡ Some (Some u) → t.value ≡ u.value → i ≡ j
      one i j t u a b e =
          let p = g.holds i t (record { holder = a }) in
          let q = g.holds j u (record { holder = b }) in
          let n : first_of m (bank_of_file file) + i ≡ first_of m (bank_of_file file) + j = number_is (sym p.there ∙ ap (kept_at kept) e ∙ q.there) in
          omega arith

-- what a turn changes
pub record Step (m : Numbers) (spans : List Span) (file : ℕ) (span : Span) (kept : List Kept) (new_held : List (Option Span)) (new_kept : List Kept) (new_next : ℕ) : Type 0 where
  pub scanning : Scanning m spans file span.from new_held new_kept new_next
  pub nowhere : (u : ℕ) → u ≢ span.value → kept_at kept u ≡ Nowhere → kept_at new_kept u ≡ Nowhere
  pub placed : (u : ℕ) → kept_at kept u ≢ Nowhere → kept_at new_kept u ≢ Nowhere
  pub self : kept_at new_kept span.value ≢ Nowhere

same_step : (m : Numbers) (spans : List Span) (file : ℕ) (span : Span) (kept : List Kept) (h h' : List (Option Span)) (k k' : List Kept) (n n' : ℕ) → h' ≡ h → k' ≡ k → n' ≡ n → Step m spans file span kept h k n → Step m spans file span kept h' k' n'
same_step m spans file span kept h h' k k' n n' a b c s = subst (λ z. Step m spans file span kept z k' n') (sym a) (subst (λ z. Step m spans file span kept h z n') (sym b) (subst (λ z. Step m spans file span kept h k z) (sym c) s))

set_twice : (held : List (Option Span)) (i : ℕ) (x y : Option Span) → slice_set (slice_set held i x) i y ≡ slice_set held i y
set_twice [] i x y = refl
set_twice (z ∷ zs) zero x y = refl
set_twice (z ∷ zs) (suc i) x y = ap (λ l. z ∷ l) (set_twice zs i x y)

is_holder : (held : List (Option Span)) (i : ℕ) (t : Span) → slice_get held i ≡ Some (Some t) → IsIn t (holders held)
unfolding holders
is_holder [] i t e = absurd (let f : None ≡ Some (Some t) = e in cc)
is_holder (None ∷ xs) zero t e = absurd (let f : Some None ≡ Some (Some t) = e in let g : None ≡ Some t = some_is f in cc)
is_holder (None ∷ xs) (suc i) t e = is_holder xs i t e
is_holder (Some s ∷ xs) zero t e = let f : Some (Some s) ≡ Some (Some t) = e in inl (sym (some_is (some_is f)))
is_holder (Some s ∷ xs) (suc i) t e = inr (is_holder xs i t e)

module _ (m : Numbers) (spans : List Span) (once : NoTwice (map value_of spans)) (file : ℕ) (span : Span) (held : List (Option Span)) (kept : List Kept) (next : ℕ)
    (g : Scanning m spans file span.from held kept next) (is_in : IsIn span spans) (filed : span.file ≡ file) (proper : span.from ≤ span.to) (nowhere : kept_at kept span.value ≡ Nowhere) where
  changed : (k : List Kept) (u v : ℕ) (x : Kept) → v < length k → x ≢ Nowhere → kept_at k u ≢ Nowhere → kept_at (slice_set k v x) u ≢ Nowhere
  changed k u v x h n a = by (same_or u v)
    where
      by : (u ≡ v) ⊎ (u ≢ v) → kept_at (slice_set k v x) u ≢ Nowhere
      by (inl e) = λ z. n (sym (kept_there k v x h) ∙ ap (kept_at (slice_set k v x)) (sym e) ∙ z)
      by (inr e) = λ z. a (sym (kept_else k v u x e) ∙ z)

  a_register : (n : ℕ) → InRegister n ≢ Nowhere
  a_register n e = no_register (sym e)

  a_slot : (n : ℕ) → InSlot n ≢ Nowhere
  a_slot n e = no_slot (sym e)

  step_takes : (i : ℕ) → FreeFrom held span.from i → Step m spans file span kept (slice_set held i (Some span)) (slice_set kept span.value (InRegister (first_of m (bank_of_file file) + i))) next
  step_takes i free = record {
    scanning = taken m spans once file span.from held kept next i span g is_in filed (omega arith) nowhere free;
    nowhere = λ u ne e. kept_else kept span.value u (InRegister (first_of m (bank_of_file file) + i)) ne ∙ e;
    placed = λ u a. changed kept u span.value (InRegister (first_of m (bank_of_file file) + i)) (g.inside span is_in) (a_register _) a;
    self = λ z. a_register _ (sym (kept_there kept span.value (InRegister (first_of m (bank_of_file file) + i)) (g.inside span is_in)) ∙ z);
  }

  other_value : (j : ℕ) (t : Span) → Holds held j t → t.value ≢ span.value
  other_value j t h e = let p = g.holds j t h in no_register (sym nowhere ∙ ap (kept_at kept) (sym e) ∙ p.there)

  step_refused : AllHeld held span.from → Step m spans file span kept held (slice_set kept span.value (InSlot next)) (suc next)
  step_refused all = record {
    scanning = slotted m spans once file span.from held held kept next span g is_in (let f : span.file ≡ file = filed in omega arith)
        (full m spans file held kept next span span g is_in filed proper nowhere all (inl refl)) refl (λ j t h. (h, other_value j t h)) (λ j t h ne. h);
    nowhere = λ u ne e. kept_else kept span.value u (InSlot next) ne ∙ e;
    placed = λ u a. changed kept u span.value (InSlot next) (g.inside span is_in) (a_slot _) a;
    self = λ z. a_slot _ (sym (kept_there kept span.value (InSlot next) (g.inside span is_in)) ∙ z);
  }

  step_evicts : (i : ℕ) (old : Span) → AllHeld held span.from → Holds held i old → Step m spans file span kept (slice_set held i (Some span)) (slice_set (slice_set kept old.value (InSlot next)) span.value (InRegister (first_of m (bank_of_file file) + i))) (suc next)
  step_evicts i old all h = record {
    scanning = subst (λ z. Scanning m spans file span.from z (slice_set (slice_set kept old.value (InSlot next)) span.value (InRegister (first_of m (bank_of_file file) + i))) (suc next)) (set_twice held i None (Some span))
        (taken m spans once file span.from (slice_set held i None) (slice_set kept old.value (InSlot next)) (suc next) i span between is_in filed (omega arith) still_nowhere free);
    nowhere = λ u ne e. kept_else (slice_set kept old.value (InSlot next)) span.value u (InRegister (first_of m (bank_of_file file) + i)) ne ∙ kept_else kept old.value u (InSlot next) (not_old u e) ∙ e;
    placed = λ u a. changed (slice_set kept old.value (InSlot next)) u span.value (InRegister (first_of m (bank_of_file file) + i)) (between.inside span is_in) (a_register _) (changed kept u old.value (InSlot next) (g.inside old (old_is.known)) (a_slot _) a);
    self = λ z. a_register _ (sym (kept_there (slice_set kept old.value (InSlot next)) span.value (InRegister (first_of m (bank_of_file file) + i)) (between.inside span is_in)) ∙ z);
  }
    where
      old_is : Holder m spans file span.from kept i old
      old_is = g.holds i old h

      within : i < length held
      within = held_within held i (Some old) h.holder

      cleared : (j : ℕ) (t : Span) → Holds (slice_set held i None) j t → Holds held j t × (t.value ≢ old.value)
      cleared j t a = by (same_or j i)
        where
          by : (j ≡ i) ⊎ (j ≢ i) → Holds held j t × (t.value ≢ old.value)
          by (inl e) = absurd (
              let x : Some None ≡ Some (Some t) = sym (held_there held i None within) ∙ ap (slice_get (slice_set held i None)) (sym e) ∙ a.holder in
              let y : None ≡ Some t = some_is x in cc)
          by (inr ne) = (b, λ e. ne (let p = g.holds j t b in let q = old_is.there in let n : first_of m (bank_of_file file) + j ≡ first_of m (bank_of_file file) + i = number_is (sym p.there ∙ ap (kept_at kept) e ∙ q) in omega arith))
            where
              b : Holds held j t
              b = record { holder = sym (held_else held i j None ne) ∙ a.holder }

      back : (j : ℕ) (t : Span) → Holds held j t → t.value ≢ old.value → Holds (slice_set held i None) j t
      back j t a ne = by (same_or j i)
        where
          by : (j ≡ i) ⊎ (j ≢ i) → Holds (slice_set held i None) j t
          by (inl e) = absurd (ne (
              let x : Some (Some t) ≡ Some (Some old) = sym a.holder ∙ ap (slice_get held) e ∙ h.holder in
              ap value_of (some_is (some_is x))))
          by (inr d) = record { holder = held_else held i j None d ∙ a.holder }

      between : Scanning m spans file span.from (slice_set held i None) (slice_set kept old.value (InSlot next)) (suc next)
      between = slotted m spans once file span.from held (slice_set held i None) kept next old g old_is.known (let f : old.file ≡ file = old_is.filed in omega arith)
          (full m spans file held kept next span old g is_in filed proper nowhere all (inr (is_holder held i old h.holder))) (length-set held i None) cleared back

      not_old : (u : ℕ) → kept_at kept u ≡ Nowhere → u ≢ old.value
      not_old u e same = no_register (sym e ∙ ap (kept_at kept) same ∙ old_is.there)

      still_nowhere : kept_at (slice_set kept old.value (InSlot next)) span.value ≡ Nowhere
      still_nowhere = kept_else kept old.value span.value (InSlot next) (not_old span.value nowhere) ∙ nowhere

      free : FreeFrom (slice_set held i None) span.from i
      free = record {
        is_register = subst (λ n. i < n) (sym (length-set held i None)) within;
        ended = λ t a. absurd (
            let x : Some None ≡ Some (Some t) = sym (held_there held i None within) ∙ a.holder in
            let y : None ≡ Some t = some_is x in cc);
      }

  gives_step : (new_held : List (Option Span)) (new_kept : List Kept) (new_next : ℕ) → Gives span (first_of m (bank_of_file file)) held kept next new_held new_kept new_next → Step m spans file span kept new_held new_kept new_next
  gives_step h k n (takes i free a b c) = same_step m spans file span kept (slice_set held i (Some span)) h (slice_set kept span.value (InRegister (first_of m (bank_of_file file) + i))) k next n a b c (step_takes i free)
  gives_step h k n (refused all last a b c) = same_step m spans file span kept held h (slice_set kept span.value (InSlot next)) k (suc next) n a b c (step_refused all)
  gives_step h k n (evicts i old all holds outlasts last a b c) = same_step m spans file span kept (slice_set held i (Some span)) h (slice_set (slice_set kept old.value (InSlot next)) span.value (InRegister (first_of m (bank_of_file file) + i))) k (suc next) n a b c (step_evicts i old all holds)

-- so far, and what is left

pub record Going (m : Numbers) (spans rest : List Span) (file : ℕ) (held : List (Option Span)) (kept : List Kept) (next : ℕ) : Type 0 where
  pub from : ℕ
  pub scanning : Scanning m spans file from held kept next
  pub rising : Rising file from rest
  pub known : (s : Span) → IsIn s rest → IsIn s spans
  pub nowhere : (s : Span) → IsIn s rest → kept_at kept s.value ≡ Nowhere
  pub placed : (s : Span) → IsIn s spans → IsIn s rest ⊎ (kept_at kept s.value ≢ Nowhere)
  pub single : NoTwice (map value_of rest)
  pub once : NoTwice (map value_of spans)
  pub proper : (s : Span) → IsIn s spans → s.from ≤ s.to

-- the registers of the next span's file
turn : (m : Numbers) (spans rest : List Span) (span : Span) (file : ℕ) (held new_held : List (Option Span)) (kept : List Kept) (next : ℕ) → (g : Going m spans (span ∷ rest) file held kept next) → TurnsTo m span.file file held new_held → Scanning m spans span.file span.from new_held kept next
turn m spans rest span file held new_held kept next g t = by g.rising.0 (same_or span.file file)
  where
    by : (file < span.file) ⊎ ((file ≡ span.file) × (g.from ≤ span.from)) → (span.file ≡ file) ⊎ (span.file ≢ file) → Scanning m spans span.file span.from new_held kept next
    by (inl a) (inl e) = absurd (omega arith)
    by (inl a) (inr ne) = turning m spans g.once file g.from span.file span.from held new_held kept next g.scanning a (t.other ne) (t.free ne)
    by (inr a) (inl e) = subst (λ z. Scanning m spans z span.from new_held kept next) (sym e) (subst (λ z. Scanning m spans file span.from z kept next) (sym (t.same e)) (raised m spans g.once file g.from span.from held kept next g.scanning a.1))
    by (inr a) (inr ne) = absurd (ne (sym a.0))

pub going_on : (m : Numbers) (spans rest : List Span) (span : Span) (file first next new_next : ℕ) (held mid_held new_held : List (Option Span)) (kept new_kept : List Kept)
    → Going m spans (span ∷ rest) file held kept next → TurnsTo m span.file file held mid_held → first ≡ first_of m (bank_of_file span.file) → Gives span first mid_held kept next new_held new_kept new_next → Going m spans rest span.file new_held new_kept new_next
going_on m spans rest span file first next new_next held mid_held new_held kept new_kept g t f gives = record {
  from = span.from;
  scanning = step.scanning;
  rising = g.rising.1;
  known = λ s i. g.known s (inr i);
  nowhere = λ s i. step.nowhere s.value (other s i) (g.nowhere s (inr i));
  placed = λ s i. by s (g.placed s i);
  single = g.single.1;
  once = g.once;
  proper = g.proper;
}
  where
    step : Step m spans span.file span kept new_held new_kept new_next
    step = gives_step m spans g.once span.file span mid_held kept next (turn m spans rest span file held mid_held kept next g t) (g.known span (inl refl)) refl (g.proper span (g.known span (inl refl))) (g.nowhere span (inl refl)) new_held new_kept new_next
        (subst (λ z. Gives span z mid_held kept next new_held new_kept new_next) f gives)

    other : (s : Span) → IsIn s rest → s.value ≢ span.value
    other s i e = g.single.0 (subst (λ z. IsIn z (map value_of rest)) e (named_in s rest i))

    by : (s : Span) → IsIn s (span ∷ rest) ⊎ (kept_at kept s.value ≢ Nowhere) → IsIn s rest ⊎ (kept_at new_kept s.value ≢ Nowhere)
    by s (inl (inl e)) = inr (subst (λ z. kept_at new_kept z.value ≢ Nowhere) (sym e) step.self)
    by s (inl (inr i)) = inl i
    by s (inr a) = inr (step.placed s.value a)

pub going_first : (m : Numbers) (spans : List Span) (count : ℕ) (held : List (Option Span)) (kept : List Kept) → Scannable spans kept → count ≡ allocatable m (bank_of_file 0) → length held ≡ count → ((i : ℕ) (s : Span) → Holds held i s → ⊥) → Going m spans spans 0 held kept 0
going_first m spans count held kept s c e free = record {
  from = 0;
  scanning = record {
    room = e ∙ c;
    inside = s.inside;
    holds = λ i t h. absurd (free i t h);
    registers = λ t n i h. absurd (no_register (sym (s.nowhere t.value) ∙ h));
    apart = λ t u n i j ne f a b. absurd (no_register (sym (s.nowhere t.value) ∙ a));
    latest = λ t i is f h. absurd (no_register (sym (s.nowhere t.value) ∙ h));
    earlier = λ t i h. absurd (h (s.nowhere t.value));
    slots = λ u v k a b. absurd (no_slot (sym (s.nowhere u) ∙ a));
    fresh = λ u k a. absurd (no_slot (sym (s.nowhere u) ∙ a));
    forced = λ v k a. absurd (no_slot (sym (s.nowhere v) ∙ a));
    only = λ v n a. absurd (no_register (sym (s.nowhere v) ∙ a));
  };
  rising = s.rising;
  known = λ t i. i;
  nowhere = λ t i. s.nowhere t.value;
  placed = λ t i. inl i;
  single = s.once;
  once = s.once;
  proper = s.proper;
}

pub going_over : (m : Numbers) (spans : List Span) (file next : ℕ) (held : List (Option Span)) (kept : List Kept) → Going m spans [] file held kept next → Scanned m spans kept
going_over m spans file next held kept g = record {
  placed = λ s i. by s (g.placed s i);
  registers = scanning.registers;
  apart = λ s t p n i j ne f a b c d. over s t p a b (scanning.apart s t n i j ne f c d);
  slots = scanning.slots;
  forced = scanning.forced;
  only = scanning.only;
}
  where
    scanning : Scanning m spans file g.from held kept next
    scanning = g.scanning

    by : (s : Span) → IsIn s [] ⊎ (kept_at kept s.value ≢ Nowhere) → kept_at kept s.value ≢ Nowhere
    by s (inl i) = absurd i
    by s (inr h) = h

    over : (s t : Span) (p : ℕ) → Covers s p → Covers t p → (s.to < t.from) ⊎ (t.to < s.from) → ⊥
    over s t p a b (inl h) = let x = a.above in let y = b.below in omega arith
    over s t p a b (inr h) = let x = a.below in let y = b.above in omega arith
