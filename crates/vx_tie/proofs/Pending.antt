-- What may be in flight to registers at a word of a layout: what is left of the writes to the values that live in them.
use Rattle.std.proofs.Common.{◌≡◌, ◌≢◌, ◌<◌, ◌≤◌, ⊎_elim, ◌+◌, ℕ, zero, suc, Bool, true, false, cond, Some, List, [], ◌∷◌, refl, sym, ap, ◌∙◌, subst, arith}
use Rattle.std.specs.Prelude.{if◌then◌else◌, max, slice_get}
use Rattle.std.specs.List.{flat_map}
use Rattle.vx_flow.specs.declared.graph.Bank.{Bank}
use Rattle.vx_flow.specs.Effects.{IsIn}
use Rattle.vx_flow.specs.Sound.{Sound}
use Rattle.vx_isa.specs.declared.operation.Register.{Register}
use Rattle.vx_isa.specs.declared.operation.Register.TheVariants.{General}
use Rattle.vx_isa.specs.Operations.{same}
use Rattle.vx_isa.proofs.AnyTiming.{tells}
use Rattle.vx_room.specs.Items.{latency_of_op}
use Rattle.vx_mixed.specs.declared.layout.Laid.TheVariants.{Plain}
use Rattle.vx_mixed.specs.declared.layout.VirtualWord.{VirtualWord}
use Rattle.vx_mixed.specs.LaidSettled.{bank_in, item_writes, LeadsTo, cycles_of, Pends, written, later}
use Rattle.vx_regs.specs.Intervals.{IsBusy, is_pending, word_writes}
use Rattle.vx_target.specs.Target.{Target, general, kept, is_slotted, register_of}
use Rattle.vx_target.specs.Carried.{IsMapped}
use Rattle.vx_target.proofs.Names.{Few, not_general, apart_registers, apart_mixed}
use Rattle.vx_target.proofs.Word.{own_name as one_name}
use Rattle.vx_target.proofs.Frames.{get_in}
use Rattle.vx_target.proofs.Enough.{in_all_of}
use Rattle.vx_target.proofs.Live.{writes_bank}

module _ (T : Target) (f : ℕ) (mapped : IsMapped T f) (sound : Sound (T.graph f)) where
  abbrev pub Left : ℕ → ℕ → ℕ
  Left p v = mapped.settled.left p v

  abbrev pub Banked : ℕ → Type 0
  Banked v = (b : Bank) × (bank_in (T.layout f) v ≡ Some b)

  abbrev pub Busy : ℕ → ℕ → Type 0
  Busy p v = IsBusy (latency_of_op T.machine) (T.layout f) p v

  abbrev own_name : ℕ → Register
  own_name v = register_of T f (v ∷ []) v

  -- of one value, and of some
  abbrev pub left_of : ℕ → Register → ℕ → ℕ
  left_of p r v = if is_slotted (kept T f v) then 0 else cond (same (own_name v) r) (Left p v) 0

  abbrev pub most_left : ℕ → Register → List ℕ → ℕ
  most_left p r [] = 0
  most_left p r (v ∷ vs) = max (left_of p r v) (most_left p r vs)

  -- of all that the words of the layout write
  abbrev pub pend : ℕ → Register → ℕ
  pend p r = most_left p r (flat_map word_writes (T.layout f).words)

  none_left : (p : ℕ) (r : Register) (vs : List ℕ) → ((v : ℕ) → left_of p r v ≡ 0) → most_left p r vs ≡ 0
  none_left p r [] h = refl
  none_left p r (v ∷ vs) h = let a = h v in let b = none_left p r vs h in omega arith

  pub left_in : (p v : ℕ) (r : Register) (vs : List ℕ) → IsIn v vs → left_of p r v ≤ most_left p r vs
  left_in p v r [] i = absurd i
  left_in p v r (u ∷ vs) i = ⊎_elim (λ e. subst (λ z. left_of p r z ≤ max (left_of p r u) (most_left p r vs)) (sym e) (omega arith)) (λ k. let a = left_in p v r vs k in omega arith) i

  less_left : (p q c : ℕ) (r : Register) (vs : List ℕ) → ((v : ℕ) → Left p v ≤ Left q v + c) → most_left p r vs ≤ most_left q r vs + c
  less_left p q c r [] h = omega arith
  less_left p q c r (v ∷ vs) h = let a = less_left p q c r vs h in let b = of_one (is_slotted (kept T f v)) (same (own_name v) r) in omega arith
    where
      of_one : (s t : Bool) → (if s then 0 else cond t (Left p v) 0) ≤ (if s then 0 else cond t (Left q v) 0) + c
      of_one true t = omega arith
      of_one false true = h v
      of_one false false = omega arith

  -- from word to word what is left passes on
  pub pend_kept : (p q : ℕ) (r : Register) (word : VirtualWord) → slice_get (T.layout f).words p ≡ Some word → LeadsTo p word q → pend p r ≤ pend q r + cycles_of word
  pend_kept p q r word e l = less_left p q (cycles_of word) r (flat_map word_writes (T.layout f).words) (λ v. mapped.settled.kept p q v word e l)

  -- a value with something left has a bank and is busy

  pends_bank : {p v n : ℕ} → Pends (latency_of_op T.machine) (T.layout f) p v n → Banked v
  pends_bank (written {p = p} {v = v} {r = r} {w = w} {items = items} op k e i j leads) = writes_bank T f mapped sound p items (r, w, e) v (in_all_of item_writes (Plain op k) v items i j)
  pends_bank (later p n word before e leads) = pends_bank before

  pub left_bank : (p v n : ℕ) → Left p v ≡ suc n → Banked v
  left_bank p v n e = pends_bank (mapped.settled.attained p v n e)

  pub left_busy : (p v n : ℕ) → Left p v ≡ suc n → Busy p v
  left_busy p v n e = is_pending (mapped.settled.attained p v n e)

  -- a register that is that of no such value
  pub pend_free : (p : ℕ) (r : Register) → ((v n : ℕ) → is_slotted (kept T f v) ≡ false → Left p v ≡ suc n → own_name v ≢ r) → pend p r ≡ 0
  pend_free p r h = none_left p r (flat_map word_writes (T.layout f).words) (λ v. by v (is_slotted (kept T f v)) (same (own_name v) r) (Left p v) refl refl refl)
    where
      by : (v : ℕ) (s t : Bool) (n : ℕ) → is_slotted (kept T f v) ≡ s → same (own_name v) r ≡ t → Left p v ≡ n → (if s then 0 else cond t n 0) ≡ 0
      by v true t n e q z = refl
      by v false false n e q z = refl
      by v false true zero e q z = refl
      by v false true (suc n) e q z = absurd (h v n e z (tells.equal (own_name v) r q))

  -- registers with a use of their own
  pub pend_own : (p k n : ℕ) → n < 3 → pend p (General (general k n)) ≡ 0
  pend_own p k n lt = pend_free p (General (general k n)) (λ v c s e. not_general T f mapped (v ∷ []) v k n (left_bank p v c e) lt)

  -- the register of a value of which nothing is left, and a scratch register
  pub pend_value : (p x : ℕ) (names : List ℕ) → Banked x → Busy p x → Left p x ≡ 0 → is_slotted (kept T f x) ≡ false → pend p (register_of T f names x) ≡ 0
  pend_value p x names bank busy none sx = pend_free p (register_of T f names x) (λ v n s e. apart_registers T f mapped p (v ∷ []) names v x (left_bank p v n e) bank (left_busy p v n e) busy (λ q. let a : Left p v ≡ Left p x = ap (Left p) q in let z : suc n ≡ 0 = sym e ∙ a ∙ none in omega arith) s sx)

  pub pend_scratch : (p x : ℕ) (names : List ℕ) → Few T f mapped names → IsIn x names → is_slotted (kept T f x) ≡ true → pend p (register_of T f names x) ≡ 0
  pend_scratch p x names few i sx = pend_free p (register_of T f names x) (λ v n s e. apart_mixed T f mapped (v ∷ []) names v x (left_bank p v n e) few i s sx)

  -- so nothing is in flight to what a word names
  pub pend_name : (p x : ℕ) (names : List ℕ) → Few T f mapped names → IsIn x names → Banked x → Busy p x → Left p x ≡ 0 → pend p (register_of T f names x) ≡ 0
  pend_name p x names few i bank busy none = by (is_slotted (kept T f x)) refl
    where
      by : (b : Bool) → is_slotted (kept T f x) ≡ b → pend p (register_of T f names x) ≡ 0
      by true s = pend_scratch p x names few i s
      by false s = pend_value p x names bank busy none s

  -- what a word writes counts

  pub written_there : (p v : ℕ) (word : VirtualWord) → slice_get (T.layout f).words p ≡ Some word → IsIn v (word_writes word) → IsIn v (flat_map word_writes (T.layout f).words)
  written_there p v word e i = in_all_of word_writes word v (T.layout f).words (get_in (T.layout f).words p word e) i

  pub left_pends : (q v : ℕ) (names : List ℕ) → is_slotted (kept T f v) ≡ false → IsIn v (flat_map word_writes (T.layout f).words) → Left q v ≤ pend q (register_of T f names v)
  left_pends q v names e i =
      let a = left_in q v (register_of T f names v) (flat_map word_writes (T.layout f).words) i in
      let r : own_name v ≡ register_of T f names v = one_name T f v (v ∷ []) names e in
      let t : same (own_name v) (register_of T f names v) ≡ true = ap (same (own_name v)) (sym r) ∙ tells.itself (own_name v) in
      let b : left_of q (register_of T f names v) v ≡ Left q v = ap (λ s. if s then 0 else cond (same (own_name v) (register_of T f names v)) (Left q v) 0) e ∙ ap (λ s. cond s (Left q v) 0) t in
      omega arith
