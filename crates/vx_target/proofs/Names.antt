-- The registers by which words name values are apart, and apart from those with a use of their own.
use Rattle.std.proofs.Common.{◌≡◌, ◌≢◌, ◌<◌, ◌≤◌, ◌⊎◌, inl, inr, ⊎_elim, ◌+◌, ◌*◌, ℕ, suc, Bool, true, false, ◌&&◌, eqb, cond, Some, List, [], ◌∷◌, length, refl, sym, ap, ◌∙◌, subst, arith}
use Rattle.std.specs.Prelude.{if◌then◌else◌}
use Rattle.std.specs.List.{filter}
use Rattle.std.proofs.lemmas.Bool.{ne_eqb}
use Rattle.std.proofs.lemmas.Bool.Decides.{nat_tests}
use Rattle.vx_flow.specs.declared.graph.Bank.{Bank}
use Rattle.vx_flow.specs.declared.graph.Bank.TheVariants.{General as GeneralBank, Branch as BranchBank}
use Rattle.vx_flow.specs.Effects.{IsIn}
use Rattle.vx_isa.specs.declared.operation.Register.{Register}
use Rattle.vx_isa.specs.declared.operation.Register.TheVariants.{General, Branch, Link}
use Rattle.vx_isa.specs.Operations.{is_zero, cluster_of_register}
use Rattle.vx_room.specs.Items.{latency_of_op}
use Rattle.vx_mixed.specs.LaidSettled.{bank_in}
use Rattle.vx_regs.specs.declared.map.Kept.{Kept}
use Rattle.vx_regs.specs.declared.map.Kept.TheVariants.{InRegister, InSlot, Nowhere}
use Rattle.vx_regs.specs.Intervals.{IsBusy, Within}
use Rattle.vx_regs.specs.Mapped.{InFile}
use Rattle.vx_target.specs.Target.{Target, general, kept, is_slotted, is_branch, number_by, scratch, index_of, same_file, same_bool, home, holds_branch, branch_of, register_of, slotted}
use Rattle.vx_target.specs.Carried.{IsMapped}
use Rattle.vx_target.proofs.Cells.{same_or_not}
use Rattle.vx_target.proofs.Slots.{number_in}
use Rattle.vx_target.proofs.Word.{slotted_in}

-- places in lists

index_case : (v u : ℕ) (us : List ℕ) → ((eqb u v ≡ true) × (u ≡ v) × (index_of v (u ∷ us) ≡ 0)) ⊎ ((u ≢ v) × (index_of v (u ∷ us) ≡ suc (index_of v us)))
index_case v u us = ⊎_elim (λ q. inl (q.0, q.1, ap (λ b. if b then 0 else suc (index_of v us)) q.0)) (λ q. inr (q.1, ap (λ b. if b then 0 else suc (index_of v us)) q.0)) (same_or_not u v)

pub index_below : (v : ℕ) (us : List ℕ) → IsIn v us → index_of v us < length us
index_below v [] i = absurd i
index_below v (u ∷ us) i = ⊎_elim
    (λ q. let a = q.2 in omega arith)
    (λ q. let a = q.1 in let b : index_of v us < length us = ⊎_elim (λ e. absurd (q.0 (sym e))) (λ j. index_below v us j) i in omega arith)
    (index_case v u us)

pub index_one : (v x : ℕ) (us : List ℕ) → IsIn v us → IsIn x us → index_of v us ≡ index_of x us → v ≡ x
index_one v x [] i j e = absurd i
index_one v x (u ∷ us) i j e = ⊎_elim
    (λ p. ⊎_elim (λ q. sym p.1 ∙ q.1) (λ q. absurd (let a = p.2 in let b = q.1 in omega arith)) (index_case x u us))
    (λ p. ⊎_elim (λ q. absurd (let a = p.1 in let b = q.2 in omega arith))
    (λ q. let a = p.1 in let b = q.1 in index_one v x us (⊎_elim (λ z. absurd (p.0 (sym z))) (λ z. z) i) (⊎_elim (λ z. absurd (q.0 (sym z))) (λ z. z) j) (omega arith))
    (index_case x u us))
    (index_case v u us)

pub filter_in : (t : ℕ → Bool) (v : ℕ) (us : List ℕ) → IsIn v us → t v ≡ true → IsIn v (filter t us)
filter_in t v [] i e = i
filter_in t v (u ∷ us) i e = by (t u) refl (λ j. filter_in t v us j e)
  where
    by : (b : Bool) → t u ≡ b → (IsIn v us → IsIn v (filter t us)) → IsIn v (cond b (u ∷ filter t us) (filter t us))
    by true h more = ⊎_elim (λ q. inl q) (λ j. inr (more j)) i
    by false h more = ⊎_elim (λ q. absurd (let z : t v ≡ false = ap t q ∙ h in let w : true ≡ false = sym e ∙ z in cc)) more i

filter_same : (s t : ℕ → Bool) (us : List ℕ) → ((u : ℕ) → s u ≡ t u) → filter s us ≡ filter t us
filter_same s t [] h = refl
filter_same s t (u ∷ us) h = ap (λ b. cond b (u ∷ filter s us) (filter s us)) (h u) ∙ ap (λ l. cond (t u) (u ∷ l) l) (filter_same s t us h)

eqb_self : (n : ℕ) → eqb n n ≡ true
eqb_self n = grind (arith, nat_tests)

-- names

abbrev pub named : Bool → (home branch number : ℕ) → Register
named b h n j = if b then Branch (record { cluster = 0; number = n }) else General (general h j)

abbrev branch_number : Register → ℕ
branch_number (General r) = 0
branch_number (Branch r) = r.number
branch_number Link = 0

abbrev is_branch_register : Register → Bool
is_branch_register (General r) = false
is_branch_register (Branch r) = true
is_branch_register Link = false

true_false : true ≡ false → ⊥
true_false e = absurd (cc)

pub named_same : (b c : Bool) (h k n i j l : ℕ) → named b h n j ≡ named c k i l → ((b ≡ true) × (c ≡ true) × (n ≡ i)) ⊎ ((b ≡ false) × (c ≡ false) × (h ≡ k) × (j ≡ l))
named_same true true h k n i j l e = inl (refl, refl, ap branch_number e)
named_same true false h k n i j l e = absurd (true_false (ap is_branch_register e))
named_same false true h k n i j l e = absurd (true_false (sym (ap is_branch_register e)))
named_same false false h k n i j l e = inr (refl, refl, ap cluster_of_register e, ap number_in e)

branch_bank : (b : Bank) → is_branch (Some b) ≡ true → b ≡ BranchBank
branch_bank GeneralBank e = absurd (cc)
branch_bank BranchBank e = refl

general_bank : (b : Bank) → is_branch (Some b) ≡ false → b ≡ GeneralBank
general_bank GeneralBank e = refl
general_bank BranchBank e = absurd (cc)

pub in_register : (k : Kept) → is_slotted k ≡ false → (n : ℕ) × (k ≡ InRegister n)
in_register (InRegister n) e = (n, refl)
in_register (InSlot n) e = absurd (cc)
in_register Nowhere e = absurd (cc)

by_other : (k : Kept) (n : ℕ) → is_slotted k ≡ true → number_by k n ≡ n
by_other (InRegister j) n e = absurd (cc)
by_other (InSlot j) n e = refl
by_other Nowhere n e = refl

module _ (T : Target) (f : ℕ) (mapped : IsMapped T f) where
  abbrev pub Busy : ℕ → ℕ → Type 0
  Busy p v = IsBusy (latency_of_op T.machine) (T.layout f) p v

  abbrev pub HasBank : ℕ → Type 0
  HasBank v = (b : Bank) × (bank_in (T.layout f) v ≡ Some b)

  -- scratch registers are enough for what a word names
  pub record Few (names : List ℕ) : Type 0 where
    pub general : (v : ℕ) → IsIn v names → is_slotted (kept T f v) ≡ true → holds_branch T f v ≡ false → scratch T f names v < 2 * T.machine.issue
    pub branch : (v : ℕ) → IsIn v names → is_slotted (kept T f v) ≡ true → holds_branch T f v ≡ true → scratch T f names v < T.machine.issue

  bank_is : (v : ℕ) (b : Bool) → HasBank v → holds_branch T f v ≡ b → bank_in (T.layout f) v ≡ Some (if b then BranchBank else GeneralBank)
  bank_is v true h e = h.1 ∙ ap (λ x. Some x) (branch_bank h.0 (ap is_branch (sym h.1) ∙ e))
  bank_is v false h e = h.1 ∙ ap (λ x. Some x) (general_bank h.0 (ap is_branch (sym h.1) ∙ e))

  pub file_branch : (v : ℕ) → HasBank v → holds_branch T f v ≡ true → InFile (T.layout f) v BranchBank 0
  file_branch v h e = record { bank_is = bank_is v true h e; cluster_is = refl }

  pub file_general : (v : ℕ) → HasBank v → holds_branch T f v ≡ false → InFile (T.layout f) v GeneralBank (home T f v)
  file_general v h e = record { bank_is = bank_is v false h e; cluster_is = refl }

  within : (p v : ℕ) → Busy p v → Within (latency_of_op T.machine) (T.layout f) v p
  within p v b = record { from = p; to = p; below = omega arith; above = omega arith; busy_from = b; busy_to = b }

  -- allocatable registers stand behind the scratch ones
  pub general_from : (v n : ℕ) → HasBank v → holds_branch T f v ≡ false → kept T f v ≡ InRegister n → 3 + 2 * T.machine.issue ≤ n
  general_from v n h e k = (mapped.apart.registers v n (home T f v) GeneralBank k (file_general v h e)).0

  pub branch_from : (v n : ℕ) → HasBank v → holds_branch T f v ≡ true → kept T f v ≡ InRegister n → T.machine.issue ≤ n
  branch_from v n h e k = (mapped.apart.registers v n 0 BranchBank k (file_branch v h e)).0

  abbrev pub number_at : List ℕ → ℕ → ℕ
  number_at names v = number_by (kept T f v) (3 + scratch T f names v)

  -- a general register that names a value is none of those with a use of their own
  pub general_number : (names : List ℕ) (v : ℕ) → HasBank v → holds_branch T f v ≡ false → 3 ≤ number_at names v
  general_number names v h e = by (is_slotted (kept T f v)) refl
    where
      by : (b : Bool) → is_slotted (kept T f v) ≡ b → 3 ≤ number_at names v
      by true q = let k = by_other (kept T f v) (3 + scratch T f names v) q in omega arith
      by false q =
          let n = in_register (kept T f v) q in
          let k : number_at names v ≡ n.0 = ap (λ x. number_by x (3 + scratch T f names v)) n.1 in
          let l = general_from v n.0 h e n.1 in omega arith

  pub not_zero : (names : List ℕ) (v : ℕ) → HasBank v → is_zero (register_of T f names v) ≡ false
  not_zero names v h = by (holds_branch T f v) refl
    where
      by : (b : Bool) → holds_branch T f v ≡ b → is_zero (named b (home T f v) (branch_of T f names v) (number_at names v)) ≡ false
      by true e = refl
      by false e = ne_eqb (number_at names v) 0 (λ q. let k = general_number names v h e in omega arith)

  pub not_general : (names : List ℕ) (v k n : ℕ) → HasBank v → n < 3 → register_of T f names v ≢ General (general k n)
  not_general names v k n h lt e = by (holds_branch T f v) refl e
    where
      by : (b : Bool) → holds_branch T f v ≡ b → named b (home T f v) (branch_of T f names v) (number_at names v) ≡ General (general k n) → ⊥
      by true q z = true_false (ap is_branch_register z)
      by false q z = let a = general_number names v h q in let c : number_at names v ≡ n = ap number_in z in omega arith

  -- a value in a register is in no scratch register
  pub not_scratch : (names : List ℕ) (v k n : ℕ) → HasBank v → is_slotted (kept T f v) ≡ false → n < 3 + 2 * T.machine.issue → register_of T f names v ≢ General (general k n)
  not_scratch names v k n h s lt e = by (holds_branch T f v) refl e
    where
      by : (b : Bool) → holds_branch T f v ≡ b → named b (home T f v) (branch_of T f names v) (number_at names v) ≡ General (general k n) → ⊥
      by true q z = true_false (ap is_branch_register z)
      by false q z =
          let j = in_register (kept T f v) s in
          let is : number_at names v ≡ j.0 = ap (λ x. number_by x (3 + scratch T f names v)) j.1 in
          let a = general_from v j.0 h q j.1 in
          let c : number_at names v ≡ n = ap number_in z in omega arith

  -- a value in a register is not in the first branch register
  pub not_first_branch : (names : List ℕ) (v : ℕ) → HasBank v → is_slotted (kept T f v) ≡ false → 1 ≤ T.machine.issue → register_of T f names v ≢ Branch (record { cluster = 0; number = 0 })
  not_first_branch names v h s some e = by (holds_branch T f v) refl e
    where
      by : (b : Bool) → holds_branch T f v ≡ b → named b (home T f v) (branch_of T f names v) (number_at names v) ≡ Branch (record { cluster = 0; number = 0 }) → ⊥
      by true q z =
          let n = in_register (kept T f v) s in
          let is : branch_of T f names v ≡ n.0 = ap (λ k. number_by k (scratch T f names v)) n.1 in
          let a = branch_from v n.0 h q n.1 in
          let c : branch_of T f names v ≡ 0 = ap branch_number z in omega arith
      by false q z = true_false (sym (ap is_branch_register z))

  -- two values in registers
  pub apart_registers : (p : ℕ) (xs ys : List ℕ) (x y : ℕ) → HasBank x → HasBank y → Busy p x → Busy p y → x ≢ y → is_slotted (kept T f x) ≡ false → is_slotted (kept T f y) ≡ false → register_of T f xs x ≢ register_of T f ys y
  apart_registers p xs ys x y hx hy bx by_ ne sx sy e =
      let n = in_register (kept T f x) sx in
      let j = in_register (kept T f y) sy in
      let bx_is : branch_of T f xs x ≡ n.0 = ap (λ k. number_by k (scratch T f xs x)) n.1 in
      let by_is : branch_of T f ys y ≡ j.0 = ap (λ k. number_by k (scratch T f ys y)) j.1 in
      let gx_is : number_at xs x ≡ n.0 = ap (λ k. number_by k (3 + scratch T f xs x)) n.1 in
      let gy_is : number_at ys y ≡ j.0 = ap (λ k. number_by k (3 + scratch T f ys y)) j.1 in
      ⊎_elim
      (λ q. let same : n.0 ≡ j.0 = sym bx_is ∙ q.2 ∙ by_is in
      mapped.apart.apart x y p n.0 0 BranchBank ne (file_branch x hx q.0) (file_branch y hy q.1) (within p x bx) (within p y by_) n.1 (j.1 ∙ ap InRegister (sym same)))
      (λ q. let same : n.0 ≡ j.0 = sym gx_is ∙ q.3 ∙ gy_is in
      mapped.apart.apart x y p n.0 (home T f x) GeneralBank ne (file_general x hx q.0) (subst (λ k. InFile (T.layout f) y GeneralBank k) (sym q.2) (file_general y hy q.1)) (within p x bx) (within p y by_) n.1 (j.1 ∙ ap InRegister (sym same)))
      (named_same (holds_branch T f x) (holds_branch T f y) (home T f x) (home T f y) (branch_of T f xs x) (branch_of T f ys y) (number_at xs x) (number_at ys y) e)

  -- a value in a register and one in a slot
  pub apart_mixed : (xs ys : List ℕ) (x y : ℕ) → HasBank x → Few ys → IsIn y ys → is_slotted (kept T f x) ≡ false → is_slotted (kept T f y) ≡ true → register_of T f xs x ≢ register_of T f ys y
  apart_mixed xs ys x y hx few i sx sy e =
      let n = in_register (kept T f x) sx in
      let bx_is : branch_of T f xs x ≡ n.0 = ap (λ k. number_by k (scratch T f xs x)) n.1 in
      let gx_is : number_at xs x ≡ n.0 = ap (λ k. number_by k (3 + scratch T f xs x)) n.1 in
      let by_is : branch_of T f ys y ≡ scratch T f ys y = by_other (kept T f y) (scratch T f ys y) sy in
      let gy_is : number_at ys y ≡ 3 + scratch T f ys y = by_other (kept T f y) (3 + scratch T f ys y) sy in
      ⊎_elim
      (λ q. let a = branch_from x n.0 hx q.0 n.1 in let b = few.branch y i sy q.1 in let c = q.2 in omega arith)
      (λ q. let a = general_from x n.0 hx q.0 n.1 in let b = few.general y i sy q.1 in let c = q.3 in omega arith)
      (named_same (holds_branch T f x) (holds_branch T f y) (home T f x) (home T f y) (branch_of T f xs x) (branch_of T f ys y) (number_at xs x) (number_at ys y) e)

  -- two values in slots

  abbrev pub Filed : List ℕ → ℕ → List ℕ
  Filed names v = filter (λ u. same_file T f u v) (slotted T f names)

  bools_same : (b : Bool) → same_bool b b ≡ true
  bools_same true = refl
  bools_same false = refl

  pub file_self : (v : ℕ) → same_file T f v v ≡ true
  file_self v = by (holds_branch T f v)
    where
      by : (b : Bool) → (same_bool b b && (if b then true else eqb (home T f v) (home T f v))) ≡ true
      by true = refl
      by false = eqb_self (home T f v)

  branch_files : (x y : ℕ) → holds_branch T f x ≡ true → holds_branch T f y ≡ true → (u : ℕ) → same_file T f u x ≡ same_file T f u y
  branch_files x y ex ey u = ap (λ c. same_bool (holds_branch T f u) c && (if holds_branch T f u then true else eqb (home T f u) (home T f x))) ex ∙ by (holds_branch T f u) ∙ ap (λ c. same_bool (holds_branch T f u) c && (if holds_branch T f u then true else eqb (home T f u) (home T f y))) (sym ey)
    where
      by : (b : Bool) → (same_bool b true && (if b then true else eqb (home T f u) (home T f x))) ≡ (same_bool b true && (if b then true else eqb (home T f u) (home T f y)))
      by true = refl
      by false = refl

  general_files : (x y : ℕ) → holds_branch T f x ≡ false → holds_branch T f y ≡ false → home T f x ≡ home T f y → (u : ℕ) → same_file T f u x ≡ same_file T f u y
  general_files x y ex ey eh u =
      ap (λ c. same_bool (holds_branch T f u) c && (if holds_branch T f u then true else eqb (home T f u) (home T f x))) (ex ∙ sym ey)
      ∙ ap (λ h. same_bool (holds_branch T f u) (holds_branch T f y) && (if holds_branch T f u then true else eqb (home T f u) h)) eh

  pub filed : (names : List ℕ) (v : ℕ) → IsIn v names → is_slotted (kept T f v) ≡ true → IsIn v (Filed names v)
  filed names v i e = filter_in (λ u. same_file T f u v) v (slotted T f names) (slotted_in T f v names i e) (file_self v)

  scratch_one : (names : List ℕ) (x y : ℕ) → ((u : ℕ) → same_file T f u x ≡ same_file T f u y) → IsIn x names → IsIn y names → is_slotted (kept T f x) ≡ true → is_slotted (kept T f y) ≡ true → scratch T f names x ≡ scratch T f names y → x ≡ y
  scratch_one names x y same ix iy sx sy e =
      let lists : Filed names x ≡ Filed names y = filter_same (λ u. same_file T f u x) (λ u. same_file T f u y) (slotted T f names) same in
      index_one x y (Filed names x) (filed names x ix sx) (subst (IsIn y) (sym lists) (filed names y iy sy)) (e ∙ ap (index_of y) (sym lists))

  pub apart_slots : (names : List ℕ) (x y : ℕ) → IsIn x names → IsIn y names → x ≢ y → is_slotted (kept T f x) ≡ true → is_slotted (kept T f y) ≡ true → register_of T f names x ≢ register_of T f names y
  apart_slots names x y ix iy ne sx sy e =
      let bx_is : branch_of T f names x ≡ scratch T f names x = by_other (kept T f x) (scratch T f names x) sx in
      let by_is : branch_of T f names y ≡ scratch T f names y = by_other (kept T f y) (scratch T f names y) sy in
      let gx_is : number_at names x ≡ 3 + scratch T f names x = by_other (kept T f x) (3 + scratch T f names x) sx in
      let gy_is : number_at names y ≡ 3 + scratch T f names y = by_other (kept T f y) (3 + scratch T f names y) sy in
      ⊎_elim
      (λ q. let c = q.2 in ne (scratch_one names x y (branch_files x y q.0 q.1) ix iy sx sy (omega arith)))
      (λ q. let c = q.3 in ne (scratch_one names x y (general_files x y q.0 q.1 q.2) ix iy sx sy (omega arith)))
      (named_same (holds_branch T f x) (holds_branch T f y) (home T f x) (home T f y) (branch_of T f names x) (branch_of T f names y) (number_at names x) (number_at names y) e)

  -- all that a word names at a place
  pub apart_all : (p : ℕ) (names : List ℕ) (x y : ℕ) → ((v : ℕ) → IsIn v names → HasBank v × Busy p v) → Few names → IsIn x names → IsIn y names → x ≢ y → register_of T f names x ≢ register_of T f names y
  apart_all p names x y each few ix iy ne = by (is_slotted (kept T f x)) (is_slotted (kept T f y)) refl refl
    where
      by : (a b : Bool) → is_slotted (kept T f x) ≡ a → is_slotted (kept T f y) ≡ b → register_of T f names x ≢ register_of T f names y
      by true true sx sy = apart_slots names x y ix iy ne sx sy
      by true false sx sy = λ e. apart_mixed names names y x (each y iy).0 few ix sy sx (sym e)
      by false true sx sy = apart_mixed names names x y (each x ix).0 few iy sx sy
      by false false sx sy = apart_registers p names names x y (each x ix).0 (each y iy).0 (each x ix).1 (each y iy).1 ne sx sy
