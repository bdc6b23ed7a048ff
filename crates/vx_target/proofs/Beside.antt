-- A goto behind the operations of a planned word changes nothing but where they lead.
use Rattle.std.proofs.Common.{◌≡◌, ◌+◌, ℕ, ℤ, Bool, true, false, ◌||◌, not, cond, Option, Some, None, List, [], ◌∷◌, ◌++◌, refl, sym, ap, ◌∙◌}
use Rattle.std.specs.Prelude.{if◌then◌else◌, slice_get, count_by}
use Rattle.std.specs.List.{list_any, flat_map}
use Rattle.std.proofs.lemmas.Bool.{and_parts, false≢true}
use Rattle.vx_isa.specs.declared.operation.Register.{Register}
use Rattle.vx_isa.specs.declared.operation.Operation.{Operation}
use Rattle.vx_isa.specs.declared.operation.Operation.TheVariants.{Goto}
use Rattle.vx_isa.specs.Fits.{fits}
use Rattle.vx_isa.specs.declared.program.WordProgram.{WordProgram}
use Rattle.vx_isa.specs.Operations.{is_observable}
use Rattle.vx_isa.specs.Machine.{State, memory_after, takes_input, print_of, has_bad_address}
use Rattle.vx_isa.proofs.Lists.{count_by-cons}
use Rattle.vx_mixed.specs.declared.layout.Laid.{Laid}
use Rattle.vx_mixed.specs.declared.layout.VirtualWord.{VirtualWord}
use Rattle.vx_mixed.specs.declared.layout.VirtualWord.TheVariants.{Planned, Drain, Transfer, Choice, Call as Calls, Return as Returns, Ends}
use Rattle.vx_mixed.specs.LaidSettled.{laid_reads, laid_writes}
use Rattle.vx_target.specs.Target.{Target, carried_items, slotted, past, follows, is_none, is_split, turn, turn_there, turn_of, goes_beside, with_goto, plan_ops}
use Rattle.vx_target.proofs.Calm.{given}
use Rattle.vx_target.proofs.Forms.{memory_on}

-- lists with one more at the end

pub any_then : {A : Type 0} (p : A → Bool) (xs : List A) (y : A) → p y ≡ false → list_any p (xs ++ y ∷ []) ≡ list_any p xs
any_then p [] y e = ap (λ b. b || false) e
any_then p (x ∷ xs) y e = ap (λ b. p x || b) (any_then p xs y e)

pub count_then : {A : Type 0} (p : A → Bool) (xs : List A) (y : A) → p y ≡ false → count_by p (xs ++ y ∷ []) ≡ count_by p xs
count_then p [] y e = count_by-cons p y [] ∙ ap (λ b. cond b 1 0 + count_by p []) e
count_then p (x ∷ xs) y e = count_by-cons p x (xs ++ y ∷ []) ∙ ap (λ n. cond (p x) 1 0 + n) (count_then p xs y e) ∙ sym (count_by-cons p x xs)

pub all_then : {A B : Type 0} (g : A → List B) (xs : List A) (y : A) → g y ≡ [] → flat_map g (xs ++ y ∷ []) ≡ flat_map g xs
all_then g [] y e = ap (λ zs. zs ++ []) e
all_then g (x ∷ xs) y e = ap (λ zs. g x ++ zs) (all_then g xs y e)

-- registers and memory

pub given_then : (u : State) (memory : ℕ) (ops : List Operation) (q : ℕ) (regs : Register → ℤ) → given u memory (ops ++ Goto q ∷ []) regs ≡ given u memory ops regs
given_then u memory [] q regs = refl
given_then u memory (op ∷ ops) q regs = given_then u memory ops q _

pub memory_then : (u : State) (ops : List Operation) (q : ℕ) (memory : ℕ → ℤ) → memory_after u (ops ++ Goto q ∷ []) memory ≡ memory_after u ops memory
memory_then u [] q memory = refl
memory_then u (op ∷ ops) q memory = memory_on u op (ops ++ Goto q ∷ []) memory ∙ memory_then u ops q (memory_after u (op ∷ []) memory) ∙ sym (memory_on u op ops memory)

-- what a planned word has

pub record Going (T : Target) (f p : ℕ) (items : List Laid) (q : ℕ) : Type 0 where
  pub to : ℕ
  pub transfer : slice_get (T.layout f).words (p + 1) ≡ Some (Transfer to)
  pub is : q ≡ past T f to
  pub away : follows T f (p + 1 + 1) (past T f to) ≡ false
  pub no_split : list_any is_split items ≡ false
  pub no_slot : slotted T f (laid_writes items) ≡ []
  pub fit : fits T.machine (carried_items T f p (laid_reads items) (laid_writes items) items ++ Goto (T.starts f q) ∷ []) ≡ true

-- the operations of a planned word: those that carry its items, or these and a goto
pub data Beside (T : Target) (f p : ℕ) (items : List Laid) : List Operation → Type 0 where
  alone : Beside T f p items (carried_items T f p (laid_reads items) (laid_writes items) items)
  going : (q : ℕ) → Going T f p items q → Beside T f p items (carried_items T f p (laid_reads items) (laid_writes items) items ++ Goto (T.starts f q) ∷ [])

no_slots : (xs : List ℕ) → is_none xs ≡ true → xs ≡ []
no_slots [] e = refl
no_slots (x ∷ xs) e = absurd (false≢true e)

false_of : (b : Bool) → not b ≡ true → b ≡ false
false_of true e = absurd (false≢true e)
false_of false e = refl

turn_from : (T : Target) (f p : ℕ) (word : VirtualWord) (q : ℕ) → turn_of T f p word ≡ Some q → (to : ℕ) × (word ≡ Transfer to) × (q ≡ past T f to) × (follows T f (p + 1) (past T f to) ≡ false)
turn_from T f p (Planned r w items) q e = absurd (cc)
turn_from T f p (Drain n) q e = absurd (cc)
turn_from T f p (Transfer to) q e = by (follows T f (p + 1) (past T f to)) refl e
  where
    by : (b : Bool) → follows T f (p + 1) (past T f to) ≡ b → (if b then None else Some (past T f to)) ≡ Some q → (x : ℕ) × (Transfer to ≡ Transfer x) × (q ≡ past T f x) × (follows T f (p + 1) (past T f x) ≡ false)
    by true h k = absurd (cc)
    by false h k = (to, refl, (let z : past T f to ≡ q = cc in sym z), h)
turn_from T f p (Choice test to) q e = absurd (cc)
turn_from T f p (Calls g arguments result) q e = absurd (cc)
turn_from T f p (Returns x) q e = absurd (cc)
turn_from T f p (Ends k) q e = absurd (cc)

pub turn_is : (T : Target) (f p : ℕ) (o : Option VirtualWord) (q : ℕ) → turn_there T f p o ≡ Some q → (to : ℕ) × (o ≡ Some (Transfer to)) × (q ≡ past T f to) × (follows T f (p + 1) (past T f to) ≡ false)
turn_is T f p None q e = absurd (cc)
turn_is T f p (Some word) q e = let a = turn_from T f p word q e in (a.0, ap Some a.1, a.2, a.3)

pub beside : (T : Target) (f p : ℕ) (items : List Laid) → Beside T f p items (plan_ops T f p items)
beside T f p items = by (turn T f (p + 1)) refl
  where
    Ops : List Operation
    Ops = carried_items T f p (laid_reads items) (laid_writes items) items

    test : (q : ℕ) (b : Bool) → goes_beside T f items (Ops ++ Goto (T.starts f q) ∷ []) ≡ b → turn T f (p + 1) ≡ Some q → Beside T f p items (if b then Ops ++ Goto (T.starts f q) ∷ [] else Ops)
    test q false h e = alone
    test q true h e =
        let a = turn_is T f (p + 1) (slice_get (T.layout f).words (p + 1)) q e in
        let b = and_parts (not (list_any is_split items)) _ h in
        let c = and_parts (is_none (slotted T f (laid_writes items))) _ b.1 in
        going q (record { to = a.0; transfer = a.1; is = a.2; away = a.3; no_split = false_of (list_any is_split items) b.0; no_slot = no_slots (slotted T f (laid_writes items)) c.0; fit = c.1 })

    by : (o : Option ℕ) → turn T f (p + 1) ≡ o → Beside T f p items (with_goto T f items Ops o)
    by None e = alone
    by (Some q) e = test q (goes_beside T f items (Ops ++ Goto (T.starts f q) ∷ [])) refl e

-- so they do the same to a state, but for where they lead
pub record Alike (w : WordProgram) (u : State) (code ops : List Operation) : Type 0 where
  pub given_same : (regs : Register → ℤ) → given u w.memory code regs ≡ given u w.memory ops regs
  pub memory_same : (memory : ℕ → ℤ) → memory_after u code memory ≡ memory_after u ops memory
  pub bad_same : list_any (has_bad_address w.memory u) code ≡ list_any (has_bad_address w.memory u) ops
  pub any_taken : list_any takes_input code ≡ list_any takes_input ops
  pub taken_same : count_by takes_input code ≡ count_by takes_input ops
  pub observed_same : count_by is_observable code ≡ count_by is_observable ops
  pub printed_same : flat_map (print_of w u) code ≡ flat_map (print_of w u) ops

pub alike : (T : Target) (f p : ℕ) (items : List Laid) (w : WordProgram) (u : State) (code : List Operation) → Beside T f p items code → Alike w u code (carried_items T f p (laid_reads items) (laid_writes items) items)
alike T f p items w u code alone = record { given_same = λ regs. refl; memory_same = λ memory. refl; bad_same = refl; any_taken = refl; taken_same = refl; observed_same = refl; printed_same = refl }
alike T f p items w u code (going q g) =
    let ops : List Operation = carried_items T f p (laid_reads items) (laid_writes items) items in
    let go : Operation = Goto (T.starts f q) in
    record {
      given_same = λ regs. given_then u w.memory ops (T.starts f q) regs;
      memory_same = λ memory. memory_then u ops (T.starts f q) memory;
      bad_same = any_then (has_bad_address w.memory u) ops go refl;
      any_taken = any_then takes_input ops go refl;
      taken_same = count_then takes_input ops go refl;
      observed_same = count_then is_observable ops go refl;
      printed_same = all_then (print_of w u) ops go refl;
    }
