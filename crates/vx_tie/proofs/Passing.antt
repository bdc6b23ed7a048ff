-- Arguments are passed: each to the slot of its parameter, in a frame that begins at the stack pointer below that of the caller.
use Rattle.std.proofs.Common.{◌≡◌, ◌≢◌, ◌<◌, ◌≤◌, inl, inr, ⊎_elim, ◌+◌, ◌*◌, ◌^◌, ◌||◌, not, ℕ, suc, ℤ, pos, Bool, true, false, Some, List, [], ◌∷◌, ◌++◌, length, length-append, refl, sym, ap, ◌∙◌, subst, arith}
use Rattle.std.specs.Prelude.{if◌then◌else◌, slice_get}
use Rattle.std.proofs.lemmas.Bool.{and_parts}
use Rattle.std.proofs.lemmas.List.{append-nil}
use Rattle.vx_base.specs.Arithmetic.{one_if, compare_of, wrap}
use Rattle.vx_base.specs.declared.arithmetic.Compare.TheVariants.{Ne}
use Rattle.vx_flow.specs.declared.graph.Operand.{Operand}
use Rattle.vx_flow.specs.declared.graph.Operand.TheVariants.{Held as HeldValue, Number as AsNumber, Stack}
use Rattle.vx_flow.specs.Effects.{IsIn}
use Rattle.vx_flow.specs.Meaning.{at_entry}
use Rattle.vx_isa.specs.declared.operation.Register.{Register}
use Rattle.vx_isa.specs.declared.operation.Register.TheVariants.{General, Branch, Link}
use Rattle.vx_isa.specs.declared.operation.Source.{Source}
use Rattle.vx_isa.specs.declared.operation.Operation.{Operation}
use Rattle.vx_isa.specs.declared.operation.Operation.TheVariants.{Store, Call as Jumps}
use Rattle.vx_isa.specs.declared.program.Word.{Word}
use Rattle.vx_isa.specs.declared.program.WordProgram.{WordProgram}
use Rattle.vx_isa.specs.Numbers.{Numbers}
use Rattle.vx_isa.specs.Machine.{State, register, source, address, stored}
use Rattle.vx_mixed.specs.Settled.{NoTwice}
use Rattle.vx_target.specs.Target.{Target, answer, stack_on, kept, is_slotted, holds_branch, general_of, branch_of, register_of, one, pause, in_flight, settled, bytes, load_slot, fetch_words, fetched, cluster_of_operand, passes, is_none, calls_beside, store_or_call, argument_words, memory_words}
use Rattle.vx_target.specs.Tied.{word_at}
use Rattle.vx_target.proofs.Calm.{seen, put_at, put_off, after, AllFit}
use Rattle.vx_target.proofs.Cells.{same_or_not, store_at, store_off}
use Rattle.vx_target.proofs.Steps.{Stands, stands_left, stands_right, Quiet, quiet_on, Comes, stay, comes_on, Forth, then_forth, forth_comes, pause_step, store_step, word_step, slot_address, slot_word}
use Rattle.vx_target.proofs.Slots.{Usable, load_one, stack_no_answer}

module _ (m : Numbers) (w : WordProgram) (fit : AllFit m w) (T : Target) (f sp : ℕ) (size : w.memory ≡ 4 * memory_words T) (small : 4 * memory_words T < 2 ^ 32) (some : 0 < T.machine.clusters) where
  abbrev One : ℕ → List ℕ
  One v = v ∷ []

  abbrev pub StackAt : State → Type 0
  StackAt u = (k : ℕ) → k < T.machine.clusters → register u (General (stack_on k)) ≡ pos (4 * sp)

  -- a value that can be fetched: a general one, from its register, or from its slot in a frame that begins so many words higher
  pub record CanFetch (up v : ℕ) : Type 0 where
    pub general : holds_branch T f v ≡ false
    pub usable : Usable m w fit T f sp size small some (One v) v
    pub inside : is_slotted (kept T f v) ≡ true → sp + (up + T.slot f v) < memory_words T

  abbrev Own : ℕ → Register
  Own v = register_of T f (One v) v

  -- an operand's number is where it can be fetched
  abbrev pub OperandAt : State → (up : ℕ) → Operand → ℤ → Type 0
  OperandAt u up (HeldValue v) n = CanFetch up v × ((if is_slotted (kept T f v) then word_at u.memory (sp + (up + T.slot f v)) else seen u.registers (register_of T f (v ∷ []) v)) ≡ n)
  OperandAt u up (AsNumber z) n = z ≡ n
  OperandAt u up Stack n = ⊥

  pub record Got (u : State) (a : Operand) (n : ℤ) (taken : ℕ) : Type 0 where
    pub to : State
    pub comes : Comes m w fit u to
    pub place : to.place ≡ u.place + taken
    pub quiet : Quiet u to
    pub memory : to.memory ≡ u.memory
    pub is : source to (fetched T f a) ≡ n
    pub others : (q : Register) → ((v : ℕ) → a ≡ HeldValue v → is_slotted (kept T f v) ≡ true → q ≢ register_of T f (v ∷ []) v) → (q ≢ General answer) → seen to.registers q ≡ seen u.registers q

  as_general : (v : ℕ) → holds_branch T f v ≡ false → register_of T f (One v) v ≡ General (general_of T f (One v) v)
  as_general v e = ap (λ b. if b then Branch (record { cluster = 0; number = branch_of T f (One v) v }) else General (general_of T f (One v) v)) e

  abbrev loads : ℕ → ℕ → List Word
  loads up v = load_slot T f up v (general_of T f (One v) v) (branch_of T f (One v) v)

  fetch_case : (up v : ℕ) (n : ℤ) (u : State) → u.flying ≡ [] → StackAt u → CanFetch up v → (b : Bool) → is_slotted (kept T f v) ≡ b → Stands w.words u.place (if b then settled T (loads up v) else []) → (if b then word_at u.memory (sp + (up + T.slot f v)) else seen u.registers (register_of T f (v ∷ []) v)) ≡ n → Got u (HeldValue v) n (length (if b then settled T (loads up v) else []))
  fetch_case up v n u calm stack can false e st is = record {
    to = u;
    comes = stay m w fit u;
    place = omega arith;
    quiet = record { calm = calm; input = refl; out = refl };
    memory = refl;
    is = ap (seen u.registers) (sym (as_general v can.general)) ∙ is;
    others = λ q h na. refl;
  }
  fetch_case up v n u calm stack can true e st is =
      let late : ℕ = in_flight T.machine 0 (loads up v) in
      let a = load_one m w fit T f sp size small some (One v) up v u calm can.usable (stands_left w.words u.place (loads up v) (pause late) st) stack (can.inside e) in
      let b = pause_step m w fit a.to late a.quiet.calm (subst (λ q. Stands w.words q (pause late)) (sym a.place) (stands_right w.words u.place (loads up v) (pause late) st)) in
      let pa = a.place in
      let pb = b.place in
      let len : length (loads up v ++ pause late) ≡ length (loads up v) + length (pause late) = length-append (loads up v) (pause late) in
      let plain : (if holds_branch T f v then one_if (compare_of Ne (word_at u.memory (sp + (up + T.slot f v))) (pos 0)) else word_at u.memory (sp + (up + T.slot f v))) ≡ word_at u.memory (sp + (up + T.slot f v)) = ap (λ c. if c then one_if (compare_of Ne (word_at u.memory (sp + (up + T.slot f v))) (pos 0)) else word_at u.memory (sp + (up + T.slot f v))) can.general in
      record {
        to = b.to;
        comes = comes_on m w fit u a.to b.to a.comes b.comes;
        place = omega arith;
        quiet = quiet_on u a.to b.to a.quiet b.quiet;
        memory = b.memory ∙ a.memory;
        is = ap (λ g. seen g (General (general_of T f (One v) v))) b.registers ∙ ap (seen a.to.registers) (sym (as_general v can.general)) ∙ a.at ∙ plain ∙ is;
        others = λ q h na. ap (λ g. seen g q) b.registers ∙ a.others q (h v refl e) na;
      }

  pub fetch_run : (up : ℕ) (a : Operand) (n : ℤ) (u : State) → u.flying ≡ [] → StackAt u → Stands w.words u.place (fetch_words T f up a) → OperandAt u up a n → Got u a n (length (fetch_words T f up a))
  fetch_run up (HeldValue v) n u calm stack st at = fetch_case up v n u calm stack at.0 (is_slotted (kept T f v)) refl st at.1
  fetch_run up (AsNumber z) n u calm stack st at = record { to = u; comes = stay m w fit u; place = omega arith; quiet = record { calm = calm; input = refl; out = refl }; memory = refl; is = at; others = λ q h na. refl }
  fetch_run up Stack n u calm stack st at = absurd at

  -- several arguments

  abbrev pub OperandsAt : State → List Operand → List ℤ → Type 0
  OperandsAt u [] [] = Unit {0}
  OperandsAt u [] (n ∷ ns) = ⊥
  OperandsAt u (a ∷ arguments) [] = ⊥
  OperandsAt u (a ∷ arguments) (n ∷ ns) = OperandAt u T.frame a n × OperandsAt u arguments ns

  -- a value in a register is not in one by which a value in a slot is fetched
  abbrev pub Fetches : List Operand → Type 0
  Fetches arguments = (x y : ℕ) → IsIn (HeldValue x) arguments → IsIn (HeldValue y) arguments → is_slotted (kept T f x) ≡ false → is_slotted (kept T f y) ≡ true → register_of T f (x ∷ []) x ≢ register_of T f (y ∷ []) y

  -- the arguments are in the slots of the parameters, and the function that is called begins, with the place behind the call in the link
  pub record Called (u : State) (g : ℕ) (vs : List ℕ) (ns : List ℤ) (taken : ℕ) : Type 0 where
    pub to : State
    pub forth : Forth m w fit u to
    pub place : to.place ≡ T.entry g
    pub link : to.registers Link ≡ wrap (pos (u.place + taken))
    pub quiet : Quiet u to
    pub stack : StackAt to
    pub values : (v : ℕ) (n : ℤ) → at_entry vs ns v ≡ Some n → IsIn v vs × (word_at to.memory (sp + T.slot g v) ≡ n)
    pub elsewhere : (x : ℕ) → ((v : ℕ) → IsIn v vs → x ≢ sp + T.slot g v) → word_at to.memory x ≡ word_at u.memory x

  abbrev Jump : ℕ → Word
  Jump g = one (Jumps (T.entry g))

  -- the call alone
  call_alone : (g : ℕ) (vs : List ℕ) (ns : List ℤ) (u : State) → u.flying ≡ [] → StackAt u → slice_get w.words u.place ≡ Some (Jump g) → ((v : ℕ) (n : ℤ) → at_entry vs ns v ≡ Some n → ⊥) → Called u g vs ns 1
  call_alone g vs ns u calm stack at none = record {
    to = after w u (Jump g) (T.entry g);
    forth = word_step m w fit u (Jump g) (T.entry g) calm at (record { addresses = refl; input = refl }) refl;
    place = refl;
    link = put_at Link (wrap (pos (u.place + 1))) u.registers refl;
    quiet = record { calm = refl; input = refl; out = append-nil u.out };
    stack = λ k lt. put_off Link (wrap (pos (u.place + 1))) u.registers (General (stack_on k)) (λ e. absurd (cc)) ∙ stack k lt;
    values = λ v n e. absurd (none v n e);
    elsewhere = λ x h. refl;
  }

  -- a call with a store beside it

  abbrev Puts : (k o : ℕ) → Source → Operation
  Puts k o a = Store k (bytes o) (stack_on k) a

  abbrev Beside : (g k o : ℕ) → Source → Word
  Beside g k o a = record { ops = Puts k o a ∷ Jumps (T.entry g) ∷ []; idle = 0 }

  none_at : (vs : List ℕ) (ns : List ℤ) (v : ℕ) (n : ℤ) → is_none vs ≡ true → at_entry vs ns v ≡ Some n → ⊥
  none_at [] ns v n z e = absurd (cc)
  none_at (q ∷ qs) ns v n z e = absurd (let y : false ≡ true = z in cc)

  call_beside : (g v : ℕ) (vs : List ℕ) (n : ℤ) (ns : List ℤ) (k : ℕ) (a : Source) (u : State) → u.flying ≡ [] → StackAt u → slice_get w.words u.place ≡ Some (Beside g k (T.slot g v) a) → k < T.machine.clusters → sp + T.slot g v < memory_words T → source u a ≡ n → is_none vs ≡ true → Called u g (v ∷ vs) (n ∷ ns) 1
  call_beside g v vs n ns k a u calm stack at lt inside is none =
      let o : ℕ = T.slot g v in
      let address_of : address u (stack_on k) (bytes o) ≡ 4 * (sp + o) = slot_address m w fit (memory_words T) size small u (stack_on k) sp o (stack k lt) inside in
      let to : State = after w u (Beside g k o a) (T.entry g) in
      let there : (y : ℕ) → y ≡ sp + o → word_at to.memory y ≡ source u a = λ y q. ap (λ j. word_at (stored u.memory j (source u a)) y) address_of ∙ store_at u.memory (sp + o) y (source u a) q in
      record {
        to = to;
        forth = word_step m w fit u (Beside g k o a) (T.entry g) calm at (record { addresses = ap (λ b. not b || false) (slot_word m w fit (memory_words T) size small u (stack_on k) sp o (stack k lt) inside); input = refl }) refl;
        place = refl;
        link = put_at Link (wrap (pos (u.place + 1))) u.registers refl;
        quiet = record { calm = refl; input = refl; out = append-nil u.out };
        stack = λ j below. put_off Link (wrap (pos (u.place + 1))) u.registers (General (stack_on j)) (λ e. absurd (cc)) ∙ stack j below;
        values = λ x z e. ⊎_elim
            (λ q. let y : n ≡ z = (let s : Some n ≡ Some z = sym (ap (λ b. if b then Some n else at_entry vs ns x) q.0) ∙ e in cc) in (inl q.1, there (sp + T.slot g x) (ap (λ i. sp + T.slot g i) q.1) ∙ is ∙ y))
            (λ q. absurd (none_at vs ns x z none (sym (ap (λ b. if b then Some n else at_entry vs ns x) q.0) ∙ e)))
            (same_or_not x v);
        elsewhere = λ x h. ap (λ j. word_at (stored u.memory j (source u a)) x) address_of ∙ store_off u.memory (sp + o) x (source u a) (h v (inl refl));
      }

  -- whichever of both the words are
  either : (u : State) (g v : ℕ) (vs : List ℕ) (n : ℤ) (ns : List ℤ) (k : ℕ) (a : Source) (rest : List Word) (b : Bool) → Stands w.words u.place (if b then Beside g k (T.slot g v) a ∷ [] else one (Puts k (T.slot g v) a) ∷ rest) → (b ≡ true → slice_get w.words u.place ≡ Some (Beside g k (T.slot g v) a) → Called u g (v ∷ vs) (n ∷ ns) 1) → (Stands w.words u.place (one (Puts k (T.slot g v) a) ∷ rest) → Called u g (v ∷ vs) (n ∷ ns) (suc (length rest))) → Called u g (v ∷ vs) (n ∷ ns) (length (if b then Beside g k (T.slot g v) a ∷ [] else one (Puts k (T.slot g v) a) ∷ rest))
  either u g v vs n ns k a rest true st one_word two = one_word refl st.0
  either u g v vs n ns k a rest false st one_word two = two st

  operand_kept : (u t : State) (a : Operand) (n : ℤ) → ((x : ℕ) → sp + T.frame ≤ x → word_at t.memory x ≡ word_at u.memory x) → ((v : ℕ) → a ≡ HeldValue v → is_slotted (kept T f v) ≡ false → seen t.registers (register_of T f (v ∷ []) v) ≡ seen u.registers (register_of T f (v ∷ []) v)) → OperandAt u T.frame a n → OperandAt t T.frame a n
  operand_kept u t (HeldValue v) n memory regs at = (at.0, by (is_slotted (kept T f v)) refl at.1)
    where
      by : (b : Bool) → is_slotted (kept T f v) ≡ b → (if b then word_at u.memory (sp + (T.frame + T.slot f v)) else seen u.registers (register_of T f (v ∷ []) v)) ≡ n → (if b then word_at t.memory (sp + (T.frame + T.slot f v)) else seen t.registers (register_of T f (v ∷ []) v)) ≡ n
      by true e k = memory (sp + (T.frame + T.slot f v)) (omega arith) ∙ k
      by false e k = regs v refl e ∙ k
  operand_kept u t (AsNumber z) n memory regs at = at
  operand_kept u t Stack n memory regs at = at

  operands_kept : (u t : State) (arguments : List Operand) (ns : List ℤ) → ((x : ℕ) → sp + T.frame ≤ x → word_at t.memory x ≡ word_at u.memory x) → ((v : ℕ) → IsIn (HeldValue v) arguments → is_slotted (kept T f v) ≡ false → seen t.registers (register_of T f (v ∷ []) v) ≡ seen u.registers (register_of T f (v ∷ []) v)) → OperandsAt u arguments ns → OperandsAt t arguments ns
  operands_kept u t [] [] memory regs at = tt
  operands_kept u t [] (n ∷ ns) memory regs at = at
  operands_kept u t (a ∷ arguments) [] memory regs at = at
  operands_kept u t (a ∷ arguments) (n ∷ ns) memory regs at = (operand_kept u t a n memory (λ v e. regs v (inl (sym e))) at.0, operands_kept u t arguments ns memory (λ v i. regs v (inr i)) at.1)

  cluster_below : (u : State) (a : Operand) (n : ℤ) → OperandAt u T.frame a n → cluster_of_operand T f a < T.machine.clusters
  cluster_below u (HeldValue v) n at = at.0.usable.cluster
  cluster_below u (AsNumber z) n at = some
  cluster_below u Stack n at = absurd at

  stack_kept : (u : State) (a : Operand) (n : ℤ) (k : ℕ) → OperandAt u T.frame a n → (v : ℕ) → a ≡ HeldValue v → is_slotted (kept T f v) ≡ true → General (stack_on k) ≢ register_of T f (v ∷ []) v
  stack_kept u (HeldValue x) n k at v e h q = let z : x ≡ v = cc in at.0.usable.not_stack k (ap (λ y. register_of T f (y ∷ []) y) z ∙ sym q)
  stack_kept u (AsNumber z) n k at v e h q = absurd (cc)
  stack_kept u Stack n k at v e h q = absurd at

  can_of : (u : State) (arguments : List Operand) (ns : List ℤ) (v : ℕ) → OperandsAt u arguments ns → IsIn (HeldValue v) arguments → CanFetch T.frame v
  can_of u [] ns v at i = absurd i
  can_of u (a ∷ arguments) [] v at i = absurd at
  can_of u (a ∷ arguments) (n ∷ ns) v at i = ⊎_elim (λ e. let q : OperandAt u T.frame (HeldValue v) n = subst (λ x. OperandAt u T.frame x n) (sym e) at.0 in q.0) (λ j. can_of u arguments ns v at.1 j) i

  pub pass_run : (g : ℕ) (vs : List ℕ) (arguments : List Operand) (ns : List ℤ) (u : State) → u.flying ≡ [] → StackAt u → Stands w.words u.place (argument_words T f g vs arguments) → OperandsAt u arguments ns → Fetches arguments → ((v : ℕ) → IsIn v vs → sp + T.slot g v < memory_words T) → ((v : ℕ) → IsIn v vs → T.slot g v < T.frame) → ((x y : ℕ) → IsIn x vs → IsIn y vs → T.slot g x ≡ T.slot g y → x ≡ y) → NoTwice vs → Called u g vs ns (length (argument_words T f g vs arguments))
  pass_run g [] arguments ns u calm stack st at apart inside low slots once = call_alone g [] ns u calm stack st.0 (λ v n e. absurd (cc))
  pass_run g (v ∷ vs) [] [] u calm stack st at apart inside low slots once = call_alone g (v ∷ vs) [] u calm stack st.0 (λ x n e. absurd (cc))
  pass_run g (v ∷ vs) [] (n ∷ ns) u calm stack st at apart inside low slots once = absurd at
  pass_run g (v ∷ vs) (a ∷ arguments) [] u calm stack st at apart inside low slots once = absurd at
  pass_run g (v ∷ vs) (a ∷ arguments) (n ∷ ns) u calm stack st at apart inside low slots once =
      let first : List Word = fetch_words T f T.frame a in
      let k : ℕ = cluster_of_operand T f a in
      let more : List Word = argument_words T f g vs arguments in
      let put : List Word = store_or_call T g vs (passes T f g v a) more in
      let got = fetch_run T.frame a n u calm stack (stands_left w.words u.place first put st) at.0 in
      let stack1 : StackAt got.to = λ k lt. got.others (General (stack_on k)) (λ x e h. stack_kept u a n k at.0 x e h) (stack_no_answer k) ∙ stack k lt in
      let below : k < T.machine.clusters = cluster_below u a n at.0 in
      let called = either got.to g v vs n ns k (fetched T f a) more (calls_beside T g vs (passes T f g v a)) (subst (λ q. Stands w.words q put) (sym got.place) (stands_right w.words u.place first put st))
      (λ e s. call_beside g v vs n ns k (fetched T f a) got.to got.quiet.calm stack1 s below (inside v (inl refl)) got.is (and_parts _ _ e).0)
      (λ s.
      let c = store_step m w fit (memory_words T) size small got.to k (stack_on k) (fetched T f a) sp (T.slot g v) got.quiet.calm s.0 (stack1 k below) (inside v (inl refl)) in
      let stack2 : StackAt c.to = λ k lt. ap (λ x. seen x (General (stack_on k))) c.registers ∙ stack1 k lt in
      let above : (x : ℕ) → sp + T.frame ≤ x → word_at c.to.memory x ≡ word_at u.memory x = λ x le. c.elsewhere x (λ e. let l = low v (inl refl) in omega arith) ∙ ap (λ y. word_at y x) got.memory in
      let kept_registers : (y : ℕ) → IsIn (HeldValue y) arguments → is_slotted (kept T f y) ≡ false → seen c.to.registers (register_of T f (y ∷ []) y) ≡ seen u.registers (register_of T f (y ∷ []) y) =
      λ y i h. ap (λ x. seen x (register_of T f (y ∷ []) y)) c.registers ∙ got.others (register_of T f (y ∷ []) y) (λ x e hx. apart y x (inr i) (inl (sym e)) h hx) (can_of u arguments ns y at.1 i).usable.not_answer in
      let rest = pass_run g vs arguments ns c.to c.quiet.calm stack2 (subst (λ q. Stands w.words q more) (sym c.place) s.1) (operands_kept u c.to arguments ns above kept_registers at.1) (λ x y i j. apart x y (inr i) (inr j)) (λ x i. inside x (inr i)) (λ x i. low x (inr i)) (λ x y i j. slots x y (inr i) (inr j)) once.1 in
      let pc = c.place in
      let behind : c.to.place + length more ≡ got.to.place + suc (length more) = omega arith in
      record {
        to = rest.to;
        forth = then_forth m w fit got.to c.to rest.to (forth_comes m w fit got.to c.to c.forth) rest.forth;
        place = rest.place;
        link = rest.link ∙ ap (λ i. wrap (pos i)) behind;
        quiet = quiet_on got.to c.to rest.to c.quiet rest.quiet;
        stack = rest.stack;
        values = λ x z e. ⊎_elim
            (λ q. let k : n ≡ z = (let y : Some n ≡ Some z = sym (ap (λ b. if b then Some n else at_entry vs ns x) q.0) ∙ e in cc) in
            (inl q.1, ap (λ y. word_at rest.to.memory (sp + T.slot g y)) q.1 ∙ rest.elsewhere (sp + T.slot g v) (λ y j same. once.0 (let s : v ≡ y = slots v y (inl refl) (inr j) (omega arith) in subst (λ t. IsIn t vs) (sym s) j)) ∙ c.at (sp + T.slot g v) refl ∙ got.is ∙ k))
            (λ q. let r = rest.values x z (sym (ap (λ b. if b then Some n else at_entry vs ns x) q.0) ∙ e) in (inr r.0, r.1))
            (same_or_not x v);
        elsewhere = λ x h. rest.elsewhere x (λ y j. h y (inr j)) ∙ c.elsewhere x (h v (inl refl));
      }) in
      let pg = got.place in
      let len : length (first ++ put) ≡ length first + length put = length-append first put in
      let behind : got.to.place + length put ≡ u.place + length (first ++ put) = omega arith in
      record {
        to = called.to;
        forth = then_forth m w fit u got.to called.to got.comes called.forth;
        place = called.place;
        link = called.link ∙ ap (λ i. wrap (pos i)) behind;
        quiet = quiet_on u got.to called.to got.quiet called.quiet;
        stack = called.stack;
        values = called.values;
        elsewhere = λ x h. called.elsewhere x h ∙ ap (λ y. word_at y x) got.memory;
      }
