-- Values between slots of a frame and the registers by which a word names them.
use Rattle.std.proofs.Common.{◌≡◌, ◌≢◌, ◌<◌, ◌⊎◌, inl, inr, ⊎_elim, ◌+◌, ◌*◌, ◌^◌, ℕ, zero, suc, ℤ, pos, Bool, true, false, Some, List, [], ◌∷◌, ◌++◌, length, length-append, refl, sym, ap, ◌∙◌, subst, arith}
use Rattle.std.specs.Prelude.{if◌then◌else◌, slice_get}
use Rattle.vx_base.specs.Arithmetic.{one_if, compare_of}
use Rattle.vx_base.specs.declared.arithmetic.Code.TheVariants.{ToBranch}
use Rattle.vx_base.specs.declared.arithmetic.Compare.TheVariants.{Ne}
use Rattle.vx_flow.specs.Effects.{IsIn}
use Rattle.vx_isa.specs.declared.operation.GeneralRegister.{GeneralRegister}
use Rattle.vx_isa.specs.declared.operation.Register.{Register}
use Rattle.vx_isa.specs.declared.operation.Register.TheVariants.{General, Branch, Link}
use Rattle.vx_isa.specs.declared.operation.Source.TheVariants.{Held, Number}
use Rattle.vx_isa.specs.declared.operation.Operation.TheVariants.{Compute, Select, Load, Store}
use Rattle.vx_isa.specs.declared.program.Word.{Word}
use Rattle.vx_isa.specs.declared.program.WordProgram.{WordProgram}
use Rattle.vx_isa.specs.Numbers.{Numbers}
use Rattle.vx_isa.specs.Operations.{is_zero}
use Rattle.vx_isa.specs.Machine.{State, register, is_one}
use Rattle.vx_target.specs.Target.{Target, answer, stack_on, general_of, branch_of, register_of, holds_branch, home, one, pause, in_flight, settled, bytes, load_slot, store_slot, load_slots, store_slots, if_some, once, memory_words}
use Rattle.vx_target.specs.Tied.{IsAnswer, word_at}
use Rattle.vx_target.proofs.Calm.{seen, AllFit}
use Rattle.vx_target.proofs.Once.{in_once, once_in}
use Rattle.vx_target.proofs.Cells.{same_or_not}
use Rattle.vx_target.proofs.Steps.{Stands, stands_left, stands_right, Quiet, quiet_on, Comes, stay, comes_on, forth_comes, set_step, pause_step, load_step, store_step}

pub in_or_not : (v : ℕ) (us : List ℕ) → IsIn v us ⊎ (IsIn v us → ⊥)
in_or_not v [] = inr (λ i. i)
in_or_not v (u ∷ us) = ⊎_elim (λ q. inl (inl q.1)) (λ q. ⊎_elim (λ i. inl (inr i)) (λ n. inr (λ i. ⊎_elim q.1 n i)) (in_or_not v us)) (same_or_not v u)

abbrev pub number_in : Register → ℕ
number_in (General r) = r.number
number_in (Branch r) = 0
number_in Link = 0

pub one_two : suc zero ≡ suc (suc zero) → ⊥
one_two q = omega arith

abbrev is_link : Register → Bool
is_link (General r) = false
is_link (Branch r) = false
is_link Link = true

true_false : true ≡ false → ⊥
true_false e = absurd (cc)

-- no word names a value by the register of the link
pub link_unnamed : (T : Target) (f : ℕ) (names : List ℕ) (v : ℕ) → Link ≢ register_of T f names v
link_unnamed T f names v e = by (holds_branch T f v) e
  where
    by : (b : Bool) → Link ≡ (if b then Branch (record { cluster = 0; number = branch_of T f names v }) else General (general_of T f names v)) → ⊥
    by true q = true_false (ap is_link q)
    by false q = true_false (ap is_link q)

pub link_no_general : (r : GeneralRegister) → Link ≢ General r
link_no_general r e = true_false (ap is_link e)

pub stack_no_answer : (k : ℕ) → General (stack_on k) ≢ General answer
stack_no_answer k e = one_two (ap number_in e)

-- what is read from a slot, and what is kept in it, of a branch value or another
abbrev pub as_read : Bool → ℤ → ℤ
as_read branch x = if branch then one_if (compare_of Ne x (pos 0)) else x

abbrev pub as_kept : Bool → ℤ → ℤ
as_kept branch x = if branch then (if is_one x then pos 1 else pos 0) else x

pub read_answer : (branch : Bool) (n : ℤ) → IsAnswer branch n → as_read branch n ≡ n
read_answer false n h = refl
read_answer true n h = ⊎_elim (λ e. ap (as_read true) e ∙ sym e) (λ e. ap (as_read true) e ∙ sym e) (h refl)

pub kept_answer : (branch : Bool) (n : ℤ) → IsAnswer branch n → as_kept branch n ≡ n
kept_answer false n h = refl
kept_answer true n h = ⊎_elim (λ e. ap (as_kept true) e ∙ sym e) (λ e. ap (as_kept true) e ∙ sym e) (h refl)

module _ (m : Numbers) (w : WordProgram) (fit : AllFit m w) (T : Target) (f sp : ℕ) (size : w.memory ≡ 4 * memory_words T) (small : 4 * memory_words T < 2 ^ 32) (some : 0 < T.machine.clusters) (names : List ℕ) where
  abbrev pub Named : ℕ → Register
  Named v = register_of T f names v

  -- the register by which a word names the value has no use of its own, and the value has a slot
  pub record Usable (v : ℕ) : Type 0 where
    pub cluster : home T f v < T.machine.clusters
    pub not_zero : is_zero (Named v) ≡ false
    pub not_answer : Named v ≢ General answer
    pub not_stack : (k : ℕ) → Named v ≢ General (stack_on k)

  abbrev pub StackAt : State → Type 0
  StackAt u = (k : ℕ) → k < T.machine.clusters → register u (General (stack_on k)) ≡ pos (4 * sp)

  -- a slot was loaded
  pub record SlotLoaded (u : State) (r : Register) (x : ℤ) (taken : ℕ) : Type 0 where
    pub to : State
    pub comes : Comes m w fit u to
    pub place : to.place ≡ u.place + taken
    pub quiet : Quiet u to
    pub memory : to.memory ≡ u.memory
    pub at : seen to.registers r ≡ x
    pub others : (q : Register) → (q ≢ r) → (q ≢ General answer) → seen to.registers q ≡ seen u.registers q

  abbrev by_bank : Bool → ℕ → Register
  by_bank b v = if b then Branch (record { cluster = 0; number = branch_of T f names v }) else General (general_of T f names v)

  abbrev load_words : Bool → ℕ → ℕ → List Word
  load_words b up v =
      if b
      then settled T (one (Load 0 answer (bytes (up + T.slot f v)) (stack_on 0) false) ∷ []) ++ one (Compute 0 (ToBranch Ne) (Branch (record { cluster = 0; number = branch_of T f names v })) (Held answer) (Number (pos 0))) ∷ []
      else one (Load (home T f v) (general_of T f names v) (bytes (up + T.slot f v)) (stack_on (home T f v)) false) ∷ []

  load_case : (b : Bool) (up v : ℕ) (u : State) → u.flying ≡ [] → is_zero (by_bank b v) ≡ false → home T f v < T.machine.clusters → Stands w.words u.place (load_words b up v) → StackAt u → sp + (up + T.slot f v) < memory_words T → SlotLoaded u (by_bank b v) (as_read b (word_at u.memory (sp + (up + T.slot f v)))) (length (load_words b up v))
  load_case false up v u calm not_zero below st stack inside =
      let a = load_step m w fit (memory_words T) size small u (home T f v) (general_of T f names v) (stack_on (home T f v)) sp (up + T.slot f v) calm st.0 (stack (home T f v) below) inside not_zero in
      record { to = a.to; comes = forth_comes m w fit u a.to a.forth; place = a.place; quiet = a.quiet; memory = a.memory; at = a.at; others = λ q ne na. a.others q ne }
  load_case true up v u calm not_zero below st stack inside =
      let a = load_step m w fit (memory_words T) size small u 0 answer (stack_on 0) sp (up + T.slot f v) calm st.0 (stack 0 some) inside refl in
      let n : ℕ = in_flight T.machine 0 (one (Load 0 answer (bytes (up + T.slot f v)) (stack_on 0) false) ∷ []) in
      let Rest : List Word = pause n in
      let b = pause_step m w fit a.to n a.quiet.calm (subst (λ q. Stands w.words q Rest) (sym a.place) (stands_left w.words (u.place + 1) Rest (one (Compute 0 (ToBranch Ne) (Branch (record { cluster = 0; number = branch_of T f names v })) (Held answer) (Number (pos 0))) ∷ []) st.1)) in
      let at_b : b.to.place ≡ (u.place + 1) + length Rest = b.place ∙ ap (λ q. q + length Rest) a.place in
      let c = set_step m w fit b.to (Compute 0 (ToBranch Ne) (Branch (record { cluster = 0; number = branch_of T f names v })) (Held answer) (Number (pos 0))) (Branch (record { cluster = 0; number = branch_of T f names v }))
      (one_if (compare_of Ne (word_at u.memory (sp + (up + T.slot f v))) (pos 0))) b.quiet.calm
      (subst (λ q. slice_get w.words q ≡ Some (one (Compute 0 (ToBranch Ne) (Branch (record { cluster = 0; number = branch_of T f names v })) (Held answer) (Number (pos 0))))) (sym at_b) (stands_right w.words (u.place + 1) Rest (one (Compute 0 (ToBranch Ne) (Branch (record { cluster = 0; number = branch_of T f names v })) (Held answer) (Number (pos 0))) ∷ []) st.1).0)
      (record { bad = refl; takes = refl; prints = refl; stores = λ m. refl; leads = λ ops. refl }) refl refl
      (ap (λ z. one_if (compare_of Ne z (pos 0))) (ap (λ g. seen g (General answer)) b.registers ∙ a.at)) in
      let pc = c.place in
      let len = length-append Rest (one (Compute 0 (ToBranch Ne) (Branch (record { cluster = 0; number = branch_of T f names v })) (Held answer) (Number (pos 0))) ∷ []) in
      record {
        to = c.to;
        comes = comes_on m w fit u a.to c.to (forth_comes m w fit u a.to a.forth) (comes_on m w fit a.to b.to c.to b.comes (forth_comes m w fit b.to c.to c.forth));
        place = omega arith;
        quiet = quiet_on u a.to c.to a.quiet (quiet_on a.to b.to c.to b.quiet c.quiet);
        memory = c.memory ∙ b.memory ∙ a.memory;
        at = c.at;
        others = λ q ne na. c.others q ne ∙ ap (λ g. seen g q) b.registers ∙ a.others q na;
      }

  pub load_one : (up v : ℕ) (u : State) → u.flying ≡ [] → Usable v → Stands w.words u.place (load_slot T f up v (general_of T f names v) (branch_of T f names v)) → StackAt u → sp + (up + T.slot f v) < memory_words T → SlotLoaded u (Named v) (as_read (holds_branch T f v) (word_at u.memory (sp + (up + T.slot f v)))) (length (load_slot T f up v (general_of T f names v) (branch_of T f names v)))
  load_one up v u calm usable st stack inside = load_case (holds_branch T f v) up v u calm usable.not_zero usable.cluster st stack inside

  -- a slot was written
  pub record SlotKept (u : State) (x : ℕ) (z : ℤ) (taken : ℕ) : Type 0 where
    pub to : State
    pub comes : Comes m w fit u to
    pub place : to.place ≡ u.place + taken
    pub quiet : Quiet u to
    pub others : (q : Register) → (q ≢ General answer) → seen to.registers q ≡ seen u.registers q
    pub at : (y : ℕ) → y ≡ x → word_at to.memory y ≡ z
    pub elsewhere : (y : ℕ) → (y ≢ x) → word_at to.memory y ≡ word_at u.memory y

  abbrev store_words : Bool → ℕ → List Word
  store_words b v =
      if b
      then settled T (one (Select 0 answer (record { cluster = 0; number = branch_of T f names v }) (Number (pos 1)) (Number (pos 0))) ∷ []) ++ one (Store 0 (bytes (T.slot f v)) (stack_on 0) (Held answer)) ∷ []
      else one (Store (home T f v) (bytes (T.slot f v)) (stack_on (home T f v)) (Held (general_of T f names v))) ∷ []

  store_case : (b : Bool) (v : ℕ) (u : State) → u.flying ≡ [] → home T f v < T.machine.clusters → Stands w.words u.place (store_words b v) → StackAt u → sp + T.slot f v < memory_words T → SlotKept u (sp + T.slot f v) (as_kept b (seen u.registers (by_bank b v))) (length (store_words b v))
  store_case false v u calm below st stack inside =
      let a = store_step m w fit (memory_words T) size small u (home T f v) (stack_on (home T f v)) (Held (general_of T f names v)) sp (T.slot f v) calm st.0 (stack (home T f v) below) inside in
      record { to = a.to; comes = forth_comes m w fit u a.to a.forth; place = a.place; quiet = a.quiet; others = λ q na. ap (λ g. seen g q) a.registers; at = a.at; elsewhere = a.elsewhere }
  store_case true v u calm below st stack inside =
      let a = set_step m w fit u (Select 0 answer (record { cluster = 0; number = branch_of T f names v }) (Number (pos 1)) (Number (pos 0))) (General answer) (as_kept true (seen u.registers (by_bank true v))) calm st.0
      (record { bad = refl; takes = refl; prints = refl; stores = λ m. refl; leads = λ ops. refl }) refl refl refl in
      let n : ℕ = in_flight T.machine 0 (one (Select 0 answer (record { cluster = 0; number = branch_of T f names v }) (Number (pos 1)) (Number (pos 0))) ∷ []) in
      let Rest : List Word = pause n in
      let b = pause_step m w fit a.to n a.quiet.calm (subst (λ q. Stands w.words q Rest) (sym a.place) (stands_left w.words (u.place + 1) Rest (one (Store 0 (bytes (T.slot f v)) (stack_on 0) (Held answer)) ∷ []) st.1)) in
      let at_b : b.to.place ≡ (u.place + 1) + length Rest = b.place ∙ ap (λ q. q + length Rest) a.place in
      let stack_b : register b.to (General (stack_on 0)) ≡ pos (4 * sp) = ap (λ g. seen g (General (stack_on 0))) b.registers ∙ a.others (General (stack_on 0)) (stack_no_answer 0) ∙ stack 0 some in
      let c = store_step m w fit (memory_words T) size small b.to 0 (stack_on 0) (Held answer) sp (T.slot f v) b.quiet.calm
      (subst (λ q. slice_get w.words q ≡ Some (one (Store 0 (bytes (T.slot f v)) (stack_on 0) (Held answer)))) (sym at_b) (stands_right w.words (u.place + 1) Rest (one (Store 0 (bytes (T.slot f v)) (stack_on 0) (Held answer)) ∷ []) st.1).0) stack_b inside in
      let from : register b.to (General answer) ≡ as_kept true (seen u.registers (by_bank true v)) = ap (λ g. seen g (General answer)) b.registers ∙ a.at in
      let pc = c.place in
      let len = length-append Rest (one (Store 0 (bytes (T.slot f v)) (stack_on 0) (Held answer)) ∷ []) in
      record {
        to = c.to;
        comes = comes_on m w fit u a.to c.to (forth_comes m w fit u a.to a.forth) (comes_on m w fit a.to b.to c.to b.comes (forth_comes m w fit b.to c.to c.forth));
        place = omega arith;
        quiet = quiet_on u a.to c.to a.quiet (quiet_on a.to b.to c.to b.quiet c.quiet);
        others = λ q na. ap (λ g. seen g q) c.registers ∙ ap (λ g. seen g q) b.registers ∙ a.others q na;
        at = λ y e. c.at y e ∙ from;
        elsewhere = λ y ne. c.elsewhere y ne ∙ ap (λ g. word_at g y) (b.memory ∙ a.memory);
      }

  pub store_one : (v : ℕ) (u : State) → u.flying ≡ [] → Usable v → Stands w.words u.place (store_slot T f v (general_of T f names v) (branch_of T f names v)) → StackAt u → sp + T.slot f v < memory_words T → SlotKept u (sp + T.slot f v) (as_kept (holds_branch T f v) (seen u.registers (Named v))) (length (store_slot T f v (general_of T f names v) (branch_of T f names v)))
  store_one v u calm usable st stack inside = store_case (holds_branch T f v) v u calm usable.cluster st stack inside

  -- several values

  pub record Loaded (u : State) (vs : List ℕ) (taken : ℕ) : Type 0 where
    pub to : State
    pub comes : Comes m w fit u to
    pub place : to.place ≡ u.place + taken
    pub quiet : Quiet u to
    pub memory : to.memory ≡ u.memory
    pub at : (v : ℕ) → IsIn v vs → seen to.registers (Named v) ≡ as_read (holds_branch T f v) (word_at u.memory (sp + T.slot f v))
    pub others : (q : Register) → ((v : ℕ) → IsIn v vs → q ≢ Named v) → (q ≢ General answer) → seen to.registers q ≡ seen u.registers q

  abbrev pub AllUsable : List ℕ → Type 0
  AllUsable vs = (v : ℕ) → IsIn v vs → Usable v

  abbrev pub AllInside : List ℕ → Type 0
  AllInside vs = (v : ℕ) → IsIn v vs → sp + T.slot f v < memory_words T

  abbrev pub NamedApart : List ℕ → Type 0
  NamedApart vs = (u v : ℕ) → IsIn u vs → IsIn v vs → u ≢ v → Named u ≢ Named v

  pub load_list : (vs : List ℕ) (u : State) → u.flying ≡ [] → Stands w.words u.place (load_slots T f names vs) → StackAt u → AllUsable vs → AllInside vs → NamedApart vs → Loaded u vs (length (load_slots T f names vs))
  load_list [] u calm st stack usable inside apart = record { to = u; comes = stay m w fit u; place = omega arith; quiet = record { calm = calm; input = refl; out = refl }; memory = refl; at = λ v i. absurd i; others = λ q h na. refl }
  load_list (v ∷ vs) u calm st stack usable inside apart =
      let here : List Word = load_slot T f 0 v (general_of T f names v) (branch_of T f names v) in
      let zero_up : sp + (0 + T.slot f v) ≡ sp + T.slot f v = omega arith in
      let a = load_one 0 v u calm (usable v (inl refl)) (stands_left w.words u.place here (load_slots T f names vs) st) stack (subst (λ x. x < memory_words T) (sym zero_up) (inside v (inl refl))) in
      let stack_a : StackAt a.to = λ k lt. a.others (General (stack_on k)) (λ e. (usable v (inl refl)).not_stack k (sym e)) (stack_no_answer k) ∙ stack k lt in
      let b = load_list vs a.to a.quiet.calm (subst (λ q. Stands w.words q (load_slots T f names vs)) (sym a.place) (stands_right w.words u.place here (load_slots T f names vs) st)) stack_a (λ x i. usable x (inr i)) (λ x i. inside x (inr i)) (λ x y i j. apart x y (inr i) (inr j)) in
      let pa = a.place in
      let pb = b.place in
      let len = length-append here (load_slots T f names vs) in
      record {
        to = b.to;
        comes = comes_on m w fit u a.to b.to a.comes b.comes;
        place = omega arith;
        quiet = quiet_on u a.to b.to a.quiet b.quiet;
        memory = b.memory ∙ a.memory;
        at = λ x i. ⊎_elim
            (λ j. b.at x j ∙ ap (λ g. as_read (holds_branch T f x) (word_at g (sp + T.slot f x))) a.memory)
            (λ no_. let q : x ≡ v = ⊎_elim (λ e. e) (λ j. absurd (no_ j)) i in
            b.others (Named x) (λ y j. apart x y i (inr j) (λ e. no_ (subst (λ z. IsIn z vs) (sym e) j))) (usable x i).not_answer
            ∙ ap (λ z. seen a.to.registers (Named z)) q ∙ a.at ∙ ap (λ z. as_read (holds_branch T f v) (word_at u.memory z)) zero_up ∙ ap (λ z. as_read (holds_branch T f z) (word_at u.memory (sp + T.slot f z))) (sym q))
            (in_or_not x vs);
        others = λ q h na. b.others q (λ y j. h y (inr j)) na ∙ a.others q (h v (inl refl)) na;
      }

  pub record Stored (u : State) (vs : List ℕ) (taken : ℕ) : Type 0 where
    pub to : State
    pub comes : Comes m w fit u to
    pub place : to.place ≡ u.place + taken
    pub quiet : Quiet u to
    pub others : (q : Register) → (q ≢ General answer) → seen to.registers q ≡ seen u.registers q
    pub at : (v : ℕ) → IsIn v vs → word_at to.memory (sp + T.slot f v) ≡ as_kept (holds_branch T f v) (seen u.registers (Named v))
    pub elsewhere : (x : ℕ) → ((v : ℕ) → IsIn v vs → x ≢ sp + T.slot f v) → word_at to.memory x ≡ word_at u.memory x

  abbrev pub SlotsApart : List ℕ → Type 0
  SlotsApart vs = (u v : ℕ) → IsIn u vs → IsIn v vs → T.slot f u ≡ T.slot f v → u ≡ v

  pub store_list : (vs : List ℕ) (u : State) → u.flying ≡ [] → Stands w.words u.place (store_slots T f names vs) → StackAt u → AllUsable vs → AllInside vs → SlotsApart vs → Stored u vs (length (store_slots T f names vs))
  store_list [] u calm st stack usable inside apart = record { to = u; comes = stay m w fit u; place = omega arith; quiet = record { calm = calm; input = refl; out = refl }; others = λ q na. refl; at = λ v i. absurd i; elsewhere = λ x h. refl }
  store_list (v ∷ vs) u calm st stack usable inside apart =
      let here : List Word = store_slot T f v (general_of T f names v) (branch_of T f names v) in
      let a = store_one v u calm (usable v (inl refl)) (stands_left w.words u.place here (store_slots T f names vs) st) stack (inside v (inl refl)) in
      let stack_a : StackAt a.to = λ k lt. a.others (General (stack_on k)) (stack_no_answer k) ∙ stack k lt in
      let b = store_list vs a.to a.quiet.calm (subst (λ q. Stands w.words q (store_slots T f names vs)) (sym a.place) (stands_right w.words u.place here (store_slots T f names vs) st)) stack_a (λ x i. usable x (inr i)) (λ x i. inside x (inr i)) (λ x y i j. apart x y (inr i) (inr j)) in
      let pa = a.place in
      let pb = b.place in
      let len = length-append here (store_slots T f names vs) in
      record {
        to = b.to;
        comes = comes_on m w fit u a.to b.to a.comes b.comes;
        place = omega arith;
        quiet = quiet_on u a.to b.to a.quiet b.quiet;
        others = λ q na. b.others q na ∙ a.others q na;
        at = λ x i. ⊎_elim
            (λ j. b.at x j ∙ ap (as_kept (holds_branch T f x)) (a.others (Named x) (usable x i).not_answer))
            (λ no_. let q : x ≡ v = ⊎_elim (λ e. e) (λ j. absurd (no_ j)) i in
            b.elsewhere (sp + T.slot f x) (λ y j e. no_ (let same : x ≡ y = apart x y i (inr j) (omega arith) in subst (λ z. IsIn z vs) (sym same) j))
            ∙ a.at (sp + T.slot f x) (ap (λ z. sp + T.slot f z) q) ∙ ap (λ z. as_kept (holds_branch T f z) (seen u.registers (Named z))) (sym q))
            (in_or_not x vs);
        elsewhere = λ x h. b.elsewhere x (λ y j. h y (inr j)) ∙ a.elsewhere x (h v (inl refl));
      }

  wait_after : (u : State) (vs : List ℕ) (taken n : ℕ) → (a : Loaded u vs taken) → Stands w.words a.to.place (pause n) → Loaded u vs (taken + length (pause n))
  wait_after u vs taken n a st =
      let b = pause_step m w fit a.to n a.quiet.calm st in
      let pa = a.place in
      let pb = b.place in
      record {
        to = b.to;
        comes = comes_on m w fit u a.to b.to a.comes b.comes;
        place = omega arith;
        quiet = quiet_on u a.to b.to a.quiet b.quiet;
        memory = b.memory ∙ a.memory;
        at = λ v i. ap (λ g. seen g (Named v)) b.registers ∙ a.at v i;
        others = λ q h na. ap (λ g. seen g q) b.registers ∙ a.others q h na;
      }

  -- what was loaded for some values was so for others, where they are the same but for their number
  all_loaded : (u : State) (ls vs : List ℕ) (taken : ℕ) → ((v : ℕ) → IsIn v ls → IsIn v vs) → ((v : ℕ) → IsIn v vs → IsIn v ls) → Loaded u ls taken → Loaded u vs taken
  all_loaded u ls vs taken forth back a = record {
    to = a.to;
    comes = a.comes;
    place = a.place;
    quiet = a.quiet;
    memory = a.memory;
    at = λ v i. a.at v (back v i);
    others = λ q h na. a.others q (λ v i. h v (forth v i)) na;
  }

  -- with a pause behind them
  pub paused_case : (n : ℕ) (vs : List ℕ) (u : State) → u.flying ≡ [] → Stands w.words u.place (load_slots T f names vs ++ pause n) → StackAt u → AllUsable vs → AllInside vs → NamedApart vs → Loaded u vs (length (load_slots T f names vs ++ pause n))
  paused_case n vs u calm st stack usable inside apart =
      let loads : List Word = load_slots T f names vs in
      let a = load_list vs u calm (stands_left w.words u.place loads (pause n) st) stack usable inside apart in
      let last : Stands w.words (u.place + length loads) (pause n) = stands_right w.words u.place loads (pause n) st in
      let len : length (loads ++ pause n) ≡ length loads + length (pause n) = length-append loads (pause n) in
      subst (Loaded u vs) (sym len) (wait_after u vs (length loads) n a (subst (λ q. Stands w.words q (pause n)) (sym a.place) last))

  -- values that are reloaded
  before_case : (vs : List ℕ) (u : State) → u.flying ≡ [] → Stands w.words u.place (if_some vs (settled T (load_slots T f names vs))) → StackAt u → AllUsable vs → AllInside vs → NamedApart vs → Loaded u vs (length (if_some vs (settled T (load_slots T f names vs))))
  before_case [] u calm st stack usable inside apart = load_list [] u calm tt stack usable inside apart
  before_case (v ∷ vs) u calm st stack usable inside apart = paused_case (in_flight T.machine 0 (load_slots T f names (v ∷ vs))) (v ∷ vs) u calm st stack usable inside apart

  -- the words before a planned word
  pub once_case : (vs : List ℕ) (u : State) → u.flying ≡ [] → Stands w.words u.place (if_some vs (settled T (load_slots T f names (once vs)))) → StackAt u → AllUsable vs → AllInside vs → NamedApart vs → Loaded u vs (length (if_some vs (settled T (load_slots T f names (once vs)))))
  once_case [] u calm st stack usable inside apart = load_list [] u calm tt stack usable inside apart
  once_case (v ∷ vs) u calm st stack usable inside apart =
      let forth : (x : ℕ) → IsIn x (once (v ∷ vs)) → IsIn x (v ∷ vs) = λ x. once_in x (v ∷ vs) in
      all_loaded u (once (v ∷ vs)) (v ∷ vs) (length (settled T (load_slots T f names (once (v ∷ vs))))) forth (λ x. in_once x (v ∷ vs))
      (before_case (once (v ∷ vs)) u calm st stack (λ x i. usable x (forth x i)) (λ x i. inside x (forth x i)) (λ x y i j. apart x y (forth x i) (forth y j)))

  -- and behind it
  pub behind_case : (late : ℕ) (vs : List ℕ) (u : State) → u.flying ≡ [] → Stands w.words u.place (if_some vs (pause late ++ store_slots T f names vs)) → StackAt u → AllUsable vs → AllInside vs → SlotsApart vs → Stored u vs (length (if_some vs (pause late ++ store_slots T f names vs)))
  behind_case late [] u calm st stack usable inside apart = store_list [] u calm tt stack usable inside apart
  behind_case late (v ∷ vs) u calm st stack usable inside apart =
      let stores : List Word = store_slots T f names (v ∷ vs) in
      let a = pause_step m w fit u late calm (stands_left w.words u.place (pause late) stores st) in
      let same : (q : Register) → seen a.to.registers q ≡ seen u.registers q = λ q. ap (λ g. seen g q) a.registers in
      let b = store_list (v ∷ vs) a.to a.quiet.calm (subst (λ q. Stands w.words q stores) (sym a.place) (stands_right w.words u.place (pause late) stores st)) (λ k lt. same (General (stack_on k)) ∙ stack k lt) usable inside apart in
      let pa = a.place in
      let pb = b.place in
      let len = length-append (pause late) stores in
      record {
        to = b.to;
        comes = comes_on m w fit u a.to b.to a.comes b.comes;
        place = omega arith;
        quiet = quiet_on u a.to b.to a.quiet b.quiet;
        others = λ q na. b.others q na ∙ same q;
        at = λ x i. b.at x i ∙ ap (as_kept (holds_branch T f x)) (same (Named x));
        elsewhere = λ x h. b.elsewhere x h ∙ ap (λ g. word_at g x) a.memory;
      }
