-- From tied states drains, transfers, choices and ends come to tied states or to one end.
use Rattle.std.proofs.Common.{◌≡◌, ◌<◌, ◌≤◌, ◌⊎◌, inl, inr, ⊎_elim, ◌+◌, ◌-◌, ◌*◌, ◌^◌, ℕ, zero, suc, ℤ, Bool, true, false, cond, Some, None, List, [], ◌∷◌, ◌++◌, length, length-append, refl, sym, ap, ◌∙◌, subst, arith}
use Rattle.std.specs.Prelude.{if◌then◌else◌, slice_get}
use Rattle.std.specs.List.{filter}
use Rattle.std.proofs.lemmas.Bool.{and_parts, eqb-true}
use Rattle.std.proofs.lemmas.List.{append-nil}
use Rattle.vx_base.specs.Outcome.{Outcome, Traps, On, Over, step_then}
use Rattle.vx_base.specs.declared.outcome.Trap.{Trap}
use Rattle.vx_base.proofs.Runs.{Reach, run_reach, safe_after, safe_end, reach_one}
use Rattle.vx_flow.specs.declared.graph.Bank.{Bank}
use Rattle.vx_flow.specs.declared.graph.Flow.{Flow}
use Rattle.vx_flow.specs.Effects.{Content, State as VState, Setting, IsIn}
use Rattle.vx_flow.specs.Meaning.{Hop, Active, setting_with, by_test, body_hop, hop, after_hop, next}
use Rattle.vx_flow.specs.Sound.{Sound, SoundFlow, is_sound_flow}
use Rattle.vx_flow.proofs.SoundFlowLaw.{told}
use Rattle.vx_isa.specs.declared.operation.Register.TheVariants.{General, Branch, Link}
use Rattle.vx_isa.specs.declared.operation.Operation.TheVariants.{BranchOn, EndByTrap, Goto}
use Rattle.vx_isa.specs.declared.program.Word.{Word}
use Rattle.vx_isa.specs.declared.program.WordProgram.{WordProgram}
use Rattle.vx_isa.specs.Machine.{State, To, TrapsBy, register, is_one, lead_of, leads_to, unless_stuck, effect, issue, step}
use Rattle.vx_mixed.specs.declared.layout.VirtualWord.{VirtualWord}
use Rattle.vx_mixed.specs.declared.layout.VirtualWord.TheVariants.{Planned, Drain, Transfer, Choice, Call, Return, Ends}
use Rattle.vx_mixed.specs.declared.layout.VWords.{VWords}
use Rattle.vx_layout.specs.Laid.{moves, word_hop, laid_hop, some_word_hop, laid_body, laid_program}
use Rattle.vx_mixed.specs.LaidSettled.{LeadsTo, bank_in}
use Rattle.vx_regs.specs.Intervals.{IsLive, here, beyond, is_live, word_writes}
use Rattle.vx_target.specs.Target.{Target, answer, stack_on, kept, is_slotted, holds_branch, same_file, scratch, general_of, branch_of, register_of, slotted, before, past, follows, turns, one, waits, pause, word_words, memory_words}
use Rattle.vx_target.specs.Tied.{Tied, AtWord, Below, Seated, Seating, here_of, stack_from, Shows, Itself, holds, kind_of, word_at}
use Rattle.vx_target.specs.Frames.{is_spilled}
use Rattle.vx_target.specs.Carried.{Carries, IsFunctionOf, IsMapped}
use Rattle.vx_tie.specs.Planned.{CarriesOn, EndsAlike, FallsNext, Simple, SimpleLaw}
use Rattle.vx_tie.proofs.PastTransfers.{Led, led_past, steps_on}
use Rattle.vx_target.proofs.Calm.{seen, AllFit, after, not_stuck, effect_is}
use Rattle.vx_target.proofs.Forms.{one_alike}
use Rattle.vx_target.proofs.FromGraph.{branch_plain, test_proper}
use Rattle.vx_target.proofs.Names.{Few, Filed, filed, index_below, apart_mixed, not_zero, not_general}
use Rattle.vx_target.proofs.Live.{live_bank}
use Rattle.vx_target.proofs.Enough.{some_cluster, some_issue}
use Rattle.vx_target.proofs.Proper.{itself}
use Rattle.vx_target.proofs.Frames.{get_below, get_in, frame_room, link_stays}
use Rattle.vx_target.proofs.Steps.{Stands, stands_left, stands_right, Quiet, Forth, then_forth, word_step, Passed, wait_step, goto_step}
use Rattle.vx_target.proofs.Slots.{Usable, Loaded, once_case, stack_no_answer, link_unnamed, link_no_general}
use Rattle.vx_target.proofs.Stands.{word_stands, word_next}
use Rattle.vx_target.proofs.Word.{slotted_from, slotted_in, read_shows}

module _ (T : Target) (flow : Flow) (ls : List VWords) (w : WordProgram) (sound : SoundFlow flow) (carries : Carries T flow ls w) (fit : AllFit T.machine w) (r : Active) (u : State) (tied : Tied T flow ls r u) (p : ℕ) (word : VirtualWord) (block : r.block ≡ suc p) (plan : slice_get (T.layout r.function).words p ≡ Some word) where
  abbrev F : ℕ
  F = r.function

  abbrev S : VState
  S = r.state

  abbrev TheSetting : Setting
  TheSetting = setting_with (laid_program flow ls) r.passed r.base

  below : F < length flow.functions
  below = get_below flow.functions F (T.graph F) tied.is.graph

  of : IsFunctionOf T flow ls F
  of = carries.functions F below

  abbrev Here : Seating
  Here = here_of T flow.globals tied.sp r

  at_word : AtWord T flow.globals tied.sp p r u
  at_word = ⊎_elim (λ a. absurd (let z : suc p ≡ 0 = sym block ∙ a.block in omega arith)) (λ a. let z : suc a.0 ≡ suc p = sym a.1.block ∙ block in let q : a.0 ≡ p = omega arith in subst (λ x. AtWord T flow.globals tied.sp x r u) q a.1) tied.at

  stands : Stands w.words u.place (word_words T F p word)
  stands = subst (λ q. Stands w.words q (word_words T F p word)) (sym at_word.place) (word_stands T flow.main (length flow.functions) w.words carries.placed F p word below plan)

  following : T.starts F (suc p) ≡ u.place + length (word_words T F p word)
  following = word_next T flow.main (length flow.functions) w.words carries.placed F p word below plan ∙ ap (λ q. q + length (word_words T F p word)) (sym at_word.place)

  hop_is : hop (laid_program flow ls) r ≡ word_hop TheSetting p word S
  hop_is =
      ap (body_hop (laid_program flow ls) r) (ap (λ g. laid_body (length flow.globals) g (slice_get ls F)) tied.is.graph ∙ ap (λ l. laid_body (length flow.globals) (Some (T.graph F)) l) tied.is.layout)
      ∙ ap (λ b. laid_hop TheSetting (T.layout F) b S) block ∙ ap (λ x. some_word_hop TheSetting p x S) plan

  next_is : (h : Hop) → word_hop TheSetting p word S ≡ h → next (laid_program flow ls) r ≡ after_hop (laid_program flow ls) r h
  next_is h e = ap (after_hop (laid_program flow ls) r) (hop_is ∙ e)

  -- where memory and the registers of live values are kept
  pub record KeptBy (q : ℕ) (v : State) : Type 0 where
    pub place : v.place ≡ T.starts F q
    pub quiet : Quiet u v
    pub memory : v.memory ≡ u.memory
    pub stack : (k : ℕ) → k < T.machine.clusters → register v (General (stack_on k)) ≡ register u (General (stack_on k))
    pub link : seen v.registers Link ≡ seen u.registers Link
    pub registers : (y : ℕ) → IsLive (T.layout F) p y → is_slotted (kept T F y) ≡ false → seen v.registers (register_of T F (y ∷ []) y) ≡ seen u.registers (register_of T F (y ∷ []) y)

  -- steps over values to a place, past transfers perhaps, with nothing written
  pub record Goes (q : ℕ) : Type 0 where
    pub steps : ℕ
    pub over_values : Reach (next (laid_program flow ls)) (suc steps) r (record r { block = suc q })
    pub live : (y : ℕ) → IsLive (T.layout F) q y → IsLive (T.layout F) p y

  goes_to : (q : ℕ) → next (laid_program flow ls) r ≡ On (record r { block = suc q }) → LeadsTo p word q → ((y : ℕ) → IsIn y (word_writes word) → ⊥) → Goes q
  goes_to q step leads none = record { steps = 0; over_values = reach_one (next (laid_program flow ls)) r (record r { block = suc q }) step; live = λ y live. beyond plan (none y) leads live }

  goes_past : (q : ℕ) → next (laid_program flow ls) r ≡ On (record r { block = suc q }) → LeadsTo p word q → ((y : ℕ) → IsIn y (word_writes word) → ⊥) → Goes (past T F q)
  goes_past q step leads none =
      let led : Led T flow ls r tied.is q (past T F q) = led_past T flow ls r tied.is q in
      record { steps = led.steps; over_values = (record r { block = suc q }, step, led.over_values); live = λ y live. beyond plan (none y) leads (led.live y live) }

  tied_on : (q : ℕ) (v : State) → Goes q → KeptBy q v → Tied T flow ls (record r { block = suc q }) v
  tied_on q v goes k = record {
    sp = tied.sp;
    is = tied.is;
    calm = k.quiet.calm;
    deep = tied.deep;
    stack = λ c lt. k.stack c lt ∙ tied.stack c lt;
    at = inr (q, record { block = refl; place = k.place; values = values; link = link_stays T u v tied.sp F (ap (λ g. word_at g tied.sp) k.memory) k.link ∙ at_word.link });
    stacked = tied.stacked;
    seated = subst (λ g. Seated T flow.globals (stack_from T tied.sp r) S.arrays g) (sym k.memory) tied.seated;
    below = subst (λ g. Below T flow ls g tied.sp r.waiting) (sym k.memory) tied.below;
    input = k.quiet.input ∙ tied.input;
    out = k.quiet.out ∙ tied.out;
    safe = safe_after (next (laid_program flow ls)) (λ x. x.state.out) (suc goes.steps) r (record r { block = suc q }) goes.over_values tied.safe;
  }
    where
      values : (y : ℕ) (n : ℤ) → IsLive (T.layout F) q y → S.values y ≡ Some n → Shows T Here F y n (holds T v tied.sp F y)
      values y n live e = by (is_slotted (kept T F y)) refl (at_word.values y n (goes.live y live) e)
        where
          by : (b : Bool) → is_slotted (kept T F y) ≡ b → Shows T Here F y n (if b then word_at u.memory (tied.sp + T.slot F y) else register u (register_of T F (y ∷ []) y)) → Shows T Here F y n (if b then word_at v.memory (tied.sp + T.slot F y) else register v (register_of T F (y ∷ []) y))
          by true h s = subst (λ x. Shows T Here F y n x) (sym (ap (λ g. word_at g (tied.sp + T.slot F y)) k.memory)) s
          by false h s = subst (λ x. Shows T Here F y n x) (sym (k.registers y (goes.live y live) h)) s

  -- to the next place, where no word stands between
  fallen : (q : ℕ) → q ≡ suc p → Goes q → T.starts F (suc p) ≡ u.place + 0 → FallsNext T flow ls p r u
  fallen q behind goes next_place =
      let here : u.place ≡ u.place + 0 = omega arith in
      let kept_here : KeptBy q u = record {
        place = here ∙ sym next_place ∙ ap (T.starts F) (sym behind);
        quiet = record { calm = tied.calm; input = refl; out = refl };
        memory = refl;
        stack = λ k lt. refl;
        link = refl;
        registers = λ y l h. refl;
      } in record {
        falls = record { after = record r { block = suc q }; place = q; block = refl; steps = goes.steps; over_values = steps_on flow ls (suc goes.steps) r (record r { block = suc q }) goes.over_values; tied = tied_on q u goes kept_here };
        place = behind;
        function = refl;
      }

  moved_on : (q : ℕ) (v : State) → Goes q → Forth T.machine w fit u v → KeptBy q v → CarriesOn T flow ls w r u
  moved_on q v goes forth k = record {
    after = record r { block = suc q };
    to = v;
    steps = goes.steps;
    words = forth.0;
    over_values = steps_on flow ls (suc goes.steps) r (record r { block = suc q }) goes.over_values;
    over_registers = λ n. run_reach (step T.machine (1 ∷ []) w) (λ x. x.out) (suc forth.0) n u v forth.1;
    tied = tied_on q v goes k;
  }

  passed_on : (q : ℕ) (v : Passed T.machine w fit u (T.starts F q)) → KeptBy q v.to
  passed_on q v = record {
    place = v.place;
    quiet = v.quiet;
    memory = v.memory;
    stack = λ k lt. ap (λ g. seen g (General (stack_on k))) v.registers;
    link = ap (λ g. seen g Link) v.registers;
    registers = λ y l h. ap (λ g. seen g (register_of T F (y ∷ []) y)) v.registers;
  }

module _ (T : Target) (flow : Flow) (ls : List VWords) (w : WordProgram) (sound : SoundFlow flow) (carries : Carries T flow ls w) (fit : AllFit T.machine w) (r : Active) (u : State) (tied : Tied T flow ls r u) (p : ℕ) (block : r.block ≡ suc p) where
  -- one empty cycle has no word where a goto stands behind it
  drain_word : (n : ℕ) → slice_get (T.layout r.function).words p ≡ Some (Drain n) → CarriesOn T flow ls w r u ⊎ FallsNext T flow ls p r u
  drain_word n plan = by (turns T r.function (p + 1)) (n - 1) (stands T flow ls w sound carries fit r u tied p (Drain n) block plan) (following T flow ls w sound carries fit r u tied p (Drain n) block plan)
    where
      on : Goes T flow ls w sound carries fit r u tied p (Drain n) block plan (suc p)
      on = goes_to T flow ls w sound carries fit r u tied p (Drain n) block plan (suc p) (next_is T flow ls w sound carries fit r u tied p (Drain n) block plan (moves p (suc p) r.state) refl) refl (λ y i. i)

      waited : (k : ℕ) → slice_get w.words u.place ≡ Some (waits k) → T.starts r.function (suc p) ≡ u.place + 1 → CarriesOn T flow ls w r u
      waited k at next_place =
          let a = wait_step T.machine w fit u k tied.calm at in
          let b : Passed T.machine w fit u (T.starts r.function (suc p)) = subst (Passed T.machine w fit u) (sym next_place) a in
          moved_on T flow ls w sound carries fit r u tied p (Drain n) block plan (suc p) b.to on b.forth (passed_on T flow ls w sound carries fit r u tied p (Drain n) block plan (suc p) b)

      by : (b : Bool) (k : ℕ) → Stands w.words u.place (if b then pause k else waits n ∷ []) → T.starts r.function (suc p) ≡ u.place + length (if b then pause k else waits n ∷ []) → CarriesOn T flow ls w r u ⊎ FallsNext T flow ls p r u
      by true zero st next_place = inr (fallen T flow ls w sound carries fit r u tied p (Drain n) block plan (suc p) refl on next_place)
      by true (suc k) st next_place = inl (waited (suc k) st.0 next_place)
      by false k st next_place = inl (waited n st.0 next_place)

  -- a transfer to the next place may have no word
  transfer_word : (q : ℕ) → slice_get (T.layout r.function).words p ≡ Some (Transfer q) → CarriesOn T flow ls w r u ⊎ FallsNext T flow ls p r u
  transfer_word q plan = by (follows T r.function (p + 1) (past T r.function q)) refl (stands T flow ls w sound carries fit r u tied p (Transfer q) block plan) (following T flow ls w sound carries fit r u tied p (Transfer q) block plan)
    where
      Way : Bool → List Word
      Way b = if b then [] else one (Goto (T.starts r.function (past T r.function q))) ∷ []

      on : Goes T flow ls w sound carries fit r u tied p (Transfer q) block plan (past T r.function q)
      on = goes_past T flow ls w sound carries fit r u tied p (Transfer q) block plan q (next_is T flow ls w sound carries fit r u tied p (Transfer q) block plan (moves p q r.state) refl) refl (λ y i. i)

      by : (b : Bool) → follows T r.function (p + 1) (past T r.function q) ≡ b → Stands w.words u.place (Way b) → T.starts r.function (suc p) ≡ u.place + length (Way b) → CarriesOn T flow ls w r u ⊎ FallsNext T flow ls p r u
      by true e st next_place =
          let same : p + 1 ≡ (past T r.function q) = eqb-true (p + 1) (past T r.function q) (and_parts _ _ e).0 in
          let behind : (past T r.function q) ≡ suc p = omega arith in
          inr (fallen T flow ls w sound carries fit r u tied p (Transfer q) block plan (past T r.function q) behind on next_place)
      by false e st next_place =
          let a = goto_step T.machine w fit u (T.starts r.function (past T r.function q)) tied.calm st.0 in
          inl (moved_on T flow ls w sound carries fit r u tied p (Transfer q) block plan (past T r.function q) a.to on a.forth (passed_on T flow ls w sound carries fit r u tied p (Transfer q) block plan (past T r.function q) a))

  -- an end by a trap
  ends_word : (k : Trap) → slice_get (T.layout r.function).words p ≡ Some (Ends k) → EndsAlike T flow ls w r u
  ends_word k plan =
      let st = stands T flow ls w sound carries fit r u tied p (Ends k) block plan in
      let f = fit u.place (one (EndByTrap k)) st.0 in
      let e : step T.machine (1 ∷ []) w u ≡ Over (Traps k (after w u (one (EndByTrap k)) u.place).out) =
      ap (issue T.machine (1 ∷ []) w u) st.0
      ∙ ap (λ why. unless_stuck why u (leads_to (TrapsBy k) (effect T.machine (1 ∷ []) w u (one (EndByTrap k))))) (not_stuck T.machine w u (one (EndByTrap k)) f.0 f.1 (record { addresses = refl; input = refl }))
      ∙ ap (λ t. leads_to (TrapsBy k) t) (effect_is T.machine w u (one (EndByTrap k)) tied.calm) in
      record {
        outcome = Traps k r.state.out;
        over = tt;
        words = 1;
        over_values = next_is T flow ls w sound carries fit r u tied p (Ends k) block plan (Hop.Stops k r.state) refl;
        over_registers = ap (step_then (λ t. Outcome.Goes t.out)) e ∙ ap (λ ys. Traps k ys) (append-nil u.out ∙ tied.out);
      }

filter_short : (t : ℕ → Bool) (xs : List ℕ) → length (filter t xs) ≤ length xs
filter_short t [] = omega arith
filter_short t (x ∷ xs) = by (t x) (filter_short t xs)
  where
    by : (b : Bool) → length (filter t xs) ≤ length xs → length (cond b (x ∷ filter t xs) (filter t xs)) ≤ suc (length xs)
    by true h = omega arith
    by false h = omega arith

-- one value alone needs the first scratch register
pub few_one : (T : Target) (f : ℕ) (mapped : IsMapped T f) (v : ℕ) → 1 ≤ T.machine.issue → Few T f mapped (v ∷ [])
few_one T f mapped v some = record { general = λ x i e b. (let z = first x i e in omega arith); branch = λ x i e b. (let z = first x i e in omega arith) }
  where
    first : (x : ℕ) → IsIn x (v ∷ []) → is_slotted (kept T f x) ≡ true → scratch T f (v ∷ []) x < 1
    first x i e =
        let a = index_below x (Filed T f mapped (v ∷ []) x) (filed T f mapped (v ∷ []) x i e) in
        let b = filter_short (λ u. same_file T f u x) (slotted T f (v ∷ [])) in
        let c = filter_short (λ u. is_slotted (kept T f u)) (v ∷ []) in omega arith

module _ (T : Target) (flow : Flow) (ls : List VWords) (w : WordProgram) (sound : SoundFlow flow) (carries : Carries T flow ls w) (fit : AllFit T.machine w) (r : Active) (u : State) (tied : Tied T flow ls r u) (p : ℕ) (block : r.block ≡ suc p) (test q : ℕ) (plan : slice_get (T.layout r.function).words p ≡ Some (Choice test q)) where
  abbrev Fn : ℕ
  Fn = r.function

  abbrev Now : Seating
  Now = here_of T flow.globals tied.sp r

  abbrev Name : List ℕ
  Name = test ∷ []

  abbrev Arrives : ℕ
  Arrives = past T Fn q

  its : IsFunctionOf T flow ls Fn
  its = of T flow ls w sound carries fit r u tied p (Choice test q) block plan

  at_it : AtWord T flow.globals tied.sp p r u
  at_it = at_word T flow ls w sound carries fit r u tied p (Choice test q) block plan

  graph_sound : Sound (T.graph Fn)
  graph_sound = sound.graphs (T.graph Fn) (get_in flow.functions Fn (T.graph Fn) tied.is.graph)

  abbrev Any : ℕ → Type 0
  Any a = Unit {0}

  test_is : (kind_of T Fn test ≡ Itself) × (holds_branch T Fn test ≡ true)
  test_is = let parts = its.mapped.code.choices p test q plan in test_proper T Fn Any graph_sound its.mapped.code (λ a lt. tt) test parts.yes parts.no parts.has

  live : IsLive (T.layout Fn) p test
  live = here plan (inl refl)

  bank : (b : Bank) × (bank_in (T.layout Fn) test ≡ Some b)
  bank = live_bank T Fn its.mapped graph_sound p test live

  is_test : (v : ℕ) → IsIn v Name → v ≡ test
  is_test v i = ⊎_elim (λ e. e) (λ j. absurd j) i

  small : 4 * memory_words T < 2 ^ 32
  small = let c = carries.small in omega arith

  some : 0 < T.machine.clusters
  some = some_cluster T.machine carries.machine

  enough : Few T Fn its.mapped Name
  enough = few_one T Fn its.mapped test (some_issue T.machine carries.machine)

  test_usable : Usable T.machine w fit T Fn tied.sp carries.memory small some Name test
  test_usable = record {
    cluster = its.mapped.homes p test (is_live live);
    not_zero = not_zero T Fn its.mapped Name test bank;
    not_answer = not_general T Fn its.mapped Name test 0 2 bank (omega arith);
    not_stack = λ k. not_general T Fn its.mapped Name test k 1 bank (omega arith);
  }

  slot_inside : is_slotted (kept T Fn test) ≡ true → tied.sp + T.slot Fn test < memory_words T
  slot_inside e = let a = its.framed.slot_to test (is_spilled p (is_live live) e) in let b = frame_room T flow carries.some_frame carries.globals sound tied.sp (length r.waiting) tied.deep in omega arith

  word_at_it : Stands w.words u.place (before T Fn Name ++ one (BranchOn (branch_of T Fn Name test) true (T.starts Fn Arrives)) ∷ [])
  word_at_it = stands T flow ls w sound carries fit r u tied p (Choice test q) block plan

  got : Loaded T.machine w fit T Fn tied.sp carries.memory small some Name u (slotted T Fn Name) (length (before T Fn Name))
  got = once_case T.machine w fit T Fn tied.sp carries.memory small some Name (slotted T Fn Name) u tied.calm (stands_left w.words u.place (before T Fn Name) (one (BranchOn (branch_of T Fn Name test) true (T.starts Fn Arrives)) ∷ []) word_at_it) tied.stack
      (λ v i. let e = is_test v (slotted_from T Fn v Name i).0 in subst (Usable T.machine w fit T Fn tied.sp carries.memory small some Name) (sym e) test_usable)
      (λ v i. let k = slotted_from T Fn v Name i in let e = is_test v k.0 in subst (λ x. tied.sp + T.slot Fn x < memory_words T) (sym e) (slot_inside (ap (λ x. is_slotted (kept T Fn x)) (sym e) ∙ k.1)))
      (λ x y i j ne. absurd (ne (is_test x (slotted_from T Fn x Name i).0 ∙ sym (is_test y (slotted_from T Fn y Name j).0))))

  -- the test stands in the register by which the word names it
  shown : (n : ℤ) → r.state.values test ≡ Some n → register got.to (Branch (record { cluster = 0; number = branch_of T Fn Name test })) ≡ n
  shown n e =
      ap (λ b. register got.to (if b then Branch (record { cluster = 0; number = branch_of T Fn Name test }) else General (general_of T Fn Name test))) (sym test_is.1)
      ∙ itself (by (is_slotted (kept T Fn test)) refl (at_it.values test n live e)) test_is.0
    where
      by : (b : Bool) → is_slotted (kept T Fn test) ≡ b → Shows T Now Fn test n (if b then word_at u.memory (tied.sp + T.slot Fn test) else register u (register_of T Fn (test ∷ []) test)) → Shows T Now Fn test n (register got.to (register_of T Fn Name test))
      by true h k = subst (λ x. Shows T Now Fn test n x) (sym (got.at test (slotted_in T Fn test Name (inl refl) h))) (read_shows T Now Fn test n _ (branch_plain T Fn Any graph_sound its.mapped.code test) k)
      by false h k = subst (λ x. Shows T Now Fn test n x) (sym (got.others (register_of T Fn Name test) (λ v i. absurd (let c = slotted_from T Fn v Name i in let z : is_slotted (kept T Fn test) ≡ true = ap (λ x. is_slotted (kept T Fn x)) (sym (is_test v c.0)) ∙ c.1 in let y : true ≡ false = sym z ∙ h in cc)) test_usable.not_answer)) k

  abbrev Jump : Word
  Jump = one (BranchOn (branch_of T Fn Name test) true (T.starts Fn Arrives))

  jump_at : slice_get w.words got.to.place ≡ Some Jump
  jump_at = subst (λ x. slice_get w.words x ≡ Some Jump) (sym got.place) (stands_right w.words u.place (before T Fn Name) (Jump ∷ []) word_at_it).0

  jumped : (place : ℕ) → lead_of got.to (BranchOn (branch_of T Fn Name test) true (T.starts Fn Arrives) ∷ []) ≡ To place → Forth T.machine w fit u (after w got.to Jump place)
  jumped place lead = then_forth T.machine w fit u got.to (after w got.to Jump place) got.comes (word_step T.machine w fit got.to Jump place got.quiet.calm jump_at (record { addresses = refl; input = refl }) lead)

  kept_by : (place c : ℕ) → place ≡ T.starts Fn c → lead_of got.to (BranchOn (branch_of T Fn Name test) true (T.starts Fn Arrives) ∷ []) ≡ To place → KeptBy T flow ls w sound carries fit r u tied p (Choice test q) block plan c (after w got.to Jump place)
  kept_by place c at lead = record {
    place = at;
    quiet = record { calm = refl; input = got.quiet.input; out = append-nil got.to.out ∙ got.quiet.out };
    memory = got.memory;
    stack = λ k lt. got.others (General (stack_on k)) (λ v i e. not_general T Fn its.mapped Name test k 1 bank (omega arith) (ap (register_of T Fn Name) (sym (is_test v (slotted_from T Fn v Name i).0)) ∙ sym e)) (stack_no_answer k);
    link = got.others Link (λ v i. link_unnamed T Fn Name v) (link_no_general answer);
    registers = λ y l h. got.others (register_of T Fn (y ∷ []) y)
        (λ v i. let k = slotted_from T Fn v Name i in apart_mixed T Fn its.mapped (y ∷ []) Name y v (live_bank T Fn its.mapped graph_sound p y l) enough k.0 h k.1)
        (not_general T Fn its.mapped (y ∷ []) y 0 2 (live_bank T Fn its.mapped graph_sound p y l) (omega arith));
  }

  abbrev Hops : Content → Hop
  Hops x = by_test x (moves p q r.state) (moves p (suc p) r.state)

  steps : (h : Hop) → Hops (r.state.values test) ≡ h → next (laid_program flow ls) r ≡ after_hop (laid_program flow ls) r h
  steps h e = next_is T flow ls w sound carries fit r u tied p (Choice test q) block plan h e

  chosen : (z : ℤ) → r.state.values test ≡ Some z → (b : Bool) → is_one z ≡ b → CarriesOn T flow ls w r u
  chosen z e true o =
      let on = goes_past T flow ls w sound carries fit r u tied p (Choice test q) block plan q (steps (moves p q r.state) (ap Hops e ∙ ap (λ b. if b then moves p q r.state else moves p (suc p) r.state) (one_alike z ∙ o))) (inl refl) (λ y i. i) in
      let lead : lead_of got.to (BranchOn (branch_of T Fn Name test) true (T.starts Fn Arrives) ∷ []) ≡ To (T.starts Fn Arrives) = ap (λ x. if is_one x then To (T.starts Fn Arrives) else To (got.to.place + 1)) (shown z e) ∙ ap (λ b. if b then To (T.starts Fn Arrives) else To (got.to.place + 1)) o in
      moved_on T flow ls w sound carries fit r u tied p (Choice test q) block plan Arrives (after w got.to Jump (T.starts Fn Arrives)) on (jumped (T.starts Fn Arrives) lead) (kept_by (T.starts Fn Arrives) Arrives refl lead)
  chosen z e false o =
      let on = goes_to T flow ls w sound carries fit r u tied p (Choice test q) block plan (suc p) (steps (moves p (suc p) r.state) (ap Hops e ∙ ap (λ b. if b then moves p q r.state else moves p (suc p) r.state) (one_alike z ∙ o))) (inr refl) (λ y i. i) in
      let lead : lead_of got.to (BranchOn (branch_of T Fn Name test) true (T.starts Fn Arrives) ∷ []) ≡ To (got.to.place + 1) = ap (λ x. if is_one x then To (T.starts Fn Arrives) else To (got.to.place + 1)) (shown z e) ∙ ap (λ b. if b then To (T.starts Fn Arrives) else To (got.to.place + 1)) o in
      let f = following T flow ls w sound carries fit r u tied p (Choice test q) block plan in
      let len : length (before T Fn Name ++ Jump ∷ []) ≡ length (before T Fn Name) + 1 = length-append (before T Fn Name) (Jump ∷ []) in
      let g = got.place in
      let at : got.to.place + 1 ≡ T.starts Fn (suc p) = omega arith in
      moved_on T flow ls w sound carries fit r u tied p (Choice test q) block plan (suc p) (after w got.to Jump (got.to.place + 1)) on (jumped (got.to.place + 1) lead) (kept_by (got.to.place + 1) (suc p) at lead)

  known : (x : Content) → r.state.values test ≡ x → CarriesOn T flow ls w r u
  known None e = absurd (safe_end (next (laid_program flow ls)) (λ x. x.state.out) r (Outcome.Wrong r.state.out) (steps Hop.Wrong (ap Hops e)) tied.safe tt)
  known (Some z) e = chosen z e (is_one z) refl

  choice_word : CarriesOn T flow ls w r u
  choice_word = known (r.state.values test) refl

pub simple_law : SimpleLaw
simple_law T flow ls w sound carries fit r u tied p word block plan simple = by word plan simple
  where
    is_sound : SoundFlow flow
    is_sound = (told flow (is_sound_flow flow) refl).0 sound

    by : (word : VirtualWord) → slice_get (T.layout r.function).words p ≡ Some word → Simple word → (CarriesOn T flow ls w r u ⊎ EndsAlike T flow ls w r u) ⊎ FallsNext T flow ls p r u
    by (Drain n) e s = ⊎_elim (λ a. inl (inl a)) (λ a. inr a) (drain_word T flow ls w is_sound carries fit r u tied p block n e)
    by (Transfer q) e s = ⊎_elim (λ a. inl (inl a)) (λ a. inr a) (transfer_word T flow ls w is_sound carries fit r u tied p block q e)
    by (Choice test q) e s = inl (inl (choice_word T flow ls w is_sound carries fit r u tied p block test q e))
    by (Ends k) e s = inl (inr (ends_word T flow ls w is_sound carries fit r u tied p block k e))
    by (Planned region number items) e s = absurd s
    by (Call g arguments result) e s = absurd s
    by (Return x) e s = absurd s
