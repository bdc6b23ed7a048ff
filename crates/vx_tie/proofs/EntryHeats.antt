-- The words at the start of a function and behind a call reload values while nothing else is in flight, and are waited for until
-- these may be named.
use Rattle.std.specs.Prelude.{if◌then◌else◌}
use Rattle.std.proofs.Common.{◌≡◌, ◌≢◌, ◌≤◌, ⊎_elim, ◌-◌, ℕ, ◌+◌, suc, pos, Bool, true, false, Option, Some, None, List, [], ◌∷◌, ◌++◌, map, refl, sym, ap, ◌∙◌, subst, arith}
use Rattle.std.proofs.lemmas.List.{append-nil}
use Rattle.vx_base.proofs.Pieces.{cold, fine_append, fine_end}
use Rattle.vx_flow.specs.declared.graph.Bank.{Bank}
use Rattle.vx_flow.specs.declared.graph.Operand.{Operand}
use Rattle.vx_flow.specs.Effects.{IsIn}
use Rattle.vx_flow.specs.Sound.{Sound}
use Rattle.vx_isa.specs.declared.operation.Register.{Register}
use Rattle.vx_isa.specs.declared.operation.Register.TheVariants.{General as InGeneral, Link}
use Rattle.vx_isa.specs.declared.operation.Source.TheVariants.{Held}
use Rattle.vx_isa.specs.declared.operation.Operation.{Operation}
use Rattle.vx_isa.specs.declared.operation.Operation.TheVariants.{FromLink, Store, Goto}
use Rattle.vx_isa.specs.declared.program.Word.{Word}
use Rattle.vx_room.specs.Items.{latency_of_op}
use Rattle.vx_mixed.specs.LaidSettled.{bank_in}
use Rattle.vx_mixed.specs.Settled.{NoTwice}
use Rattle.vx_regs.specs.Intervals.{IsBusy, is_live}
use Rattle.vx_target.specs.Target.{Target, general, kept, is_slotted, register_of, stack_on, one, pause, in_flight, load_slots, reload_words, result_words, settled, is_caller, past, follows, way, by_way, spared, most_spared, wanted, link_words, begin_words, entry_words, call_words, back_words, bytes}
use Rattle.vx_target.specs.Frames.{IsSaved, CallsAt}
use Rattle.vx_target.specs.Carried.{IsMapped}
use Rattle.vx_target.proofs.Names.{not_general, not_first_branch, not_scratch, apart_registers}
use Rattle.vx_target.proofs.Live.{live_bank}
use Rattle.vx_tie.proofs.Early.{Touches, words_kind, words_cool}
use Rattle.vx_tie.proofs.Loads.{Names, off, loads_then}
use Rattle.vx_tie.proofs.Spared.{any_fewer, map_own, wanted_fine}
use Rattle.vx_tie.proofs.Heats.{lift, lift_off, lift_fewer, lift_cooled, word_fine, wait_fine}
use Rattle.vx_target.proofs.Slots.{link_unnamed}
use Rattle.vx_tie.proofs.ColdPieces.{Fine, move_fine, result_fine, call_words_fine}

module _ (T : Target) (heat : ℕ → Register → ℕ) (f : ℕ) (mapped : IsMapped T f) (sound : Sound (T.graph f)) (saved : IsSaved T f) where
  abbrev F : (Register → ℕ) → List Word → (Register → ℕ) → Type 0
  F h ws e = Fine T heat h ws e

  -- values that are live at a place and in registers
  abbrev Here : ℕ → ℕ → Type 0
  Here p v = IsBusy (latency_of_op T.machine) (T.layout f) p v × ((b : Bank) × (bank_in (T.layout f) v ≡ Some b)) × (is_slotted (kept T f v) ≡ false)

  kept_names : (p : ℕ) (vs : List ℕ) → ((v : ℕ) → IsIn v vs → Here p v) → Names T heat f vs cold
  kept_names p vs h = record {
    stack = λ k. refl;
    answered = refl;
    cold = λ v i. refl;
    own = λ v k i. not_general T f mapped vs v k 1 (h v i).1 (omega arith);
    not_answer = λ v i. not_general T f mapped vs v 0 2 (h v i).1 (omega arith);
    apart = λ x y i j ne. apart_registers T f mapped p vs vs x y (h x i).1 (h y j).1 (h x i).0 (h y j).0 ne (h x i).2 (h y j).2;
  }

  -- what values bring leaves their registers in flight alone
  abbrev Flown : ℕ → List ℕ → Register → ℕ
  Flown t vs = lift t cold (map (register_of T f vs) vs)

  loads_below : (p : ℕ) (vs : List ℕ) → ((v : ℕ) → IsIn v vs → Here p v) → NoTwice vs → F cold (load_slots T f vs vs) (Flown (in_flight T.machine 0 (load_slots T f vs vs)) vs)
  loads_below p vs h once =
      let t : ℕ = in_flight T.machine 0 (load_slots T f vs vs) in
      subst (λ ws. F cold ws (Flown t vs)) (append-nil (load_slots T f vs vs))
      (loads_then T heat f vs cold (kept_names p vs h) 0 [] vs [] (Flown t vs) (λ u i. absurd i) (λ u i. i) (λ u i j. j) once
      (λ all s r. lift_fewer t t cold (map (register_of T f vs) all) (map (register_of T f vs) vs) r (omega arith) (any_fewer (register_of T f vs) r all vs s)))

  own_flown : (p t : ℕ) (vs : List ℕ) (ws : List Word) → ((v : ℕ) → IsIn v vs → Here p v) → F cold ws (Flown t vs) → F cold ws (lift t cold (map (λ v. register_of T f (v ∷ []) v) vs))
  own_flown p t vs ws h a = subst (λ rs. F cold ws (lift t cold rs)) (map_own T f vs vs (λ v i. (h v i).2)) a

  reload_fine : (p q : ℕ) (vs : List ℕ) (e : Register → ℕ) → ((v : ℕ) → IsIn v vs → Here p v) → NoTwice vs → ((r : Register) → spared T f r most_spared q ≤ e r) → F cold (reload_words T f q vs) e
  reload_fine p q vs e h once there =
      let loads : List Word = load_slots T f vs vs in
      let t : ℕ = in_flight T.machine 0 loads in wanted_fine T f heat None q vs loads t e (own_flown p t vs loads h (loads_below p vs h once)) there

  brought : (v : ℕ) → IsIn v (T.brought f) → Here (T.layout f).entry v
  brought v i = let a = saved.brought v i in (is_live a.live, live_bank T f mapped sound (T.layout f).entry v a.live, ap is_slotted a.register)

  abbrev Keeps : List Word
  Keeps = settled T (one (FromLink (general 0 3)) ∷ []) ++ one (Store 0 (pos 0) (stack_on 0) (Held (general 0 3))) ∷ []

  -- the link is stored while values that go to registers of their own may be in flight
  module _ (names : List ℕ) (n : Names T heat f names cold) (others : (v : ℕ) → IsIn v names → register_of T f names v ≢ InGeneral (general 0 3)) (all : List ℕ) (sub : (u : ℕ) → IsIn u all → IsIn u names) where
    abbrev Flying : List Register
    Flying = map (λ v. register_of T f names v) all

    abbrev Late : ℕ → Register → ℕ
    Late t = lift t cold Flying

    cold_at : (t : ℕ) (r : Register) → ((u : ℕ) → IsIn u names → r ≢ register_of T f names u) → Late t r ≡ 0
    cold_at t r h = lift_off t cold Flying r refl (off T heat f names cold n r all (λ u i. h u (sub u i)))

    link_cold : (t : ℕ) → Late t Link ≡ 0
    link_cold t = cold_at t Link (λ u i. link_unnamed T f names u)

    scratch_cold : (t : ℕ) → Late t (InGeneral (general 0 3)) ≡ 0
    scratch_cold t = cold_at t (InGeneral (general 0 3)) (λ u i e. others u i (sym e))

    stack_cold : (t : ℕ) → Late t (InGeneral (stack_on 0)) ≡ 0
    stack_cold t = cold_at t (InGeneral (stack_on 0)) (λ u i e. n.own u 0 i (sym e))

    abbrev Takes : Operation
    Takes = FromLink (general 0 3)

    abbrev Stores : Operation
    Stores = Store 0 (pos 0) (stack_on 0) (Held (general 0 3))

    takes_meets : (t : ℕ) (r : Register) → Touches (Takes ∷ []) r → Late t r ≡ 0
    takes_meets t r h = ⊎_elim
        (λ i. ⊎_elim (λ s. ap (Late t) s ∙ link_cold t) (λ z. absurd z) i)
        (λ i. ⊎_elim (λ s. ap (Late t) s ∙ scratch_cold t) (λ z. absurd z) i) h.0

    stores_meets : (t : ℕ) (r : Register) → Touches (Stores ∷ []) r → Late t r ≡ 0
    stores_meets t r h = ⊎_elim
        (λ i. ⊎_elim (λ s. ap (Late t) s ∙ stack_cold t) (λ j. ⊎_elim (λ s. ap (Late t) s ∙ scratch_cold t) (λ z. absurd z) j) i)
        (λ i. absurd i) h.0

    link_fine : (t : ℕ) → F (Late t) (link_words T f) (Late t)
    link_fine t = by (is_caller T f)
      where
        by : (b : Bool) → F (Late t) (if b then Keeps else []) (Late t)
        by true =
            let k : ℕ = in_flight T.machine 0 (one Takes ∷ []) in
            let left : ℕ = (t - 1) - k in
            word_fine T.machine heat 0 (Late t) (Late (t - 1)) [] (Takes ∷ []) (pause k ++ (one Stores ∷ [])) (Late t) refl (lift_cooled t 1 cold Flying) (λ p r j. absurd j) (takes_meets t)
            (wait_fine T.machine heat k k (Late (t - 1)) (Late left) (InGeneral (general 0 3) ∷ []) (one Stores ∷ []) (Late t) (omega arith) (lift_cooled (t - 1) k cold Flying)
            (word_fine T.machine heat 0 (Late left) (Late (left - 1)) [] (Stores ∷ []) [] (Late t) refl (lift_cooled left 1 cold Flying) (λ p r j. absurd j) (stores_meets left)
            (λ r. lift_fewer (left - 1) t cold Flying Flying r (omega arith) (λ h. h))))
        by false = λ r. omega arith

  -- parameters are brought, and the link is stored
  begin_below : 1 ≤ T.machine.issue → F cold (begin_words T f) (Flown (in_flight T.machine 0 (load_slots T f (T.brought f) (T.brought f))) (T.brought f))
  begin_below some =
      let vs : List ℕ = T.brought f in
      let begin : ℕ = (T.layout f).entry in
      let links : List Word = link_words T f in
      let t : ℕ = in_flight T.machine 0 (load_slots T f vs vs) in
      let names : Names T heat f vs cold = kept_names begin vs brought in
      let others : (v : ℕ) → IsIn v vs → register_of T f vs v ≢ InGeneral (general 0 3) = λ v i. (let h = brought v i in not_scratch T f mapped vs v 0 3 h.1 h.2 (omega arith)) in
      loads_then T heat f vs cold names 0 [] vs links (Flown t vs) (λ u i. absurd i) (λ u i. i) (λ u i j. j) saved.brought_once
      (λ all s. fine_end (words_kind T.machine) (words_cool T.machine) heat (lift t cold (map (register_of T f vs) all)) (lift t cold (map (register_of T f vs) all)) (Flown t vs) links
      (λ r. lift_fewer t t cold (map (register_of T f vs) all) (map (register_of T f vs) vs) r (omega arith) (any_fewer (register_of T f vs) r all vs s))
      (link_fine vs names others all s t))

  abbrev Inside : ℕ
  Inside = past T f (T.layout f).entry

  way_fine : (e : Register → ℕ) → ((r : Register) → spared T f r most_spared Inside ≤ heat (T.starts f Inside) r) → (follows T f 0 Inside ≡ true → (r : Register) → spared T f r most_spared Inside ≤ e r) → F (λ r. by_way T f 0 Inside (spared T f r most_spared Inside)) (way T f 0 Inside) e
  way_fine e there ends = by (follows T f 0 Inside) refl
    where
      by : (b : Bool) → follows T f 0 Inside ≡ b → F (λ r. if b then spared T f r most_spared Inside else suc (spared T f r most_spared Inside)) (if b then [] else one (Goto (T.starts f Inside)) ∷ []) e
      by true h = ends h
      by false h = (λ r t. ⊎_elim (λ i. absurd i) (λ i. absurd i) t.0, (λ p r j. (let a = there r in let b = ap (λ x. heat x r) j in omega arith)), λ r. omega arith)

  pub entry_fine : (e : Register → ℕ) → 1 ≤ T.machine.issue → ((r : Register) → spared T f r most_spared (past T f (T.layout f).entry) ≤ heat (T.starts f (past T f (T.layout f).entry)) r) → (follows T f 0 (past T f (T.layout f).entry) ≡ true → (r : Register) → spared T f r most_spared (past T f (T.layout f).entry) ≤ e r) → F cold (entry_words T f) e
  entry_fine e some there ends =
      let vs : List ℕ = T.brought f in
      let begins : List Word = begin_words T f in
      let t : ℕ = in_flight T.machine 0 (load_slots T f vs vs) in
      let M : Register → ℕ = λ r. by_way T f 0 Inside (spared T f r most_spared Inside) in
      fine_append (words_kind T.machine) (words_cool T.machine) heat cold M e (begins ++ pause (wanted T f (Some 0) Inside vs begins)) (way T f 0 Inside)
      (wanted_fine T f heat (Some 0) Inside vs begins t M (own_flown (T.layout f).entry t vs begins brought (begin_below some)) (λ r. omega arith))
      (way_fine e there ends)

  survives : (p g : ℕ) (arguments : List Operand) (result : Option ℕ) → CallsAt T f p g arguments result → (v : ℕ) → IsIn v (T.saved f p) → Here (suc p) v
  survives p g arguments result at v i = let a = saved.saved p g v arguments result at i in (is_live a.live, live_bank T f mapped sound (suc p) v a.live, ap is_slotted a.register)

  -- a call and what stands behind it
  pub call_fine : (p g : ℕ) (arguments : List Operand) (result : Option ℕ) (e : Register → ℕ) → CallsAt T f p g arguments result → 1 ≤ T.machine.issue → ((r : Register) → spared T f r most_spared (p + 1) ≤ e r) → F cold (call_words T f p g arguments ++ back_words T f p result) e
  call_fine p g arguments result e at some there =
      let reload : List Word = reload_words T f (p + 1) (T.saved f p) in
      let back : F cold (back_words T f p result) e =
      move_fine T heat (bytes T.frame) (result_words T f result ++ reload) e
      (result_fine T heat f result reload e (reload_fine (suc p) (p + 1) (T.saved f p) e (survives p g arguments result at) (saved.saved_once p) there)) in
      fine_append (words_kind T.machine) (words_cool T.machine) heat cold cold e (call_words T f p g arguments) (back_words T f p result) (call_words_fine T heat f p g arguments cold (λ v i. let h = survives p g arguments result at v i in not_first_branch T f mapped (T.saved f p) v h.1 h.2 some)) back
