-- Every piece of a program that carries a flow fits: what may be in flight at a word of a layout is what is left there of writes
-- to the values that live in registers, and what its first words do not name; elsewhere nothing is, but results in slots at a landing.
use Rattle.std.proofs.Common.{◌≡◌, ◌<◌, ◌≤◌, ◌⊎◌, inl, inr, ⊎_elim, ◌+◌, ◌-◌, ℕ, zero, suc, ◌==◌, Bool, true, false, cond, Option, Some, None, List, [], ◌∷◌, ◌++◌, length, map, refl, sym, ap, ◌∙◌, subst, arith}
use Rattle.std.specs.Prelude.{if◌then◌else◌, not, slice_get, max}
use Rattle.std.specs.List.{list_any}
use Rattle.std.proofs.lemmas.Bool.{and_parts, cases_lt, eqb-true}
use Rattle.vx_base.specs.declared.outcome.Trap.TheVariants.{Depth as ByDepth}
use Rattle.vx_base.proofs.Pieces.{cold, fine_less, fine_end}
use Rattle.vx_flow.specs.declared.graph.Flow.{Flow}
use Rattle.vx_flow.specs.Effects.{IsIn}
use Rattle.vx_flow.specs.Sound.{Sound, SoundFlow, is_sound_flow}
use Rattle.vx_flow.proofs.Members.{in_left, in_right}
use Rattle.vx_flow.proofs.SoundFlowLaw.{told}
use Rattle.vx_isa.specs.declared.operation.Register.{Register}
use Rattle.vx_isa.specs.declared.operation.Operation.TheVariants.{Goto, EndByTrap}
use Rattle.vx_isa.specs.declared.program.Word.{Word}
use Rattle.vx_isa.specs.declared.program.WordProgram.{WordProgram}
use Rattle.vx_isa.specs.Operations.{same as same_register}
use Rattle.vx_isa.specs.Paths.{NeverReadsEarly, NeverWritesEarly}
use Rattle.vx_mixed.specs.declared.layout.Laid.{Laid}
use Rattle.vx_mixed.specs.declared.layout.Laid.TheVariants.{Plain, Split}
use Rattle.vx_mixed.specs.declared.layout.VirtualWord.{VirtualWord}
use Rattle.vx_mixed.specs.declared.layout.VirtualWord.TheVariants.{Planned, Drain, Transfer, Choice, Call as Calls, Return as Returns, Ends}
use Rattle.vx_mixed.specs.declared.layout.VWords.{VWords}
use Rattle.vx_mixed.specs.LaidSettled.{laid_reads, laid_writes, LeadsTo, LeavesCold}
use Rattle.vx_regs.specs.Intervals.{word_writes}
use Rattle.vx_target.specs.Target.{Target, slotted, register_of, most_transfers, past, leads, before, behind, plan_word, plan_words, landing_words, choice_words, return_words, follows, way, turn_there, is_turn, turns, beside_turn, idle_words, entry_words, start_words, word_words, one, waits, pause, slots_in_flight, is_drain_there, spared_at, spared, most_spared}
use Rattle.vx_target.specs.Placed.{Label, Start, Entry, At, Landing, Depth, Labelled, laid_pieces, landing_of, item_landings, word_landings, landing_pieces, function_pieces, functions_pieces, all_pieces}
use Rattle.vx_target.specs.Carried.{Carries, IsMapped}
use Rattle.vx_tie.specs.Fitted.{NeverEarlyLaw}
use Rattle.vx_target.proofs.Beside.{Going}
use Rattle.vx_target.proofs.FromPlace.{StandFrom, stand_here, stand_on, stand_from_start}
use Rattle.vx_target.proofs.Frames.{get_beyond, get_some, get_in, past_keeps, past_below}
use Rattle.vx_target.proofs.Limits.{Limits, limits}
use Rattle.vx_target.proofs.Stands.{entry_next, piece_at, landing_at, in_laid, in_landings, of_function, word_next}
use Rattle.vx_tie.proofs.Early.{words_kind, words_cool}
use Rattle.vx_tie.proofs.Heats.{lift, stop_fine}
use Rattle.vx_tie.proofs.ColdPieces.{Fine, start_fine, return_fine, ends_fine}
use Rattle.vx_tie.proofs.Pending.{pend, pend_free, pend_kept}
use Rattle.vx_tie.proofs.EntryHeats.{entry_fine, call_fine}
use Rattle.vx_tie.proofs.PlanHeats.{drain_fine, drain_short, choice_fine}
use Rattle.vx_tie.proofs.WordHeats.{plan_fine, beside_fine, landing_fine}
use Rattle.vx_tie.proofs.Spared.{most_more, up_to_most}
use Rattle.vx_tie.proofs.Built.{Fits, AllFit, fit_append, heat_at, heat_of, built_late}

-- words that have a first one

abbrev HasFirst : List Word → Type 0
HasFirst ws = (x : Word) × (xs : List Word) × (ws ≡ x ∷ xs)

first_behind : (xs : List Word) (y : Word) (ys : List Word) → HasFirst (xs ++ (y ∷ ys))
first_behind [] y ys = (y, ys, refl)
first_behind (x ∷ xs) y ys = (x, xs ++ (y ∷ ys), refl)

-- a place of which the word turns to another place
record Turned (T : Target) (f p : ℕ) : Type 0 where
  to : ℕ
  at : slice_get (T.layout f).words p ≡ Some (Transfer to)
  turns_off : follows T f (p + 1) (past T f to) ≡ false

turned : (T : Target) (f p : ℕ) → turns T f p ≡ true → Turned T f p
turned T f p h = by (slice_get (T.layout f).words p) refl h
  where
    never : false ≡ true → Turned T f p
    never e = absurd (cc)

    by : (o : Option VirtualWord) → slice_get (T.layout f).words p ≡ o → is_turn (turn_there T f p o) ≡ true → Turned T f p
    by None e t = never t
    by (Some (Planned r w items)) e t = never t
    by (Some (Drain n)) e t = never t
    by (Some (Transfer q)) e t = record { to = q; at = e; turns_off = not_true (follows T f (p + 1) (past T f q)) t }
      where
        not_true : (b : Bool) → is_turn (if b then None else Some (past T f q)) ≡ true → b ≡ false
        not_true true k = absurd (cc)
        not_true false k = refl
    by (Some (Choice test q)) e t = never t
    by (Some (Calls g arguments result)) e t = never t
    by (Some (Returns x)) e t = never t
    by (Some (Ends k)) e t = never t

module _ (T : Target) (flow : Flow) (ls : List VWords) (w : WordProgram) (sound : SoundFlow flow) (carries : Carries T flow ls w) where
  abbrev Count : ℕ
  Count = length flow.functions

  abbrev Known : ℕ → Type 0
  Known f = (f < Count) ⊎ (Count ≤ f)

  mapped_of : (f : ℕ) → f < Count → IsMapped T f
  mapped_of f lt = (carries.functions f lt).mapped

  sound_of : (f : ℕ) → f < Count → Sound (T.graph f)
  sound_of f lt = sound.graphs (T.graph f) (get_in flow.functions f (T.graph f) (carries.functions f lt).is.graph)

  -- what is left of writes at a word of a function; the program has no others
  abbrev pend_by : (f : ℕ) → Known f → ℕ → Register → ℕ
  pend_by f (inl lt) p = pend T f (mapped_of f lt) (sound_of f lt) p
  pend_by f (inr ge) p = cold

  known : (f : ℕ) → Known f
  known f = cases_lt f Count

  abbrev Pend : ℕ → ℕ → Register → ℕ
  Pend f p = pend_by f (known f) p

  record Inside (f : ℕ) : Type 0 where
    lt : f < Count
    same : (p : ℕ) (r : Register) → Pend f p r ≡ pend T f (mapped_of f lt) (sound_of f lt) p r

  inside : (f : ℕ) → f < Count → Inside f
  inside f below = by (known f) refl
    where
      by : (k : Known f) → known f ≡ k → Inside f
      by (inl lt) e = record { lt = lt; same = λ p r. ap (λ k. pend_by f k p r) e }
      by (inr ge) e = absurd (omega arith)

  -- what may be in flight at the start of a piece

  -- one cycle at most is left at a goto, which reads nothing
  abbrev warm : Register → ℕ
  warm r = 1

  abbrev at_word : (function place : ℕ) → Option VirtualWord → (Register → ℕ) → Register → ℕ
  at_word f p None h = cold
  at_word f p (Some (Planned r w items)) h = h
  at_word f p (Some (Drain n)) h = h
  at_word f p (Some (Transfer q)) h = if follows T f (p + 1) (past T f q) then cold else warm
  at_word f p (Some (Choice test q)) h = h
  at_word f p (Some (Calls g arguments result)) h = h
  at_word f p (Some (Returns x)) h = h
  at_word f p (Some (Ends k)) h = h

  at_same : (f p : ℕ) (word : VirtualWord) (g h : Register → ℕ) (r : Register) → g r ≡ h r → at_word f p (Some word) g r ≡ at_word f p (Some word) h r
  at_same f p (Planned rg wd items) g h r e = e
  at_same f p (Drain n) g h r e = e
  at_same f p (Transfer q) g h r e = refl
  at_same f p (Choice test q) g h r e = e
  at_same f p (Calls c arguments result) g h r e = e
  at_same f p (Returns x) g h r e = e
  at_same f p (Ends k) g h r e = e

  abbrev left_by : ℕ → Option VirtualWord → List Register
  left_by f None = []
  left_by f (Some word) = map (register_of T f (word_writes word)) (slotted T f (word_writes word))

  abbrev late_by : ℕ → Option VirtualWord → ℕ
  late_by f None = 0
  late_by f (Some (Planned r w items)) = slots_in_flight T f items
  late_by f (Some word) = 0

  abbrev start : Label → Register → ℕ
  start Start = cold
  start (Entry f) = cold
  start (At f p) = λ r. max (at_word f p (slice_get (T.layout f).words p) (Pend f p) r) (spared T f r most_spared p)
  start (Landing f p q) = lift (late_by f (slice_get (T.layout f).words p)) (Pend f q) (left_by f (slice_get (T.layout f).words p))
  start Depth = cold

  abbrev heat : ℕ → Register → ℕ
  heat = heat_at T start flow.main Count w carries.placed

  abbrev Good : Labelled → Type 0
  Good x = Fits T start heat x

  abbrev AllGood : List Labelled → Type 0
  AllGood xs = AllFit T start heat xs

  abbrev FineFrom : (Register → ℕ) → List Word → (Register → ℕ) → Type 0
  FineFrom h ws e = Fine T heat h ws e

  l : Limits T.machine
  l = limits T.machine carries.machine

  less : (g h e : Register → ℕ) (ws : List Word) → ((r : Register) → g r ≤ h r) → FineFrom h ws e → FineFrom g ws e
  less g h e ws le a = fine_less (words_kind T.machine) (words_cool T.machine) heat g h e ws le a

  ends : (h e d : Register → ℕ) (ws : List Word) → ((r : Register) → e r ≤ d r) → FineFrom h ws e → FineFrom h ws d
  ends h e d ws le a = fine_end (words_kind T.machine) (words_cool T.machine) heat h e d ws le a

  -- at the places of the pieces of a function

  abbrev WordAt : ℕ → ℕ → VirtualWord → Type 0
  WordAt f p word = slice_get (T.layout f).words p ≡ Some word

  in_function : (f : ℕ) (x : Labelled) → f < Count → IsIn x (function_pieces T f) → IsIn x (all_pieces T flow.main Count)
  in_function f x lt i = of_function T flow.main Count w.words carries.placed f x lt i

  at_place : (f p : ℕ) (word : VirtualWord) → f < Count → WordAt f p word → HasFirst (word_words T f p word) → heat (T.starts f p) ≡ (λ r. max (at_word f p (Some word) (Pend f p) r) (spared T f r most_spared p))
  at_place f p word lt e s =
      let z : 0 + p ≡ p = omega arith in
      let i = in_function f (piece_at T f p word) lt (inr (in_left (piece_at T f p word) (laid_pieces T f 0 (T.layout f).words) (landing_pieces T f 0 (T.layout f).words) (subst (λ n. IsIn (piece_at T f n word) (laid_pieces T f 0 (T.layout f).words)) z (in_laid T f 0 p (T.layout f).words word e)))) in
      heat_of T start flow.main Count w carries.placed (piece_at T f p word) s.0 s.1 i s.2 ∙ ap (λ o. (λ (r : Register). max (at_word f p o (Pend f p) r) (spared T f r most_spared p))) e

  at_landing : (f p q test rg wd : ℕ) (y : Bool) (items : List Laid) (v : ℕ) (vs : List ℕ) → f < Count → WordAt f p (Planned rg wd items) → slotted T f (laid_writes items) ≡ v ∷ vs → IsIn (Split test y q) items → heat (T.landing f p q) ≡ lift (slots_in_flight T f items) (Pend f q) (map (register_of T f (laid_writes items)) (slotted T f (laid_writes items)))
  at_landing f p q test rg wd y items v vs lt e s m =
      let k = first_behind (behind T f items) (one (Goto (T.starts f (past T f q)))) [] in
      let z : 0 + p ≡ p = omega arith in
      let i = in_function f (landing_at T f p q items) lt (inr (in_right (landing_at T f p q items) (laid_pieces T f 0 (T.layout f).words) (landing_pieces T f 0 (T.layout f).words) (subst (λ n. IsIn (landing_at T f n q items) (landing_pieces T f 0 (T.layout f).words)) z (in_landings T f 0 p q test rg wd y (T.layout f).words items v vs e s m)))) in
      heat_of T start flow.main Count w carries.placed (landing_at T f p q items) k.0 k.1 i k.2 ∙ ap (λ o. lift (late_by f o) (Pend f q) (left_by f o)) e

  lift_same : (n : ℕ) (b c : Register → ℕ) (rs : List Register) (r : Register) → b r ≡ c r → lift n b rs r ≡ lift n c rs r
  lift_same n b c rs r e = ap (λ k. cond (list_any (same_register r) rs) (max k n) k) e

  module _ (f : ℕ) (below : f < Count) where
    k : Inside f
    k = inside f below

    abbrev M : IsMapped T f
    M = mapped_of f k.lt

    abbrev S : Sound (T.graph f)
    S = sound_of f k.lt

    abbrev H : ℕ → Register → ℕ
    H p = pend T f M S p

    cold_here : (p : ℕ) (word : VirtualWord) → WordAt f p word → LeavesCold word → (r : Register) → H p r ≤ 0
    cold_here p word e leaves r = let a = pend_free T f M S p r (λ v n s z q. let c = M.settled.cold p v word e leaves in absurd (omega arith)) in omega arith

    -- one cycle may be left at a goto
    goes_warm : (q : ℕ) → turns T f q ≡ true → (r : Register) → 1 ≤ heat (T.starts f q) r
    goes_warm q h r =
        let t = turned T f q h in
        let goto : Word = one (Goto (T.starts f (past T f t.to))) in
        let a = ap (λ g. g r) (at_place f q (Transfer t.to) k.lt t.at (goto, [], ap (λ b. if b then [] else goto ∷ []) t.turns_off)) in
        let b : at_word f q (Some (Transfer t.to)) (Pend f q) r ≡ 1 = ap (λ b. (if b then cold else warm) r) t.turns_off in omega arith

    behind_cold : (p : ℕ) → turns T f (p + 1) ≡ true → (r : Register) → H (suc p) r ≤ 0
    behind_cold p h r = let t = turned T f (p + 1) h in let z : p + 1 ≡ suc p = omega arith in cold_here (suc p) (Transfer t.to) (subst (λ n. WordAt f n (Transfer t.to)) z t.at) tt r

    idle_there : (q n : ℕ) → WordAt f q (Drain n) → (r : Register) → H q r ≤ heat (T.starts f q) r
    idle_there q n e r = by (turns T f (q + 1)) refl (n - 1) refl
      where
        first : HasFirst (idle_words T f q n) → H q r ≤ heat (T.starts f q) r
        first s = let a = ap (λ h. h r) (at_place f q (Drain n) k.lt e s) in let b = k.same q r in omega arith

        by : (b : Bool) → turns T f (q + 1) ≡ b → (m : ℕ) → n - 1 ≡ m → H q r ≤ heat (T.starts f q) r
        by false h m z = first (waits n, [], ap (λ b. if b then pause (n - 1) else waits n ∷ []) h)
        by true h (suc m) z = first (waits (suc m), [], ap (λ b. if b then pause (n - 1) else waits n ∷ []) h ∙ ap pause z)
        by true h zero z =
            let none : length (idle_words T f q n) ≡ 0 = ap length (ap (λ b. if b then pause (n - 1) else waits n ∷ []) h ∙ ap pause z) in
            let next = word_next T flow.main Count w.words carries.placed f q (Drain n) k.lt e in
            let same : T.starts f (q + 1) ≡ T.starts f q = (let y : q + 1 ≡ suc q = omega arith in let x : T.starts f (q + 1) ≡ T.starts f (suc q) = ap (T.starts f) y in omega arith) in
            let warm_there = goes_warm (q + 1) h r in
            let moved = ap (λ n. heat n r) same in
            let kept_on = pend_kept T f M S q (suc q) r (Drain n) e refl in
            let calm = behind_cold q h r in omega arith

    there : (q : ℕ) (word : VirtualWord) → WordAt f q word → (r : Register) → H q r ≤ heat (T.starts f q) r
    there q (Planned rg wd items) e r =
        let a = ap (λ h. h r) (at_place f q (Planned rg wd items) k.lt e (first_behind (before T f (laid_reads items)) (plan_word T f q items) (behind T f items))) in
        let b = k.same q r in omega arith
    there q (Drain n) e r = idle_there q n e r
    there q (Transfer to) e r = let a = cold_here q (Transfer to) e tt r in omega arith
    there q (Choice test to) e r = let a = cold_here q (Choice test to) e tt r in omega arith
    there q (Calls g arguments result) e r = let a = cold_here q (Calls g arguments result) e tt r in omega arith
    there q (Returns x) e r = let a = cold_here q (Returns x) e tt r in omega arith
    there q (Ends j) e r = let a = cold_here q (Ends j) e tt r in omega arith

    leads_there : (p q : ℕ) (word : VirtualWord) → WordAt f p word → LeadsTo p word q → (r : Register) → H q r ≤ heat (T.starts f q) r
    leads_there p q word e leads_to r = let x = get_some (T.layout f).words q (M.settled.inside p q word e leads_to) in there q x.0 x.1 r

    next_there : (p : ℕ) (word : VirtualWord) → WordAt f p word → LeadsTo p word (suc p) → (r : Register) → H (suc p) r ≤ heat (T.starts f p + length (word_words T f p word)) r
    next_there p word e leads_to r =
        let a = leads_there p (suc p) word e leads_to r in
        let b = ap (λ n. heat n r) (word_next T flow.main Count w.words carries.placed f p word k.lt e) in omega arith

    begins : (p : ℕ) (word : VirtualWord) → WordAt f p word → (r : Register) → start (At f p) r ≤ max (at_word f p (Some word) (H p) r) (spared T f r most_spared p)
    begins p word e r = let a : at_word f p (slice_get (T.layout f).words p) (Pend f p) r ≡ at_word f p (Some word) (H p) r = ap (λ o. at_word f p o (Pend f p) r) e ∙ at_same f p word (Pend f p) (H p) r (k.same p r) in omega arith

    abbrev Behind : ℕ → VirtualWord → Register → ℕ
    Behind p word = heat (T.starts f p + length (word_words T f p word))

    -- and past transfers, at which nothing is in flight
    kept_on : (q d to : ℕ) (r : Register) → WordAt f d (Transfer to) → H q r ≤ H d r → H q r ≤ H to r
    kept_on q d to r e h = let a = cold_here d (Transfer to) e tt r in omega arith

    same_heat : (q : ℕ) (r : Register) → H q r ≤ H q r
    same_heat q r = omega arith

    kept_past : (q : ℕ) (r : Register) → H q r ≤ H (past T f q) r
    kept_past q r = past_keeps (T.layout f).words (λ d. H q r ≤ H d r) (λ d to e h. kept_on q d to r e h) most_transfers q (same_heat q r)

    leads_past : (p q : ℕ) (word : VirtualWord) → WordAt f p word → LeadsTo p word q → (r : Register) → H q r ≤ heat (T.starts f (past T f q)) r
    leads_past p q word e leads_to r =
        let x = get_some (T.layout f).words (past T f q) (past_below T f M.settled.inside q (M.settled.inside p q word e leads_to)) in
        let a = kept_past q r in
        let b = there (past T f q) x.0 x.1 r in omega arith

    -- a split of a planned word leads to where no less may be in flight
    split_there : (p rg wd : ℕ) (items : List Laid) → WordAt f p (Planned rg wd items) → (test to : ℕ) (y : Bool) → IsIn (Split test y to) items → (r : Register) → lift (slots_in_flight T f items) (H to) (map (register_of T f (laid_writes items)) (slotted T f (laid_writes items))) r ≤ heat (leads T f p (slotted T f (laid_writes items)) to) r
    split_there p rg wd items e test to y i r = by (slotted T f (laid_writes items)) refl
      where
        by : (vs : List ℕ) → slotted T f (laid_writes items) ≡ vs → lift (slots_in_flight T f items) (H to) (map (register_of T f (laid_writes items)) vs) r ≤ heat (leads T f p vs to) r
        by [] s = leads_past p to (Planned rg wd items) e (inr (test, y, i)) r
        by (v ∷ vs) s =
            let a = ap (λ h. h r) (at_landing f p to test rg wd y items v vs k.lt e s i) in
            let b = lift_same (slots_in_flight T f items) (Pend f to) (H to) (map (register_of T f (laid_writes items)) (slotted T f (laid_writes items))) r (k.same to r) in
            let c : lift (slots_in_flight T f items) (H to) (map (register_of T f (laid_writes items)) (slotted T f (laid_writes items))) r ≡ lift (slots_in_flight T f items) (H to) (map (register_of T f (laid_writes items)) (v ∷ vs)) r = ap (λ us. lift (slots_in_flight T f items) (H to) (map (register_of T f (laid_writes items)) us) r) s in omega arith

    -- and so does a goto in it: nothing is in flight at a transfer
    goto_there : (p : ℕ) (items : List Laid) (d : ℕ) → Going T f p items d → (r : Register) → H (suc p) r ≤ heat (T.starts f d) r
    goto_there p items d g r =
        let z : p + 1 ≡ suc p = omega arith in
        let a = cold_here (suc p) (Transfer g.to) (subst (λ n. WordAt f n (Transfer g.to)) z g.transfer) tt r in omega arith

    -- registers that the words there spare may be in flight besides

    spared_at_start : (n more q : ℕ) (r : Register) (word : VirtualWord) → n + more ≡ most_spared → WordAt f q word → HasFirst (word_words T f q word) → spared T f r n q ≤ heat (T.starts f q) r
    spared_at_start n more q r word e at s = let a = ap (λ h. h r) (at_place f q word k.lt at s) in let b = up_to_most T f r n more q e in omega arith

    spared_there : (n more q : ℕ) (r : Register) → n + more ≡ most_spared → spared T f r n q ≤ heat (T.starts f q) r
    spared_there zero more q r e = omega arith
    spared_there (suc n) more q r e = by (slice_get (T.layout f).words q) refl (λ to. spared_there n (suc more) to r (omega arith))
      where
        less_by : (o : Option VirtualWord) → slice_get (T.layout f).words q ≡ o → spared T f r (suc n) q ≤ heat (T.starts f q) r → spared_at T f r q (spared T f r n) o ≤ heat (T.starts f q) r
        less_by o z h = let a = ap (spared_at T f r q (spared T f r n)) z in omega arith

        by_transfer : (to : ℕ) → WordAt f q (Transfer to) → ((d : ℕ) → spared T f r n d ≤ heat (T.starts f d) r) → (b : Bool) → follows T f (q + 1) (past T f to) ≡ b → spared_at T f r q (spared T f r n) (Some (Transfer to)) ≤ heat (T.starts f q) r
        by_transfer to z on true h =
            let none : length (word_words T f q (Transfer to)) ≡ 0 = ap (λ b. length (if b then [] else one (Goto (T.starts f (past T f to))) ∷ [])) h in
            let next = word_next T flow.main Count w.words carries.placed f q (Transfer to) k.lt z in
            let here : q + 1 ≡ past T f to = eqb-true (q + 1) (past T f to) (and_parts (q + 1 == past T f to) (not (is_drain_there (slice_get (T.layout f).words (past T f to)))) h).0 in
            let y : suc q ≡ past T f to = omega arith in
            let same : T.starts f (past T f to) ≡ T.starts f q = (let x = ap (T.starts f) y in omega arith) in
            let a = on (past T f to) in
            let b = ap (λ m. heat m r) same in
            let c : spared_at T f r q (spared T f r n) (Some (Transfer to)) ≡ spared T f r n (past T f to) = ap (λ b. if b then spared T f r n (past T f to) else suc (spared T f r n (past T f to))) h in omega arith
        by_transfer to z on false h =
            let goto : Word = one (Goto (T.starts f (past T f to))) in
            less_by (Some (Transfer to)) z (spared_at_start (suc n) more q r (Transfer to) e z (goto, [], ap (λ b. if b then [] else goto ∷ []) h))

        by : (o : Option VirtualWord) → slice_get (T.layout f).words q ≡ o → ((d : ℕ) → spared T f r n d ≤ heat (T.starts f d) r) → spared_at T f r q (spared T f r n) o ≤ heat (T.starts f q) r
        by None z on = omega arith
        by (Some (Planned rg wd items)) z on = less_by (Some (Planned rg wd items)) z (spared_at_start (suc n) more q r (Planned rg wd items) e z (first_behind (before T f (laid_reads items)) (plan_word T f q items) (behind T f items)))
        by (Some (Drain m)) z on = omega arith
        by (Some (Transfer to)) z on = by_transfer to z on (follows T f (q + 1) (past T f to)) refl
        by (Some (Choice test to)) z on = omega arith
        by (Some (Calls g arguments result)) z on = omega arith
        by (Some (Returns x)) z on = omega arith
        by (Some (Ends j)) z on = omega arith

    few_more : 15 + 1 ≡ most_spared
    few_more = sym most_more

    fewer_more : 14 + 2 ≡ most_spared
    fewer_more = sym most_more

    -- at the next place
    spared_next : (n more p : ℕ) (word : VirtualWord) → WordAt f p word → n + more ≡ most_spared → (r : Register) → spared T f r n (p + 1) ≤ Behind p word r
    spared_next n more p word e is r =
        let y : p + 1 ≡ suc p = omega arith in
        let a = spared_there n more (p + 1) r is in
        let b = ap (λ m. heat m r) (ap (T.starts f) y ∙ word_next T flow.main Count w.words carries.placed f p word k.lt e) in omega arith

    -- behind a planned word, where the goto of the next place may stand in it
    abbrev Later : ℕ → Register → ℕ
    Later p r = beside_turn (turns T f (p + 1)) (spared T f r 15 (p + 1))

    later_next : (p rg wd : ℕ) (items : List Laid) → WordAt f p (Planned rg wd items) → (r : Register) → Later p r ≤ Behind p (Planned rg wd items) r
    later_next p rg wd items e r = let a = spared_next 15 1 p (Planned rg wd items) e few_more r in by (turns T f (p + 1)) a
      where
        by : (b : Bool) → spared T f r 15 (p + 1) ≤ Behind p (Planned rg wd items) r → beside_turn b (spared T f r 15 (p + 1)) ≤ Behind p (Planned rg wd items) r
        by true le = omega arith
        by false le = le

    later_there : (p : ℕ) (items : List Laid) (d : ℕ) → Going T f p items d → (r : Register) → Later p r ≤ heat (T.starts f d) r
    later_there p items d g r =
        let a = spared_there 14 2 d r fewer_more in
        let b : turns T f (p + 1) ≡ true = ap (λ o. is_turn (turn_there T f (p + 1) o)) g.transfer ∙ ap (λ b. is_turn (if b then None else Some (past T f g.to))) g.away in
        let c : spared T f r 15 (p + 1) ≡ suc (spared T f r 14 (past T f g.to)) = ap (spared_at T f r (p + 1) (spared T f r 14)) g.transfer ∙ ap (λ b. if b then spared T f r 14 (past T f g.to) else suc (spared T f r 14 (past T f g.to))) g.away in
        let e : Later p r ≡ spared T f r 15 (p + 1) - 1 = ap (λ b. beside_turn b (spared T f r 15 (p + 1))) b in
        let h = ap (spared T f r 14) g.is in omega arith

    way_fine : (p q : ℕ) (d : Register → ℕ) → FineFrom (at_word f p (Some (Transfer q)) (H p)) (way T f (p + 1) (past T f q)) d
    way_fine p q d = by (follows T f (p + 1) (past T f q))
      where
        by : (b : Bool) → FineFrom (if b then cold else warm) (if b then [] else one (Goto (T.starts f (past T f q))) ∷ []) d
        by true = λ r. omega arith
        by false = (λ r t. ⊎_elim (λ i. absurd i) (λ i. absurd i) t.0, (λ t r j. omega arith), λ r. omega arith)

    idle_fine : (p n : ℕ) → WordAt f p (Drain n) → FineFrom (H p) (idle_words T f p n) (Behind p (Drain n))
    idle_fine p n e = by (turns T f (p + 1)) refl (word_next T flow.main Count w.words carries.placed f p (Drain n) k.lt e)
      where
        Words : Bool → List Word
        Words b = if b then pause (n - 1) else waits n ∷ []

        by : (b : Bool) → turns T f (p + 1) ≡ b → T.starts f (suc p) ≡ T.starts f p + length (Words b) → FineFrom (H p) (Words b) (heat (T.starts f p + length (Words b)))
        by true h next = drain_short T heat f M S p n (n - 1) (heat (T.starts f p + length (pause (n - 1)))) e (omega arith) (behind_cold p h)
            (λ r. (let y : p + 1 ≡ suc p = omega arith in let a = ap (λ m. heat m r) (sym next ∙ ap (T.starts f) (sym y)) in let b = goes_warm (p + 1) h r in omega arith))
        by false h next = ends (H p) (H (suc p)) (heat (T.starts f p + 1)) (waits n ∷ []) (λ r. (let a = leads_there p (suc p) (Drain n) e refl r in let b = ap (λ m. heat m r) next in omega arith)) (drain_fine T heat f M S p n e)

    inner : (p : ℕ) (word : VirtualWord) → WordAt f p word → FineFrom (at_word f p (Some word) (H p)) (word_words T f p word) (Behind p word)
    inner p (Planned rg wd items) e = ends (H p) (H (suc p)) (Behind p (Planned rg wd items)) (plan_words T f p items) (next_there p (Planned rg wd items) e (inl refl)) (plan_fine T heat f M S l p rg wd items e (split_there p rg wd items e) (goto_there p items))
    inner p (Drain n) e = idle_fine p n e
    inner p (Transfer q) e = way_fine p q (Behind p (Transfer q))
    inner p (Choice test q) e = ends (H p) (H (suc p)) (Behind p (Choice test q)) (choice_words T f test q) (next_there p (Choice test q) e (inr refl)) (choice_fine T heat f M S l p test q e (leads_past p q (Choice test q) e (inl refl)))
    inner p (Calls g arguments result) e = less (H p) cold (Behind p (Calls g arguments result)) (word_words T f p (Calls g arguments result)) (cold_here p (Calls g arguments result) e tt) (call_fine T heat f M S (carries.functions f k.lt).saved p g arguments result (Behind p (Calls g arguments result)) e l.issue (spared_next most_spared 0 p (Calls g arguments result) e (omega arith)))
    inner p (Returns x) e = less (H p) cold (Behind p (Returns x)) (return_words T f x) (cold_here p (Returns x) e tt) (return_fine T heat f x (Behind p (Returns x)))
    inner p (Ends j) e = stop_fine T.machine heat (H p) (EndByTrap j ∷ []) [] (Behind p (Ends j)) refl (λ q r i. absurd i) refl (λ r t. ⊎_elim (λ i. absurd i) (λ i. absurd i) t.0) (λ r. omega arith)

    -- what a word spares, by what the words behind it do
    spared_here : (p : ℕ) (word : VirtualWord) (r : Register) → WordAt f p word → spared T f r most_spared p ≡ spared_at T f r p (spared T f r 15) (Some word)
    spared_here p word r e = ap (λ n. spared T f r n p) most_more ∙ ap (spared_at T f r p (spared T f r 15)) e

    spares_none : (p : ℕ) (word : VirtualWord) → WordAt f p word → ((r : Register) → spared_at T f r p (spared T f r 15) (Some word) ≡ 0) → FineFrom (λ r. max (at_word f p (Some word) (H p) r) (spared T f r most_spared p)) (word_words T f p word) (Behind p word)
    spares_none p word e none = less (λ r. max (at_word f p (Some word) (H p) r) (spared T f r most_spared p)) (at_word f p (Some word) (H p)) (Behind p word) (word_words T f p word) (λ r. (let a = spared_here p word r e in let b = none r in omega arith)) (inner p word e)

    goes_fine : (p q : ℕ) → WordAt f p (Transfer q) → FineFrom (λ r. max (at_word f p (Some (Transfer q)) (H p) r) (spared T f r most_spared p)) (way T f (p + 1) (past T f q)) (Behind p (Transfer q))
    goes_fine p q e = less (λ r. max (at_word f p (Some (Transfer q)) (H p) r) (spared T f r most_spared p)) (λ r. max (at_word f p (Some (Transfer q)) (H p) r) (spared_at T f r p (spared T f r 15) (Some (Transfer q)))) (Behind p (Transfer q)) (way T f (p + 1) (past T f q))
        (λ r. (let a = spared_here p (Transfer q) r e in omega arith)) (by (follows T f (p + 1) (past T f q)) refl)
      where
        Next : Register → ℕ
        Next r = spared T f r 15 (past T f q)

        by : (b : Bool) → follows T f (p + 1) (past T f q) ≡ b → FineFrom (λ r. max ((if b then cold else warm) r) (if b then Next r else suc (Next r))) (if b then [] else one (Goto (T.starts f (past T f q))) ∷ []) (Behind p (Transfer q))
        by true h = λ r. (
            let here : p + 1 ≡ past T f q = eqb-true (p + 1) (past T f q) (and_parts (p + 1 == past T f q) (not (is_drain_there (slice_get (T.layout f).words (past T f q)))) h).0 in
            let a = spared_next 15 1 p (Transfer q) e few_more r in
            let b = ap (spared T f r 15) here in omega arith)
        by false h = (λ r t. ⊎_elim (λ i. absurd i) (λ i. absurd i) t.0, (λ t r j. (let a = spared_there 15 1 (past T f q) r few_more in let b = ap (λ x. heat x r) j in omega arith)), λ r. omega arith)

    outer : (p : ℕ) (word : VirtualWord) → WordAt f p word → FineFrom (λ r. max (at_word f p (Some word) (H p) r) (spared T f r most_spared p)) (word_words T f p word) (Behind p word)
    outer p (Planned rg wd items) e = less (λ r. max (H p r) (spared T f r most_spared p)) (λ r. max (H p r) (spared_at T f r p (spared T f r 15) (Some (Planned rg wd items)))) (Behind p (Planned rg wd items)) (plan_words T f p items)
        (λ r. (let a = spared_here p (Planned rg wd items) r e in omega arith))
        (beside_fine T heat f M S l p rg wd items e (Later p) (Behind p (Planned rg wd items)) (inner p (Planned rg wd items) e) (later_next p rg wd items e) (later_there p items))
    outer p (Drain n) e = spares_none p (Drain n) e (λ r. refl)
    outer p (Transfer q) e = goes_fine p q e
    outer p (Choice test q) e = spares_none p (Choice test q) e (λ r. refl)
    outer p (Calls g arguments result) e = spares_none p (Calls g arguments result) e (λ r. refl)
    outer p (Returns x) e = spares_none p (Returns x) e (λ r. refl)
    outer p (Ends j) e = spares_none p (Ends j) e (λ r. refl)

    good_word : (p : ℕ) (word : VirtualWord) → WordAt f p word → Good (record { label = At f p; words = word_words T f p word })
    good_word p word e = less (start (At f p)) (λ r. max (at_word f p (Some word) (H p) r) (spared T f r most_spared p)) (Behind p word) (word_words T f p word) (begins p word e) (outer p word e)

    -- landings

    good_landing : (p rg wd : ℕ) (items : List Laid) → WordAt f p (Planned rg wd items) → (test q : ℕ) (y : Bool) → IsIn (Split test y q) items → Good (record { label = Landing f p q; words = landing_words T f items q })
    good_landing p rg wd items e test q y i =
        let there_q = leads_past p q (Planned rg wd items) e (inr (test, y, i)) in
        less (start (Landing f p q)) (lift (slots_in_flight T f items) (H q) (map (register_of T f (laid_writes items)) (slotted T f (laid_writes items)))) (heat (T.landing f p q + length (landing_words T f items q))) (landing_words T f items q)
        (λ r. (let a : start (Landing f p q) r ≡ lift (slots_in_flight T f items) (Pend f q) (map (register_of T f (laid_writes items)) (slotted T f (laid_writes items))) r = ap (λ o. lift (late_by f o) (Pend f q) (left_by f o) r) e in
        let b = lift_same (slots_in_flight T f items) (Pend f q) (H q) (map (register_of T f (laid_writes items)) (slotted T f (laid_writes items))) r (k.same q r) in omega arith))
        (landing_fine T heat f M S l p rg wd items e q (heat (T.landing f p q + length (landing_words T f items q))) there_q)

    landing_of_good : (p rg wd : ℕ) (items : List Laid) (vs : List ℕ) (q : ℕ) → Good (record { label = Landing f p q; words = landing_words T f items q }) → AllGood (landing_of T f p items vs q)
    landing_of_good p rg wd items [] q g = tt
    landing_of_good p rg wd items (v ∷ vs) q g = (g, tt)

    landings_good : (p rg wd : ℕ) (items : List Laid) → WordAt f p (Planned rg wd items) → (xs : List Laid) → ((x : Laid) → IsIn x xs → IsIn x items) → AllGood (item_landings T f p items xs)
    landings_good p rg wd items e [] sub = tt
    landings_good p rg wd items e (Plain op c ∷ xs) sub = landings_good p rg wd items e xs (λ x i. sub x (inr i))
    landings_good p rg wd items e (Split test y q ∷ xs) sub = fit_append T start heat (landing_of T f p items (slotted T f (laid_writes items)) q) (item_landings T f p items xs)
        (landing_of_good p rg wd items (slotted T f (laid_writes items)) q (good_landing p rg wd items e test q y (sub (Split test y q) (inl refl))))
        (landings_good p rg wd items e xs (λ x i. sub x (inr i)))

    word_landings_good : (p : ℕ) (word : VirtualWord) → WordAt f p word → AllGood (word_landings T f p word)
    word_landings_good p (Planned rg wd items) e = landings_good p rg wd items e items (λ x i. i)
    word_landings_good p (Drain n) e = tt
    word_landings_good p (Transfer q) e = tt
    word_landings_good p (Choice test q) e = tt
    word_landings_good p (Calls g arguments result) e = tt
    word_landings_good p (Returns x) e = tt
    word_landings_good p (Ends j) e = tt

    -- all words of the layout from a place on

    record StandToEnd (p : ℕ) (words : List VirtualWord) : Type 0 where
      each : StandFrom (WordAt f) p words
      whole : p + length words ≡ length (T.layout f).words

    next_stands : (p : ℕ) (word : VirtualWord) (words : List VirtualWord) → StandToEnd p (word ∷ words) → StandToEnd (suc p) words
    next_stands p word words h = record { each = stand_on (WordAt f) p word words h.each; whole = (let a = h.whole in omega arith) }

    laid_good : (p : ℕ) (words : List VirtualWord) → StandToEnd p words → AllGood (laid_pieces T f p words)
    laid_good p [] h = (
      (λ r. (
          let none = get_beyond (T.layout f).words p (let b = h.whole in omega arith) in
          let a : at_word f p (slice_get (T.layout f).words p) (Pend f p) r ≡ 0 = ap (λ o. at_word f p o (Pend f p) r) none in
          let b : spared T f r most_spared p ≡ 0 = ap (λ n. spared T f r n p) most_more ∙ ap (spared_at T f r p (spared T f r 15)) none in omega arith)),
      tt,
    )
    laid_good p (word ∷ words) h = (good_word p word (stand_here (WordAt f) p word words h.each), laid_good (suc p) words (next_stands p word words h))

    laid_landings : (p : ℕ) (words : List VirtualWord) → StandToEnd p words → AllGood (landing_pieces T f p words)
    laid_landings p [] h = tt
    laid_landings p (word ∷ words) h = fit_append T start heat (word_landings T f p word) (landing_pieces T f (suc p) words) (word_landings_good p word (stand_here (WordAt f) p word words h.each)) (laid_landings (suc p) words (next_stands p word words h))

    all_stand : StandToEnd 0 (T.layout f).words
    all_stand = record { each = stand_from_start (WordAt f) (T.layout f).words (λ i word e. e); whole = omega arith }

    abbrev First : ℕ
    First = past T f (T.layout f).entry

    -- where the layout is entered at once
    entered : follows T f 0 First ≡ true → (r : Register) → spared T f r most_spared First ≤ heat (T.entry f + length (entry_words T f)) r
    entered h r =
        let first : 0 ≡ First = eqb-true 0 First (and_parts (0 == First) (not (is_drain_there (slice_get (T.layout f).words First))) h).0 in
        let a = spared_there most_spared 0 First r (omega arith) in
        let b = ap (λ m. heat m r) (ap (T.starts f) (sym first) ∙ entry_next T flow.main Count w.words carries.placed f k.lt) in omega arith

    function_good : AllGood (function_pieces T f)
    function_good = (
      entry_fine T heat f M S (carries.functions f k.lt).saved (heat (T.entry f + length (entry_words T f))) l.issue (λ r. spared_there most_spared 0 First r (omega arith)) entered,
      fit_append T start heat (laid_pieces T f 0 (T.layout f).words) (landing_pieces T f 0 (T.layout f).words) (laid_good 0 (T.layout f).words all_stand) (laid_landings 0 (T.layout f).words all_stand),
    )

  functions_good : (f n : ℕ) → f + n ≤ Count → AllGood (functions_pieces T f n)
  functions_good f zero h = tt
  functions_good f (suc n) h = fit_append T start heat (function_pieces T f) (functions_pieces T (suc f) n) (function_good f (omega arith)) (functions_good (suc f) n (omega arith))

  depth_good : AllGood (record { label = Depth; words = one (EndByTrap ByDepth) ∷ [] } ∷ [])
  depth_good = (ends_fine T heat ByDepth [] (heat (T.depth_trap + 1)) (λ r. omega arith), tt)

  all_good : AllGood (all_pieces T flow.main Count)
  all_good = (
    start_fine T heat flow.main (heat (0 + length (start_words T flow.main))),
    fit_append T start heat (functions_pieces T 0 Count) (record { label = Depth; words = one (EndByTrap ByDepth) ∷ [] } ∷ []) (functions_good 0 Count (omega arith)) depth_good,
  )

  -- no word of the program reads or writes a register early
  pub words_late : NeverReadsEarly T.machine w × NeverWritesEarly T.machine w
  words_late = built_late T start flow.main Count w carries.placed all_good

-- so on no path of such a program is a register read or written early
pub never_early_law : NeverEarlyLaw
never_early_law T flow ls w sound carries = words_late T flow ls w ((told flow (is_sound_flow flow) refl).0 sound) carries
