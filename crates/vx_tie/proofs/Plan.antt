-- A planned word and its landings come to the place to which it leads.
use Rattle.std.proofs.Common.{◌≡◌, ◌<◌, ◌+◌, ◌*◌, ◌^◌, ℕ, suc, Bool, Some, List, [], ◌∷◌, ◌++◌, length, length-append, refl, sym, ap, ◌∙◌, subst, arith}
use Rattle.std.specs.Prelude.{slice_get}
use Rattle.vx_flow.specs.Effects.{State as VState, Setting, IsIn}
use Rattle.vx_isa.specs.declared.operation.Operation.{Operation}
use Rattle.vx_isa.specs.declared.operation.Operation.TheVariants.{Goto}
use Rattle.vx_isa.specs.declared.program.WordProgram.{WordProgram}
use Rattle.vx_isa.specs.Numbers.{Numbers}
use Rattle.vx_isa.specs.Machine.{State, Lead, To, lead_of}
use Rattle.vx_mixed.specs.declared.layout.Laid.{Laid}
use Rattle.vx_mixed.specs.declared.layout.Laid.TheVariants.{Split}
use Rattle.vx_mixed.specs.declared.layout.VirtualWord.TheVariants.{Transfer}
use Rattle.vx_layout.specs.Laid.{laid_effect, laid_next}
use Rattle.vx_target.specs.Target.{Target, slotted, past, leads, carried_items, plan_ops, one, before, behind, if_some, pause, slots_in_flight, store_slots, plan_word, plan_words, memory_words}
use Rattle.vx_target.specs.Tied.{Seating}
use Rattle.vx_target.proofs.Beside.{Going, Beside, alone, going, beside}
use Rattle.vx_target.proofs.Calm.{AllFit}
use Rattle.vx_target.proofs.Items.{Went, straight, by_split, lead_items, goes_on, goes_items}
use Rattle.vx_target.proofs.Steps.{Stands, stands_left, stands_right, stay, forth_comes, goto_step}
use Rattle.vx_target.proofs.Slots.{Stored, behind_case}
use Rattle.vx_target.proofs.Word.{slotted_from, Reads, Writes, Planning, Arrived, there, past_it, beyond, loaded, First, rest_stands, right, CodeOf, ran, Second, second_stack, arrived}

module _ (m : Numbers) (w : WordProgram) (fit : AllFit m w) (T : Target) (f : ℕ) (here : Seating) (p : ℕ) (size : w.memory ≡ 4 * memory_words T) (small : 4 * memory_words T < 2 ^ 32) (some : 0 < T.machine.clusters) (setting : Setting) (IsArray : ℕ → Type 0) (items : List Laid) (s : VState) (u : State) where
  abbrev Written : List ℕ
  Written = Writes m w fit T f here p size small some setting IsArray items s u

  module _ (h : Planning m w fit T f here p size small some setting IsArray items s u) (t : VState) (done : laid_effect setting s items s ≡ Some t) where
    abbrev Begun : State
    Begun = First m w fit T f here p size small some setting IsArray items s u h

    abbrev Left : ℕ → State
    Left to = Second m w fit T f here p size small some setting IsArray items s u h t done to

    abbrev Comes_to : ℕ → Type 0
    Comes_to q = Arrived m w fit T f here p size small some setting IsArray items s u t q

    stored : (to : ℕ) → Stands w.words to (behind T f items) → Stored m w fit T f here.frame size small some Written (Left to) (slotted T f Written) (length (behind T f items))
    stored to st = behind_case m w fit T f here.frame size small some Written (slots_in_flight T f items) (slotted T f Written) (Left to) refl st (second_stack m w fit T f here p size small some setting IsArray items s u h t done to) (λ v i. h.writes_usable v (slotted_from T f v Written i).0) h.writes_inside h.writes_slots

    on_straight : (q : ℕ) → q ≡ suc p → lead_of Begun (CodeOf m w fit T f here p size small some setting IsArray items s u h) ≡ To (Begun.place + 1) → Comes_to q
    on_straight q e lead =
        let a = loaded m w fit T f here p size small some setting IsArray items s u h in
        let last = stored (Begun.place + 1) (rest_stands m w fit T f here p size small some setting IsArray items s u h).1 in
        let pa = a.place in
        let pl = last.place in
        let n = h.next in
        let len : length (plan_words T f p items) ≡ length (before T f (Reads m w fit T f here p size small some setting IsArray items s u)) + suc (length (behind T f items)) = length-append (before T f (Reads m w fit T f here p size small some setting IsArray items s u)) (plan_word T f p items ∷ behind T f items) in
        let place : last.to.place ≡ T.starts f (suc p) = omega arith in
        arrived m w fit T f here p size small some setting IsArray items s u h t done (Begun.place + 1) last q lead last.to (stay m w fit last.to) refl refl (record { calm = last.quiet.calm; input = refl; out = refl }) (there (place ∙ ap (T.starts f) (sym e)))

    on_split : (q test to : ℕ) (y : Bool) → IsIn (Split test y to) items → q ≡ to → lead_of Begun (CodeOf m w fit T f here p size small some setting IsArray items s u h) ≡ To (leads T f p (slotted T f Written) to) → Comes_to q
    on_split q test to y i e lead = by (slotted T f Written) refl
      where
        Goes : Operation
        Goes = Goto (T.starts f (past T f to))

        by : (xs : List ℕ) → slotted T f Written ≡ xs → Comes_to q
        by [] k =
            let none : behind T f items ≡ [] = ap (λ ys. if_some ys (pause (slots_in_flight T f items) ++ store_slots T f Written ys)) k in
            let st : Stands w.words (T.starts f (past T f to)) (behind T f items) = subst (Stands w.words (T.starts f (past T f to))) (sym none) tt in
            let last = stored (T.starts f (past T f to)) st in
            let pl = last.place in
            let len : length (behind T f items) ≡ 0 = ap length none in
            let place : last.to.place ≡ T.starts f (past T f to) = omega arith in
            arrived m w fit T f here p size small some setting IsArray items s u h t done (T.starts f (past T f to)) last q (lead ∙ ap (λ ys. To (leads T f p ys to)) k) last.to (stay m w fit last.to) refl refl (record { calm = last.quiet.calm; input = refl; out = refl }) (past_it (place ∙ ap (λ n. T.starts f (past T f n)) (sym e)))
        by (v ∷ vs) k =
            let st = h.landing test to 0 y v vs i k in
            let last = stored (T.landing f p to) (stands_left w.words (T.landing f p to) (behind T f items) (one Goes ∷ []) st) in
            let go = (stands_right w.words (T.landing f p to) (behind T f items) (one Goes ∷ []) st).0 in
            let b = goto_step m w fit last.to (T.starts f (past T f to)) last.quiet.calm (subst (λ x. slice_get w.words x ≡ Some (one Goes)) (sym last.place) go) in
            arrived m w fit T f here p size small some setting IsArray items s u h t done (T.landing f p to) last q (lead ∙ ap (λ ys. To (leads T f p ys to)) k) b.to (forth_comes m w fit last.to b.to b.forth) b.registers b.memory b.quiet (past_it (b.place ∙ ap (λ n. T.starts f (past T f n)) (sym e)))

    -- a goto in the word leads past the transfer behind it
    on_goto : (q d : ℕ) → Going T f p items d → q ≡ suc p → lead_of Begun (CodeOf m w fit T f here p size small some setting IsArray items s u h) ≡ To (T.starts f d) → Comes_to q
    on_goto q d g e lead =
        let none : behind T f items ≡ [] = ap (λ ys. if_some ys (pause (slots_in_flight T f items) ++ store_slots T f Written ys)) g.no_slot in
        let st : Stands w.words (T.starts f d) (behind T f items) = subst (Stands w.words (T.starts f d)) (sym none) tt in
        let last = stored (T.starts f d) st in
        let pl = last.place in
        let len : length (behind T f items) ≡ 0 = ap length none in
        let place : last.to.place ≡ T.starts f d = omega arith in
        let next : p + 1 ≡ q = omega arith in
        arrived m w fit T f here p size small some setting IsArray items s u h t done (T.starts f d) last q lead last.to (stay m w fit last.to) refl refl (record { calm = last.quiet.calm; input = refl; out = refl })
        (beyond g.to (subst (λ n. slice_get (T.layout f).words n ≡ Some (Transfer g.to)) next g.transfer) (place ∙ ap (T.starts f) g.is))

    abbrev Carried : List Operation
    Carried = carried_items T f p (Reads m w fit T f here p size small some setting IsArray items s u) Written items

    carried_run : (q : ℕ) → laid_next s (suc p) items ≡ Some q → CodeOf m w fit T f here p size small some setting IsArray items s u h ≡ Carried → Comes_to q
    carried_run q took same = by (lead_of Begun Carried) (ap (lead_of Begun) same)
        (lead_items T w f here setting IsArray (Reads m w fit T f here p size small some setting IsArray items s u) Written s Begun p items (suc p) q s t (ran m w fit T f here p size small some setting IsArray items s u h t done) (right m w fit T f here p size small some setting IsArray items s u h) h.proper took)
      where
        by : (l : Lead) → lead_of Begun (CodeOf m w fit T f here p size small some setting IsArray items s u h) ≡ l → Went T w f here setting IsArray (Reads m w fit T f here p size small some setting IsArray items s u) Written s Begun p items (suc p) q l → Comes_to q
        by l e (straight a b) = on_straight q a (e ∙ b)
        by l e (by_split test to y i a b) = on_split q test to y i a (e ∙ b)

    pub plan_run : (q : ℕ) → laid_next s (suc p) items ≡ Some q → Comes_to q
    plan_run q took = by (plan_ops T f p items) refl (beside T f p items)
      where
        by : (code : List Operation) → CodeOf m w fit T f here p size small some setting IsArray items s u h ≡ code → Beside T f p items code → Comes_to q
        by code e alone = carried_run q took e
        by code e (going d g) = on_goto q d g
            (goes_on T w f here setting IsArray (Reads m w fit T f here p size small some setting IsArray items s u) Written s Begun p items (suc p) q g.no_split took)
            (ap (lead_of Begun) e ∙ goes_items T w f here setting IsArray (Reads m w fit T f here p size small some setting IsArray items s u) Written s Begun p items s t (T.starts f d) (ran m w fit T f here p size small some setting IsArray items s u h t done) g.no_split)
