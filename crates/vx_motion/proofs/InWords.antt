-- Items done at their times leave what trace order leaves.
use Rattle.std.proofs.Common.{◌≡◌, ℕ, suc, ◌+◌, ◌<◌, ◌≤◌, Some, List, refl, sym, ap, ◌∙◌, subst, ⊎_elim, inl, inr, arith, add-one}
use Rattle.std.specs.Prelude.{◌⊎◌}
use Rattle.std.proofs.lemmas.Bool.{cases_eq, cases_order}
use Rattle.vx_flow.specs.Effects.{State, Setting, IsIn, Location, at, state_or}
use Rattle.vx_mixed.specs.declared.region.Item.{Item}
use Rattle.vx_mixed.specs.Meaning.{word_effect}
use Rattle.vx_base.specs.Schedule.{InOrder, WordDoes, ReadsWell, InWords, Exactly}
use Rattle.vx_motion.specs.Items.{Fine, Reads, Writes, Marked, Safe}
use Rattle.vx_mixed.specs.Agree.{SameShape}
use Rattle.vx_motion.specs.Trace.{nth, order}
use Rattle.vx_mixed.proofs.Shape.{shape_trans}
use Rattle.vx_motion.proofs.OrderShape.{shape_sym, order_shape, words_shape, order_next, calm_frame}
use Rattle.vx_motion.proofs.Word.{Good, Ran, run, writer_in}
use Rattle.vx_base.proofs.Schedule.{upto, reads_well}
use Rattle.vx_motion.proofs.Timetable.{in_words, laid, Timetable}

module _ (setting : Setting) (is : List Item) (old new : State) (put : ℕ → ℕ → Item) (members : ℕ → List ℕ) (when : ℕ → ℕ) (end : ℕ) (table : Timetable setting is old put members when end) (same : SameShape old new) (Wanted : Location → Type 0) where
  abbrev pub B : ℕ → State
  B = order setting is old

  abbrev pub V : ℕ → State
  V = in_words setting (laid put members) new

  abbrev pub R : ℕ → Location → Type 0
  R k l = Reads setting (B k) (nth is k) l

  abbrev pub W : ℕ → Location → Type 0
  W k l = Writes setting (B k) (nth is k) l

  abbrev pub Start : Type 0
  Start = (l : Location) → Wanted l → Fine l (at old l) (at new l)

  abbrev pub Wants : Type 0
  Wants = (o : ℕ) (l : Location) → when o < end → R o l → ((k : ℕ) → k < o → W k l → ⊥) → Wanted l

  apart : (a b : ℕ) → (a ≡ b → ⊥) → (a < b) ⊎ (b < a)
  apart a b n = ⊎_elim (λ e. absurd (n e)) (λ r. r) (cases_order a b)

  goods : (w : ℕ) → w < end → ReadsWell Fine (λ i. at (B i)) (λ v. at (V v)) R when w → (k : ℕ) → IsIn k (members w) → Good setting is old (V w) (put w) (shape_trans old new (V w) same (words_shape setting (laid put members) new w)) (λ k. shape_sym old (B k) (order_shape setting is old k)) k
  goods w lt reads k h =
      let e = table.only k w lt h in
      let runs : when k < end = omega arith in
      record {
        marked = subst (λ z. Marked (nth is k) (put z k)) e (table.marked k runs);
        safe = subst (λ z. Safe setting (B k) (put z k)) e (table.safe k runs);
        well = λ m r. reads k m e r;
      }

  ran : (w : ℕ) → w < end → ReadsWell Fine (λ i. at (B i)) (λ v. at (V v)) R when w → (u' : State) × (word_effect setting (V w) (laid put members w) (V w) ≡ Some u') × Ran setting is old (V w) (put w) (shape_trans old new (V w) same (words_shape setting (laid put members) new w)) (λ k. shape_sym old (B k) (order_shape setting is old k)) (members w) (V w) u'
  ran w lt reads = run setting is old (V w) (put w) (shape_trans old new (V w) same (words_shape setting (laid put members) new w)) (λ k. shape_sym old (B k) (order_shape setting is old k)) (members w) (V w) (record { arrays = refl; rows = λ a. refl }) (goods w lt reads)

  does : (w : ℕ) → w < end → ReadsWell Fine (λ i. at (B i)) (λ v. at (V v)) R when w → WordDoes Fine (λ i. at (B i)) (λ v. at (V v)) W when w
  does w lt reads =
      let r = ran w lt reads in
      let next : V (w + 1) ≡ r.0 = ap V (add-one w) ∙ ap (state_or (V w)) r.1 in
      record {
        still = λ l none. ap (λ z. at z l) next ∙ r.2.passes l (λ k h wr. none k (table.only k w lt h) wr);
        made = λ o l e wr.
            let one = λ (k : ℕ) (h : IsIn k (members w)) (v : W k l).
            let ek = table.only k w lt h in
            let same : k ≡ o = ⊎_elim (λ y. y) (λ n. absurd (⊎_elim (λ a. let q = table.ordered.output k o l a v wr (omega arith) in omega arith) (λ a. let q = table.ordered.output o k l a wr v (omega arith) in omega arith) (apart k o n))) (cases_eq k o) in
            same in
            let there = r.2.reaches o l (table.all o w lt e) wr one in
            subst (λ d. Fine l (at (B (o + 1)) l) d) (sym (ap (λ z. at z l) next)) (subst (λ n. Fine l (at (B n) l) (at r.0 l)) (sym (add-one o)) there);
      }

  in_order : InOrder (λ i. at (B i)) W
  in_order = record { frame = λ i l h. subst (λ n. at (B n) l ≡ at (B i) l) (sym (add-one i)) (ap (λ z. at z l) (order_next setting is old i) ∙ calm_frame setting (B i) (nth is i) l h) }

  module _ (start : Start) (wants : Wants) where
    tied : InWords Fine (λ i. at (B i)) (λ v. at (V v)) R W when end Wanted
    tied = record {
      start = start;
      wants = wants;
      decided = λ w l lt. ⊎_elim (λ y. inl (y.0, table.only y.0 w lt y.1, y.2)) (λ n. inr (λ o e h. n o (table.all o w lt e) h)) (writer_in setting is old (V w) (put w) (shape_trans old new (V w) same (words_shape setting (laid put members) new w)) (λ k. shape_sym old (B k) (order_shape setting is old k)) (members w) l);
      word = does;
    }

    -- wherever the writes of l that are done are those before place p, the words have l as trace order has it there
    pub holds : (w : ℕ) → w ≤ end → (l : Location) (p : ℕ) → Exactly W when w l p → (((k : ℕ) → k < p → W k l → ⊥) → Wanted l) → Fine l (at (B p) l) (at (V w) l)
    holds w le l p ex want = upto Fine (λ i. at (B i)) (λ v. at (V v)) R W when end Wanted in_order tied table.ordered w le l p ex want

    -- what is done reads what it reads in trace order
    pub reads_it : (o : ℕ) (l : Location) → when o < end → R o l → Fine l (at (B o) l) (at (V (when o)) l)
    reads_it o l lt r = reads_well Fine (λ i. at (B i)) (λ v. at (V v)) R W when end Wanted in_order tied table.ordered o l lt r

    -- no word is wrong
    pub goes : (w : ℕ) → w < end → word_effect setting (V w) (laid put members w) (V w) ≡ Some (V (suc w))
    goes w lt =
        let r = ran w lt (λ o m e rd. let h = reads_it o m (let h : when o < end = omega arith in h) rd in subst (λ z. Fine m (at (B o) m) (at (V z) m)) e h) in
        r.1 ∙ ap Some (sym (ap (state_or (V w)) r.1))
