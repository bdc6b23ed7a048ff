-- One word of items, each of which reads what it reads in trace order.
use Rattle.std.proofs.Common.{◌≡◌, ℕ, suc, Option, Some, None, List, [], ◌∷◌, refl, sym, ap, ◌∙◌, subst, ⊎_elim, inl, inr, map}
use Rattle.std.specs.Prelude.{◌⊎◌}
use Rattle.std.proofs.lemmas.Bool.{cases_eq}
use Rattle.vx_flow.specs.declared.graph.Op.{Op}
use Rattle.vx_flow.specs.declared.graph.Op.TheVariants.{Store, Input, Text, Decimal}
use Rattle.vx_flow.specs.Effects.{State, Setting, cell_of, IsCell, WritesBesides, IsIn, Location, Of, Cell, TheInput, TheOutput, at}
use Rattle.vx_mixed.specs.declared.region.Item.{Item}
use Rattle.vx_mixed.specs.declared.region.Item.TheVariants.{Plain, Split}
use Rattle.vx_mixed.specs.Meaning.{word_effect, into}
use Rattle.vx_mixed.specs.Live.{item_writes}
use Rattle.vx_motion.specs.Items.{Fine, item_effect, Reads, Writes, item_gives, Marked, Safe}
use Rattle.vx_mixed.specs.Agree.{SameShape}
use Rattle.vx_motion.specs.Trace.{nth, order}
use Rattle.vx_motion.proofs.Step.{step}
use Rattle.vx_mixed.proofs.Shape.{shape_trans}
use Rattle.vx_motion.proofs.OrderShape.{order_next}

loc_eq : (l m : Location) → (l ≡ m) ⊎ (l ≡ m → ⊥)
loc_eq (Of v) (Of u) = ⊎_elim (λ e. inl (ap Of e)) (λ n. inr (λ (e : Of v ≡ Of u). n (cc))) (cases_eq v u)
loc_eq (Of v) (Cell a i) = inr (λ (e : Of v ≡ Cell a i). cc)
loc_eq (Of v) TheInput = inr (λ (e : Of v ≡ TheInput). cc)
loc_eq (Of v) TheOutput = inr (λ (e : Of v ≡ TheOutput). cc)
loc_eq (Cell a i) (Of u) = inr (λ (e : Cell a i ≡ Of u). cc)
loc_eq (Cell a i) (Cell b j) = ⊎_elim (λ d. ⊎_elim (λ e. inl (ap (λ c. Cell c i) d ∙ ap (Cell b) e)) (λ n. inr (λ (e : Cell a i ≡ Cell b j). n (cc))) (cases_eq i j)) (λ n. inr (λ (e : Cell a i ≡ Cell b j). n (cc))) (cases_eq a b)
loc_eq (Cell a i) TheInput = inr (λ (e : Cell a i ≡ TheInput). cc)
loc_eq (Cell a i) TheOutput = inr (λ (e : Cell a i ≡ TheOutput). cc)
loc_eq TheInput (Of u) = inr (λ (e : TheInput ≡ Of u). cc)
loc_eq TheInput (Cell a i) = inr (λ (e : TheInput ≡ Cell a i). cc)
loc_eq TheInput TheInput = inl refl
loc_eq TheInput TheOutput = inr (λ (e : TheInput ≡ TheOutput). cc)
loc_eq TheOutput (Of u) = inr (λ (e : TheOutput ≡ Of u). cc)
loc_eq TheOutput (Cell a i) = inr (λ (e : TheOutput ≡ Cell a i). cc)
loc_eq TheOutput TheInput = inr (λ (e : TheOutput ≡ TheInput). cc)
loc_eq TheOutput TheOutput = inl refl

Either : Type 0 → Type 0
Either P = P ⊎ (P → ⊥)

value_or : (vs : List ℕ) (l : Location) → ((v : ℕ) × IsIn v vs × (l ≡ Of v)) ⊎ (((v : ℕ) × IsIn v vs × (l ≡ Of v)) → ⊥)
value_or [] l = inr (λ h. h.1)
value_or (u ∷ vs) l =
    ⊎_elim
    (λ e. inl (u, inl refl, e))
    (λ n. ⊎_elim (λ r. inl (r.0, inr r.1, r.2)) (λ m. inr (λ h. ⊎_elim (λ e. n (h.2 ∙ ap Of e)) (λ q. m (h.0, q, h.2)) h.1)) (value_or vs l))
    (loc_eq l (Of u))

names_or : (a : ℕ) (o : Option ℕ) (l : Location) → IsCell a o l ⊎ (IsCell a o l → ⊥)
names_or a None l = inr (λ h. h)
names_or a (Some i) l = loc_eq l (Cell a i)

gives_or : (setting : Setting) (s : State) (op : Op) (l : Location) → WritesBesides setting s op l ⊎ (WritesBesides setting s op l → ⊥)
gives_or setting s (Store a p x) l = names_or (setting.spot a) (cell_of setting s a p) l
gives_or setting s (Input v) l = loc_eq l TheInput
gives_or setting s (Text n) l = loc_eq l TheOutput
gives_or setting s (Decimal x) l = loc_eq l TheOutput
gives_or setting s op l = inr (λ h. h)

item_gives_or : (setting : Setting) (s : State) (i : Item) (l : Location) → item_gives setting s i l ⊎ (item_gives setting s i l → ⊥)
item_gives_or setting s (Plain op cluster) l = gives_or setting s op l
item_gives_or setting s (Split p y edge d) l = inr (λ h. h)

pub writes_or : (setting : Setting) (s : State) (i : Item) (l : Location) → Writes setting s i l ⊎ (Writes setting s i l → ⊥)
writes_or setting s i l =
    ⊎_elim (λ h. inl (inl h)) (λ n. ⊎_elim (λ h. inl (inr h)) (λ m. inr (λ w. ⊎_elim n m w)) (item_gives_or setting s i l)) (value_or (item_writes i) l)

word_cons : (setting : Setting) (σ u : State) (i : Item) (is : List Item) → word_effect setting σ (i ∷ is) u ≡ into (item_effect setting σ i u) (word_effect setting σ is)
word_cons setting σ u (Plain op cluster) is = refl
word_cons setting σ u (Split p y edge d) is = refl

module _ (setting : Setting) (is : List Item) (old σ : State) (put : ℕ → Item) (same : SameShape old σ) (shaped : (k : ℕ) → SameShape (order setting is old k) old) where
  abbrev Before : ℕ → State
  Before = order setting is old

  abbrev pub WritesHere : ℕ → Location → Type 0
  WritesHere k l = Writes setting (Before k) (nth is k) l

  pub record Good (k : ℕ) : Type 0 where
    pub marked : Marked (nth is k) (put k)
    pub safe : Safe setting (Before k) (put k)
    pub well : (m : Location) → Reads setting (Before k) (nth is k) m → Fine m (at (Before k) m) (at σ m)

  pub record Ran (ks : List ℕ) (u u' : State) : Type 0 where
    pub passes : (l : Location) → ((k : ℕ) → IsIn k ks → WritesHere k l → ⊥) → at u' l ≡ at u l
    pub reaches : (o : ℕ) (l : Location) → IsIn o ks → WritesHere o l → ((k : ℕ) → IsIn k ks → WritesHere k l → k ≡ o) → Fine l (at (Before (suc o)) l) (at u' l)

  pub writer_in : (ks : List ℕ) (l : Location) → ((o : ℕ) × IsIn o ks × WritesHere o l) ⊎ ((o : ℕ) → IsIn o ks → WritesHere o l → ⊥)
  writer_in [] l = inr (λ o h w. h)
  writer_in (k ∷ ks) l =
      ⊎_elim
      (λ w. inl (k, inl refl, w))
      (λ n. ⊎_elim (λ r. inl (r.0, inr r.1, r.2)) (λ none. inr (λ o h w. ⊎_elim (λ e. n (subst (λ j. WritesHere j l) e w)) (λ q. none o q w) h)) (writer_in ks l))
      (writes_or setting (Before k) (nth is k) l)

  pub run : (ks : List ℕ) (u : State) → SameShape σ u → ((k : ℕ) → IsIn k ks → Good k) → (u' : State) × (word_effect setting σ (map put ks) u ≡ Some u') × Ran ks u u'
  run [] u h good = (u, refl, record { passes = λ l n. refl; reaches = λ o l i w n. absurd i })
  run (k ∷ ks) u h good =
      let g = good k (inl refl) in
      let sσ = shape_trans (Before k) old σ (shaped k) same in
      let one = step setting (Before k) σ u sσ (shape_trans (Before k) σ u sσ h) (nth is k) (put k) g.marked g.safe g.well in
      let rest = run ks one.0 (shape_trans σ u one.0 h one.2.shape) (λ j q. good j (inr q)) in (
        rest.0,
        word_cons setting σ u (put k) (map put ks) ∙ ap (λ o. into o (word_effect setting σ (map put ks))) one.1 ∙ rest.1,
        record {
          passes = λ l n. rest.2.passes l (λ j q. n j (inr q)) ∙ one.2.other l (n k (inl refl));
          reaches = λ o l q w only. ⊎_elim
              (λ in_rest. rest.2.reaches o l (subst (λ z. IsIn z ks) (only in_rest.0 (inr in_rest.1) in_rest.2) in_rest.1) w (λ j r. only j (inr r)))
              (λ none.
              let e : o ≡ k = ⊎_elim (λ e. e) (λ r. absurd (none o r w)) q in
              let there : Fine l (at (Before (suc k)) l) (at one.0 l) = subst (λ z. Fine l (at z l) (at one.0 l)) (sym (order_next setting is old k)) (one.2.written l (subst (λ z. WritesHere z l) e w)) in
              subst (λ z. Fine l (at (Before (suc z)) l) (at rest.0 l)) (sym e) (subst (λ d. Fine l (at (Before (suc k)) l) d) (sym (rest.2.passes l none)) there))
              (writer_in ks l);
        },
      )
