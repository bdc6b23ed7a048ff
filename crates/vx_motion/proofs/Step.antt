-- One item of a word does what it does in trace order, where what it reads is as in trace order.
use Rattle.std.proofs.Common.{◌≡◌, ℕ, ◌<◌, ℤ, Bool, true, false, Option, Some, None, List, [], ◌∷◌, ◌++◌, length, slice_index_or, refl, sym, ap, ◌∙◌, subst, ⊎_elim, inl, inr}
use Rattle.std.specs.Fmt.{signed_decimal}
use Rattle.vx_flow.specs.Effects.{Content, State, Setting, effect, calm_effect, held, cell_in, row_of, with_value, with_cell, loaded, stored, next_input, printed, text_at, value_in, reads, writes, IsIn, Location, Of, Cell, TheInput, TheOutput, Holds, Left, Printed, at, state_or, ReadsAt, WritesAt}
use Rattle.vx_flow.specs.declared.graph.Op.{Op}
use Rattle.vx_flow.specs.declared.graph.Op.TheVariants.{Load, Store, Input, Text, Decimal}
use Rattle.vx_flow.specs.declared.graph.Operand.{Operand}
use Rattle.vx_flow.proofs.EffectsAlike.{content, content_refined}
use Rattle.vx_mixed.specs.declared.region.Item.{Item}
use Rattle.vx_motion.specs.Items.{Fine, item_effect, calm, Reads, Writes, Marked, as_it_is, dismissible, split, Safe}
use Rattle.vx_mixed.specs.Agree.{SameShape}
use Rattle.vx_motion.proofs.Effect.{grows, value_there, value_else, does_value, one_write, Row, got, loaded_free, inside, cell_there, cell_else, cell_shape, stored_is, input_is, printed_is, left_inj, printed_inj, cell_named, names_cell}
use Rattle.vx_mixed.proofs.Contents.{Grows, none_is, in_append, grows_held, same_shape, cell_from}
use Rattle.vx_motion.proofs.Does.{Does}

abbrev pub cell : State → ℕ → ℕ → Content
cell s a i = slice_index_or (row_of s a) i None

module _ (setting : Setting) (s σ u : State) (hs : SameShape s σ) (hu : SameShape s u) where
  abbrev pub Well : Op → Type 0
  Well op = (l : Location) → ReadsAt setting s op l → Fine l (at s l) (at σ l)

  abbrev OpSafe : Op → Type 0
  OpSafe op = (t : State) × (effect setting s op s ≡ Some t)

  abbrev pub Result : Op → Op → Type 0
  Result op op' = (u' : State) × (effect setting σ op' u ≡ Some u') × Does (WritesAt setting s op) (calm_effect setting s op s) u u'

  read : (i : Op) (v : ℕ) → Well i → IsIn v (reads i) → Grows (s.values v) (σ.values v)
  read i v w h = grows v (s.values v) (σ.values v) (w (Of v) (inl (v, h, refl)))

  operand : (i : Op) (x : Operand) → Well i → ((v : ℕ) → IsIn v (value_in x) → IsIn v (reads i)) → Grows (held s x) (held σ x)
  operand i x w h = grows_held s σ x (λ v r. read i v w (h v r))

  -- an operation that writes one value
  only_value : (i : Op) (v : ℕ) (x y : Content) → writes i ≡ v ∷ [] → ((l : Location) → (WritesAt setting s i l) → l ≡ Of v) → calm_effect setting s i s ≡ with_value s v x → Grows x y → Does (WritesAt setting s i) (calm_effect setting s i s) u (with_value u v y)
  only_value i v x y e only c g = does_value (WritesAt setting s i) s (calm_effect setting s i s) u v x y only (λ l p. inl (v, subst (λ z. IsIn v z) (sym e) (inl refl), p)) c g

  load : (v a : ℕ) (p : Operand) (d d' : Bool) → OpSafe (Load v a p d') → Well (Load v a p d) → Result (Load v a p d) (Load v a p d')
  load v a p d d' safe well = by (cell_in (length (Row setting s a)) (held s p)) refl d' safe
    where
      only : (l : Location) → WritesAt setting s (Load v a p d) l → l ≡ Of v
      only l w = ⊎_elim (λ h. one_write v h.0 l h.1 h.2) (λ h. absurd h) w

      by : (o : Option ℕ) → cell_in (length (Row setting s a)) (held s p) ≡ o → (d' : Bool) → OpSafe (Load v a p d') → (u' : State) × (effect setting σ (Load v a p d') u ≡ Some u') × Does (WritesAt setting s (Load v a p d)) (calm_effect setting s (Load v a p d) s) u u'
      by None e false safe = none_is (sym (ap (λ o. loaded s v (Row setting s a) o false) e) ∙ safe.1)
      by None e true safe = (
        with_value u v (got (Row setting σ a) (cell_in (length (Row setting σ a)) (held σ p))),
        loaded_free u v (Row setting σ a) (cell_in (length (Row setting σ a)) (held σ p)),
        only_value (Load v a p d) v None (got (Row setting σ a) (cell_in (length (Row setting σ a)) (held σ p))) refl only
            (ap (λ o. state_or s (loaded s v (Row setting s a) o true)) e) (λ n h. none_is h),
      )
      by (Some j) e d' safe =
          let g = operand (Load v a p d) p well (λ w r. r) in
          let e' : cell_in (length (Row setting σ a)) (held σ p) ≡ Some j = ap (λ k. cell_in k (held σ p)) (hs.rows (setting.spot a)) ∙ cell_from (length (Row setting s a)) (held s p) (held σ p) j g e in
          let same : Holds (cell σ (setting.spot a) j) ≡ Holds (cell s (setting.spot a) j) = well (Cell (setting.spot a) j) (inr (names_cell (setting.spot a) (cell_in (length (Row setting s a)) (held s p)) (Cell (setting.spot a) j) j e refl)) in
          let grow : Grows (cell s (setting.spot a) j) (cell σ (setting.spot a) j) = λ n h. let q : Holds (cell σ (setting.spot a) j) ≡ Holds (Some n) = same ∙ ap Holds h in cc in (
            with_value u v (cell σ (setting.spot a) j),
            ap (λ o. loaded u v (Row setting σ a) o d') e',
            only_value (Load v a p d) v (cell s (setting.spot a) j) (cell σ (setting.spot a) j) refl only
                (ap (λ o. state_or s (loaded s v (Row setting s a) o true)) e) grow,
          )

  store : (a : ℕ) (p x : Operand) → OpSafe (Store a p x) → Well (Store a p x) → Result (Store a p x) (Store a p x)
  store a p x safe well =
      let q = stored_is s (setting.spot a) (cell_in (length (Row setting s a)) (held s p)) (held s x) safe.0 safe.1 in
      by q.0 q.1 q.2 q.3
    where
      by : (j : ℕ) (n : ℤ) → cell_in (length (Row setting s a)) (held s p) ≡ Some j → held s x ≡ Some n → (u' : State) × (effect setting σ (Store a p x) u ≡ Some u') × Does (WritesAt setting s (Store a p x)) (calm_effect setting s (Store a p x) s) u u'
      by j n e f =
          let gp = operand (Store a p x) p well (λ w r. in_append w (value_in p) (value_in x) (inl r)) in
          let gx = operand (Store a p x) x well (λ w r. in_append w (value_in p) (value_in x) (inr r)) in
          let e' : cell_in (length (Row setting σ a)) (held σ p) ≡ Some j = ap (λ k. cell_in k (held σ p)) (hs.rows (setting.spot a)) ∙ cell_from (length (Row setting s a)) (held s p) (held σ p) j gp e in
          let f' : held σ x ≡ Some n = gx n f in
          let low = inside (length (Row setting s a)) (held s p) j e in
          let lowu : j < length (row_of u (setting.spot a)) = subst (λ k. j < k) (sym (hu.rows (setting.spot a))) low in
          let c : calm_effect setting s (Store a p x) s ≡ with_cell s (setting.spot a) j (Some n) = ap (λ o. state_or s (stored s (setting.spot a) o (held s x))) e ∙ ap (λ y. state_or s (stored s (setting.spot a) (Some j) y)) f in
          let does : Does (WritesAt setting s (Store a p x)) (calm_effect setting s (Store a p x) s) u (with_cell u (setting.spot a) j (Some n)) = record {
            written = λ l w.
                let r : l ≡ Cell (setting.spot a) j = ⊎_elim (λ h. absurd h.1) (λ k. let h = cell_named (setting.spot a) (cell_in (length (Row setting s a)) (held s p)) l k in let z : Some (h.0) ≡ Some j = sym h.1 ∙ e in let z' : h.0 ≡ j = cc in h.2 ∙ ap (Cell (setting.spot a)) z') w in
                let there : Fine (Cell (setting.spot a) j) (at (calm_effect setting s (Store a p x) s) (Cell (setting.spot a) j)) (at (with_cell u (setting.spot a) j (Some n)) (Cell (setting.spot a) j)) =
                cell_there u (setting.spot a) j (Some n) lowu ∙ sym (ap (λ z. at z (Cell (setting.spot a) j)) c ∙ cell_there s (setting.spot a) j (Some n) low) in
                subst (λ m. Fine m (at (calm_effect setting s (Store a p x) s) m) (at (with_cell u (setting.spot a) j (Some n)) m)) (sym r) there;
            other = λ l no. cell_else u (setting.spot a) j (Some n) l lowu (λ r. no (inr (names_cell (setting.spot a) (cell_in (length (Row setting s a)) (held s p)) l j e r)));
            shape = cell_shape u (setting.spot a) j (Some n) lowu;
          } in
          (with_cell u (setting.spot a) j (Some n), ap (λ o. stored u (setting.spot a) o (held σ x)) e' ∙ ap (λ y. stored u (setting.spot a) (Some j) y) f', does)

  take : (v : ℕ) → OpSafe (Input v) → Well (Input v) → Result (Input v) (Input v)
  take v safe well = let q = input_is s v s.input safe.0 safe.1 in by q.0 q.1 q.2
    where
      by : (n : ℤ) (ms : List ℤ) → s.input ≡ n ∷ ms → (u' : State) × (effect setting σ (Input v) u ≡ Some u') × Does (WritesAt setting s (Input v)) (calm_effect setting s (Input v) s) u u'
      by n ms e =
          let same : Left σ.input ≡ Left s.input = well TheInput (inr refl) in
          let e' : σ.input ≡ n ∷ ms = left_inj σ.input s.input same ∙ e in
          let u' : State = record (with_value u v (Some n)) { input = ms } in
          let c : calm_effect setting s (Input v) s ≡ record (with_value s v (Some n)) { input = ms } = ap (λ z. state_or (with_value s v None) (next_input s v z)) e in
          let does : Does (WritesAt setting s (Input v)) (calm_effect setting s (Input v) s) u (record (with_value u v (Some n)) { input = ms }) = record {
            written = λ l w.
                ⊎_elim
                (λ h. let p = one_write v h.0 l h.1 h.2 in
                let there : Fine (Of v) (at (calm_effect setting s (Input v) s) (Of v)) (at (record (with_value u v (Some n)) { input = ms }) (Of v)) =
                λ m g. value_there u v (Some n) ∙ sym (value_there s v (Some n)) ∙ sym (ap (λ z. at z (Of v)) c) ∙ g in
                subst (λ m. Fine m (at (calm_effect setting s (Input v) s) m) (at (record (with_value u v (Some n)) { input = ms }) m)) (sym p) there)
                (λ p.
                let there : Fine TheInput (at (calm_effect setting s (Input v) s) TheInput) (at (record (with_value u v (Some n)) { input = ms }) TheInput) = sym (ap (λ z. at z TheInput) c) in
                subst (λ m. Fine m (at (calm_effect setting s (Input v) s) m) (at (record (with_value u v (Some n)) { input = ms }) m)) (sym p) there)
                w;
            other = λ l no. else_ l (λ p. no (inl (v, inl refl, p))) (λ p. no (inr p));
            shape = record { arrays = refl; rows = λ a. refl };
          } in
          (record (with_value u v (Some n)) { input = ms }, ap (next_input u v) e', does)
        where
          else_ : (l : Location) → (l ≡ Of v → ⊥) → (l ≡ TheInput → ⊥) → at (record (with_value u v (Some n)) { input = ms }) l ≡ at u l
          else_ (Of w) a b = value_else u v (Some n) (Of w) a
          else_ (Cell x y) a b = refl
          else_ TheInput a b = absurd (b refl)
          else_ TheOutput a b = refl

  -- what is printed, onto the output that is there
  prints : (op : Op) (text : List ℕ) → ((l : Location) → WritesAt setting s op l → l ≡ TheOutput) → WritesAt setting s op TheOutput → calm_effect setting s op s ≡ record s { out = s.out ++ text } → σ.out ≡ s.out → Does (WritesAt setting s op) (calm_effect setting s op s) u (record u { out = σ.out ++ text })
  prints op text only all c f = record {
    written = λ l w.
        let there : Fine TheOutput (at (calm_effect setting s op s) TheOutput) (at (record u { out = σ.out ++ text }) TheOutput) = ap (λ z. Printed (z ++ text)) f ∙ sym (ap (λ z. at z TheOutput) c) in
        subst (λ m. Fine m (at (calm_effect setting s op s) m) (at (record u { out = σ.out ++ text }) m)) (sym (only l w)) there;
    other = λ l no. else_ l (λ p. no (subst (WritesAt setting s op) (sym p) all));
    shape = record { arrays = refl; rows = λ a. refl };
  }
    where
      else_ : (l : Location) → (l ≡ TheOutput → ⊥) → at (record u { out = σ.out ++ text }) l ≡ at u l
      else_ (Of w) b = refl
      else_ (Cell x y) b = refl
      else_ TheInput b = refl
      else_ TheOutput b = absurd (b refl)

  show : (x : Operand) → OpSafe (Decimal x) → Well (Decimal x) → Result (Decimal x) (Decimal x)
  show x safe well = let q = printed_is s s.out (held s x) safe.0 safe.1 in by q.0 q.1
    where
      by : (n : ℤ) → held s x ≡ Some n → (u' : State) × (effect setting σ (Decimal x) u ≡ Some u') × Does (WritesAt setting s (Decimal x)) (calm_effect setting s (Decimal x) s) u u'
      by n e =
          let same : Printed σ.out ≡ Printed s.out = well TheOutput (inr refl) in
          let e' : held σ x ≡ Some n = operand (Decimal x) x well (λ w r. r) n e in (
            record u { out = σ.out ++ signed_decimal n },
            ap (printed u σ.out) e',
            prints (Decimal x) (signed_decimal n) (λ l w. ⊎_elim (λ h. absurd h.1) (λ h. h) w) (inr refl) (ap (λ y. state_or s (printed s s.out y)) e) (printed_inj σ.out s.out same),
          )

  pub by_op : (op : Op) → OpSafe op → Well op → Result op op
  by_op (Load v a p d) safe well = load v a p d d safe well
  by_op (Store a p x) safe well = store a p x safe well
  by_op (Input v) safe well = take v safe well
  by_op (Text n) safe well =
      let same : Printed σ.out ≡ Printed s.out = well TheOutput (inr refl) in
      (record u { out = σ.out ++ text_at setting n }, refl, prints (Text n) (text_at setting n) (λ l w. ⊎_elim (λ h. absurd h.1) (λ h. h) w) (inr refl) refl (printed_inj σ.out s.out same))
  by_op (Decimal x) safe well = show x safe well
  by_op op safe well = (
    with_value u _ (content setting σ op),
    refl,
    only_value op _ (content setting s op) (content setting σ op) refl (λ l w. ⊎_elim (λ h. one_write _ h.0 l h.1 h.2) (λ h. absurd h) w) refl
        (content_refined setting op s σ (λ v h. read op v well h) (λ r. left_inj σ.input s.input (well TheInput (inr r)))),
  )

  pub step : (i i' : Item) → Marked i i' → Safe setting s i' → ((l : Location) → Reads setting s i l → Fine l (at s l) (at σ l)) → (u' : State) × (item_effect setting σ i' u ≡ Some u') × Does (Writes setting s i) (calm setting s i) u u'
  step i i' (as_it_is {op}) safe well = by_op op safe well
  step i i' (dismissible {v} {a} {p = p} {d = d}) safe well = load v a p d true safe well
  step i i' (split) safe well = (u, refl, record { written = λ l w. absurd (⊎_elim (λ h. h.1) (λ h. h) w); other = λ l n. refl; shape = same_shape u })
