-- An operation on values that stand elsewhere does the same.
use Rattle.std.proofs.Common.{◌≡◌, inl, inr, ℕ, ℤ, pos, Bool, true, false, cond, ◌==◌, List, [], ◌∷◌, ◌++◌, length, slice_set, slice_index_or, Option, Some, None, refl, sym, ap, subst, ◌∙◌, eq-eqb}
use Rattle.std.proofs.lemmas.Bool.{false≢true, eqb-true}
use Rattle.std.specs.Fmt.{signed_decimal}
use Rattle.vx_base.specs.Arithmetic.{value_of, one_if}
use Rattle.vx_flow.specs.declared.graph.Operand.{Operand}
use Rattle.vx_flow.specs.declared.graph.Operand.TheVariants.{Held, Number, Stack}
use Rattle.vx_flow.specs.declared.graph.Op.{Op}
use Rattle.vx_flow.specs.declared.graph.Op.TheVariants.{Compute, Select, Place, Load, Store, More, Input, Text, Decimal, Across, Base, PlaceIn}
use Rattle.vx_flow.specs.Effects.{Content, State, Setting, IsIn, held, is_unary, both, computed, is_one, chosen, place_of, place_by, row_of, cell_in, is_left, text_at, with_value, with_cell, loaded, stored, next_input, printed, effect, value_in}
use Rattle.vx_flow.specs.Operands.{with_value_in, with_values}
use Rattle.vx_flow.proofs.EffectsAlike.{Refined, place_by_refined}
use Rattle.vx_flow.proofs.Members.{in_left, in_right}
use Rattle.vx_inline.specs.Renaming.{Carried, AreApart, Within, CarriedTo, EffectIsRenamed}

pub unequal : (a b : ℕ) → (a ≡ b → ⊥) → (a == b) ≡ false
unequal a b h = by (a == b) refl
  where
    by : (x : Bool) → (a == b) ≡ x → x ≡ false
    by true e = absurd (h (eqb-true a b e))
    by false e = refl

both_refined : (f : ℤ → ℤ → ℤ) (x y x' y' : Content) → Refined x x' → Refined y y' → Refined (both f x y) (both f x' y')
both_refined f None y x' y' h k n e = absurd (cc)
both_refined f (Some a) None x' y' h k n e = absurd (cc)
both_refined f (Some a) (Some b) x' y' h k n e =
    subst (λ q. both f q y' ≡ Some n) (sym (h a refl)) (subst (λ q. both f (Some a) q ≡ Some n) (sym (k b refl)) e)

choice_refined : (one : Bool) (a b a' b' : Content) → Refined a a' → Refined b b' → Refined (cond one a b) (cond one a' b')
choice_refined true a b a' b' h k = h
choice_refined false a b a' b' h k = k

chosen_refined : (x x' a b a' b' : Content) → Refined x x' → Refined a a' → Refined b b' → Refined (chosen x a b) (chosen x' a' b')
chosen_refined None x' a b a' b' r h k n e = absurd (cc)
chosen_refined (Some z) x' a b a' b' r h k n e = subst (λ q. chosen q a' b' ≡ Some n) (sym (r z refl)) (choice_refined (is_one z) a b a' b' h k n e)

place_refined : (x x' : Content) → Refined x x' → Refined (place_of x) (place_of x')
place_refined None x' r n e = absurd (cc)
place_refined (Some i) x' r n e = subst (λ q. place_of q ≡ Some n) (sym (r i refl)) e

cell_refined : (words : ℕ) (x y : Content) → Refined x y → (k : ℕ) → cell_in words x ≡ Some k → cell_in words y ≡ Some k
cell_refined words None y r k e = absurd (cc)
cell_refined words (Some z) y r k e = subst (λ q. cell_in words q ≡ Some k) (sym (r z refl)) e

some_is : (s t : State) → Option.Some s ≡ Some t → s ≡ t
some_is s t e = cc

module _ (named : ℕ → Type 0) (keeps : ℕ → ℤ → Type 0) (to : ℕ → ℕ) (a : AreApart named keeps to) where
  abbrev C : State → State → Type 0
  C = Carried named keeps to

  abbrev D : State → Option State → Type 0
  D = CarriedTo named keeps to

  abbrev AreNamed : List ℕ → Type 0
  AreNamed vs = (v : ℕ) → IsIn v vs → named v

  pub held_renamed : (s t : State) (x : Operand) → Carried named keeps to s t → AreNamed (value_in x) → Refined (held s x) (held t (with_value_in to x))
  held_renamed s t (Held v) c k = λ n e. c.values v n (k v (inl refl)) e
  held_renamed s t (Number m) c k = λ n e. e
  held_renamed s t Stack c k = λ n e. absurd (cc)

  computed_renamed : (unary : Bool) (f : ℤ → ℤ → ℤ) (s t : State) (x y : Operand) → C s t → AreNamed (cond unary (value_in x) (value_in x ++ value_in y)) →
      Refined (cond unary (held s x) (both f (held s x) (held s y))) (cond unary (held t (with_value_in to x)) (both f (held t (with_value_in to x)) (held t (with_value_in to y))))
  computed_renamed true f s t x y c k = held_renamed s t x c k
  computed_renamed false f s t x y c k =
      both_refined f (held s x) (held s y) (held t (with_value_in to x)) (held t (with_value_in to y))
      (held_renamed s t x c (λ v m. k v (in_left v (value_in x) (value_in y) m)))
      (held_renamed s t y c (λ v m. k v (in_right v (value_in x) (value_in y) m)))

  pub with_value_carried : (s t : State) (v : ℕ) (x y : Content) → Carried named keeps to s t → named v → Refined x y → Carried named keeps to (with_value s v x) (with_value t (to v) y)
  with_value_carried s t v x y c k r = record {
    world = record { arrays = c.world.arrays; input = c.world.input; out = c.world.out };
    values = λ u n l e. by u n l (u == v) refl e;
    kept = λ z n h. subst (λ b. cond b y (t.values z) ≡ Some n) (sym (unequal z (to v) (λ i. a.clear z n v h k i))) (c.kept z n h);
  }
    where
      by : (u : ℕ) (n : ℤ) → named u → (same : Bool) → (u == v) ≡ same → cond same x (s.values u) ≡ Some n → cond (to u == to v) y (t.values (to u)) ≡ Some n
      by u n l true q e = subst (λ b. cond b y (t.values (to u)) ≡ Some n) (sym (eq-eqb (to u) (to v) (ap to (eqb-true u v q)))) (r n e)
      by u n l false q e =
          subst (λ b. cond b y (t.values (to u)) ≡ Some n) (sym (unequal (to u) (to v) (λ i. false≢true (sym q ∙ eq-eqb u v (a.one u v l k i))))) (c.values u n l e)

  carried_on : (s s' t : State) → Option.Some s ≡ Some s' → C s t → C s' t
  carried_on s s' t e c = subst (λ q. C q t) (some_is s s' e) c

  value_done : (s t s' : State) (v : ℕ) (x y : Content) → C s t → named v → Refined x y → Some (with_value s v x) ≡ Some s' → D s' (Some (with_value t (to v) y))
  value_done s t s' v x y c k r e = record { state = with_value t (to v) y; is = refl; carried = carried_on (with_value s v x) s' (with_value t (to v) y) e (with_value_carried s t v x y c k r) }

  loaded_done : (s t s' : State) (v : ℕ) (row : List Content) (i j : Option ℕ) (dismissible : Bool) → C s t → named v → ((k : ℕ) → i ≡ Some k → j ≡ Some k) →
      loaded s v row i dismissible ≡ Some s' → D s' (loaded t (to v) row j dismissible)
  loaded_done s t s' v row None None true c k r e = value_done s t s' v None None c k (λ n f. f) e
  loaded_done s t s' v row None (Some j) true c k r e = value_done s t s' v None (slice_index_or row j None) c k (λ n f. absurd (cc)) e
  loaded_done s t s' v row None j false c k r e = absurd (cc)
  loaded_done s t s' v row (Some i) j dismissible c k r e =
      subst (λ q. D s' (loaded t (to v) row q dismissible)) (sym (r i refl)) (value_done s t s' v (slice_index_or row i None) (slice_index_or row i None) c k (λ n f. f) e)

  with_cell_carried : (s t : State) (b i : ℕ) (x : Content) → C s t → C (with_cell s b i x) (with_cell t b i x)
  with_cell_carried s t b i x c = record {
    world = record { arrays = ap (λ rows. slice_set rows b (slice_set (slice_index_or rows b []) i x)) c.world.arrays; input = c.world.input; out = c.world.out };
    values = c.values;
    kept = c.kept;
  }

  stored_done : (s t s' : State) (b : ℕ) (i j : Option ℕ) (x y : Content) → C s t → ((k : ℕ) → i ≡ Some k → j ≡ Some k) → Refined x y → stored s b i x ≡ Some s' → D s' (stored t b j y)
  stored_done s t s' b None j x y c r q e = absurd (cc)
  stored_done s t s' b (Some i) j None y c r q e = absurd (cc)
  stored_done s t s' b (Some i) j (Some n) y c r q e =
      subst (λ p. D s' (stored t b p y)) (sym (r i refl))
      (subst (λ p. D s' (stored t b (Some i) p)) (sym (q n refl))
      (record { state = with_cell t b i (Some n); is = refl; carried = carried_on (with_cell s b i (Some n)) s' (with_cell t b i (Some n)) e (with_cell_carried s t b i (Some n) c) }))

  input_done : (s t s' : State) (v : ℕ) (ns ms : List ℤ) → C s t → named v → ms ≡ ns → next_input s v ns ≡ Some s' → D s' (next_input t (to v) ms)
  input_done s t s' v [] ms c k q e = absurd (cc)
  input_done s t s' v (n ∷ ns) ms c k q e =
      let d : C (with_value s v (Some n)) (with_value t (to v) (Some n)) = with_value_carried s t v (Some n) (Some n) c k (λ m f. f) in
      let s1 : State = record (with_value s v (Some n)) { input = ns } in
      let t1 : State = record (with_value t (to v) (Some n)) { input = ns } in
      let done : C s1 t1 = record { world = record { arrays = d.world.arrays; input = refl; out = d.world.out }; values = d.values; kept = d.kept } in
      subst (λ p. D s' (next_input t (to v) p)) (sym q) (record { state = t1; is = refl; carried = carried_on s1 s' t1 e done })

  out_done : (s t s' : State) (xs ys : List ℕ) → C s t → ys ≡ xs → Some (record s { out = xs }) ≡ Some s' → D s' (Some (record t { out = ys }))
  out_done s t s' xs ys c q e =
      let done : C (record s { out = xs }) (record t { out = ys }) = record { world = record { arrays = c.world.arrays; input = c.world.input; out = q }; values = c.values; kept = c.kept } in
      record { state = record t { out = ys }; is = refl; carried = carried_on (record s { out = xs }) s' (record t { out = ys }) e done }

  printed_done : (s t s' : State) (xs ys : List ℕ) (x y : Content) → C s t → ys ≡ xs → Refined x y → printed s xs x ≡ Some s' → D s' (printed t ys y)
  printed_done s t s' xs ys None y c q r e = absurd (cc)
  printed_done s t s' xs ys (Some n) y c q r e =
      subst (λ p. D s' (printed t ys p)) (sym (r n refl)) (out_done s t s' (xs ++ signed_decimal n) (ys ++ signed_decimal n) c (ap (λ p. p ++ signed_decimal n) q) e)

  module _ (g h : Setting) (s t s' : State) where
    -- where the arrays of t and the spot are those of s
    row_same : (b : ℕ) → C s t → h.spot b ≡ g.spot b → row_of t (h.spot b) ≡ row_of s (g.spot b)
    row_same b c e = ap (λ r. slice_index_or r (h.spot b) []) c.world.arrays ∙ ap (row_of s) e

  pub effect_renamed : (g h : Setting) (op : Op) (s t s' : State) → Within named g h op → Carried named keeps to s t → effect g s op s ≡ Some s' → CarriedTo named keeps to s' (effect h t (with_values to op) t)
  effect_renamed g h (Compute code v x y) s t s' w c e =
      value_done s t s' v (computed code (held s x) (held s y)) (computed code (held t (with_value_in to x)) (held t (with_value_in to y))) c (w.writes v (inl refl))
      (computed_renamed (is_unary code) (value_of code) s t x y c w.reads) e
  effect_renamed g h (Select v p x y) s t s' w c e =
      value_done s t s' v (chosen (s.values p) (held s x) (held s y)) (chosen (t.values (to p)) (held t (with_value_in to x)) (held t (with_value_in to y))) c (w.writes v (inl refl))
      (chosen_refined (s.values p) (t.values (to p)) (held s x) (held s y) (held t (with_value_in to x)) (held t (with_value_in to y)) (λ n f. c.values p n (w.reads p (inl refl)) f)
      (held_renamed s t x c (λ u m. w.reads u (inr (in_left u (value_in x) (value_in y) m))))
      (held_renamed s t y c (λ u m. w.reads u (inr (in_right u (value_in x) (value_in y) m))))) e
  effect_renamed g h (Place v b i) s t s' w c e =
      value_done s t s' v (place_of (held s i)) (place_of (held t (with_value_in to i))) c (w.writes v (inl refl)) (place_refined (held s i) (held t (with_value_in to i)) (held_renamed s t i c w.reads)) e
  effect_renamed g h (Load v b p dismissible) s t s' w c e =
      let row : List Content = row_of s (g.spot b) in
      let rows : row_of t (h.spot b) ≡ row = row_same g h s t s' b c (w.spots b (inl refl)) in
      subst (λ r. D s' (loaded t (to v) r (cell_in (length r) (held t (with_value_in to p))) dismissible)) (sym rows)
      (loaded_done s t s' v row (cell_in (length row) (held s p)) (cell_in (length row) (held t (with_value_in to p))) dismissible c (w.writes v (inl refl))
      (cell_refined (length row) (held s p) (held t (with_value_in to p)) (held_renamed s t p c w.reads)) e)
  effect_renamed g h (Store b p x) s t s' w c e =
      let row : List Content = row_of s (g.spot b) in
      let rows : row_of t (g.spot b) ≡ row = ap (λ r. slice_index_or r (g.spot b) []) c.world.arrays in
      subst (λ k. D s' (stored t k (cell_in (length (row_of t k)) (held t (with_value_in to p))) (held t (with_value_in to x)))) (sym (w.spots b (inl refl)))
      (subst (λ r. D s' (stored t (g.spot b) (cell_in (length r) (held t (with_value_in to p))) (held t (with_value_in to x)))) (sym rows)
      (stored_done s t s' (g.spot b) (cell_in (length row) (held s p)) (cell_in (length row) (held t (with_value_in to p))) (held s x) (held t (with_value_in to x)) c
      (cell_refined (length row) (held s p) (held t (with_value_in to p)) (held_renamed s t p c (λ u m. w.reads u (in_left u (value_in p) (value_in x) m))))
      (held_renamed s t x c (λ u m. w.reads u (in_right u (value_in p) (value_in x) m))) e))
  effect_renamed g h (More v) s t s' w c e =
      value_done s t s' v (Some (one_if (is_left s.input))) (Some (one_if (is_left t.input))) c (w.writes v (inl refl)) (λ n f. ap (λ i. Some (one_if (is_left i))) c.world.input ∙ f) e
  effect_renamed g h (Input v) s t s' w c e = input_done s t s' v s.input t.input c (w.writes v (inl refl)) c.world.input e
  effect_renamed g h (Text n) s t s' w c e =
      out_done s t s' (s.out ++ text_at g n) (t.out ++ text_at h n) c (ap (λ p. p ++ text_at h n) c.world.out ∙ ap (λ ts. s.out ++ slice_index_or ts n []) w.texts) e
  effect_renamed g h (Decimal x) s t s' w c e = printed_done s t s' s.out t.out (held s x) (held t (with_value_in to x)) c c.world.out (held_renamed s t x c w.reads) e
  effect_renamed g h (Across v u) s t s' w c e = value_done s t s' v (s.values u) (t.values (to u)) c (w.writes v (inl refl)) (λ n f. c.values u n (w.reads u (inl refl)) f) e
  effect_renamed g h (Base v b x) s t s' w c e =
      value_done s t s' v (Some (pos (g.spot b))) (Some (pos (h.spot b))) c (w.writes v (inl refl)) (λ n f. ap (λ k. Some (pos k)) (w.spots b (inl refl)) ∙ f) e
  effect_renamed g h (PlaceIn v b u i) s t s' w c e =
      value_done s t s' v (place_by (s.values u) (held s i)) (place_by (t.values (to u)) (held t (with_value_in to i))) c (w.writes v (inl refl))
      (place_by_refined (s.values u) (t.values (to u)) (held s i) (held t (with_value_in to i)) (λ n f. c.values u n (w.reads u (in_right u (value_in i) (u ∷ []) (inl refl))) f)
      (held_renamed s t i c (λ z m. w.reads z (in_left z (value_in i) (u ∷ []) m)))) e

pub effect_is_renamed : EffectIsRenamed
effect_is_renamed values kept to a g h op s t s' w c e = effect_renamed (λ v. IsIn v values) (λ x n. kept x ≡ Some n) to a g h op s t s' w c e
