-- One operation, where what it reads is as in trace order.
use Rattle.std.proofs.Common.{◌≡◌, ℕ, ◌/◌, ◌%◌, ◌<◌, ℤ, pos, negsuc, Bool, true, false, Option, Some, None, List, [], ◌∷◌, cond, ◌&&◌, length, slice_index_or, slice_set, refl, sym, ap, ◌∙◌, subst, ⊎_elim, inl, inr, arith, length-set}
use Rattle.std.specs.Prelude.{◌==◌, nat_lt, if◌then◌else◌}
use Rattle.std.proofs.lemmas.Bool.{cases_eq, eq-eqb, ne_eqb, and_parts, ltb-true, cases_lt}
use Rattle.std.proofs.lemmas.List.{get_or-set_same, get_or-set_other, get_or_past}
use Rattle.vx_flow.specs.Effects.{Content, State, Setting, IsCell, Left, Printed, cell_in, row_of, with_value, with_cell, loaded, stored, next_input, printed, IsIn, Location, Of, Cell, TheInput, TheOutput, Holds, at}
use Rattle.vx_motion.specs.Items.{Fine}
use Rattle.vx_mixed.specs.Agree.{SameShape}
use Rattle.vx_motion.proofs.Does.{Does}
use Rattle.vx_mixed.proofs.Contents.{Grows, none_is}

pub holds_inj : (x y : Content) → Holds x ≡ Holds y → x ≡ y
holds_inj x y e = cc

pub grows : (v : ℕ) (x y : Content) → Fine (Of v) (Holds x) (Holds y) → Grows x y
grows v x y f n e = holds_inj y (Some n) (f n (ap Holds e))

pub fine : (v : ℕ) (x y : Content) → Grows x y → Fine (Of v) (Holds x) (Holds y)
fine v x y g n e = ap Holds (g n (holds_inj x (Some n) e))

-- what is written where
pub value_there : (t : State) (v : ℕ) (x : Content) → at (with_value t v x) (Of v) ≡ Holds x
value_there t v x = ap (λ b. Holds (cond b x (t.values v))) (eq-eqb v v refl)

pub value_else : (t : State) (v : ℕ) (x : Content) (l : Location) → (l ≡ Of v → ⊥) → at (with_value t v x) l ≡ at t l
value_else t v x (Of u) h = ap (λ b. Holds (cond b x (t.values u))) (ne_eqb u v (λ e. h (ap Of e)))
value_else t v x (Cell a i) h = refl
value_else t v x TheInput h = refl
value_else t v x TheOutput h = refl

-- what writes one value and nothing else
pub does_value : (W : Location → Type 0) (s t u : State) (v : ℕ) (x y : Content) → ((l : Location) → W l → l ≡ Of v) → ((l : Location) → l ≡ Of v → W l) → t ≡ with_value s v x → Grows x y → Does W t u (with_value u v y)
does_value W s t u v x y only all e g = record {
  written = λ l w.
      let p = only l w in
      let there : Fine (Of v) (at t (Of v)) (at (with_value u v y) (Of v)) =
      λ n h. value_there u v y ∙ fine v x y g n (sym (ap (λ z. at z (Of v)) e ∙ value_there s v x) ∙ h) in
      subst (λ m. Fine m (at t m) (at (with_value u v y) m)) (sym p) there;
  other = λ l n. value_else u v y l (λ p. n (all l p));
  shape = record { arrays = refl; rows = λ a. refl };
}

pub one_write : (v w : ℕ) (l : Location) → IsIn w (v ∷ []) → l ≡ Of w → l ≡ Of v
one_write v w l (inl e) h = h ∙ ap Of e
one_write v w l (inr e) h = absurd e

abbrev pub Row : Setting → State → ℕ → List Content
Row setting s a = row_of s (setting.spot a)

abbrev pub got : List Content → Option ℕ → Content
got row None = None
got row (Some i) = slice_index_or row i None

pub loaded_free : (t : State) (v : ℕ) (row : List Content) (o : Option ℕ) → loaded t v row o true ≡ Some (with_value t v (got row o))
loaded_free t v row None = refl
loaded_free t v row (Some i) = refl

pub if_inside : (b : Bool) (j i : ℕ) → (if b then Some j else None) ≡ Some i → (b ≡ true) × (j ≡ i)
if_inside true j i e = (refl, cc)
if_inside false j i e = none_is e

pub inside : (k : ℕ) (x : Content) (i : ℕ) → cell_in k x ≡ Some i → i < k
inside k None i e = none_is e
inside k (Some (negsuc n)) i e = none_is e
inside k (Some (pos p)) i e =
    let h = if_inside ((p % 4 == 0) && nat_lt (p / 4) k) (p / 4) i e in
    let b = and_parts ((p % 4 == 0)) (nat_lt (p / 4) k) h.0 in
    let c = ltb-true (p / 4) k b.1 in
    let d = h.1 in
    omega arith

pub has_array : (u : State) (a i : ℕ) → i < length (row_of u a) → a < length u.arrays
has_array u a i h = ⊎_elim (λ lt. lt) (λ ge. absurd (let e : row_of u a ≡ [] = get_or_past u.arrays a [] ge in let g : length (row_of u a) ≡ 0 = ap length e in omega arith)) (cases_lt a (length u.arrays))

pub cell_there : (u : State) (a i : ℕ) (x : Content) → i < length (row_of u a) → at (with_cell u a i x) (Cell a i) ≡ Holds x
cell_there u a i x h =
    ap (λ r. Holds (slice_index_or r i None)) (get_or-set_same u.arrays a (slice_set (row_of u a) i x) [] (has_array u a i h))
    ∙ ap Holds (get_or-set_same (row_of u a) i x None h)

pub row_else : (u : State) (a b i : ℕ) (x : Content) → (b ≡ a → ⊥) → row_of (with_cell u a i x) b ≡ row_of u b
row_else u a b i x h = get_or-set_other u.arrays a b (slice_set (row_of u a) i x) [] h

pub cell_else : (u : State) (a i : ℕ) (x : Content) (l : Location) → i < length (row_of u a) → (l ≡ Cell a i → ⊥) → at (with_cell u a i x) l ≡ at u l
cell_else u a i x (Of v) h n = refl
cell_else u a i x TheInput h n = refl
cell_else u a i x TheOutput h n = refl
cell_else u a i x (Cell b j) h n =
    ⊎_elim
    (λ e. ap (λ r. Holds (slice_index_or r j None)) (ap (row_of (with_cell u a i x)) e ∙ get_or-set_same u.arrays a (slice_set (row_of u a) i x) [] (has_array u a i h))
    ∙ ap Holds (get_or-set_other (row_of u a) i j x None (λ f. n (ap (λ c. Cell c j) e ∙ ap (Cell a) f)))
    ∙ ap (λ c. Holds (slice_index_or (row_of u c) j None)) (sym e))
    (λ e. ap (λ r. Holds (slice_index_or r j None)) (row_else u a b i x e))
    (cases_eq b a)

pub cell_shape : (u : State) (a i : ℕ) (x : Content) → i < length (row_of u a) → SameShape u (with_cell u a i x)
cell_shape u a i x h = record {
  arrays = length-set u.arrays a (slice_set (row_of u a) i x);
  rows = λ b.
      ⊎_elim
      (λ e. ap (λ c. length (row_of (with_cell u a i x) c)) e ∙ ap length (get_or-set_same u.arrays a (slice_set (row_of u a) i x) [] (has_array u a i h)) ∙ length-set (row_of u a) i x ∙ ap (λ c. length (row_of u c)) (sym e))
      (λ e. ap length (row_else u a b i x e))
      (cases_eq b a);
}

pub stored_is : (t : State) (a : ℕ) (o : Option ℕ) (y : Content) (z : State) → stored t a o y ≡ Some z → (i : ℕ) × (n : ℤ) × (o ≡ Some i) × (y ≡ Some n)
stored_is t a None y z e = none_is e
stored_is t a (Some i) None z e = none_is e
stored_is t a (Some i) (Some n) z e = (i, n, refl, refl)

pub input_is : (t : State) (v : ℕ) (ns : List ℤ) (z : State) → next_input t v ns ≡ Some z → (n : ℤ) × (ms : List ℤ) × (ns ≡ n ∷ ms)
input_is t v [] z e = none_is e
input_is t v (n ∷ ms) z e = (n, ms, refl)

pub printed_is : (t : State) (out : List ℕ) (x : Content) (z : State) → printed t out x ≡ Some z → (n : ℤ) × (x ≡ Some n)
printed_is t out None z e = none_is e
printed_is t out (Some n) z e = (n, refl)

pub left_inj : (x y : List ℤ) → Left x ≡ Left y → x ≡ y
left_inj x y e = cc

pub printed_inj : (x y : List ℕ) → Printed x ≡ Printed y → x ≡ y
printed_inj x y e = cc

-- the word of an array that a location names
pub cell_named : (a : ℕ) (o : Option ℕ) (l : Location) → IsCell a o l → (i : ℕ) × (o ≡ Some i) × (l ≡ Cell a i)
cell_named a None l h = absurd h
cell_named a (Some i) l h = (i, refl, h)

pub names_cell : (a : ℕ) (o : Option ℕ) (l : Location) (i : ℕ) → o ≡ Some i → l ≡ Cell a i → IsCell a o l
names_cell a o l i e h = subst (λ z. IsCell a z l) (sym e) h
