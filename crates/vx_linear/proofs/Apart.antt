-- The never law: accesses whose forms never name one word touch none in common, by whichever entrance the trace is entered.
use Rattle.std.proofs.Common.{◌≡◌, inl, inr, ℕ, zero, suc, ◌+◌, ◌-◌, ◌/◌, ◌%◌, ◌^◌, ◌≤◌, refl, sym, ◌∙◌, ap, arith, Bool, true, false, ◌&&◌, ◌==◌, nat_lt, if◌then◌else◌, Option, Some, None, List, [], ◌∷◌, length, drop, slice_get, ℤ, pos, negsuc, ◌+ℤ◌, ◌-ℤ◌, ◌*ℤ◌, subst}
use Rattle.std.proofs.lemmas.Int.{ints}
use Rattle.std.proofs.lemmas.Bool.Decides.{nat_tests}
use Rattle.vx_flow.specs.declared.graph.Array.{Array}
use Rattle.vx_flow.specs.declared.graph.Operand.{Operand}
use Rattle.vx_flow.specs.declared.graph.Op.TheVariants.{Compute, Select, Place, Load, Store, More, Input, Text, Decimal, Across, Base, PlaceIn}
use Rattle.vx_flow.specs.declared.trace.TraceOp.{TraceOp}
use Rattle.vx_flow.specs.declared.trace.TraceOp.TheVariants.{Plain, Split}
use Rattle.vx_flow.specs.declared.trace.Trace.{Trace}
use Rattle.vx_flow.specs.Effects.{Content, State, Setting, held, row_of, cell_in, cell_of, Cell, IsCell}
use Rattle.vx_flow.specs.Apart.{array_in, AreApart, StandApart}
use Rattle.vx_linear.specs.declared.form.Form.{Form}
use Rattle.vx_linear.specs.Forms.{value_at, NeverSame}
use Rattle.vx_linear.specs.Followed.{above_of, index_of, access_form, form_at, forms_from, forms_of}
use Rattle.vx_linear.specs.InOrder.{state_before, Touches, IsEntrance, NeverLaw}
use Rattle.vx_linear.proofs.Symbols.{first-true}
use Rattle.vx_linear.proofs.Writing.{all_forms}
use Rattle.vx_linear.proofs.InOrder.{get_drop, state_at}
use Rattle.vx_linear.proofs.Told.{no_some}
use Rattle.vx_linear.proofs.Stands.{stands}
use Rattle.vx_linear.proofs.Indices.{Index, all_names}

-- ---- the operation of a form

record OfForm (t : Trace) (n : ℕ) (op : Option TraceOp) (f : Form) : Type 0 where
  of : TraceOp
  there : op ≡ Some of
  form : form_at t n of ≡ Some f

form_there : (t : Trace) (n k : ℕ) (ops : List TraceOp) (f : Form) → slice_get (forms_from t n ops) k ≡ Some (Some f) → OfForm t (n + k) (slice_get ops k) f
form_there t n zero [] f e = absurd (no_some (Some f) e)
form_there t n (suc k) [] f e = absurd (no_some (Some f) e)
form_there t n zero (op ∷ ops) f e =
    let h : form_at t n op ≡ Some f = cc in let same : n ≡ n + 0 = omega arith in record { of = op; there = refl; form = ap (λ m. form_at t m op) (sym same) ∙ h }
form_there t n (suc k) (op ∷ ops) f e = let next : suc n + k ≡ n + suc k = omega arith in subst (λ m. OfForm t m (slice_get ops k) f) next (form_there t (suc n) k ops f e)

of_form : (t : Trace) (n : ℕ) (f : Form) → slice_get (forms_of t) n ≡ Some (Some f) → OfForm t n (slice_get t.ops n) f
of_form t n f e =
    let same : 0 + n ≡ n = omega arith in
    subst (λ m. OfForm t m (slice_get t.ops n) f) same (form_there t 0 n t.ops f (ap (λ fs. slice_get fs n) (all_forms t) ∙ e))

-- ---- what an access touches

record Accessed (t : Trace) (setting : Setting) (s : State) (n a c : ℕ) (f : Form) : Type 0 where
  array : ℕ
  place : Operand
  form : access_form t n array place ≡ f
  cell : cell_of setting s array place ≡ Some c
  spot : a ≡ setting.spot array

cell_is : (spot a c : ℕ) (i : Option ℕ) → IsCell spot i (Cell a c) → (i ≡ Some c) × (a ≡ spot)
cell_is spot a c None h = absurd h
cell_is spot a c (Some i) h = let e : c ≡ i = cc in (ap Some (sym e), cc)

module _ (t : Trace) (setting : Setting) (s : State) (n a c : ℕ) (f : Form) where
  by_cell : (b : ℕ) (p : Operand) → Option.Some (access_form t n b p) ≡ Some f → IsCell (setting.spot b) (cell_of setting s b p) (Cell a c) → Accessed t setting s n a c f
  by_cell b p e h =
      let there = cell_is (setting.spot b) a c (cell_of setting s b p) h in
      record { array = b; place = p; form = form_is (access_form t n b p) f e; cell = there.0; spot = there.1 }
    where
      form_is : (f g : Form) → Option.Some f ≡ Some g → f ≡ g
      form_is f g e = cc

  accessed : (op : TraceOp) → form_at t n op ≡ Some f → Touches setting s (Some op) (Cell a c) → Accessed t setting s n a c f
  accessed (Plain (Load v b p d)) e (inl h) = by_cell b p e h
  accessed (Plain (Load v b p d)) e (inr h) = absurd h
  accessed (Plain (Store b p x)) e (inl h) = absurd h
  accessed (Plain (Store b p x)) e (inr h) = by_cell b p e h
  accessed (Plain (Compute code v x y)) e h = absurd (no_some f e)
  accessed (Plain (Select v p x y)) e h = absurd (no_some f e)
  accessed (Plain (Place v b x)) e h = absurd (no_some f e)
  accessed (Plain (More v)) e h = absurd (no_some f e)
  accessed (Plain (Input v)) e h = absurd (no_some f e)
  accessed (Plain (Text m)) e h = absurd (no_some f e)
  accessed (Plain (Decimal x)) e h = absurd (no_some f e)
  accessed (Plain (Across v u)) e h = absurd (no_some f e)
  accessed (Plain (Base v a x)) e h = absurd (no_some f e)
  accessed (Plain (PlaceIn v b u x)) e h = absurd (no_some f e)
  accessed (Split test leaves_when edge live) e h = absurd (no_some f e)

-- the place of a cell
record PlaceOf (x : Content) (c : ℕ) : Type 0 where
  place : ℕ
  is : x ≡ Some (pos place)
  aligned : place % 4 ≡ 0
  word : place / 4 ≡ c

place_there : (words : ℕ) (x : Content) (c : ℕ) → cell_in words x ≡ Some c → PlaceOf x c
place_there words None c e = absurd (no_some c e)
place_there words (Some (negsuc n)) c e = absurd (no_some c e)
place_there words (Some (pos p)) c e = by ((p % 4 == 0) && nat_lt (p / 4) words) refl e
  where
    zero_is : (n : ℕ) → (n == 0) ≡ true → n ≡ 0
    zero_is n h = grind (arith, nat_tests)

    word_is : (m n : ℕ) → Option.Some m ≡ Some n → m ≡ n
    word_is m n e = cc

    by : (b : Bool) → ((p % 4 == 0) && nat_lt (p / 4) words) ≡ b → (if b then Some (p / 4) else None) ≡ Some c → PlaceOf (Some (pos p)) c
    by true h e = record { place = p; is = refl; aligned = zero_is (p % 4) (first-true (p % 4 == 0) (nat_lt (p / 4) words) h); word = word_is (p / 4) c e }
    by false h e = absurd (no_some c e)

-- ---- the law

meet : (x y m n z : ℤ) → z ≡ x +ℤ m *ℤ pos (2 ^ 30) → z ≡ y +ℤ n *ℤ pos (2 ^ 30) → x ≡ y +ℤ (n -ℤ m) *ℤ pos (2 ^ 30)
meet x y m n z e h = omega (arith, ints, e, h)

module _ (t : Trace) (setting : Setting) (q : ℕ) (s : State) where
  -- the form comes to the word that is touched
  record Comes (n a c : ℕ) (f : Form) : Type 0 where
    multiple : ℤ
    is : pos c ≡ value_at (stands setting t q s) f +ℤ multiple *ℤ pos (2 ^ 30)
    array : ℕ
    of : f.array ≡ array_in t.arrays array
    spot : a ≡ setting.spot array

  comes_accessed : (n a c : ℕ) (f : Form) → IsEntrance t q → q ≤ n → Accessed t setting (state_at setting t q s n) n a c f → Comes n a c f
  comes_accessed n a c f enters h x = subst (Comes n a c) x.form (record {
    multiple = index.multiple;
    is = ap pos (sym there.word) ∙ index.is;
    array = x.array;
    of = refl;
    spot = x.spot;
  })
    where
      there : PlaceOf (held (state_at setting t q s n) x.place) c
      there = place_there (length (row_of (state_at setting t q s n) (setting.spot x.array))) (held (state_at setting t q s n) x.place) c x.cell

      index : Index (stands setting t q s) (index_of (above_of t n) x.place) there.place
      index = all_names setting t q s enters n h x.place there.place there.is there.aligned

  comes : (i a c : ℕ) (f : Form) → IsEntrance t q → slice_get (forms_of t) (q + i) ≡ Some (Some f) →
      Touches setting (state_before setting (drop q t.ops) s i) (slice_get (drop q t.ops) i) (Cell a c) → Comes (q + i) a c f
  comes i a c f enters e h =
      let o = of_form t (q + i) f e in
      let same : i ≡ (q + i) - q = omega arith in
      let at_op = subst (λ op. Touches setting (state_before setting (drop q t.ops) s i) op (Cell a c)) (get_drop q t.ops i ∙ o.there) h in
      let at_place = subst (λ k. Touches setting (state_before setting (drop q t.ops) s k) (Some o.of) (Cell a c)) same at_op in
      comes_accessed (q + i) a c f enters (omega arith) (accessed t setting (state_at setting t q s (q + i)) (q + i) a c f o.of o.form at_place)

  never_both : (i j : ℕ) (f g : Form) → StandApart t.arrays setting.spot → NeverSame f g → (a c : ℕ) → Comes i a c f → Comes j a c g → ⊥
  never_both i j f g apart (inl two) a c x y =
      apart x.array y.array (subst (λ z. AreApart (array_in t.arrays x.array) z) y.of (subst (λ z. AreApart z g.array) x.of two)) (sym x.spot ∙ y.spot)
  never_both i j f g apart (inr never) a c x y =
      never (stands setting t q s) (record {
        multiple = y.multiple -ℤ x.multiple;
        equal = meet (value_at (stands setting t q s) f) (value_at (stands setting t q s) g) x.multiple y.multiple (pos c) x.is y.is;
      })

pub never_law : NeverLaw
never_law t setting q s i j f g apart enters e h never a c x y =
    never_both t setting q s (q + i) (q + j) f g apart never a c (comes t setting q s i a c f enters e x) (comes t setting q s j a c g enters h y)
