-- The form of each place is true of what it holds: where that is the place of a word, the form comes to the word's index,
-- up to multiples of 2 ^ 30.
use Rattle.std.proofs.Common.{◌≡◌, ◌⊎◌, inl, inr, ℕ, zero, suc, ◌*◌, ◌/◌, ◌%◌, ◌^◌, ◌<◌, ◌≤◌, refl, sym, ◌∙◌, ap, arith, Bool, true, false, if◌then◌else◌, Option, Some, None, List, [], slice_get, ℤ, pos, ◌+ℤ◌, ◌-ℤ◌, ◌*ℤ◌, subst}
use Rattle.std.proofs.lemmas.Int.{ints}
use Rattle.std.proofs.lemmas.Bool.{false≢true, cases_lt}
use Rattle.std.proofs.lemmas.Nat.{div-add-mod'}
use Rattle.vx_base.specs.Arithmetic.{wrap, product_of, quotient_of}
use Rattle.vx_base.proofs.WrapLaws.{wrap-and_multiple, wraps_alike_law}
use Rattle.vx_flow.specs.declared.graph.Operand.{Operand}
use Rattle.vx_flow.specs.declared.graph.Operand.TheVariants.{Held, Number, Stack}
use Rattle.vx_flow.specs.declared.graph.Op.TheVariants.{Compute, Select, Place, Load, Store, More, Input, Text, Decimal, Across, Base, PlaceIn}
use Rattle.vx_flow.specs.declared.trace.TraceOp.{TraceOp}
use Rattle.vx_flow.specs.declared.trace.TraceOp.TheVariants.{Plain, Split}
use Rattle.vx_flow.specs.declared.trace.Trace.{Trace}
use Rattle.vx_flow.specs.Effects.{Content, State, Setting, held, place_of, place_by}
use Rattle.vx_linear.specs.declared.form.Symbol.{Symbol}
use Rattle.vx_linear.specs.declared.form.Symbol.TheVariants.{MadePlace}
use Rattle.vx_linear.specs.declared.linear.Linear.{Linear}
use Rattle.vx_linear.specs.Linear.{constant, symbol}
use Rattle.vx_linear.specs.Followed.{Above, writes_it, made_or_entry_place, known, index_made, index_of, is_join, join_at, at_place, above_of}
use Rattle.vx_linear.specs.Writers.{writes_there, writer}
use Rattle.vx_linear.specs.InOrder.{in_order, IsEntrance}
use Rattle.vx_linear.proofs.Writing.{place_symbol_by, place_symbol_law}
use Rattle.vx_linear.specs.Amounts.{amount}
use Rattle.vx_linear.proofs.InOrder.{with_value_there, kept, written_there_is, after, state_at, state_at_next}
use Rattle.vx_linear.proofs.Told.{Tells, some_is, no_some}
use Rattle.vx_linear.proofs.Stands.{quarter_of, result_of, stands, result_by, by_writer, AllTold, all_told}

-- where the content is a place of a word, the form comes to the word's index
pub record Index (s : Symbol → ℤ) (a : Linear) (p : ℕ) : Type 0 where
  pub multiple : ℤ
  pub is : pos (p / 4) ≡ amount s a +ℤ multiple *ℤ pos (2 ^ 30)

abbrev pub Names : (Symbol → ℤ) → Linear → Content → Type 0
Names s a x = (p : ℕ) → x ≡ Some (pos p) → p % 4 ≡ 0 → Index s a p

names_symbol : (s : Symbol → ℤ) (y : Symbol) (x : Content) → s y ≡ quarter_of x → Names s (symbol y) x
names_symbol s y x h p e aligned = record { multiple = pos 0; is = once (pos (p / 4)) (s y) (sym (h ∙ ap quarter_of e)) }
  where
    once : (z w : ℤ) → z ≡ w → z ≡ (pos 0 +ℤ (pos 1 *ℤ w +ℤ pos 0)) +ℤ pos 0 *ℤ pos (2 ^ 30)
    once z w e = omega (arith, ints, e)

names_number : (s : Symbol → ℤ) (n : ℤ) → Names s (constant (quotient_of n (pos 4))) (Some n)
unfolding quotient_of
names_number s n p e aligned =
    let k = wrap-and_multiple (pos (p / 4)) in
    record { multiple = k.0 *ℤ pos 4; is = up (pos (p / 4)) (wrap (pos (p / 4))) k.0 k.1 ∙ ap (λ z. (quotient_of z (pos 4) +ℤ pos 0) +ℤ (k.0 *ℤ pos 4) *ℤ pos (2 ^ 30)) (sym (some_is n (pos p) e)) }
  where
    up : (z w k : ℤ) → z ≡ w +ℤ k *ℤ pos (2 ^ 32) → z ≡ (w +ℤ pos 0) +ℤ (k *ℤ pos 4) *ℤ pos (2 ^ 30)
    up z w k e = omega (arith, ints, e)

-- a place that is 4 times an index, up to multiples of 2 ^ 32
quarter : (n a k l : ℤ) (p c : ℕ) → p ≡ c * 4 → pos 4 *ℤ n ≡ pos p +ℤ k *ℤ pos (2 ^ 32) → n ≡ a +ℤ l *ℤ pos (2 ^ 32) → pos c ≡ a +ℤ (l *ℤ pos 4 -ℤ k) *ℤ pos (2 ^ 30)
quarter n a k l p c e h g = omega (arith, ints, e, h, g)

names_place : (s : Symbol → ℤ) (a : Linear) (x : Content) → Tells s a x → Names s a (place_of x)
unfolding product_of
names_place s a None h p e aligned = absurd (no_some (pos p) e)
names_place s a (Some n) h p e aligned =
    let is : wrap (pos 4 *ℤ n) ≡ pos p = some_is (wrap (pos 4 *ℤ n)) (pos p) e in
    let k = wrap-and_multiple (pos 4 *ℤ n) in
    let l = (wraps_alike_law n (amount s a)).0 (h n refl) in
    let whole : p ≡ p / 4 * 4 = omega (arith, div-add-mod' p 4, aligned) in
    record { multiple = l.0 *ℤ pos 4 -ℤ k.0; is = quarter n (amount s a) k.0 l.0 p (p / 4) whole (k.1 ∙ ap (λ z. z +ℤ k.0 *ℤ pos (2 ^ 32)) is) l.1 }

names_place_by : (s : Symbol → ℤ) (a : Linear) (b x : Content) → Tells s a x → Names s a (place_by b x)
names_place_by s a None x h p e aligned = absurd (no_some (pos p) e)
names_place_by s a (Some k) x h p e aligned = names_place s a x h p e aligned

-- behind a join nothing is followed
joined : (b : Bool) (above : List Above) (v : ℕ) → b ≡ true → index_of (join_at b above) (Held v) ≡ symbol (made_or_entry_place (join_at b above) v)
joined true above v h = refl
joined false above v h = absurd (false≢true h)

index_at_entrance : (t : Trace) (p v : ℕ) → IsEntrance t p → index_of (above_of t p) (Held v) ≡ symbol (made_or_entry_place (above_of t p) v)
index_at_entrance t zero v h = by (is_join t 0)
  where
    by : (b : Bool) → index_of (join_at b []) (Held v) ≡ symbol (made_or_entry_place (join_at b []) v)
    by true = refl
    by false = refl
index_at_entrance t (suc i) v (inl e) = absurd (omega (arith, e))
index_at_entrance t (suc i) v (inr h) = joined (is_join t (suc i)) (at_place i (slice_get t.ops i) (above_of t i)) v h

module _ (setting : Setting) (t : Trace) (q : ℕ) (s : State) where
  abbrev number : Symbol → ℤ
  number = stands setting t q s

  abbrev before : ℕ → State
  before p = state_at setting t q s p

  stands_by : (v : ℕ) (w : Option ℕ) → number (place_symbol_by v w) ≡ quarter_of (result_by setting t q s v w)
  stands_by v None = refl
  stands_by v (Some j) = refl

  entrance_names : (p v : ℕ) → IsEntrance t p → Names number (index_of (above_of t p) (Held v)) ((before p).values v)
  entrance_names p v h =
      subst (λ a. Names number a ((before p).values v)) (sym (index_at_entrance t p v h ∙ ap symbol (place_symbol_law t p v)))
      (names_symbol number (place_symbol_by v (writer t.ops p v)) ((before p).values v)
      (stands_by v (writer t.ops p v) ∙ ap quarter_of (by_writer setting t q s p v)))

  -- one operation

  made_names : (i v : ℕ) (op : TraceOp) → AllTold setting t q s i → writes_it v op ≡ true → number (MadePlace i) ≡ quarter_of ((in_order setting (before i) op).values v) →
      Names number (index_made i op (above_of t i)) ((in_order setting (before i) op).values v)
  made_names i v (Plain (Place w a x)) told h e =
      subst (λ y. Names number ((known (above_of t i) x).linear) y) (sym (with_value_there (before i) w v (place_of (held (before i) x)) h))
      (names_place number ((known (above_of t i) x).linear) (held (before i) x) (told x).tells)
  made_names i v (Plain (Compute code w a b)) told h e = names_symbol number (MadePlace i) _ e
  made_names i v (Plain (Select w p a b)) told h e = names_symbol number (MadePlace i) _ e
  made_names i v (Plain (Load w a p d)) told h e = names_symbol number (MadePlace i) _ e
  made_names i v (Plain (Store a p x)) told h e = names_symbol number (MadePlace i) _ e
  made_names i v (Plain (More w)) told h e = names_symbol number (MadePlace i) _ e
  made_names i v (Plain (Input w)) told h e = names_symbol number (MadePlace i) _ e
  made_names i v (Plain (Text n)) told h e = names_symbol number (MadePlace i) _ e
  made_names i v (Plain (Decimal x)) told h e = names_symbol number (MadePlace i) _ e
  made_names i v (Plain (Across w u)) told h e = names_symbol number (MadePlace i) _ e
  made_names i v (Plain (Base w a x)) told h e = names_symbol number (MadePlace i) _ e
  made_names i v (Plain (PlaceIn w a u x)) told h e =
      subst (λ y. Names number ((known (above_of t i) x).linear) y) (sym (with_value_there (before i) w v (place_by ((before i).values u) (held (before i) x)) h))
      (names_place_by number ((known (above_of t i) x).linear) ((before i).values u) (held (before i) x) (told x).tells)
  made_names i v (Split test leaves_when edge live) told h e = names_symbol number (MadePlace i) _ e

  abbrev HeldNames : ℕ → Type 0
  HeldNames p = (v : ℕ) → Names number (index_of (above_of t p) (Held v)) ((before p).values v)

  behind_names : (i v : ℕ) → q ≤ i → AllTold setting t q s i → HeldNames i → (op : Option TraceOp) → slice_get t.ops i ≡ op → Names number (index_of (at_place i op (above_of t i)) (Held v)) ((after setting (before i) op).values v)
  behind_names i v h told more None e = more v
  behind_names i v h told more (Some op) e = by (writes_it v op) refl
    where
      result_is : writes_it v op ≡ true → result_of setting t q s i ≡ (in_order setting (before i) op).values v
      result_is f =
          (λ k. (state_at_next setting t q s i h k).values (written_there_is v (slice_get t.ops i) (ap (writes_there v) e ∙ f) k))
          ∙ ap (λ o. (after setting (before i) o).values v) e

      by : (b : Bool) → writes_it v op ≡ b → Names number (if b then index_made i op (above_of t i) else index_of (above_of t i) (Held v)) ((in_order setting (before i) op).values v)
      by true f = made_names i v op told f (ap quarter_of (result_is f))
      by false f = subst (λ x. Names number (index_of (above_of t i) (Held v)) x) (sym (kept setting (before i) op v f)) (more v)

  next_names : (i v : ℕ) → q ≤ i → AllTold setting t q s i → HeldNames i → is_join t (suc i) ≡ false → Names number (index_of (above_of t (suc i)) (Held v)) ((before (suc i)).values v)
  next_names i v h told more e =
      subst (λ x. Names number (index_of (above_of t (suc i)) (Held v)) (x.values v)) (sym (state_at_next setting t q s i h))
      (subst (λ b. Names number (index_of (join_at b (at_place i (slice_get t.ops i) (above_of t i))) (Held v)) ((after setting (before i) (slice_get t.ops i)).values v)) (sym e)
      (behind_names i v h told more (slice_get t.ops i) refl))

  held_names : IsEntrance t q → (p : ℕ) → q ≤ p → HeldNames p
  held_names enters zero h v = entrance_names zero v (inl refl)
  held_names enters (suc i) h v = by (cases_lt i q) (is_join t (suc i)) refl (λ g. held_names enters i g)
    where
      by : (i < q) ⊎ (q ≤ i) → (b : Bool) → is_join t (suc i) ≡ b → (q ≤ i → HeldNames i) → Names number (index_of (above_of t (suc i)) (Held v)) ((before (suc i)).values v)
      by (inl l) b e more = let is : q ≡ suc i = omega (arith, l, h) in entrance_names (suc i) v (subst (λ p. IsEntrance t p) is enters)
      by (inr g) true e more = entrance_names (suc i) v (inr e)
      by (inr g) false e more = next_names i v g (all_told setting t q s enters i g) (more g) e

  -- the form of the index of each operand is true, from the entrance on
  pub all_names : IsEntrance t q → (p : ℕ) → q ≤ p → (x : Operand) → Names number (index_of (above_of t p) x) (held (before p) x)
  all_names enters p h (Held v) = held_names enters p h v
  all_names enters p h (Number n) = names_number number n
  all_names enters p h Stack = λ p e aligned. absurd (no_some (pos p) e)
