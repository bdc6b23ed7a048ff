-- The numbers that the symbols stand for in one run of a trace in order, and that what is known of each operand is true
-- of what it holds there.
use Rattle.std.proofs.Common.{◌≡◌, ◌⊎◌, inl, inr, ℕ, zero, suc, ◌/◌, ◌<◌, ◌≤◌, refl, sym, ◌∙◌, ap, arith, Bool, true, false, if◌then◌else◌, Option, Some, None, List, [], slice_get, ℤ, pos, negsuc, subst}
use Rattle.std.proofs.lemmas.Bool.{false≢true, cases_lt}
use Rattle.vx_flow.specs.declared.graph.Operand.{Operand}
use Rattle.vx_flow.specs.declared.graph.Operand.TheVariants.{Held, Number, Stack}
use Rattle.vx_flow.specs.declared.graph.Op.TheVariants.{Compute, Select, Place, Load, Store, More, Input, Text, Decimal, Across, Base, PlaceIn}
use Rattle.vx_flow.specs.declared.trace.TraceOp.{TraceOp}
use Rattle.vx_flow.specs.declared.trace.TraceOp.TheVariants.{Plain, Split}
use Rattle.vx_flow.specs.declared.trace.Trace.{Trace}
use Rattle.vx_flow.specs.Effects.{Content, State, Setting, held, computed as made_of}
use Rattle.vx_linear.specs.declared.form.Symbol.{Symbol}
use Rattle.vx_linear.specs.declared.form.Symbol.TheVariants.{Entry, Made, EntryPlace, MadePlace}
use Rattle.vx_linear.specs.Linear.{constant, symbol}
use Rattle.vx_linear.specs.Followed.{Above, writes_it, made_or_entry, plain, made, known, is_join, join_at, at_place, above_of}
use Rattle.vx_linear.specs.Writers.{writes_there, writer}
use Rattle.vx_linear.specs.InOrder.{in_order, IsEntrance}
use Rattle.vx_linear.proofs.Writing.{writer_below, symbol_by, symbol_law}
use Rattle.vx_linear.proofs.InOrder.{with_value_there, kept, written_there, written_there_is, writer_writes, after, state_at, state_at_entrance, state_at_next}
use Rattle.vx_linear.proofs.Told.{Tells, Told, told_plain, tells_constant, tells_none, tells_symbol, computed_told}

abbrev pub number_or : Content → ℤ
number_or None = pos 0
number_or (Some n) = n

-- a place in bytes divided by 4
abbrev pub quarter_of : Content → ℤ
quarter_of None = pos 0
quarter_of (Some (pos p)) = pos (p / 4)
quarter_of (Some (negsuc n)) = pos 0

-- behind a join nothing is followed
joined : (b : Bool) (above : List Above) (v : ℕ) → b ≡ true → known (join_at b above) (Held v) ≡ plain (symbol (made_or_entry (join_at b above) v))
joined true above v h = refl
joined false above v h = absurd (false≢true h)

known_at_entrance : (t : Trace) (p v : ℕ) → IsEntrance t p → known (above_of t p) (Held v) ≡ plain (symbol (made_or_entry (above_of t p) v))
known_at_entrance t zero v h = by (is_join t 0)
  where
    by : (b : Bool) → known (join_at b []) (Held v) ≡ plain (symbol (made_or_entry (join_at b []) v))
    by true = refl
    by false = refl
known_at_entrance t (suc i) v (inl e) = absurd (omega (arith, e))
known_at_entrance t (suc i) v (inr h) = joined (is_join t (suc i)) (at_place i (slice_get t.ops i) (above_of t i)) v h

after_kept : (setting : Setting) (s : State) (op : Option TraceOp) (v : ℕ) → writes_there v op ≡ false → (after setting s op).values v ≡ s.values v
after_kept setting s None v h = refl
after_kept setting s (Some op) v h = kept setting s op v h

module _ (setting : Setting) (t : Trace) (q : ℕ) (s : State) where
  -- what operation i writes: before the entrance, what the value that it writes holds there
  abbrev pub result_of : ℕ → Content
  result_of i = (state_at setting t q s (suc i)).values (written_there (slice_get t.ops i))

  abbrev pub stands : Symbol → ℤ
  stands (Entry v) = number_or (s.values v)
  stands (Made i) = number_or (result_of i)
  stands (EntryPlace v) = quarter_of (s.values v)
  stands (MadePlace i) = quarter_of (result_of i)

  abbrev pub result_by : ℕ → Option ℕ → Content
  result_by v None = s.values v
  result_by v (Some j) = result_of j

  -- a value holds what its last writer wrote

  at_entrance : (p v : ℕ) (w : Option ℕ) → p ≤ q → writer t.ops p v ≡ w → result_by v w ≡ s.values v
  at_entrance p v None h e = refl
  at_entrance p v (Some j) h e =
      let below = writer_below t.ops p v j e in
      let up : suc j ≤ q = omega (arith, below, h) in
      (λ i. (state_at_entrance setting t q s (suc j) up i).values (written_there_is v (slice_get t.ops j) (writer_writes t.ops p v j e) i))

  pub by_writer : (p v : ℕ) → result_by v (writer t.ops p v) ≡ (state_at setting t q s p).values v
  by_writer zero v = at_entrance zero v None (omega arith) refl ∙ ap (λ x. x.values v) (sym (state_at_entrance setting t q s zero (omega arith)))
  by_writer (suc i) v = by (cases_lt i q) (by_writer i v)
    where
      on : q ≤ i → result_by v (writer t.ops i v) ≡ (state_at setting t q s i).values v → (b : Bool) → writes_there v (slice_get t.ops i) ≡ b → result_by v (if b then Some i else writer t.ops i v) ≡ (state_at setting t q s (suc i)).values v
      on h more true e = ap (state_at setting t q s (suc i)).values (written_there_is v (slice_get t.ops i) e)
      on h more false e =
          more ∙ sym (after_kept setting (state_at setting t q s i) (slice_get t.ops i) v e) ∙ ap (λ x. x.values v) (sym (state_at_next setting t q s i h))

      by : (i < q) ⊎ (q ≤ i) → result_by v (writer t.ops i v) ≡ (state_at setting t q s i).values v → result_by v (writer t.ops (suc i) v) ≡ (state_at setting t q s (suc i)).values v
      by (inl h) more =
          let up : suc i ≤ q = omega (arith, h) in
          at_entrance (suc i) v (writer t.ops (suc i) v) up refl ∙ ap (λ x. x.values v) (sym (state_at_entrance setting t q s (suc i) up))
      by (inr h) more = on h more (writes_there v (slice_get t.ops i)) refl

  -- so its symbol stands for what it holds

  stands_by : (v : ℕ) (w : Option ℕ) → stands (symbol_by v w) ≡ number_or (result_by v w)
  stands_by v None = refl
  stands_by v (Some j) = refl

  symbol_told : (p v : ℕ) → Told stands (plain (symbol (symbol_by v (writer t.ops p v)))) ((state_at setting t q s p).values v)
  symbol_told p v =
      told_plain stands (symbol (symbol_by v (writer t.ops p v))) ((state_at setting t q s p).values v)
      (tells_symbol stands (symbol_by v (writer t.ops p v)) ((state_at setting t q s p).values v)
      (λ n e. sym (ap number_or (by_writer p v ∙ e)) ∙ sym (stands_by v (writer t.ops p v))))

  entrance_told : (p v : ℕ) → IsEntrance t p → Told stands (known (above_of t p) (Held v)) ((state_at setting t q s p).values v)
  entrance_told p v h =
      subst (λ k. Told stands k ((state_at setting t q s p).values v)) (sym (known_at_entrance t p v h ∙ ap (λ x. plain (symbol x)) (symbol_law t p v))) (symbol_told p v)

  -- one operation

  abbrev pub AllTold : ℕ → Type 0
  AllTold p = (x : Operand) → Told stands (known (above_of t p) x) (held (state_at setting t q s p) x)

  made_told : (i v : ℕ) (op : TraceOp) → AllTold i → writes_it v op ≡ true → Tells stands (symbol (Made i)) ((in_order setting (state_at setting t q s i) op).values v) →
      Told stands (made i op (known (above_of t i))) ((in_order setting (state_at setting t q s i) op).values v)
  made_told i v (Plain (Compute code w a b)) more h tell =
      let there = with_value_there (state_at setting t q s i) w v (made_of code (held (state_at setting t q s i) a) (held (state_at setting t q s i) b)) h in
      subst (λ x. Told stands (made i (Plain (Compute code w a b)) (known (above_of t i))) x) (sym there)
      (computed_told stands (state_at setting t q s i) i a b (known (above_of t i) a) (known (above_of t i) b) (more a) (more b) code
      (subst (λ x. Tells stands (symbol (Made i)) x) there tell))
  made_told i v (Plain (Select w p a b)) more h tell = told_plain stands _ _ tell
  made_told i v (Plain (Place w a x)) more h tell = told_plain stands _ _ tell
  made_told i v (Plain (Load w a p d)) more h tell = told_plain stands _ _ tell
  made_told i v (Plain (Store a p x)) more h tell = told_plain stands _ _ tell
  made_told i v (Plain (More w)) more h tell = told_plain stands _ _ tell
  made_told i v (Plain (Input w)) more h tell = told_plain stands _ _ tell
  made_told i v (Plain (Text n)) more h tell = told_plain stands _ _ tell
  made_told i v (Plain (Decimal x)) more h tell = told_plain stands _ _ tell
  made_told i v (Plain (Across w u)) more h tell = told_plain stands _ _ tell
  made_told i v (Plain (Base w a x)) more h tell = told_plain stands _ _ tell
  made_told i v (Plain (PlaceIn w a u x)) more h tell = told_plain stands _ _ tell
  made_told i v (Split test leaves_when edge live) more h tell = told_plain stands _ _ tell

  behind_told : (i v : ℕ) → q ≤ i → AllTold i → (op : Option TraceOp) → slice_get t.ops i ≡ op → Told stands (known (at_place i op (above_of t i)) (Held v)) ((after setting (state_at setting t q s i) op).values v)
  behind_told i v h more None e = more (Held v)
  behind_told i v h more (Some op) e = by (writes_it v op) refl
    where
      result_is : writes_it v op ≡ true → result_of i ≡ (in_order setting (state_at setting t q s i) op).values v
      result_is f =
          (λ k. (state_at_next setting t q s i h k).values (written_there_is v (slice_get t.ops i) (ap (writes_there v) e ∙ f) k))
          ∙ ap (λ o. (after setting (state_at setting t q s i) o).values v) e

      by : (b : Bool) → writes_it v op ≡ b → Told stands (if b then made i op (known (above_of t i)) else known (above_of t i) (Held v)) ((in_order setting (state_at setting t q s i) op).values v)
      by true f = made_told i v op more f (tells_symbol stands (Made i) _ (λ n g. sym (ap number_or (result_is f ∙ g))))
      by false f = subst (λ x. Told stands (known (above_of t i) (Held v)) x) (sym (kept setting (state_at setting t q s i) op v f)) (more (Held v))

  next_told : (i v : ℕ) → q ≤ i → AllTold i → is_join t (suc i) ≡ false → Told stands (known (above_of t (suc i)) (Held v)) ((state_at setting t q s (suc i)).values v)
  next_told i v h more e =
      subst (λ x. Told stands (known (above_of t (suc i)) (Held v)) (x.values v)) (sym (state_at_next setting t q s i h))
      (subst (λ b. Told stands (known (join_at b (at_place i (slice_get t.ops i) (above_of t i))) (Held v)) ((after setting (state_at setting t q s i) (slice_get t.ops i)).values v)) (sym e)
      (behind_told i v h more (slice_get t.ops i) refl))

  -- what is known of a value is true of what it holds, from the entrance on
  held_told : IsEntrance t q → (p v : ℕ) → q ≤ p → ((i : ℕ) → p ≡ suc i → q ≤ i → AllTold i) → Told stands (known (above_of t p) (Held v)) ((state_at setting t q s p).values v)
  held_told enters zero v h more = entrance_told zero v (inl refl)
  held_told enters (suc i) v h more = by (cases_lt i q) (is_join t (suc i)) refl
    where
      by : (i < q) ⊎ (q ≤ i) → (b : Bool) → is_join t (suc i) ≡ b → Told stands (known (above_of t (suc i)) (Held v)) ((state_at setting t q s (suc i)).values v)
      by (inl l) b e = let is : q ≡ suc i = omega (arith, l, h) in entrance_told (suc i) v (subst (λ p. IsEntrance t p) is enters)
      by (inr g) true e = entrance_told (suc i) v (inr e)
      by (inr g) false e = next_told i v g (more i refl g) e

  operand_told : (p : ℕ) → ((v : ℕ) → Told stands (known (above_of t p) (Held v)) ((state_at setting t q s p).values v)) → AllTold p
  operand_told p h (Held v) = h v
  operand_told p h (Number n) = told_plain stands (constant n) (Some n) (tells_constant stands n)
  operand_told p h Stack = told_plain stands (constant (pos 0)) None (tells_none stands (constant (pos 0)))

  pub all_told : IsEntrance t q → (p : ℕ) → q ≤ p → AllTold p
  all_told enters zero h = operand_told zero (λ v. held_told enters zero v h (λ i e g. absurd (omega (arith, e))))
  all_told enters (suc i) h = operand_told (suc i) (λ v. held_told enters (suc i) v h (λ j e g. let k : i ≡ j = omega (arith, e) in subst AllTold k (all_told enters i (omega (arith, g, k)))))
