-- What an operation that is executed in order writes, and the states before the operations of a trace.
use Rattle.std.proofs.Common.{◌≡◌, ℕ, zero, suc, ◌+◌, ◌-◌, ◌≤◌, refl, sym, ◌∙◌, ap, arith, Bool, true, false, ◌||◌, ◌==◌, nat_eq, if◌then◌else◌, Option, Some, None, List, [], ◌∷◌, drop, slice_get, ℤ}
use Rattle.std.proofs.lemmas.Bool.{false≢true, true≢false}
use Rattle.std.proofs.lemmas.Bool.Decides.{nat_tests}
use Rattle.vx_flow.specs.declared.graph.Op.TheVariants.{Compute, Select, Place, Load, Store, More, Input, Text, Decimal, Across, Base, PlaceIn}
use Rattle.vx_flow.specs.declared.trace.TraceOp.{TraceOp}
use Rattle.vx_flow.specs.declared.trace.TraceOp.TheVariants.{Plain, Split}
use Rattle.vx_flow.specs.declared.trace.Trace.{Trace}
use Rattle.vx_flow.specs.Effects.{Content, State, Setting, held, row_of, cell_of, with_value, loaded, stored, next_input, printed, state_or}
use Rattle.vx_linear.specs.Followed.{writes_it}
use Rattle.vx_linear.specs.Writers.{writes_there, writer}
use Rattle.vx_linear.specs.InOrder.{in_order, state_before}

-- ---- values behind an operation

pub with_value_kept : (s : State) (w v : ℕ) (x : Content) → (nat_eq v w || false) ≡ false → (with_value s w x).values v ≡ s.values v
with_value_kept s w v x h = by (v == w) refl
  where
    by : (b : Bool) → (v == w) ≡ b → (if b then x else s.values v) ≡ s.values v
    by true e = absurd (true≢false (true_here v w e ∙ h))
      where
        true_here : (v w : ℕ) → (v == w) ≡ true → true ≡ (nat_eq v w || false)
        true_here v w e = grind (arith, nat_tests)
    by false e = refl

pub with_value_there : (s : State) (w v : ℕ) (x : Content) → (nat_eq v w || false) ≡ true → (with_value s w x).values v ≡ x
with_value_there s w v x h = by (v == w) refl
  where
    by : (b : Bool) → (v == w) ≡ b → (if b then x else s.values v) ≡ x
    by true e = refl
    by false e = absurd (false≢true (false_here v w e ∙ h))
      where
        false_here : (v w : ℕ) → (v == w) ≡ false → false ≡ (nat_eq v w || false)
        false_here v w e = grind (arith, nat_tests)

loaded_kept : (s : State) (w v : ℕ) (row : List Content) (i : Option ℕ) → (nat_eq v w || false) ≡ false → (state_or s (loaded s w row i true)).values v ≡ s.values v
loaded_kept s w v row None h = with_value_kept s w v _ h
loaded_kept s w v row (Some i) h = with_value_kept s w v _ h

stored_kept : (s : State) (a v : ℕ) (i : Option ℕ) (x : Content) → (state_or s (stored s a i x)).values v ≡ s.values v
stored_kept s a v None x = refl
stored_kept s a v (Some i) None = refl
stored_kept s a v (Some i) (Some n) = refl

input_kept : (s : State) (w v : ℕ) (ns : List ℤ) → (nat_eq v w || false) ≡ false → (state_or (with_value s w None) (next_input s w ns)).values v ≡ s.values v
input_kept s w v [] h = with_value_kept s w v _ h
input_kept s w v (n ∷ ns) h = with_value_kept s w v _ h

printed_kept : (s : State) (v : ℕ) (out : List ℕ) (x : Content) → (state_or s (printed s out x)).values v ≡ s.values v
printed_kept s v out None = refl
printed_kept s v out (Some n) = refl

-- what an operation does not write stays
pub kept : (setting : Setting) (s : State) (op : TraceOp) (v : ℕ) → writes_it v op ≡ false → (in_order setting s op).values v ≡ s.values v
kept setting s (Plain (Compute code w a b)) v h = with_value_kept s w v _ h
kept setting s (Plain (Select w p a b)) v h = with_value_kept s w v _ h
kept setting s (Plain (Place w a i)) v h = with_value_kept s w v _ h
kept setting s (Plain (Load w a p d)) v h = loaded_kept s w v (row_of s (setting.spot a)) (cell_of setting s a p) h
kept setting s (Plain (Store a p x)) v h = stored_kept s (setting.spot a) v (cell_of setting s a p) (held s x)
kept setting s (Plain (More w)) v h = with_value_kept s w v _ h
kept setting s (Plain (Input w)) v h = input_kept s w v s.input h
kept setting s (Plain (Text n)) v h = refl
kept setting s (Plain (Decimal x)) v h = printed_kept s v s.out (held s x)
kept setting s (Plain (Across w u)) v h = with_value_kept s w v _ h
kept setting s (Plain (Base w a x)) v h = with_value_kept s w v _ h
kept setting s (Plain (PlaceIn w a u i)) v h = with_value_kept s w v _ h
kept setting s (Split test leaves_when edge live) v h = refl

-- the value that an operation writes
abbrev pub written : TraceOp → ℕ
written (Plain (Compute code w a b)) = w
written (Plain (Select w p a b)) = w
written (Plain (Place w a i)) = w
written (Plain (Load w a p d)) = w
written (Plain (Store a p x)) = 0
written (Plain (More w)) = w
written (Plain (Input w)) = w
written (Plain (Text n)) = 0
written (Plain (Decimal x)) = 0
written (Plain (Across w u)) = w
written (Plain (Base w a x)) = w
written (Plain (PlaceIn w a u i)) = w
written (Split test leaves_when edge live) = 0

abbrev pub written_there : Option TraceOp → ℕ
written_there None = 0
written_there (Some op) = written op

one_written : (v w : ℕ) → (nat_eq v w || false) ≡ true → w ≡ v
one_written v w h = grind (arith, nat_tests)

written_is : (v : ℕ) (op : TraceOp) → writes_it v op ≡ true → written op ≡ v
written_is v (Plain (Compute code w a b)) h = one_written v w h
written_is v (Plain (Select w p a b)) h = one_written v w h
written_is v (Plain (Place w a i)) h = one_written v w h
written_is v (Plain (Load w a p d)) h = one_written v w h
written_is v (Plain (Store a p x)) h = absurd (false≢true h)
written_is v (Plain (More w)) h = one_written v w h
written_is v (Plain (Input w)) h = one_written v w h
written_is v (Plain (Text n)) h = absurd (false≢true h)
written_is v (Plain (Decimal x)) h = absurd (false≢true h)
written_is v (Plain (Across w u)) h = one_written v w h
written_is v (Plain (Base w a x)) h = one_written v w h
written_is v (Plain (PlaceIn w a u i)) h = one_written v w h
written_is v (Split test leaves_when edge live) h = absurd (false≢true h)

pub written_there_is : (v : ℕ) (op : Option TraceOp) → writes_there v op ≡ true → written_there op ≡ v
written_there_is v None h = absurd (false≢true h)
written_there_is v (Some op) h = written_is v op h

pub writer_writes : (ops : List TraceOp) (i v j : ℕ) → writer ops i v ≡ Some j → writes_there v (slice_get ops j) ≡ true
writer_writes ops zero v j e = let h : ⊥ = cc in absurd h
writer_writes ops (suc i) v j e = by (writes_there v (slice_get ops i)) refl (writer_writes ops i v j)
  where
    by : (b : Bool) → writes_there v (slice_get ops i) ≡ b → (writer ops i v ≡ Some j → writes_there v (slice_get ops j) ≡ true) → writes_there v (slice_get ops j) ≡ true
    by true f more = let h : Some i ≡ Some j = ap (λ x. if x then Some i else writer ops i v) (sym f) ∙ e in let k : i ≡ j = cc in ap (λ n. writes_there v (slice_get ops n)) (sym k) ∙ f
    by false f more = more (ap (λ x. if x then Some i else writer ops i v) (sym f) ∙ e)

-- ---- states before the operations

abbrev pub after : Setting → State → Option TraceOp → State
after setting s None = s
after setting s (Some op) = in_order setting s op

none_left : (setting : Setting) (s : State) (k : ℕ) → state_before setting [] s k ≡ s
none_left setting s zero = refl
none_left setting s (suc k) = refl

next_state : (setting : Setting) (ops : List TraceOp) (s : State) (k : ℕ) → state_before setting ops s (suc k) ≡ after setting (state_before setting ops s k) (slice_get ops k)
next_state setting [] s k = sym (none_left setting s k) ∙ none_there setting s k
  where
    none_there : (setting : Setting) (s : State) (k : ℕ) → state_before setting [] s k ≡ after setting (state_before setting [] s k) (slice_get [] k)
    none_there setting s zero = refl
    none_there setting s (suc k) = refl
next_state setting (op ∷ ops) s zero = refl
next_state setting (op ∷ ops) s (suc k) = next_state setting ops (in_order setting s op) k

none_in : {A : Type 0} (xs : List A) (k : ℕ) → xs ≡ [] → slice_get xs k ≡ None
none_in [] k h = refl
none_in (x ∷ xs) k h = absurd (cc)

pub get_drop : {A : Type 0} (q : ℕ) (xs : List A) (k : ℕ) → slice_get (drop q xs) k ≡ slice_get xs (q + k)
get_drop zero xs k = let e : k ≡ 0 + k = omega arith in ap (slice_get xs) e
get_drop (suc q) [] k = none_in [] k refl ∙ sym (none_in [] (suc q + k) refl)
get_drop (suc q) (x ∷ xs) k = let e : suc (q + k) ≡ suc q + k = omega arith in get_drop q xs k ∙ ap (slice_get (x ∷ xs)) e

-- the state before place p of the whole trace, where it is entered at place q
abbrev pub state_at : Setting → Trace → ℕ → State → ℕ → State
state_at setting t q s p = state_before setting (drop q t.ops) s (p - q)

module _ (setting : Setting) (t : Trace) (q : ℕ) (s : State) where
  pub state_at_entrance : (p : ℕ) → p ≤ q → state_at setting t q s p ≡ s
  state_at_entrance p h = let e : p - q ≡ 0 = omega (arith, h) in ap (state_before setting (drop q t.ops) s) e

  pub state_at_next : (i : ℕ) → q ≤ i → state_at setting t q s (suc i) ≡ after setting (state_at setting t q s i) (slice_get t.ops i)
  state_at_next i h =
      let next : suc i - q ≡ suc (i - q) = omega (arith, h) in
      let whole : q + (i - q) ≡ i = omega (arith, h) in
      ap (state_before setting (drop q t.ops) s) next ∙ next_state setting (drop q t.ops) s (i - q)
      ∙ ap (after setting (state_at setting t q s i)) (get_drop q t.ops (i - q) ∙ ap (slice_get t.ops) whole)
