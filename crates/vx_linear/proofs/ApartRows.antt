-- Worked runs of small traces in order, and what the never law says of them.
use Rattle.std.proofs.Common.{◌≡◌, inl, inr, ℕ, ◌^◌, refl, arith, true, false, Some, None, List, [], ◌∷◌, drop, slice_get, ℤ, pos, ◌+ℤ◌, ◌*ℤ◌}
use Rattle.std.proofs.lemmas.Int.{ints}
use Rattle.std.specs.Int.{int_wrap}
use Rattle.vx_base.specs.Arithmetic.{sum_of, product_of, shl_of}
use Rattle.vx_base.specs.declared.arithmetic.Code.TheVariants.{Add, Shl}
use Rattle.vx_flow.specs.declared.graph.Array.{Array}
use Rattle.vx_flow.specs.declared.graph.Operand.TheVariants.{Held, Number}
use Rattle.vx_flow.specs.declared.graph.Op.TheVariants.{Compute, Place, Load, Store}
use Rattle.vx_flow.specs.declared.trace.TraceOp.{TraceOp}
use Rattle.vx_flow.specs.declared.trace.TraceOp.TheVariants.{Plain}
use Rattle.vx_flow.specs.declared.trace.Join.{Join}
use Rattle.vx_flow.specs.declared.trace.Trace.{Trace}
use Rattle.vx_flow.specs.Effects.{Content, State, Setting, Cell}
use Rattle.vx_flow.specs.Apart.{StandApart}
use Rattle.vx_linear.specs.declared.form.Symbol.{Symbol}
use Rattle.vx_linear.specs.declared.form.Symbol.TheVariants.{Entry, Made}
use Rattle.vx_linear.specs.declared.form.Term.{Term}
use Rattle.vx_linear.specs.declared.form.Form.{Form}
use Rattle.vx_linear.specs.Forms.{NeverSame}
use Rattle.vx_linear.specs.Followed.{forms_of}
use Rattle.vx_linear.specs.InOrder.{state_before, Touches, Apart}
use Rattle.vx_linear.proofs.Apart.{never_law}

abbrev array : Array
array = record { words = 16; global = true; named = 0; base = None }

abbrev trace : List TraceOp → List Join → Trace
trace ops joins = record { function = 0; blocks = 0 ∷ []; ops = ops; fixed = []; joins = joins; values = 10; arrays = array ∷ [] }

abbrev form : ℤ → List Term → Form
form constant terms = record { array = array; constant = constant; terms = terms }

abbrev term : Symbol → ℤ → List Term
term symbol factor = record { symbol = symbol; factor = factor } ∷ []

abbrev setting : Setting
setting = record { spot = λ a. a; texts = [] }

abbrev eight : List Content
eight = None ∷ None ∷ None ∷ None ∷ None ∷ None ∷ None ∷ None ∷ []

-- an array of 8 words, and these values
abbrev state : (ℕ → Content) → State
state values = record { values = values; arrays = eight ∷ []; input = []; out = [] }

-- ---- a[i] and a[i + 1], i is v1: v2 = v1 + 1, v3 and v4 the places, the word of one is loaded and the other stored

abbrev next : List TraceOp
next =
    Plain (Compute Add 2 (Held 1) (Number (pos 1))) ∷ Plain (Place 3 0 (Held 1)) ∷ Plain (Place 4 0 (Held 2)) ∷ Plain (Load 5 0 (Held 3) false) ∷
    Plain (Store 0 (Held 4) (Number (pos 7))) ∷ []

next_forms : forms_of (trace next []) ≡ None ∷ None ∷ None ∷ Some (form (pos 0) (term (Entry 1) (pos 1))) ∷ Some (form (pos 1) (term (Entry 1) (pos 1))) ∷ []
unfolding sum_of int_wrap forms_of
next_forms = refl

-- where i is 5 they touch the words 5 and 6
next_loads : Touches setting (state_before setting next (state (λ v. Some (pos 5))) 3) (slice_get next 3) (Cell 0 5)
unfolding sum_of product_of int_wrap
next_loads = inl refl

next_stores : Touches setting (state_before setting next (state (λ v. Some (pos 5))) 4) (slice_get next 4) (Cell 0 6)
unfolding sum_of product_of int_wrap
next_stores = inr refl

i_and_next : NeverSame (form (pos 0) (term (Entry 1) (pos 1))) (form (pos 1) (term (Entry 1) (pos 1)))
i_and_next = inr (λ s m. apart (s (Entry 1)) m.multiple m.equal)
  where
    apart : (x m : ℤ) → pos 0 +ℤ (pos 1 *ℤ x +ℤ pos 0) ≡ (pos 1 +ℤ (pos 1 *ℤ x +ℤ pos 0)) +ℤ m *ℤ pos (2 ^ 30) → ⊥
    apart x m e = omega (arith, ints, e)

-- and in every run two words
next_apart : (anywhere : Setting) (s : State) → StandApart (array ∷ []) anywhere.spot → Apart anywhere next s 3 4
unfolding sum_of int_wrap forms_of
next_apart anywhere s apart = never_law (trace next []) anywhere 0 s 3 4 _ _ apart (inl refl) refl refl i_and_next

-- ---- a[2 * i] and a[2 * j + 1], i and j are v1 and v2

abbrev evens : List TraceOp
evens =
    Plain (Compute Shl 3 (Held 1) (Number (pos 1))) ∷ Plain (Compute Shl 4 (Held 2) (Number (pos 1))) ∷ Plain (Compute Add 4 (Held 4) (Number (pos 1))) ∷
    Plain (Place 5 0 (Held 3)) ∷ Plain (Place 6 0 (Held 4)) ∷ Plain (Store 0 (Held 5) (Number (pos 7))) ∷ Plain (Load 7 0 (Held 6) false) ∷ []

even_and_odd : NeverSame (form (pos 0) (term (Entry 1) (pos 2))) (form (pos 1) (term (Entry 2) (pos 2)))
even_and_odd = inr (λ s m. apart (s (Entry 1)) (s (Entry 2)) m.multiple m.equal)
  where
    apart : (x y m : ℤ) → pos 0 +ℤ (pos 2 *ℤ x +ℤ pos 0) ≡ (pos 1 +ℤ (pos 2 *ℤ y +ℤ pos 0)) +ℤ m *ℤ pos (2 ^ 30) → ⊥
    apart x y m e = omega (arith, ints, e)

evens_apart : (anywhere : Setting) (s : State) → StandApart (array ∷ []) anywhere.spot → Apart anywhere evens s 5 6
unfolding sum_of product_of shl_of int_wrap forms_of
evens_apart anywhere s apart = never_law (trace evens []) anywhere 0 s 5 6 _ _ apart (inl refl) refl refl even_and_odd

-- ---- a[2 * i] and a[i] are the word 0 where i is 0

abbrev doubles : List TraceOp
doubles =
    Plain (Compute Shl 2 (Held 1) (Number (pos 1))) ∷ Plain (Place 3 0 (Held 2)) ∷ Plain (Place 4 0 (Held 1)) ∷ Plain (Store 0 (Held 3) (Number (pos 7))) ∷
    Plain (Load 5 0 (Held 4) false) ∷ []

doubles_meet : ((s : State) → Apart setting doubles s 3 4) → ⊥
unfolding sum_of product_of shl_of int_wrap
doubles_meet h = h (state (λ v. Some (pos 0))) 0 0 (inr refl) (inl refl)

-- ---- a[i] and a[j], j = i + 1 above a join: whoever enters by the join may have set both to one number

abbrev join : Join
join = record { place = 1; block = 1; edges = [] }

joined_forms : forms_of (trace next (join ∷ [])) ≡ None ∷ None ∷ None ∷ Some (form (pos 0) (term (Entry 1) (pos 1))) ∷ Some (form (pos 0) (term (Made 0) (pos 1))) ∷ []
unfolding forms_of
joined_forms = refl

joined_meet : ((s : State) → Apart setting (drop 1 next) s 2 3) → ⊥
unfolding product_of int_wrap
joined_meet h = h (state (λ v. Some (pos 5))) 0 5 (inl refl) (inr refl)
