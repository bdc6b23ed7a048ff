-- Worked rows of arrays that were handed over: which indices of them never name one word.
use Rattle.std.proofs.Common.{◌≡◌, inl, inr, ℕ, ◌+◌, ◌^◌, refl, arith, true, false, Some, None, [], ◌∷◌, ℤ, pos, ◌+ℤ◌, ◌*ℤ◌}
use Rattle.std.proofs.lemmas.Bool.{false≢true}
use Rattle.std.proofs.lemmas.Int.{ints}
use Rattle.vx_flow.specs.declared.graph.Array.{Array}
use Rattle.vx_linear.specs.declared.form.Symbol.{Symbol}
use Rattle.vx_linear.specs.declared.form.Symbol.TheVariants.{Entry}
use Rattle.vx_linear.specs.declared.form.Form.{Form}
use Rattle.vx_linear.specs.Forms.{value_at, Meet, NeverSame, AlwaysSame}

abbrev given : ℕ → Array
given named = record { words = 0; global = false; named = named; base = Some (named + 10) }

abbrev own : Array
own = record { words = 16; global = false; named = 3; base = None }

abbrev whole : Array
whole = record { words = 16; global = true; named = 0; base = None }

-- the index i, and what is added to it
abbrev i_and : Array → ℤ → Form
i_and array constant = record { array = array; constant = constant; terms = record { symbol = Entry 1; factor = pos 1 } ∷ [] }

abbrev zeros : Symbol → ℤ
zeros x = pos 0

meet_there : (x y : Array) → Meet zeros (i_and x (pos 0)) (i_and y (pos 0))
meet_there x y = record { multiple = pos 0; equal = nothing_more (value_at zeros (i_and x (pos 0))) }
  where
    nothing_more : (z : ℤ) → z ≡ z +ℤ pos 0 *ℤ pos (2 ^ 30)
    nothing_more z = omega (arith, ints)

-- i and i of two of them: they may be one array, and they may be two
given_may_be_one : NeverSame (i_and (given 1) (pos 0)) (i_and (given 2) (pos 0)) → ⊥
given_may_be_one (inl two) = false≢true two
given_may_be_one (inr never) = never zeros (meet_there (given 1) (given 2))

given_may_be_two : AlwaysSame (i_and (given 1) (pos 0)) (i_and (given 2) (pos 0)) → ⊥
given_may_be_two always = let e = always.array in absurd (omega arith)

-- i and i + 1 of two of them: even of one array they are two words
given_next : NeverSame (i_and (given 1) (pos 0)) (i_and (given 2) (pos 1))
given_next = inr (λ s m. apart (s (Entry 1)) m.multiple m.equal)
  where
    apart : (x m : ℤ) → pos 0 +ℤ (pos 1 *ℤ x +ℤ pos 0) ≡ (pos 1 +ℤ (pos 1 *ℤ x +ℤ pos 0)) +ℤ m *ℤ pos (2 ^ 30) → ⊥
    apart x m e = omega (arith, ints, e)

-- i and i of one of them and an own array: no caller sees that
given_and_own : NeverSame (i_and (given 1) (pos 0)) (i_and own (pos 0))
given_and_own = inl refl

-- i and i of one of them and a global, which may have been handed over
given_may_be_global : NeverSame (i_and (given 1) (pos 0)) (i_and whole (pos 0)) → ⊥
given_may_be_global (inl two) = false≢true two
given_may_be_global (inr never) = never zeros (meet_there (given 1) whole)

given_may_be_no_global : AlwaysSame (i_and (given 1) (pos 0)) (i_and whole (pos 0)) → ⊥
given_may_be_no_global always = let e = always.array in absurd (omega arith)
