-- Low bits: what is known of those of operands holds of those of what an operation gives.
use Rattle.std.proofs.Common.{◌≡◌, ℕ, Bool, true, false, cond, ◌≤ℤ◌, ℤ, pos, negsuc, int_le, List, Some, None, refl, sym, ap, ◌∙◌, subst, arith}
use Rattle.std.proofs.lemmas.Int.{ints}
use Rattle.std.proofs.Math.IntN.{*ℤ_comm}
use Rattle.vx_base.specs.Arithmetic.{wrap, product_of, shl_of, mpylu_of, value_of}
use Rattle.vx_base.specs.declared.arithmetic.Code.{Code}
use Rattle.vx_base.specs.declared.arithmetic.Code.TheVariants.{Add, Sub, Shl, Mov, Mpylu, Or, Xor, And, Shr, Shru, Sh2add, Max, Min, ToGeneral, ToBranch, Mpyhs, Div, Rem}
use Rattle.vx_flow.specs.declared.graph.Operand.{Operand}
use Rattle.vx_flow.specs.Effects.{Content, both, computed, is_unary}
use Rattle.vx_claims.specs.declared.intervals.Interval.{Interval}
use Rattle.vx_claims.specs.declared.residues.Residue.{Residue}
use Rattle.vx_claims.specs.declared.fact.Fact.{Fact}
use Rattle.vx_claims.specs.Residues.{Agrees, unknown, times_residue}
use Rattle.vx_claims.specs.Facts.{Within, content, AllHold, is_half, is_single, range_of, residue_of, shifted_residue, low_product_residue, result_residue, computed_residue}
use Rattle.vx_narrow.proofs.Congruences.{unknown_holds, sum_agrees, difference_agrees, times_agrees}
use Rattle.vx_narrow.proofs.Ranges.{and_one, and_two, le_holds, Fit, range_of_holds, residue_of_holds, small_product, shifted_whole}

single_is : (i : Interval) (x : ℤ) → is_single i ≡ true → Within i (Some x) → x ≡ i.low
single_is i x e w = let l : i.high ≤ℤ i.low = le_holds i.high i.low e in let w0 : i.low ≤ℤ x = w.0 in let w1 : x ≤ℤ i.high = w.1 in omega (arith, ints)

shifted_agrees : (j : Interval) (c : Residue) (x y : ℤ) → Within j (Some y) → Agrees c (Some x) → Agrees (shifted_residue j c) (Some (shl_of x y))
shifted_agrees j c x y w h = by (is_single j) refl
  where
    by : (t : Bool) → int_le j.high j.low ≡ t → Agrees (cond t (times_residue c (shl_of (pos 1) j.low)) unknown) (Some (shl_of x y))
    by true e =
        let n : ℤ = shl_of (pos 1) j.low in
        subst (λ z. Agrees (times_residue c n) (Some z)) (sym (shifted_whole x j.low n refl) ∙ ap (shl_of x) (sym (single_is j y e w))) (times_agrees c x n h)
    by false e = unknown_holds (Some (shl_of x y))

turned_product : (x y : ℤ) → product_of x y ≡ product_of y x
unfolding product_of
turned_product x y = ap wrap (*ℤ_comm x y)

whole_product : (j : Interval) (x y : ℤ) → is_half j ≡ true → Within j (Some y) → mpylu_of x y ≡ product_of x y
unfolding product_of mpylu_of
whole_product j x (pos n) e w =
    let l : j.high ≤ℤ pos 65535 = le_holds j.high (pos 65535) (and_two (int_le (pos 0) j.low) (int_le j.high (pos 65535)) e) in
    let w1 : pos n ≤ℤ j.high = w.1 in
    small_product x n (omega (arith, ints))
whole_product j x (negsuc n) e w =
    let l : pos 0 ≤ℤ j.low = le_holds (pos 0) j.low (and_one (int_le (pos 0) j.low) (int_le j.high (pos 65535)) e) in
    let w0 : j.low ≤ℤ negsuc n = w.0 in
    absurd (omega (arith, ints))

product_agrees : (i j : Interval) (c d : Residue) (x y : ℤ) → Within i (Some x) → Within j (Some y) → Agrees c (Some x) → Agrees d (Some y) → Agrees (low_product_residue i j c d) (Some (mpylu_of x y))
product_agrees i j c d x y u w h k = by (is_half j) refl
  where
    product : ℤ
    product = mpylu_of x y

    second : (t : Bool) → int_le i.high i.low ≡ t → is_half j ≡ true → Agrees (cond t (times_residue d i.low) unknown) (Some product)
    second true e f =
        let is : product ≡ product_of y i.low = whole_product j x y f w ∙ turned_product x y ∙ ap (product_of y) (single_is i x e u) in
        subst (λ z. Agrees (times_residue d i.low) (Some z)) (sym is) (times_agrees d y i.low k)
    second false e f = unknown_holds (Some product)

    first : (t : Bool) → int_le j.high j.low ≡ t → is_half j ≡ true → Agrees (cond t (times_residue c j.low) (cond (int_le i.high i.low) (times_residue d i.low) unknown)) (Some product)
    first true e f =
        let is : product ≡ product_of x j.low = whole_product j x y f w ∙ ap (product_of x) (single_is j y e w) in
        subst (λ z. Agrees (times_residue c j.low) (Some z)) (sym is) (times_agrees c x j.low h)
    first false e f = second (int_le i.high i.low) refl f

    by : (t : Bool) → is_half j ≡ t → Agrees (cond t (cond (int_le j.high j.low) (times_residue c j.low) (cond (int_le i.high i.low) (times_residue d i.low) unknown)) unknown) (Some product)
    by true e = first (int_le j.high j.low) refl e
    by false e = unknown_holds (Some product)

result_agrees : (code : Code) (i j : Interval) (c d : Residue) (x y : ℤ) → Within i (Some x) → Within j (Some y) → Agrees c (Some x) → Agrees d (Some y) → Agrees (result_residue code i j c d) (Some (value_of code x y))
result_agrees Add i j c d x y u w h k = sum_agrees c d x y h k
result_agrees Sub i j c d x y u w h k = difference_agrees c d x y h k
result_agrees Shl i j c d x y u w h k = shifted_agrees j c x y w h
result_agrees Mpylu i j c d x y u w h k = product_agrees i j c d x y u w h k
result_agrees Mov i j c d x y u w h k = h
result_agrees code i j c d x y u w h k = unknown_holds (Some (value_of code x y))

both_agree : (c : Residue) (f : ℤ → ℤ → ℤ) (a b : Content) → ((x y : ℤ) → a ≡ Some x → b ≡ Some y → Agrees c (Some (f x y))) → Agrees c (both f a b)
both_agree c f None b h = tt
both_agree c f (Some x) None h = tt
both_agree c f (Some x) (Some y) h = h x y refl refl

computed_agrees : (code : Code) (i j : Interval) (c d : Residue) (a b : Content) → Within i a → Within j b → Agrees c a → Agrees d b → Agrees (result_residue code i j c d) (computed code a b)
computed_agrees code i j c d a b u w h k = by code (is_unary code) refl
  where
    by : (op : Code) (t : Bool) → is_unary op ≡ t → Agrees (result_residue op i j c d) (computed op a b)
    by Mov t q = h
    by op false q =
        subst (λ t. Agrees (result_residue op i j c d) (cond t a (both (value_of op) a b))) (sym q) (both_agree (result_residue op i j c d) (value_of op) a b (λ x y e f.
        result_agrees op i j c d x y (subst (Within i) e u) (subst (Within j) f w) (subst (Agrees c) e h) (subst (Agrees d) f k)))
    by op true q = absurd (cc)

pub computed_residue_holds : (values : ℕ → Content) (fs : List Fact) (code : Code) (a b : Operand) → Fit values → AllHold values fs → Agrees (computed_residue fs code a b) (computed code (content values a) (content values b))
computed_residue_holds values fs code a b fit h =
    computed_agrees code (range_of fs a) (range_of fs b) (residue_of fs a) (residue_of fs b) (content values a) (content values b)
    (range_of_holds values fs a fit h) (range_of_holds values fs b fit h) (residue_of_holds values fs a fit h) (residue_of_holds values fs b fit h)
