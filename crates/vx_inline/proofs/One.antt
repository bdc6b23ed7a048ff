-- One flow comes of inlining the call of a site.
use Rattle.std.proofs.Common.{◌≡◌, inl, inr, ℕ, ◌<◌, List, [], ◌∷◌, slice_get, Some, refl, sym, ap, ◌∙◌, subst, arith}
use Rattle.vx_flow.specs.declared.graph.Bank.{Bank}
use Rattle.vx_flow.specs.declared.graph.Exit.TheVariants.{Call}
use Rattle.vx_flow.specs.declared.graph.Block.{Block}
use Rattle.vx_flow.specs.declared.graph.Graph.{Graph}
use Rattle.vx_flow.specs.declared.graph.Flow.{Flow}
use Rattle.vx_flow.specs.Effects.{IsIn}
use Rattle.vx_inline.specs.declared.site.Site.{Site}
use Rattle.vx_inline.specs.Inlined.{TheCall, CallAt, Ascends, AreFree, inlined}
use Rattle.vx_inline.specs.Laws.{InlinedIsOne}

-- ascending lists of the same numbers are one
ascend_same : (xs ys : List ℕ) → Ascends xs → Ascends ys → ((v : ℕ) → IsIn v xs → IsIn v ys) → ((v : ℕ) → IsIn v ys → IsIn v xs) → xs ≡ ys
ascend_same [] [] a b f g = refl
ascend_same [] (y ∷ ys) a b f g = absurd (g y (inl refl))
ascend_same (x ∷ xs) [] a b f g = absurd (f x (inl refl))
ascend_same (x ∷ xs) (y ∷ ys) a b f g =
    let e : x ≡ y = first (f x (inl refl)) (g y (inl refl)) in
    let there : (v : ℕ) → IsIn v xs → IsIn v ys = λ v m. forth e v m (f v (inr m)) in
    let back : (v : ℕ) → IsIn v ys → IsIn v xs = λ v m. back_by e v m (g v (inr m)) in
    ap (λ z. z ∷ xs) e ∙ ap (λ zs. y ∷ zs) (ascend_same xs ys a.1 b.1 there back)
  where
    first : IsIn x (y ∷ ys) → IsIn y (x ∷ xs) → x ≡ y
    first (inl e) m = e
    first (inr k) (inl e) = sym e
    first (inr k) (inr m) = let p : y < x = b.0 x k in let q : x < y = a.0 y m in absurd (omega (arith, p, q))

    forth : x ≡ y → (v : ℕ) → IsIn v xs → IsIn v (y ∷ ys) → IsIn v ys
    forth e v m (inl q) = let p : x < v = a.0 v m in absurd (omega (arith, e, p, q))
    forth e v m (inr k) = k

    back_by : x ≡ y → (v : ℕ) → IsIn v ys → IsIn v (x ∷ xs) → IsIn v xs
    back_by e v m (inl q) = let p : y < v = b.0 v m in absurd (omega (arith, e, p, q))
    back_by e v m (inr k) = k

pub frees_same : (c : TheCall) (bank : Bank) (xs ys : List ℕ) → AreFree c bank xs → AreFree c bank ys → xs ≡ ys
frees_same c bank xs ys a b = ascend_same xs ys a.ascends b.ascends (λ v m. (b.exact v).1 ((a.exact v).0 m)) (λ v m. (a.exact v).1 ((b.exact v).0 m))

pub parts_same : (flow : Flow) (site : Site) (c d : CallAt flow site) → c.parts ≡ d.parts
parts_same flow site c d =
    let caller_e : Some c.parts.caller ≡ Some d.parts.caller = sym c.is_caller ∙ d.is_caller in
    let caller_is : c.parts.caller ≡ d.parts.caller = cc in
    let block_e : Some c.parts.block ≡ Some d.parts.block = sym c.is_block ∙ ap (λ (g : Graph). slice_get g.blocks site.block) caller_is ∙ d.is_block in
    let block_is : c.parts.block ≡ d.parts.block = cc in
    let call_is : Call c.parts.called c.parts.arguments c.parts.result c.parts.next ≡ Call d.parts.called d.parts.arguments d.parts.result d.parts.next = sym c.ends ∙ ap (λ (b : Block). b.exit) block_is ∙ d.ends in
    let called_is : c.parts.called ≡ d.parts.called = cc in
    let arguments_are : c.parts.arguments ≡ d.parts.arguments = cc in
    let result_is : c.parts.result ≡ d.parts.result = cc in
    let next_is : c.parts.next ≡ d.parts.next = cc in
    let callee_e : Some c.parts.callee ≡ Some d.parts.callee = sym c.is_callee ∙ ap (slice_get flow.functions) called_is ∙ d.is_callee in
    let callee_is : c.parts.callee ≡ d.parts.callee = cc in
    λ i. record { caller = caller_is i; block = block_is i; called = called_is i; arguments = arguments_are i; result = result_is i; next = next_is i; callee = callee_is i }

pub inlined_is_one : InlinedIsOne
inlined_is_one flow one other site a b =
    let parts : a.call.parts ≡ b.call.parts = parts_same flow site a.call b.call in
    let bank_same : (bank : Bank) → a.free bank ≡ b.free bank =
    λ bank. frees_same b.call.parts bank (a.free bank) (b.free bank) (subst (λ c. AreFree c bank (a.free bank)) parts (a.permitted.are_free bank)) (b.permitted.are_free bank) in
    let free : a.free ≡ b.free = λ i. λ bank. bank_same bank i in
    let whole : inlined flow site a.call.parts a.free ≡ inlined flow site b.call.parts b.free = λ i. inlined flow site (parts i) (free i) in
    b.is ∙ sym whole ∙ sym a.is
