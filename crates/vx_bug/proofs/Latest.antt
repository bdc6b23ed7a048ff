-- The operands of an operation one after the other: the latest of them, and the homes that they get.
use Rattle.std.proofs.Common.{◌≡◌, sym, ◌∙◌, ap, arith, max, ℕ, Option, List, [], ◌∷◌, ◌++◌, map}
use Rattle.std.proofs.lemmas.List.{map-append}
use Rattle.vx_flow.specs.declared.trace.TraceOp.{TraceOp}
use Rattle.vx_flow.specs.declared.operands.Reads.{Reads}
use Rattle.vx_flow.specs.Operands.{values_read}
use Rattle.vx_dep.specs.Delays.{reads_of}
use Rattle.vx_dep.specs.Compensation.{greatest}
use Rattle.vx_bug.specs.Clusters.{some_of, general_reads, general_writes, with_homes}
use Rattle.vx_bug.proofs.Giving.{homes_append}

greatest_append : (xs ys : List ℕ) → greatest (xs ++ ys) ≡ max (greatest xs) (greatest ys)
greatest_append [] ys = let h : greatest ys ≡ max 0 (greatest ys) = omega arith in h
greatest_append (x ∷ xs) ys = let h : max x (max (greatest xs) (greatest ys)) ≡ max (max x (greatest xs)) (greatest ys) = omega arith in ap (max x) (greatest_append xs ys) ∙ h

greatest_map : (f : ℕ → ℕ) (xs ys : List ℕ) → greatest (map f (xs ++ ys)) ≡ max (greatest (map f xs)) (greatest (map f ys))
greatest_map f xs ys = ap greatest (map-append f xs ys) ∙ greatest_append (map f xs) (map f ys)

pub of_three : (f : ℕ → ℕ) (op : TraceOp) (r : Reads) (first second third : ℕ) → reads_of op ≡ values_read r → first ≡ greatest (map f (some_of r.first)) → second ≡ greatest (map f (some_of r.second)) → third ≡ greatest (map f (some_of r.third)) →
    max (max first second) third ≡ greatest (map f (reads_of op))
of_three f op r first second third a p q s =
    let h : max (max first second) third ≡ max first (max second third) = omega arith in
    h ∙ ap (λ x. max x (max second third)) p
    ∙ ap (λ x. max (greatest (map f (some_of r.first))) (max x third)) q
    ∙ ap (λ x. max (greatest (map f (some_of r.first))) (max (greatest (map f (some_of r.second))) x)) s
    ∙ ap (max (greatest (map f (some_of r.first)))) (sym (greatest_map f (some_of r.second) (some_of r.third)))
    ∙ sym (greatest_map f (some_of r.first) (some_of r.second ++ some_of r.third))
    ∙ ap (λ vs. greatest (map f vs)) (sym a)

pub three_homes : (c : ℕ) (op : TraceOp) (left right result : Option ℕ) (before one two three : ℕ → Option ℕ) → general_reads op ≡ some_of left ++ some_of right → some_of result ≡ general_writes op →
    one ≡ with_homes c before (some_of left) → two ≡ with_homes c one (some_of right) → three ≡ with_homes c two (some_of result) →
    three ≡ with_homes c before (general_reads op ++ general_writes op)
three_homes c op left right result before one two three a w p q s =
    s ∙ ap (λ h. with_homes c h (some_of result)) (q ∙ ap (λ h. with_homes c h (some_of right)) p ∙ sym (homes_append c before (some_of left) (some_of right)))
    ∙ sym (homes_append c before (some_of left ++ some_of right) (some_of result))
    ∙ ap (λ vs. with_homes c before (vs ++ some_of result)) (sym a)
    ∙ ap (λ vs. with_homes c before (general_reads op ++ vs)) w
