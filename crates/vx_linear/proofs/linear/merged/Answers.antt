use Rattle.std.proofs.Common.{rules, ◌≡◌, sym, ◌∙◌, ◌∷◌, ◌++◌, List, length, ap, arith, subst}
use Rattle.vx_linear.specs.declared.form.Term.{Term}
use Rattle.vx_linear.specs.Linear.{unless_zero, with_terms}
use Rattle.vx_linear.proofs.Merging.{empty_of}
use Rattle.vx_linear.proofs.Merged.{joined, passes, joins, puts, puts_last}
use Rattle.vx_linear.proofs.linear.merged.Goals as goal

pub merge-preserved-in-Some-None : goal.merge-preserved-in-Some-None
merge-preserved-in-Some-None c =
    let e : c.merge.rest.now ≡ c.in-Some-None.term.now ∷ c.in-Some-None.behind.now = c.in-Some-None.ensures.cases.0 in
    let y : length c.merge.left.now ≡ 0 = c.in-Some-None.ensures'.cases in
    puts_last c.args.terms.now c.args.onto.now c.merge.list _ _ c.merge.left.now _ c.in-Some-None.term.now c.in_ok-push_unless_zero-in-Some-None.ensures c.merge.invariant e (empty_of c.merge.left.now y)

pub merge-preserved-then-is_before : goal.merge-preserved-then-is_before
merge-preserved-then-is_before c =
    let e : c.merge.rest.now ≡ c.in-Some-Some.term.now ∷ c.in-Some-Some.behind.now = c.in-Some-Some.ensures.cases.0 in
    let k : c.merge.left.now ≡ c.in-Some-Some.other.now ∷ c.in-Some-Some.others.now = c.in-Some-Some.ensures'.cases.0 in
    let p = passes c.args.terms.now c.args.onto.now c.merge.list _ _ _ _ _ _ c.merge.invariant e k (sym c.is_before.ensures ∙ c.if-is_before.true) in
    search rules

pub merge-preserved-then-is_same : goal.merge-preserved-then-is_same
merge-preserved-then-is_same c =
    let e : c.merge.rest.now ≡ c.in-Some-Some.term.now ∷ c.in-Some-Some.behind.now = c.in-Some-Some.ensures.cases.0 in
    let k : c.merge.left.now ≡ c.in-Some-Some.other.now ∷ c.in-Some-Some.others.now = c.in-Some-Some.ensures'.cases.0 in
    let p : (xs : List Term) → c.push_unless_zero-then-is_same.new.list ++ xs ≡ c.merge.list ++ unless_zero (joined c.in-Some-Some.term.now c.in-Some-Some.other.now) xs = subst (λ (x : Term). (xs : List Term) → c.push_unless_zero-then-is_same.new.list ++ xs ≡ c.merge.list ++ unless_zero x xs) c.added.ensures c.in_ok-push_unless_zero-in-Some-Some.ensures in
    joins c.args.terms.now c.args.onto.now c.merge.list _ _ _ _ _ c.in-Some-Some.term.now c.in-Some-Some.other.now p c.merge.invariant e k (sym c.is_same.ensures ∙ c.if-is_same.true)

pub merge-preserved : goal.merge-preserved
merge-preserved c =
    let e : c.merge.rest.now ≡ c.in-Some-Some.term.now ∷ c.in-Some-Some.behind.now = c.in-Some-Some.ensures.cases.0 in
    let k : c.merge.left.now ≡ c.in-Some-Some.other.now ∷ c.in-Some-Some.others.now = c.in-Some-Some.ensures'.cases.0 in
    puts c.args.terms.now c.args.onto.now c.merge.list _ _ _ _ _ c.in-Some-Some.term.now c.in-Some-Some.other.now c.in_ok-push_unless_zero-in-Some-Some-2.ensures c.merge.invariant e k (sym c.is_before.ensures ∙ c.if-is_before.false) (sym c.is_same.ensures ∙ c.if-is_same.false)

pub merge-smaller-then-is_same : goal.merge-smaller-then-is_same
merge-smaller-then-is_same c =
    let a = c.in-Some-Some.ensures.cases.1 in
    let b = c.in-Some-Some.ensures'.cases.1 in
    omega (arith, a, b)

pub merge-smaller : goal.merge-smaller
merge-smaller c =
    let a = c.in-Some-Some.ensures.cases.1 in
    omega (arith, a)

pub returns-in-None-default : goal.returns-in-None-default
returns-in-None-default c =
    let none = empty_of c.merge.rest.now c.in-None-default.ensures.cases in
    c.in_ok-push_all-in-None-default.ensures ∙ ap (λ ts. c.merge.list ++ with_terms ts c.merge.left.now) (sym none) ∙ c.merge.invariant.0
