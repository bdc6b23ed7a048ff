use Rattle.std.proofs.Common.{◌≡◌, sym, ◌∙◌, ◌∷◌, length, arith}
use Rattle.vx_linear.proofs.Merging.{first_step, at_left, at_right, at_both, at_end, before_none, before_one, before_back, empty_of}
use Rattle.vx_linear.proofs.difference.step_between.Goals as goal

pub merge-init : goal.merge-init
merge-init c = (first_step, λ g s. s)

pub returns-in-None-None-clause-steps : goal.returns-in-None-None-clause-steps
returns-in-None-None-clause-steps c =
    let z : length c.merge.to_left.now ≡ 0 = c.in-None-None.ensures.cases in
    let e = empty_of c.merge.to_left.now z in
    let y : length c.merge.to_right.now ≡ 0 = c.in-None-None.ensures'.cases in
    let k = empty_of c.merge.to_right.now y in
    at_end c.args.left.now c.args.right.now _ _ c.merge.step c.merge.invariant e k

pub merge-preserved-in-None-Some : goal.merge-preserved-in-None-Some
merge-preserved-in-None-Some c =
    let z : length c.merge.to_left.now ≡ 0 = c.in-None-Some.ensures.cases in
    let e = empty_of c.merge.to_left.now z in
    let k : c.merge.to_right.now ≡ c.in-None-Some.term.now ∷ c.in-None-Some.rest.now = c.in-None-Some.ensures'.cases.0 in
    at_right c.args.left.now c.args.right.now _ _ _ _ c.merge.step _ c.merge.invariant k (before_none _ _ e) c.narrowed_by-step.ensures.fits c.narrowed_by-step.ensures.narrows c.narrowed_by-step.ensures.step

pub merge-preserved-in-Some-None : goal.merge-preserved-in-Some-None
merge-preserved-in-Some-None c =
    let e : c.merge.to_left.now ≡ c.in-Some-None.term.now ∷ c.in-Some-None.rest.now = c.in-Some-None.ensures.cases.0 in
    let y : length c.merge.to_right.now ≡ 0 = c.in-Some-None.ensures'.cases in
    let k = empty_of c.merge.to_right.now y in
    at_left c.args.left.now c.args.right.now _ _ _ _ c.merge.step _ c.merge.invariant e (before_none _ _ k) c.narrowed_by-step-in-Some-None.ensures.fits c.narrowed_by-step-in-Some-None.ensures.narrows c.narrowed_by-step-in-Some-None.ensures.step

pub merge-preserved-then-is_before : goal.merge-preserved-then-is_before
merge-preserved-then-is_before c =
    let e : c.merge.to_left.now ≡ c.in-Some-Some.first.now ∷ c.in-Some-Some.left_rest.now = c.in-Some-Some.ensures.cases.0 in
    let k : c.merge.to_right.now ≡ c.in-Some-Some.second.now ∷ c.in-Some-Some.right_rest.now = c.in-Some-Some.ensures'.cases.0 in
    at_left c.args.left.now c.args.right.now _ _ _ _ c.merge.step _ c.merge.invariant e (before_one _ _ _ _ k (sym c.is_before.ensures ∙ c.if-is_before.true)) c.narrowed_by-step-then-is_before.ensures.fits c.narrowed_by-step-then-is_before.ensures.narrows c.narrowed_by-step-then-is_before.ensures.step

pub merge-preserved-then-is_same : goal.merge-preserved-then-is_same
merge-preserved-then-is_same c =
    let e : c.merge.to_left.now ≡ c.in-Some-Some.first.now ∷ c.in-Some-Some.left_rest.now = c.in-Some-Some.ensures.cases.0 in
    let k : c.merge.to_right.now ≡ c.in-Some-Some.second.now ∷ c.in-Some-Some.right_rest.now = c.in-Some-Some.ensures'.cases.0 in
    at_both c.args.left.now c.args.right.now _ _ _ _ _ _ c.merge.step _ c.merge.invariant e k (sym c.is_same.ensures ∙ c.if-is_same.true) c.narrowed_by_difference-step.ensures.narrows c.narrowed_by_difference-step.ensures.step

pub merge-preserved : goal.merge-preserved
merge-preserved c =
    let e : c.merge.to_left.now ≡ c.in-Some-Some.first.now ∷ c.in-Some-Some.left_rest.now = c.in-Some-Some.ensures.cases.0 in
    let k : c.merge.to_right.now ≡ c.in-Some-Some.second.now ∷ c.in-Some-Some.right_rest.now = c.in-Some-Some.ensures'.cases.0 in
    at_right c.args.left.now c.args.right.now _ _ _ _ c.merge.step _ c.merge.invariant k (before_one _ _ _ _ e (before_back c.in-Some-Some.first.now.symbol c.in-Some-Some.second.now.symbol (sym c.is_before.ensures ∙ c.if-is_before.false) (sym c.is_same.ensures ∙ c.if-is_same.false))) c.narrowed_by-step-else-is_same.ensures.fits c.narrowed_by-step-else-is_same.ensures.narrows c.narrowed_by-step-else-is_same.ensures.step

pub merge-smaller-then-is_same : goal.merge-smaller-then-is_same
merge-smaller-then-is_same c =
    let a = c.in-Some-Some.ensures.cases.1 in
    let b = c.in-Some-Some.ensures'.cases.1 in
    omega (arith, a, b)
