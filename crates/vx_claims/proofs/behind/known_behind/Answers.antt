use Rattle.std.proofs.Common.{◌≡◌, ◌+◌, ◌∷◌, List, drop, refl, ap, sym, ◌∙◌}
use Rattle.std.proofs.lemmas.List.{at_drop_more, at_drop_all}
use Rattle.std.proofs.lemmas.Result.{IfOk-from_err}
use Rattle.vx_flow.specs.declared.graph.Array.{Array}
use Rattle.vx_flow.specs.declared.graph.Op.{Op}
use Rattle.vx_claims.specs.declared.fact.Fact.{Fact}
use Rattle.vx_claims.specs.declared.access.Access.{Access}
use Rattle.vx_claims.specs.Accesses.{accessed}
use Rattle.vx_claims.specs.Forming.{accessed_from, after_from, after_known, form}
use Rattle.vx_claims.proofs.behind.known_behind.Goals as goal

facts_step : (arrays : List Array) (fs gs new : List Fact) (xs ys zs us later : List Access) (op made : Op) (rest : List Op) → gs ≡ fs → ys ≡ xs → zs ≡ xs → us ≡ xs → made ≡ form gs ys op → new ≡ after_known fs zs op made → later ≡ accessed arrays us made → after_from arrays new later rest ≡ after_from arrays fs xs (op ∷ rest)
facts_step arrays fs gs new xs ys zs us later op made rest g y z u m n l =
    let k : made ≡ form fs xs op = m ∙ ap (λ (h : List Fact). form h ys op) g ∙ ap (λ (h : List Access). form fs h op) y in
    ap (λ (h : List Fact). after_from arrays h later rest) (n ∙ ap (λ (h : List Access). after_known fs h op made) z)
    ∙ ap (λ (h : List Access). after_from arrays (after_known fs xs op made) h rest) (l ∙ ap (λ (h : List Access). accessed arrays h made) u)
    ∙ ap (λ (h : Op). after_from arrays (after_known fs xs op h) (accessed arrays xs h) rest) k

accesses_step : (arrays : List Array) (fs gs new : List Fact) (xs ys zs us later : List Access) (op made : Op) (rest : List Op) → gs ≡ fs → ys ≡ xs → zs ≡ xs → us ≡ xs → made ≡ form gs ys op → new ≡ after_known fs zs op made → later ≡ accessed arrays us made → accessed_from arrays new later rest ≡ accessed_from arrays fs xs (op ∷ rest)
accesses_step arrays fs gs new xs ys zs us later op made rest g y z u m n l =
    let k : made ≡ form fs xs op = m ∙ ap (λ (h : List Fact). form h ys op) g ∙ ap (λ (h : List Access). form fs h op) y in
    ap (λ (h : List Fact). accessed_from arrays h later rest) (n ∙ ap (λ (h : List Access). after_known fs h op made) z)
    ∙ ap (λ (h : List Access). accessed_from arrays (after_known fs xs op made) h rest) (l ∙ ap (λ (h : List Access). accessed arrays h made) u)
    ∙ ap (λ (h : Op). accessed_from arrays (after_known fs xs op h) (accessed arrays xs h) rest) k

pub loop-op-preserved : goal.loop-op-preserved
loop-op-preserved c =
    let fs = c.loop-op.facts in
    let xs = c.loop-op.known in
    let ops = c.args.ops.now in
    let i = c.loop-op.op-index in
    let s1 : c.as_slice.result.now ≡ xs = c.as_slice.ensures in
    let s2 : c.as_slice-in-loop-op.result.now ≡ xs = c.as_slice-in-loop-op.ensures in
    let s3 : c.as_slice-in-loop-op-2.result.now ≡ xs = c.as_slice-in-loop-op-2.ensures in
    record {
      facts = facts_step c.args.arrays.now fs fs c.learn.new.facts xs c.as_slice.result.now c.as_slice-in-loop-op.result.now c.as_slice-in-loop-op-2.result.now c.in_ok-known-2.known _ c.form-form.result (drop (i + 1) ops)
          refl s1 s2 s3 c.form-form.ensures c.in_ok-learn.ensures c.in_ok-known-2.ensures
          ∙ sym (at_drop_more (λ (l : List Op). after_from c.args.arrays.now fs xs l) ops i _ c.loop-op-test.true) ∙ c.loop-op.invariant.facts;
      accesses = accesses_step c.args.arrays.now fs fs c.learn.new.facts xs c.as_slice.result.now c.as_slice-in-loop-op.result.now c.as_slice-in-loop-op-2.result.now c.in_ok-known-2.known _ c.form-form.result (drop (i + 1) ops)
          refl s1 s2 s3 c.form-form.ensures c.in_ok-learn.ensures c.in_ok-known-2.ensures
          ∙ sym (at_drop_more (λ (l : List Op). accessed_from c.args.arrays.now fs xs l) ops i _ c.loop-op-test.true) ∙ c.loop-op.invariant.accesses;
    }

pub returns-clause-facts : goal.returns-clause-facts
returns-clause-facts c =
    c.in_ok-from_vec.ensures ∙ c.into_vec.ensures ∙ sym (at_drop_all (λ (l : List Op). after_from c.args.arrays.now c.loop-op.facts c.loop-op.known l) c.args.ops.now c.loop-op.op-index c.loop-op-test.false) ∙ c.loop-op.invariant.facts

pub returns-clause-accesses : goal.returns-clause-accesses
returns-clause-accesses c =
    sym (at_drop_all (λ (l : List Op). accessed_from c.args.arrays.now c.loop-op.facts c.loop-op.known l) c.args.ops.now c.loop-op.op-index c.loop-op-test.false) ∙ c.loop-op.invariant.accesses

pub returns-in_err-facts-clause-facts : goal.returns-in_err-facts-clause-facts
returns-in_err-facts-clause-facts c = IfOk-from_err _ _ c.from_residual.ensures.0

pub returns-in_err-facts-clause-accesses : goal.returns-in_err-facts-clause-accesses
returns-in_err-facts-clause-accesses c = IfOk-from_err _ _ c.from_residual.ensures.0

pub returns-in_err-known-clause-facts : goal.returns-in_err-known-clause-facts
returns-in_err-known-clause-facts c = IfOk-from_err _ _ c.from_residual-in_err-known.ensures.0

pub returns-in_err-known-clause-accesses : goal.returns-in_err-known-clause-accesses
returns-in_err-known-clause-accesses c = IfOk-from_err _ _ c.from_residual-in_err-known.ensures.0

pub returns-in_err-learn-clause-facts : goal.returns-in_err-learn-clause-facts
returns-in_err-learn-clause-facts c = IfOk-from_err _ _ c.from_residual-in_err-learn.ensures.0

pub returns-in_err-learn-clause-accesses : goal.returns-in_err-learn-clause-accesses
returns-in_err-learn-clause-accesses c = IfOk-from_err _ _ c.from_residual-in_err-learn.ensures.0

pub returns-in_err-known-2-clause-facts : goal.returns-in_err-known-2-clause-facts
returns-in_err-known-2-clause-facts c = IfOk-from_err _ _ c.from_residual-in_err-known-2.ensures.0

pub returns-in_err-known-2-clause-accesses : goal.returns-in_err-known-2-clause-accesses
returns-in_err-known-2-clause-accesses c = IfOk-from_err _ _ c.from_residual-in_err-known-2.ensures.0

pub returns-in_err-from_vec-clause-facts : goal.returns-in_err-from_vec-clause-facts
returns-in_err-from_vec-clause-facts c = IfOk-from_err _ _ c.from_residual-in_err-from_vec.ensures.0

pub returns-in_err-from_vec-clause-accesses : goal.returns-in_err-from_vec-clause-accesses
returns-in_err-from_vec-clause-accesses c = IfOk-from_err _ _ c.from_residual-in_err-from_vec.ensures.0
