use Rattle.std.proofs.Common.{◌≡◌, ◌+◌, ◌++◌, ◌∷◌, [], List, drop, refl, ap, sym, ◌∙◌}
use Rattle.std.proofs.lemmas.List.{append_assoc, append-nil, at_drop_more, at_drop_all}
use Rattle.std.proofs.lemmas.Result.{IfOk-from_err}
use Rattle.vx_flow.specs.declared.graph.Array.{Array}
use Rattle.vx_flow.specs.declared.graph.Op.{Op}
use Rattle.vx_claims.specs.declared.fact.Fact.{Fact}
use Rattle.vx_claims.specs.declared.access.Access.{Access}
use Rattle.vx_claims.specs.Accesses.{accessed}
use Rattle.vx_claims.specs.Forming.{accessed_from, after_from, after_known, form}
use Rattle.vx_narrow.specs.Shortening.{improved, improved_from, shortened}
use Rattle.vx_narrow.specs.Placing.{placed}
use Rattle.vx_narrow.proofs.block_pass.pass_each.Goals as goal

form_is : (fs gs : List Fact) (xs ys : List Access) (op made : Op) → gs ≡ fs → ys ≡ xs → made ≡ form gs ys op → made ≡ form fs xs op
form_is fs gs xs ys op made g y m = m ∙ ap (λ (h : List Fact). form h ys op) g ∙ ap (λ (h : List Access). form fs h op) y

-- what is said of what is known behind an operation
step : {T : Type 0} (arrays : List Array) (F : List Fact → List Access → T) (fs new : List Fact) (xs zs us later : List Access) (op made : Op) → zs ≡ xs → us ≡ xs → made ≡ form fs xs op → new ≡ after_known fs zs op made → later ≡ accessed arrays us made
    → F new later ≡ F (after_known fs xs op (form fs xs op)) (accessed arrays xs (form fs xs op))
step arrays F fs new xs zs us later op made z u k n l =
    ap (λ (h : List Fact). F h later) (n ∙ ap (λ (h : List Access). after_known fs h op made) z)
    ∙ ap (λ (h : List Access). F (after_known fs xs op made) h) (l ∙ ap (λ (h : List Access). accessed arrays h made) u)
    ∙ ap (λ (h : Op). F (after_known fs xs op h) (accessed arrays xs h)) k

made_step : (arrays : List Array) (all : List Op) (fs hs new : List Fact) (xs ys zs us later : List Access) (op made short : Op) (rest done more : List Op) → hs ≡ fs → ys ≡ xs → zs ≡ xs → us ≡ xs → made ≡ form fs xs op → short ≡ placed arrays all hs ys (shortened hs made)
    → more ≡ done ++ short ∷ [] → new ≡ after_known fs zs op made → later ≡ accessed arrays us made → more ++ improved_from arrays all new later rest ≡ done ++ improved_from arrays all fs xs (op ∷ rest)
made_step arrays all fs hs new xs ys zs us later op made short rest done more h y z u k s d n l =
    let r = step arrays (λ a b. improved_from arrays all a b rest) fs new xs zs us later op made z u k n l in
    let t : short ≡ improved arrays all fs xs op = s ∙ ap (λ (w : List Fact). placed arrays all w ys (shortened w made)) h ∙ ap (λ (w : List Access). placed arrays all fs w (shortened fs made)) y ∙ ap (λ (w : Op). placed arrays all fs xs (shortened fs w)) k in
    ap (λ (w : List Op). w ++ improved_from arrays all new later rest) d
    ∙ append_assoc done (short ∷ []) (improved_from arrays all new later rest)
    ∙ ap (λ (w : Op). done ++ w ∷ improved_from arrays all new later rest) t
    ∙ ap (λ (w : List Op). done ++ improved arrays all fs xs op ∷ w) r

pub loop-op-preserved : goal.loop-op-preserved
loop-op-preserved c =
    let fs = c.loop-op.facts in
    let xs = c.loop-op.known in
    let ops = c.args.ops.now in
    let i = c.loop-op.op-index in
    let z : c.as_slice-in-loop-op-2.result.now ≡ xs = c.as_slice-in-loop-op-2.ensures in
    let u : c.as_slice-in-loop-op-3.result.now ≡ xs = c.as_slice-in-loop-op-3.ensures in
    let k = form_is fs fs xs c.as_slice.result.now _ c.form-form.result refl c.as_slice.ensures c.form-form.ensures in
    record {
      facts = step c.args.arrays.now (λ a b. after_from c.args.arrays.now a b (drop (i + 1) ops)) fs c.learn.new.facts xs c.as_slice-in-loop-op-2.result.now c.as_slice-in-loop-op-3.result.now c.in_ok-known.field-0 _ c.form-form.result z u k c.in_ok-learn.ensures c.in_ok-known.ensures
          ∙ sym (at_drop_more (λ (l : List Op). after_from c.args.arrays.now fs xs l) ops i _ c.loop-op-test.true) ∙ c.loop-op.invariant.facts;
      accesses = step c.args.arrays.now (λ a b. accessed_from c.args.arrays.now a b (drop (i + 1) ops)) fs c.learn.new.facts xs c.as_slice-in-loop-op-2.result.now c.as_slice-in-loop-op-3.result.now c.in_ok-known.field-0 _ c.form-form.result z u k c.in_ok-learn.ensures c.in_ok-known.ensures
          ∙ sym (at_drop_more (λ (l : List Op). accessed_from c.args.arrays.now fs xs l) ops i _ c.loop-op-test.true) ∙ c.loop-op.invariant.accesses;
      made = made_step c.args.arrays.now c.args.all.now fs fs c.learn.new.facts xs c.as_slice-in-loop-op.result.now c.as_slice-in-loop-op-2.result.now c.as_slice-in-loop-op-3.result.now c.in_ok-known.field-0 _ c.form-form.result c.improved.result (drop (i + 1) ops) c.loop-op.made c.push.new.self
          refl c.as_slice-in-loop-op.ensures z u k c.improved.ensures c.in_ok-push.ensures.ok c.in_ok-learn.ensures c.in_ok-known.ensures
          ∙ sym (at_drop_more (λ (l : List Op). c.loop-op.made ++ improved_from c.args.arrays.now c.args.all.now fs xs l) ops i _ c.loop-op-test.true) ∙ c.loop-op.invariant.made;
    }

pub returns-clause-facts : goal.returns-clause-facts
returns-clause-facts c = sym (at_drop_all (λ (l : List Op). after_from c.args.arrays.now c.loop-op.facts c.loop-op.known l) c.args.ops.now c.loop-op.op-index c.loop-op-test.false) ∙ c.loop-op.invariant.facts

pub returns-clause-known : goal.returns-clause-known
returns-clause-known c = sym (at_drop_all (λ (l : List Op). accessed_from c.args.arrays.now c.loop-op.facts c.loop-op.known l) c.args.ops.now c.loop-op.op-index c.loop-op-test.false) ∙ c.loop-op.invariant.accesses

pub returns-clause-made : goal.returns-clause-made
returns-clause-made c =
    sym (append-nil c.loop-op.made)
    ∙ sym (at_drop_all (λ (l : List Op). c.loop-op.made ++ improved_from c.args.arrays.now c.args.all.now c.loop-op.facts c.loop-op.known l) c.args.ops.now c.loop-op.op-index c.loop-op-test.false) ∙ c.loop-op.invariant.made

pub returns-in_err-push-clause-facts : goal.returns-in_err-push-clause-facts
returns-in_err-push-clause-facts c = IfOk-from_err _ _ c.from_residual.ensures.0

pub returns-in_err-push-clause-known : goal.returns-in_err-push-clause-known
returns-in_err-push-clause-known c = IfOk-from_err _ _ c.from_residual.ensures.0

pub returns-in_err-push-clause-made : goal.returns-in_err-push-clause-made
returns-in_err-push-clause-made c = IfOk-from_err _ _ c.from_residual.ensures.0

pub returns-in_err-learn-clause-facts : goal.returns-in_err-learn-clause-facts
returns-in_err-learn-clause-facts c = IfOk-from_err _ _ c.from_residual-in_err-learn.ensures.0

pub returns-in_err-learn-clause-known : goal.returns-in_err-learn-clause-known
returns-in_err-learn-clause-known c = IfOk-from_err _ _ c.from_residual-in_err-learn.ensures.0

pub returns-in_err-learn-clause-made : goal.returns-in_err-learn-clause-made
returns-in_err-learn-clause-made c = IfOk-from_err _ _ c.from_residual-in_err-learn.ensures.0

pub returns-in_err-known-clause-facts : goal.returns-in_err-known-clause-facts
returns-in_err-known-clause-facts c = IfOk-from_err _ _ c.from_residual-in_err-known.ensures.0

pub returns-in_err-known-clause-known : goal.returns-in_err-known-clause-known
returns-in_err-known-clause-known c = IfOk-from_err _ _ c.from_residual-in_err-known.ensures.0

pub returns-in_err-known-clause-made : goal.returns-in_err-known-clause-made
returns-in_err-known-clause-made c = IfOk-from_err _ _ c.from_residual-in_err-known.ensures.0
