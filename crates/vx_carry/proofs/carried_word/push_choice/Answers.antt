use Rattle.std.proofs.Common.{◌++◌, ◌∷◌, [], ℕ, true, ap, ◌∙◌}
use Rattle.std.proofs.lemmas.Result.{IfOk-equal}
use Rattle.vx_isa.specs.declared.operation.Operation.TheVariants.{BranchOn}
use Rattle.vx_target.specs.Target.{before, branch_of, one}
use Rattle.vx_slots.specs.Seen.{seen}
use Rattle.vx_slots.proofs.Settling.{onto}
use Rattle.vx_carry.proofs.carried_word.push_choice.Goals as goal

pub returns : goal.returns
returns c =
    let T = seen c.args.whole.now in
    let f = c.args.function in
    let test = c.args.test in
    let old = c.args.words.now in
    let first = before T f (test ∷ []) in
    IfOk-equal _ _ _ _ c.push_one.ensures
    (onto old c.push_before.new.words first (one (BranchOn c.branch_of.result true c.start.result) ∷ []) c.in_ok-push_before.ensures
    ∙ ap (λ (n : ℕ). old ++ (first ++ one (BranchOn n true c.start.result) ∷ [])) c.branch_of.ensures
    ∙ ap (λ (n : ℕ). old ++ (first ++ one (BranchOn (branch_of T f (test ∷ []) test) true n) ∷ [])) (c.start.ensures ∙ ap (T.starts f) c.past.ensures))
