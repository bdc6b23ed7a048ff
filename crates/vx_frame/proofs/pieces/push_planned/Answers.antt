-- The plan is that of the word.
use Rattle.std.proofs.Common.{◌≡◌, ◌+◌, ◌++◌, ℕ, List, IfOk, length, subst}
use Rattle.vx_mixed.specs.declared.layout.Laid.{Laid}
use Rattle.vx_mixed.specs.LaidSettled.{laid_reads}
use Rattle.vx_slots.specs.Seen.{seen}
use Rattle.vx_target.specs.Target.{before, plan_words}
use Rattle.vx_frame.proofs.pieces.push_planned.Goals as goal

pub returns-clause-words : goal.returns-clause-words
returns-clause-words c =
    let T = seen c.args.whole.now in
    let old = c.args.words.now in
    let new = c.push_plan.new.words in
    let plan = c.in_ok-plan.plan in
    let is = c.in_ok-plan.ensures in
    subst (λ (xs : List Laid). IfOk c.push_plan.result (λ _. new ≡ old ++ plan_words T c.args.function c.args.place xs)) is.items
    (subst (λ (p : ℕ). IfOk c.push_plan.result (λ _. new ≡ old ++ plan_words T c.args.function p plan.items.now)) is.place
    (subst (λ (f : ℕ). IfOk c.push_plan.result (λ _. new ≡ old ++ plan_words T f plan.place plan.items.now)) is.function c.push_plan.ensures.words))

pub returns-clause-mark : goal.returns-clause-mark
returns-clause-mark c =
    let T = seen c.args.whole.now in
    let old = c.args.words.now in
    let plan = c.in_ok-plan.plan in
    let is = c.in_ok-plan.ensures in
    subst (λ (xs : List Laid). IfOk c.push_plan.result (λ (mark : ℕ). mark ≡ length old + length (before T c.args.function (laid_reads xs)))) is.items
    (subst (λ (f : ℕ). IfOk c.push_plan.result (λ (mark : ℕ). mark ≡ length old + length (before T f (laid_reads plan.items.now)))) is.function c.push_plan.ensures.place)
