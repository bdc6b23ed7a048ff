use Rattle.std.proofs.Common.{◌≡◌, ◌++◌, ℕ, List, Option, IfOk, subst, ap, ◌∙◌}
use Rattle.vx_isa.specs.declared.operation.Operation.{Operation}
use Rattle.vx_isa.specs.declared.program.Word.{Word}
use Rattle.vx_mixed.specs.LaidSettled.{laid_reads, laid_writes}
use Rattle.vx_target.specs.Target.{carried_items, turn, with_goto}
use Rattle.vx_slots.specs.Seen.{seen}
use Rattle.vx_carry.proofs.carried_word.plan_word.Goals as goal

pub returns : goal.returns
returns c =
    let T = seen c.args.whole.now in
    let plan = c.args.plan.now in
    let f = plan.function in
    let items = plan.items.now in
    let made : List Operation → Option ℕ → Word = λ ops to. record { ops = with_goto T f items ops to; idle = 0 } in
    subst (λ (w : Word). IfOk c.with_goto.result (λ (word : Word). word ≡ w))
    (ap (λ (z : List Operation). made z c.in_ok-to.to)
    (c.in_ok-push_items.ensures
    ∙ ap (λ (z : List Operation). z ++ carried_items T f plan.place plan.reads plan.writes items) c.new-ops.ensures
    ∙ ap (λ (z : List ℕ). carried_items T f plan.place z plan.writes items) c.requires.reads
    ∙ ap (λ (z : List ℕ). carried_items T f plan.place (laid_reads items) z items) c.requires.writes)
    ∙ ap (made (carried_items T f plan.place (laid_reads items) (laid_writes items) items)) (c.in_ok-to.ensures ∙ ap (λ (n : ℕ). turn T f n) c.in_ok-next.ensures))
    c.with_goto.ensures
