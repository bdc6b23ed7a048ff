use Rattle.std.proofs.Common.{◌∷◌, [], ℕ, List, sym, ap, ◌∙◌}
use Rattle.vx_isa.specs.declared.operation.Operation.TheVariants.{BranchOn}
use Rattle.vx_mixed.specs.declared.layout.Laid.{Laid}
use Rattle.vx_target.specs.Target.{branch_of, carried_items, leads, slotted}
use Rattle.vx_slots.specs.Seen.{seen}
use Rattle.vx_carry.proofs.carried_word.carried_item.Goals as goal

pub returns-in-Split : goal.returns-in-Split
returns-in-Split c =
    let T = seen c.args.whole.now in
    let plan = c.args.plan.now in
    let f = plan.function in
    let test = c.in-Split.test in
    let y = c.in-Split.leaves_when in
    let to = c.in-Split.place in
    ap (λ (x : Laid). carried_items T f plan.place plan.reads plan.writes (x ∷ [])) c.in-Split.is
    ∙ ap (λ (n : ℕ). BranchOn n y (leads T f plan.place (slotted T f plan.writes) to) ∷ []) (sym (c.branch_of.ensures ∙ ap (λ (z : List ℕ). branch_of T f z test) c.as_slice-in-Split.ensures))
    ∙ ap (λ (n : ℕ). BranchOn c.branch_of.result y n ∷ []) (sym (c.leads.ensures ∙ ap (λ (z : List ℕ). leads T f plan.place z to) (c.requires.left ∙ ap (λ (z : List ℕ). slotted T f z) (sym c.requires.writes))))
