use Rattle.std.proofs.Common.{Some, sym, ap, ◌∙◌}
use Rattle.std.proofs.lemmas.Bool.{ltb-true, ltb-false}
use Rattle.vx_flow.specs.declared.graph.Bank.{Bank}
use Rattle.vx_flow.specs.declared.graph.Bank.TheVariants.{Branch}
use Rattle.vx_flow.specs.Sound.{is_bank}
use Rattle.vx_sound.proofs.Found.{found_at, none_at}
use Rattle.vx_sound.proofs.named.is_branch.Goals as goal

pub returns-in-Some-Branch : goal.returns-in-Some-Branch
returns-in-Some-Branch c =
    let l = c.in-Some-Branch.ensures.lookup in
    ap (λ (x : Bank). is_bank Branch (Some x)) (sym c.in-Some-Branch.field-0-is) ∙ found_at (is_bank Branch) c.args.banks.now c.args.value c.in-Some-Branch.field-0.now (ltb-true _ _ (sym l.0)) l.1

pub returns-in-Some-General : goal.returns-in-Some-General
returns-in-Some-General c =
    let l = c.in-Some-General.ensures.lookup in
    ap (λ (x : Bank). is_bank Branch (Some x)) (sym c.in-Some-General.field-0-is) ∙ found_at (is_bank Branch) c.args.banks.now c.args.value c.in-Some-General.field-0.now (ltb-true _ _ (sym l.0)) l.1

pub returns-in-None : goal.returns-in-None
returns-in-None c = none_at (is_bank Branch) c.args.banks.now c.args.value (ltb-false _ _ (sym c.in-None.ensures.lookup.0))
