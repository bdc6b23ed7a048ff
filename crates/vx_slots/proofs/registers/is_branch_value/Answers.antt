use Rattle.std.proofs.Common.{◌≡◌, ◌%◌, ◌∙◌, ℕ, List, Some, length, slice_get, sym, ap}
use Rattle.std.proofs.lemmas.Bool.{ltb-true}
use Rattle.std.proofs.lemmas.Option.{slice_get-get_or}
use Rattle.vx_flow.specs.declared.graph.Bank.{Bank}
use Rattle.vx_target.specs.Target.{is_branch}
use Rattle.vx_slots.proofs.registers.is_branch_value.Goals as goal

-- the bank that stands in front of a value
bank_is : (banks read : List Bank) (v : ℕ) (found bank : Bank) → read ≡ banks → slice_get read (v % length read) ≡ Some found → found ≡ bank → is_branch (Some bank) ≡ is_branch (slice_get banks (v % length banks))
bank_is banks read v found bank same at e = ap (λ (x : Bank). is_branch (Some x)) (sym e) ∙ ap is_branch (sym at) ∙ ap (λ (z : List Bank). is_branch (slice_get z (v % length z))) same

pub returns-in-Some-Branch : goal.returns-in-Some-Branch
returns-in-Some-Branch c =
    let l = c.in-Some-Branch.ensures.lookup in
    let banks = c.as_slice-banks.result.now in
    let found = c.in-Some-Branch.field-0.now in
    bank_is c.args.layout.now.banks banks c.args.value found _ c.as_slice-banks.ensures (slice_get-get_or banks (c.args.value % length banks) found (ltb-true _ _ (sym l.0)) ∙ ap Some (sym l.1)) c.in-Some-Branch.field-0-is

pub returns-in-Some-General : goal.returns-in-Some-General
returns-in-Some-General c =
    let l = c.in-Some-General.ensures.lookup in
    let banks = c.as_slice-banks.result.now in
    let found = c.in-Some-General.field-0.now in
    bank_is c.args.layout.now.banks banks c.args.value found _ c.as_slice-banks.ensures (slice_get-get_or banks (c.args.value % length banks) found (ltb-true _ _ (sym l.0)) ∙ ap Some (sym l.1)) c.in-Some-General.field-0-is
