use Rattle.std.proofs.Common.{◌%◌, ◌∙◌, List, Some, length, slice_get, sym, ap}
use Rattle.std.proofs.lemmas.Bool.{ltb-true}
use Rattle.std.proofs.lemmas.Option.{slice_get-get_or}
use Rattle.vx_flow.specs.declared.graph.Bank.{Bank}
use Rattle.vx_regs.proofs.allocation.bank_in.Goals as goal

pub returns-in-Some : goal.returns-in-Some
returns-in-Some c =
    let banks = c.as_slice-banks.result.now in
    let bank = c.in-Some.bank.now in
    let l = c.in-Some.ensures.lookup in
    sym (slice_get-get_or banks (c.args.value % length banks) bank (ltb-true _ _ (sym l.0)) ∙ ap Some (sym l.1))
    ∙ ap (λ (z : List Bank). slice_get z (c.args.value % length z)) c.as_slice-banks.ensures
