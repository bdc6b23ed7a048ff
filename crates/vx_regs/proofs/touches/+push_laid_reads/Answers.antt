use Rattle.std.proofs.Common.{◌++◌, List, append-nil, sym, ap, ◌∙◌}
use Rattle.std.proofs.lemmas.List.{nil_from_length}
use Rattle.vx_mixed.specs.declared.layout.Laid.{Laid}
use Rattle.vx_mixed.specs.LaidSettled.{laid_reads}
use Rattle.vx_regs.proofs.touches.+push_laid_reads.Goals as goal

pub returns-in-None : goal.returns-in-None
returns-in-None t c =
    let old = c.args.values.now in
    sym (append-nil old) ∙ ap (λ (z : List Laid). old ++ laid_reads z) (sym (nil_from_length c.args.items.now c.in-None.ensures.cases))
