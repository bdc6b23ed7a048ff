use Rattle.std.proofs.Common.{◌∙◌, max, sym, ap}
use Rattle.std.proofs.Math.Nat.{max-zero}
use Rattle.std.proofs.lemmas.List.{nil_from_length}
use Rattle.vx_dep.specs.Compensation.{greatest, all_left_at}
use Rattle.vx_region.proofs.waits.drain_of.Goals as goal

pub returns-in-None : goal.returns-in-None
returns-in-None c =
    sym (max-zero c.count.drain)
    ∙ ap (λ ops. max c.count.drain (greatest (all_left_at c.args.machine.now c.args.end c.count.words_left.now ops))) (sym (nil_from_length c.count.ops_left.now c.in-None.ensures.cases))
    ∙ c.count.invariant
