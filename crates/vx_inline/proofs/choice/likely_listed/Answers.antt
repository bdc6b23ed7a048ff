use Rattle.std.proofs.Common.{List, ℕ, subst}
use Rattle.vx_inline.specs.Choosing.{BestOfBlocks}
use Rattle.vx_inline.proofs.Likely.{all_listed}
use Rattle.vx_inline.proofs.choice.likely_listed.Goals as goal

pub returns : goal.returns
returns c =
    let asked = c.args.asked.now in
    let best = c.likely_of.result in
    all_listed asked.flow.now asked.counts.now asked.most c.args.function asked.calls.now.items c.args.calls.now c.args.best best c.requires.calls c.requires.row
    (subst (λ (row : List ℕ). BestOfBlocks asked.flow.now asked.counts.now asked.most c.args.function row c.args.best best) c.as_slice.ensures c.likely_of.ensures)
