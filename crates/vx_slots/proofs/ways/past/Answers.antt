use Rattle.std.proofs.Common.{List, ap, ◌∙◌}
use Rattle.vx_mixed.specs.declared.layout.VirtualWord.{VirtualWord}
use Rattle.vx_target.specs.Target.{past_from}
use Rattle.vx_slots.specs.Seen.{seen}
use Rattle.vx_slots.proofs.Passing.{past_most}
use Rattle.vx_slots.proofs.ways.past.Goals as goal

pub returns : goal.returns
returns c =
    let T = seen c.args.whole.now in
    let place = c.args.place in
    past_most (T.layout c.args.function).words c.past_from.result place (c.past_from.ensures ∙ ap (λ (z : List VirtualWord). past_from z 64 place) c.words_of.ensures)
