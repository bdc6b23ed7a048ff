use Rattle.std.proofs.Common.{◌∙◌, ap, drop, sym}
use Rattle.vx_tally.specs.Machine.{own_in}
use Rattle.vx_tally.proofs.Turns.{found_at}
use Rattle.vx_tally.proofs.machine.main_arrays.Goals as goal

pub returns-in-Some : goal.returns-in-Some
returns-in-Some c =
    let flow = c.args.flow.now in
    let l = c.in-Some.ensures.lookup in
    c.own_arrays.ensures ∙ ap (λ n. drop n c.in-Some.graph.now.arrays) c.len.ensures.len
    ∙ ap (own_in flow) (sym (found_at c.as_slice.result.now flow.functions flow.main c.in-Some.graph.now c.as_slice.ensures l.0 l.1))
