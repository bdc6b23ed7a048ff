use Rattle.std.proofs.Common.{◌≡◌, ◌∙◌, Some, ap, get_or, map, of_z, pos, rules, slice_set, take_all, to_z, w32}
use Rattle.vx_flow.specs.declared.graph.Global.{Global}
use Rattle.vx_flow.specs.Meaning.{words_at_start}
use Rattle.vx_tally.proofs.Turns.{globals_turn}
use Rattle.vx_tally.proofs.machine.global_arrays.Goals as goal

pub loop-global-preserved : goal.loop-global-preserved
loop-global-preserved c =
    let none : Global = record { words = 0; first = pos 0 } in
    let n = (get_or c.args.globals.now c.loop-global.global-index none).first in
    let same : to_z w32 (of_z w32 n) ≡ n = search rules in
    c.in_ok-push.ensures.items ∙ globals_turn c.args.globals.now c.loop-global.global-index none c.loop-global.arrays.items c.in_ok-cells.cells c.set.new.self c.loop-global-test.true c.loop-global.invariant c.in_ok-cells.ensures (c.set.ensures ∙ ap (λ k. slice_set c.in_ok-cells.cells 0 (Some k)) same)

pub returns : goal.returns
returns c = c.loop-global.invariant ∙ ap (map words_at_start) (take_all c.loop-global.global-index c.args.globals.now c.loop-global-test.false)
