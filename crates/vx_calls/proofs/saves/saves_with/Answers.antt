use Rattle.std.proofs.Common.{ap, ◌∙◌}
use Rattle.std.specs.List.{flat_map}
use Rattle.vx_calls.specs.Saves.{arrival, saved_from}
use Rattle.vx_calls.proofs.SavedLists.{saves_in}
use Rattle.vx_calls.proofs.saves.saves_with.Goals as goal

pub returns : goal.returns
returns c =
    let living = c.args.living.now in
    saves_in c.args.graph.now.parameters c.args.layout.now c.args.map.now living c.in_ok-values.values c.as_slice.result.now c.as_slice-3.result.now c.as_slice-parameters.result.now c.in_ok-saved.saved c.in_ok-brought.brought c.requires c.as_slice.ensures c.as_slice-3.ensures c.as_slice-parameters.ensures c.in_ok-values.ensures
    (c.in_ok-saved.ensures ∙ ap (λ x. saved_from living x 0 c.as_slice-3.result.now) c.as_slice-2.ensures)
    (c.in_ok-brought.ensures ∙ ap (flat_map (arrival living c.args.layout.now.entry c.as_slice-parameters.result.now)) c.as_slice-4.ensures)
