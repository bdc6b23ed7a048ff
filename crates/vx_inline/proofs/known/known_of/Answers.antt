use Rattle.std.proofs.Common.{◌∙◌, ap, map, sym}
use Rattle.vx_flow.specs.declared.graph.Graph.{Graph}
use Rattle.vx_inline.specs.Values.{is_bare}
use Rattle.vx_inline.proofs.KnownStays.{knows_first}
use Rattle.vx_inline.proofs.known.known_of.Goals as goal

pub returns : goal.returns
returns c = knows_first c.args.flow.now _ c.as_slice.result.now c.as_slice.ensures c.in_ok-apart.ensures c.in_ok-live.ensures (c.in_ok-bare.ensures ∙ ap (map (λ (g : Graph). is_bare g.arrays g.blocks)) (c.as_slice-2.ensures ∙ sym c.as_slice.ensures))
