use Rattle.std.proofs.Common.{◌≡◌, ◌∙◌, List, map, length, None, sym, ap, subst, refl}
use Rattle.std.specs.Prelude.{replicate}
use Rattle.vx_flow.specs.declared.graph.Block.{Block}
use Rattle.vx_flow.specs.Walk.{BackEdges, Headers}
use Rattle.vx_mixed.specs.declared.region.Node.TheVariants.{Unused}
use Rattle.vx_mixed.specs.Edges.{EdgesOf, edges_from}
use Rattle.vx_mixed.specs.FromGraph.{StartHomes}
use Rattle.vx_mixed.proofs.BlockEdges.{block_edges_are}
use Rattle.vx_replace.proofs.StartHomes.{starts_with}
use Rattle.vx_replace.proofs.StartsValid.{starts_valid}
use Rattle.vx_replace.proofs.function.Mixed.from_graph.Goals as goal

pub back_edges-requires : goal.back_edges-requires
back_edges-requires c = c.sound_graph_leads_within.ensures c.args.graph.now c.requires.sound

pub headers-requires : goal.headers-requires
headers-requires c = c.sound_graph_leads_within.ensures c.args.graph.now c.requires.sound

pub invariant_of-result : goal.invariant_of-result
invariant_of-result c =
    let nodes : c.in_ok-begun.begun.nodes ≡ map Unused c.args.graph.now.blocks = c.in_ok-begun.ensures.nodes ∙ ap (map Unused) c.as_slice.ensures in
    let edges : c.in_ok-begun.begun.edges ≡ edges_from 0 c.args.graph.now.blocks = c.in_ok-begun.ensures.edges ∙ ap (edges_from 0) c.as_slice.ensures in (
      subst (EdgesOf _) (sym edges) (block_edges_are _ c.args.graph.now.blocks nodes c.new.ensures),
      starts_valid c.args.graph.now _ c.requires.sound c.requires.begins (record {
        blocks = record {
          nodes = c.in_ok-begun.ensures.nodes ∙ ap (map Unused) c.as_slice.ensures;
          regions = c.new.ensures;
          banks = c.in_ok-told.ensures.banks;
          parameters = c.in_ok-told.ensures.parameters;
          arrays = c.in_ok-told.ensures.arrays;
        };
        function = refl;
        origins = c.in_ok-begun.ensures.origins ∙ ap (λ (blocks : List Block). replicate (length blocks) None) c.as_slice.ensures;
        headers = subst (Headers c.args.graph.now) (sym c.in_ok-headers-2.ensures) c.in_ok-headers.ensures;
        back = subst (BackEdges c.args.graph.now) (sym c.in_ok-back.ensures) c.in_ok-back_edges.ensures;
        homes = subst (StartHomes c.args.graph.now) (sym c.in_ok-told.ensures.clusters) (starts_with c.args.graph.now);
      }),
    )

pub returns : goal.returns
returns c = record {
  blocks = record {
    nodes = c.in_ok-begun.ensures.nodes ∙ ap (map Unused) c.as_slice.ensures;
    regions = c.new.ensures;
    banks = c.in_ok-told.ensures.banks;
    parameters = c.in_ok-told.ensures.parameters;
    arrays = c.in_ok-told.ensures.arrays;
  };
  function = refl;
  origins = c.in_ok-begun.ensures.origins ∙ ap (λ (blocks : List Block). replicate (length blocks) None) c.as_slice.ensures;
  headers = subst (Headers c.args.graph.now) (sym c.in_ok-headers-2.ensures) c.in_ok-headers.ensures;
  back = subst (BackEdges c.args.graph.now) (sym c.in_ok-back.ensures) c.in_ok-back_edges.ensures;
  homes = subst (StartHomes c.args.graph.now) (sym c.in_ok-told.ensures.clusters) (starts_with c.args.graph.now);
}
