use Rattle.std.proofs.Common.{◌∙◌, None, List, ap}
use Rattle.std.specs.Prelude.{replicate}
use Rattle.vx_flow.specs.declared.graph.Block.{Block}
use Rattle.vx_flow.specs.declared.graph.Graph.{Graph}
use Rattle.vx_mixed.specs.FromGraph.{bound_by}
use Rattle.vx_replace.proofs.begun_lists.told_values.Goals as goal

pub returns-clause-clusters : goal.returns-clause-clusters
returns-clause-clusters c =
    c.in_ok-clusters.ensures ∙ ap (λ (z : List Block). bound_by z (replicate c.len.result None)) c.as_slice.ensures ∙ ap (λ n. bound_by c.args.graph.now.blocks (replicate n None)) c.len.ensures.len

pub returns-clause-banks : goal.returns-clause-banks
returns-clause-banks c = ap (λ (g : Graph). g.banks) c.in_ok-rest.ensures

pub returns-clause-parameters : goal.returns-clause-parameters
returns-clause-parameters c = ap (λ (g : Graph). g.parameters) c.in_ok-rest.ensures

pub returns-clause-arrays : goal.returns-clause-arrays
returns-clause-arrays c = ap (λ (g : Graph). g.arrays) c.in_ok-rest.ensures
