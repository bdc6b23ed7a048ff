use Rattle.std.proofs.Common.{◌≡◌, ◌∙◌, ℕ, Bool, List, Some, slice_get, slice_index_or, sym, ap}
use Rattle.std.proofs.lemmas.Bool.{ltb-true}
use Rattle.std.proofs.lemmas.Option.{slice_get-get_or, get_or_from_slice_get}
use Rattle.vx_flow.specs.declared.graph.Array.{Array}
use Rattle.vx_flow.specs.declared.graph.Graph.{Graph}
use Rattle.vx_flow.specs.Sound.{is_handed}
use Rattle.vx_slots.specs.Seen.{no_graph}
use Rattle.vx_carry.proofs.lookups.was_handed.Goals as goal

-- what stands in the graph of the function is what was found in its list
found_is : (graphs : List Graph) (f a : ℕ) (graph : Graph) (arrays : List Array) (handed : Bool) → slice_get graphs f ≡ Some graph → arrays ≡ graph.arrays → handed ≡ is_handed arrays a → handed ≡ is_handed (slice_index_or graphs f no_graph).arrays a
found_is graphs f a graph arrays handed there same is =
    is ∙ ap (λ (z : List Array). is_handed z a) same
    ∙ ap (λ (g : Graph). is_handed g.arrays a) (sym (get_or_from_slice_get graphs f graph no_graph there))

pub returns-in-Some : goal.returns-in-Some
returns-in-Some c =
    let graphs = c.args.whole.now.graphs.now in
    let graph = c.in-Some.graph.now in
    let l = c.in-Some.ensures.lookup in
    found_is graphs c.args.function c.args.array graph c.as_slice.result.now c.is_handed.result
    (slice_get-get_or graphs c.args.function graph (ltb-true _ _ (sym l.0)) ∙ ap Some (sym l.1)) c.as_slice.ensures c.is_handed.ensures
