use Rattle.std.proofs.Common.{◌≡◌, ◌∙◌, ℕ, Bool, List, Some, slice_get, slice_index_or, sym, ap}
use Rattle.std.proofs.lemmas.Bool.{ltb-true}
use Rattle.std.proofs.lemmas.Option.{slice_get-get_or, get_or_from_slice_get}
use Rattle.vx_flow.specs.declared.graph.Array.{Array}
use Rattle.vx_flow.specs.declared.graph.Graph.{Graph}
use Rattle.vx_flow.specs.Sound.{is_local}
use Rattle.vx_slots.specs.Seen.{no_graph}
use Rattle.vx_carry.proofs.lookups.is_own.Goals as goal

-- what stands in the graph of the function is what was found in its list
found_is : (graphs : List Graph) (f a : ℕ) (graph : Graph) (arrays : List Array) (own : Bool) → slice_get graphs f ≡ Some graph → arrays ≡ graph.arrays → own ≡ is_local arrays a → own ≡ is_local (slice_index_or graphs f no_graph).arrays a
found_is graphs f a graph arrays own there same is =
    is ∙ ap (λ (z : List Array). is_local z a) same
    ∙ ap (λ (g : Graph). is_local g.arrays a) (sym (get_or_from_slice_get graphs f graph no_graph there))

pub returns-in-Some : goal.returns-in-Some
returns-in-Some c =
    let graphs = c.args.whole.now.graphs.now in
    let graph = c.in-Some.graph.now in
    let l = c.in-Some.ensures.lookup in
    found_is graphs c.args.function c.args.array graph c.as_slice.result.now c.is_local.result
    (slice_get-get_or graphs c.args.function graph (ltb-true _ _ (sym l.0)) ∙ ap Some (sym l.1)) c.as_slice.ensures c.is_local.ensures
