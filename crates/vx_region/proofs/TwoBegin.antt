-- The graph of two blocks can begin.
use Rattle.std.proofs.Common.{◌≡◌, ◌≢◌, ℕ, zero, suc, ◌+◌, ◌<◌, Option, Some, None, List, [], ◌∷◌, length, slice_get, refl, sym, ap, ◌∙◌, subst, inl, inr, arith}
use Rattle.std.specs.Prelude.{◌*◌, ◌^◌}
use Rattle.vx_flow.specs.declared.graph.Block.{Block}
use Rattle.vx_flow.specs.declared.graph.Edge.{Edge}
use Rattle.vx_flow.specs.declared.graph.Graph.{Graph}
use Rattle.vx_flow.specs.Effects.{IsIn}
use Rattle.vx_flow.specs.Walk.{edge}
use Rattle.vx_mixed.specs.Valid.{PartsWays, IsGraphEdge}
use Rattle.vx_mixed.proofs.BlockEdges.{to_edges, successor_is}
use Rattle.vx_motion.proofs.Counting.{no_critical}
use Rattle.vx_region.specs.TwoBlocks.{two_blocks, TwoBegin}

abbrev two_edges : List Edge
two_edges = edge 0 1 ∷ []

abbrev Fits : Option Block → Type 0
Fits None = Unit {0}
Fits (Some k) = PartsWays k.exit

each_fits : (b : ℕ) → Fits (slice_get two_blocks b)
each_fits zero = tt
each_fits (suc zero) = tt
each_fits (suc (suc b)) = tt

module _ (graph : Graph) (blocks : graph.blocks ≡ two_blocks) where
  listed : (e : Edge) → IsGraphEdge graph e → IsIn e two_edges
  listed e h =
      let at : slice_get two_blocks e.from ≡ Some h.block = ap (λ z. slice_get z e.from) (sym blocks) ∙ h.has in
      let z : 0 + e.from ≡ e.from = omega arith in
      subst (λ n. IsIn (edge n e.to) two_edges) z (to_edges 0 two_blocks e.from e.to h.block at ((successor_is h.block.exit e.to).1 h.leads))

  not_entry : (e : Edge) → IsIn e two_edges → e.to ≢ 0
  not_entry e (inl q) h = absurd (let z = ap (λ (x : Edge). x.to) q in omega arith)
  not_entry e (inr q) h = q

pub two_begin : TwoBegin
two_begin graph blocks banks = record {
  copies = subst (λ z. 5 * length z < 2 ^ 32) (sym banks) (omega arith);
  parts = λ b block h. subst Fits (ap (λ z. slice_get z b) (sym blocks) ∙ h) (each_fits b);
  entry = λ e h. not_entry graph blocks e (listed graph blocks e h);
  uncritical = no_critical (IsGraphEdge graph) two_edges (listed graph blocks) refl;
}
