-- The worked `if` without `else` can begin, and its three blocks can be traced.
use Rattle.std.proofs.Common.{◌≡◌, ◌≢◌, ℕ, zero, suc, ◌+◌, ◌<◌, Option, Some, None, List, [], ◌∷◌, length, map, slice_get, refl, sym, ap, ◌∙◌, subst, inl, inr, arith}
use Rattle.std.specs.Prelude.{◌*◌, ◌^◌}
use Rattle.std.specs.Option.{option_map}
use Rattle.std.proofs.lemmas.Option.{slice_get-map}
use Rattle.vx_flow.specs.declared.graph.Block.{Block}
use Rattle.vx_flow.specs.declared.graph.Edge.{Edge}
use Rattle.vx_flow.specs.declared.graph.Graph.{Graph}
use Rattle.vx_flow.specs.Effects.{IsIn}
use Rattle.vx_flow.specs.Walk.{edge}
use Rattle.vx_mixed.specs.declared.region.Node.{Node}
use Rattle.vx_mixed.specs.declared.region.Node.TheVariants.{Unused}
use Rattle.vx_mixed.specs.declared.mixed.MixedGraph.{MixedGraph}
use Rattle.vx_mixed.specs.Edges.{IsEdge, of_block, of_split, of_last}
use Rattle.vx_mixed.specs.FromGraph.{FromGraph}
use Rattle.vx_motion.specs.TraceExample.{if_blocks, if_banks, IfIsTraced}
use Rattle.vx_mixed.specs.TraceOf.{CanTrace, EndsWithCall}
use Rattle.vx_mixed.specs.Valid.{PartsWays, IsGraphEdge, CanBegin}
use Rattle.vx_mixed.proofs.Begins.{no_region}
use Rattle.vx_mixed.proofs.BlockEdges.{to_edges, successor_is}
use Rattle.vx_motion.proofs.Counting.{no_critical}

abbrev pub if_edges : List Edge
if_edges = edge 0 1 ∷ edge 0 3 ∷ edge 1 2 ∷ edge 3 2 ∷ []

abbrev Fits : Option Block → Type 0
Fits None = Unit {0}
Fits (Some k) = PartsWays k.exit

differs : suc zero ≡ suc (suc (suc zero)) → ⊥
differs e = absurd (omega arith)

each_fits : (b : ℕ) → Fits (slice_get if_blocks b)
each_fits zero = differs
each_fits (suc zero) = tt
each_fits (suc (suc zero)) = tt
each_fits (suc (suc (suc zero))) = tt
each_fits (suc (suc (suc (suc b)))) = tt

abbrev pub Calls : Option Node → Type 0
Calls (Some (Unused block)) = EndsWithCall block.exit
Calls o = ⊥

of_unused : (o : Option Block) (k : Block) → option_map Unused o ≡ Some (Unused k) → o ≡ Some k
of_unused None k e = absurd (cc)
of_unused (Some b) k e = let q : b ≡ k = cc in ap Some q

module _ (graph : Graph) (blocks : graph.blocks ≡ if_blocks) where
  pub listed : (e : Edge) → IsGraphEdge graph e → IsIn e if_edges
  listed e h =
      let at : slice_get if_blocks e.from ≡ Some h.block = ap (λ z. slice_get z e.from) (sym blocks) ∙ h.has in
      let z : 0 + e.from ≡ e.from = omega arith in
      subst (λ n. IsIn (edge n e.to) if_edges) z (to_edges 0 if_blocks e.from e.to h.block at ((successor_is h.block.exit e.to).1 h.leads))

  not_entry : (e : Edge) → IsIn e if_edges → e.to ≢ 0
  not_entry e (inl q) h = absurd (let z = ap (λ (x : Edge). x.to) q in omega arith)
  not_entry e (inr (inl q)) h = absurd (let z = ap (λ (x : Edge). x.to) q in omega arith)
  not_entry e (inr (inr (inl q))) h = absurd (let z = ap (λ (x : Edge). x.to) q in omega arith)
  not_entry e (inr (inr (inr (inl q)))) h = absurd (let z = ap (λ (x : Edge). x.to) q in omega arith)
  not_entry e (inr (inr (inr (inr q)))) h = q

  pub if_begins : graph.banks ≡ if_banks → CanBegin graph
  if_begins banks = record {
    copies = subst (λ z. 5 * length z < 2 ^ 32) (sym banks) (omega arith);
    parts = λ b block h. subst Fits (ap (λ z. slice_get z b) (sym blocks) ∙ h) (each_fits b);
    entry = λ e h. not_entry e (listed e h);
    uncritical = no_critical (IsGraphEdge graph) if_edges listed refl;
  }

  module _ (m : MixedGraph) (from : FromGraph graph m) where
    nodes : m.nodes ≡ map Unused if_blocks
    nodes = from.blocks.nodes ∙ ap (map Unused) blocks

    pub at : (b : ℕ) → slice_get m.nodes b ≡ slice_get (map Unused if_blocks) b
    at b = ap (λ z. slice_get z b) nodes

    pub graph_edge : (e : Edge) → IsEdge m e → IsGraphEdge graph e
    graph_edge e (of_block {block = k} there t) = record { block = k; has = of_unused (slice_get graph.blocks e.from) k (sym (slice_get-map Unused graph.blocks e.from) ∙ ap (λ z. slice_get z e.from) (sym from.blocks.nodes) ∙ there); leads = t }
    graph_edge e (of_split r j p d y g word there in_word h) = no_region graph m from.blocks r g there
    graph_edge e (of_last r g there f t) = no_region graph m from.blocks r g there

    unused : (b : ℕ) → IsIn b (0 ∷ 1 ∷ 2 ∷ []) → (block : Block) × (slice_get m.nodes b ≡ Some (Unused block))
    unused b (inl e) = (record { ops = _; exit = _ }, ap (slice_get m.nodes) e ∙ at 0)
    unused b (inr (inl e)) = (record { ops = _; exit = _ }, ap (slice_get m.nodes) e ∙ at 1)
    unused b (inr (inr (inl e))) = (record { ops = _; exit = _ }, ap (slice_get m.nodes) e ∙ at 2)
    unused b (inr (inr (inr h))) = absurd h

    follow : (e : Edge) → IsIn e (edge 0 1 ∷ edge 1 2 ∷ []) → IsEdge m e
    follow e (inl q) = subst (IsEdge m) (sym q) (of_block (at 0) (inl refl))
    follow e (inr (inl q)) = subst (IsEdge m) (sym q) (of_block (at 1) (inl refl))
    follow e (inr (inr h)) = absurd h

    no_call : (e : Edge) (block : Block) → IsIn e (edge 0 1 ∷ edge 1 2 ∷ []) → slice_get m.nodes e.from ≡ Some (Unused block) → EndsWithCall block.exit → ⊥
    no_call e block (inl q) there = by (sym (at 0) ∙ ap (λ (x : Edge). slice_get m.nodes x.from) (sym q) ∙ there)
      where
        by : slice_get (map Unused if_blocks) 0 ≡ Some (Unused block) → EndsWithCall block.exit → ⊥
        by s = subst (λ o. Calls o → ⊥) s (λ h. h)
    no_call e block (inr (inl q)) there = by (sym (at 1) ∙ ap (λ (x : Edge). slice_get m.nodes x.from) (sym q) ∙ there)
      where
        by : slice_get (map Unused if_blocks) 1 ≡ Some (Unused block) → EndsWithCall block.exit → ⊥
        by s = subst (λ o. Calls o → ⊥) s (λ h. h)
    no_call e block (inr (inr h)) there = absurd h

    back : (e : Edge) → IsIn e if_edges → IsIn e.from (0 ∷ 1 ∷ 2 ∷ []) → IsIn e.to (1 ∷ 2 ∷ []) → IsIn e (edge 0 1 ∷ edge 1 2 ∷ [])
    back e (inl q) f t = inl q
    back e (inr (inl q)) f (inl t) = absurd (let z = ap (λ (x : Edge). x.to) q in omega arith)
    back e (inr (inl q)) f (inr (inl t)) = absurd (let z = ap (λ (x : Edge). x.to) q in omega arith)
    back e (inr (inl q)) f (inr (inr t)) = absurd t
    back e (inr (inr (inl q))) f t = inr (inl q)
    back e (inr (inr (inr (inl q)))) (inl f) t = absurd (let z = ap (λ (x : Edge). x.from) q in omega arith)
    back e (inr (inr (inr (inl q)))) (inr (inl f)) t = absurd (let z = ap (λ (x : Edge). x.from) q in omega arith)
    back e (inr (inr (inr (inl q)))) (inr (inr (inl f))) t = absurd (let z = ap (λ (x : Edge). x.from) q in omega arith)
    back e (inr (inr (inr (inl q)))) (inr (inr (inr f))) t = absurd f
    back e (inr (inr (inr (inr h)))) f t = absurd h

    pub if_traces : CanTrace m (0 ∷ 1 ∷ 2 ∷ [])
    if_traces = record {
      some = λ e. cc;
      unused = unused;
      once = (λ h. three h, (λ h. two h, ((λ h. h), tt)));
      follow = follow;
      no_call = no_call;
      back = λ e h. back e (listed e (graph_edge e h));
    }
      where
        three : IsIn {A = ℕ} 0 (1 ∷ 2 ∷ []) → ⊥
        three (inl e) = omega arith
        three (inr (inl e)) = omega arith
        three (inr (inr h)) = h

        two : IsIn {A = ℕ} 1 (2 ∷ []) → ⊥
        two (inl e) = omega arith
        two (inr h) = h

pub if_is_traced : IfIsTraced
if_is_traced = record { begins = if_begins; traces = λ graph m blocks from. if_traces graph blocks m from }
