-- Blocks 0 and 1 of the worked `if` without `else` can be traced, and replaced with no block made.
use Rattle.std.proofs.Common.{◌≡◌, ℕ, ◌<◌, Bool, false, Some, None, List, [], ◌∷◌, length, map, slice_get, refl, sym, ap, ◌∙◌, subst, ⊎_elim, inl, inr, arith}
use Rattle.std.specs.Prelude.{◌⊎◌, ◌*◌, if◌then◌else◌, replicate}
use Rattle.std.proofs.lemmas.Bool.{cases_lt}
use Rattle.vx_flow.specs.declared.graph.Block.{Block}
use Rattle.vx_flow.specs.declared.graph.Edge.{Edge}
use Rattle.vx_flow.specs.declared.graph.Graph.{Graph}
use Rattle.vx_flow.specs.declared.graph.Op.{Op}
use Rattle.vx_flow.specs.declared.graph.Op.TheVariants.{Across}
use Rattle.vx_flow.specs.declared.trace.TraceOp.{TraceOp}
use Rattle.vx_flow.specs.declared.trace.TraceOp.TheVariants.{Plain, Split}
use Rattle.vx_flow.specs.declared.trace.Join.{Join}
use Rattle.vx_flow.specs.Effects.{IsIn}
use Rattle.vx_flow.specs.Sound.{arrays_of}
use Rattle.vx_flow.specs.Walk.{edge}
use Rattle.vx_mixed.specs.declared.region.Made.{Made}
use Rattle.vx_mixed.specs.declared.region.Node.TheVariants.{Unused}
use Rattle.vx_mixed.specs.declared.mixed.MixedGraph.{MixedGraph}
use Rattle.vx_motion.specs.AloneExample.{two, IsPair, PairIsTraced, PairIsReplaced}
use Rattle.vx_mixed.specs.CanReplace.{CanReplace, IsNamed, in_trace, in_made}
use Rattle.vx_mixed.specs.TraceItems.{splits_of}
use Rattle.vx_mixed.specs.Edges.{IsEdge, of_block}
use Rattle.vx_motion.specs.Example.{sum, test, step}
use Rattle.vx_mixed.specs.FromGraph.{FromGraph, is_bound}
use Rattle.vx_mixed.specs.declared.replacement.Replacement.{Replacement}
use Rattle.vx_mixed.specs.Settled.{has_home}
use Rattle.vx_motion.specs.TraceExample.{if_blocks, if_banks}
use Rattle.vx_mixed.specs.TraceOf.{CanTrace, EndsWithCall, IsTraceOf, trace_ops, trace_fixed, trace_joins}
use Rattle.vx_mixed.specs.Valid.{names_of}
use Rattle.vx_mixed.proofs.BlockEdges.{block_edges_are}
use Rattle.vx_motion.proofs.IfReplaced.{Below, below, beyond, same_lists}
use Rattle.vx_motion.proofs.Traced.{Calls, at, graph_edge, if_edges, listed}

abbrev pair_ops : List ℕ → List TraceOp
pair_ops live = Plain sum ∷ Plain test ∷ Split 6 false (edge 0 3) live ∷ Plain step ∷ []

same_op : (op o : Op) → Plain op ≡ Plain o → o ≡ op
same_op op o q = cc

not_split : (op : Op) (p : ℕ) (y : Bool) (e : Edge) (vs : List ℕ) → Plain op ≡ Split p y e vs → ⊥
not_split op p y e vs q = cc

in_pair : (live : List ℕ) (P : Op → Type 0) → P sum → P test → P step → (op : Op) → IsIn (Plain op) (pair_ops live) → P op
in_pair live P a b c op (inl q) = subst P (same_op op sum q) a
in_pair live P a b c op (inr (inl q)) = subst P (same_op op test q) b
in_pair live P a b c op (inr (inr (inl q))) = absurd (not_split op 6 false (edge 0 3) live q)
in_pair live P a b c op (inr (inr (inr (inl q)))) = subst P (same_op op step q) c
in_pair live P a b c op (inr (inr (inr (inr h)))) = absurd h

abbrev Worked : Op → Type 0
Worked op = (op ≡ sum) ⊎ ((op ≡ test) ⊎ (op ≡ step))

no_across : (op : Op) (v u : ℕ) → op ≡ Across v u → Worked op → ⊥
no_across op v u q (inl e) = let z : Across v u ≡ sum = sym q ∙ e in cc
no_across op v u q (inr (inl e)) = let z : Across v u ≡ test = sym q ∙ e in cc
no_across op v u q (inr (inr e)) = let z : Across v u ≡ step = sym q ∙ e in cc

module _ (graph : Graph) (m : MixedGraph) (blocks : graph.blocks ≡ if_blocks) (from : FromGraph graph m) where
  nodes : m.nodes ≡ map Unused if_blocks
  nodes = from.blocks.nodes ∙ ap (map Unused) blocks

  origins : m.origins ≡ None ∷ None ∷ None ∷ None ∷ []
  origins = from.origins ∙ ap (λ bs. replicate (length bs) None) blocks

  -- the trace

  unused : (b : ℕ) → IsIn b two → (block : Block) × (slice_get m.nodes b ≡ Some (Unused block))
  unused b (inl e) = (record { ops = _; exit = _ }, ap (slice_get m.nodes) e ∙ at graph blocks m from 0)
  unused b (inr (inl e)) = (record { ops = _; exit = _ }, ap (slice_get m.nodes) e ∙ at graph blocks m from 1)
  unused b (inr (inr h)) = absurd h

  follow : (e : Edge) → IsIn e (edge 0 1 ∷ []) → IsEdge m e
  follow e (inl q) = subst (IsEdge m) (sym q) (of_block (at graph blocks m from 0) (inl refl))
  follow e (inr h) = absurd h

  no_call : (e : Edge) (block : Block) → IsIn e (edge 0 1 ∷ []) → slice_get m.nodes e.from ≡ Some (Unused block) → EndsWithCall block.exit → ⊥
  no_call e block (inl q) there = by (sym (at graph blocks m from 0) ∙ ap (λ (x : Edge). slice_get m.nodes x.from) (sym q) ∙ there)
    where
      by : slice_get (map Unused if_blocks) 0 ≡ Some (Unused block) → EndsWithCall block.exit → ⊥
      by s = subst (λ o. Calls o → ⊥) s (λ h. h)
  no_call e block (inr h) there = absurd h

  back : (e : Edge) → IsIn e if_edges → IsIn e.from two → IsIn e.to (1 ∷ []) → IsIn e (edge 0 1 ∷ [])
  back e (inl q) f t = inl q
  back e (inr (inl q)) f (inl t) = absurd (let z = ap (λ (x : Edge). x.to) q in omega arith)
  back e (inr (inl q)) f (inr t) = absurd t
  back e (inr (inr (inl q))) f (inl t) = absurd (let z = ap (λ (x : Edge). x.to) q in omega arith)
  back e (inr (inr (inl q))) f (inr t) = absurd t
  back e (inr (inr (inr (inl q)))) f (inl t) = absurd (let z = ap (λ (x : Edge). x.to) q in omega arith)
  back e (inr (inr (inr (inl q)))) f (inr t) = absurd t
  back e (inr (inr (inr (inr h)))) f t = absurd h

  pair_traced : CanTrace m two
  pair_traced = record {
    some = λ e. cc;
    unused = unused;
    once = (apart, ((λ h. h), tt));
    follow = follow;
    no_call = no_call;
    back = λ e h. back e (listed graph blocks e (graph_edge graph blocks m from e h));
  }
    where
      apart : IsIn {A = ℕ} 0 (1 ∷ []) → ⊥
      apart (inl e) = omega arith
      apart (inr h) = h

  module _ (r : Replacement) (banks : graph.banks ≡ if_banks) (trace : IsTraceOf m two r.trace) (w : IsPair r) where
    edges_are : trace.edges ≡ if_edges
    edges_are =
        let all = block_edges_are m if_blocks nodes from.blocks.regions in
        same_lists trace.edges if_edges trace.all_edges.ascending all.ascending (λ e h. (all.exact e).1 ((trace.all_edges.exact e).0 h)) (λ e h. (trace.all_edges.exact e).1 ((all.exact e).0 h))

    ops_are : r.trace.ops ≡ pair_ops (trace.live 3)
    ops_are = trace.ops ∙ ap (λ ns. trace_ops (record m { nodes = ns }) trace.live two) nodes

    joins_are : r.trace.joins ≡ []
    joins_are =
        trace.joins
        ∙ ap (λ es. trace_joins m trace.live es two) edges_are
        ∙ ap (λ ns. trace_joins (record m { nodes = ns }) trace.live if_edges two) nodes

    fixed_long : length r.trace.fixed ≡ 4
    fixed_long =
        ap length trace.fixed
        ∙ ap (λ ns. length (trace_fixed (record m { nodes = ns }) trace.live two)) nodes
        ∙ ap (λ os. length (trace_fixed (record m { nodes = map Unused if_blocks; origins = os }) trace.live two)) origins

    ops_long : length r.trace.ops ≡ 4
    ops_long = ap length ops_are

    traced : (P : Op → Type 0) → P sum → P test → P step → (op : Op) → IsIn (Plain op) r.trace.ops → P op
    traced P a b c op h = in_pair (trace.live 3) P a b c op (subst (IsIn (Plain op)) ops_are h)

    none_made : (x : Made) → IsIn x r.made → ⊥
    none_made x h = subst (IsIn x) w.made h

    none_joins : (j : Join) → IsIn j r.trace.joins → ⊥
    none_joins j h = subst (IsIn j) joins_are h

    few_values : 5 * length m.banks ≡ 35
    few_values = ap (λ bs. 5 * length bs) (from.blocks.banks ∙ banks)

    low : (vs : List ℕ) (v : ℕ) → Below 35 vs → IsIn v vs → v < 5 * length m.banks
    low vs v b h = let k = below 35 vs v b h in let n = few_values in omega arith

    no_home : (v : ℕ) → has_home m.homes.clusters v ≡ None
    no_home v =
        ⊎_elim
        (λ l. from.homes.homes v l ∙ ap (λ bs. if is_bound (record graph { blocks = bs }) v then Some 0 else None) blocks)
        (λ g. beyond m.homes.clusters v (let n = from.homes.size in omega arith))
        (cases_lt v (length graph.banks))

    named : (op : Op) → IsNamed r op → Worked op
    named op (in_trace h) = traced Worked (inl refl) (inr (inl refl)) (inr (inr refl)) op h
    named op (in_made x h i) = absurd (none_made x h)

    pair_can : CanReplace m r
    pair_can = record {
      trace = record {
        can = subst (CanTrace m) (sym trace.blocks_are) pair_traced;
        plain = r.trace;
        is_trace = subst (λ bs. IsTraceOf m bs r.trace) (sym trace.blocks_are) trace;
        function = refl;
        values = refl;
        arrays = refl;
        splits = refl;
        join_blocks = refl;
        join_edges = refl;
      };
      formed = record {
        fixed = fixed_long ∙ sym ops_long;
        ascend = λ i j k a b. absurd (let z : None ≡ Some j = sym (ap (λ js. slice_get js i) joins_are) ∙ a in cc);
        places = λ j h. absurd (none_joins j h);
        arrays = λ op a h i. traced (λ o. IsIn a (arrays_of o) → a < length r.trace.arrays) (λ z. absurd z) (λ z. absurd z) (λ z. absurd z) op h i;
      };
      names = record {
        traced = λ op v h. traced (λ o. IsIn v (names_of o) → v < 5 * length m.banks) (low (1 ∷ 3 ∷ []) v (omega arith, (omega arith, tt))) (low (1 ∷ 6 ∷ []) v (omega arith, (omega arith, tt))) (low (2 ∷ 2 ∷ []) v (omega arith, (omega arith, tt))) op h;
        made = λ x op v h i. absurd (none_made x h);
        arrays = λ x op a h i. absurd (none_made x h);
      };
      lists = record {
        clusters = ap length w.clusters ∙ sym ops_long;
        words = ap length w.words ∙ sym ops_long;
        drains = ap length w.drains ∙ sym (ap (λ l. length (splits_of l)) ops_are);
        rejoins = ap length w.rejoins ∙ sym (ap length joins_are);
        made = λ x h. absurd (none_made x h);
      };
      words = record {
        words = λ k h. let n = w.long in let l = below 3 (0 ∷ 0 ∷ 1 ∷ 2 ∷ []) k (omega arith, (omega arith, (omega arith, (omega arith, tt)))) (subst (IsIn k) w.words h) in omega arith;
        rejoins = λ k h. absurd (subst (IsIn k) w.rejoins h);
      };
      made = record {
        made_where = λ x h. absurd (none_made x h);
        made_once = λ i k x y a b q. absurd (let z : None ≡ Some x = sym (ap (λ ms. slice_get ms i) w.made) ∙ a in cc);
      };
      stand = λ x i cluster op h o k. absurd (none_made x h);
      homes = λ v k h. absurd (let z : None ≡ Some k = sym (no_home v) ∙ h in cc);
      away = λ v u h. absurd (no_across (Across v u) v u refl (named (Across v u) h));
    }

pub pair_is_traced : PairIsTraced
pair_is_traced graph m blocks from = pair_traced graph m blocks from

pub pair_is_replaced : PairIsReplaced
pair_is_replaced graph m r blocks banks from trace w = pair_can graph m blocks from r banks trace w
