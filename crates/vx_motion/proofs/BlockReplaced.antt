-- Block 1 of the worked `if` without `else` can be traced by itself, and replaced.
use Rattle.std.proofs.Common.{◌≡◌, ℕ, ◌<◌, Some, None, [], ◌∷◌, length, map, slice_get, refl, sym, ap, ◌∙◌, subst, ⊎_elim, inl, inr, arith}
use Rattle.std.specs.Prelude.{◌*◌, if◌then◌else◌, replicate}
use Rattle.std.proofs.lemmas.Bool.{cases_lt}
use Rattle.vx_flow.specs.declared.graph.Block.{Block}
use Rattle.vx_flow.specs.declared.graph.Graph.{Graph}
use Rattle.vx_flow.specs.declared.graph.Op.{Op}
use Rattle.vx_flow.specs.declared.graph.Op.TheVariants.{Across}
use Rattle.vx_flow.specs.declared.trace.TraceOp.TheVariants.{Plain}
use Rattle.vx_flow.specs.declared.trace.Join.{Join}
use Rattle.vx_flow.specs.Effects.{IsIn}
use Rattle.vx_flow.specs.Sound.{arrays_of}
use Rattle.vx_mixed.specs.declared.region.Made.{Made}
use Rattle.vx_mixed.specs.declared.region.Node.TheVariants.{Unused}
use Rattle.vx_mixed.specs.declared.mixed.MixedGraph.{MixedGraph}
use Rattle.vx_motion.specs.AloneExample.{alone, IsAlone, BlockIsTraced, BlockIsReplaced}
use Rattle.vx_mixed.specs.CanReplace.{CanReplace, IsNamed, in_trace, in_made}
use Rattle.vx_mixed.specs.TraceItems.{splits_of}
use Rattle.vx_motion.specs.Example.{step}
use Rattle.vx_mixed.specs.FromGraph.{FromGraph, is_bound}
use Rattle.vx_mixed.specs.declared.replacement.Replacement.{Replacement}
use Rattle.vx_mixed.specs.Settled.{has_home}
use Rattle.vx_motion.specs.TraceExample.{if_blocks, if_banks}
use Rattle.vx_mixed.specs.TraceOf.{CanTrace, IsTraceOf, trace_ops, trace_fixed}
use Rattle.vx_mixed.specs.Valid.{names_of}
use Rattle.vx_motion.proofs.IfReplaced.{beyond}

-- a block that is in no region can be traced by itself
pub one_block : (m : MixedGraph) (b : ℕ) (block : Block) → slice_get m.nodes b ≡ Some (Unused block) → CanTrace m (b ∷ [])
one_block m b block at = record {
  some = λ e. cc;
  unused = unused;
  once = ((λ h. h), tt);
  follow = λ e h. absurd h;
  no_call = λ e k h there ends. h;
  back = λ e is from to. absurd to;
}
  where
    unused : (c : ℕ) → IsIn c (b ∷ []) → (k : Block) × (slice_get m.nodes c ≡ Some (Unused k))
    unused c (inl e) = (block, ap (slice_get m.nodes) e ∙ at)
    unused c (inr h) = absurd h

module _ (graph : Graph) (m : MixedGraph) (blocks : graph.blocks ≡ if_blocks) (from : FromGraph graph m) where
  nodes : m.nodes ≡ map Unused if_blocks
  nodes = from.blocks.nodes ∙ ap (map Unused) blocks

  origins : m.origins ≡ None ∷ None ∷ None ∷ None ∷ []
  origins = from.origins ∙ ap (λ bs. replicate (length bs) None) blocks

  step_traced : CanTrace m alone
  step_traced = one_block m 1 (record { ops = _; exit = _ }) (ap (λ ns. slice_get ns 1) nodes)

  module _ (r : Replacement) (banks : graph.banks ≡ if_banks) (trace : IsTraceOf m alone r.trace) (w : IsAlone r) where
    ops_are : r.trace.ops ≡ Plain step ∷ []
    ops_are = trace.ops ∙ ap (λ ns. trace_ops (record m { nodes = ns }) trace.live alone) nodes

    joins_are : r.trace.joins ≡ []
    joins_are = trace.joins

    fixed_long : length r.trace.fixed ≡ 1
    fixed_long =
        ap length trace.fixed
        ∙ ap (λ ns. length (trace_fixed (record m { nodes = ns }) trace.live alone)) nodes
        ∙ ap (λ os. length (trace_fixed (record m { nodes = map Unused if_blocks; origins = os }) trace.live alone)) origins

    ops_long : length r.trace.ops ≡ 1
    ops_long = ap length ops_are

    same_op : (op o : Op) → Plain op ≡ Plain o → o ≡ op
    same_op op o q = cc

    traced : (op : Op) → IsIn (Plain op) r.trace.ops → step ≡ op
    traced op h = by (subst (IsIn (Plain op)) ops_are h)
      where
        by : IsIn (Plain op) (Plain step ∷ []) → step ≡ op
        by (inl q) = same_op op step q
        by (inr q) = absurd q

    none_made : (x : Made) → IsIn x r.made → ⊥
    none_made x h = subst (IsIn x) w.made h

    none_joins : (j : Join) → IsIn j r.trace.joins → ⊥
    none_joins j h = subst (IsIn j) joins_are h

    few_values : 5 * length m.banks ≡ 35
    few_values = ap (λ bs. 5 * length bs) (from.blocks.banks ∙ banks)

    low : (v : ℕ) → IsIn v (2 ∷ 2 ∷ []) → v < 5 * length m.banks
    low v (inl q) = let n = few_values in omega arith
    low v (inr (inl q)) = let n = few_values in omega arith
    low v (inr (inr q)) = absurd q

    first_word : (k : ℕ) → IsIn k (0 ∷ []) → k < r.length
    first_word k (inl q) = let n = w.long in omega arith
    first_word k (inr q) = absurd q

    no_home : (v : ℕ) → has_home m.homes.clusters v ≡ None
    no_home v =
        ⊎_elim
        (λ l. from.homes.homes v l ∙ ap (λ bs. if is_bound (record graph { blocks = bs }) v then Some 0 else None) blocks)
        (λ g. beyond m.homes.clusters v (let n = from.homes.size in omega arith))
        (cases_lt v (length graph.banks))

    named : (op : Op) → IsNamed r op → step ≡ op
    named op (in_trace h) = traced op h
    named op (in_made x h i) = absurd (none_made x h)

    alone_can : CanReplace m r
    alone_can = record {
      trace = record {
        can = subst (CanTrace m) (sym trace.blocks_are) step_traced;
        plain = r.trace;
        is_trace = subst (λ bs. IsTraceOf m bs r.trace) (sym trace.blocks_are) trace;
        function = refl;
        values = refl;
        arrays = refl;
        splits = refl;
        join_blocks = refl;
        join_edges = refl;
      };
      formed = record {
        fixed = fixed_long ∙ sym ops_long;
        ascend = λ i j k a b. absurd (let z : None ≡ Some j = sym (ap (λ js. slice_get js i) joins_are) ∙ a in cc);
        places = λ j h. absurd (none_joins j h);
        arrays = λ op a h i. absurd (subst (λ o. IsIn a (arrays_of o)) (sym (traced op h)) i);
      };
      names = record {
        traced = λ op v h i. low v (subst (λ o. IsIn v (names_of o)) (sym (traced op h)) i);
        made = λ x op v h i. absurd (none_made x h);
        arrays = λ x op a h i. absurd (none_made x h);
      };
      lists = record {
        clusters = ap length w.clusters ∙ sym ops_long;
        words = ap length w.words ∙ sym ops_long;
        drains = ap length w.drains ∙ sym (ap (λ l. length (splits_of l)) ops_are);
        rejoins = ap length w.rejoins ∙ sym (ap length joins_are);
        made = λ x h. absurd (none_made x h);
      };
      words = record {
        words = λ k h. first_word k (subst (IsIn k) w.words h);
        rejoins = λ k h. absurd (subst (IsIn k) w.rejoins h);
      };
      made = record {
        made_where = λ x h. absurd (none_made x h);
        made_once = λ i k x y a b q. absurd (let z : None ≡ Some x = sym (ap (λ ms. slice_get ms i) w.made) ∙ a in cc);
      };
      stand = λ x i cluster op h o k. absurd (none_made x h);
      homes = λ v k h. absurd (let z : None ≡ Some k = sym (no_home v) ∙ h in cc);
      away = λ v u h. absurd (let z : step ≡ Across v u = named (Across v u) h in cc);
    }

pub block_is_traced : BlockIsTraced
block_is_traced graph m blocks from = step_traced graph m blocks from

pub block_is_replaced : BlockIsReplaced
block_is_replaced graph m r blocks banks from trace w = alone_can graph m blocks from r banks trace w
