-- The operations of a trace are those of its blocks.
use Rattle.std.proofs.Common.{◌⊎◌, inl, inr, refl, ℕ, Bool, true, false, List, [], ◌∷◌, map}
use Rattle.std.specs.Prelude.{◌==◌, if◌then◌else◌}
use Rattle.vx_flow.specs.declared.graph.Exit.{Exit}
use Rattle.vx_flow.specs.declared.graph.Exit.TheVariants.{Goto, Split as Branches, Call, Return, Ends}
use Rattle.vx_flow.specs.declared.graph.Op.{Op}
use Rattle.vx_flow.specs.declared.trace.TraceOp.TheVariants.{Plain as TracePlain, Split as TraceSplit}
use Rattle.vx_flow.specs.Effects.{IsIn}
use Rattle.vx_flow.specs.Walk.{edge}
use Rattle.vx_flow.proofs.Members.{in_either}
use Rattle.vx_mixed.specs.declared.mixed.MixedGraph.{MixedGraph}
use Rattle.vx_mixed.specs.TraceOf.{block_at, split_between, split_behind, block_ops, trace_ops}

no_plain_between : (live : ℕ → List ℕ) (b c : ℕ) (x : Exit) (op : Op) → IsIn (TracePlain op) (split_between live b x c) → ⊥
no_plain_between live b c (Goto d) op h = h
no_plain_between live b c (Call g arguments result next) op h = h
no_plain_between live b c (Return x) op h = h
no_plain_between live b c (Ends k) op h = h
no_plain_between live b c (Branches p d f) op h = by (d == c) h
  where
    by : (z : Bool) → IsIn (TracePlain op) (if z then TraceSplit p false (edge b f) (live f) ∷ [] else TraceSplit p true (edge b d) (live d) ∷ []) → ⊥
    by true (inl e) = cc
    by true (inr i) = i
    by false (inl e) = cc
    by false (inr i) = i

no_plain_behind : (live : ℕ → List ℕ) (b : ℕ) (x : Exit) (bs : List ℕ) (op : Op) → IsIn (TracePlain op) (split_behind live b x bs) → ⊥
no_plain_behind live b x [] op h = h
no_plain_behind live b x (c ∷ bs) op h = no_plain_between live b c x op h

of_plain : (ops : List Op) (op : Op) → IsIn (TracePlain op) (map TracePlain ops) → IsIn op ops
of_plain [] op h = h
of_plain (o ∷ ops) op (inl e) = inl (cc)
of_plain (o ∷ ops) op (inr h) = inr (of_plain ops op h)

module _ (m : MixedGraph) (live : ℕ → List ℕ) (op : Op) where
  pub record InBlock (blocks : List ℕ) : Type 0 where
    pub block : ℕ
    pub has : IsIn block blocks
    pub there : IsIn op (block_at m block).ops

  pub in_block : (blocks : List ℕ) → IsIn (TracePlain op) (trace_ops m live blocks) → InBlock blocks
  in_block [] h = absurd h
  in_block (b ∷ bs) h = by (in_either (TracePlain op) (block_ops m live b bs) (trace_ops m live bs) h) (in_block bs)
    where
      by : IsIn (TracePlain op) (block_ops m live b bs) ⊎ IsIn (TracePlain op) (trace_ops m live bs) → (IsIn (TracePlain op) (trace_ops m live bs) → InBlock bs) → InBlock (b ∷ bs)
      by (inl a) more = elim (in_either (TracePlain op) (map TracePlain (block_at m b).ops) (split_behind live b (block_at m b).exit bs) a) [
        | inl i ↦ record { block = b; has = inl refl; there = of_plain (block_at m b).ops op i }
        | inr i ↦ absurd (no_plain_behind live b (block_at m b).exit bs op i)
      ]
      by (inr a) more = let r = more a in record { block = r.block; has = inr r.has; there = r.there }
