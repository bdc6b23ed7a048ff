-- A graph is valid whatever the function's number.
use Rattle.std.proofs.Common.{ℕ}
use Rattle.vx_flow.specs.declared.graph.Edge.{Edge}
use Rattle.vx_flow.specs.declared.graph.Exit.{Exit}
use Rattle.vx_flow.specs.declared.graph.Exit.TheVariants.{Goto, Split as Branches, Call, Return, Ends}
use Rattle.vx_flow.specs.declared.graph.Op.{Op}
use Rattle.vx_mixed.specs.declared.mixed.MixedGraph.{MixedGraph}
use Rattle.vx_mixed.specs.Edges.{IsEdge, of_block, of_split, of_last}
use Rattle.vx_mixed.specs.Valid.{TestsBranch, IsOp, block_op, region_op, Valid}

module _ (m : MixedGraph) (function : ℕ) where
  abbrev M : MixedGraph
  M = record m { function = function }

  edge_back : (e : Edge) → IsEdge M e → IsEdge m e
  edge_back e (of_block at t) = of_block at t
  edge_back e (of_split r j p d y g word at in_word q) = of_split r j p d y g word at in_word q
  edge_back e (of_last r g at f t) = of_last r g at f t

  op_back : (op : Op) → IsOp M op → IsOp m op
  op_back op (block_op b k at i) = block_op b k at i
  op_back op (region_op r j cluster g word at in_word i) = region_op r j cluster g word at in_word i

  tests : (x : Exit) → TestsBranch m x → TestsBranch M x
  tests (Goto c) h = tt
  tests (Branches p c d) h = h
  tests (Call g arguments result next) h = tt
  tests (Return x) h = tt
  tests (Ends k) h = tt

  pub valid_whatever_function : Valid m → Valid (record m { function = function })
  valid_whatever_function v = record {
    copies = v.copies;
    origins = v.origins;
    clusters = v.clusters;
    block_parts = λ b k at. let h = v.block_parts b k at in (h.0, tests k.exit h.1);
    region_parts = λ r g at. let h = v.region_parts r g at in (h.0, tests g.last h.1);
    begins = v.begins;
    splits_from = v.splits_from;
    last_from = v.last_from;
    leads = λ e h. v.leads e (edge_back e h);
    entry = λ e h. v.entry e (edge_back e h);
    uncritical = λ e f g a b c. v.uncritical e f g (edge_back e a) (edge_back f b) (edge_back g c);
    one_way = λ e f a b. v.one_way e f (edge_back e a) (edge_back f b);
    enters = v.enters;
    names = v.names;
    copied = λ x u h. v.copied x u (op_back _ h);
    away = λ x u h. v.away x u (op_back _ h);
  }
