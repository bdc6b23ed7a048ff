-- A graph after a replacement whose arguments fit is valid.
use Rattle.std.proofs.Common.{◌≡◌, ◌≢◌, ℕ, zero, suc, ◌+◌, ◌-◌, ◌<◌, ◌≤◌, Bool, true, false, Option, Some, None, List, [], ◌∷◌, ◌++◌, length, map, slice_get, refl, sym, ap, ◌∙◌, subst, ⊎_elim, inl, inr, arith}
use Rattle.std.specs.Prelude.{◌⊎◌, ◌==◌, ◌/◌, nat_le, if◌then◌else◌}
use Rattle.std.specs.List.{list_any}
use Rattle.std.proofs.lemmas.Bool.{le-ltb}
use Rattle.std.proofs.lemmas.List.{length-append, length-map}
use Rattle.vx_flow.specs.declared.graph.Block.{Block}
use Rattle.vx_flow.specs.declared.graph.Edge.{Edge}
use Rattle.vx_flow.specs.declared.graph.Exit.{Exit}
use Rattle.vx_flow.specs.declared.graph.Exit.TheVariants.{Goto, Split as Branches, Call, Return, Ends}
use Rattle.vx_flow.specs.declared.graph.Op.{Op}
use Rattle.vx_flow.specs.declared.graph.Op.TheVariants.{Across}
use Rattle.vx_flow.specs.declared.trace.TraceOp.TheVariants.{Plain as TracePlain}
use Rattle.vx_flow.specs.declared.trace.Join.{Join}
use Rattle.vx_flow.specs.Effects.{IsIn, dismissed}
use Rattle.vx_flow.specs.Live.{reads_of_exit}
use Rattle.vx_flow.specs.Sound.{targets_of, results_of_exit}
use Rattle.vx_flow.specs.Walk.{edge, numbers}
use Rattle.vx_flow.proofs.IndexSteps.{get_below}
use Rattle.vx_mixed.specs.declared.region.Item.{Item}
use Rattle.vx_mixed.specs.declared.region.Item.TheVariants.{Plain, Split}
use Rattle.vx_mixed.specs.declared.region.Made.{Made}
use Rattle.vx_mixed.specs.declared.region.Node.{Node}
use Rattle.vx_mixed.specs.declared.region.Node.TheVariants.{Unused, Enters, Inner}
use Rattle.vx_mixed.specs.declared.region.Origin.{Origin}
use Rattle.vx_mixed.specs.declared.region.Region.{Region}
use Rattle.vx_mixed.specs.declared.mixed.MixedGraph.{MixedGraph}
use Rattle.vx_mixed.specs.CanReplace.{CanReplace, IsNamed, in_trace, in_made, StaysValid}
use Rattle.vx_mixed.specs.Edges.{IsEdge, of_block, of_last}
use Rattle.vx_mixed.specs.Next.{Replacement, made_on, new_end, renamed_exit, renamed_region, renamed_node, freed, placed, in_word, last_of, exit_in, new_region, rejoin_at, entered_at, trace_node, made_node, made_origin, nodes_from, next_mixed, rename}
use Rattle.vx_mixed.specs.Settled.{has_home, home_of}
use Rattle.vx_mixed.specs.TraceOf.{inner_edges}
use Rattle.vx_mixed.specs.Valid.{PartsWays, TestsBranch, is_entrance, is_in_region, IsMade, IsOp, block_op, region_op, Names, Valid}
use Rattle.vx_mixed.proofs.Linked.{Linkable, some_blocks, in_index, index_in, some_same, in_edge, can, unused, no_region, from_below, to_below, off_trace, joins, joins_at, join_node, made_number, at_end, entrance_there, region_there}
use Rattle.vx_mixed.proofs.NewBlocks.{AtNode, first_one, further, outside, node_kind, OldBlock, MadeBlock, new_block, NewEdge, renamed, from_made, new_edge, from_placed, split_of, op_of, word_of, last_in}
use Rattle.vx_mixed.proofs.NewNodes.{nodes_length, made_some, made_here, node_new, node_old, node_made, origin_old, origin_made, of_regions}
use Rattle.vx_mixed.proofs.Renames.{old_word, old_split, old_op}
use Rattle.vx_mixed.proofs.TraceFacts.{is_split}

abbrev pub linkable : {m : MixedGraph} {r : Replacement} → CanReplace m r → Linkable m r
linkable c = record {
  can = c.trace.can;
  plain = c.trace.plain;
  is_trace = c.trace.is_trace;
  splits = c.trace.splits;
  join_blocks = c.trace.join_blocks;
  join_edges = c.trace.join_edges;
  made_where = c.made.made_where;
}

there : {A : Type 0} (xs : List A) (i : ℕ) → i < length xs → (x : A) × (slice_get xs i ≡ Some x)
there [] i h = absurd (omega arith)
there (x ∷ xs) zero h = (x, refl)
there (x ∷ xs) (suc i) h = there xs i (omega arith)

-- what is renamed keeps what it reads and writes

reads_renamed : (f : ℕ → ℕ) (x : Exit) → reads_of_exit (renamed_exit f x) ≡ reads_of_exit x
reads_renamed f (Goto c) = refl
reads_renamed f (Branches p c d) = refl
reads_renamed f (Call g arguments result next) = refl
reads_renamed f (Return x) = refl
reads_renamed f (Ends k) = refl

results_renamed : (f : ℕ → ℕ) (x : Exit) → results_of_exit (renamed_exit f x) ≡ results_of_exit x
results_renamed f (Goto c) = refl
results_renamed f (Branches p c d) = refl
results_renamed f (Call g arguments None next) = refl
results_renamed f (Call g arguments (Some v) next) = refl
results_renamed f (Return x) = refl
results_renamed f (Ends k) = refl

-- a copy across that is placed was one before
across_freed : (w : ℕ) (above : List ℕ) (op : Op) (v u : ℕ) → Across v u ≡ freed w above op → op ≡ Across v u
across_freed w above op v u e = by (list_any (λ s. nat_le w s) above) op e
  where
    by : (b : Bool) (op : Op) → Across v u ≡ (if b then dismissed op else op) → op ≡ Across v u
    by false op e = sym e
    by true (Across z y) e = sym e
    by true op e = absurd (cc)

module _ (m : MixedGraph) (r : Replacement) (valid : Valid m) (c : CanReplace m r) (first : ℕ) (others : List ℕ) (blocks_are : r.trace.blocks ≡ first ∷ others) where
  abbrev New : MixedGraph
  New = next_mixed m r

  abbrev N : ℕ
  N = length m.nodes

  abbrev To : ℕ → ℕ → ℕ
  To = new_end m r.made

  abbrev Blocks : List ℕ
  Blocks = first ∷ others

  abbrev Inside : ℕ → ℕ → Type 0
  Inside a b = IsIn (edge a b) (inner_edges Blocks)

  abbrev L : Linkable m r
  L = linkable c

  abbrev Block_new : (b : ℕ) (k : Block) → slice_get New.nodes b ≡ Some (Unused k) → OldBlock m r valid L first others blocks_are b k ⊎ MadeBlock m r valid L first others blocks_are b k
  Block_new = new_block m r valid L first others blocks_are

  abbrev Edge_new : (e : Edge) → IsEdge New e → NewEdge m r valid L first others blocks_are e
  Edge_new = new_edge m r valid L first others blocks_are

  kind : (b : ℕ) (o : Node) → AtNode m r valid L first others blocks_are b o (trace_node m r r.trace.blocks b o)
  kind = node_kind m r valid L first others blocks_are

  -- ends of edges

  pub made_end : (a b d : ℕ) → made_on N r.made (edge a b) ≡ Some d → (To a b ≡ d) × (N ≤ d)
  made_end a b d q = (at_end m r valid L first others blocks_are a b (Some d) q, made_number m r valid L first others blocks_are a b d q)

  pub plain_end : (a b : ℕ) → made_on N r.made (edge a b) ≡ None → To a b ≡ b
  plain_end a b q = at_end m r valid L first others blocks_are a b None q

  pub data Ends_alike (a b d e : ℕ) : Type 0 where
    one_edge : edge a b ≡ edge d e → Ends_alike a b d e
    one_block : b ≡ e → made_on N r.made (edge a b) ≡ None → made_on N r.made (edge d e) ≡ None → Ends_alike a b d e

  pub ends_alike : (a b d e : ℕ) → b < N → e < N → To a b ≡ To d e → Ends_alike a b d e
  ends_alike a b d e bl el same = by (made_on N r.made (edge a b)) (made_on N r.made (edge d e)) refl refl
    where
      by : (x y : Option ℕ) → made_on N r.made (edge a b) ≡ x → made_on N r.made (edge d e) ≡ y → Ends_alike a b d e
      by None None p q = one_block (sym (plain_end a b p) ∙ same ∙ plain_end d e q) p q
      by None (Some y) p q = let f = made_end d e y q in let n = f.1 in absurd (let z : b ≡ y = sym (plain_end a b p) ∙ same ∙ f.0 in omega arith)
      by (Some x) None p q = let f = made_end a b x p in let n = f.1 in absurd (let z : e ≡ x = sym (plain_end d e q) ∙ sym same ∙ f.0 in omega arith)
      by (Some x) (Some y) p q =
          let f = made_some N r.made (edge a b) x p in
          let g = made_some N r.made (edge d e) y q in
          let xy : x ≡ y = sym (made_end a b x p).0 ∙ same ∙ (made_end d e y q).0 in
          let fx = f.number in
          let gy = g.number in
          let i : f.index ≡ g.index = omega arith in
          let one = some_same (slice_get r.made g.index) f.item g.item (subst (λ k. slice_get r.made k ≡ Some f.item) i f.has) g.has in
          one_edge (sym f.where_ ∙ ap (λ (z : Made). z.edge) one ∙ g.where_)

  -- the end of an edge on which no block is made, where it is that of a made block's edge
  end_unmade : (a b i : ℕ) (x : Made) → slice_get r.made i ≡ Some x → x.edge.to < N → To a b ≡ x.edge.to → (b ≡ x.edge.to) × (made_on N r.made (edge a b) ≡ None)
  end_unmade a b i x h low same = by (made_on N r.made (edge a b)) refl
    where
      by : (o : Option ℕ) → made_on N r.made (edge a b) ≡ o → (b ≡ x.edge.to) × (made_on N r.made (edge a b) ≡ None)
      by None q = (sym (plain_end a b q) ∙ same, q)
      by (Some d) q = let f = made_end a b d q in let n = f.1 in absurd (let z : x.edge.to ≡ d = sym same ∙ f.0 in omega arith)

  not_made : (e : Edge) (i : ℕ) (x : Made) → slice_get r.made i ≡ Some x → x.edge ≡ e → made_on N r.made e ≡ None → ⊥
  not_made e i x h q n = let w = made_here N r.made i x h in let z : None ≡ Some w.0 = sym n ∙ ap (made_on N r.made) (sym q) ∙ w.1 in cc

  -- made blocks stand on edges of the graph
  made_edge : (i : ℕ) (x : Made) → slice_get r.made i ≡ Some x → IsEdge m (edge x.edge.from x.edge.to) × (Inside x.edge.from x.edge.to → ⊥)
  made_edge i x h =
      ⊎_elim
      (λ s. let o = off_trace m r valid L first others blocks_are x.edge.from x.edge.to s in (o.is_edge, o.outer))
      (λ j. let o = joins m r valid L first others blocks_are j.0 x.edge.from x.edge.to j.1 j.2 in (o.is_edge, o.outer))
      (c.made.made_where x (index_in r.made i x h))

  pub low_to : (a b : ℕ) → IsEdge m (edge a b) → b < N
  low_to a b e = to_below m r valid L first others blocks_are a b e

  pub low_from : (a b : ℕ) → IsEdge m (edge a b) → a < N
  low_from a b e = from_below m r valid L first others blocks_are a b e

  pub made_low : (i : ℕ) (x : Made) → slice_get r.made i ≡ Some x → x.edge.to < N
  made_low i x h = low_to x.edge.from x.edge.to (made_edge i x h).0

  -- entrances

  old_at : (b : ℕ) (o : Node) → slice_get m.nodes b ≡ Some o → slice_get New.nodes b ≡ Some (trace_node m r r.trace.blocks b o)
  old_at b o h = node_old m r b o h

  entrance_kept : (to : ℕ → ℕ → ℕ) (b : ℕ) (o : Node) → is_entrance (Some o) ≡ true → is_entrance (Some (renamed_node to b o)) ≡ true
  entrance_kept to b (Unused k) h = refl
  entrance_kept to b (Enters q w) h = refl
  entrance_kept to b Inner h = absurd (cc)

  rejoin_word : (j : Join) → IsIn j r.trace.joins → (i : ℕ) × (w : ℕ) × (slice_get r.trace.joins i ≡ Some j) × (slice_get r.rejoins i ≡ Some w)
  rejoin_word j h =
      let i = in_index r.trace.joins j h in
      let low = get_below r.trace.joins i.0 j i.1 in
      let many = c.lists.rejoins in
      let w = there r.rejoins i.0 (omega arith) in
      (i.0, w.0, i.1, w.1)

  target_is : (a b : ℕ) → IsEdge m (edge a b) → (Inside a b → ⊥) → is_entrance (slice_get New.nodes b) ≡ true
  target_is a b e n =
      let o = entrance_there (slice_get m.nodes b) (valid.leads (edge a b) e) in
      by o.0 o.1 (kind b o.0)
    where
      by : (o : Node) → slice_get m.nodes b ≡ Some o → AtNode m r valid L first others blocks_are b o (trace_node m r r.trace.blocks b o) → is_entrance (slice_get New.nodes b) ≡ true
      by o at (first_one q s) = ap is_entrance (old_at b o at ∙ ap Some s)
      by o at (further q s) =
          let j = joins_at m r valid L first others blocks_are a b e q n in
          let w = rejoin_word j.0 j.1 in
          ap is_entrance (ap (slice_get New.nodes) (sym j.2) ∙ join_node m r valid L first others blocks_are w.0 w.1 j.0 w.2 w.3 (subst (λ z. IsIn z others) (sym j.2) q))
      by o at (outside q s) = ap is_entrance (old_at b o at ∙ ap Some s) ∙ entrance_kept To b o (sym (ap is_entrance at) ∙ valid.leads (edge a b) e)

  new_leads : (e : Edge) → IsEdge New e → is_entrance (slice_get New.nodes e.to) ≡ true
  new_leads e h = by (Edge_new e h)
    where
      by : NewEdge m r valid L first others blocks_are e → is_entrance (slice_get New.nodes e.to) ≡ true
      by (renamed a b old n f t) = ap (λ z. is_entrance (slice_get New.nodes z)) t ∙ at (made_on N r.made (edge a b)) refl
        where
          at : (o : Option ℕ) → made_on N r.made (edge a b) ≡ o → is_entrance (slice_get New.nodes (To a b)) ≡ true
          at None q = ap (λ z. is_entrance (slice_get New.nodes z)) (plain_end a b q) ∙ target_is a b old n
          at (Some d) q =
              let x = made_some N r.made (edge a b) d q in
              ap (λ z. is_entrance (slice_get New.nodes z)) ((made_end a b d q).0 ∙ x.number) ∙ ap is_entrance (node_made m r x.index x.item x.has)
      by (from_made i x has f t) = let old = made_edge i x has in ap (λ z. is_entrance (slice_get New.nodes z)) t ∙ target_is x.edge.from x.edge.to old.0 old.1

  new_entry : (e : Edge) → IsEdge New e → e.to ≢ 0
  new_entry e h z = by (Edge_new e h)
    where
      by : NewEdge m r valid L first others blocks_are e → ⊥
      by (renamed a b old n f t) = at (made_on N r.made (edge a b)) refl
        where
          at : (o : Option ℕ) → made_on N r.made (edge a b) ≡ o → ⊥
          at None q = valid.entry (edge a b) old (sym (plain_end a b q) ∙ sym t ∙ z)
          at (Some d) q = let k = made_end a b d q in let low = low_to a b old in let n' = k.1 in absurd (let y : d ≡ 0 = sym k.0 ∙ sym t ∙ z in omega arith)
      by (from_made i x has f t) = valid.entry (edge x.edge.from x.edge.to) (made_edge i x has).0 (sym t ∙ z)

  -- no edge is critical

  edge_is : (e f : Edge) → e.from ≡ f.from → e.to ≡ f.to → e ≡ f
  edge_is e f p q = ap (λ z. edge z e.to) p ∙ ap (λ z. edge f.from z) q

  alike_to : (a b d e : ℕ) → edge a b ≡ edge d e → To a b ≡ To d e
  alike_to a b d e h = ap (λ (z : Edge). To z.from z.to) h

  new_uncritical : (e f g : Edge) → IsEdge New e → IsEdge New f → IsEdge New g → f.from ≡ e.from → g.to ≡ e.to → (f ≡ e) ⊎ (g ≡ e)
  new_uncritical e f g he hf hg p q = by (Edge_new e he) (Edge_new f hf) (Edge_new g hg)
    where
      old : (a b d h k : ℕ) → IsEdge m (edge a b) → IsEdge m (edge d h) → IsEdge m (edge k b) → d ≡ a → e.from ≡ a → e.to ≡ To a b → f.from ≡ d → f.to ≡ To d h → (edge d h ≡ edge a b → f ≡ e)
      old a b d h k ea ed ek da ef et ff ft s = edge_is f e p (ft ∙ alike_to d h a b s ∙ sym et)

      by : NewEdge m r valid L first others blocks_are e → NewEdge m r valid L first others blocks_are f → NewEdge m r valid L first others blocks_are g → (f ≡ e) ⊎ (g ≡ e)
      by (renamed a b ea na ef et) (from_made i x has ff ft) h = absurd (let low = low_from a b ea in omega (arith, p, ef, ff))
      by (from_made i x has ef et) (renamed d k ed nd ff ft) h = absurd (let low = low_from d k ed in omega (arith, p, ef, ff))
      by (from_made i x has ef et) (from_made j y has' ff ft) h =
          let ij : j ≡ i = omega (arith, p, ef, ff) in
          let one = some_same (slice_get r.made i) y x (subst (λ z. slice_get r.made z ≡ Some y) ij has') has in
          inl (edge_is f e p (ft ∙ ap (λ (z : Made). z.edge.to) one ∙ sym et))
      by (renamed a b ea na ef et) (renamed d k ed nd ff ft) (renamed u v eu nu gf gt) = at (ends_alike u v a b (low_to u v eu) (low_to a b ea) (sym gt ∙ q ∙ et))
        where
          at : Ends_alike u v a b → (f ≡ e) ⊎ (g ≡ e)
          at (one_edge s) = inr (edge_is g e (gf ∙ ap (λ (z : Edge). z.from) s ∙ sym ef) q)
          at (one_block s none none') =
              ⊎_elim
              (λ z. inl (edge_is f e p (ft ∙ alike_to d k a b z ∙ sym et)))
              (λ z. inr (edge_is g e (gf ∙ ap (λ (z : Edge). z.from) z ∙ sym ef) q))
              (valid.uncritical (edge a b) (edge d k) (edge u v) ea ed eu (sym ff ∙ p ∙ ef) s)
      by (renamed a b ea na ef et) (renamed d k ed nd ff ft) (from_made i x has gf gt) =
          let s = end_unmade a b i x has (made_low i x has) (sym et ∙ sym q ∙ gt) in
          ⊎_elim
          (λ z. inl (edge_is f e p (ft ∙ alike_to d k a b z ∙ sym et)))
          (λ z. absurd (not_made (edge a b) i x has z s.1))
          (valid.uncritical (edge a b) (edge d k) (edge x.edge.from x.edge.to) ea ed (made_edge i x has).0 (sym ff ∙ p ∙ ef) (sym s.0))

  -- a made block is entered by one edge

  made_before : (b : ℕ) → b < N → IsMade New b → IsMade m b
  made_before b low h = let many = valid.origins in (h.0, sym (origin_old m r b (omega arith)) ∙ h.1)

  new_one_way : (e f : Edge) → IsEdge New e → IsEdge New f → IsMade New e.to → f.to ≡ e.to → f ≡ e
  new_one_way e f he hf is q = by (Edge_new e he) (Edge_new f hf)
    where
      by : NewEdge m r valid L first others blocks_are e → NewEdge m r valid L first others blocks_are f → f ≡ e
      by (renamed a b ea na ef et) (renamed d k ed nd ff ft) = at (ends_alike d k a b (low_to d k ed) (low_to a b ea) (sym ft ∙ q ∙ et))
        where
          at : Ends_alike d k a b → f ≡ e
          at (one_edge s) = edge_is f e (ff ∙ ap (λ (z : Edge). z.from) s ∙ sym ef) q
          at (one_block s none none') =
              let here : e.to ≡ b = et ∙ plain_end a b none' in
              let was = made_before b (low_to a b ea) (subst (IsMade New) here is) in
              let z = valid.one_way (edge a b) (edge d k) ea ed was s in
              edge_is f e (ff ∙ ap (λ (z : Edge). z.from) z ∙ sym ef) q
      by (renamed a b ea na ef et) (from_made i x has ff ft) =
          let s = end_unmade a b i x has (made_low i x has) (sym et ∙ sym q ∙ ft) in
          let here : e.to ≡ b = et ∙ plain_end a b s.1 in
          let was = made_before b (low_to a b ea) (subst (IsMade New) here is) in
          absurd (not_made (edge a b) i x has (valid.one_way (edge a b) (edge x.edge.from x.edge.to) ea (made_edge i x has).0 was (sym s.0)) s.1)
      by (from_made i x has ef et) (renamed a b ea na ff ft) =
          let s = end_unmade a b i x has (made_low i x has) (sym ft ∙ q ∙ et) in
          let here : e.to ≡ b = et ∙ sym s.0 in
          let was = made_before b (low_to a b ea) (subst (IsMade New) here is) in
          absurd (not_made (edge a b) i x has (valid.one_way (edge a b) (edge x.edge.from x.edge.to) ea (made_edge i x has).0 was (sym s.0)) s.1)
      by (from_made i x has ef et) (from_made j y has' ff ft) =
          let to : y.edge.to ≡ x.edge.to = sym ft ∙ q ∙ et in
          let was = made_before x.edge.to (made_low i x has) (subst (IsMade New) et is) in
          let z = valid.one_way (edge x.edge.from x.edge.to) (edge y.edge.from y.edge.to) (made_edge i x has).0 (made_edge j y has').0 was to in
          let ji : j ≡ i = c.made.made_once j i y x has' has z in
          edge_is f e (ff ∙ ap (λ k. N + k) ji ∙ sym ef) q

  -- blocks and their exits

  one_length : length New.origins ≡ length New.nodes
  one_length =
      length-append m.origins (map (made_origin r.trace.ops) r.made)
      ∙ ap (λ k. length m.origins + k) (length-map r.made (made_origin r.trace.ops))
      ∙ ap (λ k. k + length r.made) valid.origins
      ∙ ap (λ k. k + length r.made) (sym (nodes_length m r 0 m.nodes))
      ∙ ap (λ k. length (nodes_from m r 0 m.nodes) + k) (sym (length-map r.made made_node))
      ∙ sym (length-append (nodes_from m r 0 m.nodes) (map made_node r.made))

  origin_before : (b : ℕ) (k : Node) → slice_get m.nodes b ≡ Some k → slice_get New.origins b ≡ slice_get m.origins b
  origin_before b k h = let low = get_below m.nodes b k h in let many = valid.origins in origin_old m r b (omega arith)

  new_clusters : (b : ℕ) (block : Block) (origin : Origin) → slice_get New.nodes b ≡ Some (Unused block) → slice_get New.origins b ≡ Some (Some origin) → length origin.clusters ≡ length block.ops
  new_clusters b block origin h o = by (Block_new b block h)
    where
      by : OldBlock m r valid L first others blocks_are b block ⊎ MadeBlock m r valid L first others blocks_are b block → length origin.clusters ≡ length block.ops
      by (inl x) = valid.clusters b x.block origin x.at (sym (origin_before b (Unused x.block) x.at) ∙ o) ∙ ap (λ (z : Block). length z.ops) (sym x.is)
      by (inr x) =
          let s : Some (made_origin r.trace.ops x.item) ≡ Some (Some origin) = sym (origin_made m r x.index x.item valid.origins x.has) ∙ ap (slice_get New.origins) (sym x.number) ∙ o in
          let t : x.item.clusters ≡ origin.clusters = cc in
          ap length (sym t) ∙ c.lists.made x.item (index_in r.made x.index x.item x.has) ∙ ap (λ (z : Block). length z.ops) (sym x.is)

  parts_renamed : (b : ℕ) (x : Exit) → ((d : ℕ) → IsIn d (targets_of x) → IsEdge m (edge b d)) → PartsWays x → PartsWays (renamed_exit (To b) x)
  parts_renamed b (Goto d) goes h = tt
  parts_renamed b (Branches p d e) goes h = λ same. by (ends_alike b d b e (low_to b d (goes d (inl refl))) (low_to b e (goes e (inr (inl refl)))) same)
    where
      by : Ends_alike b d b e → ⊥
      by (one_edge s) = h (ap (λ (z : Edge). z.to) s)
      by (one_block s none none') = h s
  parts_renamed b (Call g arguments result next) goes h = tt
  parts_renamed b (Return x) goes h = tt
  parts_renamed b (Ends k) goes h = tt

  tests_renamed : (f : ℕ → ℕ) (x : Exit) → TestsBranch m x → TestsBranch New (renamed_exit f x)
  tests_renamed f (Goto c) h = tt
  tests_renamed f (Branches p c d) h = h
  tests_renamed f (Call g arguments result next) h = tt
  tests_renamed f (Return x) h = tt
  tests_renamed f (Ends k) h = tt

  abbrev Splits : Exit → Type 0
  Splits x = PartsWays x × TestsBranch New x

  block_splits : (b : ℕ) (k : Block) → slice_get m.nodes b ≡ Some (Unused k) → Splits (renamed_exit (To b) k.exit)
  block_splits b k h = let s = valid.block_parts b k h in (parts_renamed b k.exit (λ d t. of_block h t) s.0, tests_renamed (To b) k.exit s.1)

  new_block_parts : (b : ℕ) (block : Block) → slice_get New.nodes b ≡ Some (Unused block) → Splits block.exit
  new_block_parts b block h = by (Block_new b block h)
    where
      by : OldBlock m r valid L first others blocks_are b block ⊎ MadeBlock m r valid L first others blocks_are b block → Splits block.exit
      by (inl x) = subst (λ (z : Block). Splits z.exit) (sym x.is) (block_splits b x.block x.at)
      by (inr x) = subst (λ (z : Block). Splits z.exit) (sym x.is) (tt, tt)

  last_block : (k : Block) × (slice_get m.nodes (last_of r.trace.blocks) ≡ Some (Unused k)) × IsIn (last_of r.trace.blocks) Blocks
  last_block =
      let same : last_of r.trace.blocks ≡ last_of Blocks = ap last_of blocks_are in
      let u = unused m r valid L first others blocks_are (last_of Blocks) (last_in first others) in
      (u.0, ap (slice_get m.nodes) same ∙ u.1, subst (λ z. IsIn z Blocks) (sym same) (last_in first others))

  new_region_parts : (q : ℕ) (g : Region) → slice_get New.regions q ≡ Some g → Splits g.last
  new_region_parts q g h =
      ⊎_elim
      (λ o. let s = valid.region_parts q o.0 o.1 in subst (λ (z : Region). Splits z.last) (sym o.2) (parts_renamed o.0.from o.0.last (λ d t. of_last q o.0 o.1 refl t) s.0, tests_renamed (To o.0.from) o.0.last s.1))
      (λ n.
      let u = last_block in
      let s = block_splits (last_of r.trace.blocks) u.0 u.1 in
      subst (λ (z : Region). Splits z.last) (sym n) (subst (λ o. Splits (renamed_exit (To (last_of r.trace.blocks)) (exit_in o))) (sym u.1) s))
      (of_regions (λ g. renamed_region To g) m.regions (new_region m r) g q h)

  -- blocks in regions

  in_region_kept : (b : ℕ) → is_in_region (slice_get m.nodes b) ≡ true → is_in_region (slice_get New.nodes b) ≡ true
  in_region_kept b h = let o = region_there (slice_get m.nodes b) h in by o.0 o.1 (kind b o.0)
    where
      same : (o : Node) → is_in_region (Some (renamed_node To b o)) ≡ is_in_region (Some o)
      same (Unused k) = refl
      same (Enters q w) = refl
      same Inner = refl

      by : (o : Node) → slice_get m.nodes b ≡ Some o → AtNode m r valid L first others blocks_are b o (trace_node m r r.trace.blocks b o) → is_in_region (slice_get New.nodes b) ≡ true
      by o at (first_one q s) = absurd (no_region m r valid L first others blocks_are b (inl q) h)
      by o at (further q s) = absurd (no_region m r valid L first others blocks_are b (inr q) h)
      by o at (outside q s) = ap is_in_region (old_at b o at ∙ ap Some s) ∙ same o ∙ sym (ap is_in_region at) ∙ h

  in_region_now : (b : ℕ) → IsIn b Blocks → is_in_region (slice_get New.nodes b) ≡ true
  in_region_now b h = let u = unused m r valid L first others blocks_are b h in by (kind b (Unused u.0)) u.0 u.1
    where
      entered : (q : ℕ) (o : Option ℕ) → is_in_region (Some (entered_at q o)) ≡ true
      entered q None = refl
      entered q (Some w) = refl

      by : {o : Node} → AtNode m r valid L first others blocks_are b o (trace_node m r r.trace.blocks b o) → (k : Block) → slice_get m.nodes b ≡ Some o → is_in_region (slice_get New.nodes b) ≡ true
      by {o} (first_one q s) k at = ap is_in_region (old_at b o at ∙ ap Some s)
      by {o} (further q s) k at = ap is_in_region (old_at b o at ∙ ap Some s) ∙ entered (length m.regions) (rejoin_at r.trace.joins r.rejoins b)
      by {o} (outside q s) k at = absurd (q h)

  new_splits_from : (q j p d : ℕ) (y : Bool) (e : Edge) (g : Region) (word : List Item) → slice_get New.regions q ≡ Some g → slice_get g.words j ≡ Some word → IsIn (Split p y e d) word → is_in_region (slice_get New.nodes e.from) ≡ true
  new_splits_from q j p d y e g word at in_words h =
      ⊎_elim
      (λ o.
      let w = old_word (map (rename To)) o.0.words j word (ap (λ (z : Region). slice_get z.words j) (sym o.2) ∙ in_words) in
      let s = old_split To w.0 p d e y (subst (λ z. IsIn (Split p y e d) z) w.2 h) in
      ap (λ z. is_in_region (slice_get New.nodes z)) s.2 ∙ in_region_kept s.0.from (valid.splits_from q j p d y s.0 o.0 w.0 o.1 w.1 s.1))
      (λ n.
      let w = word_of m r j word (ap (λ (z : Region). slice_get z.words j) (sym n) ∙ in_words) in
      let x = from_placed (placed To r.trace.ops r.clusters r.words r.drains []) w.0 (Split p y e d) (subst (IsIn (Split p y e d)) w.1 h) in
      let s = split_of To r.trace.ops r.clusters r.words r.drains [] x.0 p d y e x.1 x.2 in
      let off = off_trace m r valid L first others blocks_are s.0.from s.0.to (is_split r.trace.ops p y s.0 s.1 s.2) in
      ap (λ (z : Edge). is_in_region (slice_get New.nodes z.from)) s.3 ∙ in_region_now s.0.from off.begins)
      (of_regions (λ g. renamed_region To g) m.regions (new_region m r) g q at)

  new_last_from : (q : ℕ) (g : Region) → slice_get New.regions q ≡ Some g → is_in_region (slice_get New.nodes g.from) ≡ true
  new_last_from q g at =
      ⊎_elim
      (λ o. ap (λ (z : Region). is_in_region (slice_get New.nodes z.from)) o.2 ∙ in_region_kept o.0.from (valid.last_from q o.0 o.1))
      (λ n. ap (λ (z : Region). is_in_region (slice_get New.nodes z.from)) n ∙ in_region_now (last_of r.trace.blocks) last_block.2)
      (of_regions (λ g. renamed_region To g) m.regions (new_region m r) g q at)

  new_begins : slice_get New.nodes 0 ≢ Some Inner
  new_begins h =
      ⊎_elim
      (λ o. by o.0 o.1 (kind 0 o.0) (sym o.2))
      (λ x. let z : Inner ≡ made_node x.1 = x.4 in cc)
      (node_new m r 0 Inner h)
    where
      kept : (o : Node) → renamed_node To 0 o ≡ Inner → o ≡ Inner
      kept (Unused k) e = absurd (cc)
      kept (Enters q w) e = absurd (cc)
      kept Inner e = refl

      by : (o : Node) → slice_get m.nodes 0 ≡ Some o → AtNode m r valid L first others blocks_are 0 o (trace_node m r r.trace.blocks 0 o) → trace_node m r r.trace.blocks 0 o ≡ Inner → ⊥
      by o at (first_one q s) e = let z : Enters (length m.regions) 0 ≡ Inner = sym s ∙ e in cc
      by o at (further q s) e = let i = in_edge first 0 others q in valid.entry (edge i.0 0) ((can m r valid L first others blocks_are).follow (edge i.0 0) i.1) refl
      by o at (outside q s) e = valid.begins (at ∙ ap Some (kept o (sym s ∙ e)))

  -- regions are entered at their words

  pub region_kept : (q : ℕ) (g : Region) → slice_get m.regions q ≡ Some g → slice_get New.regions q ≡ Some (renamed_region To g)
  region_kept q g h = by m.regions q h
    where
      by : (gs : List Region) (q : ℕ) → slice_get gs q ≡ Some g → slice_get (map (λ (g : Region). renamed_region To g) gs ++ new_region m r ∷ []) q ≡ Some (renamed_region To g)
      by [] q h = absurd (cc)
      by (o ∷ gs) zero h = let s : o ≡ g = cc in ap (λ (z : Region). Some (renamed_region To z)) s
      by (o ∷ gs) (suc q) h = by gs q h

  pub region_made : slice_get New.regions (length m.regions) ≡ Some (new_region m r)
  region_made = by m.regions
    where
      by : (gs : List Region) → slice_get (map (λ (g : Region). renamed_region To g) gs ++ new_region m r ∷ []) (length gs) ≡ Some (new_region m r)
      by [] = refl
      by (o ∷ gs) = by gs

  numbers_many : (b n : ℕ) → length (numbers b n) ≡ n
  numbers_many b zero = refl
  numbers_many b (suc n) = ap suc (numbers_many (b + 1) n)

  words_many : length (new_region m r).words ≡ r.length
  words_many = length-map (numbers 0 r.length) (in_word (placed To r.trace.ops r.clusters r.words r.drains [])) ∙ numbers_many 0 r.length

  rejoin_low : (js : List Join) (ws : List ℕ) (b w : ℕ) → rejoin_at js ws b ≡ Some w → IsIn w ws
  rejoin_low [] ws b w h = absurd (cc)
  rejoin_low (j ∷ js) [] b w h = absurd (cc)
  rejoin_low (j ∷ js) (v ∷ ws) b w h = by (j.block == b) h (rejoin_low js ws b w)
    where
      by : (t : Bool) → (if t then Some v else rejoin_at js ws b) ≡ Some w → (rejoin_at js ws b ≡ Some w → IsIn w ws) → IsIn w (v ∷ ws)
      by true e f = let z : w ≡ v = cc in inl z
      by false e f = inr (f e)

  abbrev There : ℕ → ℕ → Type 0
  There q w = (g : Region) × (slice_get New.regions q ≡ Some g) × (w ≤ length g.words)

  new_enters : (b q w : ℕ) → slice_get New.nodes b ≡ Some (Enters q w) → There q w
  new_enters b q w h =
      ⊎_elim
      (λ o. by o.0 o.1 (kind b o.0) (sym o.2))
      (λ x. absurd (let z : Enters q w ≡ made_node x.1 = x.4 in cc))
      (node_new m r b (Enters q w) h)
    where
      made_there : q ≡ length m.regions → w ≤ r.length → There q w
      made_there e l = (new_region m r, ap (slice_get New.regions) e ∙ region_made, subst (λ z. w ≤ z) (sym words_many) l)

      kept : (o : Node) → renamed_node To b o ≡ Enters q w → o ≡ Enters q w
      kept (Unused k) e = absurd (cc)
      kept (Enters a d) e = e
      kept Inner e = absurd (cc)

      at_join : (o : Option ℕ) → rejoin_at r.trace.joins r.rejoins b ≡ o → entered_at (length m.regions) o ≡ Enters q w → There q w
      at_join None e s = absurd (cc)
      at_join (Some v) e s = let a : q ≡ length m.regions = cc in let d : w ≡ v = cc in made_there a (c.words.rejoins w (subst (λ z. IsIn z r.rejoins) (sym d) (rejoin_low r.trace.joins r.rejoins b v e)))

      by : (o : Node) → slice_get m.nodes b ≡ Some o → AtNode m r valid L first others blocks_are b o (trace_node m r r.trace.blocks b o) → trace_node m r r.trace.blocks b o ≡ Enters q w → There q w
      by o at (first_one x s) e = let z : Enters (length m.regions) 0 ≡ Enters q w = sym s ∙ e in let a : q ≡ length m.regions = cc in let d : w ≡ 0 = cc in made_there a (omega arith)
      by o at (further x s) e = at_join (rejoin_at r.trace.joins r.rejoins b) refl (sym s ∙ e)
      by o at (outside x s) e =
          let g = valid.enters b q w (at ∙ ap Some (kept o (sym s ∙ e))) in
          (renamed_region To g.0, region_kept q g.0 g.1, subst (λ z. w ≤ z) (sym (length-map g.0.words (map (rename To)))) g.2)

  -- what is named

  new_names : (b v : ℕ) (block : Block) → slice_get New.nodes b ≡ Some (Unused block) → slice_get New.origins b ≡ Some None → Names block v → v < length New.banks
  new_names b v block h o n = by (Block_new b block h)
    where
      by : OldBlock m r valid L first others blocks_are b block ⊎ MadeBlock m r valid L first others blocks_are b block → v < length New.banks
      by (inl x) = valid.names b v x.block x.at (sym (origin_before b (Unused x.block) x.at) ∙ o) (named (subst (λ (z : Block). Names z v) x.is n))
        where
          same : reads_of_exit (renamed_exit (To b) x.block.exit) ++ results_of_exit (renamed_exit (To b) x.block.exit) ≡ reads_of_exit x.block.exit ++ results_of_exit x.block.exit
          same = ap (λ l. l ++ results_of_exit (renamed_exit (To b) x.block.exit)) (reads_renamed (To b) x.block.exit) ∙ ap (λ l. reads_of_exit x.block.exit ++ l) (results_renamed (To b) x.block.exit)

          named : Names (record x.block { exit = renamed_exit (To b) x.block.exit }) v → Names x.block v
          named (inl a) = inl a
          named (inr a) = inr (subst (IsIn v) same a)
      by (inr x) = absurd (let s : Some (made_origin r.trace.ops x.item) ≡ Some None = sym (origin_made m r x.index x.item valid.origins x.has) ∙ ap (slice_get New.origins) (sym x.number) ∙ o in cc)

  -- a copy across was one, or is one of the trace or of a made block
  data Crosses (v u : ℕ) : Type 0 where
    before : IsOp m (Across v u) → Crosses v u
    now : IsNamed r (Across v u) → Crosses v u

  crosses : (v u : ℕ) → IsOp New (Across v u) → Crosses v u
  crosses v u (block_op b k at i) = by (Block_new b k at)
    where
      by : OldBlock m r valid L first others blocks_are b k ⊎ MadeBlock m r valid L first others blocks_are b k → Crosses v u
      by (inl x) = before (block_op b x.block x.at (subst (λ (z : Block). IsIn (Across v u) z.ops) x.is i))
      by (inr x) = now (in_made x.item (index_in r.made x.index x.item x.has) (subst (λ (z : Block). IsIn (Across v u) z.ops) x.is i))
  crosses v u (region_op q j cluster g word at in_words i) =
      ⊎_elim
      (λ o.
      let w = old_word (map (rename To)) o.0.words j word (ap (λ (z : Region). slice_get z.words j) (sym o.2) ∙ in_words) in
      before (region_op q j cluster o.0 w.0 o.1 w.1 (old_op To w.0 (Across v u) cluster (subst (λ z. IsIn (Plain (Across v u) cluster) z) w.2 i))))
      (λ n.
      let w = word_of m r j word (ap (λ (z : Region). slice_get z.words j) (sym n) ∙ in_words) in
      let x = from_placed (placed To r.trace.ops r.clusters r.words r.drains []) w.0 (Plain (Across v u) cluster) (subst (IsIn (Plain (Across v u) cluster)) w.1 i) in
      let s = op_of To r.trace.ops r.clusters r.words r.drains [] x.0 (Across v u) cluster x.1 x.2 in
      now (in_trace (subst (λ z. IsIn (TracePlain z) r.trace.ops) (across_freed s.1 s.2 s.0 v u s.4) s.3)))
      (of_regions (λ g. renamed_region To g) m.regions (new_region m r) g q at)

  -- the home of a copy is its own
  home_same : (v : ℕ) → length m.banks ≤ v → home_of New v ≡ home_of m v
  home_same v h =
      ap (λ t. if t then has_home r.homes.clusters v else Some (v / length m.banks - 1)) (le-ltb v (length m.banks) h)
      ∙ sym (ap (λ t. if t then has_home m.homes.clusters v else Some (v / length m.banks - 1)) (le-ltb v (length m.banks) h))

  new_copied : (v u : ℕ) → IsOp New (Across v u) → length New.banks ≤ v
  new_copied v u h = by (crosses v u h)
    where
      by : Crosses v u → length New.banks ≤ v
      by (before o) = valid.copied v u o
      by (now o) = (c.away v u o).is_copy

  new_away : (v u : ℕ) → IsOp New (Across v u) → (u < length New.banks) × (k : ℕ) × (has_home New.homes.clusters u ≡ Some k) × (home_of New v ≢ Some k)
  new_away v u h = by (crosses v u h)
    where
      by : Crosses v u → (u < length New.banks) × (k : ℕ) × (has_home New.homes.clusters u ≡ Some k) × (home_of New v ≢ Some k)
      by (before o) = let a = valid.away v u o in (a.0, a.1, c.homes u a.1 a.2, (λ e. a.3 (sym (home_same v (valid.copied v u o)) ∙ e)))
      by (now o) = let a = c.away v u o in (a.value, a.home, a.has, (λ e. a.other (sym (home_same v a.is_copy) ∙ e)))

  after : Valid New
  after = record {
    copies = valid.copies;
    origins = one_length;
    clusters = new_clusters;
    block_parts = new_block_parts;
    region_parts = new_region_parts;
    begins = new_begins;
    splits_from = new_splits_from;
    last_from = new_last_from;
    leads = new_leads;
    entry = new_entry;
    uncritical = new_uncritical;
    one_way = new_one_way;
    enters = new_enters;
    names = new_names;
    copied = new_copied;
    away = new_away;
  }

pub stays_valid : StaysValid
stays_valid m r valid c = let b = some_blocks r.trace.blocks c.trace.can.some in after m r valid c b.0 b.1 b.2
