-- What holds of made blocks holds after every replacement.
use Rattle.std.proofs.Common.{◌≡◌, ◌⊎◌, inl, inr, ℕ, zero, suc, ◌+◌, ◌<◌, true, false, Option, Some, None, List, ◌∷◌, length, map, slice_get, refl, sym, ap, subst, ◌∙◌, ⊎_elim, arith}
use Rattle.std.specs.Prelude.{replicate}
use Rattle.vx_flow.specs.declared.graph.Block.{Block}
use Rattle.vx_flow.specs.declared.graph.Edge.{Edge}
use Rattle.vx_flow.specs.declared.graph.Exit.TheVariants.{Goto}
use Rattle.vx_flow.specs.Effects.{IsIn}
use Rattle.vx_flow.specs.Walk.{edge}
use Rattle.vx_flow.proofs.IndexSteps.{get_below}
use Rattle.vx_mixed.specs.declared.region.Made.{Made}
use Rattle.vx_mixed.specs.declared.region.Node.{Node}
use Rattle.vx_mixed.specs.declared.region.Node.TheVariants.{Unused, Enters, Inner}
use Rattle.vx_mixed.specs.declared.region.Origin.{Origin}
use Rattle.vx_mixed.specs.declared.mixed.MixedGraph.{MixedGraph}
use Rattle.vx_mixed.specs.declared.replacement.Replacement.{Replacement}
use Rattle.vx_mixed.specs.CanReplace.{CanReplace}
use Rattle.vx_mixed.specs.Edges.{IsEdge}
use Rattle.vx_mixed.specs.Next.{made_on, made_origin, new_end, entered_at, rejoin_at, renamed_exit, renamed_node, is_split_edge, trace_node, next_mixed}
use Rattle.vx_mixed.specs.TraceOf.{inner_edges}
use Rattle.vx_mixed.specs.Valid.{Valid, is_in_region}
use Rattle.vx_mixed.proofs.Linked.{Linkable, can, index_in, in_edge, no_region, region_there, some_blocks, some_same, split_is, off_trace, joins, unused}
use Rattle.vx_mixed.proofs.NewBlocks.{AtNode, first_one, further, outside, node_kind, OldBlock, MadeBlock, NewEdge, renamed, from_made, new_block, new_edge}
use Rattle.vx_mixed.proofs.NewNodes.{front_or_back, made_some, map_back, node_old}
use Rattle.vx_mixed.proofs.PathOf.{from_inside, to_inside}
use Rattle.vx_mixed.proofs.StaysValid.{linkable, made_end, plain_end, low_to, low_from, made_low}
use Rattle.vx_motion.specs.MadeBlocks.{MadeFacts, MadeBegins, MadeStays}

-- at the beginning no block was made

none_made : {A : Type 0} (n b : ℕ) (o : Origin) → slice_get (replicate n None) b ≡ Some (Some o) → A
none_made zero b o e = absurd (cc)
none_made (suc n) zero o e = absurd (let q : None ≡ Some o = cc in cc)
none_made (suc n) (suc b) o e = none_made n b o e

pub made_begins : MadeBegins
made_begins graph m is = record {
  lower = λ b o e. none b o e;
  goes = λ b o k e at. none b o e;
  entered = λ b o d e l i t. none b o e;
  left = λ b o d e l i f. none b o e;
}
  where
    none : {A : Type 0} (b : ℕ) (o : Origin) → slice_get m.origins b ≡ Some (Some o) → A
    none b o e = none_made (length graph.blocks) b o (subst (λ z. slice_get z b ≡ Some (Some o)) is.origins e)

entered_is : (q : ℕ) (o : Option ℕ) → is_in_region (Some (entered_at q o)) ≡ true
entered_is q None = refl
entered_is q (Some w) = refl

renamed_is : (to : ℕ → ℕ → ℕ) (b : ℕ) (k : Node) → is_in_region (Some k) ≡ true → is_in_region (Some (renamed_node to b k)) ≡ true
renamed_is to b (Unused k) h = h
renamed_is to b (Enters q w) h = refl
renamed_is to b Inner h = refl

module _ (m : MixedGraph) (r : Replacement) (valid : Valid m) (c : CanReplace m r) (facts : MadeFacts m) (first : ℕ) (others : List ℕ) (blocks_are : r.trace.blocks ≡ first ∷ others) where
  abbrev New : MixedGraph
  New = next_mixed m r

  abbrev N : ℕ
  N = length m.nodes

  abbrev To : ℕ → ℕ → ℕ
  To = new_end m r.made

  abbrev Blocks : List ℕ
  Blocks = first ∷ others

  abbrev L : Linkable m r
  L = linkable c

  abbrev Edge_new : (e : Edge) → IsEdge New e → NewEdge m r valid L first others blocks_are e
  Edge_new = new_edge m r valid L first others blocks_are

  -- what is in a region, and what comes into one

  node_in : (b : ℕ) (o : Node) → slice_get m.nodes b ≡ Some o → is_in_region (Some (trace_node m r r.trace.blocks b o)) ≡ true → is_in_region (slice_get New.nodes b) ≡ true
  node_in b o at h = ap is_in_region (node_old m r b o at) ∙ h

  still_in : (b : ℕ) → is_in_region (slice_get m.nodes b) ≡ true → is_in_region (slice_get New.nodes b) ≡ true
  still_in b h = let k = region_there (slice_get m.nodes b) h in node_in b k.0 k.1 (by k.0 (sym (ap is_in_region k.1) ∙ h) (node_kind m r valid L first others blocks_are b k.0))
    where
      by : (o : Node) → is_in_region (Some o) ≡ true → AtNode m r valid L first others blocks_are b o (trace_node m r r.trace.blocks b o) → is_in_region (Some (trace_node m r r.trace.blocks b o)) ≡ true
      by o t (first_one q e) = ap (λ z. is_in_region (Some z)) e
      by o t (further q e) = ap (λ z. is_in_region (Some z)) e ∙ entered_is (length m.regions) (rejoin_at r.trace.joins r.rejoins b)
      by o t (outside n e) = ap (λ z. is_in_region (Some z)) e ∙ renamed_is To b o t

  now_in : (b : ℕ) → IsIn b Blocks → is_in_region (slice_get New.nodes b) ≡ true
  now_in b h = let u = unused m r valid L first others blocks_are b h in node_in b (Unused u.0) u.1 (by (Unused u.0) (node_kind m r valid L first others blocks_are b (Unused u.0)))
    where
      by : (o : Node) → AtNode m r valid L first others blocks_are b o (trace_node m r r.trace.blocks b o) → is_in_region (Some (trace_node m r r.trace.blocks b o)) ≡ true
      by o (first_one q e) = ap (λ z. is_in_region (Some z)) e
      by o (further q e) = ap (λ z. is_in_region (Some z)) e ∙ entered_is (length m.regions) (rejoin_at r.trace.joins r.rejoins b)
      by o (outside n e) = absurd (n h)

  not_in : (b : ℕ) → IsIn b Blocks → is_in_region (slice_get m.nodes b) ≡ true → ⊥
  not_in b h t = no_region m r valid L first others blocks_are b h t

  -- an inner edge is an edge between blocks in no region
  inner_is : (a b : ℕ) → IsIn (edge a b) (inner_edges Blocks) → IsEdge m (edge a b)
  inner_is a b h = (can m r valid L first others blocks_are).follow (edge a b) h

  -- edges of made blocks

  left_to : (i : ℕ) (x : Made) → slice_get r.made i ≡ Some x → (f : Edge) → IsEdge New f → f.from ≡ N + i → f.to ≡ x.edge.to
  left_to i x h f u q = by (Edge_new f u)
    where
      by : NewEdge m r valid L first others blocks_are f → f.to ≡ x.edge.to
      by (renamed a b old outer s t) = absurd (let low = low_from m r valid c first others blocks_are a b old in omega arith)
      by (from_made j y g s t) =
          let n : j ≡ i = omega arith in
          t ∙ ap (λ (z : Made). z.edge.to) (some_same (slice_get r.made i) y x (subst (λ z. slice_get r.made z ≡ Some y) n g) h)

  entered_from : (i : ℕ) (x : Made) → slice_get r.made i ≡ Some x → (f : Edge) → IsEdge New f → f.to ≡ N + i → f.from ≡ x.edge.from
  entered_from i x h f u q = by (Edge_new f u)
    where
      by_end : (a b : ℕ) → IsEdge m (edge a b) → f.from ≡ a → f.to ≡ To a b → (o : Option ℕ) → made_on N r.made (edge a b) ≡ o → f.from ≡ x.edge.from
      by_end a b old s t None p = absurd (let low = low_to m r valid c first others blocks_are a b old in let e = plain_end m r valid c first others blocks_are a b p in omega arith)
      by_end a b old s t (Some d) p =
          let e = (made_end m r valid c first others blocks_are a b d p).0 in
          let y = made_some N r.made (edge a b) d p in
          let number = y.number in
          let n : y.index ≡ i = omega arith in
          s ∙ sym (ap (λ (z : Edge). z.from) y.where_) ∙ ap (λ (z : Made). z.edge.from) (some_same (slice_get r.made i) y.item x (subst (λ z. slice_get r.made z ≡ Some y.item) n y.has) h)

      by : NewEdge m r valid L first others blocks_are f → f.from ≡ x.edge.from
      by (renamed a b old outer s t) = by_end a b old s t (made_on N r.made (edge a b)) refl
      by (from_made j y g s t) = absurd (let low = made_low m r valid c first others blocks_are j y g in omega arith)

  -- what a block is made on is an edge that leaves the trace by a split, or comes to a block behind its first
  pub data MadeAt (x : Made) : Type 0 where
    at_split : is_split_edge r.trace.ops x.edge ≡ true → IsEdge m (edge x.edge.from x.edge.to) → IsIn x.edge.from Blocks → (next : ℕ) → IsIn (edge x.edge.from next) (inner_edges Blocks) → MadeAt x
    at_join : is_split_edge r.trace.ops x.edge ≡ false → IsEdge m (edge x.edge.from x.edge.to) → IsIn x.edge.to others → MadeAt x

  made_at : (i : ℕ) (x : Made) → slice_get r.made i ≡ Some x → MadeAt x
  made_at i x h =
      ⊎_elim
      (λ s. let o = off_trace m r valid L first others blocks_are x.edge.from x.edge.to s in let n = split_is m r valid L first others blocks_are (edge x.edge.from x.edge.to) s in at_split s o.is_edge o.begins n.next n.follows)
      (λ j. let o = joins m r valid L first others blocks_are j.0 x.edge.from x.edge.to j.1 j.2 in at_join o.no_split o.is_edge o.behind)
      (c.made.made_where x (index_in r.made i x h))

  -- origins: old ones, and those of the blocks that are made
  pub data From (b : ℕ) (o : Origin) : Type 0 where
    old : b < N → slice_get m.origins b ≡ Some (Some o) → From b o
    new : (i : ℕ) (x : Made) → b ≡ N + i → slice_get r.made i ≡ Some x → o.edge ≡ x.edge → o.leaves ≡ is_split_edge r.trace.ops x.edge → From b o

  origin_of : (b : ℕ) (o : Origin) → slice_get New.origins b ≡ Some (Some o) → From b o
  origin_of b o h = ⊎_elim
      (λ a. let low = get_below m.origins b (Some o) a in let n = valid.origins in old (let z : b < length m.nodes = omega arith in z) a)
      (λ a. let w = map_back (made_origin r.trace.ops) r.made a.0 (Some o) a.2 in let q : o ≡ record { edge = w.0.edge; leaves = is_split_edge r.trace.ops w.0.edge; clusters = w.0.clusters } = cc (w.2) in
      new a.0 w.0 (a.1 ∙ ap (λ z. z + a.0) valid.origins) w.1 (ap (λ (z : Origin). z.edge) q) (ap (λ (z : Origin). z.leaves) q))
      (front_or_back m.origins (map (made_origin r.trace.ops) r.made) b (Some o) h)

  lower : (b : ℕ) (o : Origin) → From b o → (o.edge.from < b) × (o.edge.to < b)
  lower b o (old low h) = facts.lower b o h
  lower b o (new i x n h e l) = by (made_at i x h)
    where
      below : IsEdge m (edge x.edge.from x.edge.to) → (o.edge.from < b) × (o.edge.to < b)
      below d =
          let f = low_from m r valid c first others blocks_are x.edge.from x.edge.to d in
          let t = low_to m r valid c first others blocks_are x.edge.from x.edge.to d in
          let p : x.edge.from < b = omega arith in
          let q : x.edge.to < b = omega arith in
          (subst (λ (z : Edge). z.from < b) (sym e) p, subst (λ (z : Edge). z.to < b) (sym e) q)

      by : MadeAt x → (o.edge.from < b) × (o.edge.to < b)
      by (at_split s d i n f) = below d
      by (at_join s d i) = below d

  goes : (b : ℕ) (o : Origin) (k : Block) → From b o → slice_get New.nodes b ≡ Some (Unused k) → (d : ℕ) × (k.exit ≡ Goto d)
  goes b o k from at = by from (new_block m r valid L first others blocks_are b k at)
    where
      by : From b o → OldBlock m r valid L first others blocks_are b k ⊎ MadeBlock m r valid L first others blocks_are b k → (d : ℕ) × (k.exit ≡ Goto d)
      by f (inr x) = (x.item.edge.to, ap (λ (z : Block). z.exit) x.is)
      by (old low h) (inl y) = let w = facts.goes b o y.block h y.at in (To b w.0, ap (λ (z : Block). z.exit) y.is ∙ ap (renamed_exit (To b)) w.1)
      by (new i x n h e l) (inl y) = absurd (let low = get_below m.nodes b (Unused y.block) y.at in omega arith)

  entered : (b : ℕ) (o : Origin) (e : Edge) → From b o → o.leaves ≡ true → IsEdge New e → e.to ≡ b → is_in_region (slice_get New.nodes e.from) ≡ true
  entered b o e (new i x n h oe ol) l is t = by (made_at i x h)
    where
      by : MadeAt x → is_in_region (slice_get New.nodes e.from) ≡ true
      by (at_split s d k z f) = subst (λ z. is_in_region (slice_get New.nodes z) ≡ true) (sym (entered_from i x h e is (t ∙ n))) (now_in x.edge.from k)
      by (at_join s d k) = absurd (let q : true ≡ false = sym l ∙ ol ∙ s in cc)
  entered b o e (old low h) l is t = by (Edge_new e is)
    where
      before : (a : ℕ) → IsEdge m (edge a b) → is_in_region (slice_get m.nodes a) ≡ true
      before a d = facts.entered b o (edge a b) h l d refl

      by_end : (a d : ℕ) → IsEdge m (edge a d) → e.from ≡ a → e.to ≡ To a d → (w : Option ℕ) → made_on N r.made (edge a d) ≡ w → is_in_region (slice_get New.nodes e.from) ≡ true
      by_end a d i s u None p =
          let q : d ≡ b = sym (plain_end m r valid c first others blocks_are a d p) ∙ sym u ∙ t in
          subst (λ z. is_in_region (slice_get New.nodes z) ≡ true) (sym s) (still_in a (before a (subst (λ z. IsEdge m (edge a z)) q i)))
      by_end a d i s u (Some w) p = absurd (let f = made_end m r valid c first others blocks_are a d w p in let f0 = f.0 in let f1 = f.1 in omega arith)

      by_made : (x : Made) → x.edge.to ≡ b → MadeAt x → ⊥
      by_made x q (at_split s d k z f) = not_in x.edge.from k (before x.edge.from (subst (λ z. IsEdge m (edge x.edge.from z)) q d))
      by_made x q (at_join s d k) = let p = in_edge first x.edge.to others k in not_in p.0 (from_inside Blocks (edge p.0 x.edge.to) p.1) (before p.0 (subst (λ z. IsEdge m (edge p.0 z)) q (inner_is p.0 x.edge.to p.1)))

      by : NewEdge m r valid L first others blocks_are e → is_in_region (slice_get New.nodes e.from) ≡ true
      by (renamed a d i outer s u) = by_end a d i s u (made_on N r.made (edge a d)) refl
      by (from_made i x g s u) = absurd (by_made x (sym u ∙ t) (made_at i x g))

  left : (b : ℕ) (o : Origin) (e : Edge) → From b o → o.leaves ≡ false → IsEdge New e → e.from ≡ b → is_in_region (slice_get New.nodes e.to) ≡ true
  left b o e (new i x n h oe ol) l is f = by (made_at i x h)
    where
      by : MadeAt x → is_in_region (slice_get New.nodes e.to) ≡ true
      by (at_split s d k z g) = absurd (let q : true ≡ false = sym s ∙ sym ol ∙ l in cc)
      by (at_join s d k) = subst (λ z. is_in_region (slice_get New.nodes z) ≡ true) (sym (left_to i x h e is (f ∙ n))) (now_in x.edge.to (inr k))
  left b o e (old low h) l is f = by (Edge_new e is)
    where
      behind : (d : ℕ) → IsEdge m (edge b d) → is_in_region (slice_get m.nodes d) ≡ true
      behind d i = facts.left b o (edge b d) h l i refl

      by_made : (x : Made) → x.edge.from ≡ b → MadeAt x → ⊥
      by_made x q (at_split s d k z g) = not_in z (inr (to_others z g)) (behind z (subst (λ y. IsEdge m (edge y z)) q (inner_is x.edge.from z g)))
        where
          to_others : (z : ℕ) → IsIn (edge x.edge.from z) (inner_edges Blocks) → IsIn z others
          to_others z g = to_inside first others (edge x.edge.from z) g
      by_made x q (at_join s d k) = not_in x.edge.to (inr k) (behind x.edge.to (subst (λ y. IsEdge m (edge y x.edge.to)) q d))

      by_end : (d : ℕ) → IsEdge m (edge b d) → e.to ≡ To b d → (w : Option ℕ) → made_on N r.made (edge b d) ≡ w → is_in_region (slice_get New.nodes e.to) ≡ true
      by_end d i u None p = subst (λ z. is_in_region (slice_get New.nodes z) ≡ true) (sym (u ∙ plain_end m r valid c first others blocks_are b d p)) (still_in d (behind d i))
      by_end d i u (Some w) p = let y = made_some N r.made (edge b d) w p in absurd (by_made y.item (ap (λ (z : Edge). z.from) y.where_) (made_at y.index y.item y.has))

      by : NewEdge m r valid L first others blocks_are e → is_in_region (slice_get New.nodes e.to) ≡ true
      by (renamed a d i outer s u) =
          let q : a ≡ b = sym s ∙ f in
          by_end d (subst (λ z. IsEdge m (edge z d)) q i) (subst (λ z. e.to ≡ To z d) q u) (made_on N r.made (edge b d)) refl
      by (from_made i x g s u) = absurd (omega arith)

pub made_stays : MadeStays
made_stays m r valid c facts =
    let b = some_blocks r.trace.blocks c.trace.can.some in record {
      lower = λ n o h. lower m r valid c facts b.0 b.1 b.2 n o (origin_of m r valid c facts b.0 b.1 b.2 n o h);
      goes = λ n o k h at. goes m r valid c facts b.0 b.1 b.2 n o k (origin_of m r valid c facts b.0 b.1 b.2 n o h) at;
      entered = λ n o e h l is t. entered m r valid c facts b.0 b.1 b.2 n o e (origin_of m r valid c facts b.0 b.1 b.2 n o h) l is t;
      left = λ n o e h l is f. left m r valid c facts b.0 b.1 b.2 n o e (origin_of m r valid c facts b.0 b.1 b.2 n o h) l is f;
    }
