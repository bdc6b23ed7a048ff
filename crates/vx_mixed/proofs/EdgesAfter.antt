-- The edges after a replacement are the kept ones and those from made blocks.
use Rattle.std.proofs.Common.{◌≡◌, ◌≢◌, ℕ, zero, suc, ◌+◌, ◌<◌, Bool, true, false, Some, List, [], ◌∷◌, length, map, drop, slice_get, slice_index_or, refl, sym, ap, ◌∙◌, subst, ⊎_elim, inl, inr, arith}
use Rattle.std.specs.Prelude.{◌⊎◌, ◌==◌, if◌then◌else◌}
use Rattle.std.specs.List.{filter}
use Rattle.std.proofs.lemmas.Bool.{eq-eqb, ne_eqb, cases_eq}
use Rattle.vx_flow.specs.declared.graph.Block.{Block}
use Rattle.vx_flow.specs.declared.graph.Edge.{Edge}
use Rattle.vx_flow.specs.declared.graph.Exit.{Exit}
use Rattle.vx_flow.specs.declared.graph.Exit.TheVariants.{Goto, Split as Branches, Call, Return, Ends}
use Rattle.vx_flow.specs.declared.trace.TraceOp.{TraceOp}
use Rattle.vx_flow.specs.declared.trace.TraceOp.TheVariants.{Plain as TracePlain, Split as TraceSplit}
use Rattle.vx_flow.specs.Effects.{IsIn}
use Rattle.vx_flow.specs.Sound.{targets_of}
use Rattle.vx_flow.specs.Walk.{edge, numbers}
use Rattle.vx_flow.proofs.Members.{in_left, in_right}
use Rattle.vx_mixed.specs.declared.region.Item.TheVariants.{Split}
use Rattle.vx_mixed.specs.declared.region.Node.TheVariants.{Unused}
use Rattle.vx_mixed.specs.declared.mixed.MixedGraph.{MixedGraph}
use Rattle.vx_mixed.specs.CanReplace.{CanReplace}
use Rattle.vx_mixed.specs.Edges.{IsEdge, of_block, of_split, of_last}
use Rattle.vx_mixed.specs.Next.{Replacement, InWord, new_end, renamed_exit, renamed_region, placed, in_word, last_of, exit_in, new_region, trace_node, next_mixed, rename}
use Rattle.vx_mixed.specs.NextEdges.{IsNextEdge, kept, from_made, EdgesAfter}
use Rattle.vx_mixed.specs.TraceOf.{block_at, block_or_none, split_between, block_ops, trace_ops, inner_edges}
use Rattle.vx_mixed.specs.Valid.{Valid}
use Rattle.vx_mixed.proofs.Linked.{Linkable, some_blocks, can, edge_block}
use Rattle.vx_mixed.proofs.NewBlocks.{AtNode, first_one, further, outside, node_kind, NewEdge, renamed, new_edge, from_made as by_made}
use Rattle.vx_mixed.proofs.NewNodes.{node_old, node_made, map_get}
use Rattle.vx_mixed.proofs.StaysValid.{linkable, region_kept, region_made}
use Rattle.vx_mixed.proofs.TraceFacts.{in_splits, of_splits, filter_has}

-- renamed exits and items

target_in : (f : ℕ → ℕ) (x : Exit) (b : ℕ) → IsIn b (targets_of x) → IsIn (f b) (targets_of (renamed_exit f x))
target_in f (Goto d) b (inl e) = inl (ap f e)
target_in f (Goto d) b (inr h) = absurd h
target_in f (Branches p d e) b (inl q) = inl (ap f q)
target_in f (Branches p d e) b (inr (inl q)) = inr (inl (ap f q))
target_in f (Branches p d e) b (inr (inr h)) = absurd h
target_in f (Call g arguments result next) b (inl e) = inl (ap f e)
target_in f (Call g arguments result next) b (inr h) = absurd h
target_in f (Return x) b h = absurd h
target_in f (Ends k) b h = absurd h

pub in_map : {A B : Type 0} (f : A → B) (xs : List A) (x : A) → IsIn x xs → IsIn (f x) (map f xs)
in_map f [] x h = absurd h
in_map f (y ∷ xs) x (inl e) = inl (ap f e)
in_map f (y ∷ xs) x (inr h) = inr (in_map f xs x h)

-- the last block, or one that another follows

follows : (a first : ℕ) (others : List ℕ) → IsIn a (first ∷ others) → (a ≡ last_of (first ∷ others)) ⊎ ((c : ℕ) × IsIn (edge a c) (inner_edges (first ∷ others)))
follows a first [] (inl e) = inl e
follows a first [] (inr h) = absurd h
follows a first (b ∷ bs) (inl e) = inr (b, inl (ap (λ z. edge z b) e))
follows a first (b ∷ bs) (inr h) = ⊎_elim (λ l. inl l) (λ s. inr (s.0, inr s.1)) (follows a b bs h)

-- a two-way exit goes one way in the trace; the other way is a split of it
other_way : (live : ℕ → List ℕ) (a : ℕ) (x : Exit) (c b : ℕ) → IsIn c (targets_of x) → IsIn b (targets_of x) → b ≢ c → (p : ℕ) × (y : Bool) × (vs : List ℕ) × IsIn (TraceSplit p y (edge a b) vs) (split_between live a x c)
other_way live a (Goto d) c b (inl e) (inl f) n = absurd (n (f ∙ sym e))
other_way live a (Goto d) c b (inl e) (inr f) n = absurd f
other_way live a (Goto d) c b (inr e) f n = absurd e
other_way live a (Call g arguments result next) c b (inl e) (inl f) n = absurd (n (f ∙ sym e))
other_way live a (Call g arguments result next) c b (inl e) (inr f) n = absurd f
other_way live a (Call g arguments result next) c b (inr e) f n = absurd e
other_way live a (Return x) c b e f n = absurd e
other_way live a (Ends k) c b e f n = absurd e
other_way live a (Branches p d e) c b hc hb n = ⊎_elim here there (cases_eq d c)
  where
    here : d ≡ c → (q : ℕ) × (y : Bool) × (vs : List ℕ) × IsIn (TraceSplit q y (edge a b) vs) (split_between live a (Branches p d e) c)
    here q =
        let be : b ≡ e = ⊎_elim (λ (z : b ≡ d). absurd (n (z ∙ q))) (λ w. ⊎_elim (λ z. z) (λ z. absurd z) w) hb in
        (p, false, live e, subst (λ t. IsIn (TraceSplit p false (edge a b) (live e)) (if t then TraceSplit p false (edge a e) (live e) ∷ [] else TraceSplit p true (edge a d) (live d) ∷ [])) (sym (eq-eqb d c q)) (inl (ap (λ z. TraceSplit p false (edge a z) (live e)) be)))

    there : (d ≡ c → ⊥) → (q : ℕ) × (y : Bool) × (vs : List ℕ) × IsIn (TraceSplit q y (edge a b) vs) (split_between live a (Branches p d e) c)
    there q =
        let ce : c ≡ e = ⊎_elim (λ (z : c ≡ d). absurd (q (sym z))) (λ w. ⊎_elim (λ z. z) (λ z. absurd z) w) hc in
        let bd : b ≡ d = ⊎_elim (λ z. z) (λ w. ⊎_elim (λ (z : b ≡ e). absurd (n (z ∙ sym ce))) (λ z. absurd z) w) hb in
        (p, true, live d, subst (λ t. IsIn (TraceSplit p true (edge a b) (live d)) (if t then TraceSplit p false (edge a e) (live e) ∷ [] else TraceSplit p true (edge a d) (live d) ∷ [])) (sym (ne_eqb d c q)) (inl (ap (λ z. TraceSplit p true (edge a z) (live d)) bd)))

splits_there : (m : MixedGraph) (live : ℕ → List ℕ) (bs : List ℕ) (a c b : ℕ) → IsIn (edge a c) (inner_edges bs) → IsIn c (targets_of (block_at m a).exit) → IsIn b (targets_of (block_at m a).exit) → b ≢ c →
    (p : ℕ) × (y : Bool) × (vs : List ℕ) × IsIn (TraceSplit p y (edge a b) vs) (trace_ops m live bs)
splits_there m live [] a c b h hc hb n = absurd h
splits_there m live (d ∷ []) a c b h hc hb n = absurd h
splits_there m live (d ∷ e ∷ bs) a c b (inr h) hc hb n =
    let r = splits_there m live (e ∷ bs) a c b h hc hb n in
    (r.0, r.1, r.2, in_right (TraceSplit r.0 r.1 (edge a b) r.2) (block_ops m live d (e ∷ bs)) (trace_ops m live (e ∷ bs)) r.3)
splits_there m live (d ∷ e ∷ bs) a c b (inl q) hc hb n =
    let ad : a ≡ d = ap (λ (z : Edge). z.from) q in
    let ce : c ≡ e = ap (λ (z : Edge). z.to) q in
    let r = other_way live a (block_at m a).exit c b hc hb n in
    let i = subst (λ z. IsIn (TraceSplit r.0 r.1 (edge a b) r.2) (split_between live a (block_at m a).exit z)) ce r.3 in
    let j = subst (λ z. IsIn (TraceSplit r.0 r.1 (edge a b) r.2) (split_between live z (block_at m z).exit e)) ad i in
    (r.0, r.1, r.2, in_left (TraceSplit r.0 r.1 (edge a b) r.2) (block_ops m live d (e ∷ bs)) (trace_ops m live (e ∷ bs)) (in_right (TraceSplit r.0 r.1 (edge a b) r.2) (map TracePlain (block_at m d).ops) (split_between live d (block_at m d).exit e) j))

-- a split of the trace is placed in one of the words
record PlacedSplit (to : ℕ → ℕ → ℕ) (ops : List TraceOp) (cs ws ds above : List ℕ) (p : ℕ) (y : Bool) (e : Edge) : Type 0 where
  word : ℕ
  drain : ℕ
  in_words : IsIn word ws
  has : IsIn {A = InWord} (record { word = word; item = Split p y (record e { to = to e.from e.to }) drain }) (placed to ops cs ws ds above)

placed_there : (to : ℕ → ℕ → ℕ) (ops : List TraceOp) (cs ws ds above : List ℕ) (p : ℕ) (y : Bool) (e : Edge) (vs : List ℕ) → length cs ≡ length ops → length ws ≡ length ops → IsIn (TraceSplit p y e vs) ops → PlacedSplit to ops cs ws ds above p y e
placed_there to [] cs ws ds above p y e vs lc lw h = absurd h
placed_there to (op ∷ ops) [] ws ds above p y e vs lc lw h = absurd (omega arith)
placed_there to (op ∷ ops) (c ∷ cs) [] ds above p y e vs lc lw h = absurd (omega arith)
placed_there to (TracePlain op ∷ ops) (c ∷ cs) (w ∷ ws) ds above p y e vs lc lw (inl q) = absurd (cc)
placed_there to (TracePlain op ∷ ops) (c ∷ cs) (w ∷ ws) ds above p y e vs lc lw (inr h) =
    let r = placed_there to ops cs ws ds above p y e vs (omega arith) (omega arith) h in
    record { word = r.word; drain = r.drain; in_words = inr r.in_words; has = inr r.has }
placed_there to (TraceSplit q u f live ∷ ops) (c ∷ cs) (w ∷ ws) ds above p y e vs lc lw (inl g) =
    let a : p ≡ q = cc in
    let b : y ≡ u = cc in
    let s : e ≡ f = cc in
    let d = slice_index_or ds 0 0 in
    record { word = w; drain = d; in_words = inl refl; has = inl (ap (λ z. record { word = w; item = Split z y (record e { to = to e.from e.to }) d }) a ∙ ap (λ z. record { word = w; item = Split q z (record e { to = to e.from e.to }) d }) b ∙ ap (λ (z : Edge). record { word = w; item = Split q u (record z { to = to z.from z.to }) d }) s) }
placed_there to (TraceSplit q u f live ∷ ops) (c ∷ cs) (w ∷ ws) ds above p y e vs lc lw (inr h) =
    let r = placed_there to ops cs ws (drop 1 ds) (w ∷ above) p y e vs (omega arith) (omega arith) h in
    record { word = r.word; drain = r.drain; in_words = inr r.in_words; has = inr r.has }

number_there : (b n w : ℕ) → w < n → slice_get (numbers b n) w ≡ Some (b + w)
number_there b zero w h = absurd (omega arith)
number_there b (suc n) zero h = let z : b ≡ b + 0 = omega arith in ap Some z
number_there b (suc n) (suc w) h = let z : b + 1 + w ≡ b + suc w = omega arith in number_there (b + 1) n w (omega arith) ∙ ap Some z

module _ (m : MixedGraph) (r : Replacement) (valid : Valid m) (c : CanReplace m r) (first : ℕ) (others : List ℕ) (blocks_are : r.trace.blocks ≡ first ∷ others) where
  abbrev New : MixedGraph
  New = next_mixed m r

  abbrev To : ℕ → ℕ → ℕ
  To = new_end m r.made

  abbrev Blocks : List ℕ
  Blocks = first ∷ others

  abbrev L : Linkable m r
  L = linkable c

  abbrev Items : List InWord
  Items = placed To r.trace.ops r.clusters r.words r.drains []

  in_the_word : (w d p : ℕ) (y : Bool) (e : Edge) → IsIn {A = InWord} (record { word = w; item = Split p y e d }) Items → IsIn (Split p y e d) (in_word Items w)
  in_the_word w d p y e h = in_map (λ (i : InWord). i.item) (filter (λ (i : InWord). i.word == w) Items) (record { word = w; item = Split p y e d }) (filter_has (λ (i : InWord). i.word == w) Items (record { word = w; item = Split p y e d }) h (eq-eqb w w refl))

  word_there : (w : ℕ) → w < r.length → slice_get (new_region m r).words w ≡ Some (in_word Items w)
  word_there w h = map_get (in_word Items) (numbers 0 r.length) w w (number_there 0 r.length w h ∙ (let z : 0 + w ≡ w = omega arith in ap Some z))

  -- an edge out of a block of the trace that is none inside
  from_trace : (a b : ℕ) (k : Block) → IsIn a Blocks → slice_get m.nodes a ≡ Some (Unused k) → IsIn b (targets_of k.exit) → (IsIn (edge a b) (inner_edges Blocks) → ⊥) → IsEdge New (edge a (To a b))
  from_trace a b k inside at t outer = ⊎_elim by_last by_split (follows a first others inside)
    where
      by_last : a ≡ last_of Blocks → IsEdge New (edge a (To a b))
      by_last e =
          let same : a ≡ last_of r.trace.blocks = e ∙ sym (ap last_of blocks_are) in
          let x : IsIn (To a b) (targets_of (renamed_exit (To a) (exit_in (slice_get m.nodes a)))) = subst (λ o. IsIn (To a b) (targets_of (renamed_exit (To a) (exit_in o)))) (sym at) (target_in (To a) k.exit b t) in
          of_last (length m.regions) (new_region m r) (region_made m r valid c first others blocks_are) same (subst (λ z. IsIn (To a b) (targets_of (renamed_exit (To z) (exit_in (slice_get m.nodes z))))) same x)

      by_split : (d : ℕ) × IsIn (edge a d) (inner_edges Blocks) → IsEdge New (edge a (To a b))
      by_split s =
          let exit : (block_at m a).exit ≡ k.exit = ap (λ o. (block_or_none o).exit) at in
          let goes = edge_block m r valid L first others blocks_are a s.0 k ((can m r valid L first others blocks_are).follow (edge a s.0) s.1) at in
          let n : b ≢ s.0 = λ q. outer (subst (λ z. IsIn (edge a z) (inner_edges Blocks)) (sym q) s.1) in
          let x = splits_there m L.is_trace.live Blocks a s.0 b s.1 (subst (λ z. IsIn s.0 (targets_of z)) (sym exit) goes) (subst (λ z. IsIn b (targets_of z)) (sym exit) t) n in
          let plain = subst (IsIn (TraceSplit x.0 x.1 (edge a b) x.2)) (sym (L.is_trace.ops ∙ ap (trace_ops m L.is_trace.live) blocks_are)) x.3 in
          let mine = of_splits r.trace.ops (TraceSplit x.0 x.1 (edge a b) x.2) (subst (IsIn (TraceSplit x.0 x.1 (edge a b) x.2)) (sym L.splits) (in_splits L.plain.ops x.0 x.1 (edge a b) x.2 plain)) in
          let p = placed_there To r.trace.ops r.clusters r.words r.drains [] x.0 x.1 (edge a b) x.2 c.lists.clusters c.lists.words mine in
          of_split (length m.regions) p.word x.0 p.drain x.1 (new_region m r) (in_word Items p.word) (region_made m r valid c first others blocks_are) (word_there p.word (c.words.words p.word p.in_words)) (in_the_word p.word p.drain x.0 x.1 (edge a (To a b)) p.has)

  from_old : (a b : ℕ) → IsEdge m (edge a b) → (IsIn (edge a b) (inner_edges Blocks) → ⊥) → IsEdge New (edge a (To a b))
  from_old a b (of_block {block = k} at t) outer = by (node_kind m r valid L first others blocks_are a (Unused k))
    where
      by : AtNode m r valid L first others blocks_are a (Unused k) (trace_node m r r.trace.blocks a (Unused k)) → IsEdge New (edge a (To a b))
      by (first_one e s) = from_trace a b k (inl e) at t outer
      by (further e s) = from_trace a b k (inr e) at t outer
      by (outside e s) = of_block (node_old m r a (Unused k) at ∙ ap Some s) (target_in (To a) k.exit b t)
  from_old a b (of_split q j p d y g word at in_words h) outer =
      of_split q j p d y (renamed_region To g) (map (rename To) word) (region_kept m r valid c first others blocks_are q g at) (map_get (map (rename To)) g.words j word in_words) (in_map (rename To) word (Split p y (edge a b) d) h)
  from_old a b (of_last q g at f t) outer =
      of_last q (renamed_region To g) (region_kept m r valid c first others blocks_are q g at) f (subst (λ z. IsIn (To a b) (targets_of (renamed_exit (To z) g.last))) f (target_in (To a) g.last b t))

  back : (e : Edge) → IsNextEdge m r e → IsEdge New e
  back e (kept a b old outer is) = subst (IsEdge New) (sym is) (from_old a b old (λ h. outer (subst (λ z. IsIn (edge a b) (inner_edges z)) (sym blocks_are) h)))
  back e (from_made i x has is) = subst (IsEdge New) (sym is) (of_block (node_made m r i x has) (inl refl))

  on : (e : Edge) → IsEdge New e → IsNextEdge m r e
  on e h = by (new_edge m r valid L first others blocks_are e h)
    where
      by : NewEdge m r valid L first others blocks_are e → IsNextEdge m r e
      by (renamed a b old outer f t) = kept a b old (λ i. outer (subst (λ z. IsIn (edge a b) (inner_edges z)) blocks_are i)) (ap (λ z. edge z e.to) f ∙ ap (edge a) t)
      by (by_made i x has f t) = from_made i x has (ap (λ z. edge z e.to) f ∙ ap (edge (length m.nodes + i)) t)

pub edges_after : EdgesAfter
edges_after m r valid c e = let b = some_blocks r.trace.blocks c.trace.can.some in (on m r valid c b.0 b.1 b.2 e, back m r valid c b.0 b.1 b.2 e)
