-- Where no block is made, a replacement changes the nodes of the trace's blocks alone.
use Rattle.std.proofs.Common.{◌≡◌, ◌≢◌, ℕ, zero, suc, ◌+◌, ◌<◌, Bool, true, false, Option, Some, None, List, [], ◌∷◌, ◌++◌, length, map, slice_get, slice_set, refl, sym, ap, ◌∙◌, subst, ⊎_elim, inl, inr, arith, append-nil, Result, Ok, Err, OnOk}
use Rattle.std.specs.Prelude.{not, if◌then◌else◌, OnErr}
use Rattle.std.specs.List.{filter}
use Rattle.std.specs.Option.{option_map}
use Rattle.std.proofs.lemmas.Bool.{cases_eq, eq-eqb, ne_eqb}
use Rattle.vx_flow.specs.declared.graph.Edge.{Edge}
use Rattle.vx_flow.specs.declared.graph.Exit.{Exit}
use Rattle.vx_flow.specs.declared.graph.Exit.TheVariants.{Goto, Split as Branches, Call, Return, Ends}
use Rattle.vx_flow.specs.declared.trace.Join.{Join}
use Rattle.vx_flow.specs.Effects.{IsIn}
use Rattle.vx_flow.specs.Walk.{edge}
use Rattle.vx_flow.proofs.IndexSteps.{get_below}
use Rattle.vx_mixed.specs.declared.region.Item.{Item}
use Rattle.vx_mixed.specs.declared.region.Item.TheVariants.{Plain, Split}
use Rattle.vx_mixed.specs.declared.region.Node.{Node}
use Rattle.vx_mixed.specs.declared.region.Node.TheVariants.{Unused, Enters, Inner}
use Rattle.vx_mixed.specs.declared.region.Region.{Region}
use Rattle.vx_mixed.specs.declared.mixed.MixedGraph.{MixedGraph}
use Rattle.vx_mixed.specs.CanReplace.{CanReplace}
use Rattle.vx_mixed.specs.Edges.{Ascending, IsEdge, EdgesOf}
use Rattle.vx_replace.specs.Exchanged.{with_inner, with_rejoins, with_blocks, exchanged}
use Rattle.vx_mixed.specs.MovedEdges.{is_inner}
use Rattle.vx_mixed.specs.declared.replacement.Replacement.{Replacement}
use Rattle.vx_mixed.specs.Next.{new_end, renamed_exit, renamed_region, renamed_node, new_region, rejoin_at, entered_at, trace_node, nodes_from, made_node, made_origin, next_mixed, rename}
use Rattle.vx_mixed.specs.NextEdges.{IsNextEdge, kept, from_made}
use Rattle.vx_mixed.specs.Settled.{NoTwice}
use Rattle.vx_mixed.specs.TraceOf.{block_ops, inner_edges, joins_behind, trace_joins}
use Rattle.vx_mixed.specs.Valid.{Valid}
use Rattle.vx_mixed.proofs.EdgesAfter.{edges_after}
use Rattle.vx_mixed.proofs.Alike.{in_or}
use Rattle.vx_mixed.proofs.Standing.{get_some}
use Rattle.vx_mixed.proofs.Linked.{Linkable, some_blocks, can, joins, some_edge, unused}
use Rattle.vx_mixed.proofs.MovedEdges.{outer_of, outer_in}
use Rattle.vx_mixed.proofs.NewBlocks.{AtNode, first_one, further, outside, node_kind, in_image}
use Rattle.vx_mixed.proofs.NewNodes.{nodes_length}
use Rattle.vx_replace.proofs.PutSteps.{set_many}
use Rattle.vx_mixed.proofs.TraceFacts.{filter_has, in_filter, joins_once}
use Rattle.vx_mixed.proofs.StaysValid.{linkable, stays_valid}

-- one node put in place of another

set_here : {A : Type 0} (xs : List A) (i : ℕ) (x : A) → i < length xs → slice_get (slice_set xs i x) i ≡ Some x
set_here [] i x lt = absurd (omega arith)
set_here (y ∷ xs) zero x lt = refl
set_here (y ∷ xs) (suc i) x lt = set_here xs i x (omega arith)

set_apart : {A : Type 0} (xs : List A) (i k : ℕ) (x : A) → i ≢ k → slice_get (slice_set xs i x) k ≡ slice_get xs k
set_apart [] i k x n = refl
set_apart (y ∷ xs) zero zero x n = absurd (n refl)
set_apart (y ∷ xs) zero (suc k) x n = refl
set_apart (y ∷ xs) (suc i) zero x n = refl
set_apart (y ∷ xs) (suc i) (suc k) x n = set_apart xs i k x (λ e. n (ap suc e))

-- lists with the same items
same_items : {A : Type 0} (xs ys : List A) → length xs ≡ length ys → ((i : ℕ) → i < length ys → slice_get xs i ≡ slice_get ys i) → xs ≡ ys
same_items [] [] n h = refl
same_items [] (y ∷ ys) n h = absurd (omega (arith, n))
same_items (x ∷ xs) [] n h = absurd (omega (arith, n))
same_items (x ∷ xs) (y ∷ ys) n h =
    let z : Some x ≡ Some y = h 0 (omega arith) in
    let e : x ≡ y = cc in
    ap (λ z. z ∷ xs) e ∙ ap (λ z. y ∷ z) (same_items xs ys (omega (arith, n)) (λ i lt. h (suc i) (omega arith)))

-- the blocks behind the first

pub inner_many : (bs : List ℕ) (nodes : List Node) → length (with_inner bs nodes) ≡ length nodes
inner_many [] nodes = refl
inner_many (b ∷ bs) nodes = inner_many bs (slice_set nodes b Inner) ∙ set_many nodes b Inner

inner_apart : (bs : List ℕ) (nodes : List Node) (k : ℕ) → (IsIn k bs → ⊥) → slice_get (with_inner bs nodes) k ≡ slice_get nodes k
inner_apart [] nodes k n = refl
inner_apart (b ∷ bs) nodes k n = inner_apart bs (slice_set nodes b Inner) k (λ i. n (inr i)) ∙ set_apart nodes b k Inner (λ e. n (inl (sym e)))

inner_here : (bs : List ℕ) (nodes : List Node) (k : ℕ) → k < length nodes → IsIn k bs → slice_get (with_inner bs nodes) k ≡ Some Inner
inner_here [] nodes k lt h = absurd h
inner_here (b ∷ bs) nodes k lt h =
    ⊎_elim
    (λ i. inner_here bs (slice_set nodes b Inner) k (subst (λ z. k < z) (sym (set_many nodes b Inner)) lt) i)
    (λ n.
    let e : k ≡ b = ⊎_elim (λ e. e) (λ i. absurd (n i)) h in
    inner_apart bs (slice_set nodes b Inner) k n ∙ subst (λ z. slice_get (slice_set nodes b Inner) z ≡ Some Inner) (sym e) (set_here nodes b Inner (subst (λ z. z < length nodes) e lt)))
    (in_or k bs)

-- joins

abbrev blocks_of : List Join → List ℕ
blocks_of js = map (λ (j : Join). j.block) js

rejoins_apart : (q : ℕ) (js : List Join) (ws : List ℕ) (nodes : List Node) (k : ℕ) → (IsIn k (blocks_of js) → ⊥) → slice_get (with_rejoins q js ws nodes) k ≡ slice_get nodes k
rejoins_apart q [] ws nodes k n = refl
rejoins_apart q (j ∷ js) [] nodes k n = refl
rejoins_apart q (j ∷ js) (w ∷ ws) nodes k n = rejoins_apart q js ws (slice_set nodes j.block (Enters q w)) k (λ i. n (inr i)) ∙ set_apart nodes j.block k (Enters q w) (λ e. n (inl (sym e)))

abbrev or_before : ℕ → Option ℕ → Option Node → Option Node
or_before q None before = before
or_before q (Some w) before = Some (Enters q w)

rejoins_here : (q : ℕ) (js : List Join) (ws : List ℕ) (nodes : List Node) (k : ℕ) → NoTwice (blocks_of js) → k < length nodes → slice_get (with_rejoins q js ws nodes) k ≡ or_before q (rejoin_at js ws k) (slice_get nodes k)
rejoins_here q [] ws nodes k once lt = refl
rejoins_here q (j ∷ js) [] nodes k once lt = refl
rejoins_here q (j ∷ js) (w ∷ ws) nodes k once lt =
    ⊎_elim
    (λ e.
    rejoins_apart q js ws (slice_set nodes j.block (Enters q w)) k (subst (λ z. IsIn z (blocks_of js) → ⊥) e once.0)
    ∙ subst (λ z. slice_get (slice_set nodes j.block (Enters q w)) z ≡ Some (Enters q w)) e (set_here nodes j.block (Enters q w) (subst (λ z. z < length nodes) (sym e) lt))
    ∙ ap (λ t. or_before q (if t then Some w else rejoin_at js ws k) (slice_get nodes k)) (sym (eq-eqb j.block k e)))
    (λ n.
    rejoins_here q js ws (slice_set nodes j.block (Enters q w)) k once.1 (subst (λ z. k < z) (sym (set_many nodes j.block (Enters q w))) lt)
    ∙ ap (or_before q (rejoin_at js ws k)) (set_apart nodes j.block k (Enters q w) n)
    ∙ ap (λ t. or_before q (if t then Some w else rejoin_at js ws k) (slice_get nodes k)) (sym (ne_eqb j.block k n)))
    (cases_eq j.block k)

rejoins_many : (q : ℕ) (js : List Join) (ws : List ℕ) (nodes : List Node) → length (with_rejoins q js ws nodes) ≡ length nodes
rejoins_many q [] ws nodes = refl
rejoins_many q (j ∷ js) [] nodes = refl
rejoins_many q (j ∷ js) (w ∷ ws) nodes = rejoins_many q js ws (slice_set nodes j.block (Enters q w)) ∙ set_many nodes j.block (Enters q w)

-- a join is at one of these blocks
rejoin_among : (js : List Join) (ws : List ℕ) (k w : ℕ) → rejoin_at js ws k ≡ Some w → IsIn k (blocks_of js)
rejoin_among [] ws k w h = absurd (cc)
rejoin_among (j ∷ js) [] k w h = absurd (cc)
rejoin_among (j ∷ js) (v ∷ ws) k w h =
    ⊎_elim (λ e. inl (sym e)) (λ n. inr (rejoin_among js ws k w (sym (ap (λ t. if t then Some v else rejoin_at js ws k) (ne_eqb j.block k n)) ∙ h))) (cases_eq j.block k)

-- Nothing is renamed where no block is made

module _ (to : ℕ → ℕ → ℕ) (same : (a b : ℕ) → to a b ≡ b) where
  exit_same : (a : ℕ) (x : Exit) → renamed_exit (to a) x ≡ x
  exit_same a (Goto c) = ap Goto (same a c)
  exit_same a (Branches p c d) = ap (λ z. Branches p z (to a d)) (same a c) ∙ ap (Branches p c) (same a d)
  exit_same a (Call g arguments result next) = ap (Call g arguments result) (same a next)
  exit_same a (Return x) = refl
  exit_same a (Ends k) = refl

  item_same : (i : Item) → rename to i ≡ i
  item_same (Plain op cluster) = refl
  item_same (Split p y e d) = ap (λ z. Split p y (edge e.from z) d) (same e.from e.to)

  word_same : (word : List Item) → map (rename to) word ≡ word
  word_same [] = refl
  word_same (i ∷ is) = ap (λ z. z ∷ map (rename to) is) (item_same i) ∙ ap (λ z. i ∷ z) (word_same is)

  words_same : (words : List (List Item)) → map (map (rename to)) words ≡ words
  words_same [] = refl
  words_same (word ∷ words) = ap (λ z. z ∷ map (map (rename to)) words) (word_same word) ∙ ap (λ z. word ∷ z) (words_same words)

  region_same : (g : Region) → renamed_region to g ≡ g
  region_same g = ap (λ z. record g { words = z; last = renamed_exit (to g.from) g.last }) (words_same g.words) ∙ ap (λ z. record g { last = z }) (exit_same g.from g.last)

  regions_same : (gs : List Region) → map (renamed_region to) gs ≡ gs
  regions_same [] = refl
  regions_same (g ∷ gs) = ap (λ z. z ∷ map (renamed_region to) gs) (region_same g) ∙ ap (λ z. g ∷ z) (regions_same gs)

  node_same : (b : ℕ) (k : Node) → renamed_node to b k ≡ k
  node_same b (Unused block) = ap (λ z. Unused (record block { exit = z })) (exit_same b block.exit)
  node_same b (Enters q w) = refl
  node_same b Inner = refl

nodes_at : (m : MixedGraph) (r : Replacement) (n b : ℕ) (nodes : List Node) → slice_get (nodes_from m r n nodes) b ≡ option_map (trace_node m r r.trace.blocks (n + b)) (slice_get nodes b)
nodes_at m r n b [] = refl
nodes_at m r n zero (k ∷ nodes) = let z : n ≡ n + 0 = omega arith in ap (λ y. Some (trace_node m r r.trace.blocks y k)) z
nodes_at m r n (suc b) (k ∷ nodes) = let z : n + 1 + b ≡ n + suc b = omega arith in nodes_at m r (n + 1) b nodes ∙ ap (λ y. option_map (trace_node m r r.trace.blocks y) (slice_get nodes b)) z

module _ (m : MixedGraph) (r : Replacement) (valid : Valid m) (c : CanReplace m r) (none : r.made ≡ []) (first : ℕ) (others : List ℕ) (blocks_are : r.trace.blocks ≡ first ∷ others) where
  abbrev To : ℕ → ℕ → ℕ
  To = new_end m r.made

  abbrev L : Linkable m r
  L = linkable c

  abbrev Q : ℕ
  Q = length m.regions

  pub to_same : (a b : ℕ) → To a b ≡ b
  to_same a b = ap (λ ms. new_end m ms a b) none

  once : NoTwice (first ∷ others)
  once = (can m r valid L first others blocks_are).once

  join_among : (k : ℕ) → IsIn k (blocks_of r.trace.joins) → IsIn k others
  join_among k h =
      let x = in_image (λ (j : Join). j.block) r.trace.joins k h in
      let e = some_edge m r valid L first others blocks_are x.0 x.1 in
      let f = joins m r valid L first others blocks_are x.0 e.0 e.1 x.1 e.2 in
      subst (λ z. IsIn z others) (f.block ∙ sym x.2) f.behind

  joins_differ : NoTwice (blocks_of r.trace.joins)
  joins_differ =
      let t = c.trace.is_trace in
      let are : c.trace.plain.joins ≡ joins_behind m t.live t.edges first (length (block_ops m t.live first others)) others = t.joins ∙ ap (trace_joins m t.live t.edges) blocks_are in
      subst NoTwice (sym (c.trace.join_blocks ∙ ap (λ js. map (λ (j : Join). j.block) js) are)) (joins_once m t.live t.edges first (length (block_ops m t.live first others)) others once.1)

  abbrev Begun : List Node
  Begun = slice_set m.nodes first (Enters Q 0)

  abbrev Inside : List Node
  Inside = with_inner others Begun

  abbrev After : List Node
  After = with_rejoins Q r.trace.joins r.rejoins Inside

  inside_many : length Inside ≡ length m.nodes
  inside_many = inner_many others Begun ∙ set_many m.nodes first (Enters Q 0)

  after_many : length After ≡ length m.nodes
  after_many = rejoins_many Q r.trace.joins r.rejoins Inside ∙ inside_many

  node_after : (b : ℕ) (o : Node) → slice_get m.nodes b ≡ Some o → slice_get After b ≡ Some (trace_node m r r.trace.blocks b o)
  node_after b o at = by (node_kind m r valid L first others blocks_are b o)
    where
      low : b < length m.nodes
      low = get_below m.nodes b o at

      behind : (IsIn b others → ⊥) → slice_get After b ≡ slice_get Begun b
      behind n = rejoins_apart Q r.trace.joins r.rejoins Inside b (λ i. n (join_among b i)) ∙ inner_apart others Begun b n

      entered : (x : Option ℕ) → or_before Q x (Some Inner) ≡ Some (entered_at Q x)
      entered None = refl
      entered (Some w) = refl

      by : AtNode m r valid L first others blocks_are b o (trace_node m r r.trace.blocks b o) → slice_get After b ≡ Some (trace_node m r r.trace.blocks b o)
      by (first_one e s) =
          behind (subst (λ z. IsIn z others → ⊥) (sym e) once.0)
          ∙ subst (λ z. slice_get Begun z ≡ Some (Enters Q 0)) (sym e) (set_here m.nodes first (Enters Q 0) (subst (λ z. z < length m.nodes) e low))
          ∙ ap Some (sym s)
      by (further i s) =
          rejoins_here Q r.trace.joins r.rejoins Inside b joins_differ (subst (λ z. b < z) (sym inside_many) low)
          ∙ ap (or_before Q (rejoin_at r.trace.joins r.rejoins b)) (inner_here others Begun b (subst (λ z. b < z) (sym (set_many m.nodes first (Enters Q 0))) low) i)
          ∙ entered (rejoin_at r.trace.joins r.rejoins b)
          ∙ ap Some (sym s)
      by (outside n s) =
          behind (λ i. n (inr i))
          ∙ set_apart m.nodes first b (Enters Q 0) (λ e. n (inl (sym e)))
          ∙ at
          ∙ ap Some (sym (s ∙ node_same To to_same b o))

  nodes_are : After ≡ nodes_from m r 0 m.nodes
  nodes_are = same_items After (nodes_from m r 0 m.nodes) (after_many ∙ sym (nodes_length m r 0 m.nodes)) at
    where
      at : (i : ℕ) → i < length (nodes_from m r 0 m.nodes) → slice_get After i ≡ slice_get (nodes_from m r 0 m.nodes) i
      at i lt =
          let o = get_some m.nodes i (subst (λ z. i < z) (nodes_length m r 0 m.nodes) lt) in
          let z : 0 + i ≡ i = omega arith in
          node_after i o.0 o.1 ∙ sym (nodes_at m r 0 i m.nodes ∙ ap (λ n. option_map (trace_node m r r.trace.blocks n) (slice_get m.nodes i)) z ∙ ap (option_map (trace_node m r r.trace.blocks i)) o.1)

  abbrev changed : List Node → MixedGraph
  changed nodes = record m { nodes = nodes; regions = m.regions ++ new_region m r ∷ []; homes = r.homes }

  pub changed_is : changed (exchanged Q r m.nodes) ≡ next_mixed m r
  changed_is =
      let nodes : exchanged Q r m.nodes ≡ nodes_from m r 0 m.nodes ++ map made_node r.made =
      ap (λ bs. with_blocks Q bs r.trace.joins r.rejoins m.nodes) blocks_are ∙ nodes_are ∙ sym (append-nil (nodes_from m r 0 m.nodes)) ∙ ap (λ ms. nodes_from m r 0 m.nodes ++ map made_node ms) (sym none) in
      let origins : m.origins ≡ m.origins ++ map (made_origin r.trace.ops) r.made = sym (append-nil m.origins) ∙ ap (λ ms. m.origins ++ map (made_origin r.trace.ops) ms) (sym none) in
      let regions : m.regions ++ new_region m r ∷ [] ≡ map (renamed_region To) m.regions ++ new_region m r ∷ [] = ap (λ gs. gs ++ new_region m r ∷ []) (sym (regions_same To to_same m.regions)) in
      ap changed nodes
      ∙ ap (λ gs. record m { nodes = nodes_from m r 0 m.nodes ++ map made_node r.made; regions = gs; homes = r.homes }) regions
      ∙ ap (λ os. record m { nodes = nodes_from m r 0 m.nodes ++ map made_node r.made; regions = map (renamed_region To) m.regions ++ new_region m r ∷ []; origins = os; homes = r.homes }) origins

  -- the blocks of the trace and its joins are there

  pub first_low : first < length m.nodes
  first_low = let u = unused m r valid L first others blocks_are first (inl refl) in get_below m.nodes first (Unused u.0) u.1

pub block_low : (m : MixedGraph) (r : Replacement) → CanReplace m r → (b : ℕ) → IsIn b r.trace.blocks → b < length m.nodes
block_low m r c b h = let u = c.trace.can.unused b h in get_below m.nodes b (Unused u.0) u.1

pub join_low : (m : MixedGraph) (r : Replacement) → Valid m → CanReplace m r → (j : Join) → IsIn j r.trace.joins → j.block < length m.nodes
join_low m r valid c j h =
    let b = some_blocks r.trace.blocks c.trace.can.some in
    let e = some_edge m r valid (linkable c) b.0 b.1 b.2 j h in
    let f = joins m r valid (linkable c) b.0 b.1 b.2 j e.0 e.1 h e.2 in
    block_low m r c j.block (subst (IsIn j.block) (sym b.2) (inr (subst (λ z. IsIn z b.1) f.block f.behind)))

-- the graph that a trace was put into as a region
pub put_is : (m : MixedGraph) (r : Replacement) → Valid m → CanReplace m r → r.made ≡ [] → (nodes : List Node) (regions : List Region) → nodes ≡ exchanged (length m.regions) r m.nodes → regions ≡ m.regions ++ new_region m r ∷ [] → record m { nodes = nodes; regions = regions; homes = r.homes } ≡ next_mixed m r
put_is m r valid c none nodes regions n g =
    let b = some_blocks r.trace.blocks c.trace.can.some in
    ap (λ z. record m { nodes = z; regions = regions; homes = r.homes }) n ∙ ap (λ z. record m { nodes = exchanged (length m.regions) r m.nodes; regions = z; homes = r.homes }) g ∙ changed_is m r valid c none b.0 b.1 b.2

-- the same where the region was put first
pub put_behind : (m g : MixedGraph) (r : Replacement) → Valid m → CanReplace m r → r.made ≡ [] → (nodes : List Node) → g ≡ record m { regions = m.regions ++ new_region m r ∷ [] } → nodes ≡ exchanged (length m.regions) r g.nodes → record g { nodes = nodes; homes = r.homes } ≡ next_mixed m r
put_behind m g r valid c none nodes e n =
    ap (λ (z : MixedGraph). record z { nodes = nodes; homes = r.homes }) e
    ∙ put_is m r valid c none nodes (m.regions ++ new_region m r ∷ []) (n ∙ ap (λ (z : MixedGraph). exchanged (length m.regions) r z.nodes) e) refl

-- Edges

no_inner : (blocks : List ℕ) (e : Edge) → length blocks < 2 → IsIn e (inner_edges blocks) → ⊥
no_inner [] e lt h = h
no_inner (b ∷ []) e lt h = h
no_inner (b ∷ c ∷ bs) e lt h = omega arith

module _ (m : MixedGraph) (r : Replacement) (valid : Valid m) (c : CanReplace m r) (none : r.made ≡ []) (one : length r.trace.blocks < 2) where
  was_edge : (e : Edge) → IsNextEdge m r e → IsEdge m e
  was_edge e (kept a b old n same) = subst (IsEdge m) (sym (same ∙ ap (edge a) (ap (λ ms. new_end m ms a b) none))) old
  was_edge e (from_made i x has same) = absurd (let z : None ≡ Some x = sym (ap (λ ms. slice_get ms i) none) ∙ has in cc)

  is_edge : (e : Edge) → IsEdge m e → IsNextEdge m r e
  is_edge e old = kept e.from e.to old (no_inner r.trace.blocks e one) (ap (edge e.from) (sym (ap (λ ms. new_end m ms e.from e.to) none)))

  pub edges_stay : (edges : List Edge) → EdgesOf m edges → EdgesOf (next_mixed m r) edges
  edges_stay edges are = record {
    ascending = are.ascending;
    exact = λ e. ((λ i. (edges_after m r valid c e).1 (is_edge e ((are.exact e).0 i))), (λ i. (are.exact e).1 (was_edge e ((edges_after m r valid c e).0 i))));
  }

-- the edges that are not inside the trace

ascend_still : (p : Edge → Bool) (es : List Edge) → Ascending es → Ascending (filter p es)
ascend_still p [] up = tt
ascend_still p (e ∷ es) up = by (p e) (ascend_still p es up.1)
  where
    by : (b : Bool) → Ascending (filter p es) → Ascending (if b then e ∷ filter p es else filter p es)
    by true rest = ((λ f h. up.0 f (in_filter p es f h).0), rest)
    by false rest = rest

module _ (m : MixedGraph) (r : Replacement) (valid : Valid m) (c : CanReplace m r) (none : r.made ≡ []) (edges : List Edge) (are : EdgesOf m edges) where
  abbrev Outer : Edge → Bool
  Outer e = not (is_inner r.trace.blocks e)

  left_on : (e : Edge) → IsIn e (filter Outer edges) → IsNextEdge m r e
  left_on e h = let i = in_filter Outer edges e h in kept e.from e.to ((are.exact e).0 i.0) (outer_of r.trace.blocks e i.1) (ap (edge e.from) (sym (ap (λ ms. new_end m ms e.from e.to) none)))

  left_back : (e : Edge) → IsNextEdge m r e → IsIn e (filter Outer edges)
  left_back e (kept a b old outer same) =
      subst (λ z. IsIn z (filter Outer edges)) (sym (same ∙ ap (edge a) (ap (λ ms. new_end m ms a b) none))) (filter_has Outer edges (edge a b) ((are.exact (edge a b)).1 old) (outer_in r.trace.blocks (edge a b) outer))
  left_back e (from_made i x has same) = absurd (let z : None ≡ Some x = sym (ap (λ ms. slice_get ms i) none) ∙ has in cc)

  pub outer_left : EdgesOf (next_mixed m r) (filter Outer edges)
  outer_left = record {
    ascending = ascend_still Outer edges are.ascending;
    exact = λ e. ((λ i. (edges_after m r valid c e).1 (left_on e i)), (λ i. left_back e ((edges_after m r valid c e).0 i)));
  }

-- either way the call ended
pub either : {A B : Type 0} (P : MixedGraph → Type 0) (result : Result A B) (new next old : MixedGraph) → OnOk result (new ≡ next) → OnErr result (new ≡ old) → P next → P old → P new
either P (Ok a) new next old ok err after before = subst P (sym ok) after
either P (Err e) new next old ok err after before = subst P (sym err) before

-- where no block is made there are as few as before
pub few_alone : (m : MixedGraph) (r : Replacement) (n : ℕ) → n ≡ length m.nodes → n < 4294967296 → r.made ≡ [] → length m.nodes + length r.made < 4294967296
few_alone m r n many few none = let one = many in let two = few in let no : length r.made ≡ 0 = ap length none in omega arith

abbrev pub Whole : List Edge → MixedGraph → Type 0
Whole edges m = EdgesOf m edges × Valid m

pub put_alone : {A B : Type 0} (m new : MixedGraph) (r : Replacement) (edges : List Edge) (result : Result A B) → Whole edges m → CanReplace m r → r.made ≡ [] → length r.trace.blocks < 2 → OnOk result (new ≡ next_mixed m r) → OnErr result (new ≡ m) → Whole edges new
put_alone m new r edges result whole c none one ok err = either (Whole edges) result new (next_mixed m r) m ok err (edges_stay m r whole.1 c none one edges whole.0, stays_valid m r whole.1 c) whole

-- the edges that are left, as the call gives them
pub put_whole : (m new : MixedGraph) (r : Replacement) (edges seen outer : List Edge) (blocks : List ℕ) → Whole edges m → CanReplace m r → r.made ≡ [] → blocks ≡ r.trace.blocks → seen ≡ edges → outer ≡ filter (λ e. not (is_inner blocks e)) seen → new ≡ next_mixed m r → Whole outer new
put_whole m new r edges seen outer blocks whole c none b s are is =
    let left : outer ≡ filter (λ e. not (is_inner r.trace.blocks e)) edges = are ∙ ap (λ bs. filter (λ e. not (is_inner bs e)) seen) b ∙ ap (filter (λ e. not (is_inner r.trace.blocks e))) s in
    subst (Whole outer) (sym is) (subst (EdgesOf (next_mixed m r)) (sym left) (outer_left m r whole.1 c none edges whole.0), stays_valid m r whole.1 c)
