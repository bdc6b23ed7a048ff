-- The arguments of a replacement give what the law of motion asks.
use Rattle.std.proofs.Common.{◌≡◌, ◌≢◌, ℕ, zero, suc, ◌<◌, ◌≤◌, Bool, true, false, ◌&&◌, Option, Some, None, List, [], ◌∷◌, length, map, drop, slice_get, refl, sym, ap, ◌∙◌, subst, ⊎_elim, inl, inr, arith}
use Rattle.std.specs.Prelude.{◌⊎◌, ◌==◌, not, if◌then◌else◌}
use Rattle.std.specs.List.{list_any}
use Rattle.std.proofs.lemmas.Bool.{eqb-true, eq-eqb, ne_eqb, cases_Bool}
use Rattle.vx_flow.specs.declared.graph.Block.{Block}
use Rattle.vx_flow.specs.declared.graph.Edge.{Edge}
use Rattle.vx_flow.specs.declared.graph.Exit.{Exit}
use Rattle.vx_flow.specs.declared.graph.Exit.TheVariants.{Goto, Split as Branches, Call, Return, Ends}
use Rattle.vx_flow.specs.declared.trace.TraceOp.TheVariants.{Split as TraceSplit}
use Rattle.vx_flow.specs.declared.trace.Join.{Join}
use Rattle.vx_flow.specs.declared.trace.Trace.{Trace}
use Rattle.vx_flow.specs.Effects.{IsIn}
use Rattle.vx_flow.specs.Sound.{targets_of}
use Rattle.vx_flow.specs.Walk.{edge}
use Rattle.vx_flow.proofs.SoundLists.{any_in, any_of, or_left, or_right}
use Rattle.vx_flow.proofs.IndexSteps.{get_below}
use Rattle.vx_mixed.specs.declared.region.Made.{Made}
use Rattle.vx_mixed.specs.declared.region.Node.{Node}
use Rattle.vx_mixed.specs.declared.region.Node.TheVariants.{Unused, Enters}
use Rattle.vx_mixed.specs.declared.mixed.MixedGraph.{MixedGraph}
use Rattle.vx_mixed.specs.Edges.{IsEdge, of_block, of_split, of_last}
use Rattle.vx_mixed.specs.FromGraph.{same_edge}
use Rattle.vx_mixed.specs.Settled.{NoTwice}
use Rattle.vx_mixed.specs.Way.{Renamed, goto, branch, call, return, stop, LeadsIn, LeadsOut, at_once, by_made}
use Rattle.vx_mixed.specs.Next.{Replacement, made_on, block_or, new_end, renamed_exit, last_of, is_split_edge, rejoin_at, entered_at, trace_node, next_mixed, on_edge}
use Rattle.vx_mixed.specs.TraceOf.{CanTrace, IsTraceOf, block_at, block_or_none, block_ops, inner_edges, trace_ops, trace_joins, joins_behind}
use Rattle.vx_mixed.specs.Valid.{Valid, PartsWays, is_entrance, is_in_region}
use Rattle.vx_mixed.specs.Entrances.{meet_old, edge_of_made, at_split, at_join, meet_new, stays, joined_at, pairs}
use Rattle.vx_mixed.specs.TraceItems.{splits_of}
use Rattle.vx_mixed.proofs.Alike.{in_or}
use Rattle.vx_mixed.proofs.PathOf.{from_inside, to_inside}
use Rattle.vx_mixed.proofs.NewNodes.{and_both, same_is, is_same_edge, made_none, made_some, edge_made, edge_old, node_old, node_made}
use Rattle.vx_mixed.proofs.TraceFacts.{split_on, in_splits, of_splits, SplitFact, split_fact, inner_from, inner_to, last_none, join_fact, joins_there, joins_once}

pub some_blocks : (bs : List ℕ) → bs ≢ [] → (first : ℕ) × (others : List ℕ) × (bs ≡ first ∷ others)
some_blocks [] n = absurd (n refl)
some_blocks (b ∷ bs) n = (b, bs, refl)

pub in_index : {A : Type 0} (xs : List A) (x : A) → IsIn x xs → (i : ℕ) × (slice_get xs i ≡ Some x)
in_index [] x h = absurd h
in_index (y ∷ ys) x (inl e) = (0, ap Some (sym e))
in_index (y ∷ ys) x (inr h) = let r = in_index ys x h in (suc r.0, r.1)

pub index_in : {A : Type 0} (xs : List A) (i : ℕ) (x : A) → slice_get xs i ≡ Some x → IsIn x xs
index_in [] i x h = absurd (cc)
index_in (y ∷ ys) zero x h = let q : y ≡ x = cc in inl (sym q)
index_in (y ∷ ys) (suc i) x h = inr (index_in ys i x h)

-- two lists with the same images have the same ones at each place
pub same_image : {A B : Type 0} (f : A → B) (xs ys : List A) (i : ℕ) (x : A) → map f xs ≡ map f ys → slice_get xs i ≡ Some x → (y : A) × (slice_get ys i ≡ Some y) × (f y ≡ f x)
same_image f [] ys i x e h = absurd (cc)
same_image f (z ∷ xs) [] i x e h = absurd (cc)
same_image f (z ∷ xs) (y ∷ ys) zero x e h = let q : z ≡ x = cc in let g : f z ≡ f y = cc in (y, refl, sym g ∙ ap f q)
same_image f (z ∷ xs) (y ∷ ys) (suc i) x e h = let g : map f xs ≡ map f ys = cc in same_image f xs ys i x g h

pub some_same : {A : Type 0} (o : Option A) (x y : A) → o ≡ Some x → o ≡ Some y → x ≡ y
some_same o x y p q = let h : Some x ≡ Some y = sym p ∙ q in cc

pub in_edge : (a b : ℕ) (bs : List ℕ) → IsIn b bs → (c : ℕ) × IsIn (edge c b) (inner_edges (a ∷ bs))
in_edge a b [] h = absurd h
in_edge a b (d ∷ bs) (inl e) = (a, inl (ap (edge a) e))
in_edge a b (d ∷ bs) (inr h) = let r = in_edge d b bs h in (r.0, inr r.1)

-- a renamed exit

renamed_by : (pairs : ℕ → ℕ → Bool) (f : ℕ → ℕ) (x : Exit) → ((c : ℕ) → IsIn c (targets_of x) → pairs c (f c) ≡ true) → Renamed pairs x (renamed_exit f x)
renamed_by pairs f (Goto c) h = goto (h c (inl refl))
renamed_by pairs f (Branches p c d) h = branch (h c (inl refl)) (h d (inr (inl refl)))
renamed_by pairs f (Call g arguments result next) h = call (h next (inl refl))
renamed_by pairs f (Return x) h = return
renamed_by pairs f (Ends k) h = stop

pub targets_renamed : (f : ℕ → ℕ) (x : Exit) (c : ℕ) → IsIn c (targets_of (renamed_exit f x)) → (d : ℕ) × IsIn d (targets_of x) × (c ≡ f d)
targets_renamed f (Goto d) c (inl e) = (d, inl refl, e)
targets_renamed f (Goto d) c (inr h) = absurd h
targets_renamed f (Branches p d e) c (inl q) = (d, inl refl, q)
targets_renamed f (Branches p d e) c (inr (inl q)) = (e, inr (inl refl), q)
targets_renamed f (Branches p d e) c (inr (inr h)) = absurd h
targets_renamed f (Call g arguments result next) c (inl e) = (next, inl refl, e)
targets_renamed f (Call g arguments result next) c (inr h) = absurd h
targets_renamed f (Return x) c h = absurd h
targets_renamed f (Ends k) c h = absurd h

rejoin_there : (js : List Join) (ws : List ℕ) (i w : ℕ) (j : Join) → NoTwice (map (λ (j : Join). j.block) js) → slice_get js i ≡ Some j → slice_get ws i ≡ Some w → rejoin_at js ws j.block ≡ Some w
rejoin_there [] ws i w j once h k = absurd (cc)
rejoin_there (x ∷ js) [] i w j once h k = absurd (cc)
rejoin_there (x ∷ js) (v ∷ ws) zero w j once h k = let q : x ≡ j = cc in let s : v ≡ w = cc in ap (λ b. if b then Some v else rejoin_at js ws j.block) (eq-eqb x.block j.block (ap (λ (z : Join). z.block) q)) ∙ ap Some s
rejoin_there (x ∷ js) (v ∷ ws) (suc i) w j once h k =
    ap (λ b. if b then Some v else rejoin_at js ws j.block) (ne_eqb x.block j.block (λ e. once.0 (subst (λ z. IsIn z (map (λ (j : Join). j.block) js)) (sym e) (named js i h))))
    ∙ rejoin_there js ws i w j once.1 h k
  where
    named : (js : List Join) (i : ℕ) → slice_get js i ≡ Some j → IsIn j.block (map (λ (j : Join). j.block) js)
    named [] i h = absurd (cc)
    named (y ∷ js) zero h = let q : y ≡ j = cc in inl (ap (λ (z : Join). z.block) (sym q))
    named (y ∷ js) (suc i) h = inr (named js i h)

pub entrance_there : (o : Option Node) → is_entrance o ≡ true → (k : Node) × (o ≡ Some k)
entrance_there None h = absurd (cc)
entrance_there (Some k) h = (k, refl)

pub region_there : (o : Option Node) → is_in_region o ≡ true → (k : Node) × (o ≡ Some k)
region_there None h = absurd (cc)
region_there (Some k) h = (k, refl)

-- what links the edges of the graph and the one after the replacement
pub record Linkable (m : MixedGraph) (r : Replacement) : Type 0 where
  pub can : CanTrace m r.trace.blocks
  pub plain : Trace
  pub is_trace : IsTraceOf m r.trace.blocks plain
  pub splits : splits_of r.trace.ops ≡ splits_of plain.ops
  pub join_blocks : map (λ (j : Join). j.block) r.trace.joins ≡ map (λ (j : Join). j.block) plain.joins
  pub join_edges : map (λ (j : Join). j.edges) r.trace.joins ≡ map (λ (j : Join). j.edges) plain.joins
  pub made_where : (x : Made) → IsIn x r.made → (is_split_edge r.trace.ops x.edge ≡ true) ⊎ ((j : Join) × IsIn j r.trace.joins × IsIn x.edge j.edges)

module _ (m : MixedGraph) (r : Replacement) (valid : Valid m) (c : Linkable m r) (first : ℕ) (others : List ℕ) (blocks_are : r.trace.blocks ≡ first ∷ others) where
  abbrev pub New : MixedGraph
  New = next_mixed m r

  abbrev pub N : ℕ
  N = length m.nodes

  abbrev pub To : ℕ → ℕ → ℕ
  To = new_end m r.made

  abbrev pub MeetOld : ℕ → ℕ → Bool
  MeetOld = meet_old r

  abbrev pub MeetNew : ℕ → ℕ → Bool
  MeetNew = meet_new m r

  abbrev pub Pairs : ℕ → ℕ → Bool
  Pairs = pairs m r

  abbrev pub InnerEdge : ℕ → ℕ → Type 0
  InnerEdge a b = IsIn (edge a b) (inner_edges (first ∷ others))

  pub can : CanTrace m (first ∷ others)
  can = subst (CanTrace m) blocks_are c.can

  pub inner_in : (e : Edge) → IsIn e (inner_edges (first ∷ others)) → IsIn e (inner_edges r.trace.blocks)
  inner_in e h = subst (λ z. IsIn e (inner_edges z)) (sym blocks_are) h

  -- where edges meet

  pub meets_not : (a b : ℕ) → InnerEdge a b → MeetOld a b ≡ false
  meets_not a b h = ap not (any_of (λ e. same_edge e (edge a b)) (inner_edges r.trace.blocks) (edge a b) (inner_in (edge a b) h) (is_same_edge (edge a b) (edge a b) refl))

  pub meets : (a b : ℕ) → (InnerEdge a b → ⊥) → MeetOld a b ≡ true
  meets a b n = ap not (⊎_elim (λ t. absurd (found t)) (λ f. f) (cases_Bool (list_any (λ e. same_edge e (edge a b)) (inner_edges r.trace.blocks))))
    where
      found : list_any (λ e. same_edge e (edge a b)) (inner_edges r.trace.blocks) ≡ true → ⊥
      found t =
          let f = any_in (λ e. same_edge e (edge a b)) (inner_edges r.trace.blocks) t in
          n (subst (λ z. IsIn z (inner_edges (first ∷ others))) (same_is f.item (edge a b) f.holds) (subst (λ z. IsIn f.item (inner_edges z)) blocks_are f.has))

  pub meet_plain : (a b : ℕ) → a < N → b < N → MeetNew a b ≡ true
  meet_plain a b la lb = ap (λ o. not (at_split r.trace.ops o) && not (at_join r.trace.ops (edge_of_made N r.made a))) (edge_old N r.made b lb) ∙ ap (λ o. true && not (at_join r.trace.ops o)) (edge_old N r.made a la)

  -- entrances

  pub tail_is : drop 1 r.trace.blocks ≡ others
  tail_is = ap (drop 1) blocks_are

  pub stays_of : (b : ℕ) → is_entrance (slice_get m.nodes b) ≡ true → (IsIn b others → ⊥) → stays m r b ≡ true
  stays_of b h n = and_both (is_entrance (slice_get m.nodes b)) (not (list_any (λ x. x == b) (drop 1 r.trace.blocks))) h (ap not (⊎_elim (λ t. absurd (found t)) (λ f. f) (cases_Bool (list_any (λ x. x == b) (drop 1 r.trace.blocks)))))
    where
      found : list_any (λ x. x == b) (drop 1 r.trace.blocks) ≡ true → ⊥
      found t = let f = any_in (λ x. x == b) (drop 1 r.trace.blocks) t in n (subst (λ z. IsIn z others) (eqb-true f.item b f.holds) (subst (IsIn f.item) tail_is f.has))

  pub pair_stays : (b : ℕ) → is_entrance (slice_get m.nodes b) ≡ true → (IsIn b others → ⊥) → Pairs b b ≡ true
  pair_stays b h n = or_left (stays m r b && (b == b)) (joined_at To r.trace.joins b b) (and_both (stays m r b) (b == b) (stays_of b h n) (eq-eqb b b refl))

  pub pair_joined : (j : Join) (a b b' : ℕ) → IsIn j r.trace.joins → j.block ≡ b → IsIn (edge a b) j.edges → To a b ≡ b' → Pairs b b' ≡ true
  pair_joined j a b b' h q e t =
      or_right (stays m r b && (b == b')) (joined_at To r.trace.joins b b')
      (any_of (λ (j : Join). (j.block == b) && list_any (λ (e : Edge). To e.from e.to == b') j.edges) r.trace.joins j h
      (and_both (j.block == b) (list_any (λ (e : Edge). To e.from e.to == b') j.edges) (eq-eqb j.block b q) (any_of (λ (e : Edge). To e.from e.to == b') j.edges (edge a b) e (eq-eqb (To a b) b' t))))

  -- blocks of the trace

  pub unused : (b : ℕ) → IsIn b (first ∷ others) → (k : Block) × (slice_get m.nodes b ≡ Some (Unused k))
  unused b h = can.unused b h

  pub no_region : (b : ℕ) → IsIn b (first ∷ others) → is_in_region (slice_get m.nodes b) ≡ true → ⊥
  no_region b h t = let u = unused b h in let q : false ≡ true = sym (ap is_in_region u.1) ∙ t in cc

  pub edge_block : (a b : ℕ) (k : Block) → IsEdge m (edge a b) → slice_get m.nodes a ≡ Some (Unused k) → IsIn b (targets_of k.exit)
  edge_block a b k (of_block {block = o} at t) u = let q : Unused o ≡ Unused k = some_same (slice_get m.nodes a) (Unused o) (Unused k) at u in let s : o ≡ k = cc in subst (λ (z : Block). IsIn b (targets_of z.exit)) s t
  edge_block a b k (of_split q j p d y g w at in_word h) u = absurd (let s = valid.splits_from q j p d y (edge a b) g w at in_word h in let z : false ≡ true = sym (ap is_in_region u) ∙ s in cc)
  edge_block a b k (of_last q g at f t) u = absurd (let s = valid.last_from q g at in let z : false ≡ true = sym (ap is_in_region u) ∙ ap (λ y. is_in_region (slice_get m.nodes y)) f ∙ s in cc)

  pub from_below : (a b : ℕ) → IsEdge m (edge a b) → a < N
  from_below a b (of_block {block = o} at t) = get_below m.nodes a (Unused o) at
  from_below a b (of_split q j p d y g w at in_word h) = let k = region_there (slice_get m.nodes a) (valid.splits_from q j p d y (edge a b) g w at in_word h) in get_below m.nodes a k.0 k.1
  from_below a b (of_last q g at f t) = let k = region_there (slice_get m.nodes a) (ap (λ y. is_in_region (slice_get m.nodes y)) f ∙ valid.last_from q g at) in get_below m.nodes a k.0 k.1

  pub to_below : (a b : ℕ) → IsEdge m (edge a b) → b < N
  to_below a b e = let k = entrance_there (slice_get m.nodes b) (valid.leads (edge a b) e) in get_below m.nodes b k.0 k.1

  -- splits

  parts : (b : ℕ) → IsIn b (first ∷ others) → PartsWays (block_at m b).exit
  parts b h = let u = unused b h in subst (λ (z : Block). PartsWays z.exit) (sym (ap block_or_none u.1)) (valid.block_parts b u.0 u.1).0

  goes : (a b : ℕ) → InnerEdge a b → IsIn b (targets_of (block_at m a).exit)
  goes a b h = let u = unused a (from_inside (first ∷ others) (edge a b) h) in subst (λ (z : Block). IsIn b (targets_of z.exit)) (sym (ap block_or_none u.1)) (edge_block a b u.0 (can.follow (edge a b) h) u.1)

  pub in_plain : (p : ℕ) (y : Bool) (e : Edge) (live : List ℕ) → IsIn (TraceSplit p y e live) r.trace.ops → IsIn (TraceSplit p y e live) c.plain.ops
  in_plain p y e live h = of_splits c.plain.ops (TraceSplit p y e live) (subst (IsIn (TraceSplit p y e live)) c.splits (in_splits r.trace.ops p y e live h))

  pub split_is : (e : Edge) → is_split_edge r.trace.ops e ≡ true → SplitFact m (first ∷ others) e
  split_is e t =
      let s = split_on r.trace.ops e t in
      split_fact m c.is_trace.live (first ∷ others) parts goes s.test s.leaves_when e s.live (subst (IsIn (TraceSplit s.test s.leaves_when e s.live)) (c.is_trace.ops ∙ ap (trace_ops m c.is_trace.live) blocks_are) (in_plain s.test s.leaves_when e s.live s.has))

  pub record OffTrace (a b : ℕ) : Type 0 where
    pub is_edge : IsEdge m (edge a b)
    pub begins : IsIn a (first ∷ others)
    pub outer : InnerEdge a b → ⊥
    pub away : IsIn b others → ⊥
    pub not_last : a ≢ last_of (first ∷ others)

  pub off_trace : (a b : ℕ) → is_split_edge r.trace.ops (edge a b) ≡ true → OffTrace a b
  off_trace a b t =
      let s = split_is (edge a b) t in
      let u = unused a (from_inside (first ∷ others) (edge a s.next) s.follows) in
      let is_edge : IsEdge m (edge a b) = of_block {block = u.0} u.1 (subst (λ (z : Block). IsIn b (targets_of z.exit)) (ap block_or_none u.1) s.target) in
      let outer : InnerEdge a b → ⊥ = λ h. let q : edge a b ≡ edge a s.next = inner_from (first ∷ others) (edge a b) (edge a s.next) can.once h s.follows refl in s.other (ap (λ (z : Edge). z.to) q) in
      record {
        is_edge = is_edge;
        begins = from_inside (first ∷ others) (edge a s.next) s.follows;
        outer = outer;
        away = λ h. outer (can.back (edge a b) is_edge (from_inside (first ∷ others) (edge a s.next) s.follows) h);
        not_last = λ q. last_none first others s.next can.once (subst (λ z. IsIn (edge z s.next) (inner_edges (first ∷ others))) q s.follows);
      }

  -- joins

  plain_joins : c.plain.joins ≡ joins_behind m c.is_trace.live c.is_trace.edges first (length (block_ops m c.is_trace.live first others)) others
  plain_joins = c.is_trace.joins ∙ ap (trace_joins m c.is_trace.live c.is_trace.edges) blocks_are

  pub record Joins (j : Join) (a b : ℕ) : Type 0 where
    pub is_edge : IsEdge m (edge a b)
    pub block : b ≡ j.block
    pub behind : IsIn b others
    pub outer : InnerEdge a b → ⊥
    pub no_split : is_split_edge r.trace.ops (edge a b) ≡ false

  pub joins : (j : Join) (a b : ℕ) → IsIn j r.trace.joins → IsIn (edge a b) j.edges → Joins j a b
  joins j a b h e =
      let i = in_index r.trace.joins j h in
      let x = same_image (λ (j : Join). j.block) r.trace.joins c.plain.joins i.0 j c.join_blocks i.1 in
      let y = same_image (λ (j : Join). j.edges) r.trace.joins c.plain.joins i.0 j c.join_edges i.1 in
      let same : y.0 ≡ x.0 = some_same (slice_get c.plain.joins i.0) y.0 x.0 y.1 x.1 in
      let f = join_fact m c.is_trace.live c.is_trace.edges first (length (block_ops m c.is_trace.live first others)) others x.0 (subst (IsIn x.0) plain_joins (index_in c.plain.joins i.0 x.0 x.1)) in
      let g = f.of (edge a b) (subst (IsIn (edge a b)) (sym y.2 ∙ ap (λ (z : Join). z.edges) same) e) in
      let is_edge : IsEdge m (edge a b) = (c.is_trace.all_edges.exact (edge a b)).0 g.0 in
      let block : b ≡ j.block = g.1 ∙ x.2 in
      let behind : IsIn b others = subst (λ z. IsIn z others) (sym g.1) (to_inside first others (edge f.before x.0.block) f.follows) in
      let outer : InnerEdge a b → ⊥ = λ q. g.2 (inner_to (first ∷ others) (edge a b) (edge f.before x.0.block) can.once q f.follows g.1) in
      record {
        is_edge = is_edge;
        block = block;
        behind = behind;
        outer = outer;
        no_split = ⊎_elim (λ t. absurd ((off_trace a b t).away behind)) (λ n. n) (cases_Bool (is_split_edge r.trace.ops (edge a b)));
      }

  -- some edge joins at a join
  pub some_edge : (j : Join) → IsIn j r.trace.joins → (a : ℕ) × (b : ℕ) × IsIn (edge a b) j.edges
  some_edge j h =
      let i = in_index r.trace.joins j h in
      let x = same_image (λ (j : Join). j.block) r.trace.joins c.plain.joins i.0 j c.join_blocks i.1 in
      let y = same_image (λ (j : Join). j.edges) r.trace.joins c.plain.joins i.0 j c.join_edges i.1 in
      let same : y.0 ≡ x.0 = some_same (slice_get c.plain.joins i.0) y.0 x.0 y.1 x.1 in
      let f = join_fact m c.is_trace.live c.is_trace.edges first (length (block_ops m c.is_trace.live first others)) others x.0 (subst (IsIn x.0) plain_joins (index_in c.plain.joins i.0 x.0 x.1)) in
      (f.one.from, f.one.to, subst (IsIn f.one) (sym (ap (λ (z : Join). z.edges) same) ∙ y.2) f.has_one)

  -- an edge to a block behind the first that is none inside joins there
  pub joins_at : (a b : ℕ) → IsEdge m (edge a b) → IsIn b others → (InnerEdge a b → ⊥) → (j : Join) × IsIn j r.trace.joins × (j.block ≡ b) × IsIn (edge a b) j.edges
  joins_at a b e h n =
      let p = joins_there m c.is_trace.live c.is_trace.edges first (length (block_ops m c.is_trace.live first others)) others (edge a b) can.once ((c.is_trace.all_edges.exact (edge a b)).1 e) h n in
      let i = in_index c.plain.joins p.0 (subst (IsIn p.0) (sym plain_joins) p.1) in
      let x = same_image (λ (j : Join). j.block) c.plain.joins r.trace.joins i.0 p.0 (sym c.join_blocks) i.1 in
      let y = same_image (λ (j : Join). j.edges) c.plain.joins r.trace.joins i.0 p.0 (sym c.join_edges) i.1 in
      let same : y.0 ≡ x.0 = some_same (slice_get r.trace.joins i.0) y.0 x.0 y.1 x.1 in
      (x.0, index_in r.trace.joins i.0 x.0 x.1, x.2 ∙ p.2, subst (IsIn (edge a b)) (sym y.2 ∙ ap (λ (z : Join). z.edges) same) p.3)

  -- edges of the new graph

  pub made_at : (a b d : ℕ) → made_on N r.made (edge a b) ≡ Some d → edge_of_made N r.made d ≡ Some (edge a b)
  made_at a b d e = let x = made_some N r.made (edge a b) d e in ap (edge_of_made N r.made) x.number ∙ edge_made N r.made x.index x.item x.has ∙ ap Some x.where_

  pub at_end : (a b : ℕ) (o : Option ℕ) → made_on N r.made (edge a b) ≡ o → To a b ≡ block_or o b
  at_end a b o e = ap (λ z. block_or z b) e

  -- an edge that is none inside and leaves by no split arrives at an entrance
  pub arrives : (a b : ℕ) → IsEdge m (edge a b) → (InnerEdge a b → ⊥) → is_split_edge r.trace.ops (edge a b) ≡ false → (Pairs b (To a b) ≡ true) × (MeetNew a (To a b) ≡ true)
  arrives a b e n s = by (made_on N r.made (edge a b)) refl
    where
      by : (o : Option ℕ) → made_on N r.made (edge a b) ≡ o → (Pairs b (To a b) ≡ true) × (MeetNew a (To a b) ≡ true)
      by None q =
          let t = at_end a b None q in (
            ⊎_elim
                (λ h. let j = joins_at a b e h n in pair_joined j.0 a b (To a b) j.1 j.2 j.3 refl)
                (λ h. subst (λ z. Pairs b z ≡ true) (sym t) (pair_stays b (valid.leads (edge a b) e) h))
                (in_or b others),
            subst (λ z. MeetNew a z ≡ true) (sym t) (meet_plain a b (from_below a b e) (to_below a b e)),
          )
      by (Some d) q =
          let t = at_end a b (Some d) q in
          let x = made_some N r.made (edge a b) d q in (
            ⊎_elim
                (λ h. absurd (let z : true ≡ false = sym (ap (is_split_edge r.trace.ops) (sym x.where_) ∙ h) ∙ s in cc))
                (λ h. let on : IsIn (edge a b) h.0.edges = subst (λ z. IsIn z h.0.edges) x.where_ h.2 in pair_joined h.0 a b (To a b) h.1 (sym (joins h.0 a b h.1 on).block) on refl)
                (c.made_where x.item (index_in r.made x.index x.item x.has)),
            subst (λ z. MeetNew a z ≡ true) (sym t)
                (ap (λ o. not (at_split r.trace.ops o) && not (at_join r.trace.ops (edge_of_made N r.made a))) (made_at a b d q)
                ∙ ap (λ z. not z && not (at_join r.trace.ops (edge_of_made N r.made a))) s
                ∙ ap (λ o. true && not (at_join r.trace.ops o)) (edge_old N r.made a (from_below a b e))),
          )

  pub made_block : (a b d : ℕ) → made_on N r.made (edge a b) ≡ Some d → slice_get New.nodes d ≡ Some (Unused (record { ops = on_edge r.made (edge a b); exit = Goto b }))
  made_block a b d q =
      let x = made_some N r.made (edge a b) d q in
      ap (slice_get New.nodes) x.number ∙ node_made m r x.index x.item x.has
      ∙ ap (λ z. Some (Unused (record { ops = z; exit = Goto x.item.edge.to }))) (sym x.ops)
      ∙ ap (λ (z : Edge). Some (Unused (record { ops = on_edge r.made (edge a b); exit = Goto z.to }))) x.where_

  pub made_number : (a b d : ℕ) → made_on N r.made (edge a b) ≡ Some d → N ≤ d
  made_number a b d q = let x = made_some N r.made (edge a b) d q in let z = x.number in omega arith

  -- a split leads on by its copies
  pub leads_out : (a b : ℕ) → is_split_edge r.trace.ops (edge a b) ≡ true → LeadsOut New MeetNew Pairs (on_edge r.made (edge a b)) a (To a b) b
  leads_out a b s = by (made_on N r.made (edge a b)) refl
    where
      off : OffTrace a b
      off = off_trace a b s

      pair : Pairs b b ≡ true
      pair = pair_stays b (valid.leads (edge a b) off.is_edge) off.away

      by : (o : Option ℕ) → made_on N r.made (edge a b) ≡ o → LeadsOut New MeetNew Pairs (on_edge r.made (edge a b)) a (To a b) b
      by None q = subst (λ z. LeadsOut New MeetNew Pairs (on_edge r.made (edge a b)) a z b) (sym (at_end a b None q)) (at_once (made_none N r.made (edge a b) q) (meet_plain a b (from_below a b off.is_edge) (to_below a b off.is_edge)) pair)
      by (Some d) q =
          subst (λ z. LeadsOut New MeetNew Pairs (on_edge r.made (edge a b)) a z b) (sym (at_end a b (Some d) q))
          (by_made b
          (ap (λ o. not (at_split r.trace.ops o) && not (at_join r.trace.ops (edge_of_made N r.made a))) (made_at a b d q) ∙ ap (λ z. not z && not (at_join r.trace.ops (edge_of_made N r.made a))) s)
          (made_block a b d q)
          (ap (λ o. not (at_split r.trace.ops o) && not (at_join r.trace.ops (edge_of_made N r.made d))) (edge_old N r.made b (to_below a b off.is_edge)) ∙ ap (λ o. true && not (at_join r.trace.ops o)) (made_at a b d q) ∙ ap (λ z. true && not (not z)) s)
          pair)

  -- the node of the first block, and those of the joins
  pub first_node : slice_get New.nodes first ≡ Some (Enters (length m.regions) 0)
  first_node =
      let u = unused first (inl refl) in
      node_old m r first (Unused u.0) u.1
      ∙ ap (λ z. Some (trace_node m r z first (Unused u.0))) blocks_are
      ∙ ap (λ b. Some (if b then Enters (length m.regions) 0 else if list_any (λ x. x == first) others then entered_at (length m.regions) (rejoin_at r.trace.joins r.rejoins first) else trace_node m r [] first (Unused u.0))) (eq-eqb first first refl)

  pub join_node : (i w : ℕ) (j : Join) → slice_get r.trace.joins i ≡ Some j → slice_get r.rejoins i ≡ Some w → IsIn j.block others → slice_get New.nodes j.block ≡ Some (Enters (length m.regions) w)
  join_node i w j h k behind =
      let u = unused j.block (inr behind) in
      let once : NoTwice (map (λ (j : Join). j.block) r.trace.joins) = subst NoTwice (sym (c.join_blocks ∙ ap (map (λ (j : Join). j.block)) plain_joins)) (joins_once m c.is_trace.live c.is_trace.edges first (length (block_ops m c.is_trace.live first others)) others can.once.1) in
      node_old m r j.block (Unused u.0) u.1
      ∙ ap (λ z. Some (trace_node m r z j.block (Unused u.0))) blocks_are
      ∙ ap (λ b. Some (if b then Enters (length m.regions) 0 else if list_any (λ x. x == j.block) others then entered_at (length m.regions) (rejoin_at r.trace.joins r.rejoins j.block) else trace_node m r [] j.block (Unused u.0))) (ne_eqb first j.block (λ e. can.once.0 (subst (λ z. IsIn z others) (sym e) behind)))
      ∙ ap (λ b. Some (if b then entered_at (length m.regions) (rejoin_at r.trace.joins r.rejoins j.block) else trace_node m r [] j.block (Unused u.0))) (any_of (λ x. x == j.block) others j.block behind (eq-eqb j.block j.block refl))
      ∙ ap (λ z. Some (entered_at (length m.regions) z)) (rejoin_there r.trace.joins r.rejoins i w j once h k)

  -- a joining edge leads to its rejoin word by its copies
  pub leads_in : (i w a b : ℕ) (j : Join) → slice_get r.trace.joins i ≡ Some j → slice_get r.rejoins i ≡ Some w → IsIn (edge a b) j.edges → LeadsIn New MeetNew (length m.regions) w (on_edge r.made (edge a b)) (To a b)
  leads_in i w a b j h k on = by (made_on N r.made (edge a b)) refl
    where
      joined : Joins j a b
      joined = joins j a b (index_in r.trace.joins i j h) on

      node : slice_get New.nodes b ≡ Some (Enters (length m.regions) w)
      node = ap (slice_get New.nodes) joined.block ∙ join_node i w j h k (subst (λ z. IsIn z others) joined.block joined.behind)

      by : (o : Option ℕ) → made_on N r.made (edge a b) ≡ o → LeadsIn New MeetNew (length m.regions) w (on_edge r.made (edge a b)) (To a b)
      by None q = subst (LeadsIn New MeetNew (length m.regions) w (on_edge r.made (edge a b))) (sym (at_end a b None q)) (at_once (made_none N r.made (edge a b) q) node)
      by (Some d) q =
          subst (LeadsIn New MeetNew (length m.regions) w (on_edge r.made (edge a b))) (sym (at_end a b (Some d) q))
          (by_made b (made_block a b d q)
          (ap (λ o. not (at_split r.trace.ops o) && not (at_join r.trace.ops (edge_of_made N r.made d))) (edge_old N r.made b (to_below a b joined.is_edge)) ∙ ap (λ o. true && not (at_join r.trace.ops o)) (made_at a b d q) ∙ ap (λ z. true && not (not z)) joined.no_split)
          node)

  -- the exit of a block from which no split leaves
  pub exit_renamed : (a : ℕ) (x : Exit) → ((b : ℕ) → IsIn b (targets_of x) → IsEdge m (edge a b) × (InnerEdge a b → ⊥) × (is_split_edge r.trace.ops (edge a b) ≡ false)) → Renamed Pairs x (renamed_exit (To a) x) × ((d : ℕ) → IsIn d (targets_of (renamed_exit (To a) x)) → MeetNew a d ≡ true)
  exit_renamed a x each = (
    renamed_by Pairs (To a) x (λ b h. let e = each b h in (arrives a b e.0 e.1 e.2).0),
    λ d h. let t = targets_renamed (To a) x d h in let e = each t.0 t.1 in subst (λ z. MeetNew a z ≡ true) (sym t.2) (arrives a t.0 e.0 e.1 e.2).1,
  )

  pub from_outside : (a b : ℕ) → (IsIn a (first ∷ others) → ⊥) → (InnerEdge a b → ⊥) × (is_split_edge r.trace.ops (edge a b) ≡ false)
  from_outside a b n = ((λ h. n (from_inside (first ∷ others) (edge a b) h)), ⊎_elim (λ t. absurd (n (off_trace a b t).begins)) (λ f. f) (cases_Bool (is_split_edge r.trace.ops (edge a b))))
