-- What stands at a block's number after a replacement, and which blocks and edges there are.
use Rattle.std.proofs.Common.{◌≡◌, ℕ, zero, suc, ◌+◌, Bool, false, Option, Some, None, List, [], ◌∷◌, length, map, slice_get, slice_index_or, drop, refl, sym, ap, ◌∙◌, subst, ⊎_elim, inl, inr}
use Rattle.std.specs.Prelude.{◌⊎◌, ◌==◌, if◌then◌else◌}
use Rattle.std.specs.List.{list_any, filter}
use Rattle.std.proofs.lemmas.Bool.{cases_Bool, cases_eq, eq-eqb, ne_eqb, eqb-true}
use Rattle.vx_flow.specs.declared.graph.Block.{Block}
use Rattle.vx_flow.specs.declared.graph.Edge.{Edge}
use Rattle.vx_flow.specs.declared.graph.Exit.TheVariants.{Goto}
use Rattle.vx_flow.specs.declared.graph.Op.{Op}
use Rattle.vx_flow.specs.declared.trace.TraceOp.{TraceOp}
use Rattle.vx_flow.specs.declared.trace.TraceOp.TheVariants.{Plain as TracePlain, Split as TraceSplit}
use Rattle.vx_flow.specs.Effects.{IsIn}
use Rattle.vx_flow.specs.Sound.{targets_of}
use Rattle.vx_flow.specs.Walk.{edge, numbers}
use Rattle.vx_flow.proofs.SoundLists.{any_in, any_of}
use Rattle.vx_mixed.specs.declared.region.Item.{Item}
use Rattle.vx_mixed.specs.declared.region.Item.TheVariants.{Plain, Split}
use Rattle.vx_mixed.specs.declared.region.Made.{Made}
use Rattle.vx_mixed.specs.declared.region.Node.{Node}
use Rattle.vx_mixed.specs.declared.region.Node.TheVariants.{Unused, Enters, Inner}
use Rattle.vx_mixed.specs.declared.region.Region.{Region}
use Rattle.vx_mixed.specs.declared.mixed.MixedGraph.{MixedGraph}
use Rattle.vx_mixed.specs.Edges.{IsEdge, of_block, of_split, of_last}
use Rattle.vx_mixed.specs.Next.{Replacement, InWord, new_end, renamed_exit, renamed_region, renamed_node, freed, placed, in_word, last_of, exit_in, new_region, rejoin_at, entered_at, trace_node, next_mixed, rename}
use Rattle.vx_mixed.specs.TraceOf.{inner_edges}
use Rattle.vx_mixed.specs.Valid.{Valid}
use Rattle.vx_mixed.proofs.Alike.{in_or}
use Rattle.vx_mixed.proofs.Linked.{Linkable, can, unused, no_region, off_trace, from_outside, targets_renamed}
use Rattle.vx_mixed.proofs.NewNodes.{node_new, of_regions}
use Rattle.vx_mixed.proofs.Renames.{old_word, old_split}
use Rattle.vx_mixed.proofs.TraceFacts.{in_filter, is_split, last_none}

-- the exit of an unused block that was renamed
unused_back : (to : ℕ → ℕ → ℕ) (b : ℕ) (o : Node) (k : Block) → renamed_node to b o ≡ Unused k → (j : Block) × (o ≡ Unused j) × (k ≡ record j { exit = renamed_exit (to b) j.exit })
unused_back to b (Unused j) k e = (j, refl, cc)
unused_back to b (Enters r w) k e = absurd (cc)
unused_back to b Inner k e = absurd (cc)

not_unused : (q : ℕ) (o : Option ℕ) (k : Block) → entered_at q o ≡ Unused k → ⊥
not_unused q None k e = cc
not_unused q (Some w) k e = cc

-- the items of words

pub in_image : {A B : Type 0} (f : A → B) (xs : List A) (y : B) → IsIn y (map f xs) → (x : A) × IsIn x xs × (y ≡ f x)
in_image f [] y h = absurd h
in_image f (x ∷ xs) y (inl e) = (x, inl refl, e)
in_image f (x ∷ xs) y (inr h) = let r = in_image f xs y h in (r.0, inr r.1, r.2)

pub from_placed : (items : List InWord) (w : ℕ) (i : Item) → IsIn i (in_word items w) → (p : InWord) × IsIn p items × (i ≡ p.item)
from_placed items w i h = let r = in_image (λ (i : InWord). i.item) (filter (λ (i : InWord). i.word == w) items) i h in (r.0, (in_filter (λ (i : InWord). i.word == w) items r.0 r.1).0, r.2)

-- a split that is placed is one of the trace, renamed
pub split_of : (to : ℕ → ℕ → ℕ) (ops : List TraceOp) (cs ws ds above : List ℕ) (x : InWord) (p d : ℕ) (y : Bool) (e : Edge) → IsIn x (placed to ops cs ws ds above) → Split p y e d ≡ x.item → (f : Edge) × (live : List ℕ) × IsIn (TraceSplit p y f live) ops × (e ≡ record f { to = to f.from f.to })
split_of to [] cs ws ds above x p d y e h i = absurd h
split_of to (op ∷ ops) [] ws ds above x p d y e h i = absurd h
split_of to (op ∷ ops) (c ∷ cs) [] ds above x p d y e h i = absurd h
split_of to (TracePlain op ∷ ops) (c ∷ cs) (w ∷ ws) ds above x p d y e (inl q) i = absurd (let z : Split p y e d ≡ Plain (freed w above op) c = i ∙ ap (λ (k : InWord). k.item) q in cc)
split_of to (TracePlain op ∷ ops) (c ∷ cs) (w ∷ ws) ds above x p d y e (inr h) i = let r = split_of to ops cs ws ds above x p d y e h i in (r.0, r.1, inr r.2, r.3)
split_of to (TraceSplit q u f live ∷ ops) (c ∷ cs) (w ∷ ws) ds above x p d y e (inl g) i =
    let z : Split p y e d ≡ Split q u (record f { to = to f.from f.to }) (slice_index_or ds 0 0) = i ∙ ap (λ (k : InWord). k.item) g in
    let a : p ≡ q = cc in
    let b : y ≡ u = cc in
    let t : e ≡ record f { to = to f.from f.to } = cc in
    (f, live, inl (ap (λ k. TraceSplit k y f live) a ∙ ap (λ k. TraceSplit q k f live) b), t)
split_of to (TraceSplit q u f live ∷ ops) (c ∷ cs) (w ∷ ws) ds above x p d y e (inr h) i = let r = split_of to ops cs ws (drop 1 ds) (w ∷ above) x p d y e h i in (r.0, r.1, inr r.2, r.3)

-- and an operation is one of the trace, which may be dismissible now
pub op_of : (to : ℕ → ℕ → ℕ) (ops : List TraceOp) (cs ws ds above : List ℕ) (x : InWord) (op : Op) (cluster : ℕ) → IsIn x (placed to ops cs ws ds above) → Plain op cluster ≡ x.item → (o : Op) × (w : ℕ) × (splits : List ℕ) × IsIn (TracePlain o) ops × (op ≡ freed w splits o)
op_of to [] cs ws ds above x op cluster h i = absurd h
op_of to (o ∷ ops) [] ws ds above x op cluster h i = absurd h
op_of to (o ∷ ops) (c ∷ cs) [] ds above x op cluster h i = absurd h
op_of to (TracePlain o ∷ ops) (c ∷ cs) (w ∷ ws) ds above x op cluster (inl q) i =
    let z : Plain op cluster ≡ Plain (freed w above o) c = i ∙ ap (λ (k : InWord). k.item) q in
    let a : op ≡ freed w above o = cc in
    (o, w, above, inl refl, a)
op_of to (TracePlain o ∷ ops) (c ∷ cs) (w ∷ ws) ds above x op cluster (inr h) i = let r = op_of to ops cs ws ds above x op cluster h i in (r.0, r.1, r.2, inr r.3, r.4)
op_of to (TraceSplit q u f live ∷ ops) (c ∷ cs) (w ∷ ws) ds above x op cluster (inl g) i = absurd (let z : Plain op cluster ≡ Split q u (record f { to = to f.from f.to }) (slice_index_or ds 0 0) = i ∙ ap (λ (k : InWord). k.item) g in cc)
op_of to (TraceSplit q u f live ∷ ops) (c ∷ cs) (w ∷ ws) ds above x op cluster (inr h) i = let r = op_of to ops cs ws (drop 1 ds) (w ∷ above) x op cluster h i in (r.0, r.1, r.2, inr r.3, r.4)

-- the words of the region
pub word_of : (m : MixedGraph) (r : Replacement) (j : ℕ) (word : List Item) → slice_get (new_region m r).words j ≡ Some word → (w : ℕ) × (word ≡ in_word (placed (new_end m r.made) r.trace.ops r.clusters r.words r.drains []) w)
word_of m r j word e = by (numbers 0 r.length) j e
  where
    by : (ns : List ℕ) (j : ℕ) → slice_get (map (in_word (placed (new_end m r.made) r.trace.ops r.clusters r.words r.drains [])) ns) j ≡ Some word → (w : ℕ) × (word ≡ in_word (placed (new_end m r.made) r.trace.ops r.clusters r.words r.drains []) w)
    by [] j e = absurd (cc)
    by (n ∷ ns) zero e = (n, cc)
    by (n ∷ ns) (suc j) e = by ns j e

pub last_in : (x : ℕ) (xs : List ℕ) → IsIn (last_of (x ∷ xs)) (x ∷ xs)
last_in x [] = inl refl
last_in x (y ∷ ys) = inr (last_in y ys)

module _ (m : MixedGraph) (r : Replacement) (valid : Valid m) (c : Linkable m r) (first : ℕ) (others : List ℕ) (blocks_are : r.trace.blocks ≡ first ∷ others) where
  abbrev New : MixedGraph
  New = next_mixed m r

  abbrev N : ℕ
  N = length m.nodes

  abbrev To : ℕ → ℕ → ℕ
  To = new_end m r.made

  abbrev Blocks : List ℕ
  Blocks = first ∷ others

  abbrev Inside : ℕ → ℕ → Type 0
  Inside a b = IsIn (edge a b) (inner_edges Blocks)

  -- blocks

  pub data AtNode (b : ℕ) (o k : Node) : Type 0 where
    first_one : b ≡ first → k ≡ Enters (length m.regions) 0 → AtNode b o k
    further : IsIn b others → k ≡ entered_at (length m.regions) (rejoin_at r.trace.joins r.rejoins b) → AtNode b o k
    outside : (IsIn b Blocks → ⊥) → k ≡ renamed_node To b o → AtNode b o k

  none_is : (b : ℕ) → (IsIn b others → ⊥) → list_any (λ x. x == b) others ≡ false
  none_is b n = ⊎_elim (λ t. let f = any_in (λ x. x == b) others t in absurd (n (subst (λ z. IsIn z others) (eqb-true f.item b f.holds) f.has))) (λ f. f) (cases_Bool (list_any (λ x. x == b) others))

  pub node_kind : (b : ℕ) (o : Node) → AtNode b o (trace_node m r r.trace.blocks b o)
  node_kind b o =
      let late = if list_any (λ x. x == b) others then entered_at (length m.regions) (rejoin_at r.trace.joins r.rejoins b) else renamed_node To b o in
      subst (λ bs. AtNode b o (trace_node m r bs b o)) (sym blocks_are)
      (⊎_elim
      (λ e. first_one (sym e) (ap (λ t. if t then Enters (length m.regions) 0 else late) (eq-eqb first b e)))
      (λ n. let on = ap (λ t. if t then Enters (length m.regions) 0 else late) (ne_eqb first b n) in
      ⊎_elim
      (λ h. further h (on ∙ ap (λ t. if t then entered_at (length m.regions) (rejoin_at r.trace.joins r.rejoins b) else renamed_node To b o) (any_of (λ x. x == b) others b h (eq-eqb b b refl))))
      (λ h. outside (λ i. ⊎_elim (λ e. n (sym e)) h i) (on ∙ ap (λ t. if t then entered_at (length m.regions) (rejoin_at r.trace.joins r.rejoins b) else renamed_node To b o) (none_is b h)))
      (in_or b others))
      (cases_eq first b))

  pub record OldBlock (b : ℕ) (k : Block) : Type 0 where
    pub block : Block
    pub at : slice_get m.nodes b ≡ Some (Unused block)
    pub out : IsIn b Blocks → ⊥
    pub is : k ≡ record block { exit = renamed_exit (To b) block.exit }

  pub record MadeBlock (b : ℕ) (k : Block) : Type 0 where
    pub index : ℕ
    pub item : Made
    pub number : b ≡ N + index
    pub has : slice_get r.made index ≡ Some item
    pub is : k ≡ record { ops = item.ops; exit = Goto item.edge.to }

  pub new_block : (b : ℕ) (k : Block) → slice_get New.nodes b ≡ Some (Unused k) → OldBlock b k ⊎ MadeBlock b k
  new_block b k h =
      ⊎_elim
      (λ o. inl (by o.0 o.1 (node_kind b o.0) (sym o.2)))
      (λ x. let e : k ≡ record { ops = x.1.ops; exit = Goto x.1.edge.to } = cc (x.4) in inr (record { index = x.0; item = x.1; number = x.2; has = x.3; is = e }))
      (node_new m r b (Unused k) h)
    where
      by : (o : Node) → slice_get m.nodes b ≡ Some o → AtNode b o (trace_node m r r.trace.blocks b o) → trace_node m r r.trace.blocks b o ≡ Unused k → OldBlock b k
      by o at (first_one q e) s = absurd (let z : Enters (length m.regions) 0 ≡ Unused k = sym e ∙ s in cc)
      by o at (further q e) s = absurd (not_unused (length m.regions) (rejoin_at r.trace.joins r.rejoins b) k (sym e ∙ s))
      by o at (outside n e) s = let u = unused_back To b o k (sym e ∙ s) in record { block = u.0; at = at ∙ ap Some u.1; out = n; is = u.2 }

  -- edges: those that were not inside the trace, renamed; and one from each made block

  pub data NewEdge (e : Edge) : Type 0 where
    renamed : (a b : ℕ) → IsEdge m (edge a b) → (Inside a b → ⊥) → e.from ≡ a → e.to ≡ To a b → NewEdge e
    from_made : (i : ℕ) (x : Made) → slice_get r.made i ≡ Some x → e.from ≡ N + i → e.to ≡ x.edge.to → NewEdge e

  pub new_edge : (e : Edge) → IsEdge New e → NewEdge e
  new_edge e (of_block {block = k} at t) =
      ⊎_elim
      (λ (o : OldBlock e.from k).
      let d = targets_renamed (To e.from) o.block.exit e.to (subst (λ (z : Block). IsIn e.to (targets_of z.exit)) o.is t) in
      renamed e.from d.0 (of_block o.at d.1) (from_outside m r valid c first others blocks_are e.from d.0 o.out).0 refl d.2)
      (λ (x : MadeBlock e.from k).
      let t' : IsIn e.to (x.item.edge.to ∷ []) = subst (λ (z : Block). IsIn e.to (targets_of z.exit)) x.is t in
      from_made x.index x.item x.has x.number (⊎_elim (λ q. q) (λ q. absurd q) t'))
      (new_block e.from k at)
  new_edge e (of_split q j p d y g word at there h) =
      ⊎_elim
      (λ o.
      let w = old_word (map (rename To)) o.0.words j word (ap (λ (z : Region). slice_get z.words j) (sym o.2) ∙ there) in
      let s = old_split To w.0 p d e y (subst (λ z. IsIn (Split p y e d) z) w.2 h) in
      let old : IsEdge m (edge s.0.from s.0.to) = of_split q j p d y o.0 w.0 o.1 w.1 s.1 in
      renamed s.0.from s.0.to old (from_outside m r valid c first others blocks_are s.0.from s.0.to (λ i. no_region m r valid c first others blocks_are s.0.from i (valid.splits_from q j p d y s.0 o.0 w.0 o.1 w.1 s.1))).0 s.2 s.3)
      (λ n.
      let w = word_of m r j word (ap (λ (z : Region). slice_get z.words j) (sym n) ∙ there) in
      let x = from_placed (placed To r.trace.ops r.clusters r.words r.drains []) w.0 (Split p y e d) (subst (IsIn (Split p y e d)) w.1 h) in
      let s = split_of To r.trace.ops r.clusters r.words r.drains [] x.0 p d y e x.1 x.2 in
      let off = off_trace m r valid c first others blocks_are s.0.from s.0.to (is_split r.trace.ops p y s.0 s.1 s.2) in
      renamed s.0.from s.0.to off.is_edge off.outer (ap (λ (z : Edge). z.from) s.3) (ap (λ (z : Edge). z.to) s.3))
      (of_regions (λ g. renamed_region To g) m.regions (new_region m r) g q at)
  new_edge e (of_last q g at f t) =
      ⊎_elim
      (λ o.
      let d = targets_renamed (To o.0.from) o.0.last e.to (subst (λ (z : Region). IsIn e.to (targets_of z.last)) o.2 t) in
      let from : e.from ≡ o.0.from = f ∙ ap (λ (z : Region). z.from) o.2 in
      renamed o.0.from d.0 (of_last q o.0 o.1 refl d.1) (from_outside m r valid c first others blocks_are o.0.from d.0 (λ i. no_region m r valid c first others blocks_are o.0.from i (valid.last_from q o.0 o.1))).0 from d.2)
      (λ n.
      let last = last_of r.trace.blocks in
      let same : last ≡ last_of Blocks = ap last_of blocks_are in
      let x = exit_in (slice_get m.nodes last) in
      let d = targets_renamed (To last) x e.to (subst (λ (z : Region). IsIn e.to (targets_of z.last)) n t) in
      let u = unused m r valid c first others blocks_are (last_of Blocks) (last_in first others) in
      let at_last : slice_get m.nodes last ≡ Some (Unused u.0) = ap (slice_get m.nodes) same ∙ u.1 in
      let old : IsEdge m (edge last d.0) = of_block at_last (subst (λ o. IsIn d.0 (targets_of (exit_in o))) at_last d.1) in
      renamed last d.0 old (λ i. last_none first others d.0 (can m r valid c first others blocks_are).once (subst (λ z. IsIn (edge z d.0) (inner_edges Blocks)) same i)) (f ∙ ap (λ (z : Region). z.from) n) d.2)
      (of_regions (λ g. renamed_region To g) m.regions (new_region m r) g q at)
