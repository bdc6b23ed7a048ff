-- A graph of blocks and regions keeps the code of the function's graph where a trace is replaced by operations of it.
use Rattle.std.proofs.Common.{◌≡◌, ℕ, Bool, true, false, Some, List, [], ◌∷◌, length, map, slice_get, refl, sym, ap, ◌∙◌, subst, ⊎_elim, inl, inr}
use Rattle.std.specs.Prelude.{◌⊎◌, ◌==◌, nat_le, if◌then◌else◌}
use Rattle.std.specs.List.{list_any}
use Rattle.vx_flow.specs.declared.graph.Block.{Block}
use Rattle.vx_flow.specs.declared.graph.Edge.{Edge}
use Rattle.vx_flow.specs.declared.graph.Exit.{Exit}
use Rattle.vx_flow.specs.declared.graph.Exit.TheVariants.{Goto, Split as Branches, Call, Return, Ends}
use Rattle.vx_flow.specs.declared.graph.Graph.{Graph}
use Rattle.vx_flow.specs.declared.graph.Op.{Op}
use Rattle.vx_flow.specs.declared.graph.Op.TheVariants.{Compute}
use Rattle.vx_flow.specs.declared.trace.TraceOp.TheVariants.{Plain as TracePlain, Split as TraceSplit}
use Rattle.vx_flow.specs.Effects.{IsIn, dismissed, writes}
use Rattle.vx_flow.specs.Walk.{edge}
use Rattle.vx_flow.proofs.Members.{in_either}
use Rattle.vx_mixed.specs.declared.region.Item.{Item}
use Rattle.vx_mixed.specs.declared.region.Item.TheVariants.{Plain, Split}
use Rattle.vx_mixed.specs.declared.region.Node.TheVariants.{Unused}
use Rattle.vx_mixed.specs.declared.region.Region.{Region}
use Rattle.vx_mixed.specs.declared.mixed.MixedGraph.{MixedGraph}
use Rattle.vx_mixed.specs.CanReplace.{CanReplace, IsNamed, in_trace, in_made}
use Rattle.vx_mixed.specs.declared.replacement.Replacement.{Replacement}
use Rattle.vx_mixed.specs.Next.{new_end, renamed_exit, renamed_region, freed, placed, last_of, exit_in, new_region, next_mixed, rename}
use Rattle.vx_layout.specs.Origins.{whole_op, ComesFrom, graph_op, copy, ExitComesFrom, Parts, ComesFromGraph}
use Rattle.vx_layout.specs.OriginLaws.{CodeStays}
use Rattle.vx_mixed.specs.TraceOf.{block_or_none, block_at, split_between, block_ops, trace_ops}
use Rattle.vx_mixed.specs.Valid.{IsOp, block_op, region_op, names_of, Valid}
use Rattle.vx_mixed.proofs.Linked.{Linkable, some_blocks, index_in, unused, in_plain}
use Rattle.vx_mixed.proofs.NewBlocks.{OldBlock, MadeBlock, new_block, from_placed, split_of, op_of, word_of, last_in}
use Rattle.vx_mixed.proofs.Renames.{old_word, old_split, old_op}
use Rattle.vx_mixed.proofs.NewNodes.{of_regions}
use Rattle.vx_mixed.proofs.StaysValid.{linkable}

-- a load that may be dismissed comes from the same load

pub whole_dismissed : (n : ℕ) (op : Op) → dismissed (whole_op n (dismissed op)) ≡ dismissed (whole_op n op)
whole_dismissed n (Compute code v a b) = refl
whole_dismissed n op = refl

pub writes_dismissed : (op : Op) → writes (dismissed op) ≡ writes op
writes_dismissed (Compute code v a b) = refl
writes_dismissed op = refl

names_dismissed : (op : Op) → names_of (dismissed op) ≡ names_of op
names_dismissed (Compute code v a b) = refl
names_dismissed op = refl

comes_dismissed : (graph : Graph) (op : Op) → ComesFrom graph op → ComesFrom graph (dismissed op)
comes_dismissed graph op (graph_op {op = o} origin has same wrote below) =
    graph_op origin has (whole_dismissed (length graph.banks) o ∙ same) (writes_dismissed o ∙ wrote) (λ v i. below v (subst (IsIn v) (names_dismissed o) i))
comes_dismissed graph op (copy {u = u} {k = k} bank low) = copy {u = u} {k = k} bank low

comes_freed : (graph : Graph) (w : ℕ) (above : List ℕ) (op : Op) → ComesFrom graph op → ComesFrom graph (freed w above op)
comes_freed graph w above op h = by (list_any (λ s. nat_le w s) above)
  where
    by : (b : Bool) → ComesFrom graph (if b then dismissed op else op)
    by true = comes_dismissed graph op h
    by false = h

-- exits come from the same exits, whatever blocks they go to
comes_renamed : (graph : Graph) (f : ℕ → ℕ) (x : Exit) → ExitComesFrom graph x → ExitComesFrom graph (renamed_exit f x)
comes_renamed graph f (Goto c) h = tt
comes_renamed graph f (Branches p c d) h = h
comes_renamed graph f (Call g arguments result next) h = h
comes_renamed graph f (Return x) h = h
comes_renamed graph f (Ends k) h = h

-- a split of a trace is the exit of one of its blocks
module _ (graph : Graph) (m : MixedGraph) (live : ℕ → List ℕ) where
  no_plain : (ops : List Op) (p : ℕ) (y : Bool) (e : Edge) (l : List ℕ) → IsIn (TraceSplit p y e l) (map TracePlain ops) → ⊥
  no_plain [] p y e l h = h
  no_plain (op ∷ ops) p y e l (inl q) = cc
  no_plain (op ∷ ops) p y e l (inr h) = no_plain ops p y e l h

  between : (b c : ℕ) (x : Exit) (p : ℕ) (y : Bool) (e : Edge) (l : List ℕ) → ExitComesFrom graph x → IsIn (TraceSplit p y e l) (split_between live b x c) → Parts graph p
  between b c (Goto d) p y e l from h = absurd h
  between b c (Branches q d f) p y e l from h = by (d == c) h
    where
      by : (t : Bool) → IsIn (TraceSplit p y e l) (if t then TraceSplit q false (edge b f) (live f) ∷ [] else TraceSplit q true (edge b d) (live d) ∷ []) → Parts graph p
      by true (inl w) = let same : p ≡ q = cc in subst (Parts graph) (sym same) from
      by true (inr w) = absurd w
      by false (inl w) = let same : p ≡ q = cc in subst (Parts graph) (sym same) from
      by false (inr w) = absurd w
  between b c (Call g arguments result next) p y e l from h = absurd h
  between b c (Return x) p y e l from h = absurd h
  between b c (Ends k) p y e l from h = absurd h

  split_parts : (blocks : List ℕ) → ((b : ℕ) → IsIn b blocks → ExitComesFrom graph (block_at m b).exit) → (p : ℕ) (y : Bool) (e : Edge) (l : List ℕ) → IsIn (TraceSplit p y e l) (trace_ops m live blocks) → Parts graph p
  split_parts [] from p y e l h = absurd h
  split_parts (b ∷ []) from p y e l h =
      ⊎_elim
      (λ a. ⊎_elim (λ i. absurd (no_plain (block_at m b).ops p y e l i)) (λ i. absurd i) (in_either (TraceSplit p y e l) (map TracePlain (block_at m b).ops) [] a))
      (λ a. absurd a)
      (in_either (TraceSplit p y e l) (block_ops m live b []) [] h)
  split_parts (b ∷ c ∷ bs) from p y e l h =
      ⊎_elim
      (λ a. ⊎_elim
      (λ i. absurd (no_plain (block_at m b).ops p y e l i))
      (λ i. between b c (block_at m b).exit p y e l (from b (inl refl)) i)
      (in_either (TraceSplit p y e l) (map TracePlain (block_at m b).ops) (split_between live b (block_at m b).exit c) a))
      (λ a. split_parts (c ∷ bs) (λ z i. from z (inr i)) p y e l a)
      (in_either (TraceSplit p y e l) (block_ops m live b (c ∷ bs)) (trace_ops m live (c ∷ bs)) h)

module _ (graph : Graph) (m : MixedGraph) (r : Replacement) (valid : Valid m) (c : CanReplace m r) (named : (op : Op) → IsNamed r op → ComesFrom graph op) (code : ComesFromGraph graph m) (first : ℕ) (others : List ℕ) (blocks_are : r.trace.blocks ≡ first ∷ others) where
  abbrev New : MixedGraph
  New = next_mixed m r

  abbrev To : ℕ → ℕ → ℕ
  To = new_end m r.made

  abbrev Blocks : List ℕ
  Blocks = first ∷ others

  abbrev L : Linkable m r
  L = linkable c

  abbrev Block_new : (b : ℕ) (k : Block) → slice_get New.nodes b ≡ Some (Unused k) → OldBlock m r valid L first others blocks_are b k ⊎ MadeBlock m r valid L first others blocks_are b k
  Block_new = new_block m r valid L first others blocks_are

  new_ops : (op : Op) → IsOp New op → ComesFrom graph op
  new_ops op (block_op b k at i) = by (Block_new b k at)
    where
      by : OldBlock m r valid L first others blocks_are b k ⊎ MadeBlock m r valid L first others blocks_are b k → ComesFrom graph op
      by (inl x) = code.ops op (block_op b x.block x.at (subst (λ (z : Block). IsIn op z.ops) x.is i))
      by (inr x) = named op (in_made x.item (index_in r.made x.index x.item x.has) (subst (λ (z : Block). IsIn op z.ops) x.is i))
  new_ops op (region_op q j cluster g word at in_words i) =
      ⊎_elim
      (λ o.
      let w = old_word (map (rename To)) o.0.words j word (ap (λ (z : Region). slice_get z.words j) (sym o.2) ∙ in_words) in
      code.ops op (region_op q j cluster o.0 w.0 o.1 w.1 (old_op To w.0 op cluster (subst (λ z. IsIn (Plain op cluster) z) w.2 i))))
      (λ n.
      let w = word_of m r j word (ap (λ (z : Region). slice_get z.words j) (sym n) ∙ in_words) in
      let x = from_placed (placed To r.trace.ops r.clusters r.words r.drains []) w.0 (Plain op cluster) (subst (IsIn (Plain op cluster)) w.1 i) in
      let s = op_of To r.trace.ops r.clusters r.words r.drains [] x.0 op cluster x.1 x.2 in
      subst (ComesFrom graph) (sym s.4) (comes_freed graph s.1 s.2 s.0 (named s.0 (in_trace s.3))))
      (of_regions (λ g. renamed_region To g) m.regions (new_region m r) g q at)

  new_block_exits : (b : ℕ) (k : Block) → slice_get New.nodes b ≡ Some (Unused k) → ExitComesFrom graph k.exit
  new_block_exits b k h = by (Block_new b k h)
    where
      by : OldBlock m r valid L first others blocks_are b k ⊎ MadeBlock m r valid L first others blocks_are b k → ExitComesFrom graph k.exit
      by (inl x) = subst (λ (z : Block). ExitComesFrom graph z.exit) (sym x.is) (comes_renamed graph (To b) x.block.exit (code.block_exits b x.block x.at))
      by (inr x) = subst (λ (z : Block). ExitComesFrom graph z.exit) (sym x.is) tt

  last_block : (k : Block) × (slice_get m.nodes (last_of r.trace.blocks) ≡ Some (Unused k))
  last_block =
      let u = unused m r valid L first others blocks_are (last_of Blocks) (last_in first others) in
      (u.0, ap (λ z. slice_get m.nodes (last_of z)) blocks_are ∙ u.1)

  new_region_exits : (q : ℕ) (g : Region) → slice_get New.regions q ≡ Some g → ExitComesFrom graph g.last
  new_region_exits q g h =
      ⊎_elim
      (λ o. subst (λ (z : Region). ExitComesFrom graph z.last) (sym o.2) (comes_renamed graph (To o.0.from) o.0.last (code.region_exits q o.0 o.1)))
      (λ n.
      let u = last_block in
      let s = comes_renamed graph (To (last_of r.trace.blocks)) u.0.exit (code.block_exits (last_of r.trace.blocks) u.0 u.1) in
      subst (λ (z : Region). ExitComesFrom graph z.last) (sym n) (subst (λ o. ExitComesFrom graph (renamed_exit (To (last_of r.trace.blocks)) (exit_in o))) (sym u.1) s))
      (of_regions (λ g. renamed_region To g) m.regions (new_region m r) g q h)

  -- the exits of the blocks of the trace
  traced : (b : ℕ) → IsIn b r.trace.blocks → ExitComesFrom graph (block_at m b).exit
  traced b h =
      let u = c.trace.can.unused b h in
      subst (λ o. ExitComesFrom graph (block_or_none o).exit) (sym u.1) (code.block_exits b u.0 u.1)

  new_splits : (q j test d : ℕ) (y : Bool) (e : Edge) (g : Region) (word : List Item) → slice_get New.regions q ≡ Some g → slice_get g.words j ≡ Some word → IsIn (Split test y e d) word → Parts graph test
  new_splits q j test d y e g word at in_words h =
      ⊎_elim
      (λ o.
      let w = old_word (map (rename To)) o.0.words j word (ap (λ (z : Region). slice_get z.words j) (sym o.2) ∙ in_words) in
      let s = old_split To w.0 test d e y (subst (λ z. IsIn (Split test y e d) z) w.2 h) in
      code.splits q j test d y s.0 o.0 w.0 o.1 w.1 s.1)
      (λ n.
      let w = word_of m r j word (ap (λ (z : Region). slice_get z.words j) (sym n) ∙ in_words) in
      let x = from_placed (placed To r.trace.ops r.clusters r.words r.drains []) w.0 (Split test y e d) (subst (IsIn (Split test y e d)) w.1 h) in
      let s = split_of To r.trace.ops r.clusters r.words r.drains [] x.0 test d y e x.1 x.2 in
      let i = in_plain m r valid L first others blocks_are test y s.0 s.1 s.2 in
      split_parts graph m c.trace.is_trace.live r.trace.blocks traced test y s.0 s.1 (subst (IsIn (TraceSplit test y s.0 s.1)) c.trace.is_trace.ops i))
      (of_regions (λ g. renamed_region To g) m.regions (new_region m r) g q at)

  after : ComesFromGraph graph New
  after = record {
    banks = code.banks;
    parameters = code.parameters;
    arrays = code.arrays;
    ops = new_ops;
    block_exits = new_block_exits;
    region_exits = new_region_exits;
    splits = new_splits;
  }

pub code_stays : CodeStays
code_stays graph m r valid c named code = let b = some_blocks r.trace.blocks c.trace.can.some in after graph m r valid c named code b.0 b.1 b.2
