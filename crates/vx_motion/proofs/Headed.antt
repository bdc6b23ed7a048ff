-- Every cycle of blocks in no region has a header: at the beginning, and after every replacement. A block made for copies is on
-- no such cycle: it is entered from the region alone, or leads to it.
use Rattle.std.proofs.Common.{◌≡◌, ◌⊎◌, inl, inr, ℕ, ◌+◌, ◌<◌, Option, Some, None, List, [], ◌∷◌, length, slice_get, refl, sym, ap, subst, ◌∙◌, ⊎_elim, arith}
use Rattle.vx_flow.specs.declared.graph.Block.{Block}
use Rattle.vx_flow.specs.declared.graph.Edge.{Edge}
use Rattle.vx_flow.specs.declared.graph.Graph.{Graph}
use Rattle.vx_flow.specs.Effects.{IsIn}
use Rattle.vx_flow.specs.Sound.{targets_of}
use Rattle.vx_flow.specs.Walk.{edge, successors_in}
use Rattle.vx_mixed.specs.declared.region.Made.{Made}
use Rattle.vx_mixed.specs.declared.region.Node.TheVariants.{Unused}
use Rattle.vx_mixed.specs.declared.mixed.MixedGraph.{MixedGraph}
use Rattle.vx_mixed.specs.CanReplace.{CanReplace}
use Rattle.vx_mixed.specs.Edges.{IsEdge, of_block, of_split, of_last}
use Rattle.vx_mixed.specs.FromGraph.{FromGraph}
use Rattle.vx_mixed.specs.declared.replacement.Replacement.{Replacement}
use Rattle.vx_mixed.specs.Next.{made_on, new_end, next_mixed}
use Rattle.vx_mixed.specs.Valid.{Valid}
use Rattle.vx_mixed.proofs.Begins.{no_region}
use Rattle.vx_mixed.proofs.BlockEdges.{successor_is}
use Rattle.vx_mixed.proofs.Linked.{Linkable, index_in, some_blocks, some_same, off_trace, joins}
use Rattle.vx_mixed.proofs.NewBlocks.{OldBlock, MadeBlock, NewEdge, renamed, from_made, new_block, new_edge}
use Rattle.vx_mixed.proofs.NewNodes.{made_some, map_back}
use Rattle.vx_mixed.proofs.StaysValid.{linkable, made_end, plain_end, low_to, low_from, made_low}
use Rattle.vx_motion.specs.Cycles.{IsCycle, EachCycleHas, Leads, cycle_of, edges_to}
use Rattle.vx_motion.specs.Paths.{UnusedEdge, BeginsHeaded, StaysHeaded}
use Rattle.vx_motion.proofs.Ordering.{cycles_have_headers, ends_on, leads_on}

-- each block of a cycle is left and come to along it

begins_on_part : (first b : ℕ) (bs : List ℕ) (e : Edge) → IsIn e (edges_to first (b ∷ bs)) → IsIn e.from (b ∷ bs)
begins_on_part first b [] e (inl q) = inl (ap (λ (x : Edge). x.from) q)
begins_on_part first b [] e (inr z) = absurd z
begins_on_part first b (c ∷ bs) e (inl q) = inl (ap (λ (x : Edge). x.from) q)
begins_on_part first b (c ∷ bs) e (inr h) = inr (begins_on_part first c bs e h)

begins_on : (blocks : List ℕ) (e : Edge) → IsIn e (cycle_of blocks) → IsIn e.from blocks
begins_on [] e h = absurd h
begins_on (b ∷ bs) e h = begins_on_part b b bs e h

to_first : (first b : ℕ) (bs : List ℕ) → (e : Edge) × IsIn e (edges_to first (b ∷ bs)) × (e.to ≡ first)
to_first first b [] = (edge b first, inl refl, refl)
to_first first b (c ∷ bs) = let w = to_first first c bs in (w.0, inr w.1, w.2)

to_further : (first b : ℕ) (bs : List ℕ) (c : ℕ) → IsIn c bs → (e : Edge) × IsIn e (edges_to first (b ∷ bs)) × (e.to ≡ c)
to_further first b [] c h = absurd h
to_further first b (d ∷ bs) c (inl q) = (edge b d, inl refl, sym q)
to_further first b (d ∷ bs) c (inr h) = let w = to_further first d bs c h in (w.0, inr w.1, w.2)

comes_to : (blocks : List ℕ) (c : ℕ) → IsIn c blocks → (e : Edge) × IsIn e (cycle_of blocks) × (e.to ≡ c)
comes_to [] c h = absurd h
comes_to (b ∷ bs) c (inl q) = let w = to_first b b bs in (w.0, w.1, w.2 ∙ sym q)
comes_to (b ∷ bs) c (inr h) = to_further b b bs c h

-- an edge of the other kind, or one that is on no cycle
pub data Known (Is Js : Edge → Type 0) (e : Edge) : Type 0 where
  stays : Js e → Known Is Js e
  no_before : ((f : Edge) → Is f → f.to ≡ e.from → ⊥) → Known Is Js e
  no_behind : ((f : Edge) → Is f → f.from ≡ e.to → ⊥) → Known Is Js e

cycle_stays : (Is Js : Edge → Type 0) → ((e : Edge) → Is e → Known Is Js e) → (blocks : List ℕ) → IsCycle Is blocks → IsCycle Js blocks
cycle_stays Is Js known blocks c = (c.0, λ e h. by e h (known e (c.1 e h)))
  where
    by : (e : Edge) → IsIn e (cycle_of blocks) → Known Is Js e → Js e
    by e h (stays j) = j
    by e h (no_before n) = let w = comes_to blocks e.from (begins_on blocks e h) in absurd (n w.0 (c.1 w.0 w.1) w.2)
    by e h (no_behind n) = let w = leads_on blocks e.to (ends_on blocks e h) in absurd (n w.0 (c.1 w.0 w.1) w.2)

pub headed_by : (Is Js : Edge → Type 0) (At : ℕ → Type 0) → ((e : Edge) → Is e → Known Is Js e) → EachCycleHas Js At → EachCycleHas Is At
headed_by Is Js At known h blocks c = h blocks (cycle_stays Is Js known blocks c)

-- at the beginning

leads : (graph : Graph) (m : MixedGraph) → FromGraph graph m → (e : Edge) → IsEdge m e → Leads graph e
leads graph m is e (of_block {block = k} at t) =
    let w = map_back Unused graph.blocks e.from (Unused k) (subst (λ z. slice_get z e.from ≡ Some (Unused k)) is.blocks.nodes at) in
    let q : k ≡ w.0 = cc (w.2) in
    subst (λ o. IsIn e.to (successors_in o)) (sym w.1) ((successor_is w.0.exit e.to).1 (subst (λ (z : Block). IsIn e.to (targets_of z.exit)) q t))
leads graph m is e (of_split r j p d y g word at x h) = no_region graph m is.blocks r g at
leads graph m is e (of_last r g at f t) = no_region graph m is.blocks r g at

pub begins_headed : BeginsHeaded
begins_headed graph m is = headed_by (UnusedEdge m) (Leads graph) (λ h. IsIn h m.headers) (λ e u. stays (leads graph m is e u.is_edge)) (cycles_have_headers graph m.headers is.headers)

-- after a replacement

module _ (m : MixedGraph) (r : Replacement) (valid : Valid m) (c : CanReplace m r) (first : ℕ) (others : List ℕ) (blocks_are : r.trace.blocks ≡ first ∷ others) where
  abbrev New : MixedGraph
  New = next_mixed m r

  abbrev N : ℕ
  N = length m.nodes

  abbrev To : ℕ → ℕ → ℕ
  To = new_end m r.made

  abbrev Blocks : List ℕ
  Blocks = first ∷ others

  abbrev L : Linkable m r
  L = linkable c

  abbrev Edge_new : (e : Edge) → IsEdge New e → NewEdge m r valid L first others blocks_are e
  Edge_new = new_edge m r valid L first others blocks_are

  -- a block below those that are made, in no region afterwards
  still : (b : ℕ) → b < N → (k : Block) → slice_get New.nodes b ≡ Some (Unused k) → OldBlock m r valid L first others blocks_are b k
  still b low k at = by (new_block m r valid L first others blocks_are b k at)
    where
      by : OldBlock m r valid L first others blocks_are b k ⊎ MadeBlock m r valid L first others blocks_are b k → OldBlock m r valid L first others blocks_are b k
      by (inl o) = o
      by (inr x) = absurd (let n = x.number in omega arith)

  -- what a block is made on is an edge from the trace or into it
  touches : (i : ℕ) (x : Made) → slice_get r.made i ≡ Some x → IsIn x.edge.from Blocks ⊎ IsIn x.edge.to others
  touches i x h =
      ⊎_elim (λ s. inl (off_trace m r valid L first others blocks_are x.edge.from x.edge.to s).begins)
      (λ j. inr (joins m r valid L first others blocks_are j.0 x.edge.from x.edge.to j.1 j.2).behind)
      (c.made.made_where x (index_in r.made i x h))

  -- the block that is made there is left to the end of its edge, and entered from the beginning of it
  left_to : (i : ℕ) (x : Made) → slice_get r.made i ≡ Some x → (f : Edge) → UnusedEdge New f → f.from ≡ N + i → f.to ≡ x.edge.to
  left_to i x h f u q = by (Edge_new f u.is_edge)
    where
      by : NewEdge m r valid L first others blocks_are f → f.to ≡ x.edge.to
      by (renamed a b old outer s t) = absurd (let low = low_from m r valid c first others blocks_are a b old in omega arith)
      by (from_made j y g s t) =
          let n : j ≡ i = omega arith in
          t ∙ ap (λ (z : Made). z.edge.to) (some_same (slice_get r.made i) y x (subst (λ z. slice_get r.made z ≡ Some y) n g) h)

  entered_from : (i : ℕ) (x : Made) → slice_get r.made i ≡ Some x → (f : Edge) → UnusedEdge New f → f.to ≡ N + i → f.from ≡ x.edge.from
  entered_from i x h f u q = by (Edge_new f u.is_edge)
    where
      by_end : (a b : ℕ) → IsEdge m (edge a b) → f.from ≡ a → f.to ≡ To a b → (o : Option ℕ) → made_on N r.made (edge a b) ≡ o → f.from ≡ x.edge.from
      by_end a b old s t None p = absurd (let low = low_to m r valid c first others blocks_are a b old in let e = plain_end m r valid c first others blocks_are a b p in omega arith)
      by_end a b old s t (Some d) p =
          let e = (made_end m r valid c first others blocks_are a b d p).0 in
          let y = made_some N r.made (edge a b) d p in
          let number = y.number in
          let n : y.index ≡ i = omega arith in
          s ∙ sym (ap (λ (z : Edge). z.from) y.where_) ∙ ap (λ (z : Made). z.edge.from) (some_same (slice_get r.made i) y.item x (subst (λ z. slice_get r.made z ≡ Some y.item) n y.has) h)

      by : NewEdge m r valid L first others blocks_are f → f.from ≡ x.edge.from
      by (renamed a b old outer s t) = by_end a b old s t (made_on N r.made (edge a b)) refl
      by (from_made j y g s t) = absurd (let low = made_low m r valid c first others blocks_are j y g in omega arith)

  -- no block made is on a cycle: it has no edge into it, or none out of it
  apart : (i : ℕ) (x : Made) → slice_get r.made i ≡ Some x → ((f : Edge) → UnusedEdge New f → f.to ≡ N + i → ⊥) ⊎ ((f : Edge) → UnusedEdge New f → f.from ≡ N + i → ⊥)
  apart i x h = ⊎_elim
      (λ from. inl (λ f u q.
      let e = entered_from i x h f u q in
      let low = from_low f u q in
      (still f.from low u.begins.0 u.begins.1).out (subst (λ z. IsIn z Blocks) (sym e) from)))
      (λ to. inr (λ f u q.
      let e = left_to i x h f u q in
      let low : f.to < N = subst (λ z. z < N) (sym e) (made_low m r valid c first others blocks_are i x h) in
      (still f.to low u.arrives.0 u.arrives.1).out (inr (subst (λ z. IsIn z others) (sym e) to))))
      (touches i x h)
    where
      from_low : (f : Edge) → UnusedEdge New f → f.to ≡ N + i → f.from < N
      from_low f u q = by (Edge_new f u.is_edge)
        where
          by : NewEdge m r valid L first others blocks_are f → f.from < N
          by (renamed a b old outer s t) = subst (λ z. z < N) (sym s) (low_from m r valid c first others blocks_are a b old)
          by (from_made j y g s t) = absurd (let low = made_low m r valid c first others blocks_are j y g in omega arith)

  known : (e : Edge) → UnusedEdge New e → Known (UnusedEdge New) (UnusedEdge m) e
  known e u = by (Edge_new e u.is_edge)
    where
      by_end : (a b : ℕ) → IsEdge m (edge a b) → e.from ≡ a → e.to ≡ To a b → (o : Option ℕ) → made_on N r.made (edge a b) ≡ o → Known (UnusedEdge New) (UnusedEdge m) e
      by_end a b old s t None p =
          let end : e.to ≡ b = t ∙ plain_end m r valid c first others blocks_are a b p in
          let from_low : e.from < N = subst (λ z. z < N) (sym s) (low_from m r valid c first others blocks_are a b old) in
          let to_low : e.to < N = subst (λ z. z < N) (sym end) (low_to m r valid c first others blocks_are a b old) in
          let k = still e.from from_low u.begins.0 u.begins.1 in
          let l = still e.to to_low u.arrives.0 u.arrives.1 in
          stays (record { is_edge = subst (IsEdge m) (sym (ap (λ z. edge z e.to) s ∙ ap (edge a) end)) old; begins = (k.block, k.at); arrives = (l.block, l.at) })
      by_end a b old s t (Some d) p =
          let y = made_some N r.made (edge a b) d p in
          let end : e.to ≡ N + y.index = t ∙ (made_end m r valid c first others blocks_are a b d p).0 ∙ y.number in
          ⊎_elim (λ n. absurd (n e u end)) (λ n. no_behind (λ f v q. n f v (q ∙ end))) (apart y.index y.item y.has)

      by : NewEdge m r valid L first others blocks_are e → Known (UnusedEdge New) (UnusedEdge m) e
      by (renamed a b old outer s t) = by_end a b old s t (made_on N r.made (edge a b)) refl
      by (from_made i x h s t) = ⊎_elim (λ n. no_before (λ f v q. n f v (q ∙ s))) (λ n. absurd (n e u s)) (apart i x h)

pub stays_headed : StaysHeaded
stays_headed m r valid c headed =
    let b = some_blocks r.trace.blocks c.trace.can.some in
    headed_by (UnusedEdge (next_mixed m r)) (UnusedEdge m) (λ h. IsIn h m.headers) (known m r valid c b.0 b.1 b.2) headed
