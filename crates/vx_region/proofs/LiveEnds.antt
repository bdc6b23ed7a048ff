-- Where a split may leave, and what is live there, before and after a replacement.
use Rattle.std.proofs.Common.{◌≡◌, ◌≢◌, ◌⊎◌, inl, inr, ⊎_elim, ℕ, ◌<◌, Bool, true, false, Option, Some, None, List, [], ◌∷◌, length, map, slice_get, refl, sym, ap, ◌∙◌, subst}
use Rattle.std.specs.Prelude.{◌↔◌, ◌==◌, if◌then◌else◌}
use Rattle.vx_flow.specs.declared.graph.Block.{Block}
use Rattle.vx_flow.specs.declared.graph.Edge.{Edge}
use Rattle.vx_flow.specs.declared.graph.Exit.{Exit}
use Rattle.vx_flow.specs.declared.graph.Exit.TheVariants.{Goto, Split as Branches, Call, Return, Ends}
use Rattle.vx_flow.specs.declared.graph.Op.{Op}
use Rattle.vx_flow.specs.declared.trace.TraceOp.TheVariants.{Plain, Split}
use Rattle.vx_flow.specs.Effects.{IsIn}
use Rattle.vx_flow.specs.Sound.{targets_of}
use Rattle.vx_flow.specs.Walk.{edge}
use Rattle.vx_flow.proofs.IndexSteps.{get_below}
use Rattle.vx_flow.proofs.Members.{in_either}
use Rattle.vx_mixed.specs.declared.region.Node.TheVariants.{Unused}
use Rattle.vx_mixed.specs.declared.mixed.MixedGraph.{MixedGraph}
use Rattle.vx_mixed.specs.declared.replacement.Replacement.{Replacement}
use Rattle.vx_mixed.specs.Edges.{IsEdge, of_block}
use Rattle.vx_mixed.specs.Entrances.{pairs}
use Rattle.vx_mixed.specs.Live.{Live}
use Rattle.vx_mixed.specs.Next.{is_split_edge, made_on, next_mixed}
use Rattle.vx_mixed.specs.TraceOf.{CanTrace, block_at, block_or_none, inner_edges, split_between, split_behind, block_ops, trace_ops}
use Rattle.vx_mixed.specs.Valid.{PartsWays, Valid}
use Rattle.vx_mixed.proofs.Linked.{Linkable, index_in, in_edge, targets_renamed, entrance_there, To, can, joins, at_end, from_outside, pair_stays}
use Rattle.vx_mixed.proofs.NewBlocks.{OldBlock, MadeBlock, new_block}
use Rattle.vx_mixed.proofs.NewNodes.{made_some}
use Rattle.vx_mixed.proofs.PathOf.{from_inside}
use Rattle.vx_replace.specs.TraceLists.{LiveAtSplits}
use Rattle.vx_region.specs.LiveEnds.{IsOffEnd, TellsLive}

-- what is told of all blocks

tells_all : (m : MixedGraph) → Valid m → (live : ℕ → List ℕ) → ((b v : ℕ) → b < length m.nodes → IsIn v (live b) ↔ Live m b v) → TellsLive m live
tells_all m valid live all b v x =
    let k = entrance_there (slice_get m.nodes b) (valid.leads (edge x.from b) (of_block {block = x.block} x.at x.to)) in
    all b v (get_below m.nodes b k.0 k.1)

pub tells_of : (m told : MixedGraph) → told ≡ m → Valid m → (live : ℕ → List ℕ) → ((b v : ℕ) → b < length told.nodes → IsIn v (live b) ↔ Live told b v) → TellsLive m live
tells_of m told same valid live all = tells_all m valid live (subst (λ (z : MixedGraph). (b v : ℕ) → b < length z.nodes → IsIn v (live b) ↔ Live z b v) same all)

-- a split of a trace leaves to such a block

module _ (live : ℕ → List ℕ) where
  no_plain : (ops : List Op) (p : ℕ) (y : Bool) (e : Edge) (l : List ℕ) → IsIn (Split p y e l) (map Plain ops) → ⊥
  no_plain [] p y e l h = h
  no_plain (op ∷ ops) p y e l (inl q) = cc
  no_plain (op ∷ ops) p y e l (inr h) = no_plain ops p y e l h

  -- the end of a split between blocks, and the other target
  between : (b : ℕ) (x : Exit) (c p : ℕ) (y : Bool) (e : Edge) (l : List ℕ) → IsIn (Split p y e l) (split_between live b x c) → (q d f : ℕ) × (x ≡ Branches q d f) × (l ≡ live e.to) × ((e.to ≡ d) ⊎ (e.to ≡ f))
  between b (Goto d) c p y e l h = absurd h
  between b (Branches q d f) c p y e l h = by (d == c) h
    where
      by : (z : Bool) → IsIn (Split p y e l) (if z then Split q false (edge b f) (live f) ∷ [] else Split q true (edge b d) (live d) ∷ []) → (r s t : ℕ) × (Branches q d f ≡ Branches r s t) × (l ≡ live e.to) × ((e.to ≡ s) ⊎ (e.to ≡ t))
      by true (inr i) = absurd i
      by true (inl w) = let ed : e ≡ edge b f = cc in let vs : l ≡ live f = cc in (q, d, f, refl, vs ∙ ap (λ (z : Edge). live z.to) (sym ed), inr (ap (λ (z : Edge). z.to) ed))
      by false (inr i) = absurd i
      by false (inl w) = let ed : e ≡ edge b d = cc in let vs : l ≡ live d = cc in (q, d, f, refl, vs ∙ ap (λ (z : Edge). live z.to) (sym ed), inl (ap (λ (z : Edge). z.to) ed))
  between b (Call g arguments result next) c p y e l h = absurd h
  between b (Return x) c p y e l h = absurd h
  between b (Ends k) c p y e l h = absurd h

  behind : (b : ℕ) (x : Exit) (bs : List ℕ) (p : ℕ) (y : Bool) (e : Edge) (l : List ℕ) → IsIn (Split p y e l) (split_behind live b x bs) → (q d f : ℕ) × (x ≡ Branches q d f) × (l ≡ live e.to) × ((e.to ≡ d) ⊎ (e.to ≡ f))
  behind b x [] p y e l h = absurd h
  behind b x (c ∷ bs) p y e l h = between b x c p y e l h

  in_trace : (m : MixedGraph) (bs : List ℕ) (p : ℕ) (y : Bool) (e : Edge) (l : List ℕ) → IsIn (Split p y e l) (trace_ops m live bs) → (b : ℕ) × IsIn b bs × (q d f : ℕ) × ((block_at m b).exit ≡ Branches q d f) × (l ≡ live e.to) × ((e.to ≡ d) ⊎ (e.to ≡ f))
  in_trace m [] p y e l h = absurd h
  in_trace m (b ∷ bs) p y e l h =
      ⊎_elim
      (λ a. ⊎_elim
      (λ i. absurd (no_plain (block_at m b).ops p y e l i))
      (λ i. let r = behind b (block_at m b).exit bs p y e l i in (b, inl refl, r.0, r.1, r.2, r.3, r.4, r.5))
      (in_either (Split p y e l) (map Plain (block_at m b).ops) (split_behind live b (block_at m b).exit bs) a))
      (λ a. let r = in_trace m bs p y e l a in (r.0, inr r.1, r.2, r.3, r.4, r.5, r.6, r.7))
      (in_either (Split p y e l) (block_ops m live b bs) (trace_ops m live bs) h)

pub told_at_splits : (m : MixedGraph) → Valid m → (blocks : List ℕ) → CanTrace m blocks → (live : ℕ → List ℕ) → TellsLive m live → LiveAtSplits m blocks live
told_at_splits m valid blocks can live tells p v y e vs h =
    let r = in_trace live m blocks p y e vs h in
    let u = can.unused r.0 r.1 in
    let exit : u.0.exit ≡ Branches r.2 r.3 r.4 = sym (ap (λ o. (block_or_none o).exit) u.1) ∙ r.5 in
    let parts : r.3 ≢ r.4 = parted u.0.exit r.2 r.3 r.4 exit (valid.block_parts r.0 u.0 u.1).0 in
    subst (λ l. IsIn v l ↔ Live m e.to v) (sym r.6) (tells e.to v (end r.0 u.0 u.1 r.2 r.3 r.4 exit parts r.7))
  where
    parted : (x : Exit) (q d f : ℕ) → x ≡ Branches q d f → PartsWays x → d ≢ f
    parted (Branches q' d' f') q d f s n = let a : d' ≡ d = cc in let b : f' ≡ f = cc in λ z. n (a ∙ z ∙ sym b)
    parted (Goto c) q d f s n = absurd (cc)
    parted (Call g arguments result next) q d f s n = absurd (cc)
    parted (Return x) q d f s n = absurd (cc)
    parted (Ends k) q d f s n = absurd (cc)

    end : (b : ℕ) (k : Block) → slice_get m.nodes b ≡ Some (Unused k) → (q d f : ℕ) → k.exit ≡ Branches q d f → d ≢ f → ((e.to ≡ d) ⊎ (e.to ≡ f)) → IsOffEnd m e.to
    end b k at q d f x n (inl s) = record { from = b; besides = f; block = k; at = at; to = subst (λ z. IsIn e.to (targets_of z)) (sym x) (inl s); to_other = subst (λ z. IsIn f (targets_of z)) (sym x) (inr (inl refl)); apart = λ z. n (sym s ∙ z) }
    end b k at q d f x n (inr s) = record { from = b; besides = d; block = k; at = at; to = subst (λ z. IsIn e.to (targets_of z)) (sym x) (inr (inl s)); to_other = subst (λ z. IsIn d (targets_of z)) (sym x) (inl refl); apart = λ z. n (sym z ∙ s) }

-- such a block of the graph after a replacement was one before, and is an entrance that the two share

pub record WasOffEnd (m : MixedGraph) (r : Replacement) (b : ℕ) : Type 0 where
  pub was : IsOffEnd m b
  pub shared : pairs m r b b ≡ true

module _ (m : MixedGraph) (r : Replacement) (valid : Valid m) (c : Linkable m r) (first : ℕ) (others : List ℕ) (are : r.trace.blocks ≡ first ∷ others) where
  abbrev To_ : ℕ → ℕ → ℕ
  To_ = To m r valid c first others are

  -- an edge of a block outside, beside which another one leads from it, is the only one to its end
  module _ (a : ℕ) (k : Block) (at : slice_get m.nodes a ≡ Some (Unused k)) (out : IsIn a (first ∷ others) → ⊥) (d f : ℕ) (to : IsIn d (targets_of k.exit)) (to_other : IsIn f (targets_of k.exit)) (apart : d ≢ f) where
    is_edge : IsEdge m (edge a d)
    is_edge = of_block {block = k} at to

    other_edge : IsEdge m (edge a f)
    other_edge = of_block {block = k} at to_other

    no_other : (e : ℕ) → IsIn (edge e d) (inner_edges (first ∷ others)) → ⊥
    no_other e h = ⊎_elim
        (λ q. apart (sym (ap (λ (z : Edge). z.to) q)))
        (λ q. out (subst (λ z. IsIn z (first ∷ others)) (ap (λ (z : Edge). z.from) q) (from_inside (first ∷ others) (edge e d) h)))
        (valid.uncritical (edge a d) (edge a f) (edge e d) is_edge other_edge ((can m r valid c first others are).follow (edge e d) h) refl refl)

    not_behind : IsIn d others → ⊥
    not_behind i = let e = in_edge first d others i in no_other e.0 e.1

    unmoved : To_ a d ≡ d
    unmoved = by (made_on (length m.nodes) r.made (edge a d)) refl
      where
        by : (o : Option ℕ) → made_on (length m.nodes) r.made (edge a d) ≡ o → To_ a d ≡ d
        by None q = at_end m r valid c first others are a d None q
        by (Some x) q =
            let s = made_some (length m.nodes) r.made (edge a d) x q in
            absurd (⊎_elim
            (λ t. let z : true ≡ false = sym t ∙ ap (is_split_edge r.trace.ops) s.where_ ∙ (from_outside m r valid c first others are a d out).1 in cc)
            (λ j. not_behind (joins m r valid c first others are j.0 a d j.1 (subst (λ z. IsIn z j.0.edges) s.where_ j.2)).behind)
            (c.made_where s.item (index_in r.made s.index s.item s.has)))

    shared_end : pairs m r d d ≡ true
    shared_end = pair_stays m r valid c first others are d (valid.leads (edge a d) is_edge) not_behind

  pub was_off_end : (b : ℕ) → IsOffEnd (next_mixed m r) b → WasOffEnd m r b
  was_off_end b x = by (new_block m r valid c first others are x.from x.block x.at)
    where
      by : OldBlock m r valid c first others are x.from x.block ⊎ MadeBlock m r valid c first others are x.from x.block → WasOffEnd m r b
      by (inr y) = absurd (x.apart (one b (subst (λ (z : Block). IsIn b (targets_of z.exit)) y.is x.to) ∙ sym (one x.besides (subst (λ (z : Block). IsIn x.besides (targets_of z.exit)) y.is x.to_other))))
        where
          one : (d : ℕ) → IsIn d (y.item.edge.to ∷ []) → d ≡ y.item.edge.to
          one d (inl e) = e
          one d (inr e) = absurd e
      by (inl y) =
          let d = targets_renamed (To_ x.from) y.block.exit b (subst (λ (z : Block). IsIn b (targets_of z.exit)) y.is x.to) in
          let f = targets_renamed (To_ x.from) y.block.exit x.besides (subst (λ (z : Block). IsIn x.besides (targets_of z.exit)) y.is x.to_other) in
          let apart : d.0 ≢ f.0 = λ e. x.apart (d.2 ∙ ap (To_ x.from) e ∙ sym f.2) in
          let same : d.0 ≡ b = sym (d.2 ∙ unmoved x.from y.block y.at y.out d.0 f.0 d.1 f.1 apart) in
          record {
            was = record { from = x.from; besides = f.0; block = y.block; at = y.at; to = subst (λ z. IsIn z (targets_of y.block.exit)) same d.1; to_other = f.1; apart = λ e. apart (same ∙ e) };
            shared = subst (λ z. pairs m r z z ≡ true) same (shared_end x.from y.block y.at y.out d.0 f.0 d.1 f.1 apart);
          }

  pub tells_next : (live : ℕ → List ℕ) → ((b v : ℕ) → pairs m r b b ≡ true → Live m b v → Live (next_mixed m r) b v) → ((b v : ℕ) → pairs m r b b ≡ true → Live (next_mixed m r) b v → Live m b v) → TellsLive m live → TellsLive (next_mixed m r) live
  tells_next live forth back tells b v x =
      let w = was_off_end b x in
      let t = tells b v w.was in
      (λ h. forth b v w.shared (t.0 h), λ h. t.1 (back b v w.shared h))
