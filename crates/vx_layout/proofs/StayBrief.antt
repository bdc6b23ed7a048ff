-- Empty cycles stay few by replacements with few, and in the layout.
use Rattle.std.proofs.Common.{◌≡◌, ℕ, suc, ◌≤◌, Bool, Some, List, [], ◌∷◌, drop, map, slice_get, slice_index_or, refl, sym, ap, ◌∙◌, subst, ⊎_elim, inl, inr, arith}
use Rattle.vx_flow.specs.declared.graph.Edge.{Edge}
use Rattle.vx_flow.specs.declared.graph.Op.{Op}
use Rattle.vx_flow.specs.declared.trace.TraceOp.{TraceOp}
use Rattle.vx_flow.specs.declared.trace.TraceOp.TheVariants.{Plain as TracePlain, Split as TraceSplit}
use Rattle.vx_flow.specs.Effects.{IsIn}
use Rattle.vx_mixed.specs.declared.region.Item.{Item}
use Rattle.vx_mixed.specs.declared.region.Item.TheVariants.{Plain, Split}
use Rattle.vx_mixed.specs.declared.region.Region.{Region}
use Rattle.vx_mixed.specs.declared.mixed.MixedGraph.{MixedGraph}
use Rattle.vx_mixed.specs.declared.layout.VirtualWord.TheVariants.{Planned, Drain, Transfer, Choice, Call, Return, Ends}
use Rattle.vx_layout.specs.Brief.{most_drain, IsBrief, IsBriefLayout, DrainsBriefly, BriefStays, LayoutIsBrief}
use Rattle.vx_mixed.specs.declared.replacement.Replacement.{Replacement}
use Rattle.vx_mixed.specs.Next.{InWord, new_end, renamed_region, freed, placed, new_region, next_mixed, rename}
use Rattle.vx_mixed.specs.Layout.{place_of, layout_of}
use Rattle.vx_layout.proofs.DatedWords.{Dated, word_in}
use Rattle.vx_layout.proofs.LaidSources.{source_of, plan_word}
use Rattle.vx_layout.proofs.LayoutPlaces.{dated}
use Rattle.vx_layout.proofs.LayoutKinds.{DrainOf, at_exit, at_split, Kind, plans, drains, jumps, chooses, calls, returns, ends, kind_of}
use Rattle.vx_mixed.proofs.NewBlocks.{from_placed, word_of}
use Rattle.vx_mixed.proofs.Renames.{old_word, old_split}
use Rattle.vx_mixed.proofs.NewNodes.{of_regions}

-- Replacements

abbrev Few : List ℕ → Type 0
Few ds = (d : ℕ) → IsIn d ds → d ≤ most_drain

few_behind : (ds : List ℕ) → Few ds → Few (drop 1 ds)
few_behind [] few d h = absurd h
few_behind (x ∷ ds) few d h = few d (inr h)

first_few : (ds : List ℕ) → Few ds → slice_index_or ds 0 0 ≤ most_drain
first_few [] few = omega arith
first_few (x ∷ ds) few = few x (inl refl)

placed_few : (to : ℕ → ℕ → ℕ) (ops : List TraceOp) (cs ws ds above : List ℕ) → Few ds → (x : InWord) (p d : ℕ) (y : Bool) (e : Edge) → IsIn x (placed to ops cs ws ds above) → Split p y e d ≡ x.item → d ≤ most_drain
placed_few to [] cs ws ds above few x p d y e h i = absurd h
placed_few to (op ∷ ops) [] ws ds above few x p d y e h i = absurd h
placed_few to (op ∷ ops) (c ∷ cs) [] ds above few x p d y e h i = absurd h
placed_few to (TracePlain op ∷ ops) (c ∷ cs) (w ∷ ws) ds above few x p d y e (inl q) i = absurd (let z : Split p y e d ≡ Plain (freed w above op) c = i ∙ ap (λ (k : InWord). k.item) q in cc)
placed_few to (TracePlain op ∷ ops) (c ∷ cs) (w ∷ ws) ds above few x p d y e (inr h) i = placed_few to ops cs ws ds above few x p d y e h i
placed_few to (TraceSplit q u f live ∷ ops) (c ∷ cs) (w ∷ ws) ds above few x p d y e (inl g) i =
    let z : Split p y e d ≡ Split q u (record f { to = to f.from f.to }) (slice_index_or ds 0 0) = i ∙ ap (λ (k : InWord). k.item) g in
    let a : d ≡ slice_index_or ds 0 0 = cc in
    subst (λ k. k ≤ most_drain) (sym a) (first_few ds few)
placed_few to (TraceSplit q u f live ∷ ops) (c ∷ cs) (w ∷ ws) ds above few x p d y e (inr h) i = placed_few to ops cs ws (drop 1 ds) (w ∷ above) (few_behind ds few) x p d y e h i

module _ (m : MixedGraph) (r : Replacement) (brief : IsBrief m) (few : DrainsBriefly r) where
  abbrev New : MixedGraph
  New = next_mixed m r

  abbrev To : ℕ → ℕ → ℕ
  To = new_end m r.made

  new_splits : (q j p d : ℕ) (y : Bool) (e : Edge) (g : Region) (word : List Item) → slice_get New.regions q ≡ Some g → slice_get g.words j ≡ Some word → IsIn (Split p y e d) word → d ≤ most_drain
  new_splits q j p d y e g word at in_words h =
      ⊎_elim
      (λ o.
      let w = old_word (map (rename To)) o.0.words j word (ap (λ (z : Region). slice_get z.words j) (sym o.2) ∙ in_words) in
      let s = old_split To w.0 p d e y (subst (λ z. IsIn (Split p y e d) z) w.2 h) in
      brief.splits q j p d y s.0 o.0 w.0 o.1 w.1 s.1)
      (λ n.
      let w = word_of m r j word (ap (λ (z : Region). slice_get z.words j) (sym n) ∙ in_words) in
      let x = from_placed (placed To r.trace.ops r.clusters r.words r.drains []) w.0 (Split p y e d) (subst (IsIn (Split p y e d)) w.1 h) in
      placed_few To r.trace.ops r.clusters r.words r.drains [] few.splits x.0 p d y e x.1 x.2)
      (of_regions (λ g. renamed_region To g) m.regions (new_region m r) g q at)

  new_last : (q : ℕ) (g : Region) → slice_get New.regions q ≡ Some g → g.drain ≤ most_drain
  new_last q g at =
      ⊎_elim
      (λ o. subst (λ (z : Region). z.drain ≤ most_drain) (sym o.2) (brief.last q o.0 o.1))
      (λ n. subst (λ (z : Region). z.drain ≤ most_drain) (sym n) few.last)
      (of_regions (λ g. renamed_region To g) m.regions (new_region m r) g q at)

pub brief_stays : BriefStays
brief_stays m r brief few = record { splits = new_splits m r brief few; last = new_last m r brief few }

-- The layout

module _ (m : MixedGraph) (brief : IsBrief m) where
  none : Op → ℕ
  none op = 0

  drain_few : (p n : ℕ) (f : ℕ → ℕ) → DrainOf none m p n f → suc n ≤ most_drain
  drain_few p n f (at_exit r g er at is left) = subst (λ z. z ≤ most_drain) is (brief.last r g er)
  drain_few p n f (at_split r w at test y e g word er ew planned has lays left) = brief.splits r w test (suc n) y e g word er ew has

  few_by : (p n : ℕ) (x : Dated) → slice_get (dated none m) p ≡ Some x → x.word ≡ Drain n → Kind none m p x → n ≤ most_drain
  few_by p n x e f (plans r w g word er ew b) = absurd (let z = plan_word none m p r w g word x er ew b e in let a : Planned r w z.0 ≡ Drain n = sym z.1 ∙ f in cc)
  few_by p n x e f (drains k left y is next cold of) =
      let a : Drain (suc k) ≡ Drain n = sym (ap word_in is) ∙ f in
      let b : suc k ≡ n = cc in
      subst (λ z. z ≤ most_drain) b (drain_few p k left of)
  few_by p n x e f (jumps out is_edge is) = absurd (let a : Transfer (place_of m out.to) ≡ Drain n = sym (ap word_in is) ∙ f in cc)
  few_by p n x e f (chooses r t c d g y er last is next) = absurd (let a : Choice t (place_of m c) ≡ Drain n = sym (ap word_in is) ∙ f in cc)
  few_by p n x e f (calls r k next arguments result g y er last is after) = absurd (let a : Call k arguments result ≡ Drain n = sym (ap word_in is) ∙ f in cc)
  few_by p n x e f (returns r a g er last is) = absurd (let b : Return a ≡ Drain n = sym (ap word_in is) ∙ f in cc)
  few_by p n x e f (ends k is) = absurd (let a : Ends k ≡ Drain n = sym (ap word_in is) ∙ f in cc)

  layout_few : IsBriefLayout (layout_of m)
  layout_few p n h = let s = source_of none m p (Drain n) h in few_by p n s.x s.has s.is (kind_of none m p s.x s.has)

pub layout_is_brief : LayoutIsBrief
layout_is_brief m l out brief = subst IsBriefLayout (sym out.is) (layout_few m brief)
