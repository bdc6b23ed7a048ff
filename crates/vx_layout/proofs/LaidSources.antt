-- The planned words of a layout and the words of its regions, and where the code of a layout comes from.
use Rattle.std.proofs.Common.{◌≡◌, ◌≤◌, ℕ, zero, suc, ◌+◌, Bool, Option, Some, List, [], ◌∷◌, ◌++◌, length, slice_get, refl, sym, ap, ◌∙◌, subst, inl, inr, arith}
use Rattle.vx_flow.specs.declared.graph.Op.{Op}
use Rattle.vx_flow.specs.declared.graph.Graph.{Graph}
use Rattle.vx_flow.specs.declared.graph.Exit.{Exit}
use Rattle.vx_flow.specs.declared.graph.Exit.TheVariants.{Split as Branches, Call as Calling, Return as Returning}
use Rattle.vx_flow.specs.declared.graph.Operand.{Operand}
use Rattle.vx_flow.specs.declared.graph.Edge.{Edge}
use Rattle.vx_flow.specs.Effects.{IsIn, reads, writes}
use Rattle.vx_mixed.specs.declared.region.Item.{Item}
use Rattle.vx_mixed.specs.declared.region.Item.TheVariants.{Plain as PlainItem, Split as SplitItem}
use Rattle.vx_mixed.specs.declared.region.Region.{Region}
use Rattle.vx_mixed.specs.declared.layout.Laid.{Laid}
use Rattle.vx_mixed.specs.declared.layout.Laid.TheVariants.{Plain, Split}
use Rattle.vx_mixed.specs.declared.layout.VirtualWord.{VirtualWord}
use Rattle.vx_mixed.specs.declared.layout.VirtualWord.TheVariants.{Planned, Drain, Transfer, Choice, Call, Return, Ends}
use Rattle.vx_mixed.specs.declared.layout.VWords.{VWords}
use Rattle.vx_mixed.specs.declared.mixed.MixedGraph.{MixedGraph}
use Rattle.vx_mixed.specs.Live.{word_reads, word_writes}
use Rattle.vx_mixed.specs.Settled.{NoTwice}
use Rattle.vx_mixed.specs.Valid.{region_op}
use Rattle.vx_mixed.specs.Layout.{stub, laid, place_of, layout_of}
use Rattle.vx_mixed.specs.LaidSettled.{laid_reads, laid_writes, laid_ways, Plans}
use Rattle.vx_layout.specs.LayoutLaws.{AreItems, LayoutComesFromGraph}
use Rattle.vx_layout.specs.Origins.{ComesFromGraph, LaidFromGraph, ExitComesFrom}
use Rattle.vx_mixed.proofs.Standing.{Source, mapped_from, get_mapped}
use Rattle.vx_layout.proofs.DatedWords.{Dated, word_in, left_before}
use Rattle.vx_layout.proofs.LayoutPlaces.{WordAt, word_stands, dated, dated_is, region_stands}
use Rattle.vx_layout.proofs.Numbered.{layout_numbered}
use Rattle.vx_layout.proofs.LayoutKinds.{begins_at, Kind, plans, drains, jumps, chooses, calls, returns, ends, kind_of}

-- items as they are laid out

pub plain_from : (at : ℕ) (word : List Item) (op : Op) (cluster : ℕ) → IsIn (Plain op cluster) (laid at word) → IsIn (PlainItem op cluster) word
plain_from at [] op cluster h = h
plain_from at (PlainItem o c ∷ items) op cluster (inl e) = let a : op ≡ o = cc in let b : cluster ≡ c = cc in inl (ap (λ z. PlainItem z cluster) a ∙ ap (PlainItem o) b)
plain_from at (PlainItem o c ∷ items) op cluster (inr h) = inr (plain_from at items op cluster h)
plain_from at (SplitItem p y e d ∷ items) op cluster (inl e2) = absurd (cc)
plain_from at (SplitItem p y e d ∷ items) op cluster (inr h) = inr (plain_from (at + length (stub (λ b. 0) (SplitItem p y e d))) items op cluster h)

pub plain_to : (at : ℕ) (word : List Item) (op : Op) (cluster : ℕ) → IsIn (PlainItem op cluster) word → IsIn (Plain op cluster) (laid at word)
plain_to at [] op cluster h = h
plain_to at (PlainItem o c ∷ items) op cluster (inl e) = let a : op ≡ o = cc in let b : cluster ≡ c = cc in inl (ap (λ z. Plain z cluster) a ∙ ap (Plain o) b)
plain_to at (PlainItem o c ∷ items) op cluster (inr h) = inr (plain_to at items op cluster h)
plain_to at (SplitItem p y e d ∷ items) op cluster (inl e2) = absurd (cc)
plain_to at (SplitItem p y e d ∷ items) op cluster (inr h) = inr (plain_to (at + length (stub (λ b. 0) (SplitItem p y e d))) items op cluster h)

pub split_from : (at : ℕ) (word : List Item) (test q : ℕ) (y : Bool) → IsIn (Split test y q) (laid at word) → (e : Edge) × (d : ℕ) × IsIn (SplitItem test y e d) word
split_from at [] test q y h = absurd h
split_from at (PlainItem o c ∷ items) test q y (inl e) = absurd (cc)
split_from at (PlainItem o c ∷ items) test q y (inr h) = let r = split_from at items test q y h in (r.0, r.1, inr r.2)
split_from at (SplitItem p z e d ∷ items) test q y (inl f) = let a : test ≡ p = cc in let b : y ≡ z = cc in (e, d, inl (ap (λ t. SplitItem t y e d) a ∙ ap (λ t. SplitItem p t e d) b))
split_from at (SplitItem p z e d ∷ items) test q y (inr h) = let r = split_from (at + length (stub (λ b. 0) (SplitItem p z e d))) items test q y h in (r.0, r.1, inr r.2)

pub are_items : (at : ℕ) (word : List Item) → AreItems (laid at word) word
are_items at [] = tt
are_items at (PlainItem o c ∷ items) = ((refl, refl), are_items at items)
are_items at (SplitItem p y e d ∷ items) = ((refl, refl), are_items (at + length (stub (λ b. 0) (SplitItem p y e d))) items)

pub same_reads : (at : ℕ) (word : List Item) → laid_reads (laid at word) ≡ word_reads word
same_reads at [] = refl
same_reads at (PlainItem o c ∷ items) = ap (λ z. reads o ++ z) (same_reads at items)
same_reads at (SplitItem p y e d ∷ items) = ap (λ z. p ∷ z) (same_reads (at + length (stub (λ b. 0) (SplitItem p y e d))) items)

-- the ways out of a word begin at a place, and each has a word at least, so that no two of its splits leave to one place

ways_behind : (at : ℕ) (word : List Item) (q : ℕ) → IsIn q (laid_ways (laid at word)) → at ≤ q
ways_behind at [] q h = absurd h
ways_behind at (PlainItem o c ∷ items) q h = ways_behind at items q h
ways_behind at (SplitItem p y e d ∷ items) q (inl f) = omega arith
ways_behind at (SplitItem p y e d ∷ items) q (inr h) = let a = ways_behind (at + length (stub (λ b. 0) (SplitItem p y e d))) items q h in omega arith

some_way : (p : ℕ) (y : Bool) (e : Edge) (d : ℕ) → 1 ≤ length (stub (λ b. 0) (SplitItem p y e d))
some_way p y e zero = omega arith
some_way p y e (suc d) = omega arith

pub ways_differ : (at : ℕ) (word : List Item) → NoTwice (laid_ways (laid at word))
ways_differ at [] = tt
ways_differ at (PlainItem o c ∷ items) = ways_differ at items
ways_differ at (SplitItem p y e d ∷ items) =
    let more = at + length (stub (λ b. 0) (SplitItem p y e d)) in
    (λ h. absurd (let a = ways_behind more items at h in let b = some_way p y e d in omega arith), ways_differ more items)

pub same_writes : (at : ℕ) (word : List Item) → laid_writes (laid at word) ≡ word_writes word
same_writes at [] = refl
same_writes at (PlainItem o c ∷ items) = ap (λ z. writes o ++ z) (same_writes at items)
same_writes at (SplitItem p y e d ∷ items) = same_writes (at + length (stub (λ b. 0) (SplitItem p y e d))) items

module _ (latency : Op → ℕ) (m : MixedGraph) where
  abbrev L : VWords
  L = layout_of m

  abbrev D : List Dated
  D = dated latency m

  pub source_of : (p : ℕ) (word : VirtualWord) → slice_get L.words p ≡ Some word → Source word_in D p word
  source_of p word e = mapped_from word_in D p word (ap (λ z. slice_get z p) (dated_is latency m) ∙ e)

  pub word_of : (p : ℕ) (x : Dated) → slice_get D p ≡ Some x → slice_get L.words p ≡ Some x.word
  word_of p x e = ap (λ z. slice_get z p) (sym (dated_is latency m)) ∙ get_mapped word_in D p x e

  pub word_there : (r w : ℕ) (g : Region) (word : List Item) → slice_get m.regions r ≡ Some g → slice_get g.words w ≡ Some word → WordAt latency (place_of m) D r (begins_at latency m r) w g.words word
  word_there r w g word e f = word_stands latency (place_of m) D r (begins_at latency m r) g (region_stands latency m r g e) w word f

  -- a planned word is a word of a region
  pub record PlanOf (p : ℕ) (items : List Laid) : Type 0 where
    pub region : ℕ
    pub number : ℕ
    pub g : Region
    pub word : List Item
    pub has_region : slice_get m.regions region ≡ Some g
    pub has_word : slice_get g.words number ≡ Some word
    pub place : p ≡ begins_at latency m region + number
    pub stands : WordAt latency (place_of m) D region (begins_at latency m region) number g.words word
    pub is : items ≡ laid stands.at word

  same_items : (r w r' w' : ℕ) (items items' : List Laid) → Planned r w items ≡ Planned r' w' items' → items ≡ items'
  same_items r w r' w' items items' e = cc

  same_dated : (x y : Dated) → Some x ≡ Some y → x ≡ y
  same_dated x y e = cc

  word_is : (p : ℕ) (x y : Dated) → slice_get D p ≡ Some x → slice_get D p ≡ Some y → x.word ≡ y.word
  word_is p x y e f = ap word_in (same_dated x y (sym e ∙ f))

  plan_by : (p r w : ℕ) (items : List Laid) (x : Dated) → slice_get D p ≡ Some x → x.word ≡ Planned r w items → Kind latency m p x → PlanOf p items
  plan_by p r w items x e f (plans r' w' g word er ew q) =
      let at = word_there r' w' g word er ew in
      let here : slice_get D p ≡ Some (record { word = Planned r' w' (laid at.at word); left = left_before latency g.words w' }) = ap (slice_get D) q ∙ at.is in
      record {
        region = r';
        number = w';
        g = g;
        word = word;
        has_region = er;
        has_word = ew;
        place = q;
        stands = at;
        is = same_items r w r' w' items (laid at.at word) (sym f ∙ word_is p x (record { word = Planned r' w' (laid at.at word); left = left_before latency g.words w' }) e here);
      }
  plan_by p r w items x e f (drains n left y is next cold of) = absurd (let a : Drain (suc n) ≡ Planned r w items = sym (ap word_in is) ∙ f in cc)
  plan_by p r w items x e f (jumps edge is_edge is) = absurd (let a : Transfer (place_of m edge.to) ≡ Planned r w items = sym (ap word_in is) ∙ f in cc)
  plan_by p r w items x e f (chooses r' test c d g y er last is next) = absurd (let a : Choice test (place_of m c) ≡ Planned r w items = sym (ap word_in is) ∙ f in cc)
  plan_by p r w items x e f (calls r' k next arguments result g y er last is after) = absurd (let a : Call k arguments result ≡ Planned r w items = sym (ap word_in is) ∙ f in cc)
  plan_by p r w items x e f (returns r' a g er last is) = absurd (let b : Return a ≡ Planned r w items = sym (ap word_in is) ∙ f in cc)
  plan_by p r w items x e f (ends k is) = absurd (let a : Ends k ≡ Planned r w items = sym (ap word_in is) ∙ f in cc)

  pub plan_of : (p : ℕ) (items : List Laid) → Plans L p items → PlanOf p items
  plan_of p items h = let s = source_of p (Planned h.0 h.1 items) h.2 in plan_by p h.0 h.1 items s.x s.has s.is (kind_of latency m p s.x s.has)

  -- the exit of a region is behind a choice, a call and a return

  pub record ExitOf (last : Exit) : Type 0 where
    pub region : ℕ
    pub g : Region
    pub has : slice_get m.regions region ≡ Some g
    pub is : g.last ≡ last

  pub plan_word : (p r w : ℕ) (g : Region) (word : List Item) (x : Dated) → slice_get m.regions r ≡ Some g → slice_get g.words w ≡ Some word → p ≡ begins_at latency m r + w → slice_get D p ≡ Some x → (items : List Laid) × (x.word ≡ Planned r w items)
  plan_word p r w g word x er ew q e =
      let at = word_there r w g word er ew in
      (laid at.at word, word_is p x (record { word = Planned r w (laid at.at word); left = left_before latency g.words w }) e (ap (slice_get D) q ∙ at.is))

  choice_by : (p test q : ℕ) (x : Dated) → slice_get D p ≡ Some x → x.word ≡ Choice test q → Kind latency m p x → (c : ℕ) × (d : ℕ) × ExitOf (Branches test c d)
  choice_by p test q x e f (plans r w g word er ew b) = absurd (let z = plan_word p r w g word x er ew b e in let a : Planned r w z.0 ≡ Choice test q = sym z.1 ∙ f in cc)
  choice_by p test q x e f (drains n left y is next cold of) = absurd (let a : Drain (suc n) ≡ Choice test q = sym (ap word_in is) ∙ f in cc)
  choice_by p test q x e f (jumps edge is_edge is) = absurd (let a : Transfer (place_of m edge.to) ≡ Choice test q = sym (ap word_in is) ∙ f in cc)
  choice_by p test q x e f (chooses r t c d g y er last is next) =
      let a : Choice t (place_of m c) ≡ Choice test q = sym (ap word_in is) ∙ f in
      let b : t ≡ test = cc in
      (c, d, record { region = r; g = g; has = er; is = last ∙ ap (λ z. Branches z c d) b })
  choice_by p test q x e f (calls r k next arguments result g y er last is after) = absurd (let a : Call k arguments result ≡ Choice test q = sym (ap word_in is) ∙ f in cc)
  choice_by p test q x e f (returns r a g er last is) = absurd (let b : Return a ≡ Choice test q = sym (ap word_in is) ∙ f in cc)
  choice_by p test q x e f (ends k is) = absurd (let a : Ends k ≡ Choice test q = sym (ap word_in is) ∙ f in cc)

  call_by : (p f : ℕ) (arguments : List Operand) (result : Option ℕ) (x : Dated) → slice_get D p ≡ Some x → x.word ≡ Call f arguments result → Kind latency m p x → (next : ℕ) × ExitOf (Calling f arguments result next)
  call_by p f arguments result x e h (plans r w g word er ew b) = absurd (let z = plan_word p r w g word x er ew b e in let a : Planned r w z.0 ≡ Call f arguments result = sym z.1 ∙ h in cc)
  call_by p f arguments result x e h (drains n left y is next cold of) = absurd (let a : Drain (suc n) ≡ Call f arguments result = sym (ap word_in is) ∙ h in cc)
  call_by p f arguments result x e h (jumps edge is_edge is) = absurd (let a : Transfer (place_of m edge.to) ≡ Call f arguments result = sym (ap word_in is) ∙ h in cc)
  call_by p f arguments result x e h (chooses r t c d g y er last is next) = absurd (let a : Choice t (place_of m c) ≡ Call f arguments result = sym (ap word_in is) ∙ h in cc)
  call_by p f arguments result x e h (calls r k next arguments' result' g y er last is after) =
      let a : Call k arguments' result' ≡ Call f arguments result = sym (ap word_in is) ∙ h in
      let b : k ≡ f = cc in
      let c : arguments' ≡ arguments = cc in
      let d : result' ≡ result = cc in
      (next, record { region = r; g = g; has = er; is = last ∙ ap (λ z. Calling z arguments' result' next) b ∙ ap (λ z. Calling f z result' next) c ∙ ap (λ z. Calling f arguments z next) d })
  call_by p f arguments result x e h (returns r a g er last is) = absurd (let b : Return a ≡ Call f arguments result = sym (ap word_in is) ∙ h in cc)
  call_by p f arguments result x e h (ends k is) = absurd (let a : Ends k ≡ Call f arguments result = sym (ap word_in is) ∙ h in cc)

  return_by : (p : ℕ) (a : Operand) (x : Dated) → slice_get D p ≡ Some x → x.word ≡ Return a → Kind latency m p x → ExitOf (Returning a)
  return_by p a x e h (plans r w g word er ew b) = absurd (let z = plan_word p r w g word x er ew b e in let c : Planned r w z.0 ≡ Return a = sym z.1 ∙ h in cc)
  return_by p a x e h (drains n left y is next cold of) = absurd (let b : Drain (suc n) ≡ Return a = sym (ap word_in is) ∙ h in cc)
  return_by p a x e h (jumps edge is_edge is) = absurd (let b : Transfer (place_of m edge.to) ≡ Return a = sym (ap word_in is) ∙ h in cc)
  return_by p a x e h (chooses r t c d g y er last is next) = absurd (let b : Choice t (place_of m c) ≡ Return a = sym (ap word_in is) ∙ h in cc)
  return_by p a x e h (calls r k next arguments result g y er last is after) = absurd (let b : Call k arguments result ≡ Return a = sym (ap word_in is) ∙ h in cc)
  return_by p a x e h (returns r b g er last is) = let c : Return b ≡ Return a = sym (ap word_in is) ∙ h in let d : b ≡ a = cc in record { region = r; g = g; has = er; is = last ∙ ap Returning d }
  return_by p a x e h (ends k is) = absurd (let b : Ends k ≡ Return a = sym (ap word_in is) ∙ h in cc)

-- the code of a layout

code_of : (graph : Graph) (m : MixedGraph) → ComesFromGraph graph m → LaidFromGraph graph (layout_of m)
code_of graph m from = record {
  banks = from.banks;
  numbered = layout_numbered m;
  ops = λ p cluster op items h i.
      let x = plan_of none m p items h in
      from.ops op (region_op x.region x.number cluster x.g x.word x.has_region x.has_word (plain_from x.stands.at x.word op cluster (subst (IsIn (Plain op cluster)) x.is i)));
  splits = λ p test q y items h i.
      let x = plan_of none m p items h in
      let s = split_from x.stands.at x.word test q y (subst (IsIn (Split test y q)) x.is i) in
      from.splits x.region x.number test s.1 y s.0 x.g x.word x.has_region x.has_word s.2;
  choices = λ p test q h.
      let s = source_of none m p (Choice test q) h in
      let x = choice_by none m p test q s.x s.has s.is (kind_of none m p s.x s.has) in
      subst (ExitComesFrom graph) x.2.is (from.region_exits x.2.region x.2.g x.2.has);
  calls = λ p f arguments result h.
      let s = source_of none m p (Call f arguments result) h in
      let x = call_by none m p f arguments result s.x s.has s.is (kind_of none m p s.x s.has) in
      subst (ExitComesFrom graph) x.1.is (from.region_exits x.1.region x.1.g x.1.has);
  returns = λ p a h.
      let s = source_of none m p (Return a) h in
      let x = return_by none m p a s.x s.has s.is (kind_of none m p s.x s.has) in
      subst (ExitComesFrom graph) x.is (from.region_exits x.region x.g x.has);
}
  where
    none : Op → ℕ
    none op = 0

pub layout_comes_from_graph : LayoutComesFromGraph
layout_comes_from_graph graph m l out from = subst (LaidFromGraph graph) (sym out.is) (code_of graph m from)
