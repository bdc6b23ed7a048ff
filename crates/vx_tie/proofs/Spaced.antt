-- Behind empty cycles and behind calls a layout goes on with a word that is none of empty cycles; and what stands where its splits are
-- left, and at its entrances.
use Rattle.std.proofs.Common.{◌≡◌, ◌<◌, inl, ◌+◌, ℕ, zero, suc, Bool, true, false, Option, Some, None, List, [], ◌∷◌, ◌++◌, length, refl, sym, ap, ◌∙◌, subst}
use Rattle.std.specs.Prelude.{slice_get}
use Rattle.vx_flow.specs.declared.graph.Op.{Op}
use Rattle.vx_flow.specs.declared.graph.Exit.{Exit}
use Rattle.vx_flow.specs.declared.graph.Exit.TheVariants.{Goto, Split as Branches, Call as Calling, Return as Returning, Ends as Ending}
use Rattle.vx_flow.specs.Effects.{IsIn}
use Rattle.vx_flow.specs.Sound.{targets_of}
use Rattle.vx_flow.specs.Walk.{edge}
use Rattle.vx_mixed.specs.declared.region.Item.{Item}
use Rattle.vx_mixed.specs.declared.region.Item.TheVariants.{Plain, Split}
use Rattle.vx_mixed.specs.declared.region.Node.{Node}
use Rattle.vx_mixed.specs.declared.region.Node.TheVariants.{Unused, Enters, Inner}
use Rattle.vx_mixed.specs.declared.region.Region.{Region}
use Rattle.vx_mixed.specs.declared.layout.Laid.{Laid}
use Rattle.vx_mixed.specs.declared.layout.Laid.TheVariants.{Split as LaidSplit}
use Rattle.vx_mixed.specs.declared.layout.VirtualWord.{VirtualWord}
use Rattle.vx_mixed.specs.declared.layout.VirtualWord.TheVariants.{Planned, Drain, Transfer, Choice, Call as Calls, Return as Returns, Ends}
use Rattle.vx_mixed.specs.declared.layout.VWords.{VWords}
use Rattle.vx_mixed.specs.declared.mixed.MixedGraph.{MixedGraph}
use Rattle.vx_mixed.specs.Edges.{of_last}
use Rattle.vx_mixed.specs.Layout.{drain_words, leave_words, stub, word_stubs, stubs, exit_words, laid_words, region_words, region_size, place_of_node, place_of, all_words, layout_of, IsDone}
use Rattle.vx_mixed.specs.Valid.{Valid, is_entrance}
use Rattle.vx_mixed.proofs.Standing.{StandsAt, stands_here, get_some}
use Rattle.vx_layout.proofs.DatedWords.{Dated, word_in, landed, waiting, left_before}
use Rattle.vx_layout.proofs.LayoutPlaces.{dated}
use Rattle.vx_layout.proofs.LayoutKinds.{split_at, Kind, plans, drains, jumps, chooses, calls, returns, ends, kind_of}
use Rattle.vx_layout.proofs.LaidSources.{source_of, word_of, plan_of, plan_word}
use Rattle.vx_target.specs.Target.{is_drain}
use Rattle.vx_tie.specs.Plans.{GoesOn, SpacedLaw, LeavesAt, at_once, by_empty, IsEntrance, at_entry, by_transfer, by_choice, IsEntered, EntranceLaw}

-- the words that carry this one end with a pause, or may
abbrev pub ends_empty : VirtualWord → Bool
ends_empty (Planned r w items) = false
ends_empty (Drain n) = true
ends_empty (Transfer q) = false
ends_empty (Choice test q) = false
ends_empty (Calls g arguments result) = true
ends_empty (Returns x) = false
ends_empty (Ends k) = false

-- some words, of which the first is none of empty cycles
abbrev pub Firm : List VirtualWord → Type 0
Firm [] = ⊥
Firm (w ∷ ws) = is_drain w ≡ false

abbrev AllSpaced : List VirtualWord → Type 0
AllSpaced [] = Unit {0}
AllSpaced (w ∷ ws) = (ends_empty w ≡ true → Firm ws) × AllSpaced ws

never : {A : Type 0} → false ≡ true → A
never e = absurd (cc)

firm_append : (xs ys : List VirtualWord) → Firm xs → Firm (xs ++ ys)
firm_append [] ys h = absurd h
firm_append (x ∷ xs) ys h = h

spaced_append : (xs ys : List VirtualWord) → AllSpaced xs → AllSpaced ys → AllSpaced (xs ++ ys)
spaced_append [] ys a b = b
spaced_append (x ∷ xs) ys a b = ((λ e. firm_append xs ys (a.0 e)), spaced_append xs ys a.1 b)

drained : (n : ℕ) (ws : List VirtualWord) → Firm ws → AllSpaced ws → AllSpaced (drain_words n ++ ws)
drained zero ws f h = h
drained (suc n) ws f h = ((λ e. f), h)

module _ (place : ℕ → ℕ) where
  leave_firm : (exit : Exit) → Firm (leave_words place exit)
  leave_firm (Goto c) = refl
  leave_firm (Branches p c d) = refl
  leave_firm (Calling g arguments result next) = refl
  leave_firm (Returning x) = refl
  leave_firm (Ending k) = refl

  leave_spaced : (exit : Exit) → AllSpaced (leave_words place exit)
  leave_spaced (Goto c) = ((λ e. never e), tt)
  leave_spaced (Branches p c d) = ((λ e. never e), ((λ e. never e), tt))
  leave_spaced (Calling g arguments result next) = ((λ e. refl), ((λ e. never e), tt))
  leave_spaced (Returning x) = ((λ e. never e), tt)
  leave_spaced (Ending k) = ((λ e. never e), tt)

  stub_spaced : (item : Item) → AllSpaced (stub place item)
  stub_spaced (Plain op cluster) = tt
  stub_spaced (Split p y e d) = drained d (Transfer (place e.to) ∷ []) refl ((λ q. never q), tt)

  word_stubs_spaced : (items : List Item) → AllSpaced (word_stubs place items)
  word_stubs_spaced [] = tt
  word_stubs_spaced (item ∷ items) = spaced_append (stub place item) (word_stubs place items) (stub_spaced item) (word_stubs_spaced items)

  stubs_spaced : (words : List (List Item)) → AllSpaced (stubs place words)
  stubs_spaced [] = tt
  stubs_spaced (word ∷ words) = spaced_append (word_stubs place word) (stubs place words) (word_stubs_spaced word) (stubs_spaced words)

  laid_spaced : (r w at : ℕ) (words : List (List Item)) → AllSpaced (laid_words r w at words)
  laid_spaced r w at [] = tt
  laid_spaced r w at (word ∷ words) = ((λ e. never e), laid_spaced r (w + 1) (at + length (word_stubs (λ b. 0) word)) words)

  region_spaced : (r at : ℕ) (g : Region) → AllSpaced (region_words place r at g)
  region_spaced r at g =
      spaced_append (laid_words r 0 (at + length g.words + length (exit_words place g)) g.words) (exit_words place g ++ stubs place g.words)
      (laid_spaced r 0 (at + length g.words + length (exit_words place g)) g.words)
      (spaced_append (exit_words place g) (stubs place g.words) (drained g.drain (leave_words place g.last) (leave_firm g.last) (leave_spaced g.last)) (stubs_spaced g.words))

all_spaced : (m : MixedGraph) (r at : ℕ) (gs : List Region) → AllSpaced (all_words m r at gs)
all_spaced m r at [] = tt
all_spaced m r at (g ∷ gs) = spaced_append (region_words (place_of m) r at g) (all_words m (r + 1) (at + region_size g) gs) (region_spaced (place_of m) r at g) (all_spaced m (r + 1) (at + region_size g) gs)

-- the word behind one at its place
record Next (ws : List VirtualWord) (p : ℕ) : Type 0 where
  word : VirtualWord
  at : slice_get ws (suc p) ≡ Some word
  other : is_drain word ≡ false

firm_next : (x : VirtualWord) (ws : List VirtualWord) → Firm ws → Next (x ∷ ws) 0
firm_next x [] f = absurd f
firm_next x (y ∷ ws) f = record { word = y; at = refl; other = f }

next_of : (ws : List VirtualWord) (p : ℕ) (word : VirtualWord) → AllSpaced ws → slice_get ws p ≡ Some word → ends_empty word ≡ true → Next ws p
next_of [] p word h e s = absurd (let z : None ≡ Some word = e in cc)
next_of (x ∷ ws) zero word h e s = let same : word ≡ x = cc in firm_next x ws (h.0 (sym (ap ends_empty same) ∙ s))
next_of (x ∷ ws) (suc p) word h e s = let n = next_of ws p word h.1 e s in record { word = n.word; at = n.at; other = n.other }

-- from what stands where

-- which operations are late does not matter to what stands where
abbrev none : Op → ℕ
none op = 0

module _ (m : MixedGraph) where
  abbrev L : VWords
  L = layout_of m

  abbrev D : List Dated
  D = dated none m

  begins_so : (q to n : ℕ) (left : ℕ → ℕ) → StandsAt D q (waiting n left ++ landed (Transfer to) ∷ []) → LeavesAt L q
  begins_so q to zero left h = at_once to (word_of none m q (landed (Transfer to)) (stands_here D q (landed (Transfer to)) [] h))
  begins_so q to (suc n) left h = by_empty (suc n) (word_of none m q (record { word = Drain (suc n); left = left }) (stands_here D q (record { word = Drain (suc n); left = left }) (landed (Transfer to) ∷ []) h))

  split_leaves : (p r i test q : ℕ) (y : Bool) (items : List Laid) → slice_get L.words p ≡ Some (Planned r i items) → IsIn (LaidSplit test y q) items → LeavesAt L q
  split_leaves p r i test q y items e h =
      let plan = plan_of none m p items (r, i, e) in
      let s = split_at D (place_of m) (left_before none plan.g.words (suc plan.number)) plan.stands.at plan.word plan.stands.stubs test q y (subst (IsIn (LaidSplit test y q)) plan.is h) in
      begins_so q (place_of m s.edge.to) s.drain (left_before none plan.g.words (suc plan.number)) s.stands

pub spaced_law : SpacedLaw
spaced_law m = record {
  splits = split_leaves m;
  drains = λ p n e. goes p (Drain n) e refl;
  calls = λ p g arguments result e. goes p (Calls g arguments result) e refl;
}
  where
    goes : (p : ℕ) (word : VirtualWord) → slice_get (layout_of m).words p ≡ Some word → ends_empty word ≡ true → GoesOn (layout_of m) p
    goes p word e s = let n = next_of (layout_of m).words p word (all_spaced m 0 0 m.regions) e s in record { word = n.word; next = n.at; other = n.other }

-- entrances

module _ (m : MixedGraph) (valid : Valid m) (done : IsDone m) where
  node_entered : (b : ℕ) (o : Option Node) → slice_get m.nodes b ≡ o → is_entrance o ≡ true → IsEntered m (place_of_node m.regions o)
  node_entered b None e h = absurd (cc)
  node_entered b (Some (Unused block)) e h = absurd (done b block e)
  node_entered b (Some Inner) e h = absurd (cc)
  node_entered b (Some (Enters r w)) e h = record { block = b; region = r; word = w; enters = e; is = refl }

  block_entered : (b q : ℕ) → is_entrance (slice_get m.nodes b) ≡ true → q ≡ place_of m b → IsEntered m q
  block_entered b q h is = subst (IsEntered m) (sym is) (node_entered b (slice_get m.nodes b) refl h)

  first_entered : (o : Option Node) → slice_get m.nodes 0 ≡ o → 0 < length m.nodes → is_entrance o ≡ true
  first_entered None e some = absurd (let x = get_some m.nodes 0 some in let z : Some x.0 ≡ None = sym x.1 ∙ e in cc)
  first_entered (Some (Unused block)) e some = refl
  first_entered (Some Inner) e some = absurd (valid.begins e)
  first_entered (Some (Enters r w)) e some = refl

  -- a word of the layout that goes on leads to where a block is entered

  by_jump : (p q : ℕ) (x : Dated) → slice_get (D m) p ≡ Some x → x.word ≡ Transfer q → Kind none m p x → IsEntered m q
  by_jump p q x has is (plans r w g word er ew at) = absurd (let a = plan_word none m p r w g word x er ew at has in let z : Planned r w a.0 ≡ Transfer q = sym a.1 ∙ is in cc)
  by_jump p q x has is (drains n left y e next cold of) = absurd (let z : Drain (suc n) ≡ Transfer q = sym (ap word_in e) ∙ is in cc)
  by_jump p q x has is (jumps jump is_edge e) = let z : Transfer (place_of m jump.to) ≡ Transfer q = sym (ap word_in e) ∙ is in block_entered jump.to q (valid.leads jump is_edge) (cc)
  by_jump p q x has is (chooses r test c d g y er last e next) = absurd (let z : Choice test (place_of m c) ≡ Transfer q = sym (ap word_in e) ∙ is in cc)
  by_jump p q x has is (calls r f next arguments result g y er last e after) = absurd (let z : Calls f arguments result ≡ Transfer q = sym (ap word_in e) ∙ is in cc)
  by_jump p q x has is (returns r a g er last e) = absurd (let z : Returns a ≡ Transfer q = sym (ap word_in e) ∙ is in cc)
  by_jump p q x has is (ends k e) = absurd (let z : Ends k ≡ Transfer q = sym (ap word_in e) ∙ is in cc)

  by_test : (p test q : ℕ) (x : Dated) → slice_get (D m) p ≡ Some x → x.word ≡ Choice test q → Kind none m p x → IsEntered m q
  by_test p test q x has is (plans r w g word er ew at) = absurd (let a = plan_word none m p r w g word x er ew at has in let z : Planned r w a.0 ≡ Choice test q = sym a.1 ∙ is in cc)
  by_test p test q x has is (drains n left y e next cold of) = absurd (let z : Drain (suc n) ≡ Choice test q = sym (ap word_in e) ∙ is in cc)
  by_test p test q x has is (jumps jump is_edge e) = absurd (let z : Transfer (place_of m jump.to) ≡ Choice test q = sym (ap word_in e) ∙ is in cc)
  by_test p test q x has is (chooses r t c d g y er last e next) =
      let z : Choice t (place_of m c) ≡ Choice test q = sym (ap word_in e) ∙ is in
      block_entered c q (valid.leads (edge g.from c) (of_last r g er refl (subst (λ k. IsIn c (targets_of k)) (sym last) (inl refl)))) (cc)
  by_test p test q x has is (calls r f next arguments result g y er last e after) = absurd (let z : Calls f arguments result ≡ Choice test q = sym (ap word_in e) ∙ is in cc)
  by_test p test q x has is (returns r a g er last e) = absurd (let z : Returns a ≡ Choice test q = sym (ap word_in e) ∙ is in cc)
  by_test p test q x has is (ends k e) = absurd (let z : Ends k ≡ Choice test q = sym (ap word_in e) ∙ is in cc)

  entered : (q : ℕ) → 0 < length m.nodes → IsEntrance (L m) q → IsEntered m q
  entered q some (at_entry e) = block_entered 0 q (first_entered (slice_get m.nodes 0) refl some) e
  entered q some (by_transfer p e) = let s = source_of none m p (Transfer q) e in by_jump p q s.x s.has s.is (kind_of none m p s.x s.has)
  entered q some (by_choice p test e) = let s = source_of none m p (Choice test q) e in by_test p test q s.x s.has s.is (kind_of none m p s.x s.has)

pub entrance_law : EntranceLaw
entrance_law m valid done some q h = entered m valid done q some h
