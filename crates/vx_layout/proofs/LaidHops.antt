-- A hop of a graph of which no block is left, as words of its layout: those of the region from the entrance on, and then the
-- way out of the first split that is taken, or the exit.
use Rattle.std.proofs.Common.{◌≡◌, ℕ, zero, suc, ◌+◌, ◌≤◌, ℤ, Bool, true, false, Option, Some, None, List, [], ◌∷◌, ◌++◌, length, map, drop, slice_get, refl, sym, ap, ◌∙◌, subst, arith}
use Rattle.std.specs.Prelude.{if◌then◌else◌}
use Rattle.vx_flow.specs.declared.graph.Op.{Op}
use Rattle.vx_flow.specs.declared.graph.Exit.{Exit}
use Rattle.vx_flow.specs.declared.graph.Exit.TheVariants.{Goto, Split as Branches, Call as Calling, Return as Returning, Ends as Ending}
use Rattle.vx_flow.specs.Effects.{Content, State, Setting, held, is_one, effect}
use Rattle.vx_flow.specs.Meaning.{Hop, Arrives, Calls, Leaves, Stops, Wrong, known, by_test, calls, leaves, leave, and_then}
use Rattle.vx_base.specs.declared.outcome.Trap.{Trap}
use Rattle.vx_mixed.specs.declared.region.Item.{Item}
use Rattle.vx_mixed.specs.declared.region.Item.TheVariants.{Plain, Split}
use Rattle.vx_mixed.specs.declared.region.Region.{Region}
use Rattle.vx_mixed.specs.declared.region.Node.{Node}
use Rattle.vx_mixed.specs.declared.region.Node.TheVariants.{Unused, Enters, Inner}
use Rattle.vx_mixed.specs.declared.layout.VirtualWord.{VirtualWord}
use Rattle.vx_mixed.specs.declared.layout.VirtualWord.TheVariants.{Planned, Drain, Transfer, Choice, Call, Return, Ends}
use Rattle.vx_mixed.specs.declared.layout.VWords.{VWords}
use Rattle.vx_mixed.specs.declared.mixed.MixedGraph.{MixedGraph}
use Rattle.vx_mixed.specs.Meaning.{into, word_effect, leaves_on, picked, Taken, Stays, Takes, Unsure, taken, after_word, early_words, in_region, node_hop, early_hop}
use Rattle.vx_mixed.specs.Valid.{Valid}
use Rattle.vx_mixed.specs.Layout.{drain_words, leave_words, stub, word_stubs, exit_words, laid, region_place, place_of_node, place_of, layout_of, IsDone}
use Rattle.vx_layout.specs.Laid.{laid_effect, laid_next, moves, moves_to, word_hop, some_word_hop, laid_hop}
use Rattle.vx_mixed.proofs.Standing.{StandsAt, stands_front, stands_back, stands_here, stands_next, stands_moved, stands_mapped, get_mapped}
use Rattle.vx_layout.proofs.DatedWords.{Dated, word_in, dated_exit, dated_word_stubs, left_before, exit_is, word_stub_words}
use Rattle.vx_layout.proofs.LayoutPlaces.{stub_size, word_stands, dated, dated_is, region_stands}

-- a planned word does what the word does
pub same_effect : (setting : Setting) (s : State) (at : ℕ) (word : List Item) (t : State) → laid_effect setting s (laid at word) t ≡ word_effect setting s word t
same_effect setting s at [] t = refl
same_effect setting s at (Plain op cluster ∷ items) t = by (effect setting s op t) (λ u. same_effect setting s at items u)
  where
    by : (o : Option State) → ((u : State) → laid_effect setting s (laid at items) u ≡ word_effect setting s items u) → into o (laid_effect setting s (laid at items)) ≡ into o (word_effect setting s items)
    by None h = refl
    by (Some u) h = h u
same_effect setting s at (Split p y e d ∷ items) t = same_effect setting s (at + length (stub (λ b. 0) (Split p y e d))) items t

-- words one after the other up to one that leaves by h
pub data Steps (go : ℕ → State → Hop) : ℕ → State → Hop → Type 0 where
  last : {b : ℕ} {s : State} {h : Hop} → go b s ≡ h → Steps go b s h
  on : {b from to : ℕ} {s t : State} {h : Hop} → go b s ≡ Arrives from to t → Steps go to t h → Steps go b s h

-- a region's hop and the last one of its words leave alike
pub data HopTied (l : VWords) (place : ℕ → ℕ) : Hop → Hop → Type 0 where
  arrives : {from to from' : ℕ} {s : State} → HopTied l place (Arrives from to s) (Arrives from' (suc (place to)) s)
  calls_too : {g from next p : ℕ} {arguments : List ℤ} {result : Option ℕ} {s : State} → slice_get l.words (suc p) ≡ Some (Transfer (place next)) → HopTied l place (Calls g arguments result from next s) (Calls g arguments result (suc p) (suc (suc p)) s)
  leaves_too : {n : ℤ} {s : State} → HopTied l place (Leaves n s) (Leaves n s)
  stops_too : {k : Trap} {s : State} → HopTied l place (Stops k s) (Stops k s)
  wrong : {h : Hop} → HopTied l place Wrong h

-- the same way out of a word
data SameWay (words : List VirtualWord) (place : ℕ → ℕ) (next : ℕ) : Taken → Option ℕ → Type 0 where
  stays : SameWay words place next Stays (Some next)
  unsure : SameWay words place next Unsure None
  takes : {from to d q : ℕ} → StandsAt words q (drain_words d ++ Transfer (place to) ∷ []) → SameWay words place next (Takes from to d) (Some q)

same_way : (words : List VirtualWord) (place : ℕ → ℕ) (s : State) (next at : ℕ) (word : List Item) → StandsAt words at (word_stubs place word) → SameWay words place next (taken s word) (laid_next s next (laid at word))
same_way words place s next at [] h = stays
same_way words place s next at (Plain op cluster ∷ items) h = same_way words place s next at items h
same_way words place s next at (Split p y e d ∷ items) h =
    let here = stub place (Split p y e d) in
    let more = at + length (stub (λ b. 0) (Split p y e d)) in
    by (leaves_on (s.values p) y) (stands_front words at here (word_stubs place items) h)
    (same_way words place s next more items (stands_moved words (at + length here) more (word_stubs place items) (ap (λ z. at + z) (stub_size place (λ b. 0) (Split p y e d))) (stands_back words at here (word_stubs place items) h)))
  where
    by : {x : Taken} {z : Option ℕ} → (o : Option Bool) → StandsAt words at (drain_words d ++ Transfer (place e.to) ∷ []) → SameWay words place next x z → SameWay words place next (picked o Unsure (Takes e.from e.to d) x) (picked o None (Some at) z)
    by None here rest = unsure
    by (Some true) here rest = takes here
    by (Some false) here rest = rest

-- the words of a region from word j on
record Tail (all : List (List Item)) (j : ℕ) (words : List (List Item)) : Type 0 where
  each : (k : ℕ) → slice_get words k ≡ slice_get all (j + k)
  count : j + length words ≡ length all

tail_of : (all : List (List Item)) (w : ℕ) → w ≤ length all → Tail all w (drop w all)
tail_of all zero h = record { each = λ k. let z : k ≡ 0 + k = omega arith in ap (slice_get all) z; count = omega arith }
tail_of [] (suc w) h = absurd (omega arith)
tail_of (x ∷ all) (suc w) h =
    let r = tail_of all w (omega arith) in
    record {
      each = λ k. let z : suc (w + k) ≡ suc w + k = omega arith in r.each k ∙ ap (slice_get (x ∷ all)) z;
      count = let c = r.count in omega arith;
    }

module _ (setting : Setting) (l : VWords) (place : ℕ → ℕ) where
  abbrev go : ℕ → State → Hop
  go b s = laid_hop setting l b s

  pub record Followed (b : ℕ) (s : State) (h : Hop) : Type 0 where
    pub way : Hop
    pub steps : Steps (laid_hop setting l) b s way
    pub tied : HopTied l place h way

  at_word : (p : ℕ) (word : VirtualWord) (s : State) → slice_get l.words p ≡ Some word → go (suc p) s ≡ word_hop setting p word s
  at_word p word s e = ap (λ o. some_word_hop setting p o s) e

  then_followed : (b from to : ℕ) (s t : State) (h : Hop) → go b s ≡ Arrives from to t → Followed to t h → Followed b s h
  then_followed b from to s t h e f = record { way = f.way; steps = on e f.steps; tied = f.tied }

  transfer : (q from to : ℕ) (s : State) → slice_get l.words q ≡ Some (Transfer (place to)) → Followed (suc q) s (Arrives from to s)
  transfer q from to s e = record { way = Arrives (suc q) (suc (place to)) s; steps = last (at_word q (Transfer (place to)) s e); tied = arrives }

  -- through the way out of a split
  stub_followed : (d q from to : ℕ) (s : State) → StandsAt l.words q (drain_words d ++ Transfer (place to) ∷ []) → Followed (suc q) s (Arrives from to s)
  stub_followed zero q from to s h = transfer q from to s (stands_here l.words q (Transfer (place to)) [] h)
  stub_followed (suc n) q from to s h =
      then_followed (suc q) (suc q) (suc (suc q)) s s (Arrives from to s) (at_word q (Drain (suc n)) s (stands_here l.words q (Drain (suc n)) (Transfer (place to) ∷ []) h))
      (transfer (suc q) from to s (stands_here l.words (suc q) (Transfer (place to)) [] (stands_next l.words q (Drain (suc n)) (Transfer (place to) ∷ []) h)))

  leave_followed : (from q : ℕ) (x : Exit) (s : State) → StandsAt l.words q (leave_words place x) → Followed (suc q) s (leave from x s)
  leave_followed from q (Goto c) s h = transfer q from c s (stands_here l.words q (Transfer (place c)) [] h)
  leave_followed from q (Branches p c d) s h =
      by (s.values p) (at_word q (Choice p (place c)) s (stands_here l.words q (Choice p (place c)) (Transfer (place d) ∷ []) h)) (stands_here l.words (suc q) (Transfer (place d)) [] (stands_next l.words q (Choice p (place c)) (Transfer (place d) ∷ []) h))
    where
      way : (one : Bool) → go (suc q) s ≡ (if one then moves q (place c) s else moves q (suc q) s) → slice_get l.words (suc q) ≡ Some (Transfer (place d)) → Followed (suc q) s (if one then Arrives from c s else Arrives from d s)
      way true e f = record { way = moves q (place c) s; steps = last e; tied = arrives }
      way false e f = then_followed (suc q) (suc q) (suc (suc q)) s s (Arrives from d s) e (transfer (suc q) from d s f)

      by : (v : Content) → go (suc q) s ≡ by_test v (moves q (place c) s) (moves q (suc q) s) → slice_get l.words (suc q) ≡ Some (Transfer (place d)) → Followed (suc q) s (by_test v (Arrives from c s) (Arrives from d s))
      by None e f = record { way = Wrong; steps = last e; tied = wrong }
      by (Some z) e f = way (is_one z) e f
  leave_followed from q (Calling g arguments result next) s h =
      by (known (map (held s) arguments)) (at_word q (Call g arguments result) s (stands_here l.words q (Call g arguments result) (Transfer (place next) ∷ []) h)) (stands_here l.words (suc q) (Transfer (place next)) [] (stands_next l.words q (Call g arguments result) (Transfer (place next) ∷ []) h))
    where
      by : (o : Option (List ℤ)) → go (suc q) s ≡ calls g o result (suc q) (suc (suc q)) s → slice_get l.words (suc q) ≡ Some (Transfer (place next)) → Followed (suc q) s (calls g o result from next s)
      by None e f = record { way = Wrong; steps = last e; tied = wrong }
      by (Some ns) e f = record { way = Calls g ns result (suc q) (suc (suc q)) s; steps = last e; tied = calls_too f }
  leave_followed from q (Returning x) s h = by (held s x) (at_word q (Return x) s (stands_here l.words q (Return x) [] h))
    where
      by : (v : Content) → go (suc q) s ≡ leaves v s → Followed (suc q) s (leaves v s)
      by None e = record { way = Wrong; steps = last e; tied = wrong }
      by (Some n) e = record { way = Leaves n s; steps = last e; tied = leaves_too }
  leave_followed from q (Ending k) s h = record { way = Stops k s; steps = last (at_word q (Ends k) s (stands_here l.words q (Ends k) [] h)); tied = stops_too }

  exit_followed : (g : Region) (q : ℕ) (s : State) → (n : ℕ) → StandsAt l.words q (drain_words n ++ leave_words place g.last) → Followed (suc q) s (leave g.from g.last s)
  exit_followed g q s zero h = leave_followed g.from q g.last s h
  exit_followed g q s (suc n) h =
      then_followed (suc q) (suc q) (suc (suc q)) s s (leave g.from g.last s) (at_word q (Drain (suc n)) s (stands_here l.words q (Drain (suc n)) (leave_words place g.last) h))
      (leave_followed g.from (suc q) g.last s (stands_next l.words q (Drain (suc n)) (leave_words place g.last) h))

  record PlannedAt (q : ℕ) (word : List Item) : Type 0 where
    region : ℕ
    number : ℕ
    at : ℕ
    is : slice_get l.words q ≡ Some (Planned region number (laid at word))
    stubs : StandsAt l.words at (word_stubs place word)

  module _ (p : ℕ) (g : Region) (planned : (w : ℕ) (word : List Item) → slice_get g.words w ≡ Some word → PlannedAt (p + w) word) (exit : StandsAt l.words (p + length g.words) (exit_words place g)) where
    word_followed : (q : ℕ) (word : List Item) (words : List (List Item)) (s : State) (o : Option State) (k : Taken) (n : Option ℕ) → SameWay l.words place (suc q) k n → go (suc q) s ≡ and_then o (moves_to q n) →
        ((t : State) → Followed (suc (suc q)) t (early_words setting g words t)) → Followed (suc q) s (after_word o k (early_words setting g words))
    word_followed q word words s None k n way e rest = record { way = Wrong; steps = last e; tied = wrong }
    word_followed q word words s (Some t) k n stays e rest = then_followed (suc q) (suc q) (suc (suc q)) s t (early_words setting g words t) e (rest t)
    word_followed q word words s (Some t) k n unsure e rest = record { way = Wrong; steps = last e; tied = wrong }
    word_followed q word words s (Some t) k n (takes {from = from} {to = to} {d = d} {q = q'} h) e rest = then_followed (suc q) (suc q) (suc q') s t (Arrives from to t) e (stub_followed d q' from to t h)

    words_followed : (words : List (List Item)) (w : ℕ) (s : State) → Tail g.words w words → Followed (suc (p + w)) s (early_words setting g words s)
    words_followed [] w s tail =
        let c = tail.count in
        let z : p + length g.words ≡ p + w = omega arith in
        exit_followed g (p + w) s g.drain (stands_moved l.words (p + length g.words) (p + w) (exit_words place g) z exit)
    words_followed (word ∷ words) w s tail =
        let z : w + 0 ≡ w = omega arith in
        let here : PlannedAt (p + w) word = planned w word (ap (slice_get g.words) (sym z) ∙ sym (tail.each 0)) in
        let q = p + w in
        let next : Tail g.words (w + 1) words = record {
          each = λ k. let a : w + suc k ≡ w + 1 + k = omega arith in tail.each (suc k) ∙ ap (slice_get g.words) a;
          count = let c = tail.count in omega arith;
        } in
        let b : p + (w + 1) ≡ suc (p + w) = omega arith in
        word_followed q word words s (word_effect setting s word s) (taken s word) (laid_next s (suc q) (laid here.at word)) (same_way l.words place s (suc q) here.at word here.stubs)
        (at_word q (Planned here.region here.number (laid here.at word)) s here.is ∙ ap (λ o. and_then o (moves_to q (laid_next s (suc q) (laid here.at word)))) (same_effect setting s here.at word s))
        (λ t. subst (λ y. Followed (suc y) t (early_words setting g words t)) b (words_followed words (w + 1) t next))

-- from each block's place
module _ (latency : Op → ℕ) (m : MixedGraph) (valid : Valid m) (done : IsDone m) (setting : Setting) where
  abbrev L : VWords
  L = layout_of m

  to_words : (q : ℕ) (part : List Dated) (words : List VirtualWord) → map word_in part ≡ words → StandsAt (dated latency m) q part → StandsAt L.words q words
  to_words q part words e h = subst (λ z. StandsAt z q words) (dated_is latency m) (subst (λ z. StandsAt (map word_in (dated latency m)) q z) e (stands_mapped word_in (dated latency m) q part h))

  region_followed : (r w : ℕ) (g : Region) (s : State) → slice_get m.regions r ≡ Some g → w ≤ length g.words → Followed setting L (place_of m) (suc (region_place m.regions r + w)) s (early_words setting g (drop w g.words) s)
  region_followed r w g s e le =
      let at = region_stands latency m r g e in
      let p = region_place m.regions r in
      words_followed setting L (place_of m) p g
      (λ i word f.
      let x = word_stands latency (place_of m) (dated latency m) r p g at i word f in
      record {
        region = r;
        number = i;
        at = x.at;
        is = ap (λ z. slice_get z (p + i)) (sym (dated_is latency m)) ∙ get_mapped word_in (dated latency m) (p + i) (record { word = Planned r i (laid x.at word); left = left_before latency g.words i }) x.is;
        stubs = to_words x.at (dated_word_stubs (place_of m) (left_before latency g.words (suc i)) word) (word_stubs (place_of m) word) (word_stub_words (place_of m) (left_before latency g.words (suc i)) word) x.stubs;
      })
      (to_words (p + length g.words) (dated_exit latency (place_of m) g) (exit_words (place_of m) g) (exit_is latency (place_of m) g) at.exit)
      (drop w g.words) w s (tail_of g.words w le)

  block_followed : (b : ℕ) (s : State) (o : Option Node) → slice_get m.nodes b ≡ o → Followed setting L (place_of m) (suc (place_of_node m.regions o)) s (node_hop setting (early_words setting) m b o s)
  block_followed b s None e = record { way = laid_hop setting L (suc 0) s; steps = last refl; tied = wrong }
  block_followed b s (Some (Unused block)) e = absurd (done b block e)
  block_followed b s (Some Inner) e = record { way = laid_hop setting L (suc 0) s; steps = last refl; tied = wrong }
  block_followed b s (Some (Enters r w)) e =
      let x = valid.enters b r w e in
      subst (λ o. Followed setting L (place_of m) (suc (region_place m.regions r + w)) s (in_region (early_words setting) w o s)) (sym x.1) (region_followed r w x.0 s x.1 x.2)

  pub hop_followed : (b : ℕ) (s : State) → Followed setting L (place_of m) (suc (place_of m b)) s (early_hop setting m b s)
  hop_followed b s = block_followed b s (slice_get m.nodes b) refl

  -- and from the start of the function
  pub start_followed : (s : State) → Followed setting L (place_of m) 0 s (early_hop setting m 0 s)
  start_followed s = then_followed setting L (place_of m) 0 0 (suc L.entry) s s (early_hop setting m 0 s) refl (hop_followed 0 s)
