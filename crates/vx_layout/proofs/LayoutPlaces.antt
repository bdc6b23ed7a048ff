-- Which word of a layout stands where: each region's words from its place on, behind them its exit, and the ways out of its
-- splits where the splits say.
use Rattle.std.proofs.Common.{◌≡◌, ℕ, zero, suc, ◌+◌, Some, List, [], ◌∷◌, ◌++◌, length, map, slice_get, refl, sym, ap, ◌∙◌, subst, arith, length-append}
use Rattle.std.proofs.lemmas.List.{length-map}
use Rattle.vx_flow.specs.declared.graph.Op.{Op}
use Rattle.vx_flow.specs.declared.graph.Exit.{Exit}
use Rattle.vx_flow.specs.declared.graph.Exit.TheVariants.{Goto, Split as Branches, Call as Calling, Return as Returning, Ends as Ending}
use Rattle.vx_mixed.specs.declared.region.Item.{Item}
use Rattle.vx_mixed.specs.declared.region.Item.TheVariants.{Plain, Split}
use Rattle.vx_mixed.specs.declared.region.Region.{Region}
use Rattle.vx_mixed.specs.declared.layout.VirtualWord.TheVariants.{Planned}
use Rattle.vx_mixed.specs.declared.mixed.MixedGraph.{MixedGraph}
use Rattle.vx_mixed.specs.Layout.{drain_words, leave_words, stub, word_stubs, stubs, exit_words, laid, region_size, region_place, place_of, all_words}
use Rattle.vx_mixed.proofs.Standing.{StandsAt, stands_front, stands_back, stands_here, stands_next, stands_moved, stands_whole}
use Rattle.vx_layout.proofs.DatedWords.{Dated, word_in, dated_stub, dated_word_stubs, left_before, dated_words, dated_stubs, dated_exit, dated_region, dated_all, stub_words, word_stub_words, exit_is, all_is}

-- lengths do not depend on places

leave_size : (place other : ℕ → ℕ) (x : Exit) → length (leave_words place x) ≡ length (leave_words other x)
leave_size place other (Goto c) = refl
leave_size place other (Branches p c d) = refl
leave_size place other (Calling g arguments result next) = refl
leave_size place other (Returning x) = refl
leave_size place other (Ending k) = refl

pub exit_size : (place other : ℕ → ℕ) (g : Region) → length (exit_words place g) ≡ length (exit_words other g)
exit_size place other g =
    let a = length-append (drain_words g.drain) (leave_words place g.last) in
    let b = length-append (drain_words g.drain) (leave_words other g.last) in
    let c = leave_size place other g.last in
    omega arith

pub stub_size : (place other : ℕ → ℕ) (item : Item) → length (stub place item) ≡ length (stub other item)
stub_size place other (Plain op cluster) = refl
stub_size place other (Split p y e zero) = refl
stub_size place other (Split p y e (suc d)) = refl

pub word_stubs_size : (place other : ℕ → ℕ) (word : List Item) → length (word_stubs place word) ≡ length (word_stubs other word)
word_stubs_size place other [] = refl
word_stubs_size place other (item ∷ items) =
    let a = length-append (stub place item) (word_stubs place items) in
    let b = length-append (stub other item) (word_stubs other items) in
    let c = stub_size place other item in
    let d = word_stubs_size place other items in
    omega arith

pub dated_word_stubs_size : (place f : ℕ → ℕ) (word : List Item) → length (dated_word_stubs place f word) ≡ length (word_stubs (λ b. 0) word)
dated_word_stubs_size place f word = sym (length-map (dated_word_stubs place f word) word_in) ∙ ap length (word_stub_words place f word) ∙ word_stubs_size place (λ b. 0) word

pub dated_stub_size : (place f : ℕ → ℕ) (item : Item) → length (dated_stub place f item) ≡ length (stub (λ b. 0) item)
dated_stub_size place f item = sym (length-map (dated_stub place f item) word_in) ∙ ap length (stub_words place f item) ∙ stub_size place (λ b. 0) item

module _ (latency : Op → ℕ) (place : ℕ → ℕ) where
  pub dated_exit_size : (g : Region) → length (dated_exit latency place g) ≡ length (exit_words (λ b. 0) g)
  dated_exit_size g = sym (length-map (dated_exit latency place g) word_in) ∙ ap length (exit_is latency place g) ∙ exit_size place (λ b. 0) g

  dated_stubs_size : (all : List (List Item)) (w : ℕ) (words : List (List Item)) → length (dated_stubs latency place all w words) ≡ length (stubs (λ b. 0) words)
  dated_stubs_size all w [] = refl
  dated_stubs_size all w (word ∷ words) =
      let f = left_before latency all (suc w) in
      let a = length-append (dated_word_stubs place f word) (dated_stubs latency place all (w + 1) words) in
      let b = length-append (word_stubs (λ b. 0) word) (stubs (λ b. 0) words) in
      let c = dated_word_stubs_size place f word in
      let d = dated_stubs_size all (w + 1) words in
      omega arith

  pub dated_words_size : (r : ℕ) (all : List (List Item)) (w at : ℕ) (words : List (List Item)) → length (dated_words latency r all w at words) ≡ length words
  dated_words_size r all w at [] = refl
  dated_words_size r all w at (word ∷ words) = ap suc (dated_words_size r all (w + 1) (at + length (word_stubs (λ b. 0) word)) words)

  pub dated_region_size : (r at : ℕ) (g : Region) → length (dated_region latency place r at g) ≡ region_size g
  dated_region_size r at g =
      let s = at + length g.words + length (exit_words place g) in
      let a = length-append (dated_words latency r g.words 0 s g.words) (dated_exit latency place g ++ dated_stubs latency place g.words 0 g.words) in
      let b = length-append (dated_exit latency place g) (dated_stubs latency place g.words 0 g.words) in
      let c = dated_words_size r g.words 0 s g.words in
      let d = dated_exit_size g in
      let e = dated_stubs_size g.words 0 g.words in
      omega arith

  module _ (whole : List Dated) where
    -- region r stands from place p on, with its stubs from another one on
    pub record RegionAt (r p : ℕ) (g : Region) : Type 0 where
      pub at : ℕ
      pub words : StandsAt whole p (dated_words latency r g.words 0 at g.words)
      pub exit : StandsAt whole (p + length g.words) (dated_exit latency place g)
      pub stubs : StandsAt whole at (dated_stubs latency place g.words 0 g.words)
      pub behind : at ≡ p + length g.words + length (exit_words place g)

    first_region : (r p : ℕ) (g : Region) → StandsAt whole p (dated_region latency place r p g) → RegionAt r p g
    first_region r p g h =
        let s = p + length g.words + length (exit_words place g) in
        let a = dated_words latency r g.words 0 s g.words in
        let b = dated_exit latency place g in
        let c = dated_stubs latency place g.words 0 g.words in
        let n : length a ≡ length g.words = dated_words_size r g.words 0 s g.words in
        let k : length b ≡ length (exit_words place g) = dated_exit_size g ∙ exit_size (λ b. 0) place g in
        let rest : StandsAt whole (p + length a) (b ++ c) = stands_back whole p a (b ++ c) h in
        record {
          at = s;
          words = stands_front whole p a (b ++ c) h;
          exit = stands_moved whole (p + length a) (p + length g.words) b (ap (λ z. p + z) n) (stands_front whole (p + length a) b c rest);
          stubs = stands_moved whole (p + length a + length b) s c (ap (λ z. p + z + length b) n ∙ ap (λ z. p + length g.words + z) k) (stands_back whole (p + length a) b c rest);
          behind = refl;
        }

    region_moved : (r r' p p' : ℕ) (g : Region) → r ≡ r' → p ≡ p' → RegionAt r p g → RegionAt r' p' g
    region_moved r r' p p' g e f h = subst (λ z. RegionAt z p' g) e (subst (λ z. RegionAt r z g) f h)

    regions_stand : (r p : ℕ) (gs : List Region) → StandsAt whole p (dated_all latency place r p gs) → (i : ℕ) (g : Region) → slice_get gs i ≡ Some g → RegionAt (r + i) (p + region_place gs i) g
    regions_stand r p [] h i g e = absurd (cc)
    regions_stand r p (x ∷ gs) h zero g e =
        let q : x ≡ g = cc in
        let a : r ≡ r + 0 = omega arith in
        let b : p ≡ p + 0 = omega arith in
        subst (λ z. RegionAt (r + 0) (p + 0) z) q (region_moved r (r + 0) p (p + 0) x a b (first_region r p x (stands_front whole p (dated_region latency place r p x) (dated_all latency place (r + 1) (p + region_size x) gs) h)))
    regions_stand r p (x ∷ gs) h (suc i) g e =
        let d = dated_region latency place r p x in
        let rest = dated_all latency place (r + 1) (p + region_size x) gs in
        let a : r + 1 + i ≡ r + suc i = omega arith in
        let b : p + region_size x + region_place gs i ≡ p + (region_size x + region_place gs i) = omega arith in
        let more = regions_stand (r + 1) (p + region_size x) gs (stands_moved whole (p + length d) (p + region_size x) rest (ap (λ z. p + z) (dated_region_size r p x)) (stands_back whole p d rest h)) i g e in
        region_moved (r + 1 + i) (r + suc i) (p + region_size x + region_place gs i) (p + (region_size x + region_place gs i)) g a b more

    -- a word of a region, and the ways out of its splits
    pub record WordAt (r p w : ℕ) (all : List (List Item)) (word : List Item) : Type 0 where
      pub at : ℕ
      pub is : slice_get whole (p + w) ≡ Some (record { word = Planned r w (laid at word); left = left_before latency all w })
      pub stubs : StandsAt whole at (dated_word_stubs place (left_before latency all (suc w)) word)

    words_stand : (r p : ℕ) (all : List (List Item)) (w at : ℕ) (words : List (List Item)) → StandsAt whole (p + w) (dated_words latency r all w at words) → StandsAt whole at (dated_stubs latency place all w words) → (k : ℕ) (word : List Item) → slice_get words k ≡ Some word → WordAt r p (w + k) all word
    words_stand r p all w at [] h f k word e = absurd (cc)
    words_stand r p all w at (x ∷ words) h f zero word e =
        let q : x ≡ word = cc in
        let a : w ≡ w + 0 = omega arith in
        let here : WordAt r p w all x = record {
          at = at;
          is = stands_here whole (p + w) (record { word = Planned r w (laid at x); left = left_before latency all w }) (dated_words latency r all (w + 1) (at + length (word_stubs (λ b. 0) x)) words) h;
          stubs = stands_front whole at (dated_word_stubs place (left_before latency all (suc w)) x) (dated_stubs latency place all (w + 1) words) f;
        } in
        subst (λ z. WordAt r p z all word) a (subst (λ z. WordAt r p w all z) q here)
    words_stand r p all w at (x ∷ words) h f (suc k) word e =
        let s = at + length (word_stubs (λ b. 0) x) in
        let d = dated_word_stubs place (left_before latency all (suc w)) x in
        let a : w + 1 + k ≡ w + suc k = omega arith in
        let b : suc (p + w) ≡ p + (w + 1) = omega arith in
        let rest = dated_words latency r all (w + 1) s words in
        let more = dated_stubs latency place all (w + 1) words in
        subst (λ z. WordAt r p z all word) a
        (words_stand r p all (w + 1) s words
        (stands_moved whole (suc (p + w)) (p + (w + 1)) rest b (stands_next whole (p + w) (record { word = Planned r w (laid at x); left = left_before latency all w }) rest h))
        (stands_moved whole (at + length d) s more (ap (λ z. at + z) (dated_word_stubs_size place (left_before latency all (suc w)) x)) (stands_back whole at d more f))
        k word e)

    pub word_stands : (r p : ℕ) (g : Region) → RegionAt r p g → (w : ℕ) (word : List Item) → slice_get g.words w ≡ Some word → WordAt r p w g.words word
    word_stands r p g h w word e =
        let a : 0 + w ≡ w = omega arith in
        let b : p ≡ p + 0 = omega arith in
        subst (λ z. WordAt r p z g.words word) a (words_stand r p g.words 0 h.at g.words (stands_moved whole p (p + 0) (dated_words latency r g.words 0 h.at g.words) b h.words) h.stubs w word e)

-- the layout of a graph

module _ (latency : Op → ℕ) (m : MixedGraph) where
  abbrev pub dated : List Dated
  dated = dated_all latency (place_of m) 0 0 m.regions

  pub dated_is : map word_in dated ≡ all_words m 0 0 m.regions
  dated_is = all_is latency m 0 0 m.regions

  pub region_stands : (r : ℕ) (g : Region) → slice_get m.regions r ≡ Some g → RegionAt latency (place_of m) dated r (region_place m.regions r) g
  region_stands r g e =
      let a : 0 + r ≡ r = omega arith in
      let b : 0 + region_place m.regions r ≡ region_place m.regions r = omega arith in
      region_moved latency (place_of m) dated (0 + r) r (0 + region_place m.regions r) (region_place m.regions r) g a b (regions_stand latency (place_of m) dated 0 0 m.regions (stands_whole dated) r g e)
