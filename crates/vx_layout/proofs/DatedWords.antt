-- The words of a layout, each with the cycles that writes may still need when it is issued, and what stands where in them.
use Rattle.std.proofs.Common.{◌≡◌, ℕ, zero, suc, ◌+◌, ◌-◌, max, Option, Some, None, List, [], ◌∷◌, ◌++◌, length, map, slice_get, refl, ap, ◌∙◌}
use Rattle.std.proofs.lemmas.List.{map-append}
use Rattle.std.specs.Prelude.{◌==◌, if◌then◌else◌}
use Rattle.vx_flow.specs.declared.graph.Op.{Op}
use Rattle.vx_flow.specs.Effects.{writes}
use Rattle.vx_mixed.specs.declared.region.Item.{Item}
use Rattle.vx_mixed.specs.declared.region.Item.TheVariants.{Plain, Split}
use Rattle.vx_mixed.specs.declared.region.Region.{Region}
use Rattle.vx_mixed.specs.declared.layout.VirtualWord.{VirtualWord}
use Rattle.vx_mixed.specs.declared.layout.VirtualWord.TheVariants.{Planned, Drain, Transfer}
use Rattle.vx_mixed.specs.declared.mixed.MixedGraph.{MixedGraph}
use Rattle.vx_mixed.specs.Layout.{drain_words, leave_words, stub, word_stubs, stubs, exit_words, laid, laid_words, region_words, region_size, place_of, all_words}

pub record Dated : Type 0 where
  pub word : VirtualWord
  pub left : ℕ → ℕ

abbrev pub word_in : Dated → VirtualWord
word_in x = x.word

-- nothing is in flight
abbrev pub landed : VirtualWord → Dated
landed word = record { word = word; left = λ v. 0 }

abbrev pub waiting : ℕ → (ℕ → ℕ) → List Dated
waiting zero f = []
waiting (suc n) f = record { word = Drain (suc n); left = f } ∷ []

-- the empty cycles and the jump behind a split
abbrev pub dated_stub : (ℕ → ℕ) → (ℕ → ℕ) → Item → List Dated
dated_stub place f (Plain op cluster) = []
dated_stub place f (Split p y e d) = waiting d f ++ landed (Transfer (place e.to)) ∷ []

abbrev pub dated_word_stubs : (ℕ → ℕ) → (ℕ → ℕ) → List Item → List Dated
dated_word_stubs place f [] = []
dated_word_stubs place f (item ∷ items) = dated_stub place f item ++ dated_word_stubs place f items

-- the latency with which a word writes v
abbrev pub lands_in : List ℕ → ℕ → ℕ → ℕ
lands_in [] l v = 0
lands_in (u ∷ us) l v = if u == v then l else lands_in us l v

module _ (latency : Op → ℕ) where
  abbrev pub given_in : List Item → ℕ → ℕ
  given_in [] v = 0
  given_in (Plain op cluster ∷ items) v = max (lands_in (writes op) (latency op) v) (given_in items v)
  given_in (Split p y e d ∷ items) v = given_in items v

  abbrev pub given_at : Option (List Item) → ℕ → ℕ
  given_at None v = 0
  given_at (Some word) v = given_in word v

  -- how many cycles the words before word t leave for v
  abbrev pub left_before : List (List Item) → ℕ → ℕ → ℕ
  left_before words zero v = 0
  left_before words (suc t) v = max (left_before words t v) (given_at (slice_get words t) v) - 1

  abbrev pub dated_words : (r : ℕ) (all : List (List Item)) (w at : ℕ) → List (List Item) → List Dated
  dated_words r all w at [] = []
  dated_words r all w at (word ∷ words) = record { word = Planned r w (laid at word); left = left_before all w } ∷ dated_words r all (w + 1) (at + length (word_stubs (λ b. 0) word)) words

  abbrev pub dated_stubs : (ℕ → ℕ) → List (List Item) → ℕ → List (List Item) → List Dated
  dated_stubs place all w [] = []
  dated_stubs place all w (word ∷ words) = dated_word_stubs place (left_before all (suc w)) word ++ dated_stubs place all (w + 1) words

  abbrev pub dated_exit : (ℕ → ℕ) → Region → List Dated
  dated_exit place g = waiting g.drain (left_before g.words (length g.words)) ++ map landed (leave_words place g.last)

  abbrev pub dated_region : (ℕ → ℕ) → (r at : ℕ) → Region → List Dated
  dated_region place r at g = dated_words r g.words 0 (at + length g.words + length (exit_words place g)) g.words ++ (dated_exit place g ++ dated_stubs place g.words 0 g.words)

  abbrev pub dated_all : (ℕ → ℕ) → (r at : ℕ) → List Region → List Dated
  dated_all place r at [] = []
  dated_all place r at (g ∷ gs) = dated_region place r at g ++ dated_all place (r + 1) (at + region_size g) gs

-- they are the words of the layout

waiting_words : (n : ℕ) (f : ℕ → ℕ) → map word_in (waiting n f) ≡ drain_words n
waiting_words zero f = refl
waiting_words (suc n) f = refl

landed_words : (words : List VirtualWord) → map word_in (map landed words) ≡ words
landed_words [] = refl
landed_words (x ∷ xs) = ap (λ z. x ∷ z) (landed_words xs)

pub stub_words : (place f : ℕ → ℕ) (item : Item) → map word_in (dated_stub place f item) ≡ stub place item
stub_words place f (Plain op cluster) = refl
stub_words place f (Split p y e d) = map-append word_in (waiting d f) (landed (Transfer (place e.to)) ∷ []) ∙ ap (λ z. z ++ Transfer (place e.to) ∷ []) (waiting_words d f)

pub word_stub_words : (place f : ℕ → ℕ) (word : List Item) → map word_in (dated_word_stubs place f word) ≡ word_stubs place word
word_stub_words place f [] = refl
word_stub_words place f (item ∷ items) =
    map-append word_in (dated_stub place f item) (dated_word_stubs place f items) ∙ ap (λ z. z ++ map word_in (dated_word_stubs place f items)) (stub_words place f item) ∙ ap (λ z. stub place item ++ z) (word_stub_words place f items)

module _ (latency : Op → ℕ) where
  stubs_words : (place : ℕ → ℕ) (all : List (List Item)) (w : ℕ) (words : List (List Item)) → map word_in (dated_stubs latency place all w words) ≡ stubs place words
  stubs_words place all w [] = refl
  stubs_words place all w (word ∷ words) =
      map-append word_in (dated_word_stubs place (left_before latency all (suc w)) word) (dated_stubs latency place all (w + 1) words)
      ∙ ap (λ z. z ++ map word_in (dated_stubs latency place all (w + 1) words)) (word_stub_words place (left_before latency all (suc w)) word)
      ∙ ap (λ z. word_stubs place word ++ z) (stubs_words place all (w + 1) words)

  planned_words : (r : ℕ) (all : List (List Item)) (w at : ℕ) (words : List (List Item)) → map word_in (dated_words latency r all w at words) ≡ laid_words r w at words
  planned_words r all w at [] = refl
  planned_words r all w at (word ∷ words) = ap (λ z. Planned r w (laid at word) ∷ z) (planned_words r all (w + 1) (at + length (word_stubs (λ b. 0) word)) words)

  pub exit_is : (place : ℕ → ℕ) (g : Region) → map word_in (dated_exit latency place g) ≡ exit_words place g
  exit_is place g =
      let f = left_before latency g.words (length g.words) in
      map-append word_in (waiting g.drain f) (map landed (leave_words place g.last)) ∙ ap (λ z. z ++ map word_in (map landed (leave_words place g.last))) (waiting_words g.drain f) ∙ ap (λ z. drain_words g.drain ++ z) (landed_words (leave_words place g.last))

  pub region_is : (place : ℕ → ℕ) (r at : ℕ) (g : Region) → map word_in (dated_region latency place r at g) ≡ region_words place r at g
  region_is place r at g =
      let a = dated_words latency r g.words 0 (at + length g.words + length (exit_words place g)) g.words in
      let b = dated_exit latency place g in
      let c = dated_stubs latency place g.words 0 g.words in
      map-append word_in a (b ++ c) ∙ ap (λ z. z ++ map word_in (b ++ c)) (planned_words r g.words 0 (at + length g.words + length (exit_words place g)) g.words)
      ∙ ap (λ z. laid_words r 0 (at + length g.words + length (exit_words place g)) g.words ++ z) (map-append word_in b c ∙ ap (λ z. z ++ map word_in c) (exit_is place g) ∙ ap (λ z. exit_words place g ++ z) (stubs_words place g.words 0 g.words))

  pub all_is : (m : MixedGraph) (r at : ℕ) (gs : List Region) → map word_in (dated_all latency (place_of m) r at gs) ≡ all_words m r at gs
  all_is m r at [] = refl
  all_is m r at (g ∷ gs) =
      let a = dated_region latency (place_of m) r at g in
      let b = dated_all latency (place_of m) (r + 1) (at + region_size g) gs in
      map-append word_in a b ∙ ap (λ z. z ++ map word_in b) (region_is (place_of m) r at g) ∙ ap (λ z. region_words (place_of m) r at g ++ z) (all_is m (r + 1) (at + region_size g) gs)
