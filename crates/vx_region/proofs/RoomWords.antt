-- The words of a region have the room that the placement of its trace has found.
use Rattle.std.proofs.Common.{◌≡◌, ℕ, suc, ◌+◌, ◌<◌, Bool, true, false, Some, List, [], ◌∷◌, ◌++◌, length, map, drop, slice_get, slice_index_or, refl, sym, ap, ◌∙◌, arith}
use Rattle.std.specs.Prelude.{◌==◌, nat_eq, nat_le, if◌then◌else◌}
use Rattle.std.specs.List.{filter, flat_map, list_any}
use Rattle.vx_flow.specs.declared.graph.Edge.{Edge}
use Rattle.vx_flow.specs.declared.graph.Op.{Op}
use Rattle.vx_flow.specs.declared.graph.Op.TheVariants.{Load}
use Rattle.vx_flow.specs.declared.trace.TraceOp.{TraceOp}
use Rattle.vx_flow.specs.declared.trace.TraceOp.TheVariants.{Plain as TracePlain, Split as TraceSplit}
use Rattle.vx_flow.specs.declared.trace.Homes.{Homes}
use Rattle.vx_flow.specs.Effects.{dismissed}
use Rattle.vx_flow.specs.Walk.{numbers}
use Rattle.vx_isa.specs.Numbers.{Numbers}
use Rattle.vx_room.specs.declared.items.Item.TheVariants.{Plain as PlainItem}
use Rattle.vx_room.specs.declared.items.ClusteredItem.{ClusteredItem}
use Rattle.vx_room.specs.Room.{has_room}
use Rattle.vx_mixed.specs.declared.region.Item.{Item}
use Rattle.vx_mixed.specs.declared.region.Item.TheVariants.{Plain, Split}
use Rattle.vx_mixed.specs.Next.{InWord, freed, placed, in_word}
use Rattle.vx_dep.specs.Compensation.{word_at}
use Rattle.vx_sched.specs.Placement.{item_there}
use Rattle.vx_region.specs.Regions.{item_in}
use Rattle.vx_region.proofs.RoomAlike.{erased, room_alike}

-- dismissed once more

dismissed_again : (b : Bool) (op : Op) → dismissed (if b then dismissed op else op) ≡ dismissed op
dismissed_again false op = refl
dismissed_again true (Load v a p d) = refl
dismissed_again true op = refl

map_append : {A B : Type 0} (f : A → B) (xs ys : List A) → map f (xs ++ ys) ≡ map f xs ++ map f ys
map_append f [] ys = refl
map_append f (x ∷ xs) ys = ap (λ z. f x ∷ z) (map_append f xs ys)

-- a split stands on cluster 0
abbrev pub SplitsFirst : List TraceOp → List ℕ → Type 0
SplitsFirst ops clusters = (i p : ℕ) (y : Bool) (e : Edge) (live : List ℕ) → slice_get ops i ≡ Some (TraceSplit p y e live) → slice_index_or clusters i 0 ≡ 0

module _ (whole : List ℕ) (Ops : List TraceOp) (Clusters : List ℕ) (to : ℕ → ℕ → ℕ) (w : ℕ) where
  abbrev pub item_at : ℕ → List ClusteredItem
  item_at i = item_there (slice_index_or Clusters i 0) (slice_get Ops i)

  abbrev pub in_this : ℕ → Bool
  in_this i = nat_eq (word_at whole i) w

  abbrev pub Found : ℕ → ℕ → List ClusteredItem
  Found b n = flat_map item_at (filter in_this (numbers b n))

  abbrev pub Put : List InWord → List ClusteredItem
  Put items = map erased (map item_in (in_word items w))

  step : (v : ℕ) (item : Item) (rest : List InWord) (b n : ℕ) → v ≡ word_at whole b → map erased (item_in item ∷ []) ≡ map erased (item_at b) → Put rest ≡ map erased (Found (b + 1) n) → Put (record { word = v; item = item } ∷ rest) ≡ map erased (Found b (suc n))
  step v item rest b n e same more = by (nat_eq v w) refl
    where
      there : nat_eq v w ≡ in_this b
      there = ap (λ z. nat_eq z w) e

      by : (t : Bool) → nat_eq v w ≡ t → Put (record { word = v; item = item } ∷ rest) ≡ map erased (Found b (suc n))
      by true q =
          ap (λ t. map erased (map item_in (map (λ (i : InWord). i.item) (if t then record { word = v; item = item } ∷ filter (λ (i : InWord). i.word == w) rest else filter (λ (i : InWord). i.word == w) rest)))) q
          ∙ ap (λ z. map erased (item_in item ∷ []) ++ z) more
          ∙ ap (λ z. z ++ map erased (Found (b + 1) n)) same
          ∙ sym (map_append erased (item_at b) (Found (b + 1) n))
          ∙ ap (λ t. map erased (flat_map item_at (if t then b ∷ filter in_this (numbers (b + 1) n) else filter in_this (numbers (b + 1) n)))) (sym (sym there ∙ q))
      by false q =
          ap (λ t. map erased (map item_in (map (λ (i : InWord). i.item) (if t then record { word = v; item = item } ∷ filter (λ (i : InWord). i.word == w) rest else filter (λ (i : InWord). i.word == w) rest)))) q
          ∙ more
          ∙ ap (λ t. map erased (flat_map item_at (if t then b ∷ filter in_this (numbers (b + 1) n) else filter in_this (numbers (b + 1) n)))) (sym (sym there ∙ q))

  here : (b cluster : ℕ) (op : TraceOp) → slice_get Ops b ≡ Some op → cluster ≡ slice_index_or Clusters b 0 → map erased (item_there cluster (Some op)) ≡ map erased (item_at b)
  here b cluster op at is = ap (λ z. map erased (item_there cluster z)) (sym at) ∙ ap (λ z. map erased (item_there z (slice_get Ops b))) is

  -- the items that are put into word w are those of its places
  pub words_found : SplitsFirst Ops Clusters → (ops : List TraceOp) (cs ws ds above : List ℕ) (b : ℕ) → length cs ≡ length ops → length ws ≡ length ops → ((k : ℕ) → k < length ops → slice_get Ops (b + k) ≡ slice_get ops k) →
      ((k : ℕ) → k < length ops → slice_index_or cs k 0 ≡ slice_index_or Clusters (b + k) 0) → ((k : ℕ) → k < length ops → slice_index_or ws k 0 ≡ word_at whole (b + k)) →
      Put (placed to ops cs ws ds above) ≡ map erased (Found b (length ops))
  words_found first [] cs ws ds above b c n at stands there = refl
  words_found first (op ∷ ops) [] ws ds above b c n at stands there = absurd (omega (arith, c))
  words_found first (op ∷ ops) (x ∷ cs) [] ds above b c n at stands there = absurd (omega (arith, n))
  words_found first (TracePlain op ∷ ops) (x ∷ cs) (v ∷ ws) ds above b c n at stands there =
      let z : b + 0 ≡ b = omega arith in
      let is : slice_get Ops b ≡ Some (TracePlain op) = ap (slice_get Ops) (sym z) ∙ at 0 (omega arith) in
      let word : v ≡ word_at whole b = there 0 (omega arith) ∙ ap (word_at whole) z in
      let cluster : x ≡ slice_index_or Clusters b 0 = stands 0 (omega arith) ∙ ap (λ i. slice_index_or Clusters i 0) z in
      let same : map erased (item_in (Plain (freed v above op) x) ∷ []) ≡ map erased (item_at b) =
      ap (λ o. record { cluster = x; item = PlainItem o } ∷ []) (dismissed_again (list_any (λ s. nat_le v s) above) op) ∙ here b x (TracePlain op) is cluster in
      step v (Plain (freed v above op) x) (placed to ops cs ws ds above) b (length ops) word same
      (words_found first ops cs ws ds above (b + 1) (omega (arith, c)) (omega (arith, n))
      (λ k lt. let q : b + 1 + k ≡ b + suc k = omega arith in ap (slice_get Ops) q ∙ at (suc k) (omega (arith, lt)))
      (λ k lt. let q : b + 1 + k ≡ b + suc k = omega arith in stands (suc k) (omega (arith, lt)) ∙ ap (λ i. slice_index_or Clusters i 0) (sym q))
      (λ k lt. let q : b + 1 + k ≡ b + suc k = omega arith in there (suc k) (omega (arith, lt)) ∙ ap (word_at whole) (sym q)))
  words_found first (TraceSplit p y e live ∷ ops) (x ∷ cs) (v ∷ ws) ds above b c n at stands there =
      let z : b + 0 ≡ b = omega arith in
      let is : slice_get Ops b ≡ Some (TraceSplit p y e live) = ap (slice_get Ops) (sym z) ∙ at 0 (omega arith) in
      let word : v ≡ word_at whole b = there 0 (omega arith) ∙ ap (word_at whole) z in
      step v (Split p y (record e { to = to e.from e.to }) (slice_index_or ds 0 0)) (placed to ops cs ws (drop 1 ds) (v ∷ above)) b (length ops) word (here b 0 (TraceSplit p y e live) is (sym (first b p y e live is)))
      (words_found first ops cs ws (drop 1 ds) (v ∷ above) (b + 1) (omega (arith, c)) (omega (arith, n))
      (λ k lt. let q : b + 1 + k ≡ b + suc k = omega arith in ap (slice_get Ops) q ∙ at (suc k) (omega (arith, lt)))
      (λ k lt. let q : b + 1 + k ≡ b + suc k = omega arith in stands (suc k) (omega (arith, lt)) ∙ ap (λ i. slice_index_or Clusters i 0) (sym q))
      (λ k lt. let q : b + 1 + k ≡ b + suc k = omega arith in there (suc k) (omega (arith, lt)) ∙ ap (word_at whole) (sym q)))

-- so they have room
pub words_have_room : (m : Numbers) (homes : Homes) (ops : List TraceOp) (clusters words drains : List ℕ) (to : ℕ → ℕ → ℕ) (w : ℕ) → length clusters ≡ length ops → length words ≡ length ops → SplitsFirst ops clusters →
    has_room m homes (flat_map (λ i. item_there (slice_index_or clusters i 0) (slice_get ops i)) (filter (λ i. nat_eq (word_at words i) w) (numbers 0 (length words)))) ≡ true →
    has_room m homes (map item_in (in_word (placed to ops clusters words drains []) w)) ≡ true
words_have_room m homes ops clusters words drains to w each many first room =
    let put = map item_in (in_word (placed to ops clusters words drains []) w) in
    let items : List ClusteredItem = flat_map (λ i. item_there (slice_index_or clusters i 0) (slice_get ops i)) (filter (λ i. nat_eq (word_at words i) w) (numbers 0 (length ops))) in
    let same : map erased put ≡ map erased items = words_found words ops clusters to w first ops clusters words drains [] 0 each many (λ k lt. let z : 0 + k ≡ k = omega arith in ap (slice_get ops) z) (λ k lt. let z : k ≡ 0 + k = omega arith in ap (λ i. slice_index_or clusters i 0) z) (λ k lt. let z : k ≡ 0 + k = omega arith in ap (word_at words) z) in
    let found : has_room m homes items ≡ true = ap (λ n. has_room m homes (flat_map (λ i. item_there (slice_index_or clusters i 0) (slice_get ops i)) (filter (λ i. nat_eq (word_at words i) w) (numbers 0 n)))) (sym many) ∙ room in
    sym (room_alike m homes put) ∙ ap (has_room m homes) same ∙ room_alike m homes items ∙ found
