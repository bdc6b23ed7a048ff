-- What is live on the routes of a graph of blocks and regions is live in it.
use Rattle.std.proofs.Common.{◌≡◌, ℕ, zero, suc, ◌+◌, ◌<◌, ◌≤◌, true, Some, None, List, [], ◌∷◌, length, map, drop, slice_get, refl, sym, ap, ◌∙◌, subst, ⊎_elim, inl, inr, arith}
use Rattle.std.specs.Prelude.{◌↔◌}
use Rattle.vx_flow.specs.declared.graph.Block.{Block}
use Rattle.vx_flow.specs.declared.graph.Exit.{Exit}
use Rattle.vx_flow.specs.declared.routes.Route.{Route}
use Rattle.vx_flow.specs.Effects.{IsIn}
use Rattle.vx_flow.specs.Live.{LiveOn, first_touch, here as route_here, beyond as route_beyond}
use Rattle.vx_flow.specs.Walk.{edge}
use Rattle.vx_flow.proofs.Members.{in_either}
use Rattle.vx_flow.proofs.IndexSteps.{get_below}
use Rattle.vx_mixed.specs.declared.region.Item.{Item}
use Rattle.vx_mixed.specs.declared.region.Item.TheVariants.{Plain, Split}
use Rattle.vx_mixed.specs.declared.region.Node.{Node}
use Rattle.vx_mixed.specs.declared.region.Node.TheVariants.{Unused, Enters, Inner}
use Rattle.vx_mixed.specs.declared.region.Region.{Region}
use Rattle.vx_mixed.specs.declared.mixed.MixedGraph.{MixedGraph}
use Rattle.vx_mixed.specs.Alive.{AtEnd}
use Rattle.vx_mixed.specs.Edges.{IsEdge, of_block, of_split, of_last}
use Rattle.vx_mixed.specs.Live.{Live, here, beyond, through_block, single}
use Rattle.vx_mixed.specs.Routes.{off_ends, word_route, exit_route, word_routes, behind, region_routes, region_starts, node_route, node_routes, routes}
use Rattle.vx_mixed.specs.Valid.{Valid}
use Rattle.vx_mixed.proofs.AliveWords.{OffEdge, AliveWords}
use Rattle.vx_mixed.proofs.Linked.{index_in, entrance_there, some_same}
use Rattle.vx_mixed.proofs.OnRoutes.{word_firsts, exit_firsts, first_read, left_first, reads_whole, whole_left, block_touches, has_off, start, on_routes}
use Rattle.vx_mixed.proofs.LiveRegions.{live_region}

-- the nodes of regions come behind those of the regions before

start_after : (n : ℕ) (gs : List Region) (q : ℕ) (g : Region) → slice_get gs q ≡ Some g → n ≤ start n gs q
start_after n [] q g at = absurd (cc)
start_after n (o ∷ gs) zero g at = omega arith
start_after n (o ∷ gs) (suc q) g at = let h = start_after (behind n o) gs q g at in omega arith

one_place : (n : ℕ) (gs : List Region) (q r : ℕ) (g h : Region) (w z : ℕ) → slice_get gs q ≡ Some g → slice_get gs r ≡ Some h → w ≤ length g.words → z ≤ length h.words → start n gs q + w ≡ start n gs r + z → (q ≡ r) × (w ≡ z)
one_place n [] q r g h w z at there wl zl e = absurd (cc)
one_place n (o ∷ gs) zero zero g h w z at there wl zl e = (refl, omega arith)
one_place n (o ∷ gs) zero (suc r) g h w z at there wl zl e =
    let s : o ≡ g = cc in
    let k : length g.words ≡ length o.words = ap (λ (x : Region). length x.words) (sym s) in
    let a = start_after (behind n o) gs r h there in
    absurd (omega arith)
one_place n (o ∷ gs) (suc q) zero g h w z at there wl zl e =
    let s : o ≡ h = cc in
    let k : length h.words ≡ length o.words = ap (λ (x : Region). length x.words) (sym s) in
    let a = start_after (behind n o) gs q g at in
    absurd (omega arith)
one_place n (o ∷ gs) (suc q) (suc r) g h w z at there wl zl e = let s = one_place (behind n o) gs q r g h w z at there wl zl e in (ap suc s.0, s.1)

-- the route of some words that are left
abbrev route_of_rest : ℕ → Exit → List (List Item) → Route
route_of_rest n x [] = exit_route n x
route_of_rest n x (word ∷ words) = word_route n word

record WordPlace (n : ℕ) (x : Exit) (words : List (List Item)) (r : Route) : Type 0 where
  w : ℕ
  low : w ≤ length words
  is : r ≡ route_of_rest (n + w) x (drop w words)

word_place : (n : ℕ) (x : Exit) (words : List (List Item)) (r : Route) → IsIn r (word_routes n x words) → WordPlace n x words r
word_place n x [] r (inl e) = let z : n ≡ n + 0 = omega arith in record { w = 0; low = omega arith; is = e ∙ ap (λ k. exit_route k x) z }
word_place n x [] r (inr h) = absurd h
word_place n x (word ∷ words) r (inl e) = let z : n ≡ n + 0 = omega arith in record { w = 0; low = omega arith; is = e ∙ ap (λ k. word_route k word) z }
word_place n x (word ∷ words) r (inr h) =
    let p = word_place (n + 1) x words r h in
    let l = p.low in
    let z : n + 1 + p.w ≡ n + suc p.w = omega arith in
    record { w = suc p.w; low = omega arith; is = p.is ∙ ap (λ k. route_of_rest k x (drop p.w words)) z }

record RegionPlace (n : ℕ) (gs : List Region) (r : Route) : Type 0 where
  q : ℕ
  g : Region
  at : slice_get gs q ≡ Some g
  place : WordPlace (start n gs q) g.last g.words r

region_place : (n : ℕ) (gs : List Region) (r : Route) → IsIn r (region_routes n gs) → RegionPlace n gs r
region_place n [] r h = absurd h
region_place n (g ∷ gs) r h =
    ⊎_elim
    (λ a. record { q = 0; g = g; at = refl; place = word_place n g.last g.words r a })
    (λ b. let p = region_place (behind n g) gs r b in record { q = suc p.q; g = p.g; at = p.at; place = p.place })
    (in_either r (word_routes n g.last g.words) (region_routes (behind n g) gs) h)

record NodePlace (starts : List ℕ) (n : ℕ) (ns : List Node) (r : Route) : Type 0 where
  b : ℕ
  k : Node
  at : slice_get ns b ≡ Some k
  is : r ≡ node_route starts (n + b) k

node_place : (starts : List ℕ) (n : ℕ) (ns : List Node) (r : Route) → IsIn r (node_routes starts n ns) → NodePlace starts n ns r
node_place starts n [] r h = absurd h
node_place starts n (k ∷ ns) r (inl e) = let z : n ≡ n + 0 = omega arith in record { b = 0; k = k; at = refl; is = e ∙ ap (λ i. node_route starts i k) z }
node_place starts n (k ∷ ns) r (inr h) =
    let p = node_place starts (n + 1) ns r h in
    let z : n + 1 + p.b ≡ n + suc p.b = omega arith in
    record { b = suc p.b; k = p.k; at = p.at; is = p.is ∙ ap (λ i. node_route starts i p.k) z }

from_node : (starts : List ℕ) (b : ℕ) (k : Node) → (node_route starts b k).from ≡ b
from_node starts b (Unused block) = refl
from_node starts b (Enters q w) = refl
from_node starts b Inner = refl

from_rest : (n : ℕ) (x : Exit) (words : List (List Item)) → (route_of_rest n x words).from ≡ n
from_rest n x [] = refl
from_rest n x (word ∷ words) = refl

-- the words from one on, as the first of them and the others
next_words : (w : ℕ) (words rest : List (List Item)) (word : List Item) → drop w words ≡ word ∷ rest → (slice_get words w ≡ Some word) × (suc w ≤ length words) × (drop (suc w) words ≡ rest)
next_words zero [] rest word e = absurd (cc)
next_words zero (x ∷ words) rest word e = let a : x ≡ word = cc in let b : words ≡ rest = cc in (ap Some a, omega arith, b)
next_words (suc w) [] rest word e = absurd (cc)
next_words (suc w) (x ∷ words) rest word e = let h = next_words w words rest word e in let l = h.1 in (h.0, omega arith, h.2)

off_live : (m : MixedGraph) (word : List Item) (c v : ℕ) → IsIn c (off_ends word) → Live m c v → OffEdge m word v
off_live m [] c v h l = absurd h
off_live m (Plain op k ∷ is) c v h l = off_live m is c v h l
off_live m (Split p y e d ∷ is) c v (inl q) l = inl (subst (λ b. Live m b v) q l)
off_live m (Split p y e d ∷ is) c v (inr h) l = inr (off_live m is c v h l)

module _ (m : MixedGraph) (valid : Valid m) where
  abbrev N : ℕ
  N = length m.nodes

  abbrev Starts : List ℕ
  Starts = region_starts N m.regions

  -- what is claimed of a node at which a value is live on the routes
  record Lives (b v : ℕ) : Type 0 where
    block : b < N → Live m b v
    words : (q w : ℕ) (g : Region) → slice_get m.regions q ≡ Some g → w ≤ length g.words → b ≡ start N m.regions q + w → AliveWords m (drop w g.words) g.last v

  -- a route reads the value, or leads on to where it is live
  data Goes (v : ℕ) (r : Route) : Type 0 where
    reads : first_touch v r.touches ≡ Some true → Goes v r
    leads : (c : ℕ) → first_touch v r.touches ≡ None → IsIn c r.to → Lives c v → Goes v r

  below : (c b : ℕ) → IsEdge m (edge b c) → c < N
  below c b e = let k = entrance_there (slice_get m.nodes c) (valid.leads (edge b c) e) in get_below m.nodes c k.0 k.1

  start_is : (q : ℕ) (g : Region) → slice_get m.regions q ≡ Some g → N ≤ start N m.regions q
  start_is q g at = start_after N m.regions q g at

  unused_live : (b v : ℕ) (block : Block) → slice_get m.nodes b ≡ Some (Unused block) → Goes v (node_route Starts b (Unused block)) → Live m b v
  unused_live b v block at (reads f) = here (through_block at) (reads_whole v (map single block.ops) block.exit (ap (first_touch v) (sym (block_touches block.ops block.exit)) ∙ f))
  unused_live b v block at (leads c f t l) =
      let w = whole_left v (map single block.ops) block.exit (ap (first_touch v) (sym (block_touches block.ops block.exit)) ∙ f) in
      beyond (through_block at) w.0 w.1 t (l.block (below c b (of_block at t)))

  enters_live : (b v q w : ℕ) → slice_get m.nodes b ≡ Some (Enters q w) → Goes v (node_route Starts b (Enters q w)) → Live m b v
  enters_live b v q w at (reads f) = absurd (cc)
  enters_live b v q w at (leads c f (inr h) l) = absurd h
  enters_live b v q w at (leads c f (inl e) l) =
      let g = valid.enters b q w at in
      live_region m b q w g.0 at g.1 v (l.words q w g.0 g.1 g.2 e)

  node_live : (b v : ℕ) (k : Node) → slice_get m.nodes b ≡ Some k → Goes v (node_route Starts b k) → Live m b v
  node_live b v (Unused block) at h = unused_live b v block at h
  node_live b v (Enters q w) at h = enters_live b v q w at h
  node_live b v Inner at (reads f) = absurd (cc)
  node_live b v Inner at (leads c f t l) = absurd t

  end_alive : (q v n : ℕ) (g : Region) → slice_get m.regions q ≡ Some g → Goes v (exit_route n g.last) → AtEnd m g.last v
  end_alive q v n g at (reads f) = inl (first_read (exit_firsts v g.last) f)
  end_alive q v n g at (leads c f t l) = inr (c, t, left_first (exit_firsts v g.last) f, l.block (below c g.from (of_last q g at refl t)))

  off_below : (q w c : ℕ) (g : Region) (word : List Item) → slice_get m.regions q ≡ Some g → slice_get g.words w ≡ Some word → IsIn c (off_ends word) → c < N
  off_below q w c g word at there h =
      let s = has_off word c h in
      let e : IsEdge m s.2 = of_split q w s.0 s.3 s.1 g word at there s.4 in
      let k = entrance_there (slice_get m.nodes s.2.to) (valid.leads s.2 e) in
      let l = get_below m.nodes s.2.to k.0 k.1 in
      subst (λ x. x < N) (sym s.5) l

  word_alive : (q w v : ℕ) (g : Region) (word : List Item) (rest : List (List Item)) → slice_get m.regions q ≡ Some g → drop w g.words ≡ word ∷ rest → Goes v (word_route (start N m.regions q + w) word) → AliveWords m (word ∷ rest) g.last v
  word_alive q w v g word rest at d (reads f) = inl (first_read (word_firsts v word) f)
  word_alive q w v g word rest at d (leads c f t l) =
      let next = next_words w g.words rest word d in
      let none = left_first (word_firsts v word) f in
      let n = start N m.regions q + w in
      inr (
        none,
        ⊎_elim
            (λ off. inl (off_live m word c v off (l.block (off_below q w c g word at next.0 off))))
            (λ on. inr (let e : c ≡ n + 1 = ⊎_elim (λ x. x) (λ x. absurd x) on in let z : c ≡ start N m.regions q + suc w = omega (arith, e) in subst (λ ws. AliveWords m ws g.last v) next.2 (l.words q (suc w) g at next.1 z)))
            (in_either c (off_ends word) ((n + 1) ∷ []) t),
      )

  rest_alive : (q w v : ℕ) (g : Region) (rest : List (List Item)) → slice_get m.regions q ≡ Some g → drop w g.words ≡ rest → Goes v (route_of_rest (start N m.regions q + w) g.last rest) → AliveWords m rest g.last v
  rest_alive q w v g [] at d h = end_alive q v (start N m.regions q + w) g at h
  rest_alive q w v g (word ∷ rest) at d h = word_alive q w v g word rest at d h

  at_node : (b v : ℕ) (r : Route) → NodePlace Starts 0 m.nodes r → b ≡ r.from → Goes v r → Lives b v
  at_node b v r p e h =
      let z : 0 + p.b ≡ p.b = omega arith in
      let is : r ≡ node_route Starts p.b p.k = p.is ∙ ap (λ i. node_route Starts i p.k) z in
      let same : b ≡ p.b = e ∙ ap (λ (x : Route). x.from) is ∙ from_node Starts p.b p.k in
      let low = get_below m.nodes p.b p.k p.at in
      record {
        block = λ _. subst (λ i. Live m i v) (sym same) (node_live p.b v p.k p.at (subst (Goes v) is h));
        words = λ q w g at wl f. let a = start_is q g at in absurd (omega arith);
      }

  at_region : (b v : ℕ) (r : Route) → RegionPlace N m.regions r → b ≡ r.from → Goes v r → Lives b v
  at_region b v r p e h =
      let n = start N m.regions p.q in
      let same : b ≡ n + p.place.w = e ∙ ap (λ (x : Route). x.from) p.place.is ∙ from_rest (n + p.place.w) p.g.last (drop p.place.w p.g.words) in
      let a = start_is p.q p.g p.at in
      let alive = rest_alive p.q p.place.w v p.g (drop p.place.w p.g.words) p.at refl (subst (Goes v) p.place.is h) in
      record {
        block = λ l. absurd (omega arith);
        words = λ q w g at wl f.
            let s = one_place N m.regions p.q q p.g g p.place.w w p.at at p.place.low wl (sym same ∙ f) in
            let o : p.g ≡ g = some_same (slice_get m.regions q) p.g g (subst (λ i. slice_get m.regions i ≡ Some p.g) s.0 p.at) at in
            subst (λ (x : Region). AliveWords m (drop w x.words) x.last v) o (subst (λ i. AliveWords m (drop i p.g.words) p.g.last v) s.1 alive);
      }

  one_route : (b v : ℕ) (r : Route) → IsIn r (routes m) → b ≡ r.from → Goes v r → Lives b v
  one_route b v r i e h =
      ⊎_elim
      (λ a. at_node b v r (node_place Starts 0 m.nodes r a) e h)
      (λ a. at_region b v r (region_place N m.regions r a) e h)
      (in_either r (node_routes Starts 0 m.nodes) (region_routes N m.regions) i)

  lives_on : {b v : ℕ} → LiveOn (routes m) b v → Lives b v
  lives_on {b} {v} (route_here {r = r} i at e f) = one_route b v r (index_in (routes m) i r at) e (reads f)
  lives_on {b} {v} (route_beyond {c = c} {r = r} i at e f t l) = one_route b v r (index_in (routes m) i r at) e (leads c f t (lives_on l))

  -- at each block the same values are live on the routes
  pub live_by_routes : (b v : ℕ) → b < N → LiveOn (routes m) b v ↔ Live m b v
  live_by_routes b v h = ((λ l. (lives_on l).block h), (λ l. on_routes m valid l))
