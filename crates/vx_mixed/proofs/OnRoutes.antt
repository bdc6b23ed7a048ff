-- What is live in a graph of blocks and regions is live on its routes.
use Rattle.std.proofs.Common.{◌≡◌, ℕ, zero, suc, ◌+◌, ◌-◌, ◌≤◌, Bool, true, false, Option, Some, None, List, [], ◌∷◌, ◌++◌, length, map, take, drop, slice_get, slice_index_or, refl, sym, ap, ◌∙◌, subst, ⊎_elim, inl, inr, arith, append_assoc}
use Rattle.std.specs.Prelude.{◌⊎◌, if◌then◌else◌}
use Rattle.std.specs.List.{flat_map}
use Rattle.vx_flow.specs.declared.graph.Edge.{Edge}
use Rattle.vx_flow.specs.declared.graph.Exit.{Exit}
use Rattle.vx_flow.specs.declared.graph.Exit.TheVariants.{Goto}
use Rattle.vx_flow.specs.declared.graph.Op.{Op}
use Rattle.vx_flow.specs.declared.routes.Route.{Route}
use Rattle.vx_flow.specs.declared.routes.Touch.{Touch}
use Rattle.vx_flow.specs.Effects.{IsIn}
use Rattle.vx_flow.specs.Live.{LiveOn, first_touch, touch, reads_of_exit, here as route_here, beyond as route_beyond}
use Rattle.vx_flow.specs.Sound.{targets_of, results_of_exit}
use Rattle.vx_flow.proofs.Members.{in_left, in_right}
use Rattle.vx_flow.proofs.Touches.{touched_first, touched_behind}
use Rattle.vx_mixed.specs.declared.region.Item.{Item}
use Rattle.vx_mixed.specs.declared.region.Item.TheVariants.{Plain, Split}
use Rattle.vx_mixed.specs.declared.region.Node.{Node}
use Rattle.vx_mixed.specs.declared.region.Node.TheVariants.{Unused, Enters}
use Rattle.vx_mixed.specs.declared.region.Region.{Region}
use Rattle.vx_mixed.specs.declared.mixed.MixedGraph.{MixedGraph}
use Rattle.std.proofs.lemmas.List.{map-append}
use Rattle.std.proofs.lemmas.List.Folds.{flat_map-map}
use Rattle.vx_mixed.specs.Live.{item_reads, item_writes, Live, here, beyond, through_block, by_split, to_the_end, ReadsFirst, Untouched, single, word_reads, word_writes}
use Rattle.vx_mixed.specs.Valid.{Valid}
use Rattle.vx_mixed.specs.Routes.{reading_item, writing_item, word_touches, exit_touches, op_touches, route, off_ends, word_routes, behind, region_routes, region_starts, node_route, node_routes, routes}
use Rattle.vx_mixed.proofs.Alike.{in_or}
use Rattle.vx_mixed.proofs.Linked.{in_index}

-- what some reads and then some writes do first, where `first` is what they and the rest do
pub data Firsts (v : ℕ) (rs ws : List ℕ) (rest first : Option Bool) : Type 0 where
  is_read : IsIn v rs → first ≡ Some true → Firsts v rs ws rest first
  is_written : (IsIn v rs → ⊥) → IsIn v ws → first ≡ Some false → Firsts v rs ws rest first
  is_left : (IsIn v rs → ⊥) → (IsIn v ws → ⊥) → first ≡ rest → Firsts v rs ws rest first

firsts : (v : ℕ) (rs ws : List ℕ) (rest : List Touch) → Firsts v rs ws (first_touch v rest) (first_touch v ((map (touch true) rs ++ map (touch false) ws) ++ rest))
firsts v rs ws rest =
    subst (λ l. Firsts v rs ws (first_touch v rest) (first_touch v l)) (sym (append_assoc (map (touch true) rs) (map (touch false) ws) rest))
    (⊎_elim
    (λ m. is_read m (touched_first true v rs (map (touch false) ws ++ rest) m))
    (λ n. ⊎_elim
    (λ m. is_written n m (touched_behind true v rs (map (touch false) ws ++ rest) n ∙ touched_first false v ws rest m))
    (λ k. is_left n k (touched_behind true v rs (map (touch false) ws ++ rest) n ∙ touched_behind false v ws rest k))
    (in_or v ws))
    (in_or v rs))

no_touches : (xs : List Touch) → xs ++ [] ≡ xs
no_touches [] = refl
no_touches (x ∷ xs) = ap (λ l. x ∷ l) (no_touches xs)

-- what a word reads and writes, as the lists of it

reads_are : (word : List Item) → flat_map reading_item word ≡ map (touch true) (word_reads word)
reads_are [] = refl
reads_are (i ∷ is) = ap (λ l. reading_item i ++ l) (reads_are is) ∙ sym (map-append (touch true) (item_reads i) (word_reads is))

writes_are : (word : List Item) → flat_map writing_item word ≡ map (touch false) (word_writes word)
writes_are [] = refl
writes_are (i ∷ is) = ap (λ l. writing_item i ++ l) (writes_are is) ∙ sym (map-append (touch false) (item_writes i) (word_writes is))

touches_are : (word : List Item) → word_touches word ≡ map (touch true) (word_reads word) ++ map (touch false) (word_writes word)
touches_are word = ap (λ l. l ++ flat_map writing_item word) (reads_are word) ∙ ap (λ l. map (touch true) (word_reads word) ++ l) (writes_are word)

pub word_firsts : (v : ℕ) (word : List Item) → Firsts v (word_reads word) (word_writes word) None (first_touch v (word_touches word))
word_firsts v word =
    subst (λ l. Firsts v (word_reads word) (word_writes word) None (first_touch v l)) (no_touches (map (touch true) (word_reads word) ++ map (touch false) (word_writes word)) ∙ sym (touches_are word))
    (firsts v (word_reads word) (word_writes word) [])

pub exit_firsts : (v : ℕ) (x : Exit) → Firsts v (reads_of_exit x) (results_of_exit x) None (first_touch v (exit_touches x))
exit_firsts v x = subst (λ l. Firsts v (reads_of_exit x) (results_of_exit x) None (first_touch v l)) (no_touches (exit_touches x)) (firsts v (reads_of_exit x) (results_of_exit x) [])

read_first : {v : ℕ} {rs ws : List ℕ} {rest first : Option Bool} → Firsts v rs ws rest first → IsIn v rs → first ≡ Some true
read_first (is_read m e) h = e
read_first (is_written n m e) h = absurd (n h)
read_first (is_left n k e) h = absurd (n h)

pub first_read : {v : ℕ} {rs ws : List ℕ} {first : Option Bool} → Firsts v rs ws None first → first ≡ Some true → IsIn v rs
first_read (is_read m e) h = m
first_read (is_written n m e) h = absurd (cc)
first_read (is_left n k e) h = absurd (cc)

-- not written: read, or left
kept_first : {v : ℕ} {rs ws : List ℕ} {first : Option Bool} → Firsts v rs ws None first → (IsIn v ws → ⊥) → (first ≡ Some true) ⊎ (first ≡ None)
kept_first (is_read m e) h = inl e
kept_first (is_written n m e) h = absurd (h m)
kept_first (is_left n k e) h = inr e

pub left_first : {v : ℕ} {rs ws : List ℕ} {first : Option Bool} → Firsts v rs ws None first → first ≡ None → IsIn v ws → ⊥
left_first (is_read m e) h w = absurd (cc)
left_first (is_written n m e) h w = absurd (cc)
left_first (is_left n k e) h w = k w

-- a whole block as one route

abbrev pub whole : List (List Item) → Exit → List Touch
whole words x = flat_map word_touches words ++ exit_touches x

-- the touches of a block, as those of its words
pub block_touches : (ops : List Op) (x : Exit) → flat_map op_touches ops ++ exit_touches x ≡ whole (map single ops) x
block_touches ops x = ap (λ l. l ++ exit_touches x) (sym (flat_map-map word_touches single ops))

cons_firsts : (v : ℕ) (word : List Item) (words : List (List Item)) (x : Exit) → Firsts v (word_reads word) (word_writes word) (first_touch v (whole words x)) (first_touch v (whole (word ∷ words) x))
cons_firsts v word words x =
    subst (λ l. Firsts v (word_reads word) (word_writes word) (first_touch v (whole words x)) (first_touch v l))
    (ap (λ l. l ++ whole words x) (sym (touches_are word)) ∙ sym (append_assoc (word_touches word) (flat_map word_touches words) (exit_touches x)))
    (firsts v (word_reads word) (word_writes word) (whole words x))

whole_reads : (v : ℕ) (words : List (List Item)) (x : Exit) → ReadsFirst words x v → first_touch v (whole words x) ≡ Some true
whole_reads v [] x h = read_first (exit_firsts v x) h
whole_reads v (word ∷ words) x h = by (cons_firsts v word words x) (whole_reads v words x) h
  where
    by : {rest first : Option Bool} → Firsts v (word_reads word) (word_writes word) rest first → (ReadsFirst words x v → rest ≡ Some true) → IsIn v (word_reads word) ⊎ ((IsIn v (word_writes word) → ⊥) × ReadsFirst words x v) → first ≡ Some true
    by (is_read m e) f h = e
    by (is_written n m e) f (inl a) = absurd (n a)
    by (is_written n m e) f (inr b) = absurd (b.0 m)
    by (is_left n k e) f (inl a) = absurd (n a)
    by (is_left n k e) f (inr b) = e ∙ f b.1

pub reads_whole : (v : ℕ) (words : List (List Item)) (x : Exit) → first_touch v (whole words x) ≡ Some true → ReadsFirst words x v
reads_whole v [] x h = first_read (exit_firsts v x) h
reads_whole v (word ∷ words) x h = by (cons_firsts v word words x) (reads_whole v words x) h
  where
    by : {rest first : Option Bool} → Firsts v (word_reads word) (word_writes word) rest first → (rest ≡ Some true → ReadsFirst words x v) → first ≡ Some true → IsIn v (word_reads word) ⊎ ((IsIn v (word_writes word) → ⊥) × ReadsFirst words x v)
    by (is_read m e) f h = inl m
    by (is_written n m e) f h = absurd (cc)
    by (is_left n k e) f h = inr (k, f (sym e ∙ h))

whole_kept : (v : ℕ) (words : List (List Item)) (x : Exit) → Untouched words v → (IsIn v (results_of_exit x) → ⊥) → (first_touch v (whole words x) ≡ Some true) ⊎ (first_touch v (whole words x) ≡ None)
whole_kept v [] x h n = kept_first (exit_firsts v x) n
whole_kept v (word ∷ words) x h n = by (cons_firsts v word words x) h.0 (whole_kept v words x h.1 n)
  where
    by : {rest first : Option Bool} → Firsts v (word_reads word) (word_writes word) rest first → (IsIn v (word_writes word) → ⊥) → (rest ≡ Some true) ⊎ (rest ≡ None) → (first ≡ Some true) ⊎ (first ≡ None)
    by (is_read m e) h f = inl e
    by (is_written n m e) h f = absurd (h m)
    by (is_left n k e) h (inl a) = inl (e ∙ a)
    by (is_left n k e) h (inr a) = inr (e ∙ a)

pub whole_left : (v : ℕ) (words : List (List Item)) (x : Exit) → first_touch v (whole words x) ≡ None → Untouched words v × (IsIn v (results_of_exit x) → ⊥)
whole_left v [] x h = (tt, left_first (exit_firsts v x) h)
whole_left v (word ∷ words) x h = by (cons_firsts v word words x) (whole_left v words x) h
  where
    by : {rest first : Option Bool} → Firsts v (word_reads word) (word_writes word) rest first → (rest ≡ None → Untouched words v × (IsIn v (results_of_exit x) → ⊥)) → first ≡ None → Untouched (word ∷ words) v × (IsIn v (results_of_exit x) → ⊥)
    by (is_read m e) f h = absurd (cc)
    by (is_written n m e) f h = absurd (cc)
    by (is_left n k e) f h = let r = f (sym e ∙ h) in ((k, r.0), r.1)

-- routes of words

from_word : (n w : ℕ) (x : Exit) (words : List (List Item)) (r : Route) → w ≤ length words → IsIn r (word_routes (n + w) x (drop w words)) → IsIn r (word_routes n x words)
from_word n zero x words r le h = let z : n + 0 ≡ n = omega arith in subst (λ k. IsIn r (word_routes k x words)) z h
from_word n (suc w) x [] r le h = absurd (omega arith)
from_word n (suc w) x (word ∷ words) r le h = let z : n + suc w ≡ n + 1 + w = omega arith in inr (from_word (n + 1) w x words r (omega arith) (subst (λ k. IsIn r (word_routes k x (drop w words))) z h))

module _ (R : List Route) where
  at_route : (b v : ℕ) (r : Route) → IsIn r R → b ≡ r.from → first_touch v r.touches ≡ Some true → LiveOn R b v
  at_route b v r h e f = let i = in_index R r h in route_here {r = r} i.0 i.1 e f

  by_route : (b c v : ℕ) (r : Route) → IsIn r R → b ≡ r.from → first_touch v r.touches ≡ None → IsIn c r.to → LiveOn R c v → LiveOn R b v
  by_route b c v r h e f t l = let i = in_index R r h in route_beyond {r = r} i.0 i.1 e f t l

  abbrev Has : ℕ → Exit → List (List Item) → Type 0
  Has n x words = (r : Route) → IsIn r (word_routes n x words) → IsIn r R

  -- a word that does not write v: v is live there where it is live at one of the ends
  past_word : (n c v : ℕ) (x : Exit) (word : List Item) (words : List (List Item)) → Has n x (word ∷ words) → (IsIn v (word_writes word) → ⊥) → IsIn c (off_ends word ++ (n + 1) ∷ []) → LiveOn R c v → LiveOn R n v
  past_word n c v x word words has none t l =
      let r = route n (off_ends word ++ (n + 1) ∷ []) (word_touches word) in
      ⊎_elim (λ f. at_route n v r (has r (inl refl)) refl f) (λ f. by_route n c v r (has r (inl refl)) refl f t l) (kept_first (word_firsts v word) none)

  read_word : (n v : ℕ) (x : Exit) (word : List Item) (words : List (List Item)) → Has n x (word ∷ words) → IsIn v (word_reads word) → LiveOn R n v
  read_word n v x word words has h = let r = route n (off_ends word ++ (n + 1) ∷ []) (word_touches word) in at_route n v r (has r (inl refl)) refl (read_first (word_firsts v word) h)

  next_in : (n : ℕ) (word : List Item) → IsIn (n + 1) (off_ends word ++ (n + 1) ∷ [])
  next_in n word = in_right (n + 1) (off_ends word) ((n + 1) ∷ []) (inl refl)

  words_read : (n v t : ℕ) (x : Exit) (words : List (List Item)) (c : ℕ) → Has n x words → ReadsFirst (take t words) (Goto c) v → LiveOn R n v
  words_read n v zero x words c has h = absurd h
  words_read n v (suc t) x [] c has h = absurd h
  words_read n v (suc t) x (word ∷ words) c has (inl h) = read_word n v x word words has h
  words_read n v (suc t) x (word ∷ words) c has (inr h) = past_word n (n + 1) v x word words has h.0 (next_in n word) (words_read (n + 1) v t x words c (λ r q. has r (inr q)) h.1)

  end_reads : (n v : ℕ) (x : Exit) (words : List (List Item)) → Has n x words → ReadsFirst words x v → LiveOn R n v
  end_reads n v x [] has h = let r = route n (targets_of x) (exit_touches x) in at_route n v r (has r (inl refl)) refl (read_first (exit_firsts v x) h)
  end_reads n v x (word ∷ words) has (inl h) = read_word n v x word words has h
  end_reads n v x (word ∷ words) has (inr h) = past_word n (n + 1) v x word words has h.0 (next_in n word) (end_reads (n + 1) v x words (λ r q. has r (inr q)) h.1)

  split_on : (n c v t : ℕ) (x : Exit) (words : List (List Item)) (word : List Item) → Has n x words → slice_get words t ≡ Some word → Untouched (take (suc t) words) v → IsIn c (off_ends word) → LiveOn R c v → LiveOn R n v
  split_on n c v t x [] word has at un h l = absurd (cc)
  split_on n c v zero x (w ∷ words) word has at un h l = let q : w ≡ word = cc in past_word n c v x w words has un.0 (in_left c (off_ends w) ((n + 1) ∷ []) (subst (λ z. IsIn c (off_ends z)) (sym q) h)) l
  split_on n c v (suc t) x (w ∷ words) word has at un h l = past_word n (n + 1) v x w words has un.0 (next_in n w) (split_on (n + 1) c v t x words word (λ r q. has r (inr q)) at un.1 h l)

  end_on : (n c v : ℕ) (x : Exit) (words : List (List Item)) → Has n x words → Untouched words v → (IsIn v (results_of_exit x) → ⊥) → IsIn c (targets_of x) → LiveOn R c v → LiveOn R n v
  end_on n c v x [] has un none t l =
      let r = route n (targets_of x) (exit_touches x) in
      ⊎_elim (λ f. at_route n v r (has r (inl refl)) refl f) (λ f. by_route n c v r (has r (inl refl)) refl f t l) (kept_first (exit_firsts v x) none)
  end_on n c v x (w ∷ words) has un none t l = past_word n (n + 1) v x w words has un.0 (next_in n w) (end_on (n + 1) c v x words (λ r q. has r (inr q)) un.1 none t l)

pub off_has : (word : List Item) (p d : ℕ) (y : Bool) (e : Edge) → IsIn (Split p y e d) word → IsIn e.to (off_ends word)
off_has [] p d y e h = absurd h
off_has (Plain op k ∷ is) p d y e (inl q) = absurd (cc)
off_has (Plain op k ∷ is) p d y e (inr h) = off_has is p d y e h
off_has (Split q u f g ∷ is) p d y e (inl h) = let s : e ≡ f = cc in inl (ap (λ (z : Edge). z.to) s)
off_has (Split q u f g ∷ is) p d y e (inr h) = inr (off_has is p d y e h)

pub has_off : (word : List Item) (c : ℕ) → IsIn c (off_ends word) → (p : ℕ) × (y : Bool) × (e : Edge) × (d : ℕ) × IsIn (Split p y e d) word × (c ≡ e.to)
has_off [] c h = absurd h
has_off (Plain op k ∷ is) c h = let s = has_off is c h in (s.0, s.1, s.2, s.3, inr s.4, s.5)
has_off (Split p y e d ∷ is) c (inl q) = (p, y, e, d, inl refl, q)
has_off (Split p y e d ∷ is) c (inr h) = let s = has_off is c h in (s.0, s.1, s.2, s.3, inr s.4, s.5)

-- routes of regions and of nodes

-- the node of the first word of region q
abbrev pub start : ℕ → List Region → ℕ → ℕ
start n gs q = slice_index_or (region_starts n gs) q 0

region_has : (n : ℕ) (gs : List Region) (q : ℕ) (g : Region) → slice_get gs q ≡ Some g → (r : Route) → IsIn r (word_routes (start n gs q) g.last g.words) → IsIn r (region_routes n gs)
region_has n [] q g at r h = absurd (cc)
region_has n (o ∷ gs) zero g at r h = let s : g ≡ o = cc in in_left r (word_routes n o.last o.words) (region_routes (behind n o) gs) (subst (λ (z : Region). IsIn r (word_routes n z.last z.words)) s h)
region_has n (o ∷ gs) (suc q) g at r h = in_right r (word_routes n o.last o.words) (region_routes (behind n o) gs) (region_has (behind n o) gs q g at r h)

node_has : (starts : List ℕ) (n b : ℕ) (ns : List Node) (k : Node) → slice_get ns b ≡ Some k → IsIn (node_route starts (n + b) k) (node_routes starts n ns)
node_has starts n b [] k at = absurd (cc)
node_has starts n zero (x ∷ ns) k at = let q : k ≡ x = cc in let z : n + 0 ≡ n = omega arith in inl (ap (λ y. node_route starts y k) z ∙ ap (node_route starts n) q)
node_has starts n (suc b) (x ∷ ns) k at = let z : n + 1 + b ≡ n + suc b = omega arith in inr (subst (λ y. IsIn (node_route starts y k) (node_routes starts (n + 1) ns)) z (node_has starts (n + 1) b ns k at))

module _ (m : MixedGraph) (valid : Valid m) where
  abbrev R : List Route
  R = routes m

  abbrev N : ℕ
  N = length m.nodes

  abbrev Starts : List ℕ
  Starts = region_starts N m.regions

  node_in : (b : ℕ) (k : Node) → slice_get m.nodes b ≡ Some k → IsIn (node_route Starts b k) R
  node_in b k at = let z : 0 + b ≡ b = omega arith in in_left (node_route Starts b k) (node_routes Starts 0 m.nodes) (region_routes N m.regions) (subst (λ y. IsIn (node_route Starts y k) (node_routes Starts 0 m.nodes)) z (node_has Starts 0 b m.nodes k at))

  words_in : (q w : ℕ) (g : Region) → slice_get m.regions q ≡ Some g → w ≤ length g.words → Has R (start N m.regions q + w) g.last (drop w g.words)
  words_in q w g at le r h = in_right r (node_routes Starts 0 m.nodes) (region_routes N m.regions) (region_has N m.regions q g at r (from_word (start N m.regions q) w g.last g.words r le h))

  -- a node that enters a region is live where the word is
  entering : (b q w v : ℕ) → slice_get m.nodes b ≡ Some (Enters q w) → LiveOn R (start N m.regions q + w) v → LiveOn R b v
  entering b q w v at l = by_route R b (start N m.regions q + w) v (node_route Starts b (Enters q w)) (node_in b (Enters q w) at) refl refl (inl refl) l

  at_least : (b q w : ℕ) (g : Region) → slice_get m.nodes b ≡ Some (Enters q w) → slice_get m.regions q ≡ Some g → w ≤ length g.words
  at_least b q w g node at = let e = valid.enters b q w node in let s : Some e.0 ≡ Some g = sym e.1 ∙ at in let t : e.0 ≡ g = cc in subst (λ (z : Region). w ≤ length z.words) t e.2

  dropped : (w j : ℕ) (words : List (List Item)) (word : List Item) → w ≤ j → slice_get words j ≡ Some word → slice_get (drop w words) (j - w) ≡ Some word
  dropped zero j words word le at = let z : j - 0 ≡ j = omega arith in ap (slice_get words) z ∙ at
  dropped (suc w) zero words word le at = absurd (omega arith)
  dropped (suc w) (suc j) [] word le at = absurd (cc)
  dropped (suc w) (suc j) (x ∷ words) word le at = let z : suc j - suc w ≡ j - w = omega arith in ap (slice_get (drop w words)) z ∙ dropped w j words word (omega arith) at

  pub on_routes : {b v : ℕ} → Live m b v → LiveOn R b v
  on_routes {b} {v} (here (through_block {block = k} at) h) = at_route R b v (node_route Starts b (Unused k)) (node_in b (Unused k) at) refl (ap (first_touch v) (block_touches k.ops k.exit) ∙ whole_reads v (map single k.ops) k.exit h)
  on_routes {b} {v} (here (by_split {r = q} w j p d e y {g} word node at le there split) h) =
      entering b q w v node (words_read R (start N m.regions q + w) v (j + 1 - w) g.last (drop w g.words) e.to (words_in q w g at (at_least b q w g node at)) h)
  on_routes {b} {v} (here (to_the_end {r = q} {w = w} {g = g} node at) h) =
      entering b q w v node (end_reads R (start N m.regions q + w) v g.last (drop w g.words) (words_in q w g at (at_least b q w g node at)) h)
  on_routes {b} {v} (beyond {c = c} (through_block {block = k} at) un none t l) =
      let r = node_route Starts b (Unused k) in
      ⊎_elim (λ f. at_route R b v r (node_in b (Unused k) at) refl f) (λ f. by_route R b c v r (node_in b (Unused k) at) refl f t (on_routes l)) (subst (λ l. (first_touch v l ≡ Some true) ⊎ (first_touch v l ≡ None)) (sym (block_touches k.ops k.exit)) (whole_kept v (map single k.ops) k.exit un none))
  on_routes {b} {v} (beyond {c = c} (by_split {r = q} w j p d e y {g} word node at le there split) un none t l) =
      let z : j + 1 - w ≡ suc (j - w) = omega arith in
      let to : c ≡ e.to = ⊎_elim (λ x. x) (λ x. absurd x) t in
      entering b q w v node (split_on R (start N m.regions q + w) c v (j - w) g.last (drop w g.words) word (words_in q w g at (at_least b q w g node at)) (dropped w j g.words word le there) (subst (λ n. Untouched (take n (drop w g.words)) v) z un) (subst (λ n. IsIn n (off_ends word)) (sym to) (off_has word p d y e split)) (on_routes l))
  on_routes {b} {v} (beyond {c = c} (to_the_end {r = q} {w = w} {g = g} node at) un none t l) =
      entering b q w v node (end_on R (start N m.regions q + w) c v g.last (drop w g.words) (words_in q w g at (at_least b q w g node at)) un none t (on_routes l))
