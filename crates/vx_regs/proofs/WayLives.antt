-- What is live in a layout is live on the routes between its nodes, and what is live on these is live in it.
use Rattle.std.proofs.Common.{◌≡◌, ℕ, zero, suc, ◌+◌, ◌<◌, ◌≤◌, Bool, true, false, Option, Some, None, List, [], ◌∷◌, ◌++◌, length, map, drop, slice_get, refl, sym, ap, ◌∙◌, subst, ⊎_elim, inl, inr, arith, append_assoc}
use Rattle.std.specs.Prelude.{◌⊎◌, ◌↔◌, if◌then◌else◌, IsTrue}
use Rattle.std.specs.List.{flat_map}
use Rattle.vx_flow.specs.declared.routes.Route.{Route}
use Rattle.vx_flow.specs.declared.routes.Touch.{Touch}
use Rattle.vx_flow.specs.Closing.{BeginWithin}
use Rattle.vx_flow.specs.Effects.{IsIn}
use Rattle.vx_flow.specs.Live.{LiveOn, first_touch, touch}
use Rattle.vx_flow.specs.Live.{here as route_here, beyond as route_beyond}
use Rattle.vx_flow.specs.Rows.{lives}
use Rattle.vx_flow.proofs.Members.{in_left, in_right, in_either}
use Rattle.vx_flow.proofs.Touches.{touched_first, touched_behind}
use Rattle.vx_mixed.specs.declared.layout.Laid.{Laid}
use Rattle.vx_mixed.specs.declared.layout.Laid.TheVariants.{Plain, Split}
use Rattle.vx_mixed.specs.declared.layout.VirtualWord.{VirtualWord}
use Rattle.vx_mixed.specs.declared.layout.VirtualWord.TheVariants.{Planned, Drain, Transfer, Choice, Call, Return, Ends}
use Rattle.vx_mixed.specs.declared.layout.VWords.{VWords}
use Rattle.vx_mixed.specs.LaidSettled.{LeadsTo}
use Rattle.vx_mixed.proofs.Alike.{in_or}
use Rattle.vx_mixed.proofs.Linked.{in_index, index_in}
use Rattle.vx_regs.specs.Intervals.{IsLive, here, beyond, word_reads, word_writes}
use Rattle.vx_regs.specs.declared.nodes.Nodes.{Nodes}
use Rattle.vx_regs.specs.declared.liveness.Living.{Living}
use Rattle.vx_regs.specs.Ways.{marked, marked_by_words, node_in, AreNodes, node_list, item_ways, word_ways, ends_at, word_touches, way_touches, way_ends, way_from, ways_from, lives_in, lives_there, LivesAt, LivesAtNodes, NodesFound}
use Rattle.vx_regs.proofs.NodeMarks.{numbers_long, words_long, set_long, Node, Inside, node_once, entry_node, leads_node, leads_next}

-- what a word and the rest behind it do first
data Firsts (v : ℕ) (word : VirtualWord) (rest first : Option Bool) : Type 0 where
  is_read : IsIn v (word_reads word) → first ≡ Some true → Firsts v word rest first
  is_written : (IsIn v (word_reads word) → ⊥) → IsIn v (word_writes word) → first ≡ Some false → Firsts v word rest first
  is_left : (IsIn v (word_reads word) → ⊥) → (IsIn v (word_writes word) → ⊥) → first ≡ rest → Firsts v word rest first

none_not_some : {b : Bool} → None ≡ Some b → ⊥
none_not_some e = cc

written_not_read : {first : Option Bool} → first ≡ Some false → first ≡ Some true → ⊥
written_not_read f h = let e : Some false ≡ Some true = sym f ∙ h in cc

firsts : (v : ℕ) (word : VirtualWord) (rest : List Touch) → Firsts v word (first_touch v rest) (first_touch v (word_touches word ++ rest))
firsts v word rest =
    let rs = word_reads word in
    let ws = word_writes word in
    subst (λ l. Firsts v word (first_touch v rest) (first_touch v l)) (sym (append_assoc (map (touch true) rs) (map (touch false) ws) rest))
    (⊎_elim
    (λ m. is_read m (touched_first true v rs (map (touch false) ws ++ rest) m))
    (λ n. ⊎_elim
    (λ m. is_written n m (touched_behind true v rs (map (touch false) ws ++ rest) n ∙ touched_first false v ws rest m))
    (λ k. is_left n k (touched_behind true v rs (map (touch false) ws ++ rest) n ∙ touched_behind false v ws rest k))
    (in_or v ws))
    (in_or v rs))

-- the words from one on, as the first of them and the others

first_word : (p : ℕ) (all rest : List VirtualWord) (word : VirtualWord) → drop p all ≡ word ∷ rest → (slice_get all p ≡ Some word) × (drop (suc p) all ≡ rest)
first_word zero [] rest word e = absurd (cc)
first_word zero (x ∷ all) rest word e = let a : x ≡ word = cc in let b : all ≡ rest = cc in (ap Some a, b)
first_word (suc p) [] rest word e = absurd (cc)
first_word (suc p) (x ∷ all) rest word e = first_word p all rest word e

word_first : (p : ℕ) (all : List VirtualWord) (word : VirtualWord) → slice_get all p ≡ Some word → drop p all ≡ word ∷ drop (suc p) all
word_first p [] word e = absurd (cc)
word_first zero (x ∷ all) word e = let a : x ≡ word = cc in ap (λ y. y ∷ all) a
word_first (suc p) (x ∷ all) word e = word_first p all word e

-- the nodes to which a word leads

abbrev pub Leads : List (Option ℕ) → ℕ → VirtualWord → ℕ → Type 0
Leads numbers p word c = (q : ℕ) × LeadsTo p word q × (node_in numbers q ≡ Some c)

pub in_list : (o : Option ℕ) (c : ℕ) → IsIn c (node_list o) → o ≡ Some c
in_list None c h = absurd h
in_list (Some n) c (inl e) = ap Some (sym e)
in_list (Some n) c (inr h) = absurd h

pub list_in : (o : Option ℕ) (c : ℕ) → o ≡ Some c → IsIn c (node_list o)
list_in None c h = absurd (cc)
list_in (Some n) c h = let e : n ≡ c = cc in inl (sym e)

item_back : (numbers : List (Option ℕ)) (items : List Laid) (c : ℕ) → IsIn c (flat_map (item_ways numbers) items) → (q : ℕ) × (test : ℕ) × (y : Bool) × IsIn (Split test y q) items × (node_in numbers q ≡ Some c)
item_back numbers [] c h = absurd h
item_back numbers (Plain op cluster ∷ items) c h = let r = item_back numbers items c h in (r.0, r.1, r.2, inr r.3, r.4)
item_back numbers (Split test y to ∷ items) c h =
    ⊎_elim
    (λ a. (to, test, y, inl refl, in_list (node_in numbers to) c a))
    (λ b. let r = item_back numbers items c b in (r.0, r.1, r.2, inr r.3, r.4))
    (in_either c (node_list (node_in numbers to)) (flat_map (item_ways numbers) items) h)

item_there : (numbers : List (Option ℕ)) (items : List Laid) (c q test : ℕ) (y : Bool) → IsIn (Split test y q) items → node_in numbers q ≡ Some c → IsIn c (flat_map (item_ways numbers) items)
item_there numbers [] c q test y h e = absurd h
item_there numbers (item ∷ items) c q test y (inl s) e = in_left c (item_ways numbers item) (flat_map (item_ways numbers) items) (subst (λ x. IsIn c (item_ways numbers x)) s (list_in (node_in numbers q) c e))
item_there numbers (item ∷ items) c q test y (inr s) e = in_right c (item_ways numbers item) (flat_map (item_ways numbers) items) (item_there numbers items c q test y s e)

pub ways_back : (numbers : List (Option ℕ)) (p : ℕ) (word : VirtualWord) (c : ℕ) → IsIn c (word_ways numbers (suc p) word) → Leads numbers p word c
ways_back numbers p (Planned r w items) c h =
    ⊎_elim
    (λ a. let s = item_back numbers items c a in (s.0, inr (s.1, s.2, s.3), s.4))
    (λ b. (suc p, inl refl, in_list (node_in numbers (suc p)) c b))
    (in_either c (flat_map (item_ways numbers) items) (node_list (node_in numbers (suc p))) h)
ways_back numbers p (Drain n) c h = (suc p, refl, in_list (node_in numbers (suc p)) c h)
ways_back numbers p (Transfer to) c h = (to, refl, in_list (node_in numbers to) c h)
ways_back numbers p (Choice test to) c h =
    ⊎_elim
    (λ a. (to, inl refl, in_list (node_in numbers to) c a))
    (λ b. (suc p, inr refl, in_list (node_in numbers (suc p)) c b))
    (in_either c (node_list (node_in numbers to)) (node_list (node_in numbers (suc p))) h)
ways_back numbers p (Call g arguments result) c h = (suc p, refl, in_list (node_in numbers (suc p)) c h)
ways_back numbers p (Return x) c h = absurd h
ways_back numbers p (Ends k) c h = absurd h

pub ways_there : (numbers : List (Option ℕ)) (p : ℕ) (word : VirtualWord) (q c : ℕ) → LeadsTo p word q → node_in numbers q ≡ Some c → IsIn c (word_ways numbers (suc p) word)
ways_there numbers p (Planned r w items) q c (inl t) e = in_right c (flat_map (item_ways numbers) items) (node_list (node_in numbers (suc p))) (list_in (node_in numbers (suc p)) c (ap (node_in numbers) (sym t) ∙ e))
ways_there numbers p (Planned r w items) q c (inr s) e = in_left c (flat_map (item_ways numbers) items) (node_list (node_in numbers (suc p))) (item_there numbers items c q s.0 s.1 s.2 e)
ways_there numbers p (Drain n) q c t e = list_in (node_in numbers (suc p)) c (ap (node_in numbers) (sym t) ∙ e)
ways_there numbers p (Transfer to) q c t e = list_in (node_in numbers to) c (ap (node_in numbers) (sym t) ∙ e)
ways_there numbers p (Choice test to) q c (inl t) e = in_left c (node_list (node_in numbers to)) (node_list (node_in numbers (suc p))) (list_in (node_in numbers to) c (ap (node_in numbers) (sym t) ∙ e))
ways_there numbers p (Choice test to) q c (inr t) e = in_right c (node_list (node_in numbers to)) (node_list (node_in numbers (suc p))) (list_in (node_in numbers (suc p)) c (ap (node_in numbers) (sym t) ∙ e))
ways_there numbers p (Call g arguments result) q c t e = list_in (node_in numbers (suc p)) c (ap (node_in numbers) (sym t) ∙ e)
ways_there numbers p (Return x) q c t e = absurd t
ways_there numbers p (Ends k) q c t e = absurd t

-- a word at which no way ends leads to the next one
goes_on : (numbers : List (Option ℕ)) (p : ℕ) (word : VirtualWord) → ends_at numbers (suc p) word ≡ false → LeadsTo p word (suc p)
goes_on numbers p (Planned r w items) h = inl refl
goes_on numbers p (Drain n) h = refl
goes_on numbers p (Transfer to) h = absurd (cc)
goes_on numbers p (Choice test to) h = absurd (cc)
goes_on numbers p (Call g arguments result) h = refl
goes_on numbers p (Return x) h = absurd (cc)
goes_on numbers p (Ends k) h = absurd (cc)

-- the routes by the nodes where they begin

way_there : (numbers : List (Option ℕ)) (words : List VirtualWord) (p : ℕ) (ns : List (Option ℕ)) (i c : ℕ) → node_in ns i ≡ Some c → IsIn (way_from numbers (p + i) c (drop (p + i) words)) (ways_from numbers words p ns)
way_there numbers words p [] i c h = absurd (cc)
way_there numbers words p (None ∷ ns) zero c h = absurd (cc)
way_there numbers words p (Some n ∷ ns) zero c h =
    let e : c ≡ n = cc in
    let z : p + 0 ≡ p = omega arith in
    inl (ap (λ k. way_from numbers k c (drop k words)) z ∙ ap (λ k. way_from numbers p k (drop p words)) e)
way_there numbers words p (None ∷ ns) (suc i) c h =
    let z : p + 1 + i ≡ p + suc i = omega arith in
    subst (λ k. IsIn (way_from numbers k c (drop k words)) (ways_from numbers words (p + 1) ns)) z (way_there numbers words (p + 1) ns i c h)
way_there numbers words p (Some n ∷ ns) (suc i) c h =
    let z : p + 1 + i ≡ p + suc i = omega arith in
    inr (subst (λ k. IsIn (way_from numbers k c (drop k words)) (ways_from numbers words (p + 1) ns)) z (way_there numbers words (p + 1) ns i c h))

record WayPlace (numbers : List (Option ℕ)) (words : List VirtualWord) (p : ℕ) (ns : List (Option ℕ)) (r : Route) : Type 0 where
  i : ℕ
  c : ℕ
  at : node_in ns i ≡ Some c
  is : r ≡ way_from numbers (p + i) c (drop (p + i) words)

later_place : (numbers : List (Option ℕ)) (words : List VirtualWord) (p : ℕ) (n : Option ℕ) (ns : List (Option ℕ)) (r : Route) → WayPlace numbers words (p + 1) ns r → WayPlace numbers words p (n ∷ ns) r
later_place numbers words p n ns r s =
    let z : p + 1 + s.i ≡ p + suc s.i = omega arith in
    record { i = suc s.i; c = s.c; at = s.at; is = s.is ∙ ap (λ k. way_from numbers k s.c (drop k words)) z }

way_place : (numbers : List (Option ℕ)) (words : List VirtualWord) (p : ℕ) (ns : List (Option ℕ)) (r : Route) → IsIn r (ways_from numbers words p ns) → WayPlace numbers words p ns r
way_place numbers words p [] r h = absurd h
way_place numbers words p (None ∷ ns) r h = later_place numbers words p None ns r (way_place numbers words (p + 1) ns r h)
way_place numbers words p (Some n ∷ ns) r (inl e) =
    let z : p ≡ p + 0 = omega arith in
    record { i = 0; c = n; at = refl; is = e ∙ ap (λ k. way_from numbers k n (drop k words)) z }
way_place numbers words p (Some n ∷ ns) r (inr h) = later_place numbers words p (Some n) ns r (way_place numbers words (p + 1) ns r h)

-- where the routes of a layout are these

module _ (l : VWords) (nodes : Nodes) (are : AreNodes l nodes) where
  abbrev N : List (Option ℕ)
  N = nodes.numbers

  abbrev R : List Route
  R = ways_from N l.words 0 N

  way_in : (p c : ℕ) → node_in N p ≡ Some c → IsIn (way_from N p c (drop p l.words)) R
  way_in p c h = let z : 0 + p ≡ p = omega arith in subst (λ k. IsIn (way_from N k c (drop k l.words)) R) z (way_there N l.words 0 N p c h)

  record At (i : ℕ) (r : Route) : Type 0 where
    place : ℕ
    node : ℕ
    at : node_in N place ≡ Some node
    is : r ≡ way_from N place node (drop place l.words)

  way_at : (i : ℕ) (r : Route) → slice_get R i ≡ Some r → At i r
  way_at i r h =
      let s = way_place N l.words 0 N r (index_in R i r h) in
      let z : 0 + s.i ≡ s.i = omega arith in
      record { place = s.i; node = s.c; at = s.at; is = s.is ∙ ap (λ k. way_from N k s.c (drop k l.words)) z }

  pub begin_within : BeginWithin nodes.count R
  begin_within i r h =
      let s = way_at i r h in
      subst (λ k. k < nodes.count) (sym (ap (λ (x : Route). x.from) s.is)) (are.count s.place s.node s.at)

  -- what the way from a place reads first is live there

  abbrev Reads : ℕ → ℕ → List VirtualWord → Type 0
  Reads v p words = first_touch v (way_touches N p words) ≡ Some true

  way_reads : (v p : ℕ) (words : List VirtualWord) → drop p l.words ≡ words → Reads v p words → IsLive l p v
  way_reads v p [] e h = absurd (none_not_some h)
  way_reads v p (word ∷ words) e h =
      let w = first_word p l.words words word e in
      let z : p + 1 ≡ suc p = omega arith in
      by w.0 (ends_at N (suc p) word) refl
      (subst (λ n. first_touch v (word_touches word ++ (if ends_at N n word then [] else way_touches N n words)) ≡ Some true) z h)
      (λ g. way_reads v (suc p) words w.1 g)
    where
      read : slice_get l.words p ≡ Some word → (rest : List Touch) → Firsts v word (first_touch v rest) (first_touch v (word_touches word ++ rest)) → first_touch v (word_touches word ++ rest) ≡ Some true → (first_touch v rest ≡ Some true → LeadsTo p word (suc p) × IsLive l (suc p) v) → IsLive l p v
      read at rest (is_read m f) h on = here at m
      read at rest (is_written n m f) h on = absurd (written_not_read f h)
      read at rest (is_left n k f) h on = let o = on (sym f ∙ h) in beyond at k o.0 o.1

      by : slice_get l.words p ≡ Some word → (b : Bool) → ends_at N (suc p) word ≡ b → first_touch v (word_touches word ++ (if ends_at N (suc p) word then [] else way_touches N (suc p) words)) ≡ Some true → (Reads v (suc p) words → IsLive l (suc p) v) → IsLive l p v
      by at true f h on =
          read at [] (firsts v word []) (subst (λ b. first_touch v (word_touches word ++ (if b then [] else way_touches N (suc p) words)) ≡ Some true) f h) (λ q. absurd (none_not_some q))
      by at false f h on =
          read at (way_touches N (suc p) words) (firsts v word (way_touches N (suc p) words)) (subst (λ b. first_touch v (word_touches word ++ (if b then [] else way_touches N (suc p) words)) ≡ Some true) f h) (λ q. (goes_on N p word f, on q))

  -- where it does nothing to v, v is live there if it is at one of its ends

  abbrev Leaves : ℕ → ℕ → List VirtualWord → Type 0
  Leaves v p words = first_touch v (way_touches N p words) ≡ None

  way_leaves : (v p c : ℕ) (words : List VirtualWord) → drop p l.words ≡ words → Leaves v p words → IsIn c (way_ends N p words) → ((q : ℕ) → node_in N q ≡ Some c → IsLive l q v) → IsLive l p v
  way_leaves v p c [] e h m live = absurd m
  way_leaves v p c (word ∷ words) e h m live =
      let w = first_word p l.words words word e in
      let z : p + 1 ≡ suc p = omega arith in
      by w.0 (ends_at N (suc p) word) refl
      (subst (λ n. first_touch v (word_touches word ++ (if ends_at N n word then [] else way_touches N n words)) ≡ None) z h)
      (subst (λ n. IsIn c (if ends_at N n word then word_ways N n word else way_ends N n words)) z m)
      (λ g k. way_leaves v (suc p) c words w.1 g k live)
    where
      left : slice_get l.words p ≡ Some word → (rest : List Touch) → Firsts v word (first_touch v rest) (first_touch v (word_touches word ++ rest)) → first_touch v (word_touches word ++ rest) ≡ None → (first_touch v rest ≡ None → (q : ℕ) × LeadsTo p word q × IsLive l q v) → IsLive l p v
      left at rest (is_read m f) h on = absurd (none_not_some (sym h ∙ f))
      left at rest (is_written n m f) h on = absurd (none_not_some (sym h ∙ f))
      left at rest (is_left n k f) h on = let o = on (sym f ∙ h) in beyond at k o.1 o.2

      by : slice_get l.words p ≡ Some word → (b : Bool) → ends_at N (suc p) word ≡ b → first_touch v (word_touches word ++ (if ends_at N (suc p) word then [] else way_touches N (suc p) words)) ≡ None → IsIn c (if ends_at N (suc p) word then word_ways N (suc p) word else way_ends N (suc p) words) → (Leaves v (suc p) words → IsIn c (way_ends N (suc p) words) → IsLive l (suc p) v) → IsLive l p v
      by at true f h m on =
          let t = ways_back N p word c (subst (λ b. IsIn c (if b then word_ways N (suc p) word else way_ends N (suc p) words)) f m) in
          left at [] (firsts v word []) (subst (λ b. first_touch v (word_touches word ++ (if b then [] else way_touches N (suc p) words)) ≡ None) f h) (λ q. (t.0, t.1, live t.0 t.2))
      by at false f h m on =
          let k = subst (λ b. IsIn c (if b then word_ways N (suc p) word else way_ends N (suc p) words)) f m in
          left at (way_touches N (suc p) words) (firsts v word (way_touches N (suc p) words)) (subst (λ b. first_touch v (word_touches word ++ (if b then [] else way_touches N (suc p) words)) ≡ None) f h) (λ q. (suc p, goes_on N p word f, on q k))

  from_routes : {c v : ℕ} → LiveOn R c v → (p : ℕ) → node_in N p ≡ Some c → IsLive l p v
  from_routes {c} {v} (route_here {r = r} i at f t) p e =
      let s = way_at i r at in
      let same : p ≡ s.place = node_once l nodes are p s.place c e (s.at ∙ ap Some (sym (f ∙ ap (λ (x : Route). x.from) s.is))) in
      subst (λ q. IsLive l q v) (sym same) (way_reads v s.place (drop s.place l.words) refl (subst (λ (x : Route). first_touch v x.touches ≡ Some true) s.is t))
  from_routes {c} {v} (route_beyond {c = d} {r = r} i at f t m on) p e =
      let s = way_at i r at in
      let same : p ≡ s.place = node_once l nodes are p s.place c e (s.at ∙ ap Some (sym (f ∙ ap (λ (x : Route). x.from) s.is))) in
      subst (λ q. IsLive l q v) (sym same) (way_leaves v s.place d (drop s.place l.words) refl (subst (λ (x : Route). first_touch v x.touches ≡ None) s.is t) (subst (λ (x : Route). IsIn d x.to) s.is m) (λ q k. from_routes on q k))

  -- what is live at a place is read on the way from there, or at one of its ends

  abbrev OnWay : ℕ → ℕ → List VirtualWord → Type 0
  OnWay v p words = (first_touch v (way_touches N p words) ≡ Some true) ⊎ ((first_touch v (way_touches N p words) ≡ None) × ((c : ℕ) × IsIn c (way_ends N p words) × LiveOn R c v))

  at_node : (v p c : ℕ) → node_in N p ≡ Some c → OnWay v p (drop p l.words) → LiveOn R c v
  at_node v p c e (inl h) = let i = in_index R (way_from N p c (drop p l.words)) (way_in p c e) in route_here i.0 i.1 refl h
  at_node v p c e (inr h) = let i = in_index R (way_from N p c (drop p l.words)) (way_in p c e) in let t = h.1 in route_beyond i.0 i.1 refl h.0 t.1 t.2

  module _ (inside : Inside l) where
    way_here : (v p : ℕ) (word : VirtualWord) (words : List VirtualWord) → IsIn v (word_reads word) → OnWay v p (word ∷ words)
    way_here v p word words m = inl (by (if ends_at N (p + 1) word then [] else way_touches N (p + 1) words) (firsts v word (if ends_at N (p + 1) word then [] else way_touches N (p + 1) words)))
      where
        by : (rest : List Touch) → Firsts v word (first_touch v rest) (first_touch v (word_touches word ++ rest)) → first_touch v (word_touches word ++ rest) ≡ Some true
        by rest (is_read n f) = f
        by rest (is_written n k f) = absurd (n m)
        by rest (is_left n k f) = absurd (n m)

    -- what is left behind a word, and where it leads, by whether the way ends there

    abbrev Rest : ℕ → Bool → List Touch
    Rest p b = if b then [] else way_touches N (suc p) (drop (suc p) l.words)

    abbrev LedTo : ℕ → VirtualWord → Bool → List ℕ
    LedTo p word b = if b then word_ways N (suc p) word else way_ends N (suc p) (drop (suc p) l.words)

    abbrev Past : ℕ → ℕ → VirtualWord → Bool → Type 0
    Past v p word b = (first_touch v (word_touches word ++ Rest p b) ≡ Some true) ⊎ ((first_touch v (word_touches word ++ Rest p b) ≡ None) × ((c : ℕ) × IsIn c (LedTo p word b) × LiveOn R c v))

    way_past : (v p : ℕ) (word : VirtualWord) (b : Bool) → (IsIn v (word_writes word) → ⊥) → Firsts v word (first_touch v (Rest p b)) (first_touch v (word_touches word ++ Rest p b)) → (first_touch v (Rest p b) ≡ Some true) ⊎ ((first_touch v (Rest p b) ≡ None) × ((c : ℕ) × IsIn c (LedTo p word b) × LiveOn R c v)) → Past v p word b
    way_past v p word b none (is_read m f) o = inl f
    way_past v p word b none (is_written n m f) o = absurd (none m)
    way_past v p word b none (is_left n k f) (inl h) = inl (f ∙ h)
    way_past v p word b none (is_left n k f) (inr h) = inr (f ∙ h.0, h.1)

    way_beyond : (v p q : ℕ) (word : VirtualWord) → slice_get l.words p ≡ Some word → (IsIn v (word_writes word) → ⊥) → LeadsTo p word q → OnWay v q (drop q l.words) → OnWay v p (word ∷ drop (suc p) l.words)
    way_beyond v p q word at none t on =
        let z : suc p ≡ p + 1 = omega arith in
        subst (λ n. (first_touch v (word_touches word ++ (if ends_at N n word then [] else way_touches N n (drop (suc p) l.words))) ≡ Some true) ⊎ ((first_touch v (word_touches word ++ (if ends_at N n word then [] else way_touches N n (drop (suc p) l.words))) ≡ None) × ((c : ℕ) × IsIn c (if ends_at N n word then word_ways N n word else way_ends N n (drop (suc p) l.words)) × LiveOn R c v))) z
        (by (ends_at N (suc p) word) refl)
      where
        by : (b : Bool) → ends_at N (suc p) word ≡ b → Past v p word (ends_at N (suc p) word)
        by true e =
            let c = leads_node l nodes are inside p q word at t e in
            subst (Past v p word) (sym e) (way_past v p word true none (firsts v word (Rest p true)) (inr (refl, (c.0, ways_there N p word q c.0 t c.1, at_node v q c.0 c.1 on))))
        by false e =
            let s = leads_next l nodes are inside p q word at t e in
            subst (Past v p word) (sym e) (way_past v p word false none (firsts v word (Rest p false)) (subst (λ n. OnWay v n (drop n l.words)) s on))

    on_way : {p v : ℕ} → IsLive l p v → OnWay v p (drop p l.words)
    on_way {p} {v} (here {word = word} at m) = subst (OnWay v p) (sym (word_first p l.words word at)) (way_here v p word (drop (suc p) l.words) m)
    on_way {p} {v} (beyond {q = q} {word = word} at none t on) = subst (OnWay v p) (sym (word_first p l.words word at)) (way_beyond v p q word at none t (on_way on))

    pub on_routes : (p c v : ℕ) → node_in N p ≡ Some c → LiveOn R c v ↔ IsLive l p v
    on_routes p c v e = (λ h. from_routes h p e, λ h. at_node v p c e (on_way h))

-- the routes that were found

pub numbers_few : (l : VWords) (nodes : Nodes) (words : List VirtualWord) → AreNodes l nodes → words ≡ l.words → length nodes.numbers ≤ length words
numbers_few l nodes words are is =
    let ms = marked_by_words (marked are.marks l.entry) 0 l.words in
    let n : length nodes.numbers ≡ length l.words = ap length are.numbers ∙ numbers_long 0 ms ∙ words_long (marked are.marks l.entry) 0 l.words ∙ set_long are.marks l.entry ∙ are.few in
    let k : length words ≡ length l.words = ap length is in
    omega arith

pub begins_within : (l : VWords) (nodes : Nodes) (words : List VirtualWord) (routes : List Route) → AreNodes l nodes → words ≡ l.words → routes ≡ ways_from nodes.numbers words 0 nodes.numbers → BeginWithin nodes.count routes
begins_within l nodes words routes are is e = subst (BeginWithin nodes.count) (sym (e ∙ ap (λ w. ways_from nodes.numbers w 0 nodes.numbers) is)) (begin_within l nodes are)

-- the answers at nodes are right
pub lives_exact : (l : VWords) (living : Living) (words : List VirtualWord) (routes : List Route) → NodesFound l living.nodes → Inside l → words ≡ l.words → routes ≡ ways_from living.nodes.numbers words 0 living.nodes.numbers → ((b v : ℕ) → IsTrue (lives living.live b v) ↔ LiveOn routes b v) → LivesAtNodes l living
lives_exact l living words routes found inside same is exact = record {
  nodes = found.are;
  ways = found.ways;
  exact = right;
}
  where
    right : (p n v : ℕ) → node_in living.nodes.numbers p ≡ Some n → IsTrue (lives living.live n v) ↔ IsLive l p v
    right p n v at =
        let e : routes ≡ ways_from living.nodes.numbers l.words 0 living.nodes.numbers = is ∙ ap (λ w. ways_from living.nodes.numbers w 0 living.nodes.numbers) same in (
          λ h. (on_routes l living.nodes found.are inside p n v at).0 (subst (λ rs. LiveOn rs n v) e ((exact n v).0 h)),
          λ h. (exact n v).1 (subst (λ rs. LiveOn rs n v) (sym e) ((on_routes l living.nodes found.are inside p n v at).1 h)),
        )

-- where a layout is entered, and behind its calls, are nodes
pub lives_entered : (l : VWords) (living : Living) → Inside l → l.entry < length l.words → LivesAtNodes l living → LivesAt l living
lives_entered l living inside entry found = record {
  entry = right l.entry (entry_node l living.nodes found.nodes entry);
  behind = λ p g v arguments result at. right (suc p) (leads_node l living.nodes found.nodes inside p (suc p) (Call g arguments result) at refl refl) v;
}
  where
    right : (p : ℕ) → Node living.nodes p → (v : ℕ) → IsTrue (lives_there living p v) ↔ IsLive l p v
    right p n v = subst (λ o. IsTrue (lives_in living.live o v) ↔ IsLive l p v) (sym n.1) (found.exact p n.0 v n.1)
