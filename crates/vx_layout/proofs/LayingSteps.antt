-- The steps by which a graph is laid out: one item, word, region or block more.
use Rattle.std.proofs.Common.{◌≡◌, ℕ, zero, suc, ◌+◌, ◌-◌, ◌<◌, ◌≤◌, Some, List, [], ◌∷◌, ◌++◌, length, map, take, get_or, slice_get, refl, sym, ap, ◌∙◌, arith, append_assoc, append-nil, length-append}
use Rattle.std.proofs.Math.Path.{fun_ext}
use Rattle.std.proofs.lemmas.List.{length-map}
use Rattle.std.proofs.lemmas.Option.{get_or_from_slice_get}
use Rattle.vx_flow.specs.declared.graph.Op.{Op}
use Rattle.vx_flow.specs.Walk.{numbers}
use Rattle.vx_mixed.specs.declared.region.Item.{Item}
use Rattle.vx_mixed.specs.declared.region.Item.TheVariants.{Plain, Split}
use Rattle.vx_mixed.specs.declared.region.Region.{Region}
use Rattle.vx_mixed.specs.declared.region.Node.{Node}
use Rattle.vx_mixed.specs.declared.layout.Laid.{Laid}
use Rattle.vx_mixed.specs.declared.layout.Laid.TheVariants.{Plain as LaidPlain, Split as LaidSplit}
use Rattle.vx_mixed.specs.declared.layout.VirtualWord.{VirtualWord}
use Rattle.vx_mixed.specs.declared.layout.VirtualWord.TheVariants.{Planned}
use Rattle.vx_mixed.specs.declared.mixed.MixedGraph.{MixedGraph}
use Rattle.vx_mixed.specs.Layout.{stub, word_stubs, stubs, laid, laid_words, region_words, region_size, region_place, place_of_node, place_of, all_words}
use Rattle.vx_layout.specs.Laying.{starts_of, places_of, place_in}
use Rattle.vx_layout.proofs.DatedWords.{word_in, dated_region, region_is}
use Rattle.vx_layout.proofs.LayoutPlaces.{dated_region_size}

-- a list that is put together item by item
flat_more : {A B : Type 0} (g : A → List B) (f : List A → List B) → f [] ≡ [] → ((x : A) (xs : List A) → f (x ∷ xs) ≡ g x ++ f xs) → (xs : List A) (i : ℕ) (d : A) → i < length xs → f (take (suc i) xs) ≡ f (take i xs) ++ g (get_or xs i d)
flat_more g f none more [] i d h = absurd (omega arith)
flat_more g f none more (x ∷ xs) zero d h = more x [] ∙ ap (λ z. g x ++ z) none ∙ append-nil (g x) ∙ ap (λ z. z ++ g x) (sym none)
flat_more g f none more (x ∷ xs) (suc i) d h =
    more x (take (suc i) xs) ∙ ap (λ z. g x ++ z) (flat_more g f none more xs i d (omega arith)) ∙ sym (append_assoc (g x) (f (take i xs)) (g (get_or xs i d))) ∙ ap (λ z. z ++ g (get_or xs i d)) (sym (more x (take i xs)))

pub word_stubs_more : (place : ℕ → ℕ) (word : List Item) (i : ℕ) (d : Item) → i < length word → word_stubs place (take (suc i) word) ≡ word_stubs place (take i word) ++ stub place (get_or word i d)
word_stubs_more place word i d h = flat_more (stub place) (word_stubs place) refl (λ x xs. refl) word i d h

pub stubs_more : (place : ℕ → ℕ) (words : List (List Item)) (i : ℕ) (d : List Item) → i < length words → stubs place (take (suc i) words) ≡ stubs place (take i words) ++ word_stubs place (get_or words i d)
stubs_more place words i d h = flat_more (word_stubs place) (stubs place) refl (λ x xs. refl) words i d h

pub places_more : (gs : List Region) (nodes : List Node) (i : ℕ) (d : Node) → i < length nodes → places_of gs (take (suc i) nodes) ≡ places_of gs (take i nodes) ++ place_of_node gs (Some (get_or nodes i d)) ∷ []
places_more gs nodes i d h = flat_more (λ node. place_of_node gs (Some node) ∷ []) (places_of gs) refl (λ x xs. refl) nodes i d h

pub laid_more : (at : ℕ) (word : List Item) (i : ℕ) (d : Item) → i < length word → laid at (take (suc i) word) ≡ laid at (take i word) ++ laid (at + length (word_stubs (λ b. 0) (take i word))) (get_or word i d ∷ [])
laid_more at [] i d h = absurd (omega arith)
laid_more at (x ∷ word) zero d h = let z : at ≡ at + 0 = omega arith in ap (λ k. laid k (x ∷ [])) z
laid_more at (Plain op cluster ∷ word) (suc i) d h = ap (λ z. LaidPlain op cluster ∷ z) (laid_more at word i d (omega arith))
laid_more at (Split p y e n ∷ word) (suc i) d h =
    let here = stub (λ b. 0) (Split p y e n) in
    let rest = word_stubs (λ b. 0) (take i word) in
    let c = length-append here rest in
    let z : at + length here + length rest ≡ at + length (here ++ rest) = omega arith in
    ap (λ q. LaidSplit p y at ∷ q) (laid_more (at + length here) word i d (omega arith) ∙ ap (λ k. laid (at + length here) (take i word) ++ laid k (get_or word i d ∷ [])) z)

pub laid_words_more : (r w at : ℕ) (words : List (List Item)) (i : ℕ) (d : List Item) → i < length words → laid_words r w at (take (suc i) words) ≡ laid_words r w at (take i words) ++ Planned r (w + i) (laid (at + length (stubs (λ b. 0) (take i words))) (get_or words i d)) ∷ []
laid_words_more r w at [] i d h = absurd (omega arith)
laid_words_more r w at (x ∷ words) zero d h =
    let a : at ≡ at + 0 = omega arith in
    let b : w ≡ w + 0 = omega arith in
    ap (λ k. Planned r k (laid at x) ∷ []) b ∙ ap (λ k. Planned r (w + 0) (laid k x) ∷ []) a
laid_words_more r w at (x ∷ words) (suc i) d h =
    let here = word_stubs (λ b. 0) x in
    let rest = stubs (λ b. 0) (take i words) in
    let c = length-append here rest in
    let y : at + length here + length rest ≡ at + length (here ++ rest) = omega arith in
    let z : w + 1 + i ≡ w + suc i = omega arith in
    ap (λ q. Planned r w (laid at x) ∷ q)
    (laid_words_more r (w + 1) (at + length here) words i d (omega arith)
    ∙ ap (λ k. laid_words r (w + 1) (at + length here) (take i words) ++ Planned r k (laid (at + length here + length rest) (get_or words i d)) ∷ []) z
    ∙ ap (λ k. laid_words r (w + 1) (at + length here) (take i words) ++ Planned r (w + suc i) (laid k (get_or words i d)) ∷ []) y)

pub region_place_more : (gs : List Region) (i : ℕ) (d : Region) → i < length gs → region_place gs (suc i) ≡ region_place gs i + region_size (get_or gs i d)
region_place_more [] i d h = absurd (omega arith)
region_place_more (g ∷ gs) zero d h = let z = first gs in omega arith
  where
    first : (gs : List Region) → region_place gs 0 ≡ 0
    first [] = refl
    first (g ∷ gs) = refl
region_place_more (g ∷ gs) (suc i) d h = let r = region_place_more gs i d (omega arith) in omega arith

pub region_place_first : (gs : List Region) → region_place gs 0 ≡ 0
region_place_first [] = refl
region_place_first (g ∷ gs) = refl

pub region_place_past : (gs : List Region) (r : ℕ) → length gs ≤ r → region_place gs r ≡ region_place gs (length gs)
region_place_past [] r h = refl
region_place_past (g ∷ gs) zero h = absurd (omega arith)
region_place_past (g ∷ gs) (suc r) h = ap (λ z. region_size g + z) (region_place_past gs r (omega arith))

-- tables

pub numbers_more : (f : ℕ → ℕ) (b n : ℕ) → map f (numbers b (suc n)) ≡ map f (numbers b n) ++ f (b + n) ∷ []
numbers_more f b zero = let z : b ≡ b + 0 = omega arith in ap (λ k. f k ∷ []) z
numbers_more f b (suc n) = let z : b + 1 + n ≡ b + suc n = omega arith in ap (λ q. f b ∷ q) (numbers_more f (b + 1) n ∙ ap (λ k. map f (numbers (b + 1) n) ++ f k ∷ []) z)

pub numbers_length : (f : ℕ → ℕ) (b n : ℕ) → length (map f (numbers b n)) ≡ n
numbers_length f b zero = refl
numbers_length f b (suc n) = ap suc (numbers_length f (b + 1) n)

pub numbers_at : (f : ℕ → ℕ) (b n k d : ℕ) → k < n → get_or (map f (numbers b n)) k d ≡ f (b + k)
numbers_at f b zero k d h = absurd (omega arith)
numbers_at f b (suc n) zero d h = let z : b ≡ b + 0 = omega arith in ap f z
numbers_at f b (suc n) (suc k) d h = let z : b + 1 + k ≡ b + suc k = omega arith in numbers_at f (b + 1) n k d (omega arith) ∙ ap f z

pub places_are : (m : MixedGraph) (b : ℕ) → place_in (places_of m.regions m.nodes) b ≡ place_of m b
places_are m b = at m.nodes b
  where
    at : (nodes : List Node) (b : ℕ) → place_in (places_of m.regions nodes) b ≡ place_of_node m.regions (slice_get nodes b)
    at [] b = refl
    at (x ∷ nodes) zero = refl
    at (x ∷ nodes) (suc b) = at nodes b

-- regions

pub region_words_size : (place : ℕ → ℕ) (r at : ℕ) (g : Region) → length (region_words place r at g) ≡ region_size g
region_words_size place r at g = sym (ap length (region_is none place r at g)) ∙ length-map (dated_region none place r at g) word_in ∙ dated_region_size none place r at g
  where
    none : Op → ℕ
    none op = 0

pub all_words_more : (m : MixedGraph) (r at : ℕ) (gs : List Region) (i : ℕ) (d : Region) → i < length gs → all_words m r at (take (suc i) gs) ≡ all_words m r at (take i gs) ++ region_words (place_of m) (r + i) (at + length (all_words m r at (take i gs))) (get_or gs i d)
all_words_more m r at [] i d h = absurd (omega arith)
all_words_more m r at (g ∷ gs) zero d h =
    let a : at ≡ at + 0 = omega arith in
    let b : r ≡ r + 0 = omega arith in
    append-nil (region_words (place_of m) r at g) ∙ ap (λ k. region_words (place_of m) k at g) b ∙ ap (λ k. region_words (place_of m) (r + 0) k g) a
all_words_more m r at (g ∷ gs) (suc i) d h =
    let here = region_words (place_of m) r at g in
    let rest = all_words m (r + 1) (at + region_size g) (take i gs) in
    let c = length-append here rest in
    let e = region_words_size (place_of m) r at g in
    let y : at + region_size g + length rest ≡ at + length (here ++ rest) = omega arith in
    let z : r + 1 + i ≡ r + suc i = omega arith in
    let x = get_or gs i d in
    ap (λ q. here ++ q)
    (all_words_more m (r + 1) (at + region_size g) gs i d (omega arith)
    ∙ ap (λ k. rest ++ region_words (place_of m) k (at + region_size g + length rest) x) z
    ∙ ap (λ k. rest ++ region_words (place_of m) (r + suc i) k x) y)
    ∙ sym (append_assoc here rest (region_words (place_of m) (r + suc i) (at + length (here ++ rest)) x))

-- turns of loops

abbrev none : ℕ → ℕ
none b = 0

suc_is : (i : ℕ) → suc i ≡ i + 1
suc_is i = omega arith

counted : {A B : Type 0} (f : List A → List B) (xs : List A) (i : ℕ) (b : List B) → f (take (suc i) xs) ≡ f (take i xs) ++ b → length (f (take (i + 1) xs)) ≡ length (f (take i xs)) + length b
counted f xs i b e = ap (λ j. length (f (take j xs))) (sym (suc_is i)) ∙ ap length e ∙ length-append (f (take i xs)) b

pub word_stubs_turn : (word : List Item) (at i count more total : ℕ) (x d : Item) → i < length word → get_or word i d ≡ x → count ≡ at + length (word_stubs none (take i word)) → more ≡ length (stub none x) → total ≡ count + more → total ≡ at + length (word_stubs none (take (i + 1) word))
word_stubs_turn word at i count more total x d h e c m t =
    let s = counted (word_stubs none) word i (stub none (get_or word i d)) (word_stubs_more none word i d h) in
    let k : length (stub none (get_or word i d)) ≡ length (stub none x) = ap (λ z. length (stub none z)) e in
    omega arith

pub stubs_turn : (words : List (List Item)) (at i count more total : ℕ) (x d : List Item) → i < length words → get_or words i d ≡ x → count ≡ at + length (stubs none (take i words)) → more ≡ length (word_stubs none x) → total ≡ count + more → total ≡ at + length (stubs none (take (i + 1) words))
stubs_turn words at i count more total x d h e c m t =
    let s = counted (stubs none) words i (word_stubs none (get_or words i d)) (stubs_more none words i d h) in
    let k : length (word_stubs none (get_or words i d)) ≡ length (word_stubs none x) = ap (λ z. length (word_stubs none z)) e in
    omega arith

-- a list to which the next part is put
appended : {A : Type 0} (old before after part new part' : List A) → before ≡ old ++ part → after ≡ before ++ new → part' ≡ part ++ new → after ≡ old ++ part'
appended old before after part new part' b a e = a ∙ ap (λ z. z ++ new) b ∙ append_assoc old part new ∙ ap (λ z. old ++ z) (sym e)

pub push_word_stubs_turn : (place : ℕ → ℕ) (word : List Item) (i : ℕ) (x d : Item) (old before after : List VirtualWord) → i < length word → get_or word i d ≡ x → before ≡ old ++ word_stubs place (take i word) → after ≡ before ++ stub place x → after ≡ old ++ word_stubs place (take (i + 1) word)
push_word_stubs_turn place word i x d old before after h e b a =
    appended old before after (word_stubs place (take i word)) (stub place x) (word_stubs place (take (i + 1) word)) b a
    (ap (λ j. word_stubs place (take j word)) (sym (suc_is i)) ∙ word_stubs_more place word i d h ∙ ap (λ z. word_stubs place (take i word) ++ stub place z) e)

pub push_stubs_turn : (place : ℕ → ℕ) (words : List (List Item)) (i : ℕ) (x d : List Item) (old before after : List VirtualWord) → i < length words → get_or words i d ≡ x → before ≡ old ++ stubs place (take i words) → after ≡ before ++ word_stubs place x → after ≡ old ++ stubs place (take (i + 1) words)
push_stubs_turn place words i x d old before after h e b a =
    appended old before after (stubs place (take i words)) (word_stubs place x) (stubs place (take (i + 1) words)) b a
    (ap (λ j. stubs place (take j words)) (sym (suc_is i)) ∙ stubs_more place words i d h ∙ ap (λ z. stubs place (take i words) ++ word_stubs place z) e)

pub laid_turn : (at : ℕ) (word : List Item) (i place : ℕ) (x d : Item) (before after : List Laid) (r : Laid) → i < length word → get_or word i d ≡ x → place ≡ at + length (word_stubs none (take i word)) → before ≡ laid at (take i word) → laid place (x ∷ []) ≡ r ∷ [] → after ≡ before ++ r ∷ [] → after ≡ laid at (take (i + 1) word)
laid_turn at word i place x d before after r h e p b f a =
    a ∙ ap (λ z. z ++ r ∷ []) b ∙ ap (λ z. laid at (take i word) ++ z) (sym f) ∙ ap (λ z. laid at (take i word) ++ laid z (x ∷ [])) p
    ∙ ap (λ z. laid at (take i word) ++ laid (at + length (word_stubs none (take i word))) (z ∷ [])) (sym e) ∙ sym (laid_more at word i d h) ∙ ap (λ j. laid at (take j word)) (suc_is i)

pub planned_turn : (r at : ℕ) (words : List (List Item)) (i place : ℕ) (x d : List Item) (items : List Laid) (old before after : List VirtualWord) → i < length words → get_or words i d ≡ x → place ≡ at + length (stubs none (take i words)) → items ≡ laid place x →
    before ≡ old ++ laid_words r 0 at (take i words) → after ≡ before ++ Planned r i items ∷ [] → after ≡ old ++ laid_words r 0 at (take (i + 1) words)
planned_turn r at words i place x d items old before after h e p l b a =
    let z : i ≡ 0 + i = omega arith in
    appended old before after (laid_words r 0 at (take i words)) (Planned r i items ∷ []) (laid_words r 0 at (take (i + 1) words)) b a
    (ap (λ j. laid_words r 0 at (take j words)) (sym (suc_is i)) ∙ laid_words_more r 0 at words i d h
    ∙ ap (λ k. laid_words r 0 at (take i words) ++ Planned r k (laid (at + length (stubs none (take i words))) (get_or words i d)) ∷ []) (sym z)
    ∙ ap (λ k. laid_words r 0 at (take i words) ++ Planned r i (laid k (get_or words i d)) ∷ []) (sym p)
    ∙ ap (λ k. laid_words r 0 at (take i words) ++ Planned r i (laid place k) ∷ []) e
    ∙ ap (λ k. laid_words r 0 at (take i words) ++ Planned r i k ∷ []) (sym l))

pub starts_turn : (gs : List Region) (i start more total : ℕ) (x d : Region) (before after : List ℕ) → i < length gs → get_or gs i d ≡ x → start ≡ region_place gs i → more ≡ region_size x → total ≡ start + more → before ≡ map (region_place gs) (numbers 0 (i + 1)) → after ≡ before ++ total ∷ [] →
    (total ≡ region_place gs (i + 1)) × (after ≡ map (region_place gs) (numbers 0 (i + 1 + 1)))
starts_turn gs i start more total x d before after h e s m t b a =
    let q : region_size (get_or gs i d) ≡ region_size x = ap region_size e in
    let p = region_place_more gs i d h in
    let one = suc_is i in
    let next : total ≡ region_place gs (suc i) = omega arith in
    let here : total ≡ region_place gs (i + 1) = next ∙ ap (region_place gs) one in
    let z : 0 + (i + 1) ≡ i + 1 = omega arith in
    (here, a ∙ ap (λ l. l ++ total ∷ []) b ∙ ap (λ k. map (region_place gs) (numbers 0 (i + 1)) ++ k ∷ []) (here ∙ ap (region_place gs) (sym z)) ∙ sym (numbers_more (region_place gs) 0 (i + 1)) ∙ ap (λ j. map (region_place gs) (numbers 0 j)) (suc_is (i + 1)))

pub starts_begin : (gs : List Region) (list : List ℕ) → list ≡ 0 ∷ [] → (0 ≡ region_place gs 0) × (list ≡ region_place gs 0 ∷ [])
starts_begin gs list e = (sym (region_place_first gs), e ∙ ap (λ z. z ∷ []) (sym (region_place_first gs)))

pub graph_turn : (m : MixedGraph) (places : List ℕ) (i : ℕ) (x d : Region) (before after : List VirtualWord) → ((b : ℕ) → place_in places b ≡ place_of m b) → i < length m.regions → get_or m.regions i d ≡ x → before ≡ all_words m 0 0 (take i m.regions) → after ≡ before ++ region_words (place_in places) i (length before) x → after ≡ all_words m 0 0 (take (i + 1) m.regions)
graph_turn m places i x d before after p h e b a =
    let part = all_words m 0 0 (take i m.regions) in
    let z : i ≡ 0 + i = omega arith in
    let y : length part ≡ 0 + length part = omega arith in
    let same : place_in places ≡ place_of m = fun_ext p in
    a ∙ ap (λ k. k ++ region_words (place_in places) i (length k) x) b ∙ ap (λ k. part ++ region_words k i (length part) x) same ∙ ap (λ k. part ++ region_words (place_of m) i (length part) k) (sym e)
    ∙ ap (λ k. part ++ region_words (place_of m) k (length part) (get_or m.regions i d)) z ∙ ap (λ k. part ++ region_words (place_of m) (0 + i) k (get_or m.regions i d)) y ∙ sym (all_words_more m 0 0 m.regions i d h) ∙ ap (λ j. all_words m 0 0 (take j m.regions)) (suc_is i)

pub start_within : (gs : List Region) (starts : List ℕ) (r d : ℕ) → starts ≡ starts_of gs → r < length starts → get_or starts r d ≡ region_place gs r
start_within gs starts r d e h =
    let n : length starts ≡ length gs + 1 = ap length e ∙ numbers_length (region_place gs) 0 (length gs + 1) in
    let z : 0 + r ≡ r = omega arith in
    ap (λ l. get_or l r d) e ∙ numbers_at (region_place gs) 0 (length gs + 1) r d (omega arith) ∙ ap (region_place gs) z

pub start_past : (gs : List Region) (starts : List ℕ) (r end : ℕ) → starts ≡ starts_of gs → length starts ≤ r → slice_get starts (length starts - 1) ≡ Some end → end ≡ region_place gs r
start_past gs starts r end e h f =
    let n : length starts ≡ length gs + 1 = ap length e ∙ numbers_length (region_place gs) 0 (length gs + 1) in
    let k : length starts - 1 ≡ length gs = omega arith in
    let last : get_or starts (length gs) end ≡ end = get_or_from_slice_get starts (length gs) end end (ap (slice_get starts) (sym k) ∙ f) in
    sym last ∙ start_within gs starts (length gs) end e (omega arith) ∙ sym (region_place_past gs r (omega arith))
