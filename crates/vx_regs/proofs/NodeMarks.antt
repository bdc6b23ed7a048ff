-- What the words of a layout mark stays marked, and what is marked is a node.
use Rattle.std.proofs.Common.{◌≡◌, ℕ, zero, suc, ◌+◌, ◌<◌, ◌≤◌, Bool, true, false, not, Option, Some, None, List, [], ◌∷◌, ◌++◌, length, slice_get, refl, sym, ap, ◌∙◌, subst, inl, inr, arith, append_assoc, append-nil}
use Rattle.std.specs.Prelude.{◌⊎◌, is_some}
use Rattle.vx_flow.specs.Effects.{IsIn}
use Rattle.vx_flow.specs.Rows.{is_marked}
use Rattle.vx_mixed.specs.declared.layout.Laid.{Laid}
use Rattle.vx_mixed.specs.declared.layout.Laid.TheVariants.{Plain, Split}
use Rattle.vx_mixed.specs.declared.layout.VirtualWord.{VirtualWord}
use Rattle.vx_mixed.specs.declared.layout.VirtualWord.TheVariants.{Planned, Drain, Transfer, Choice, Call, Return, Ends}
use Rattle.vx_mixed.specs.declared.layout.VWords.{VWords}
use Rattle.vx_mixed.specs.LaidSettled.{LeadsTo}
use Rattle.vx_regs.specs.declared.nodes.Nodes.{Nodes}
use Rattle.vx_regs.specs.Ways.{number_if, next_if, marked, marked_by_item, marked_by_items, marked_by_word, marked_by_words, numbered, node_in, ends_at, starts, steps_on, AreNodes, NodesFound}

-- marks

pub set_long : (marks : List Bool) (p : ℕ) → length (marked marks p) ≡ length marks
set_long [] p = refl
set_long (m ∷ marks) zero = refl
set_long (m ∷ marks) (suc p) = ap suc (set_long marks p)

pub set_past : (marks : List Bool) (p : ℕ) → length marks ≤ p → marked marks p ≡ marks
set_past [] p h = refl
set_past (m ∷ marks) zero h = absurd (omega arith)
set_past (m ∷ marks) (suc p) h = ap (λ l. m ∷ l) (set_past marks p (omega arith))

set_there : (marks : List Bool) (p : ℕ) → p < length marks → is_marked (marked marks p) p ≡ true
set_there [] p h = absurd (omega arith)
set_there (m ∷ marks) zero h = refl
set_there (m ∷ marks) (suc p) h = set_there marks p (omega arith)

set_more : (marks : List Bool) (p q : ℕ) → is_marked marks q ≡ true → is_marked (marked marks p) q ≡ true
set_more [] p q h = h
set_more (m ∷ marks) zero zero h = refl
set_more (m ∷ marks) zero (suc q) h = h
set_more (m ∷ marks) (suc p) zero h = h
set_more (m ∷ marks) (suc p) (suc q) h = set_more marks p q h

-- both places of an item
two_there : (marks : List Bool) (to next : ℕ) → to < length marks → is_marked (marked (marked marks to) next) to ≡ true
two_there marks to next h = set_more (marked marks to) next to (set_there marks to h)

two_next : (marks : List Bool) (to next : ℕ) → next < length marks → is_marked (marked (marked marks to) next) next ≡ true
two_next marks to next h = set_there (marked marks to) next (subst (λ n. next < n) (sym (set_long marks to)) h)

two_more : (marks : List Bool) (to next q : ℕ) → is_marked marks q ≡ true → is_marked (marked (marked marks to) next) q ≡ true
two_more marks to next q h = set_more (marked marks to) next q (set_more marks to q h)

two_long : (marks : List Bool) (to next : ℕ) → length (marked (marked marks to) next) ≡ length marks
two_long marks to next = set_long (marked marks to) next ∙ set_long marks to

item_long : (marks : List Bool) (next : ℕ) (item : Laid) → length (marked_by_item marks next item) ≡ length marks
item_long marks next (Plain op cluster) = refl
item_long marks next (Split test y to) = two_long marks to next

item_more : (marks : List Bool) (next : ℕ) (item : Laid) (q : ℕ) → is_marked marks q ≡ true → is_marked (marked_by_item marks next item) q ≡ true
item_more marks next (Plain op cluster) q h = h
item_more marks next (Split test y to) q h = two_more marks to next q h

items_long : (marks : List Bool) (next : ℕ) (items : List Laid) → length (marked_by_items marks next items) ≡ length marks
items_long marks next [] = refl
items_long marks next (item ∷ items) = items_long (marked_by_item marks next item) next items ∙ item_long marks next item

items_more : (marks : List Bool) (next : ℕ) (items : List Laid) (q : ℕ) → is_marked marks q ≡ true → is_marked (marked_by_items marks next items) q ≡ true
items_more marks next [] q h = h
items_more marks next (item ∷ items) q h = items_more (marked_by_item marks next item) next items q (item_more marks next item q h)

split_there : (marks : List Bool) (next : ℕ) (items : List Laid) (test to : ℕ) (y : Bool) → IsIn (Split test y to) items → to < length marks → is_marked (marked_by_items marks next items) to ≡ true
split_there marks next [] test to y m h = absurd m
split_there marks next (item ∷ items) test to y (inl e) h = items_more (marked_by_item marks next item) next items to (subst (λ x. is_marked (marked_by_item marks next x) to ≡ true) e (two_there marks to next h))
split_there marks next (item ∷ items) test to y (inr m) h = split_there (marked_by_item marks next item) next items test to y m (subst (λ n. to < n) (sym (item_long marks next item)) h)

split_next : (marks : List Bool) (next : ℕ) (items : List Laid) (test to : ℕ) (y : Bool) → IsIn (Split test y to) items → next < length marks → is_marked (marked_by_items marks next items) next ≡ true
split_next marks next [] test to y m h = absurd m
split_next marks next (item ∷ items) test to y (inl e) h = items_more (marked_by_item marks next item) next items next (subst (λ x. is_marked (marked_by_item marks next x) next ≡ true) e (two_next marks to next h))
split_next marks next (item ∷ items) test to y (inr m) h = split_next (marked_by_item marks next item) next items test to y m (subst (λ n. next < n) (sym (item_long marks next item)) h)

word_long : (marks : List Bool) (next : ℕ) (word : VirtualWord) → length (marked_by_word marks next word) ≡ length marks
word_long marks next (Planned r w items) = items_long marks next items
word_long marks next (Drain n) = refl
word_long marks next (Transfer to) = set_long marks to
word_long marks next (Choice test to) = two_long marks to next
word_long marks next (Call g arguments result) = set_long marks next
word_long marks next (Return x) = refl
word_long marks next (Ends k) = refl

word_more : (marks : List Bool) (next : ℕ) (word : VirtualWord) (q : ℕ) → is_marked marks q ≡ true → is_marked (marked_by_word marks next word) q ≡ true
word_more marks next (Planned r w items) q h = items_more marks next items q h
word_more marks next (Drain n) q h = h
word_more marks next (Transfer to) q h = set_more marks to q h
word_more marks next (Choice test to) q h = two_more marks to next q h
word_more marks next (Call g arguments result) q h = set_more marks next q h
word_more marks next (Return x) q h = h
word_more marks next (Ends k) q h = h

words_more : (marks : List Bool) (p : ℕ) (words : List VirtualWord) (q : ℕ) → is_marked marks q ≡ true → is_marked (marked_by_words marks p words) q ≡ true
words_more marks p [] q h = h
words_more marks p (word ∷ words) q h = words_more (marked_by_word marks (p + 1) word) (p + 1) words q (word_more marks (p + 1) word q h)

pub words_long : (marks : List Bool) (p : ℕ) (words : List VirtualWord) → length (marked_by_words marks p words) ≡ length marks
words_long marks p [] = refl
words_long marks p (word ∷ words) = words_long (marked_by_word marks (p + 1) word) (p + 1) words ∙ word_long marks (p + 1) word

-- the word marks a place, whatever was marked before
abbrev Marks : (places next : ℕ) → VirtualWord → ℕ → Type 0
Marks places next word z = (marks : List Bool) → length marks ≡ places → is_marked (marked_by_word marks next word) z ≡ true

words_there : (marks : List Bool) (p : ℕ) (words : List VirtualWord) (i : ℕ) (word : VirtualWord) (z : ℕ) → slice_get words i ≡ Some word → Marks (length marks) (p + i + 1) word z → is_marked (marked_by_words marks p words) z ≡ true
words_there marks p [] i word z at m = absurd (cc)
words_there marks p (w ∷ words) zero word z at m =
    let q : word ≡ w = cc in
    let k : p + 0 + 1 ≡ p + 1 = omega arith in
    words_more (marked_by_word marks (p + 1) w) (p + 1) words z (subst (λ x. is_marked (marked_by_word marks (p + 1) x) z ≡ true) q (subst (λ n. is_marked (marked_by_word marks n word) z ≡ true) k (m marks refl)))
words_there marks p (w ∷ words) (suc i) word z at m =
    let k : p + suc i + 1 ≡ p + 1 + i + 1 = omega arith in
    words_there (marked_by_word marks (p + 1) w) (p + 1) words i word z at (λ ms e. subst (λ n. is_marked (marked_by_word ms n word) z ≡ true) k (m ms (e ∙ word_long marks (p + 1) w)))

-- numbers

numbered_some : (n : ℕ) (marks : List Bool) (p : ℕ) → is_marked marks p ≡ true → (k : ℕ) × (node_in (numbered n marks) p ≡ Some k)
numbered_some n [] p h = absurd (cc)
numbered_some n (true ∷ marks) zero h = (n, refl)
numbered_some n (false ∷ marks) zero h = absurd (cc)
numbered_some n (true ∷ marks) (suc p) h = numbered_some (n + 1) marks p h
numbered_some n (false ∷ marks) (suc p) h = numbered_some n marks p h

numbered_from : (n : ℕ) (marks : List Bool) (p k : ℕ) → node_in (numbered n marks) p ≡ Some k → n ≤ k
numbered_from n [] p k h = absurd (cc)
numbered_from n (true ∷ marks) zero k h = let e : n ≡ k = cc in omega arith
numbered_from n (false ∷ marks) zero k h = absurd (cc)
numbered_from n (true ∷ marks) (suc p) k h = let e = numbered_from (n + 1) marks p k h in omega arith
numbered_from n (false ∷ marks) (suc p) k h = numbered_from n marks p k h

numbered_once : (n : ℕ) (marks : List Bool) (p q k : ℕ) → node_in (numbered n marks) p ≡ Some k → node_in (numbered n marks) q ≡ Some k → p ≡ q
numbered_once n [] p q k a b = absurd (cc)
numbered_once n (true ∷ marks) zero zero k a b = refl
numbered_once n (true ∷ marks) zero (suc q) k a b = let e : n ≡ k = cc in let f = numbered_from (n + 1) marks q k b in absurd (omega arith)
numbered_once n (true ∷ marks) (suc p) zero k a b = let e : n ≡ k = cc in let f = numbered_from (n + 1) marks p k a in absurd (omega arith)
numbered_once n (true ∷ marks) (suc p) (suc q) k a b = ap suc (numbered_once (n + 1) marks p q k a b)
numbered_once n (false ∷ marks) zero q k a b = absurd (cc)
numbered_once n (false ∷ marks) (suc p) zero k a b = absurd (cc)
numbered_once n (false ∷ marks) (suc p) (suc q) k a b = ap suc (numbered_once n marks p q k a b)

pub numbers_long : (n : ℕ) (marks : List Bool) → length (numbered n marks) ≡ length marks
numbers_long n [] = refl
numbers_long n (mark ∷ marks) = ap suc (numbers_long (next_if mark n) marks)

-- numbers so far, and marks that are left
pub record Numbering (marks : List Bool) (numbers : List (Option ℕ)) (count : ℕ) (rest : List Bool) : Type 0 where
  pub whole : numbers ++ numbered count rest ≡ numbered 0 marks
  pub below : (place n : ℕ) → node_in numbers place ≡ Some n → n < count

below_more : (numbers : List (Option ℕ)) (count : ℕ) (mark : Bool) → ((place n : ℕ) → node_in numbers place ≡ Some n → n < count) → (place n : ℕ) → node_in (numbers ++ number_if mark count ∷ []) place ≡ Some n → n < next_if mark count
below_more [] count true h zero n e = let q : count ≡ n = cc in omega arith
below_more [] count false h zero n e = absurd (cc)
below_more [] count mark h (suc place) n e = absurd (cc)
below_more (x ∷ numbers) count true h zero n e = let q = h zero n e in omega arith
below_more (x ∷ numbers) count false h zero n e = h zero n e
below_more (x ∷ numbers) count mark h (suc place) n e = below_more numbers count mark (λ p k q. h (suc p) k q) place n e

pub numbering_first : (marks : List Bool) → Numbering marks [] 0 marks
numbering_first marks = record { whole = refl; below = λ place n e. absurd (cc) }

pub numbering_next : (marks rest : List Bool) (mark : Bool) (numbers more : List (Option ℕ)) (count next : ℕ) → Numbering marks numbers count (mark ∷ rest) → more ≡ numbers ++ number_if mark count ∷ [] → next ≡ next_if mark count → Numbering marks more next rest
numbering_next marks rest mark numbers more count next s e n = record {
  whole = ap (λ l. l ++ numbered next rest) e ∙ ap (λ k. (numbers ++ number_if mark count ∷ []) ++ numbered k rest) n ∙ append_assoc numbers (number_if mark count ∷ []) (numbered (next_if mark count) rest) ∙ s.whole;
  below = λ place k h. subst (λ c. k < c) (sym n) (below_more numbers count mark s.below place k (subst (λ l. node_in l place ≡ Some k) e h));
}

pub numbering_last : (marks : List Bool) (numbers : List (Option ℕ)) (count : ℕ) → Numbering marks numbers count [] → numbers ≡ numbered 0 marks
numbering_last marks numbers count s = sym (append-nil numbers) ∙ s.whole

starts_long : (b : Bool) (words : List VirtualWord) → length (starts b words) ≡ length words
starts_long b [] = refl
starts_long b (word ∷ words) = ap suc (starts_long (not (steps_on word)) words)

steps_there : (word : VirtualWord) (p : ℕ) → steps_on word ≡ true → LeadsTo p word (suc p)
steps_there (Planned r w items) p h = inl refl
steps_there (Drain n) p h = refl
steps_there (Transfer to) p h = absurd (let e : false ≡ true = h in cc)
steps_there (Choice test to) p h = inr refl
steps_there (Call g arguments result) p h = refl
steps_there (Return x) p h = absurd (let e : false ≡ true = h in cc)
steps_there (Ends k) p h = absurd (let e : false ≡ true = h in cc)

-- a place is marked, or the word above leads there
starts_or : (b : Bool) (words : List VirtualWord) (place : ℕ) → place < length words → b ≡ true → (is_marked (starts b words) place ≡ true) ⊎ ((p : ℕ) × (word : VirtualWord) × (place ≡ suc p) × (slice_get words p ≡ Some word) × (steps_on word ≡ true))
starts_or b [] place h e = absurd (omega arith)
starts_or b (word ∷ words) zero h e = inl e
starts_or b (word ∷ words) (suc place) h e = by (steps_on word) refl place (omega arith)
  where
    one : (x : Bool) → steps_on word ≡ x → is_marked (starts (not x) words) zero ≡ is_marked (starts (not (steps_on word)) words) zero
    one x q = ap (λ z. is_marked (starts (not z) words) zero) (sym q)

    deeper : (c : Bool) (ws : List VirtualWord) (place : ℕ) → suc place < length ws → (is_marked (starts c ws) (suc place) ≡ true) ⊎ ((p : ℕ) × (w : VirtualWord) × (place ≡ p) × (slice_get ws p ≡ Some w) × (steps_on w ≡ true))
    deeper c [] place g = absurd (omega arith)
    deeper c (w ∷ []) zero g = absurd (omega arith)
    deeper c (w ∷ (u ∷ ws)) zero g = two (steps_on w) refl
      where
        two : (x : Bool) → steps_on w ≡ x → (is_marked (starts c (w ∷ (u ∷ ws))) (suc zero) ≡ true) ⊎ ((p : ℕ) × (z : VirtualWord) × (zero ≡ p) × (slice_get (w ∷ (u ∷ ws)) p ≡ Some z) × (steps_on z ≡ true))
        two true q = inr (zero, w, refl, refl, q)
        two false q = inl (ap not q)
    deeper c (w ∷ ws) (suc place) g = three (deeper (not (steps_on w)) ws place (omega arith))
      where
        three : (is_marked (starts (not (steps_on w)) ws) (suc place) ≡ true) ⊎ ((p : ℕ) × (z : VirtualWord) × (place ≡ p) × (slice_get ws p ≡ Some z) × (steps_on z ≡ true)) → (is_marked (starts c (w ∷ ws)) (suc (suc place)) ≡ true) ⊎ ((p : ℕ) × (z : VirtualWord) × (suc place ≡ p) × (slice_get (w ∷ ws) p ≡ Some z) × (steps_on z ≡ true))
        three (inl m) = inl m
        three (inr r) = inr (suc r.0, r.1, ap suc r.2, r.3, r.4)

    by : (x : Bool) → steps_on word ≡ x → (place : ℕ) → place < length words → (is_marked (starts b (word ∷ words)) (suc place) ≡ true) ⊎ ((p : ℕ) × (w : VirtualWord) × (suc place ≡ suc p) × (slice_get (word ∷ words) p ≡ Some w) × (steps_on w ≡ true))
    by x q place g = back (deeper b (word ∷ words) place (omega arith))
      where
        back : (is_marked (starts b (word ∷ words)) (suc place) ≡ true) ⊎ ((p : ℕ) × (w : VirtualWord) × (place ≡ p) × (slice_get (word ∷ words) p ≡ Some w) × (steps_on w ≡ true)) → (is_marked (starts b (word ∷ words)) (suc place) ≡ true) ⊎ ((p : ℕ) × (w : VirtualWord) × (suc place ≡ suc p) × (slice_get (word ∷ words) p ≡ Some w) × (steps_on w ≡ true))
        back (inl m) = inl m
        back (inr r) = inr (r.0, r.1, ap suc r.2, r.3, r.4)

pub nodes_found : (l : VWords) (nodes : Nodes) (start first last : List Bool) → start ≡ starts true l.words → first ≡ marked start l.entry → last ≡ marked_by_words first 0 l.words → nodes.numbers ≡ numbered 0 last → ((place n : ℕ) → node_in nodes.numbers place ≡ Some n → n < nodes.count) → NodesFound l nodes
nodes_found l nodes start first last s a b c count = record {
  are = record { marks = starts true l.words; few = starts_long true l.words; numbers = all; count = count };
  ways = record { reached = λ place h. by place (starts_or true l.words place h refl) };
}
  where
    all : nodes.numbers ≡ numbered 0 (marked_by_words (marked (starts true l.words) l.entry) 0 l.words)
    all = c ∙ ap (numbered 0) (b ∙ ap (λ m. marked_by_words m 0 l.words) (a ∙ ap (λ m. marked m l.entry) s))

    by : (place : ℕ) → (is_marked (starts true l.words) place ≡ true) ⊎ ((p : ℕ) × (word : VirtualWord) × (place ≡ suc p) × (slice_get l.words p ≡ Some word) × (steps_on word ≡ true)) → ((n : ℕ) × (node_in nodes.numbers place ≡ Some n)) ⊎ ((p : ℕ) × (word : VirtualWord) × (place ≡ suc p) × (slice_get l.words p ≡ Some word) × LeadsTo p word place)
    by place (inl m) =
        let r = numbered_some 0 (marked_by_words (marked (starts true l.words) l.entry) 0 l.words) place (words_more (marked (starts true l.words) l.entry) 0 l.words place (set_more (starts true l.words) l.entry place m)) in
        inl (r.0, ap (λ ns. node_in ns place) all ∙ r.1)
    by place (inr r) = inr (r.0, r.1, r.2, r.3, subst (LeadsTo r.0 r.1) (sym r.2) (steps_there r.1 r.0 r.4))

-- nodes

abbrev pub Node : Nodes → ℕ → Type 0
Node nodes z = (n : ℕ) × (node_in nodes.numbers z ≡ Some n)

some_is : (o : Option ℕ) → is_some o ≡ true → (n : ℕ) × (o ≡ Some n)
some_is None h = absurd (cc)
some_is (Some n) h = (n, refl)

some_so : (o : Option ℕ) (n : ℕ) → o ≡ Some n → is_some o ≡ false → ⊥
some_so None n e h = absurd (cc)
some_so (Some m) n e h = absurd (cc)

abbrev pub Inside : VWords → Type 0
Inside l = (p q : ℕ) (word : VirtualWord) → slice_get l.words p ≡ Some word → LeadsTo p word q → q < length l.words

module _ (l : VWords) (nodes : Nodes) (are : AreNodes l nodes) where
  pub node_once : (p q n : ℕ) → node_in nodes.numbers p ≡ Some n → node_in nodes.numbers q ≡ Some n → p ≡ q
  node_once p q n a b =
      let ms = marked_by_words (marked are.marks l.entry) 0 l.words in
      numbered_once 0 ms p q n (subst (λ ns. node_in ns p ≡ Some n) are.numbers a) (subst (λ ns. node_in ns q ≡ Some n) are.numbers b)

  is_node : (z : ℕ) → is_marked (marked_by_words (marked are.marks l.entry) 0 l.words) z ≡ true → Node nodes z
  is_node z h =
      let r = numbered_some 0 (marked_by_words (marked are.marks l.entry) 0 l.words) z h in
      (r.0, subst (λ ns. node_in ns z ≡ Some r.0) (sym are.numbers) r.1)

  pub entry_node : l.entry < length l.words → Node nodes l.entry
  entry_node h = is_node l.entry (words_more (marked are.marks l.entry) 0 l.words l.entry (set_there are.marks l.entry (subst (λ n. l.entry < n) (sym are.few) h)))

  word_node : (p z : ℕ) (word : VirtualWord) → slice_get l.words p ≡ Some word → Marks (length l.words) (suc p) word z → Node nodes z
  word_node p z word at m =
      let k : suc p ≡ 0 + p + 1 = omega arith in
      let n : length (marked are.marks l.entry) ≡ length l.words = set_long are.marks l.entry ∙ are.few in
      is_node z (words_there (marked are.marks l.entry) 0 l.words p word z at (λ ms e. subst (λ i. is_marked (marked_by_word ms i word) z ≡ true) k (m ms (e ∙ n))))

  module _ (inside : Inside l) where
    below : (p z : ℕ) (word : VirtualWord) → slice_get l.words p ≡ Some word → LeadsTo p word z → (marks : List Bool) → length marks ≡ length l.words → z < length marks
    below p z word at t marks e = subst (λ n. z < n) (sym e) (inside p z word at t)

    -- a way that ends at a word leads to nodes
    pub leads_node : (p z : ℕ) (word : VirtualWord) → slice_get l.words p ≡ Some word → LeadsTo p word z → ends_at nodes.numbers (suc p) word ≡ true → Node nodes z
    leads_node p z (Planned r w items) at (inl e) h = let o = some_is (node_in nodes.numbers (suc p)) h in (o.0, ap (node_in nodes.numbers) e ∙ o.1)
    leads_node p z (Planned r w items) at (inr s) h = word_node p z (Planned r w items) at (λ ms e. split_there ms (suc p) items s.0 z s.1 s.2 (below p z (Planned r w items) at (inr s) ms e))
    leads_node p z (Drain n) at e h = let o = some_is (node_in nodes.numbers (suc p)) h in (o.0, ap (node_in nodes.numbers) e ∙ o.1)
    leads_node p z (Transfer to) at e h = word_node p z (Transfer to) at (λ ms k. subst (λ i. is_marked (marked ms i) z ≡ true) e (set_there ms z (below p z (Transfer to) at e ms k)))
    leads_node p z (Choice test to) at (inl e) h = word_node p z (Choice test to) at (λ ms k. subst (λ i. is_marked (marked (marked ms i) (suc p)) z ≡ true) e (two_there ms z (suc p) (below p z (Choice test to) at (inl e) ms k)))
    leads_node p z (Choice test to) at (inr e) h = word_node p z (Choice test to) at (λ ms k. subst (λ i. is_marked (marked (marked ms to) i) z ≡ true) e (two_next ms to z (below p z (Choice test to) at (inr e) ms k)))
    leads_node p z (Call g arguments result) at e h = word_node p z (Call g arguments result) at (λ ms k. subst (λ i. is_marked (marked ms i) z ≡ true) e (set_there ms z (below p z (Call g arguments result) at e ms k)))
    leads_node p z (Return x) at t h = absurd t
    leads_node p z (Ends k) at t h = absurd t

    -- another leads to the next word alone
    pub leads_next : (p z : ℕ) (word : VirtualWord) → slice_get l.words p ≡ Some word → LeadsTo p word z → ends_at nodes.numbers (suc p) word ≡ false → z ≡ suc p
    leads_next p z (Planned r w items) at (inl e) h = e
    leads_next p z (Planned r w items) at (inr s) h =
        let n = word_node p (suc p) (Planned r w items) at (λ ms e. split_next ms (suc p) items s.0 z s.1 s.2 (below p (suc p) (Planned r w items) at (inl refl) ms e)) in
        absurd (some_so (node_in nodes.numbers (suc p)) n.0 n.1 h)
    leads_next p z (Drain n) at e h = e
    leads_next p z (Transfer to) at e h = absurd (cc)
    leads_next p z (Choice test to) at t h = absurd (cc)
    leads_next p z (Call g arguments result) at e h = e
    leads_next p z (Return x) at t h = absurd t
    leads_next p z (Ends k) at t h = absurd t
