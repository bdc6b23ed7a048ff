-- An operation on states that agree on what it reads leaves alike. It reads in s and t and writes onto s0 and t0, so that it
-- serves the operations of a word too.
use Rattle.std.proofs.Common.{◌≡◌, inl, inr, ℕ, ℤ, pos, Bool, true, false, cond, ◌==◌, List, [], ◌∷◌, ◌++◌, length, map, slice_set, slice_index_or, Option, Some, None, refl, sym, ap, subst, ◌∙◌, eq-eqb}
use Rattle.std.proofs.lemmas.Bool.{false≢true}
use Rattle.std.specs.List.{flat_map}
use Rattle.std.specs.Fmt.{signed_decimal}
use Rattle.vx_base.specs.Arithmetic.{value_of, one_if}
use Rattle.vx_flow.specs.declared.graph.Operand.{Operand}
use Rattle.vx_flow.specs.declared.graph.Operand.TheVariants.{Held, Number, Stack}
use Rattle.vx_flow.specs.declared.graph.Op.{Op}
use Rattle.vx_flow.specs.declared.graph.Op.TheVariants.{Compute, Select, Place, Load, Store, More, Input, Text, Decimal, Across, Base, PlaceIn}
use Rattle.vx_flow.specs.Effects.{Content, State, Setting, IsIn, held, is_unary, both, computed, is_one, chosen, place_of, place_by, row_of, cell_in, is_left, text_at, with_value, with_cell, loaded, stored, next_input, printed, effect, value_in, reads, writes, ReadsBesides, TheInput}
use Rattle.vx_flow.specs.Meaning.{with_front, known}
use Rattle.vx_flow.specs.Agree.{SameWorld, Agree}
use Rattle.vx_flow.proofs.Members.{in_left, in_right}

-- where x is a number y is the same one
abbrev pub Refined : Content → Content → Type 0
Refined x y = (n : ℤ) → x ≡ Some n → y ≡ Some n

-- so of each of these values
abbrev pub Knows : List ℕ → State → State → Type 0
Knows vs s t = (v : ℕ) → IsIn v vs → Refined (s.values v) (t.values v)

-- and of those that live and are not among these
abbrev pub KnowsOthers : (lives : ℕ → Type 0) → List ℕ → State → State → Type 0
KnowsOthers lives vs s t = (v : ℕ) → lives v → (IsIn v vs → ⊥) → Refined (s.values v) (t.values v)

pub knows_left : (xs ys : List ℕ) (s t : State) → Knows (xs ++ ys) s t → Knows xs s t
knows_left xs ys s t k v m = k v (in_left v xs ys m)

pub knows_right : (xs ys : List ℕ) (s t : State) → Knows (xs ++ ys) s t → Knows ys s t
knows_right xs ys s t k v m = k v (in_right v xs ys m)

pub held_refined : (s t : State) (x : Operand) → Knows (value_in x) s t → Refined (held s x) (held t x)
held_refined s t (Held v) k = k v (inl refl)
held_refined s t (Number m) k = λ n e. e
held_refined s t Stack k = λ n e. absurd (cc)

-- what is computed

both_refined : (f : ℤ → ℤ → ℤ) (x y x' y' : Content) → Refined x x' → Refined y y' → Refined (both f x y) (both f x' y')
both_refined f None y x' y' h k n e = absurd (cc)
both_refined f (Some a) None x' y' h k n e = absurd (cc)
both_refined f (Some a) (Some b) x' y' h k n e =
    subst (λ q. both f q y' ≡ Some n) (sym (h a refl)) (subst (λ q. both f (Some a) q ≡ Some n) (sym (k b refl)) e)

computed_refined : (unary : Bool) (f : ℤ → ℤ → ℤ) (s t : State) (a b : Operand) → Knows (cond unary (value_in a) (value_in a ++ value_in b)) s t →
    Refined (cond unary (held s a) (both f (held s a) (held s b))) (cond unary (held t a) (both f (held t a) (held t b)))
computed_refined true f s t a b k = held_refined s t a k
computed_refined false f s t a b k =
    both_refined f (held s a) (held s b) (held t a) (held t b) (held_refined s t a (knows_left (value_in a) (value_in b) s t k)) (held_refined s t b (knows_right (value_in a) (value_in b) s t k))

choice_refined : (one : Bool) (a b a' b' : Content) → Refined a a' → Refined b b' → Refined (cond one a b) (cond one a' b')
choice_refined true a b a' b' h k = h
choice_refined false a b a' b' h k = k

chosen_refined : (x x' a b a' b' : Content) → Refined x x' → Refined a a' → Refined b b' → Refined (chosen x a b) (chosen x' a' b')
chosen_refined None x' a b a' b' r h k n e = absurd (cc)
chosen_refined (Some z) x' a b a' b' r h k n e = subst (λ q. chosen q a' b' ≡ Some n) (sym (r z refl)) (choice_refined (is_one z) a b a' b' h k n e)

place_refined : (x x' : Content) → Refined x x' → Refined (place_of x) (place_of x')
place_refined None x' r n e = absurd (cc)
place_refined (Some i) x' r n e = subst (λ q. place_of q ≡ Some n) (sym (r i refl)) e

pub place_by_refined : (b b' x x' : Content) → Refined b b' → Refined x x' → Refined (place_by b x) (place_by b' x')
place_by_refined None b' x x' q r n e = absurd (cc)
place_by_refined (Some k) b' x x' q r n e = subst (λ z. place_by z x' ≡ Some n) (sym (q k refl)) (place_refined x x' r n e)

-- what is written

pub same_world : (s : State) → SameWorld s s
same_world s = record { arrays = refl; input = refl; out = refl }

pub with_value_agrees : (lives : ℕ → Type 0) (s t : State) (v : ℕ) (x y : Content) → SameWorld s t → KnowsOthers lives (v ∷ []) s t → Refined x y → Agree lives (with_value s v x) (with_value t v y)
with_value_agrees lives s t v x y w k r = record {
  world = record { arrays = w.arrays; input = w.input; out = w.out };
  values = λ u n live e. by u n live (u == v) refl e;
}
  where
    by : (u : ℕ) (n : ℤ) → lives u → (same : Bool) → (u == v) ≡ same → cond same x (s.values u) ≡ Some n → cond same y (t.values u) ≡ Some n
    by u n live true q e = r n e
    by u n live false q e = k u live (λ m. elim m [ inl i ↦ false≢true (sym q ∙ eq-eqb u v i) | inr z ↦ absurd z ]) n e

-- what an operation comes to in t, where it comes to s' in s
pub record Done (lives : ℕ → Type 0) (s' : State) (after : Option State) : Type 0 where
  pub state : State
  pub is : after ≡ Some state
  pub agree : Agree lives s' state

some_is : (s t : State) → Option.Some s ≡ Some t → s ≡ t
some_is s t e = cc

agree_on : (lives : ℕ → Type 0) (s s' t : State) → Option.Some s ≡ Some s' → Agree lives s t → Agree lives s' t
agree_on lives s s' t e a = subst (λ q. Agree lives q t) (some_is s s' e) a

value_done : (lives : ℕ → Type 0) (s t s' : State) (v : ℕ) (x y : Content) → SameWorld s t → KnowsOthers lives (v ∷ []) s t → Refined x y → Some (with_value s v x) ≡ Some s' → Done lives s' (Some (with_value t v y))
value_done lives s t s' v x y w k r e = record { state = with_value t v y; is = refl; agree = agree_on lives (with_value s v x) s' (with_value t v y) e (with_value_agrees lives s t v x y w k r) }

-- loads and stores

loaded_done : (lives : ℕ → Type 0) (s t s' : State) (v : ℕ) (row : List Content) (i j : Option ℕ) (dismissible : Bool) → SameWorld s t → KnowsOthers lives (v ∷ []) s t → ((k : ℕ) → i ≡ Some k → j ≡ Some k) →
    loaded s v row i dismissible ≡ Some s' → Done lives s' (loaded t v row j dismissible)
loaded_done lives s t s' v row None None true w k r e = value_done lives s t s' v None None w k (λ n f. f) e
loaded_done lives s t s' v row None (Some j) true w k r e = value_done lives s t s' v None (slice_index_or row j None) w k (λ n f. absurd (cc)) e
loaded_done lives s t s' v row None j false w k r e = absurd (cc)
loaded_done lives s t s' v row (Some i) j dismissible w k r e =
    subst (λ q. Done lives s' (loaded t v row q dismissible)) (sym (r i refl)) (value_done lives s t s' v (slice_index_or row i None) (slice_index_or row i None) w k (λ n f. f) e)

cell_refined : (words : ℕ) (x y : Content) → Refined x y → (k : ℕ) → cell_in words x ≡ Some k → cell_in words y ≡ Some k
cell_refined words None y r k e = absurd (cc)
cell_refined words (Some z) y r k e = subst (λ q. cell_in words q ≡ Some k) (sym (r z refl)) e

with_cell_agrees : (lives : ℕ → Type 0) (s t : State) (a i : ℕ) (x : Content) → SameWorld s t → KnowsOthers lives [] s t → Agree lives (with_cell s a i x) (with_cell t a i x)
with_cell_agrees lives s t a i x w k = record {
  world = record { arrays = ap (λ rows. slice_set rows a (slice_set (slice_index_or rows a []) i x)) w.arrays; input = w.input; out = w.out };
  values = λ v n live e. k v live (λ m. m) n e;
}

stored_done : (lives : ℕ → Type 0) (s t s' : State) (a : ℕ) (i j : Option ℕ) (x y : Content) → SameWorld s t → KnowsOthers lives [] s t → ((k : ℕ) → i ≡ Some k → j ≡ Some k) → Refined x y →
    stored s a i x ≡ Some s' → Done lives s' (stored t a j y)
stored_done lives s t s' a None j x y w k r q e = absurd (cc)
stored_done lives s t s' a (Some i) j None y w k r q e = absurd (cc)
stored_done lives s t s' a (Some i) j (Some n) y w k r q e =
    subst (λ p. Done lives s' (stored t a p y)) (sym (r i refl))
    (subst (λ p. Done lives s' (stored t a (Some i) p)) (sym (q n refl))
    (record { state = with_cell t a i (Some n); is = refl; agree = agree_on lives (with_cell s a i (Some n)) s' (with_cell t a i (Some n)) e (with_cell_agrees lives s t a i (Some n) w k) }))

-- input and output

input_done : (lives : ℕ → Type 0) (s t s' : State) (v : ℕ) (ns ms : List ℤ) → SameWorld s t → KnowsOthers lives (v ∷ []) s t → ms ≡ ns → next_input s v ns ≡ Some s' → Done lives s' (next_input t v ms)
input_done lives s t s' v [] ms w k q e = absurd (cc)
input_done lives s t s' v (n ∷ ns) ms w k q e =
    let a = with_value_agrees lives s t v (Some n) (Some n) w k (λ m f. f) in
    let s1 : State = record (with_value s v (Some n)) { input = ns } in
    let t1 : State = record (with_value t v (Some n)) { input = ns } in
    let done : Agree lives s1 t1 = record { world = record { arrays = a.world.arrays; input = refl; out = a.world.out }; values = a.values } in
    subst (λ p. Done lives s' (next_input t v p)) (sym q) (record { state = t1; is = refl; agree = agree_on lives s1 s' t1 e done })

out_agrees : (lives : ℕ → Type 0) (s t : State) (xs ys : List ℕ) → SameWorld s t → KnowsOthers lives [] s t → ys ≡ xs → Agree lives (record s { out = xs }) (record t { out = ys })
out_agrees lives s t xs ys w k e = record { world = record { arrays = w.arrays; input = w.input; out = e }; values = λ v n live f. k v live (λ m. m) n f }

out_done : (lives : ℕ → Type 0) (s t s' : State) (xs ys : List ℕ) → SameWorld s t → KnowsOthers lives [] s t → ys ≡ xs → Some (record s { out = xs }) ≡ Some s' → Done lives s' (Some (record t { out = ys }))
out_done lives s t s' xs ys w k q e = record { state = record t { out = ys }; is = refl; agree = agree_on lives (record s { out = xs }) s' (record t { out = ys }) e (out_agrees lives s t xs ys w k q) }

printed_done : (lives : ℕ → Type 0) (s t s' : State) (xs ys : List ℕ) (x y : Content) → SameWorld s t → KnowsOthers lives [] s t → ys ≡ xs → Refined x y → printed s xs x ≡ Some s' → Done lives s' (printed t ys y)
printed_done lives s t s' xs ys None y w k q r e = absurd (cc)
printed_done lives s t s' xs ys (Some n) y w k q r e =
    subst (λ p. Done lives s' (printed t ys p)) (sym (r n refl)) (out_done lives s t s' (xs ++ signed_decimal n) (ys ++ signed_decimal n) w k (ap (λ p. p ++ signed_decimal n) q) e)

-- operations

-- what an operation writes that writes one value and does nothing else: it is made of what the operation reads
abbrev pub content : Setting → State → Op → Content
content setting s (Compute code v a b) = computed code (held s a) (held s b)
content setting s (Select v p a b) = chosen (s.values p) (held s a) (held s b)
content setting s (Place v a i) = place_of (held s i)
content setting s (More v) = Some (one_if (is_left s.input))
content setting s (Across v u) = s.values u
content setting s (Base v a x) = Some (pos (setting.spot a))
content setting s (PlaceIn v a u i) = place_by (s.values u) (held s i)
content setting s op = None

-- of a load, a store, a reading of the input and a printing this says nothing
pub content_refined : (setting : Setting) (op : Op) (s t : State) → Knows (reads op) s t → (ReadsBesides setting s op TheInput → t.input ≡ s.input) → Refined (content setting s op) (content setting t op)
content_refined setting (Compute code v a b) s t k i = computed_refined (is_unary code) (value_of code) s t a b k
content_refined setting (Select v p a b) s t k i =
    chosen_refined (s.values p) (t.values p) (held s a) (held s b) (held t a) (held t b) (k p (inl refl))
    (held_refined s t a (λ u m. k u (inr (in_left u (value_in a) (value_in b) m))))
    (held_refined s t b (λ u m. k u (inr (in_right u (value_in a) (value_in b) m))))
content_refined setting (Place v a x) s t k i = place_refined (held s x) (held t x) (held_refined s t x k)
content_refined setting (More v) s t k i = λ n f. ap (λ z. Some (one_if (is_left z))) (i refl) ∙ f
content_refined setting (Across v u) s t k i = k u (inl refl)
content_refined setting (PlaceIn v a u x) s t k i =
    place_by_refined (s.values u) (t.values u) (held s x) (held t x) (knows_right (value_in x) (u ∷ []) s t k u (inl refl)) (held_refined s t x (knows_left (value_in x) (u ∷ []) s t k))
content_refined setting op s t k i = λ n f. f

pub effect_alike : (lives : ℕ → Type 0) (setting : Setting) (op : Op) (s t s0 t0 s' : State) → SameWorld s t → SameWorld s0 t0 → Knows (reads op) s t → KnowsOthers lives (writes op) s0 t0 →
    effect setting s op s0 ≡ Some s' → Done lives s' (effect setting t op t0)
effect_alike lives setting (Load v a p dismissible) s t s0 t0 s' w w0 k o e =
    let row : List Content = row_of s (setting.spot a) in
    let rows : row_of t (setting.spot a) ≡ row = ap (λ r. slice_index_or r (setting.spot a) []) w.arrays in
    subst (λ r. Done lives s' (loaded t0 v r (cell_in (length r) (held t p)) dismissible)) (sym rows)
    (loaded_done lives s0 t0 s' v row (cell_in (length row) (held s p)) (cell_in (length row) (held t p)) dismissible w0 o (cell_refined (length row) (held s p) (held t p) (held_refined s t p k)) e)
effect_alike lives setting (Store a p x) s t s0 t0 s' w w0 k o e =
    let row : List Content = row_of s (setting.spot a) in
    let rows : row_of t (setting.spot a) ≡ row = ap (λ r. slice_index_or r (setting.spot a) []) w.arrays in
    subst (λ r. Done lives s' (stored t0 (setting.spot a) (cell_in (length r) (held t p)) (held t x))) (sym rows)
    (stored_done lives s0 t0 s' (setting.spot a) (cell_in (length row) (held s p)) (cell_in (length row) (held t p)) (held s x) (held t x) w0 o
    (cell_refined (length row) (held s p) (held t p) (held_refined s t p (knows_left (value_in p) (value_in x) s t k)))
    (held_refined s t x (knows_right (value_in p) (value_in x) s t k)) e)
effect_alike lives setting (Input v) s t s0 t0 s' w w0 k o e = input_done lives s0 t0 s' v s.input t.input w0 o w.input e
effect_alike lives setting (Text n) s t s0 t0 s' w w0 k o e = out_done lives s0 t0 s' (s.out ++ text_at setting n) (t.out ++ text_at setting n) w0 o (ap (λ p. p ++ text_at setting n) w.out) e
effect_alike lives setting (Decimal x) s t s0 t0 s' w w0 k o e = printed_done lives s0 t0 s' s.out t.out (held s x) (held t x) w0 o w.out (held_refined s t x k) e
effect_alike lives setting op s t s0 t0 s' w w0 k o e = value_done lives s0 t0 s' _ (content setting s op) (content setting t op) w0 o (content_refined setting op s t k (λ r. w.input)) e

-- what is known of some operands, in both

front_refined : (n : ℤ) (o o' : Option (List ℤ)) → ((ns : List ℤ) → o ≡ Some ns → o' ≡ Some ns) → (ns : List ℤ) → with_front n o ≡ Some ns → with_front n o' ≡ Some ns
front_refined n None o' f ns e = absurd (cc)
front_refined n (Some ms) o' f ns e = subst (λ q. with_front n q ≡ Some ns) (sym (f ms refl)) e

known_front : (x y : Content) (xs ys : List Content) → Refined x y → ((ns : List ℤ) → known xs ≡ Some ns → known ys ≡ Some ns) → (ns : List ℤ) → known (x ∷ xs) ≡ Some ns → known (y ∷ ys) ≡ Some ns
known_front None y xs ys r f ns e = absurd (cc)
known_front (Some n) y xs ys r f ns e = subst (λ q. known (q ∷ ys) ≡ Some ns) (sym (r n refl)) (front_refined n (known xs) (known ys) f ns e)

pub known_refined : (s t : State) (xs : List Operand) → Knows (flat_map value_in xs) s t → (ns : List ℤ) → known (map (held s) xs) ≡ Some ns → known (map (held t) xs) ≡ Some ns
known_refined s t [] k ns e = e
known_refined s t (x ∷ xs) k ns e =
    known_front (held s x) (held t x) (map (held s) xs) (map (held t) xs)
    (held_refined s t x (knows_left (value_in x) (flat_map value_in xs) s t k))
    (λ ms f. known_refined s t xs (knows_right (value_in x) (flat_map value_in xs) s t k) ms f) ns e
