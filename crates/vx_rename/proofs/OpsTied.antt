-- An operation under names does in the new state what the old one does in the old state.
use Rattle.std.proofs.Common.{◌≡◌, inl, inr, ℕ, ℤ, pos, ◌==◌, Bool, true, false, cond, List, [], ◌∷◌, ◌++◌, length, map, slice_set, slice_index_or, Option, Some, None, refl, sym, ap, subst, ◌∙◌, eq-eqb}
use Rattle.std.proofs.lemmas.Bool.{and_parts, false≢true, eqb-true}
use Rattle.std.specs.List.{flat_map}
use Rattle.std.specs.Fmt.{signed_decimal}
use Rattle.vx_base.specs.Arithmetic.{value_of, one_if}
use Rattle.vx_flow.specs.declared.graph.Operand.{Operand}
use Rattle.vx_flow.specs.declared.graph.Operand.TheVariants.{Held, Number, Stack}
use Rattle.vx_flow.specs.declared.graph.Op.{Op}
use Rattle.vx_flow.specs.declared.graph.Op.TheVariants.{Compute, Select, Place, Load, Store, More, Input, Text, Decimal, Across, Base, PlaceIn}
use Rattle.vx_flow.specs.Effects.{Content, State, Setting, held, is_unary, both, computed, is_one, chosen, place_of, place_by, row_of, cell_in, cell_of, is_left, text_at, with_value, with_cell, loaded, stored, next_input, printed, effect, value_in, reads}
use Rattle.vx_flow.specs.Operands.{held_by, written_by, with_value_in}
use Rattle.vx_flow.specs.Meaning.{known}
use Rattle.vx_flow.specs.Agree.{SameWorld}
use Rattle.vx_flow.proofs.Members.{in_left, in_right}
use Rattle.vx_flow.proofs.EffectsAlike.{Refined, Knows, knows_left, knows_right, held_refined, known_refined, place_by_refined}
use Rattle.vx_flow.proofs.SoundLists.{all_in}
use Rattle.vx_rename.specs.Renaming.{Standing, place, place_if, put, put_if, forget, forget_if, renamed_op, source_of, is_there, all_stand, writes_alone}
use Rattle.vx_rename.proofs.Standings.{Tied, tied_place, tied_written, tied_forgotten, written_there, elsewhere_read}

-- the new state, its values under the old names
abbrev pub seen : (ℕ → ℕ) → State → State
seen name t = record t { values = λ v. t.values (name v) }

pub knows : (n : Standing) (vs : List ℕ) (s t : State) → Tied n s.values t.values → all_stand n vs ≡ true → Knows vs s (seen n.name t)
knows n vs s t tied h v m = tied v (all_in n.stands vs v h m)

-- an operand under names holds in the new state what it holds in that one
pub held_seen : (name : ℕ → ℕ) (t : State) (x : Operand) → held t (with_value_in name x) ≡ held (seen name t) x
held_seen name t (Held v) = refl
held_seen name t (Number n) = refl
held_seen name t Stack = refl

pub all_seen : (name : ℕ → ℕ) (t : State) (xs : List Operand) → map (held t) (map (with_value_in name) xs) ≡ map (held (seen name t)) xs
all_seen name t [] = refl
all_seen name t (x ∷ xs) = ap (λ c. c ∷ map (held t) (map (with_value_in name) xs)) (held_seen name t x) ∙ ap (λ l. held (seen name t) x ∷ l) (all_seen name t xs)

pub seen_refined : (name : ℕ → ℕ) (s t : State) (x : Operand) → Knows (value_in x) s (seen name t) → Refined (held s x) (held t (with_value_in name x))
seen_refined name s t x k = subst (Refined (held s x)) (sym (held_seen name t x)) (held_refined s (seen name t) x k)

pub known_seen : (name : ℕ → ℕ) (s t : State) (xs : List Operand) → Knows (flat_map value_in xs) s (seen name t) → (ns : List ℤ) → known (map (held s) xs) ≡ Some ns → known (map (held t) (map (with_value_in name) xs)) ≡ Some ns
known_seen name s t xs k ns e = ap known (all_seen name t xs) ∙ known_refined s (seen name t) xs k ns e

-- ---- what is computed

both_refined : (f : ℤ → ℤ → ℤ) (x y x' y' : Content) → Refined x x' → Refined y y' → Refined (both f x y) (both f x' y')
both_refined f None y x' y' h k n e = absurd (cc)
both_refined f (Some a) None x' y' h k n e = absurd (cc)
both_refined f (Some a) (Some b) x' y' h k n e =
    subst (λ q. both f q y' ≡ Some n) (sym (h a refl)) (subst (λ q. both f (Some a) q ≡ Some n) (sym (k b refl)) e)

computed_refined : (unary : Bool) (f : ℤ → ℤ → ℤ) (name : ℕ → ℕ) (s t : State) (a b : Operand) → Knows (cond unary (value_in a) (value_in a ++ value_in b)) s (seen name t) →
    Refined (cond unary (held s a) (both f (held s a) (held s b))) (cond unary (held t (with_value_in name a)) (both f (held t (with_value_in name a)) (held t (with_value_in name b))))
computed_refined true f name s t a b k = seen_refined name s t a k
computed_refined false f name s t a b k =
    both_refined f (held s a) (held s b) (held t (with_value_in name a)) (held t (with_value_in name b))
    (seen_refined name s t a (knows_left (value_in a) (value_in b) s (seen name t) k)) (seen_refined name s t b (knows_right (value_in a) (value_in b) s (seen name t) k))

choice_refined : (one : Bool) (a b a' b' : Content) → Refined a a' → Refined b b' → Refined (cond one a b) (cond one a' b')
choice_refined true a b a' b' h k = h
choice_refined false a b a' b' h k = k

chosen_refined : (x x' a b a' b' : Content) → Refined x x' → Refined a a' → Refined b b' → Refined (chosen x a b) (chosen x' a' b')
chosen_refined None x' a b a' b' r h k n e = absurd (cc)
chosen_refined (Some z) x' a b a' b' r h k n e = subst (λ q. chosen q a' b' ≡ Some n) (sym (r z refl)) (choice_refined (is_one z) a b a' b' h k n e)

place_refined : (x x' : Content) → Refined x x' → Refined (place_of x) (place_of x')
place_refined None x' r n e = absurd (cc)
place_refined (Some i) x' r n e = subst (λ q. place_of q ≡ Some n) (sym (r i refl)) e

cell_refined : (words : ℕ) (x y : Content) → Refined x y → (k : ℕ) → cell_in words x ≡ Some k → cell_in words y ≡ Some k
cell_refined words None y r k e = absurd (cc)
cell_refined words (Some z) y r k e = subst (λ q. cell_in words q ≡ Some k) (sym (r z refl)) e

-- ---- what is written

-- what an operation comes to in the new state, where it comes to s' in the old one
pub record Done (n : Standing) (s' : State) (after : Option State) : Type 0 where
  pub state : State
  pub is : after ≡ Some state
  pub world : SameWorld s' state
  pub tied : Tied n s'.values state.values

some_is : (s t : State) → Option.Some s ≡ Some t → s ≡ t
some_is s t e = cc

done_by : (n : Standing) (s s' t : State) → Option.Some s ≡ Some s' → SameWorld s t → Tied n s.values t.values → Done n s' (Some t)
done_by n s s' t e w tied = subst (λ q. Done n q (Some t)) (some_is s s' e) (record { state = t; is = refl; world = w; tied = tied })

value_done : (n : Standing) (s t s' : State) (v w : ℕ) (x y : Content) → SameWorld s t → Tied n s.values t.values → Refined x y → Some (with_value s v x) ≡ Some s' → Done (put n v w) s' (Some (with_value t w y))
value_done n s t s' v w x y same tied r e =
    done_by (put n v w) (with_value s v x) s' (with_value t w y) e (record { arrays = same.arrays; input = same.input; out = same.out }) (tied_written n v w s.values t.values x y tied r)

loaded_done : (n : Standing) (s t s' : State) (v w : ℕ) (row : List Content) (i j : Option ℕ) (dismissible : Bool) → SameWorld s t → Tied n s.values t.values → ((k : ℕ) → i ≡ Some k → j ≡ Some k) →
    loaded s v row i dismissible ≡ Some s' → Done (put n v w) s' (loaded t w row j dismissible)
loaded_done n s t s' v w row None None true same tied r e = value_done n s t s' v w None None same tied (λ m f. f) e
loaded_done n s t s' v w row None (Some j) true same tied r e = value_done n s t s' v w None (slice_index_or row j None) same tied (λ m f. absurd (cc)) e
loaded_done n s t s' v w row None j false same tied r e = absurd (cc)
loaded_done n s t s' v w row (Some i) j dismissible same tied r e =
    subst (λ q. Done (put n v w) s' (loaded t w row q dismissible)) (sym (r i refl)) (value_done n s t s' v w (slice_index_or row i None) (slice_index_or row i None) same tied (λ m f. f) e)

stored_done : (n : Standing) (s t s' : State) (a : ℕ) (i j : Option ℕ) (x y : Content) → SameWorld s t → Tied n s.values t.values → ((k : ℕ) → i ≡ Some k → j ≡ Some k) → Refined x y →
    stored s a i x ≡ Some s' → Done n s' (stored t a j y)
stored_done n s t s' a None j x y same tied r q e = absurd (cc)
stored_done n s t s' a (Some i) j None y same tied r q e = absurd (cc)
stored_done n s t s' a (Some i) j (Some m) y same tied r q e =
    let world : SameWorld (with_cell s a i (Some m)) (with_cell t a i (Some m)) = record { arrays = ap (λ rows. slice_set rows a (slice_set (slice_index_or rows a []) i (Some m))) same.arrays; input = same.input; out = same.out } in
    subst (λ p. Done n s' (stored t a p y)) (sym (r i refl))
    (subst (λ p. Done n s' (stored t a (Some i) p)) (sym (q m refl))
    (done_by n (with_cell s a i (Some m)) s' (with_cell t a i (Some m)) e world tied))

input_done : (n : Standing) (s t s' : State) (v w : ℕ) (ns ms : List ℤ) → SameWorld s t → Tied n s.values t.values → ms ≡ ns → next_input s v ns ≡ Some s' → Done (put n v w) s' (next_input t w ms)
input_done n s t s' v w [] ms same tied q e = absurd (cc)
input_done n s t s' v w (m ∷ ns) ms same tied q e =
    let s1 : State = record (with_value s v (Some m)) { input = ns } in
    let t1 : State = record (with_value t w (Some m)) { input = ns } in
    subst (λ p. Done (put n v w) s' (next_input t w p)) (sym q)
    (done_by (put n v w) s1 s' t1 e (record { arrays = same.arrays; input = refl; out = same.out }) (tied_written n v w s.values t.values (Some m) (Some m) tied (λ k f. f)))

out_done : (n : Standing) (s t s' : State) (xs ys : List ℕ) → SameWorld s t → Tied n s.values t.values → ys ≡ xs → Some (record s { out = xs }) ≡ Some s' → Done n s' (Some (record t { out = ys }))
out_done n s t s' xs ys same tied q e = done_by n (record s { out = xs }) s' (record t { out = ys }) e (record { arrays = same.arrays; input = same.input; out = q }) tied

printed_done : (n : Standing) (s t s' : State) (xs ys : List ℕ) (x y : Content) → SameWorld s t → Tied n s.values t.values → ys ≡ xs → Refined x y → printed s xs x ≡ Some s' → Done n s' (printed t ys y)
printed_done n s t s' xs ys None y same tied q r e = absurd (cc)
printed_done n s t s' xs ys (Some m) y same tied q r e =
    subst (λ p. Done n s' (printed t ys p)) (sym (r m refl)) (out_done n s t s' (xs ++ signed_decimal m) (ys ++ signed_decimal m) same tied (ap (λ p. p ++ signed_decimal m) q) e)

-- ---- operations

pub op_tied : (n : Standing) (w : ℕ) (setting : Setting) (op : Op) (s t s' : State) → SameWorld s t → Tied n s.values t.values → Knows (reads op) s (seen n.name t) →
    effect setting s op s ≡ Some s' → Done (put_if n (written_by op) w) s' (effect setting t (renamed_op n.name w op) t)
op_tied n w setting (Compute code v a b) s t s' same tied k e =
    value_done n s t s' v w (computed code (held s a) (held s b)) (computed code (held t (with_value_in n.name a)) (held t (with_value_in n.name b))) same tied (computed_refined (is_unary code) (value_of code) n.name s t a b k) e
op_tied n w setting (Select v p a b) s t s' same tied k e =
    value_done n s t s' v w (chosen (s.values p) (held s a) (held s b)) (chosen (t.values (n.name p)) (held t (with_value_in n.name a)) (held t (with_value_in n.name b))) same tied
    (chosen_refined (s.values p) (t.values (n.name p)) (held s a) (held s b) (held t (with_value_in n.name a)) (held t (with_value_in n.name b)) (k p (inl refl))
    (seen_refined n.name s t a (λ u m. k u (inr (in_left u (value_in a) (value_in b) m))))
    (seen_refined n.name s t b (λ u m. k u (inr (in_right u (value_in a) (value_in b) m))))) e
op_tied n w setting (Place v a i) s t s' same tied k e =
    value_done n s t s' v w (place_of (held s i)) (place_of (held t (with_value_in n.name i))) same tied (place_refined (held s i) (held t (with_value_in n.name i)) (seen_refined n.name s t i k)) e
op_tied n w setting (Load v a p dismissible) s t s' same tied k e =
    let row : List Content = row_of s (setting.spot a) in
    let rows : row_of t (setting.spot a) ≡ row = ap (λ r. slice_index_or r (setting.spot a) []) same.arrays in
    subst (λ r. Done (put n v w) s' (loaded t w r (cell_in (length r) (held t (with_value_in n.name p))) dismissible)) (sym rows)
    (loaded_done n s t s' v w row (cell_in (length row) (held s p)) (cell_in (length row) (held t (with_value_in n.name p))) dismissible same tied (cell_refined (length row) (held s p) (held t (with_value_in n.name p)) (seen_refined n.name s t p k)) e)
op_tied n w setting (Store a p x) s t s' same tied k e =
    let row : List Content = row_of s (setting.spot a) in
    let rows : row_of t (setting.spot a) ≡ row = ap (λ r. slice_index_or r (setting.spot a) []) same.arrays in
    subst (λ r. Done n s' (stored t (setting.spot a) (cell_in (length r) (held t (with_value_in n.name p))) (held t (with_value_in n.name x)))) (sym rows)
    (stored_done n s t s' (setting.spot a) (cell_in (length row) (held s p)) (cell_in (length row) (held t (with_value_in n.name p))) (held s x) (held t (with_value_in n.name x)) same tied
    (cell_refined (length row) (held s p) (held t (with_value_in n.name p)) (seen_refined n.name s t p (knows_left (value_in p) (value_in x) s (seen n.name t) k)))
    (seen_refined n.name s t x (knows_right (value_in p) (value_in x) s (seen n.name t) k)) e)
op_tied n w setting (More v) s t s' same tied k e =
    value_done n s t s' v w (Some (one_if (is_left s.input))) (Some (one_if (is_left t.input))) same tied (λ m f. ap (λ i. Some (one_if (is_left i))) same.input ∙ f) e
op_tied n w setting (Input v) s t s' same tied k e = input_done n s t s' v w s.input t.input same tied same.input e
op_tied n w setting (Text m) s t s' same tied k e = out_done n s t s' (s.out ++ text_at setting m) (t.out ++ text_at setting m) same tied (ap (λ p. p ++ text_at setting m) same.out) e
op_tied n w setting (Decimal x) s t s' same tied k e = printed_done n s t s' s.out t.out (held s x) (held t (with_value_in n.name x)) same tied same.out (seen_refined n.name s t x k) e
op_tied n w setting (Across v u) s t s' same tied k e = value_done n s t s' v w (s.values u) (t.values (n.name u)) same tied (k u (inl refl)) e
op_tied n w setting (Base v a x) s t s' same tied k e = value_done n s t s' v w (Some (pos (setting.spot a))) (Some (pos (setting.spot a))) same tied (λ m f. f) e
op_tied n w setting (PlaceIn v a u i) s t s' same tied k e =
    value_done n s t s' v w (place_by (s.values u) (held s i)) (place_by (t.values (n.name u)) (held t (with_value_in n.name i))) same tied
    (place_by_refined (s.values u) (t.values (n.name u)) (held s i) (held t (with_value_in n.name i)) (knows_right (value_in i) (u ∷ []) s (seen n.name t) k u (inl refl))
    (seen_refined n.name s t i (knows_left (value_in i) (u ∷ []) s (seen n.name t) k))) e

-- ---- an operation that is left out

-- the old state after it, beside the new one, which stays
abbrev pub Left : Standing → State → State → Type 0
Left n s' t = SameWorld s' t × Tied n s'.values t.values

elsewhere : (u v : ℕ) (x : Content) (s : State) → (u == v) ≡ false → (with_value s v x).values u ≡ s.values u
elsewhere u v x s e = ap (λ b. cond b x (s.values u)) e

value_left : (n : Standing) (s t s' : State) (v : ℕ) (x : Content) → SameWorld s t → Tied n s.values t.values → Some (with_value s v x) ≡ Some s' → Left (forget n v) s' t
value_left n s t s' v x same tied e =
    let world : SameWorld (with_value s v x) t = record { arrays = same.arrays; input = same.input; out = same.out } in
    subst (λ q. Left (forget n v) q t) (some_is (with_value s v x) s' e) (world, tied_forgotten n v s.values t.values (with_value s v x).values tied (λ u q. elsewhere u v x s q))

loaded_left : (n : Standing) (s t s' : State) (v : ℕ) (row : List Content) (i : Option ℕ) (dismissible : Bool) → SameWorld s t → Tied n s.values t.values → loaded s v row i dismissible ≡ Some s' → Left (forget n v) s' t
loaded_left n s t s' v row None true same tied e = value_left n s t s' v None same tied e
loaded_left n s t s' v row None false same tied e = absurd (cc)
loaded_left n s t s' v row (Some i) dismissible same tied e = value_left n s t s' v (slice_index_or row i None) same tied e

pub left_tied : (n : Standing) (setting : Setting) (op : Op) (s t s' : State) → writes_alone op ≡ true → SameWorld s t → Tied n s.values t.values → effect setting s op s ≡ Some s' → Left (forget_if n (written_by op)) s' t
left_tied n setting (Compute code v a b) s t s' w same tied e = value_left n s t s' v (computed code (held s a) (held s b)) same tied e
left_tied n setting (Select v p a b) s t s' w same tied e = value_left n s t s' v (chosen (s.values p) (held s a) (held s b)) same tied e
left_tied n setting (Place v a i) s t s' w same tied e = value_left n s t s' v (place_of (held s i)) same tied e
left_tied n setting (Load v a p dismissible) s t s' w same tied e = loaded_left n s t s' v (row_of s (setting.spot a)) (cell_of setting s a p) dismissible same tied e
left_tied n setting (Store a p x) s t s' w same tied e = absurd (false≢true w)
left_tied n setting (More v) s t s' w same tied e = value_left n s t s' v (Some (one_if (is_left s.input))) same tied e
left_tied n setting (Input v) s t s' w same tied e = absurd (false≢true w)
left_tied n setting (Text m) s t s' w same tied e = absurd (false≢true w)
left_tied n setting (Decimal x) s t s' w same tied e = absurd (false≢true w)
left_tied n setting (Across v u) s t s' w same tied e = value_left n s t s' v (s.values u) same tied e
left_tied n setting (Base v a x) s t s' w same tied e = value_left n s t s' v (Some (pos (setting.spot a))) same tied e
left_tied n setting (PlaceIn v a u i) s t s' w same tied e = value_left n s t s' v (place_by (s.values u) (held s i)) same tied e

-- ---- a move of what stands at the name already

value_stays : (n : Standing) (s t s' : State) (v u w : ℕ) → SameWorld s t → Tied n s.values t.values → n.stands u ≡ true → n.name u ≡ w → Some (with_value s v (s.values u)) ≡ Some s' → Left (place n v w) s' t
value_stays n s t s' v u w same tied stands at e =
    let x : Content = s.values u in
    let world : SameWorld (with_value s v x) t = record { arrays = same.arrays; input = same.input; out = same.out } in
    let there : Refined ((with_value s v x).values v) (t.values w) = λ m q. subst (λ z. t.values z ≡ Some m) at (tied u stands m (written_there v u x (s.values v) (v == v) (eq-eqb v v refl) m q)) in
    subst (λ q. Left (place n v w) q t) (some_is (with_value s v x) s' e) (world, tied_place n v w s.values t.values (with_value s v x).values tied there (λ z q. elsewhere_read x (s.values z) (z == v) q))

computed_stays : (unary : Bool) (f : ℤ → ℤ → ℤ) (n : Standing) (s t s' : State) (v w : ℕ) (a b : Operand) → SameWorld s t → Tied n s.values t.values → is_there n w (cond unary (held_by a) None) ≡ true →
    Some (with_value s v (cond unary (held s a) (both f (held s a) (held s b)))) ≡ Some s' → Left (place n v w) s' t
computed_stays true f n s t s' v w (Held u) b same tied h e = let k = and_parts (n.stands u) (n.name u == w) h in value_stays n s t s' v u w same tied k.0 (eqb-true (n.name u) w k.1) e
computed_stays true f n s t s' v w (Number m) b same tied h e = absurd (false≢true h)
computed_stays true f n s t s' v w Stack b same tied h e = absurd (false≢true h)
computed_stays false f n s t s' v w a b same tied h e = absurd (false≢true h)

pub move_tied : (n : Standing) (w : ℕ) (setting : Setting) (op : Op) (s t s' : State) → is_there n w (source_of op) ≡ true → SameWorld s t → Tied n s.values t.values → effect setting s op s ≡ Some s' → Left (place_if n (written_by op) w) s' t
move_tied n w setting (Compute code v a b) s t s' h same tied e = computed_stays (is_unary code) (value_of code) n s t s' v w a b same tied h e
move_tied n w setting (Select v p a b) s t s' h same tied e = absurd (false≢true h)
move_tied n w setting (Place v a i) s t s' h same tied e = absurd (false≢true h)
move_tied n w setting (Load v a p dismissible) s t s' h same tied e = absurd (false≢true h)
move_tied n w setting (Store a p x) s t s' h same tied e = absurd (false≢true h)
move_tied n w setting (More v) s t s' h same tied e = absurd (false≢true h)
move_tied n w setting (Input v) s t s' h same tied e = absurd (false≢true h)
move_tied n w setting (Text m) s t s' h same tied e = absurd (false≢true h)
move_tied n w setting (Decimal x) s t s' h same tied e = absurd (false≢true h)
move_tied n w setting (Across v u) s t s' h same tied e = absurd (false≢true h)
move_tied n w setting (Base v a x) s t s' h same tied e = absurd (false≢true h)
move_tied n w setting (PlaceIn v a u i) s t s' h same tied e = absurd (false≢true h)
