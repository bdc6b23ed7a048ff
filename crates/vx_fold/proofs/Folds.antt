-- One block with the values that only ever hold one number read as that number, from states that agree.
use Rattle.std.proofs.Common.{◌≡◌, ℕ, ◌==◌, Bool, true, false, cond, ℤ, pos, List, [], ◌∷◌, ◌++◌, length, map, slice_index_or, Option, Some, None, refl, sym, ap, ◌∙◌, subst, arith}
use Rattle.std.proofs.lemmas.Bool.{and_parts, false≢true, eqb-true}
use Rattle.std.proofs.lemmas.Bool.Decides.{nat_tests}
use Rattle.std.specs.List.{list_all}
use Rattle.std.specs.Ordering.{int_eq}
use Rattle.std.specs.Fmt.{signed_decimal}
use Rattle.vx_base.specs.Arithmetic.{value_of, product_of}
use Rattle.vx_flow.specs.declared.graph.Operand.{Operand}
use Rattle.vx_flow.specs.declared.graph.Operand.TheVariants.{Held, Number, Stack}
use Rattle.vx_flow.specs.declared.graph.Op.{Op}
use Rattle.vx_flow.specs.declared.graph.Op.TheVariants.{Compute, Select, Place, Load, Store, Input, Text, Decimal, Across, PlaceIn}
use Rattle.vx_flow.specs.declared.graph.Exit.{Exit}
use Rattle.vx_flow.specs.declared.graph.Exit.TheVariants.{Goto, Split, Call, Return, Ends}
use Rattle.vx_flow.specs.Effects.{Content, State, Setting, held, is_unary, both, is_one, computed, chosen, place_of, place_by, row_of, cell_in, cell_of, with_value, with_cell, loaded, stored, next_input, printed, effect}
use Rattle.vx_flow.specs.Meaning.{Hop, Arrives, with_front, at_entry, with_result, known, by_test, leave, and_then, block_hop}
use Rattle.vx_flow.specs.Agree.{SameWorld, Agree}
use Rattle.vx_flow.proofs.EffectsAlike.{Refined, Done, effect_alike}
use Rattle.vx_shape.proofs.FlowsAlike.{Holds, holds_result, Alikes, wrong, arrives, stopped, test_alike, calls_alike, leaves_alike}
use Rattle.vx_fold.specs.Folding.{no_number, number_in, is_content, gives, settles, is_free, settles_exit, operand_by, folded, select_by, folded_op, split_by, folded_exit}

abbrev pub All : ℕ → Type 0
All v = Unit {0}

-- a value with a number holds no other one
abbrev pub Settled : (ℕ → Option ℤ) → (ℕ → Content) → Type 0
Settled numbers values = (v : ℕ) (n m : ℤ) → numbers v ≡ Some n → values v ≡ Some m → m ≡ n

-- values that are numbers are the same numbers, and a value with a number holds no other one
abbrev pub Tied : (ℕ → Option ℤ) → (ℕ → Content) → (ℕ → Content) → Type 0
Tied numbers x y = Holds All x y × Settled numbers x

int_is : (x y : ℤ) → int_eq x y ≡ true → x ≡ y
int_is x y h = grind (arith, nat_tests)

pub some_is : {A : Type 0} (x y : A) → Option.Some x ≡ Some y → x ≡ y
some_is x y e = cc

pub none_by : (o : Option ℤ) → no_number o ≡ true → o ≡ None
none_by None h = refl
none_by (Some n) h = absurd (false≢true h)

no_other : (numbers : ℕ → Option ℤ) (v w : ℕ) (n : ℤ) → no_number (numbers v) ≡ true → (w == v) ≡ true → numbers w ≡ Some n → ⊥
no_other numbers v w n h s e =
    let q : None ≡ Some n = sym (none_by (numbers v) h) ∙ ap numbers (sym (eqb-true w v s)) ∙ e in cc

settled_result : (numbers : ℕ → Option ℤ) (x : ℕ → Content) (result : Option ℕ) (n : ℤ) → is_free numbers result ≡ true → Settled numbers x → Settled numbers (with_result x result n)
settled_result numbers x None n h i v k m e q = i v k m e q
settled_result numbers x (Some r) n h i v k m e q = by (v == r) refl q
  where
    by : (same : Bool) → (v == r) ≡ same → cond same (Some n) (x v) ≡ Some m → m ≡ k
    by true s f = absurd (no_other numbers r v k h s e)
    by false s f = i v k m e f

pub settled_entry : (numbers : ℕ → Option ℤ) (parameters : List ℕ) (ns : List ℤ) → list_all (λ v. no_number (numbers v)) parameters ≡ true → Settled numbers (at_entry parameters ns)
settled_entry numbers [] ns h v k m e q = absurd (cc)
settled_entry numbers (p ∷ ps) [] h v k m e q = absurd (cc)
settled_entry numbers (p ∷ ps) (n ∷ ns) h v k m e q = by (v == p) refl q (settled_entry numbers ps ns (and_parts _ _ h).1)
  where
    by : (same : Bool) → (v == p) ≡ same → cond same (Some n) (at_entry ps ns v) ≡ Some m → Settled numbers (at_entry ps ns) → m ≡ k
    by true s f i = absurd (no_other numbers p v k (and_parts _ _ h).0 s e)
    by false s f i = i v k m e f

content_by : (n : ℤ) (x : Content) → is_content n x ≡ true → x ≡ Some n
content_by n None h = absurd (false≢true h)
content_by n (Some m) h = ap Some (int_is m n h)

abbrev number_or : Option ℤ → Content → Content
number_or None x = x
number_or (Some n) x = Some n

module _ (numbers : ℕ → Option ℤ) where
  -- the state in which such values hold their numbers
  abbrev over : State → State
  over t = record t { values = λ v. number_or (numbers v) (t.values v) }

  held_folded : (t : State) (x : Operand) → held t (folded numbers x) ≡ held (over t) x
  held_folded t (Held v) = by (numbers v)
    where
      by : (o : Option ℤ) → held t (operand_by o v) ≡ number_or o (t.values v)
      by None = refl
      by (Some n) = refl
  held_folded t (Number n) = refl
  held_folded t Stack = refl

  knows_over : (s t : State) → Settled numbers s.values → Agree All s t → (v : ℕ) (n : ℤ) → s.values v ≡ Some n → (over t).values v ≡ Some n
  knows_over s t i a v n e = by (numbers v) refl
    where
      by : (o : Option ℤ) → numbers v ≡ o → number_or o (t.values v) ≡ Some n
      by None q = a.values v n tt e
      by (Some m) q = ap Some (sym (i v m n q e))

  held_over : (s t : State) (x : Operand) → Settled numbers s.values → Agree All s t → Refined (held s x) (held (over t) x)
  held_over s t (Held v) i a = knows_over s t i a v
  held_over s t (Number m) i a = λ n e. e
  held_over s t Stack i a = λ n e. e

  refined_folded : (s t : State) (x : Operand) → Settled numbers s.values → Agree All s t → Refined (held s x) (held t (folded numbers x))
  refined_folded s t x i a n e = held_folded t x ∙ held_over s t x i a n e

  -- ---- what a folded operation does

  computed_folded : (u : Bool) (f : ℤ → ℤ → ℤ) (t : State) (a b : Operand) →
      cond u (held t (folded numbers a)) (both f (held t (folded numbers a)) (held t (cond u b (folded numbers b)))) ≡ cond u (held (over t) a) (both f (held (over t) a) (held (over t) b))
  computed_folded true f t a b = held_folded t a
  computed_folded false f t a b = ap (λ x. both f x (held t (folded numbers b))) (held_folded t a) ∙ ap (both f (held (over t) a)) (held_folded t b)

  side_folded : (one : Bool) (t : State) (a b : Operand) → held t (cond one (folded numbers a) (folded numbers b)) ≡ cond one (held (over t) a) (held (over t) b)
  side_folded true t a b = held_folded t a
  side_folded false t a b = held_folded t b

  select_folded : (setting : Setting) (t t0 : State) (v p : ℕ) (a b : Operand) (o : Option ℤ) →
      effect setting t (select_by o v p (folded numbers a) (folded numbers b)) t0 ≡ Some (with_value t0 v (chosen (number_or o (t.values p)) (held (over t) a) (held (over t) b)))
  select_folded setting t t0 v p a b None =
      ap (λ x. Some (with_value t0 v (chosen (t.values p) x (held t (folded numbers b))))) (held_folded t a) ∙ ap (λ x. Some (with_value t0 v (chosen (t.values p) (held (over t) a) x))) (held_folded t b)
  select_folded setting t t0 v p a b (Some z) = ap (λ x. Some (with_value t0 v x)) (side_folded (is_one z) t a b)

  effect_folded : (setting : Setting) (op : Op) (t t0 : State) → settles numbers op ≡ true → effect setting t (folded_op numbers op) t0 ≡ effect setting (over t) op t0
  effect_folded setting (Compute code v a b) t t0 h = ap (λ x. Some (with_value t0 v x)) (computed_folded (is_unary code) (value_of code) t a b)
  effect_folded setting (Select v p a b) t t0 h = select_folded setting t t0 v p a b (numbers p)
  effect_folded setting (Place v a i) t t0 h = ap (λ x. Some (with_value t0 v (place_of x))) (held_folded t i)
  effect_folded setting (Load v a p dismissible) t t0 h =
      ap (λ x. loaded t0 v (row_of t (setting.spot a)) (cell_in (length (row_of t (setting.spot a))) x) dismissible) (held_folded t p)
  effect_folded setting (Store a p x) t t0 h =
      ap (λ y. stored t0 (setting.spot a) (cell_in (length (row_of t (setting.spot a))) y) (held t (folded numbers x))) (held_folded t p)
      ∙ ap (stored t0 (setting.spot a) (cell_in (length (row_of t (setting.spot a))) (held (over t) p))) (held_folded t x)
  effect_folded setting (Decimal x) t t0 h = ap (printed t0 t.out) (held_folded t x)
  effect_folded setting (Across v u) t t0 h =
      ap (λ o. Some (with_value t0 v (number_or o (t.values u)))) (sym (none_by (numbers u) (and_parts _ _ h).1))
  effect_folded setting (PlaceIn v a u i) t t0 h =
      ap (λ x. Some (with_value t0 v (place_by (t.values u) x))) (held_folded t i)
      ∙ ap (λ o. Some (with_value t0 v (place_by (number_or o (t.values u)) (held (over t) i)))) (sym (none_by (numbers u) (and_parts _ _ h).1))
  effect_folded setting op t t0 h = refl

  op_done : (setting : Setting) (op : Op) (s t s' : State) → settles numbers op ≡ true → Settled numbers s.values → Agree All s t → effect setting s op s ≡ Some s' → Done All s' (effect setting t (folded_op numbers op) t)
  op_done setting op s t s' h i a e =
      let w : SameWorld s (over t) = record { arrays = a.world.arrays; input = a.world.input; out = a.world.out } in
      subst (Done All s') (sym (effect_folded setting op t t h))
      (effect_alike All setting op s (over t) s t s' w a.world (λ v m n q. knows_over s t i a v n q) (λ v l m n q. a.values v n l q) e)

  -- ---- the numbers stay

  settled_by : (s : State) (v : ℕ) (x : Content) → Settled numbers s.values → ((n m : ℤ) → numbers v ≡ Some n → x ≡ Some m → m ≡ n) → Settled numbers (with_value s v x).values
  settled_by s v x i k w n m e q = by (w == v) refl q
    where
      by : (same : Bool) → (w == v) ≡ same → cond same x (s.values w) ≡ Some m → m ≡ n
      by true y q = k n m (ap numbers (sym (eqb-true w v y)) ∙ e) q
      by false y q = i w n m e q

  unnumbered : (v : ℕ) (x : Content) → no_number (numbers v) ≡ true → (n m : ℤ) → numbers v ≡ Some n → x ≡ Some m → m ≡ n
  unnumbered v x h n m e q = let f : None ≡ Some n = sym (none_by (numbers v) h) ∙ e in absurd (cc)

  values_by : (s s' : State) → Option.Some s ≡ Some s' → Settled numbers s.values → Settled numbers s'.values
  values_by s s' e i = subst (λ (q : State). Settled numbers q.values) (some_is s s' e) i

  written_by : (s s' : State) (v : ℕ) (x : Content) → no_number (numbers v) ≡ true → Settled numbers s.values → Some (with_value s v x) ≡ Some s' → Settled numbers s'.values
  written_by s s' v x h i e = values_by (with_value s v x) s' e (settled_by s v x i (unnumbered v x h))

  held_is : (s : State) (x : Operand) (k j : ℤ) → Settled numbers s.values → held s x ≡ Some k → number_in numbers x ≡ Some j → k ≡ j
  held_is s (Held v) k j i e q = i v j k q e
  held_is s (Number n) k j i e q = cc
  held_is s Stack k j i e q = absurd (cc)

  both_is : (f : ℤ → ℤ → ℤ) (x y x' y' : Content) (m n : ℤ) → ((k j : ℤ) → x ≡ Some k → x' ≡ Some j → k ≡ j) → ((k j : ℤ) → y ≡ Some k → y' ≡ Some j → k ≡ j) → both f x y ≡ Some m → both f x' y' ≡ Some n → m ≡ n
  both_is f None y x' y' m n h k e q = absurd (cc)
  both_is f (Some a) None x' y' m n h k e q = absurd (cc)
  both_is f (Some a) (Some b) None y' m n h k e q = absurd (cc)
  both_is f (Some a) (Some b) (Some c) None m n h k e q = absurd (cc)
  both_is f (Some a) (Some b) (Some c) (Some d) m n h k e q =
      let p : a ≡ c = h a c refl refl in
      let r : b ≡ d = k b d refl refl in
      sym (some_is (f a b) m e) ∙ ap (λ z. f z b) p ∙ ap (f c) r ∙ some_is (f c d) n q

  computed_is : (u : Bool) (f : ℤ → ℤ → ℤ) (s : State) (a b : Operand) (m n : ℤ) → Settled numbers s.values →
      cond u (held s a) (both f (held s a) (held s b)) ≡ Some m → cond u (number_in numbers a) (both f (number_in numbers a) (number_in numbers b)) ≡ Some n → m ≡ n
  computed_is true f s a b m n i e q = held_is s a m n i e q
  computed_is false f s a b m n i e q =
      both_is f (held s a) (held s b) (number_in numbers a) (number_in numbers b) m n (λ k j. held_is s a k j i) (λ k j. held_is s b k j i) e q

  place_is : (x x' : Content) (m n : ℤ) → ((k j : ℤ) → x ≡ Some k → x' ≡ Some j → k ≡ j) → place_of x ≡ Some m → place_of x' ≡ Some n → m ≡ n
  place_is None x' m n h e q = absurd (cc)
  place_is (Some a) None m n h e q = absurd (cc)
  place_is (Some a) (Some c) m n h e q =
      let p : a ≡ c = h a c refl refl in
      sym (some_is (product_of (pos 4) a) m e) ∙ ap (product_of (pos 4)) p ∙ some_is (product_of (pos 4) c) n q

  loaded_settled : (s s' : State) (v : ℕ) (row : List Content) (c : Option ℕ) (dismissible : Bool) → no_number (numbers v) ≡ true → Settled numbers s.values → loaded s v row c dismissible ≡ Some s' → Settled numbers s'.values
  loaded_settled s s' v row None true h i e = written_by s s' v None h i e
  loaded_settled s s' v row None false h i e = absurd (cc)
  loaded_settled s s' v row (Some c) dismissible h i e = written_by s s' v (slice_index_or row c None) h i e

  stored_settled : (s s' : State) (a : ℕ) (c : Option ℕ) (x : Content) → Settled numbers s.values → stored s a c x ≡ Some s' → Settled numbers s'.values
  stored_settled s s' a None x i e = absurd (cc)
  stored_settled s s' a (Some c) None i e = absurd (cc)
  stored_settled s s' a (Some c) (Some n) i e = values_by (with_cell s a c (Some n)) s' e i

  input_settled : (s s' : State) (v : ℕ) (ns : List ℤ) → no_number (numbers v) ≡ true → Settled numbers s.values → next_input s v ns ≡ Some s' → Settled numbers s'.values
  input_settled s s' v [] h i e = absurd (cc)
  input_settled s s' v (n ∷ ns) h i e = values_by (record (with_value s v (Some n)) { input = ns }) s' e (settled_by s v (Some n) i (unnumbered v (Some n) h))

  printed_settled : (s s' : State) (out : List ℕ) (x : Content) → Settled numbers s.values → printed s out x ≡ Some s' → Settled numbers s'.values
  printed_settled s s' out None i e = absurd (cc)
  printed_settled s s' out (Some n) i e = values_by (record s { out = out ++ signed_decimal n }) s' e i

  op_settled : (setting : Setting) (op : Op) (s s' : State) → settles numbers op ≡ true → Settled numbers s.values → effect setting s op s ≡ Some s' → Settled numbers s'.values
  op_settled setting (Compute code v a b) s s' h i e =
      values_by (with_value s v (computed code (held s a) (held s b))) s' e
      (settled_by s v (computed code (held s a) (held s b)) i (λ n m q r.
      let g : is_content n (computed code (number_in numbers a) (number_in numbers b)) ≡ true = ap (λ o. gives o (computed code (number_in numbers a) (number_in numbers b))) (sym q) ∙ h in
      computed_is (is_unary code) (value_of code) s a b m n i r (content_by n (computed code (number_in numbers a) (number_in numbers b)) g)))
  op_settled setting (Place v a x) s s' h i e =
      values_by (with_value s v (place_of (held s x))) s' e
      (settled_by s v (place_of (held s x)) i (λ n m q r.
      let g : is_content n (place_of (number_in numbers x)) ≡ true = ap (λ o. gives o (place_of (number_in numbers x))) (sym q) ∙ h in
      place_is (held s x) (number_in numbers x) m n (λ k j. held_is s x k j i) r (content_by n (place_of (number_in numbers x)) g)))
  op_settled setting (Load v a p dismissible) s s' h i e = loaded_settled s s' v (row_of s (setting.spot a)) (cell_of setting s a p) dismissible h i e
  op_settled setting (Store a p x) s s' h i e = stored_settled s s' (setting.spot a) (cell_of setting s a p) (held s x) i e
  op_settled setting (Input v) s s' h i e = input_settled s s' v s.input h i e
  op_settled setting (Text n) s s' h i e = values_by (record s { out = s.out ++ slice_index_or setting.texts n [] }) s' e i
  op_settled setting (Decimal x) s s' h i e = printed_settled s s' s.out (held s x) i e
  op_settled setting (Across v u) s s' h i e = written_by s s' v (s.values u) (and_parts _ _ h).0 i e
  op_settled setting (PlaceIn v a u x) s s' h i e = written_by s s' v (place_by (s.values u) (held s x)) (and_parts _ _ h).0 i e
  op_settled setting op s s' h i e = written_by s s' _ _ h i e

  -- ---- exits

  one_way : (b c d : ℕ) (s t : State) (x : Content) (z : ℤ) → ((m : ℤ) → x ≡ Some m → m ≡ z) → Settled numbers s.values → Agree All s t → Alikes (Tied numbers) (by_test x (Arrives b c s) (Arrives b d s)) (Arrives b (cond (is_one z) c d) t)
  one_way b c d s t None z r i a = wrong
  one_way b c d s t (Some m) z r i a = subst (λ k. Alikes (Tied numbers) (by_test (Some k) (Arrives b c s) (Arrives b d s)) (Arrives b (cond (is_one z) c d) t)) (sym (r m refl)) (by (is_one z))
    where
      by : (one : Bool) → Alikes (Tied numbers) (cond one (Arrives b c s) (Arrives b d s)) (Arrives b (cond one c d) t)
      by true = arrives a.world (a.values, i)
      by false = arrives a.world (a.values, i)

  front_refined : (n : ℤ) (o o' : Option (List ℤ)) → ((ns : List ℤ) → o ≡ Some ns → o' ≡ Some ns) → (ns : List ℤ) → with_front n o ≡ Some ns → with_front n o' ≡ Some ns
  front_refined n None o' f ns e = absurd (cc)
  front_refined n (Some ms) o' f ns e = subst (λ q. with_front n q ≡ Some ns) (sym (f ms refl)) e

  known_front : (x y : Content) (xs ys : List Content) → Refined x y → ((ns : List ℤ) → known xs ≡ Some ns → known ys ≡ Some ns) → (ns : List ℤ) → known (x ∷ xs) ≡ Some ns → known (y ∷ ys) ≡ Some ns
  known_front None y xs ys r f ns e = absurd (cc)
  known_front (Some n) y xs ys r f ns e = subst (λ q. known (q ∷ ys) ≡ Some ns) (sym (r n refl)) (front_refined n (known xs) (known ys) f ns e)

  known_folded : (s t : State) (xs : List Operand) → Settled numbers s.values → Agree All s t → (ns : List ℤ) → known (map (held s) xs) ≡ Some ns → known (map (held t) (map (folded numbers) xs)) ≡ Some ns
  known_folded s t [] i a ns e = e
  known_folded s t (x ∷ xs) i a ns e =
      known_front (held s x) (held t (folded numbers x)) (map (held s) xs) (map (held t) (map (folded numbers) xs)) (refined_folded s t x i a) (λ ms f. known_folded s t xs i a ms f) ns e

  split_alike : (b p c d : ℕ) (s t : State) (o : Option ℤ) → numbers p ≡ o → Settled numbers s.values → Agree All s t → Alikes (Tied numbers) (leave b (Split p c d) s) (leave b (split_by o p c d) t)
  split_alike b p c d s t None q i a = test_alike (Tied numbers) b c d s t (s.values p) (t.values p) (λ n e. a.values p n tt e) a.world (a.values, i)
  split_alike b p c d s t (Some z) q i a = one_way b c d s t (s.values p) z (λ m e. i p z m q e) i a

  exit_alike : (b : ℕ) (exit : Exit) (s t : State) → settles_exit numbers exit ≡ true → Settled numbers s.values → Agree All s t → Alikes (Tied numbers) (leave b exit s) (leave b (folded_exit numbers exit) t)
  exit_alike b (Goto c) s t h i a = arrives a.world (a.values, i)
  exit_alike b (Split p c d) s t h i a = split_alike b p c d s t (numbers p) refl i a
  exit_alike b (Call f arguments result c) s t h i a =
      calls_alike (Tied numbers) f b c result s t (known (map (held s) arguments)) (known (map (held t) (map (folded numbers) arguments))) (known_folded s t arguments i a)
      a.world (λ n. (holds_result All s.values t.values result n a.values, settled_result numbers s.values result n h i))
  exit_alike b (Return x) s t h i a = leaves_alike (Tied numbers) s t (held s x) (held t (folded numbers x)) (refined_folded s t x i a) a.world
  exit_alike b (Ends k) s t h i a = stopped a.world

  -- ---- operations, and then the exit

  then_alike : (o o' : Option State) (f g : State → Hop) → ((s' : State) → o ≡ Some s' → Done All s' o' × Settled numbers s'.values) → ((s' t' : State) → Settled numbers s'.values → Agree All s' t' → Alikes (Tied numbers) (f s') (g t')) →
      Alikes (Tied numbers) (and_then o f) (and_then o' g)
  then_alike None o' f g d k = wrong
  then_alike (Some s') o' f g d k = let done = d s' refl in subst (λ q. Alikes (Tied numbers) (f s') (and_then q g)) (sym done.0.is) (k s' done.0.state done.1 done.0.agree)

  pub ops_alike : (setting : Setting) (b : ℕ) (ops : List Op) (exit : Exit) → list_all (settles numbers) ops ≡ true → settles_exit numbers exit ≡ true → (s t : State) → Settled numbers s.values → Agree All s t →
      Alikes (Tied numbers) (block_hop setting b ops exit s) (block_hop setting b (map (folded_op numbers) ops) (folded_exit numbers exit) t)
  ops_alike setting b [] exit h k s t i a = exit_alike b exit s t k i a
  ops_alike setting b (op ∷ ops) exit h k s t i a =
      let p = and_parts _ _ h in
      then_alike (effect setting s op s) (effect setting t (folded_op numbers op) t) (block_hop setting b ops exit) (block_hop setting b (map (folded_op numbers) ops) (folded_exit numbers exit))
      (λ s' e. (op_done setting op s t s' p.0 i a e, op_settled setting op s s' p.0 i e)) (ops_alike setting b ops exit p.1 k)
