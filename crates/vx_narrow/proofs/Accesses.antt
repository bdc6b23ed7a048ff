-- What is known of places and words of arrays holds behind each operation, and a load of a known word is a move.
use Rattle.std.proofs.Common.{◌≡◌, ℕ, ◌==◌, Bool, true, false, cond, not, ◌&&◌, ◌||◌, ℤ, pos, List, [], ◌∷◌, ◌++◌, length, slice_index_or, Option, Some, None, refl, sym, ap, ◌∙◌, subst}
use Rattle.std.specs.Fmt.{signed_decimal}
use Rattle.std.proofs.lemmas.Bool.{eqb-true, eq-eqb}
use Rattle.vx_base.specs.Arithmetic.{one_if}
use Rattle.vx_flow.specs.declared.graph.Operand.{Operand}
use Rattle.vx_flow.specs.declared.graph.Operand.TheVariants.{Held, Number, Stack}
use Rattle.vx_flow.specs.declared.graph.Array.{Array}
use Rattle.vx_flow.specs.declared.graph.Op.{Op}
use Rattle.vx_flow.specs.declared.graph.Op.TheVariants.{Compute, Select, Place, Load, Store, More, Input, Text, Decimal, Across, Base, PlaceIn}
use Rattle.vx_flow.specs.Apart.{array_in, are_apart, may_meet, StandApart}
use Rattle.vx_flow.specs.Effects.{Content, State, Setting, held, computed, chosen, is_left, place_of, place_by, row_of, cell_in, cell_of, loaded, next_input, printed, text_at, with_value, with_cell, effect}
use Rattle.vx_flow.specs.Sound.{is_value}
use Rattle.vx_claims.specs.declared.access.Access.{Access}
use Rattle.vx_claims.specs.declared.access.Access.TheVariants.{Placed, Stored}
use Rattle.vx_claims.specs.Facts.{AllHold, same_operand}
use Rattle.vx_claims.specs.Accesses.{HoldsWord, Tells, AllTell, same_access, is_told, tell, mentions, unless, unmentioned, touches, untouched, accessed, value_if, first_or, place_in, held_if, word_in, moved_from, place_known}
use Rattle.vx_narrow.proofs.Ranges.{and_one, and_two}
use Rattle.vx_narrow.proofs.Equal.{operand_is}
use Rattle.vx_narrow.proofs.Operations.{or_one, or_two}
use Rattle.vx_narrow.proofs.Cells.{held_same, other_array, stored_is, store_new}

some_is : {A : Type 0} (x y : A) → Option.Some x ≡ Some y → x ≡ y
some_is x y e = cc

unless_tells : (setting : Setting) (t : State) (b : Bool) (x : Access) (xs : List Access) → (b ≡ false → Tells setting t x) → AllTell setting t xs → AllTell setting t (unless b x xs)
unless_tells setting t true x xs h k = k
unless_tells setting t false x xs h k = (h refl, k)

-- ---- a value that is written

module _ (setting : Setting) (s t : State) (rows : t.arrays ≡ s.arrays) (v : ℕ) (others : (u : ℕ) → (u == v) ≡ false → t.values u ≡ s.values u) where
  cell_same : (a : ℕ) (p : Operand) → held t p ≡ held s p → cell_of setting t a p ≡ cell_of setting s a p
  cell_same a p e =
      let row : row_of t (setting.spot a) ≡ row_of s (setting.spot a) = ap (λ (r : List (List Content)). slice_index_or r (setting.spot a) []) rows in
      ap (λ (r : List Content). cell_in (length r) (held t p)) row ∙ ap (cell_in (length (row_of s (setting.spot a)))) e

  word_same : (a : ℕ) (p x : Operand) → held t p ≡ held s p → held t x ≡ held s x → HoldsWord setting s a p x → HoldsWord setting t a p x
  word_same a p x e q h i c =
      let row : row_of t (setting.spot a) ≡ row_of s (setting.spot a) = ap (λ (r : List (List Content)). slice_index_or r (setting.spot a) []) rows in
      ap (λ (r : List Content). slice_index_or r i None) row ∙ h i (sym (cell_same a p e) ∙ c) ∙ sym q

  held_other : (x : Operand) → is_value v x ≡ false → held t x ≡ held s x
  held_other (Held u) e = others u e
  held_other (Number n) e = refl
  held_other Stack e = refl

  tells_other : (x : Access) → mentions v x ≡ false → Tells setting s x → Tells setting t x
  tells_other (Placed u a i) e h = others u (or_one (u == v) (is_value v i) e) ∙ h ∙ sym (ap place_of (held_other i (or_two (u == v) (is_value v i) e)))
  tells_other (Stored a p x) e h = word_same a p x (held_other p (or_one (is_value v p) (is_value v x) e)) (held_other x (or_two (is_value v p) (is_value v x) e)) h

  unmentioned_tell : (xs : List Access) → AllTell setting s xs → AllTell setting t (unmentioned v xs)
  unmentioned_tell [] h = tt
  unmentioned_tell (x ∷ xs) h = unless_tells setting t (mentions v x) x (unmentioned v xs) (λ e. tells_other x e h.0) (unmentioned_tell xs h.1)

module _ (setting : Setting) (s : State) (v : ℕ) (c : Content) where
  abbrev wrote : State
  wrote = with_value s v c

  others_stay : (u : ℕ) → (u == v) ≡ false → wrote.values u ≡ s.values u
  others_stay u e = ap (λ b. cond b c (s.values u)) e

  wrote_it : wrote.values v ≡ c
  wrote_it = let e : (v == v) ≡ true = eq-eqb v v refl in ap (λ b. cond b c (s.values v)) e

  wrote_tell : (xs : List Access) → AllTell setting s xs → AllTell setting wrote (unmentioned v xs)
  wrote_tell xs h = unmentioned_tell setting s wrote refl v others_stay xs h

  wrote_held : (x : Operand) → is_value v x ≡ false → held wrote x ≡ held s x
  wrote_held x e = held_other setting s wrote refl v others_stay x e

  wrote_place : (a : ℕ) (i : Operand) → c ≡ place_of (held s i) → is_value v i ≡ false → Tells setting wrote (Placed v a i)
  wrote_place a i q e = wrote_it ∙ q ∙ sym (ap place_of (wrote_held i e))

  wrote_word : (a : ℕ) (p : Operand) → ((j : ℕ) → cell_of setting s a p ≡ Some j → slice_index_or (row_of s (setting.spot a)) j None ≡ c) → is_value v p ≡ false → Tells setting wrote (Stored a p (Held v))
  wrote_word a p h e j q = h j (sym (cell_same setting s wrote refl v others_stay a p (wrote_held p e)) ∙ q) ∙ sym wrote_it

loaded_tell : (setting : Setting) (s t : State) (v a : ℕ) (p : Operand) (o : Option ℕ) (d : Bool) (xs : List Access) → AllTell setting s xs → cell_of setting s a p ≡ o → loaded s v (row_of s (setting.spot a)) o d ≡ Some t →
    AllTell setting t (unless (is_value v p) (Stored a p (Held v)) (unmentioned v xs))
loaded_tell setting s t v a p None true xs h q e =
    subst (λ (u : State). AllTell setting u (unless (is_value v p) (Stored a p (Held v)) (unmentioned v xs))) (some_is (with_value s v None) t e)
    (unless_tells setting (with_value s v None) (is_value v p) (Stored a p (Held v)) (unmentioned v xs) (wrote_word setting s v None a p (λ j r. absurd (none_some j (sym q ∙ r)))) (wrote_tell setting s v None xs h))
  where
    none_some : (j : ℕ) → Option.None ≡ Some j → ⊥
    none_some j r = cc
loaded_tell setting s t v a p None false xs h q e = absurd (cc)
loaded_tell setting s t v a p (Some i) d xs h q e =
    let c : Content = slice_index_or (row_of s (setting.spot a)) i None in
    subst (λ (u : State). AllTell setting u (unless (is_value v p) (Stored a p (Held v)) (unmentioned v xs))) (some_is (with_value s v c) t e)
    (unless_tells setting (with_value s v c) (is_value v p) (Stored a p (Held v)) (unmentioned v xs)
    (wrote_word setting s v c a p (λ j r. ap (λ k. slice_index_or (row_of s (setting.spot a)) k None) (sym (some_is i j (sym q ∙ r)))))
    (wrote_tell setting s v c xs h))

-- ---- a word that is written

module _ (arrays : List Array) (setting : Setting) (apart : StandApart arrays setting.spot) (s t : State) (a : ℕ) (p x : Operand) (done : effect setting s (Store a p x) s ≡ Some t) where
  -- a word of an array that shares none with the one that is stored to holds what it held
  word_stays : (b : ℕ) (q y : Operand) → may_meet arrays a b ≡ false → HoldsWord setting s b q y → HoldsWord setting t b q y
  word_stays b q y e h =
      let w = stored_is s t (setting.spot a) (cell_of setting s a p) (held s x) done in
      subst (λ (u : State). HoldsWord setting u b q y) w.4 (other_array setting s a w.0 (Some w.1) b q y (apart a b (not_met (are_apart (array_in arrays a) (array_in arrays b)) e)) h)
    where
      not_met : (t : Bool) → not t ≡ false → t ≡ true
      not_met true z = refl
      not_met false z = absurd (cc)

  stay_untouched : (y : Access) → touches arrays a y ≡ false → Tells setting s y → Tells setting t y
  stay_untouched (Placed v b i) e h =
      let w = stored_is s t (setting.spot a) (cell_of setting s a p) (held s x) done in
      let u : State = with_cell s (setting.spot a) w.0 (Some w.1) in
      let place : Tells setting u (Placed v b i) = h ∙ sym (ap place_of (held_same s u i refl)) in
      subst (λ (r : State). Tells setting r (Placed v b i)) w.4 place
  stay_untouched (Stored b q y) e h = word_stays b q y e h

  untouched_tell : (xs : List Access) → AllTell setting s xs → AllTell setting t (untouched arrays a xs)
  untouched_tell [] h = tt
  untouched_tell (y ∷ ys) h = unless_tells setting t (touches arrays a y) y (untouched arrays a ys) (λ e. stay_untouched y e h.0) (untouched_tell ys h.1)

  stored_tell : (xs : List Access) → AllTell setting s xs → AllTell setting t (Stored a p x ∷ untouched arrays a xs)
  stored_tell xs h = (store_new setting s t a p x done, untouched_tell xs h)

-- ---- each operation

same_tell : (setting : Setting) (s t : State) → t.arrays ≡ s.arrays → t.values ≡ s.values → (xs : List Access) → AllTell setting s xs → AllTell setting t xs
same_tell setting s t e q [] h = tt
same_tell setting s t e q (x ∷ xs) h = (one x h.0, same_tell setting s t e q xs h.1)
  where
    one : (y : Access) → Tells setting s y → Tells setting t y
    one (Placed u a i) k = ap (λ (w : ℕ → Content). w u) q ∙ k ∙ sym (ap place_of (held_same s t i q))
    one (Stored a p y) k = word_same setting s t e 0 (λ u z. ap (λ (w : ℕ → Content). w u) q) a p y (held_same s t p q) (held_same s t y q) k

written_tell : (setting : Setting) (s t : State) (v : ℕ) (c : Content) (xs : List Access) → AllTell setting s xs → Option.Some (with_value s v c) ≡ Some t → AllTell setting t (unmentioned v xs)
written_tell setting s t v c xs h e = subst (λ (u : State). AllTell setting u (unmentioned v xs)) (some_is (with_value s v c) t e) (wrote_tell setting s v c xs h)

input_tell : (setting : Setting) (s t : State) (v : ℕ) (ns : List ℤ) (xs : List Access) → AllTell setting s xs → next_input s v ns ≡ Some t → AllTell setting t (unmentioned v xs)
input_tell setting s t v [] xs h e = absurd (cc)
input_tell setting s t v (n ∷ ns) xs h e =
    let u : State = with_value s v (Some n) in
    subst (λ (u : State). AllTell setting u (unmentioned v xs)) (some_is (record u { input = ns }) t e) (same_tell setting u (record u { input = ns }) refl refl (unmentioned v xs) (wrote_tell setting s v (Some n) xs h))

printed_tell : (setting : Setting) (s t : State) (c : Content) (xs : List Access) → AllTell setting s xs → printed s s.out c ≡ Some t → AllTell setting t xs
printed_tell setting s t None xs h e = absurd (cc)
printed_tell setting s t (Some n) xs h e =
    let u : State = record s { out = s.out ++ signed_decimal n } in
    subst (λ (r : State). AllTell setting r xs) (some_is u t e) (same_tell setting s u refl refl xs h)

pub accessed_tell : (arrays : List Array) (setting : Setting) → StandApart arrays setting.spot → (s t : State) (op : Op) (xs : List Access) → AllTell setting s xs → effect setting s op s ≡ Some t → AllTell setting t (accessed arrays xs op)
accessed_tell arrays setting apart s t (Compute code v a b) xs h e = written_tell setting s t v (computed code (held s a) (held s b)) xs h e
accessed_tell arrays setting apart s t (Select v p a b) xs h e = written_tell setting s t v (chosen (s.values p) (held s a) (held s b)) xs h e
accessed_tell arrays setting apart s t (Place v a i) xs h e =
    let c : Content = place_of (held s i) in
    subst (λ (u : State). AllTell setting u (unless (is_value v i) (Placed v a i) (unmentioned v xs))) (some_is (with_value s v c) t e)
    (unless_tells setting (with_value s v c) (is_value v i) (Placed v a i) (unmentioned v xs) (wrote_place setting s v c a i refl) (wrote_tell setting s v c xs h))
accessed_tell arrays setting apart s t (Load v a p d) xs h e = loaded_tell setting s t v a p (cell_of setting s a p) d xs h refl e
accessed_tell arrays setting apart s t (Store a p x) xs h e = stored_tell arrays setting apart s t a p x e xs h
accessed_tell arrays setting apart s t (More v) xs h e = written_tell setting s t v (Some (one_if (is_left s.input))) xs h e
accessed_tell arrays setting apart s t (Input v) xs h e = input_tell setting s t v s.input xs h e
accessed_tell arrays setting apart s t (Text n) xs h e =
    let u : State = record s { out = s.out ++ text_at setting n } in
    subst (λ (r : State). AllTell setting r xs) (some_is u t e) (same_tell setting s u refl refl xs h)
accessed_tell arrays setting apart s t (Decimal x) xs h e = printed_tell setting s t (held s x) xs h e
accessed_tell arrays setting apart s t (Across v w) xs h e = written_tell setting s t v (s.values w) xs h e
accessed_tell arrays setting apart s t (Base v a x) xs h e = written_tell setting s t v (Some (pos (setting.spot a))) xs h e
accessed_tell arrays setting apart s t (PlaceIn v a w i) xs h e = written_tell setting s t v (place_by (s.values w) (held s i)) xs h e

-- ---- loads

pub word_holds : (setting : Setting) (s : State) (xs : List Access) (a : ℕ) (p x : Operand) → AllTell setting s xs → word_in xs a p ≡ Some x → HoldsWord setting s a p x
word_holds setting s [] a p x h e = absurd (cc)
word_holds setting s (Placed v b i ∷ xs) a p x h e = word_holds setting s xs a p x h.1 e
word_holds setting s (Stored b q y ∷ xs) a p x h e = by ((b == a) && same_operand q p) refl e (λ z. word_holds setting s xs a p x h.1 z)
  where
    by : (t : Bool) → ((b == a) && same_operand q p) ≡ t → held_if t y (word_in xs a p) ≡ Some x → (word_in xs a p ≡ Some x → HoldsWord setting s a p x) → HoldsWord setting s a p x
    by true r z k =
        let array : b ≡ a = eqb-true b a (and_one (b == a) (same_operand q p) r) in
        let place : q ≡ p = operand_is q p (and_two (b == a) (same_operand q p) r) in
        let from : y ≡ x = some_is y x z in
        subst (λ c. HoldsWord setting s a p c) from (subst (λ c. HoldsWord setting s a c y) place (subst (λ c. HoldsWord setting s c q y) array h.0))
    by false r z k = k z

-- ---- what is told

same_tells : (setting : Setting) (s : State) (x y : Access) → same_access x y ≡ true → Tells setting s y → Tells setting s x
same_tells setting s (Placed v a i) (Placed u b j) e h =
    let e1 = and_one ((u == v) && (b == a)) (same_operand j i) e in
    let value : u ≡ v = eqb-true u v (and_one (u == v) (b == a) e1) in
    let index : j ≡ i = operand_is j i (and_two ((u == v) && (b == a)) (same_operand j i) e) in
    sym (ap s.values value) ∙ h ∙ ap (λ c. place_of (held s c)) index
same_tells setting s (Stored a p x) (Stored b q y) e h =
    let e2 = and_two (b == a) (same_operand q p && same_operand y x) e in
    let array : b ≡ a = eqb-true b a (and_one (b == a) (same_operand q p && same_operand y x) e) in
    let place : q ≡ p = operand_is q p (and_one (same_operand q p) (same_operand y x) e2) in
    let from : y ≡ x = operand_is y x (and_two (same_operand q p) (same_operand y x) e2) in
    subst (λ c. HoldsWord setting s a p c) from (subst (λ c. HoldsWord setting s a c y) place (subst (λ c. HoldsWord setting s c q y) array h))
same_tells setting s (Placed v a i) (Stored b q y) e h = absurd (cc)
same_tells setting s (Stored a p x) (Placed u b j) e h = absurd (cc)

told_tells : (setting : Setting) (s : State) (ys : List Access) (x : Access) → AllTell setting s ys → is_told ys x ≡ true → Tells setting s x
told_tells setting s [] x h e = absurd (cc)
told_tells setting s (y ∷ ys) x h e = by (same_access x y) refl e (λ r. told_tells setting s ys x h.1 r)
  where
    by : (t : Bool) → same_access x y ≡ t → (t || is_told ys x) ≡ true → (is_told ys x ≡ true → Tells setting s x) → Tells setting s x
    by true q r k = same_tells setting s x y q h.0
    by false q r k = k r

pub tell_holds : (setting : Setting) (s : State) (xs ys : List Access) → AllTell setting s xs → tell xs ys ≡ true → AllTell setting s ys
tell_holds setting s xs [] h e = tt
tell_holds setting s xs (y ∷ ys) h e = (told_tells setting s xs y h (and_one (is_told xs y) (tell xs ys) e), tell_holds setting s xs ys h (and_two (is_told xs y) (tell xs ys) e))

-- ---- places

place_holds : (setting : Setting) (s : State) (xs : List Access) (a : ℕ) (i : Operand) (w : ℕ) → AllTell setting s xs → place_in xs a i ≡ Some w → s.values w ≡ place_of (held s i)
place_holds setting s [] a i w h e = absurd (cc)
place_holds setting s (Stored b q y ∷ xs) a i w h e = place_holds setting s xs a i w h.1 e
place_holds setting s (Placed v b j ∷ xs) a i w h e = either (place_in xs a i) e (λ u z. place_holds setting s xs a i u h.1 z) refl
  where
    by : (t : Bool) → ((b == a) && same_operand j i) ≡ t → value_if t v ≡ Some w → s.values w ≡ place_of (held s i)
    by true r z =
        let index : j ≡ i = operand_is j i (and_two (b == a) (same_operand j i) r) in
        ap s.values (sym (some_is v w z)) ∙ h.0 ∙ ap (λ c. place_of (held s c)) index
    by false r z = absurd (cc)

    either : (o : Option ℕ) → first_or o (value_if ((b == a) && same_operand j i) v) ≡ Some w → ((u : ℕ) → place_in xs a i ≡ Some u → s.values u ≡ place_of (held s i)) → place_in xs a i ≡ o → s.values w ≡ place_of (held s i)
    either None z k q = by ((b == a) && same_operand j i) refl z
    either (Some u) z k q = subst (λ c. s.values c ≡ place_of (held s i)) (some_is u w z) (k u q)

moved_known : (s : State) (v : ℕ) (c : Content) (o : Option ℕ) → ((w : ℕ) → o ≡ Some w → s.values w ≡ c) → AllHold (with_value s v c).values (moved_from v o)
moved_known s v c None h = tt
moved_known s v c (Some w) h = (wrote_it (record { spot = λ n. n; texts = [] }) s v c ∙ by (w == v) (h w refl), tt)
  where
    by : (b : Bool) → s.values w ≡ c → c ≡ cond b c (s.values w)
    by true q = refl
    by false q = sym q

pub place_known_holds : (setting : Setting) (s t : State) (xs : List Access) (op : Op) → AllTell setting s xs → effect setting s op s ≡ Some t → AllHold t.values (place_known xs op)
place_known_holds setting s t xs (Place v a i) h e =
    let c : Content = place_of (held s i) in
    subst (λ (u : State). AllHold u.values (moved_from v (place_in xs a i))) (some_is (with_value s v c) t e) (moved_known s v c (place_in xs a i) (λ w q. place_holds setting s xs a i w h q))
place_known_holds setting s t xs op h e = tt
