-- Both sides of a diamond in one block, behind the block that splits: what is live where they meet is what the side that is
-- taken leaves.
use Rattle.std.proofs.Common.{◌≡◌, ◌⊎◌, inl, inr, ℕ, zero, suc, ◌≤◌, ◌<◌, ◌&&◌, ◌||◌, ℤ, Bool, true, false, cond, List, [], ◌∷◌, ◌++◌, length, take, drop, slice_get, Some, refl, sym, ap, subst, ◌∙◌, arith}
use Rattle.std.specs.Prelude.{not}
use Rattle.std.specs.List.{flat_map, list_all}
use Rattle.std.proofs.lemmas.Bool.{and_parts, false≢true}
use Rattle.std.specs.Cmp.Derive.{both_true}
use Rattle.vx_flow.specs.declared.graph.Bank.TheVariants.{General, Branch}
use Rattle.vx_flow.specs.declared.graph.Op.{Op}
use Rattle.vx_flow.specs.declared.graph.Op.TheVariants.{Compute, Select}
use Rattle.vx_flow.specs.declared.graph.Exit.TheVariants.{Goto, Split}
use Rattle.vx_flow.specs.declared.graph.Graph.{Graph}
use Rattle.vx_flow.specs.Effects.{Content, State, IsIn, is_one, chosen, reads, writes}
use Rattle.vx_flow.specs.Sound.{is_general, Has, HasOperation, Sound}
use Rattle.vx_flow.proofs.Members.{in_left, in_right, in_either}
use Rattle.vx_flow.proofs.SoundLists.{all_in, or_parts, or_left, or_right}
use Rattle.vx_flow.proofs.SoundNames.{general_is}
use Rattle.vx_select.specs.Selected.{Diamond, has, values_of, written, named, is_simple, is_address, is_free, free_values, left_values, right_values, chosen_values, left_takes, right_takes, moved, as_is, choices, both_sides, IsDiamond}
use Rattle.vx_select.proofs.Lists.{in_has, has_in, has_not, those_pass, pass_those, Distinct, those_distinct, in_drop, in_take, drop_distinct, front_apart, drop_room, takes_off, takes_in, takes_one}
use Rattle.vx_select.proofs.Sides.{Simple, computes, chooses, AllSimple, target, steps, steps_append, simple_append, steps_unwritten, Fine, AllFine, moved_same, moved_simple, fine_simple, moved_elsewhere, choosing_simple, unchosen, choosing_gives}

pub get_below : {A : Type 0} (xs : List A) (i : ℕ) (x : A) → slice_get xs i ≡ Some x → i < length xs
get_below [] i x e = absurd (cc)
get_below (y ∷ ys) zero x e = omega arith
get_below (y ∷ ys) (suc i) x e = let h = get_below ys i x e in omega arith

pub get_in : {A : Type 0} (xs : List A) (i : ℕ) (x : A) → slice_get xs i ≡ Some x → IsIn x xs
get_in [] i x e = absurd (cc)
get_in (y ∷ ys) zero x e = let q : y ≡ x = cc in inl (sym q)
get_in (y ∷ ys) (suc i) x e = inr (get_in ys i x e)

pub simple_is : (g : Graph) (op : Op) → is_simple g.banks op ≡ true → Simple op × Has g (target op) General
simple_is g (Compute code v a b) h = (computes, general_is g v h)
simple_is g (Select v p a b) h = (chooses, general_is g v h)
simple_is g op h = absurd (false≢true h)

pub in_mapped : (f : Op → List ℕ) (ops : List Op) (op : Op) (v : ℕ) → IsIn op ops → IsIn v (f op) → IsIn v (flat_map f ops)
in_mapped f [] op v m n = absurd m
in_mapped f (o ∷ ops) op v (inl e) n = in_left v (f o) (flat_map f ops) (subst (λ x. IsIn v (f x)) e n)
in_mapped f (o ∷ ops) op v (inr m) n = in_right v (f o) (flat_map f ops) (in_mapped f ops op v m n)

pub record From (f : Op → List ℕ) (ops : List Op) (v : ℕ) : Type 0 where
  pub op : Op
  pub stands : IsIn op ops
  pub has : IsIn v (f op)

pub mapped_from : (f : Op → List ℕ) (ops : List Op) (v : ℕ) → IsIn v (flat_map f ops) → From f ops v
mapped_from f [] v m = absurd m
mapped_from f (o ∷ ops) v m = elim (in_either v (f o) (flat_map f ops) m) [
  | inl a ↦ record { op = o; stands = inl refl; has = a }
  | inr b ↦ let q = mapped_from f ops v b in record { op = q.op; stands = inr q.stands; has = q.has }
]

pub unset : (b : Bool) → not b ≡ true → b ≡ false
unset true h = absurd (false≢true h)
unset false h = refl

pub refused : (b : Bool) → (b ≡ true → ⊥) → b ≡ false
refused true f = absurd (f refl)
refused false f = refl

module _ (live : ℕ → ℕ → Bool) (most : ℕ) (g : Graph) (d : Diamond) (sound : Sound g) (it : IsDiamond live most g d) where
  abbrev pub F : List ℕ
  F = free_values live g d

  abbrev pub L : List ℕ
  L = left_values g d

  abbrev pub R : List ℕ
  R = right_values g d

  abbrev pub to_left : ℕ → ℕ
  to_left = left_takes live g d

  abbrev pub to_right : ℕ → ℕ
  to_right = right_takes live g d

  abbrev pub Plain : ℕ → Type 0
  Plain v = is_free live g d v ≡ false

  pub record Free (v : ℕ) : Type 0 where
    pub general : is_general g.banks v ≡ true
    pub not_yes : live d.yes v ≡ false
    pub not_no : live d.no v ≡ false
    pub not_join : live d.join v ≡ false
    pub not_left : has (named d.left) v ≡ false
    pub not_right : has (named d.right) v ≡ false
    pub no_address : is_address g v ≡ false

  pub free_is : (v : ℕ) → is_free live g d v ≡ true → Free v
  free_is v h =
      let (abcdef, g7) = and_parts _ _ h in
      let (abcde, g6) = and_parts _ _ abcdef in
      let (abcd, g5) = and_parts _ _ abcde in
      let (abc, g4) = and_parts _ _ abcd in
      let (ab, g3) = and_parts _ _ abc in
      let (a, g2) = and_parts _ _ ab in
      record { general = a; not_yes = unset _ g2; not_no = unset _ g3; not_join = unset _ g4; not_left = unset _ g5; not_right = unset _ g6; no_address = unset _ g7 }

  pub in_free : (v : ℕ) → IsIn v F → is_free live g d v ≡ true
  in_free v m = (those_pass (is_free live g d) 0 (length g.banks) v m).passes

  plain_not : (v : ℕ) → Plain v → IsIn v F → ⊥
  plain_not v p m = false≢true (sym p ∙ in_free v m)

  -- ---- plain values

  pub named_left : (v : ℕ) → IsIn v (named d.left) → Plain v
  named_left v m = refused _ (λ f. has_not (named d.left) v (free_is v f).not_left m)

  pub named_right : (v : ℕ) → IsIn v (named d.right) → Plain v
  named_right v m = refused _ (λ f. has_not (named d.right) v (free_is v f).not_right m)

  pub live_plain : (v : ℕ) → live d.join v ≡ true → Plain v
  live_plain v l = refused _ (λ f. false≢true (sym (free_is v f).not_join ∙ l))

  pub branch_plain : (v : ℕ) → Has g v Branch → Plain v
  branch_plain v b = refused _ (λ f. let q : slice_get g.banks v ≡ Some General = general_is g v (free_is v f).general in let e : slice_get g.banks v ≡ Some Branch = b in absurd (cc))

  -- ---- what the sides write

  pub two_banks : (v : ℕ) → Has g v General → Has g v Branch → ⊥
  two_banks v a b = let q : slice_get g.banks v ≡ Some General = a in let e : slice_get g.banks v ≡ Some Branch = b in absurd (cc)

  pub record Side (b : ℕ) (ops : List Op) : Type 0 where
    pub has : slice_get g.blocks b ≡ Some (record { ops = ops; exit = Goto d.join })
    pub simple : list_all (is_simple g.banks) ops ≡ true

  pub the_left : Side d.yes d.left
  the_left = record { has = it.at_yes; simple = it.simple_left }

  pub the_right : Side d.no d.right
  the_right = record { has = it.at_no; simple = it.simple_right }

  module _ (b : ℕ) (ops : List Op) (side : Side b ops) where
    pub operation : (op : Op) → IsIn op ops → HasOperation g op
    operation op m = record { block = record { ops = ops; exit = Goto d.join }; has = get_in g.blocks b _ side.has; stands = m }

    pub is_one_of : (op : Op) → IsIn op ops → Simple op × Has g (target op) General
    is_one_of op m = simple_is g op (all_in (is_simple g.banks) ops op side.simple m)

    pub target_is : (op : Op) (v : ℕ) → Simple op → IsIn v (writes op) → v ≡ target op
    target_is op v computes (inl e) = e
    target_is op v computes (inr z) = absurd z
    target_is op v chooses (inl e) = e
    target_is op v chooses (inr z) = absurd z

    pub writes_it : (op : Op) → Simple op → IsIn (target op) (writes op)
    writes_it op computes = inl refl
    writes_it op chooses = inl refl

    pub written_general : (v : ℕ) → IsIn v (written ops) → Has g v General
    written_general v m =
        let f = mapped_from writes ops v m in
        let s = is_one_of f.op f.stands in
        subst (λ x. Has g x General) (sym (target_is f.op v s.0 f.has)) s.1

    abbrev pub W : List ℕ
    W = values_of g (has (written ops))

    pub in_values : (v : ℕ) → IsIn v (written ops) → IsIn v W
    in_values v m =
        let low : v < length g.banks = get_below g.banks v General (written_general v m) in
        pass_those (has (written ops)) 0 (length g.banks) v (in_has (written ops) v m) (omega arith) (omega arith)

    pub values_in : (v : ℕ) → IsIn v W → IsIn v (written ops)
    values_in v m = has_in (written ops) v (those_pass (has (written ops)) 0 (length g.banks) v m).passes

    values_general : (v : ℕ) → IsIn v W → Has g v General
    values_general v m = written_general v (values_in v m)

    module _ (to : ℕ → ℕ) (plain : (v : ℕ) → IsIn v (named ops) → Plain v) (apart : (u w : ℕ) → IsIn w W → Plain u → to w ≡ u → ⊥) (one : (u w : ℕ) → IsIn u W → IsIn w W → to u ≡ to w → u ≡ w) where
      fine : (op : Op) → IsIn op ops → Fine to W Plain apart one op
      fine op m =
          let s = is_one_of op m in
          record {
            simple = s.0;
            reads = λ v r. plain v (in_mapped (λ o. writes o ++ reads o) ops op v m (in_right v (writes op) (reads op) r));
            writes = in_values (target op) (in_mapped writes ops op (target op) m (writes_it op s.0));
            tests = λ v t w. two_banks v (values_general v w) (sound.tests op v (operation op m) t);
          }

      all_fine : AllFine to W Plain apart one ops
      all_fine = each ops (λ op m. fine op m)
        where
          each : (xs : List Op) → ((op : Op) → IsIn op xs → Fine to W Plain apart one op) → AllFine to W Plain apart one xs
          each [] f = tt
          each (op ∷ xs) f = (f op (inl refl), each xs (λ o m. f o (inr m)))

  -- ---- the values that are taken

  room_left : length L ≤ length F
  room_left = let h = it.room in omega arith

  room_right : length R ≤ length (drop (length L) F)
  room_right = drop_room (length L) (length R) F it.room

  distinct : Distinct F
  distinct = those_distinct (is_free live g d) 0 (length g.banks)

  left_in : (w : ℕ) → IsIn w L → IsIn (to_left w) (take (length L) F)
  left_in w m = takes_in L F w room_left m

  right_in : (w : ℕ) → IsIn w R → IsIn (to_right w) (drop (length L) F)
  right_in w m = in_take (length R) (drop (length L) F) (to_right w) (takes_in R (drop (length L) F) w room_right m)

  pub left_free : (w : ℕ) → IsIn w L → IsIn (to_left w) F
  left_free w m = in_take (length L) F (to_left w) (left_in w m)

  pub right_free : (w : ℕ) → IsIn w R → IsIn (to_right w) F
  right_free w m = in_drop (length L) F (to_right w) (right_in w m)

  pub left_apart : (u w : ℕ) → IsIn w L → Plain u → to_left w ≡ u → ⊥
  left_apart u w m p e = plain_not u p (subst (λ x. IsIn x F) e (left_free w m))

  pub right_apart : (u w : ℕ) → IsIn w R → Plain u → to_right w ≡ u → ⊥
  right_apart u w m p e = plain_not u p (subst (λ x. IsIn x F) e (right_free w m))

  pub left_one : (u w : ℕ) → IsIn u L → IsIn w L → to_left u ≡ to_left w → u ≡ w
  left_one u w m n e = takes_one L F u w distinct room_left m n e

  pub right_one : (u w : ℕ) → IsIn u R → IsIn w R → to_right u ≡ to_right w → u ≡ w
  right_one u w m n e = takes_one R (drop (length L) F) u w (drop_distinct (length L) F distinct) room_right m n e

  -- a plain value or the one that stands for it on the left is none that the right side takes
  left_not_right : (v w : ℕ) → Plain v → IsIn w R → to_left v ≡ to_right w → ⊥
  left_not_right v w p m e = by (has L v) refl
    where
      by : (b : Bool) → has L v ≡ b → ⊥
      by true h = front_apart (length L) F (to_left v) distinct (left_in v (has_in L v h)) (subst (λ x. IsIn x (drop (length L) F)) (sym e) (right_in w m))
      by false h = right_apart v w m p (sym e ∙ takes_off L F v (has_not L v h))

  pub fine_left : AllFine to_left L Plain left_apart left_one d.left
  fine_left = all_fine d.yes d.left the_left to_left named_left left_apart left_one

  pub fine_right : AllFine to_right R Plain right_apart right_one d.right
  fine_right = all_fine d.no d.right the_right to_right named_right right_apart right_one

  -- ---- the state behind each of the three parts

  abbrev pub C : List ℕ
  C = chosen_values live g d

  abbrev pub left_moved : List Op
  left_moved = moved to_left as_is d.left

  abbrev pub right_moved : List Op
  right_moved = moved to_right as_is d.right

  pub all_simple : AllSimple (both_sides live g d)
  all_simple = simple_append left_moved (right_moved ++ choices live g d) (moved_simple to_left L Plain left_apart left_one d.left as_is fine_left)
      (simple_append right_moved (choices live g d) (moved_simple to_right R Plain right_apart right_one d.right as_is fine_right) (choosing_simple to_left to_right d.test C))

  pub simple_left : AllSimple d.left
  simple_left = fine_simple to_left L Plain left_apart left_one d.left fine_left

  pub simple_right : AllSimple d.right
  simple_right = fine_simple to_right R Plain right_apart right_one d.right fine_right

  pub left_value : (v : ℕ) → (IsIn v (written d.left) → ⊥) → v ≡ to_left v
  left_value v n = sym (takes_off L F v (λ m. n (values_in d.yes d.left the_left v m)))

  pub right_value : (v : ℕ) → (IsIn v (written d.right) → ⊥) → v ≡ to_right v
  right_value v n = sym (takes_off R (drop (length L) F) v (λ m. n (values_in d.no d.right the_right v m)))

  pub record IsChosen (v : ℕ) : Type 0 where
    pub by_one : IsIn v (written d.left) ⊎ IsIn v (written d.right)
    pub lives : live d.join v ≡ true

  abbrev chooses_it : ℕ → Bool
  chooses_it v = (has (written d.left) v || has (written d.right) v) && live d.join v

  pub chosen_is : (v : ℕ) → IsIn v C → IsChosen v
  chosen_is v m =
      let (a, b) = and_parts (has (written d.left) v || has (written d.right) v) (live d.join v) (those_pass chooses_it 0 (length g.banks) v m).passes in
      record { by_one = elim (or_parts (has (written d.left) v) (has (written d.right) v) a) [ inl x ↦ inl (has_in (written d.left) v x) | inr y ↦ inr (has_in (written d.right) v y) ]; lives = b }

  pub chosen_general : (v : ℕ) → IsIn v C → Has g v General
  chosen_general v m = elim (chosen_is v m).by_one [ inl a ↦ written_general d.yes d.left the_left v a | inr b ↦ written_general d.no d.right the_right v b ]

  is_chosen : (v : ℕ) → (has (written d.left) v || has (written d.right) v) ≡ true → Has g v General → live d.join v ≡ true → IsIn v C
  is_chosen v w k l = let low : v < length g.banks = get_below g.banks v General k in pass_those chooses_it 0 (length g.banks) v (both_true w l) (omega arith) (omega arith)

  pub split_test : Has g d.test Branch
  split_test = sound.exit_tests (Split d.test d.yes d.no) d.test (record { block = record { ops = d.before; exit = Split d.test d.yes d.no }; has = get_in g.blocks d.block _ it.splits; ends = refl }) (inl refl)

  test_plain : Plain d.test
  test_plain = branch_plain d.test split_test

  -- what stands for a value is another chosen one only where it is that one itself
  choices_apart : (u v : ℕ) → IsIn u C → IsIn v C → (u ≡ v → ⊥) → (to_left v ≡ u → ⊥) × (to_right v ≡ u → ⊥)
  choices_apart u v m n f = (λ e. left_by e (has L v) refl, λ e. right_by e (has R v) refl)
    where
      plain : Plain u
      plain = live_plain u (chosen_is u m).lives

      left_by : to_left v ≡ u → (b : Bool) → has L v ≡ b → ⊥
      left_by e true h = left_apart u v (has_in L v h) plain e
      left_by e false h = f (sym e ∙ takes_off L F v (has_not L v h))

      right_by : to_right v ≡ u → (b : Bool) → has R v ≡ b → ⊥
      right_by e true h = right_apart u v (has_in R v h) plain e
      right_by e false h = f (sym e ∙ takes_off R (drop (length L) F) v (has_not R v h))

  module _ (u : State) where
    abbrev s1 : State
    s1 = steps left_moved u

    abbrev s2 : State
    s2 = steps right_moved s1

    abbrev s3 : State
    s3 = steps (choices live g d) s2

    whole : steps (both_sides live g d) u ≡ s3
    whole = steps_append left_moved (right_moved ++ choices live g d) u ∙ steps_append right_moved (choices live g d) s1

    left_unchanged : (v : ℕ) → Plain v → s1.values v ≡ u.values v
    left_unchanged v p = moved_elsewhere to_left L Plain left_apart left_one d.left as_is u fine_left v (λ w m e. left_apart v w m p (sym e))

    right_unchanged : (v : ℕ) → ((w : ℕ) → IsIn w R → v ≡ to_right w → ⊥) → s2.values v ≡ s1.values v
    right_unchanged v n = moved_elsewhere to_right R Plain right_apart right_one d.right as_is s1 fine_right v n

    plain_unchanged : (v : ℕ) → Plain v → s2.values v ≡ u.values v
    plain_unchanged v p = right_unchanged v (λ w m e. right_apart v w m p (sym e)) ∙ left_unchanged v p

    of_left : (v : ℕ) → Plain v → s2.values (to_left v) ≡ (steps d.left u).values v
    of_left v p =
        right_unchanged (to_left v) (λ w m e. left_not_right v w p m e)
        ∙ moved_same to_left L Plain left_apart left_one d.left as_is u u fine_left left_value (record { place = λ x l. inl refl; same = λ x l. refl }) v p

    of_right : (v : ℕ) → Plain v → s2.values (to_right v) ≡ (steps d.right u).values v
    of_right v p = moved_same to_right R Plain right_apart right_one d.right as_is u s1 fine_right right_value (record { place = λ x l. inl refl; same = λ x l. left_unchanged x l }) v p

    test_chosen : IsIn d.test C → ⊥
    test_chosen m = two_banks d.test (chosen_general d.test m) split_test

    chosen_same : (z : ℤ) → u.values d.test ≡ Some z → (v : ℕ) → IsIn v C → s3.values v ≡ cond (is_one z) ((steps d.left u).values v) ((steps d.right u).values v)
    chosen_same z e v m =
        let p : Plain v = live_plain v (chosen_is v m).lives in
        choosing_gives to_left to_right d.test C s2 (those_distinct chooses_it 0 (length g.banks)) test_chosen choices_apart v m
        ∙ ap (λ x. chosen x (s2.values (to_left v)) (s2.values (to_right v))) (plain_unchanged d.test test_plain ∙ e)
        ∙ ap (λ x. cond (is_one z) x (s2.values (to_right v))) (of_left v p)
        ∙ ap (λ x. cond (is_one z) ((steps d.left u).values v) x) (of_right v p)

    either : (b : Bool) (x y : Content) → x ≡ y → y ≡ cond b x y
    either true x y e = sym e
    either false x y e = refl

    others_same : (z : ℤ) (v : ℕ) → Plain v → (IsIn v (written d.left) → ⊥) → (IsIn v (written d.right) → ⊥) → s3.values v ≡ cond (is_one z) ((steps d.left u).values v) ((steps d.right u).values v)
    others_same z v p a b =
        let l : (steps d.left u).values v ≡ u.values v = steps_unwritten d.left u v simple_left a in
        let r : (steps d.right u).values v ≡ u.values v = steps_unwritten d.right u v simple_right b in
        unchosen to_left to_right d.test C s2 v (λ m. elim (chosen_is v m).by_one [ inl x ↦ a x | inr y ↦ b y ])
        ∙ plain_unchanged v p ∙ sym r ∙ either (is_one z) ((steps d.left u).values v) ((steps d.right u).values v) (l ∙ sym r)

    pub joined_same : (z : ℤ) → u.values d.test ≡ Some z → (v : ℕ) → live d.join v ≡ true → (steps (both_sides live g d) u).values v ≡ cond (is_one z) ((steps d.left u).values v) ((steps d.right u).values v)
    joined_same z e v l = ap (λ (s : State). s.values v) whole ∙ by (has (written d.left) v) (has (written d.right) v) refl refl
      where
        by : (a b : Bool) → has (written d.left) v ≡ a → has (written d.right) v ≡ b → s3.values v ≡ cond (is_one z) ((steps d.left u).values v) ((steps d.right u).values v)
        by true b h k = chosen_same z e v (is_chosen v (or_left (has (written d.left) v) (has (written d.right) v) h) (written_general d.yes d.left the_left v (has_in (written d.left) v h)) l)
        by false true h k = chosen_same z e v (is_chosen v (or_right (has (written d.left) v) (has (written d.right) v) k) (written_general d.no d.right the_right v (has_in (written d.right) v k)) l)
        by false false h k = others_same z v (live_plain v l) (has_not (written d.left) v h) (has_not (written d.right) v k)
