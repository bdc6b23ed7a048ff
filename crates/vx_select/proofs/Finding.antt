-- Diamonds that are looked for by their corners.
use Rattle.std.proofs.Common.{◌≡◌, ℕ, zero, suc, ◌+◌, ◌<◌, ◌≤◌, ◌==◌, ◌&&◌, Bool, true, false, cond, List, [], ◌∷◌, ◌++◌, length, take, drop, slice_get, Option, Some, None, refl, sym, ap, ◌∙◌, arith}
use Rattle.std.specs.Prelude.{not, nat_le}
use Rattle.std.specs.List.{list_all}
use Rattle.std.specs.Option.{option_map}
use Rattle.std.proofs.lemmas.Bool.{leb-true, leb-false}
use Rattle.std.proofs.lemmas.List.{length-map, length-append}
use Rattle.vx_flow.specs.declared.graph.Op.{Op}
use Rattle.vx_flow.specs.declared.graph.Exit.{Exit}
use Rattle.vx_flow.specs.declared.graph.Exit.TheVariants.{Goto, Split, Call, Return, Ends}
use Rattle.vx_flow.specs.declared.graph.Block.{Block}
use Rattle.vx_flow.specs.declared.graph.Graph.{Graph}
use Rattle.vx_flow.specs.Effects.{writes}
use Rattle.vx_select.specs.declared.corners.Corners.{Corners}
use Rattle.vx_select.specs.declared.values.Values.{Values}
use Rattle.vx_select.specs.Selected.{Diamond, is_simple, free_values, left_values, right_values, chosen_values, left_takes, right_takes, after_write, moved, as_is, choice, choices, both_sides, stays}
use Rattle.vx_select.specs.Search.{are_alone, is_good, if_good, by_goals, by_sides, by_exit, diamond_at, or_else, first_from, first_diamond}
use Rattle.vx_select.specs.Values.{AreValues}
use Rattle.vx_select.specs.Known.{ops_in, ops_at, whole, goal_of, goal_in, same_goal, with_join, corners_by, diamond_of, diamond_in, is_formed}

-- ---- what a block begins, by its corners

module _ (live : ℕ → ℕ → Bool) (most : ℕ) (g : Graph) (b : ℕ) where
  abbrev of_parts : (test y n c : ℕ) (before left right : List Op) → Diamond
  of_parts test y n c before left right = record { block = b; test = test; yes = y; no = n; join = c; before = before; left = left; right = right }

  goals_by : (test y n : ℕ) (before left right : List Op) (x z : Exit) → before ≡ ops_at g b → left ≡ ops_at g y → right ≡ ops_at g n →
      by_goals live most g b test y n before left right x z ≡ diamond_of live most g (with_join b test y n (same_goal (goal_of x) (goal_of z)))
  goals_by test y n before left right (Goto c) (Goto e) p q r = by (c == e)
    where
      by : (t : Bool) → cond t (if_good live most g (of_parts test y n c before left right)) None ≡ diamond_of live most g (with_join b test y n (cond t (Some c) None))
      by true =
          ap (λ l. if_good live most g (of_parts test y n c l left right)) p ∙ ap (λ l. if_good live most g (of_parts test y n c (ops_at g b) l right)) q
          ∙ ap (λ l. if_good live most g (of_parts test y n c (ops_at g b) (ops_at g y) l)) r
      by false = refl
  goals_by test y n before left right (Goto c) (Split t e a) p q r = refl
  goals_by test y n before left right (Goto c) (Call f arguments result e) p q r = refl
  goals_by test y n before left right (Goto c) (Return e) p q r = refl
  goals_by test y n before left right (Goto c) (Ends e) p q r = refl
  goals_by test y n before left right (Split t e a) z p q r = refl
  goals_by test y n before left right (Call f arguments result e) z p q r = refl
  goals_by test y n before left right (Return e) z p q r = refl
  goals_by test y n before left right (Ends e) z p q r = refl

  sides_by : (test y n : ℕ) (before : List Op) (o q : Option Block) → before ≡ ops_at g b → slice_get g.blocks y ≡ o → slice_get g.blocks n ≡ q →
      by_sides live most g b test y n before o q ≡ diamond_of live most g (with_join b test y n (same_goal (goal_in o) (goal_in q)))
  sides_by test y n before (Some left) (Some right) p hy hn = goals_by test y n before left.ops right.ops left.exit right.exit p (ap ops_in (sym hy)) (ap ops_in (sym hn))
  sides_by test y n before (Some left) None p hy hn = none_right (goal_of left.exit)
    where
      none_right : (o : Option ℕ) → Option.None ≡ diamond_of live most g (with_join b test y n (same_goal o None))
      none_right None = refl
      none_right (Some c) = refl
  sides_by test y n before None q p hy hn = refl

  exit_by : (before : List Op) (x : Exit) → before ≡ ops_at g b → by_exit live most g b before x ≡ diamond_of live most g (corners_by g b x)
  exit_by before (Split test y n) p = sides_by test y n before (slice_get g.blocks y) (slice_get g.blocks n) p refl refl
  exit_by before (Goto c) p = refl
  exit_by before (Call f arguments result c) p = refl
  exit_by before (Return x) p = refl
  exit_by before (Ends k) p = refl

  pub at_corners : (block : Block) → slice_get g.blocks b ≡ Some block → diamond_at live most g b block ≡ diamond_of live most g (corners_by g b block.exit)
  at_corners block e = exit_by block.ops block.exit (ap ops_in (sym e))

-- ---- block by block

module _ (live : ℕ → ℕ → Bool) (most : ℕ) (g : Graph) where
  drop_at : (xs : List Block) (i : ℕ) (x : Block) → slice_get xs i ≡ Some x → drop i xs ≡ x ∷ drop (suc i) xs
  drop_at [] i x e = absurd (cc)
  drop_at (y ∷ ys) zero x e = let q : y ≡ x = cc in ap (λ z. z ∷ ys) q
  drop_at (y ∷ ys) (suc i) x e = drop_at ys i x e

  drop_past : (xs : List Block) (i : ℕ) → slice_get xs i ≡ None → drop i xs ≡ []
  drop_past [] zero e = refl
  drop_past [] (suc i) e = refl
  drop_past (y ∷ ys) zero e = absurd (cc)
  drop_past (y ∷ ys) (suc i) e = drop_past ys i e

  drop_after : (xs : List Block) (i : ℕ) → slice_get xs i ≡ None → drop (suc i) xs ≡ []
  drop_after [] i e = refl
  drop_after (y ∷ ys) zero e = absurd (cc)
  drop_after (y ∷ ys) (suc i) e = drop_after ys i e

  first_suc : (i : ℕ) → first_from live most g i (drop i g.blocks) ≡ or_else (diamond_in live most g i (slice_get g.blocks i)) (first_from live most g (suc i) (drop (suc i) g.blocks))
  first_suc i = by (slice_get g.blocks i) refl
    where
      by : (o : Option Block) → slice_get g.blocks i ≡ o → first_from live most g i (drop i g.blocks) ≡ or_else (diamond_in live most g i o) (first_from live most g (suc i) (drop (suc i) g.blocks))
      by None e = ap (first_from live most g i) (drop_past g.blocks i e) ∙ sym (ap (first_from live most g (suc i)) (drop_after g.blocks i e))
      by (Some block) e = ap (first_from live most g i) (drop_at g.blocks i block e) ∙ ap (λ o. or_else o (first_from live most g (suc i) (drop (suc i) g.blocks))) (at_corners live most g i block e)

  pub first_step : (i : ℕ) → first_from live most g i (drop i g.blocks) ≡ or_else (diamond_in live most g i (slice_get g.blocks i)) (first_from live most g (i + 1) (drop (i + 1) g.blocks))
  first_step i = let s : suc i ≡ i + 1 = omega arith in first_suc i ∙ ap (λ k. or_else (diamond_in live most g i (slice_get g.blocks i)) (first_from live most g k (drop k g.blocks))) s

  pub first_found : (i : ℕ) (c : Option Corners) → first_diamond live most g ≡ first_from live most g i (drop i g.blocks) → option_map (whole g) c ≡ diamond_in live most g i (slice_get g.blocks i) → (k : Corners) → c ≡ Some k → option_map (whole g) (Some k) ≡ first_diamond live most g
  first_found i c so is k e =
      let f : Some (whole g k) ≡ diamond_in live most g i (slice_get g.blocks i) = ap (option_map (whole g)) (sym e) ∙ is in
      f ∙ by (diamond_in live most g i (slice_get g.blocks i)) f ∙ sym (first_step i) ∙ sym so
    where
      by : (o : Option Diamond) → Some (whole g k) ≡ o → o ≡ or_else o (first_from live most g (i + 1) (drop (i + 1) g.blocks))
      by (Some x) q = refl
      by None q = absurd (cc)

  pub first_none : (i : ℕ) (c : Option Corners) → first_diamond live most g ≡ first_from live most g i (drop i g.blocks) → option_map (whole g) c ≡ diamond_in live most g i (slice_get g.blocks i) → c ≡ None → first_diamond live most g ≡ first_from live most g (i + 1) (drop (i + 1) g.blocks)
  first_none i c so is e =
      let f : None ≡ diamond_in live most g i (slice_get g.blocks i) = ap (option_map (whole g)) (sym e) ∙ is in
      so ∙ first_step i ∙ ap (λ o. or_else o (first_from live most g (i + 1) (drop (i + 1) g.blocks))) (sym f)

  pub first_ended : (i : ℕ) → length g.blocks ≤ i → first_diamond live most g ≡ first_from live most g i (drop i g.blocks) → None ≡ first_diamond live most g
  first_ended i h so = sym (so ∙ ap (first_from live most g i) (past g.blocks i h))
    where
      past : (xs : List Block) (i : ℕ) → length xs ≤ i → drop i xs ≡ []
      past [] zero h = refl
      past [] (suc i) h = refl
      past (y ∷ ys) zero h = absurd (omega arith)
      past (y ∷ ys) (suc i) h = past ys i (omega arith)

-- ---- what is asked

and_none : (b : Bool) → (b && false) ≡ false
and_none true = refl
and_none false = refl

and_all : (b : Bool) → (b && true) ≡ b
and_all true = refl
and_all false = refl

turned : (a x y z u v s t r w : Bool) → (((((((((a && x) && y) && z) && u) && v) && s) && t) && r) && w) ≡ (((((((x && y) && z) && u) && v) && s) && t) && a && (r && w))
turned true x y z u v s t r w = assoc ((((((x && y) && z) && u) && v) && s) && t) r w ∙ ap (λ b. b && (r && w)) (sym (and_all ((((((x && y) && z) && u) && v) && s) && t)))
  where
    assoc : (p q r : Bool) → ((p && q) && r) ≡ (p && (q && r))
    assoc true q r = refl
    assoc false q r = refl
turned false x y z u v s t r w = ap (λ b. b && (r && w)) (sym (and_none ((((((x && y) && z) && u) && v) && s) && t)))

not_le : (m n : ℕ) → nat_le m n ≡ false → n < m
not_le m n e = leb-false m n e

le_take : (n : ℕ) (xs : List ℕ) → nat_le n (length (take n xs)) ≡ nat_le n (length xs)
le_take n xs = by (nat_le n (length xs)) (nat_le n (length (take n xs))) refl refl
  where
    long : (n : ℕ) (xs : List ℕ) → n ≤ length xs → n ≤ length (take n xs)
    long zero xs h = omega arith
    long (suc n) [] h = absurd (omega arith)
    long (suc n) (x ∷ xs) h = let k = long n xs (omega arith) in omega arith

    short : (n : ℕ) (xs : List ℕ) → length (take n xs) ≤ length xs
    short zero xs = omega arith
    short (suc n) [] = omega arith
    short (suc n) (x ∷ xs) = let h = short n xs in omega arith

    apart : (m k : ℕ) → n ≤ m → k < n → m ≤ k → ⊥
    apart m k h j l = omega arith

    by : (a b : Bool) → nat_le n (length xs) ≡ a → nat_le n (length (take n xs)) ≡ b → nat_le n (length (take n xs)) ≡ nat_le n (length xs)
    by true true e f = f ∙ sym e
    by false false e f = f ∙ sym e
    by true false e f = absurd (apart (length (take n xs)) (length (take n xs)) (long n xs (leb-true n (length xs) e)) (not_le n (length (take n xs)) f) (omega arith))
    by false true e f = absurd (apart (length (take n xs)) (length xs) (leb-true n (length (take n xs)) f) (not_le n (length xs) e) (short n xs))

add_up : (before left right chosen a b e rest sides whole : ℕ) → a ≡ left → b ≡ right → e ≡ chosen → rest ≡ b + e → sides ≡ a + rest → whole ≡ before + sides → before + (left + (right + chosen)) ≡ whole
add_up before left right chosen a b e rest sides whole p q r s t u = omega arith

pub moved_length : (to now : ℕ → ℕ) (ops : List Op) → length (moved to now ops) ≡ length ops
moved_length to now [] = refl
moved_length to now (op ∷ ops) = ap suc (moved_length to (after_write to (writes op) now) ops)

module _ (live : ℕ → ℕ → Bool) (most : ℕ) (g : Graph) (c : Corners) (values : Values) (are : AreValues live g (whole g c) values) where
  abbrev d : Diamond
  d = whole g c

  room_is : nat_le (length values.left.items + length values.right.items) (length values.free.items) ≡ nat_le (length (left_values g d) + length (right_values g d)) (length (free_values live g d))
  room_is =
      ap (λ (l : List ℕ). nat_le (length l + length values.right.items) (length values.free.items)) are.left ∙ ap (λ (l : List ℕ). nat_le (length (left_values g d) + length l) (length values.free.items)) are.right
      ∙ ap (λ (l : List ℕ). nat_le (length (left_values g d) + length (right_values g d)) (length l)) are.free ∙ le_take (length (left_values g d) + length (right_values g d)) (free_values live g d)

  length_is : length (ops_at g c.block) + (length (ops_at g c.yes) + (length (ops_at g c.no) + length values.chosen.items)) ≡ length (d.before ++ both_sides live g d)
  length_is =
      let left : List Op = moved (left_takes live g d) as_is d.left in
      let right : List Op = moved (right_takes live g d) as_is d.right in
      add_up (length (ops_at g c.block)) (length (ops_at g c.yes)) (length (ops_at g c.no)) (length values.chosen.items) (length left) (length right) (length (choices live g d)) (length (right ++ choices live g d)) (length (both_sides live g d)) (length (d.before ++ both_sides live g d))
      (moved_length (left_takes live g d) as_is d.left) (moved_length (right_takes live g d) as_is d.right)
      (length-map (chosen_values live g d) (choice (left_takes live g d) (right_takes live g d) d.test) ∙ ap (λ (l : List ℕ). length l) (sym are.chosen))
      (length-append right (choices live g d)) (length-append left (right ++ choices live g d)) (length-append d.before (both_sides live g d))

  pub good_by : (formed alone room : Bool) → formed ≡ is_formed most g d → alone ≡ are_alone d 0 g.blocks →
      room ≡ (nat_le (length values.left.items + length values.right.items) (length values.free.items) && nat_le (length (ops_at g c.block) + (length (ops_at g c.yes) + (length (ops_at g c.no) + length values.chosen.items))) 512) →
      (formed && alone && room) ≡ is_good live most g d
  good_by formed alone room e f h =
      ap (λ b. b && alone && room) e ∙ ap (λ b. is_formed most g d && b && room) f ∙ ap (λ b. is_formed most g d && are_alone d 0 g.blocks && b) h
      ∙ ap (λ b. is_formed most g d && are_alone d 0 g.blocks && (b && nat_le (length (ops_at g c.block) + (length (ops_at g c.yes) + (length (ops_at g c.no) + length values.chosen.items))) 512)) room_is
      ∙ ap (λ n. is_formed most g d && are_alone d 0 g.blocks && (nat_le (length (left_values g d) + length (right_values g d)) (length (free_values live g d)) && nat_le n 512)) length_is
      ∙ sym (turned (are_alone d 0 g.blocks) (stays d d.join) (not (d.join == d.block)) (stays d 0) (list_all (is_simple g.banks) d.left) (list_all (is_simple g.banks) d.right) (nat_le 1 (length d.left + length d.right)) (nat_le (length d.left + length d.right) most)
      (nat_le (length (left_values g d) + length (right_values g d)) (length (free_values live g d))) (nat_le (length (d.before ++ both_sides live g d)) 512))

  pub good_room : (form room : Bool) → form ≡ (is_formed most g d && are_alone d 0 g.blocks) → form ≡ true →
      room ≡ (nat_le (length values.left.items + length values.right.items) (length values.free.items) && nat_le (length (ops_at g c.block) + (length (ops_at g c.yes) + (length (ops_at g c.no) + length values.chosen.items))) 512) →
      room ≡ is_good live most g d
  good_room form room e f h = ap (λ b. b && room) (sym (sym e ∙ f)) ∙ good_by (is_formed most g d) (are_alone d 0 g.blocks) room refl refl h

-- where the form is not there
pub not_good : (live : ℕ → ℕ → Bool) (most : ℕ) (g : Graph) (c : Corners) (form : Bool) → form ≡ (is_formed most g (whole g c) && are_alone (whole g c) 0 g.blocks) → form ≡ false → false ≡ is_good live most g (whole g c)
not_good live most g c form h f =
    let e : (is_formed most g (whole g c) && are_alone (whole g c) 0 g.blocks) ≡ false = sym h ∙ f in
    let d : Diamond = whole g c in
    ap (λ b. b && (nat_le (length (left_values g d) + length (right_values g d)) (length (free_values live g d)) && nat_le (length (d.before ++ both_sides live g d)) 512)) (sym e)
    ∙ sym (turned (are_alone d 0 g.blocks) (stays d d.join) (not (d.join == d.block)) (stays d 0) (list_all (is_simple g.banks) d.left) (list_all (is_simple g.banks) d.right) (nat_le 1 (length d.left + length d.right)) (nat_le (length d.left + length d.right) most)
    (nat_le (length (left_values g d) + length (right_values g d)) (length (free_values live g d))) (nat_le (length (d.before ++ both_sides live g d)) 512))
