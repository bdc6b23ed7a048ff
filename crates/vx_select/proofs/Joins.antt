-- What is made of a diamond by its corners and values is the conversion.
use Rattle.std.proofs.Common.{◌≡◌, ℕ, zero, suc, ◌+◌, ◌<◌, ◌≤◌, ◌==◌, ◌||◌, Bool, true, false, cond, List, [], ◌∷◌, ◌++◌, length, map, take, drop, get_or, slice_get, Option, Some, None, refl, sym, ap, ◌∙◌, arith}
use Rattle.std.proofs.Math.Path.{fun_ext}
use Rattle.std.proofs.lemmas.List.{append_assoc, drop_more}
use Rattle.std.proofs.lemmas.List.Folds.{list_any_more}
use Rattle.vx_flow.specs.declared.graph.Op.{Op}
use Rattle.vx_flow.specs.declared.graph.Exit.TheVariants.{Goto}
use Rattle.vx_flow.specs.declared.graph.Block.{Block}
use Rattle.vx_flow.specs.declared.graph.Graph.{Graph}
use Rattle.vx_flow.specs.Effects.{writes}
use Rattle.vx_flow.specs.Operands.{with_operands, with_value_in}
use Rattle.vx_flow.proofs.OperandLaws.{writes_are}
use Rattle.vx_select.specs.declared.corners.Corners.{Corners}
use Rattle.vx_select.specs.declared.values.Values.{Values}
use Rattle.vx_select.specs.Selected.{Diamond, has, takes, left_takes, right_takes, left_values, right_values, free_values, writing_to, after_write, moved, as_is, choice, both_sides, stays, numbered, changed, blocks_left, converted, led}
use Rattle.vx_select.specs.Values.{are_writing, writes_it, AreValues}
use Rattle.vx_select.specs.Known.{whole}
use Rattle.vx_select.specs.Joining.{now_behind, left_to, right_to, sides_by, changed_by, one_by, blocks_by, converted_by}

-- ---- a side, one operation after the other

either_way : (a b : Bool) (x y : ℕ) → cond a x (cond b x y) ≡ cond (b || a) x y
either_way true true x y = refl
either_way true false x y = refl
either_way false true x y = refl
either_way false false x y = refl

now_more : (to : ℕ → ℕ) (ops : List Op) (i : ℕ) (d : Op) → i < length ops → after_write to (writes (get_or ops i d)) (now_behind to (take i ops)) ≡ now_behind to (take (i + 1) ops)
now_more to ops i d h = fun_ext by
  where
    by : (v : ℕ) → after_write to (writes (get_or ops i d)) (now_behind to (take i ops)) v ≡ now_behind to (take (i + 1) ops) v
    by v =
        either_way (has (writes (get_or ops i d)) v) (are_writing (take i ops) v) (to v) v
        ∙ ap (λ b. cond (are_writing (take i ops) v || b) (to v) v) (ap (λ l. has l v) (sym (writes_are (get_or ops i d))))
        ∙ ap (λ b. cond b (to v) v) (sym (list_any_more (writes_it v) ops i d h))

drop_over : {A : Type 0} (xs : List A) (i : ℕ) → length xs ≤ i → drop i xs ≡ []
drop_over [] zero h = refl
drop_over [] (suc i) h = refl
drop_over (y ∷ ys) zero h = absurd (omega arith)
drop_over (y ∷ ys) (suc i) h = drop_over ys i (omega arith)

nil_append : {A : Type 0} (xs : List A) → xs ++ [] ≡ xs
nil_append [] = refl
nil_append (x ∷ xs) = ap (λ l. x ∷ l) (nil_append xs)

module _ (to : ℕ → ℕ) (side whole : List Op) (i : ℕ) (out : List Op) (so : out ++ moved to (now_behind to (take i side)) (drop i side) ≡ whole) where
  pub moved_next : (d op : Op) (front new : List Op) → i < length side → front ≡ take i side → op ≡ writing_to to (with_operands (with_value_in (now_behind to front)) (get_or side i d)) → new ≡ out ++ op ∷ [] →
      new ++ moved to (now_behind to (take (i + 1) side)) (drop (i + 1) side) ≡ whole
  moved_next d op front new h z p q =
      let now : ℕ → ℕ = now_behind to (take i side) in
      let later : List Op = moved to (now_behind to (take (i + 1) side)) (drop (i + 1) side) in
      let first : Op = writing_to to (with_operands (with_value_in now) (get_or side i d)) in
      let e : op ≡ first = p ∙ ap (λ (l : List Op). writing_to to (with_operands (with_value_in (now_behind to l)) (get_or side i d))) z in
      let one : moved to now (drop i side) ≡ first ∷ later = ap (moved to now) (drop_more side i d h) ∙ ap (λ f. first ∷ moved to f (drop (i + 1) side)) (now_more to side i d h) in
      ap (λ l. l ++ later) q ∙ append_assoc out (op ∷ []) later ∙ ap (λ o. out ++ o ∷ later) e ∙ ap (λ l. out ++ l) (sym one) ∙ so

  pub moved_end : length side ≤ i → out ≡ whole
  moved_end h = sym (nil_append out) ∙ ap (λ l. out ++ moved to (now_behind to (take i side)) l) (sym (drop_over side i h)) ∙ so

-- ---- blocks, one after the other

module _ (g : Graph) (c : Corners) (values : Values) where
  drop_at : (xs : List Block) (i : ℕ) (x : Block) → slice_get xs i ≡ Some x → drop i xs ≡ x ∷ drop (suc i) xs
  drop_at [] i x e = absurd (cc)
  drop_at (y ∷ ys) zero x e = let q : y ≡ x = cc in ap (λ z. z ∷ ys) q
  drop_at (y ∷ ys) (suc i) x e = drop_at ys i x e

  drop_past : (xs : List Block) (i : ℕ) → slice_get xs i ≡ None → drop i xs ≡ []
  drop_past [] zero e = refl
  drop_past [] (suc i) e = refl
  drop_past (y ∷ ys) zero e = absurd (cc)
  drop_past (y ∷ ys) (suc i) e = drop_past ys i e

  drop_after : (xs : List Block) (i : ℕ) → slice_get xs i ≡ None → drop (suc i) xs ≡ []
  drop_after [] i e = refl
  drop_after (y ∷ ys) zero e = absurd (cc)
  drop_after (y ∷ ys) (suc i) e = drop_after ys i e

  blocks_suc : (i : ℕ) (xs : List Block) → blocks_by g c values i (drop i xs) ≡ one_by g c values i (slice_get xs i) ++ blocks_by g c values (suc i) (drop (suc i) xs)
  blocks_suc i xs = by (slice_get xs i) refl
    where
      by : (o : Option Block) → slice_get xs i ≡ o → blocks_by g c values i (drop i xs) ≡ one_by g c values i o ++ blocks_by g c values (suc i) (drop (suc i) xs)
      by None e = ap (blocks_by g c values i) (drop_past xs i e) ∙ sym (ap (blocks_by g c values (suc i)) (drop_after xs i e))
      by (Some block) e = ap (blocks_by g c values i) (drop_at xs i block e)

  blocks_step : (i : ℕ) (xs : List Block) → blocks_by g c values i (drop i xs) ≡ one_by g c values i (slice_get xs i) ++ blocks_by g c values (i + 1) (drop (i + 1) xs)
  blocks_step i xs = let s : suc i ≡ i + 1 = omega arith in blocks_suc i xs ∙ ap (λ k. one_by g c values i (slice_get xs i) ++ blocks_by g c values k (drop k xs)) s

  module _ (i : ℕ) (out : List Block) (so : out ++ blocks_by g c values i (drop i g.blocks) ≡ blocks_by g c values 0 g.blocks) where
    pub blocks_next : (new : List Block) → new ≡ out ++ one_by g c values i (slice_get g.blocks i) → new ++ blocks_by g c values (i + 1) (drop (i + 1) g.blocks) ≡ blocks_by g c values 0 g.blocks
    blocks_next new q =
        let later : List Block = blocks_by g c values (i + 1) (drop (i + 1) g.blocks) in
        ap (λ l. l ++ later) q ∙ append_assoc out (one_by g c values i (slice_get g.blocks i)) later ∙ ap (λ l. out ++ l) (sym (blocks_step i g.blocks)) ∙ so

    pub blocks_end : length g.blocks ≤ i → out ≡ blocks_by g c values 0 g.blocks
    blocks_end h = sym (nil_append out) ∙ ap (λ l. out ++ blocks_by g c values i l) (sym (drop_over g.blocks i h)) ∙ so

-- where no block stands
pub none_added : (g : Graph) (c : Corners) (values : Values) (i : ℕ) (out : List Block) → slice_get g.blocks i ≡ None → out ≡ out ++ one_by g c values i (slice_get g.blocks i)
none_added g c values i out e = sym (nil_append out) ∙ ap (λ o. out ++ one_by g c values i o) (sym e)

-- ---- by the definition

takes_front : (us ws : List ℕ) (n v : ℕ) → length us ≤ n → takes us (take n ws) v ≡ takes us ws v
takes_front [] ws n v h = refl
takes_front (u ∷ us) ws zero v h = absurd (omega arith)
takes_front (u ∷ us) [] (suc n) v h = refl
takes_front (u ∷ us) (w ∷ ws) (suc n) v h = ap (λ x. cond (u == v) w x) (takes_front us ws n v (omega arith))

drop_take : (m n : ℕ) (ws : List ℕ) → drop m (take (m + n) ws) ≡ take n (drop m ws)
drop_take zero n ws = let z : 0 + n ≡ n = omega arith in ap (λ k. take k ws) z
drop_take (suc m) n [] = let z : suc m + n ≡ suc (m + n) = omega arith in ap (λ k. drop (suc m) (take k [])) z ∙ sym (no_take n)
  where
    no_take : (n : ℕ) → take {A = ℕ} n [] ≡ []
    no_take zero = refl
    no_take (suc n) = refl
drop_take (suc m) n (w ∷ ws) = let z : suc m + n ≡ suc (m + n) = omega arith in ap (λ k. drop (suc m) (take k (w ∷ ws))) z ∙ drop_take m n ws

module _ (live : ℕ → ℕ → Bool) (g : Graph) (c : Corners) (values : Values) (are : AreValues live g (whole g c) values) where
  abbrev d : Diamond
  d = whole g c

  abbrev L : List ℕ
  L = left_values g d

  abbrev R : List ℕ
  R = right_values g d

  abbrev F : List ℕ
  F = free_values live g d

  left_is : left_to values ≡ left_takes live g d
  left_is = ap (λ us. takes us values.free.items) are.left ∙ ap (takes L) are.free ∙ fun_ext (λ v. takes_front L F (length L + length R) v (omega arith))

  right_is : right_to values ≡ right_takes live g d
  right_is =
      ap (λ us. takes us (drop (length values.left.items) values.free.items)) are.right ∙ ap (λ (us : List ℕ). takes R (drop (length us) values.free.items)) are.left ∙ ap (λ ws. takes R (drop (length L) ws)) are.free
      ∙ ap (takes R) (drop_take (length L) (length R) F) ∙ fun_ext (λ v. takes_front R (drop (length L) F) (length R) v (omega arith))

  abbrev made : (ℕ → ℕ) → (ℕ → ℕ) → List ℕ → List Op
  made left right chosen = moved left as_is d.left ++ (moved right as_is d.right ++ map (choice left right d.test) chosen)

  sides_is : sides_by g c values ≡ both_sides live g d
  sides_is = ap (λ l. made l (right_to values) values.chosen.items) left_is ∙ ap (λ r. made (left_takes live g d) r values.chosen.items) right_is ∙ ap (made (left_takes live g d) (right_takes live g d)) are.chosen

  abbrev the_block : List Op → Block
  the_block ops = record { ops = ops; exit = Goto (numbered d d.join) }

  abbrev another : Block → Block
  another block = record { ops = block.ops; exit = led (numbered d) block.exit }

  changed_is : (b : ℕ) (block : Block) → changed_by g c values b block ≡ changed live g d b block
  changed_is b block = ap (λ (ops : List Op). cond (b == d.block) (the_block (d.before ++ ops)) (another block)) sides_is

  blocks_is : (b : ℕ) (xs : List Block) → blocks_by g c values b xs ≡ blocks_left live g d b xs
  blocks_is b [] = refl
  blocks_is b (x ∷ xs) = by (stays d b) (changed_is b x) (blocks_is (suc b) xs)
    where
      by : (s : Bool) → changed_by g c values b x ≡ changed live g d b x → blocks_by g c values (suc b) xs ≡ blocks_left live g d (suc b) xs →
          cond s (changed_by g c values b x ∷ []) [] ++ blocks_by g c values (suc b) xs ≡ cond s (changed live g d b x ∷ blocks_left live g d (suc b) xs) (blocks_left live g d (suc b) xs)
      by true e r = ap (λ k. k ∷ blocks_by g c values (suc b) xs) e ∙ ap (λ l. changed live g d b x ∷ l) r
      by false e r = r

  pub converted_is : converted_by g c values ≡ converted live g d
  converted_is = ap (λ (l : List Block). record g { blocks = l }) (blocks_is 0 g.blocks)
