-- A product in one operation gives what the sum of its half products gives.
use Rattle.std.proofs.Common.{◌≡◌, ℕ, zero, suc, ◌+◌, ◌*◌, ◌/◌, ◌%◌, ◌^◌, Bool, true, false, ◌&&◌, ◌≤ℤ◌, ℤ, pos, negsuc, int_le, List, [], ◌∷◌, Option, Some, None, refl, sym, ap, ◌∙◌, subst, arith}
use Rattle.std.specs.Int.{w32}
use Rattle.std.specs.Ordering.{int_eq}
use Rattle.std.proofs.lemmas.Int.{ints, int_wrap-add_left, int_wrap-add_right}
use Rattle.std.proofs.lemmas.Nat.{div-add-mod'}
use Rattle.std.proofs.lemmas.Bool.{eqb-true}
use Rattle.std.proofs.Math.IntN.{*ℤ_comm}
use Rattle.vx_base.specs.Arithmetic.{wrap, unsigned, value_of, sum_of, product_of, shl_of, mpylu_of, mpyhs_of}
use Rattle.vx_base.specs.declared.arithmetic.Code.{Code}
use Rattle.vx_base.specs.declared.arithmetic.Code.TheVariants.{Add, And, Shl, Mpylu, Mpyhs}
use Rattle.vx_base.proofs.WrapLaws.{wrap-unsigned_product}
use Rattle.vx_base.proofs.ArithmeticLaws.{equal-true}
use Rattle.vx_flow.specs.declared.graph.Operand.{Operand}
use Rattle.vx_flow.specs.declared.graph.Operand.TheVariants.{Held, Number, Stack}
use Rattle.vx_flow.specs.declared.graph.Op.{Op}
use Rattle.vx_flow.specs.declared.graph.Op.TheVariants.{Compute}
use Rattle.vx_flow.specs.Effects.{Content, State, Setting, held, both, computed, with_value, effect}
use Rattle.vx_claims.specs.declared.intervals.Interval.{Interval}
use Rattle.vx_claims.specs.declared.fact.Fact.{Fact}
use Rattle.vx_claims.specs.declared.fact.Fact.TheVariants.{Between, Congruent, Equals, Never}
use Rattle.vx_narrow.specs.declared.one_product.Factors.{Factors}
use Rattle.vx_claims.specs.Facts.{Within, content, Holds, AllHold, range_of, is_half, has_equals}
use Rattle.vx_narrow.specs.Shortening.{shift_if, shift_below, shift_of, shift_in, shifted_or, low_or, names_number, product_or, is_low, factors_if, factors_of, product_if, sum_as, short_sum, shortened}
use Rattle.vx_narrow.proofs.Ranges.{and_one, and_two, le_holds, range_of_holds, small_product, shifted_whole}
use Rattle.vx_narrow.proofs.Equal.{has_holds}
use Rattle.vx_narrow.proofs.Masks.{masked_same}
use Rattle.vx_narrow.proofs.Operations.{Good, held_is}

-- ---- numbers

halves : (x y m : ℕ) → x * (y % m) + x * (y / m) * m ≡ x * y
halves x y m = let e = div-add-mod' y m in omega (arith, ap (λ n. x * n) e)

whole : (a b : ℤ) → sum_of (mpylu_of a b) (mpyhs_of a b) ≡ product_of a b
unfolding sum_of product_of mpylu_of mpyhs_of
whole a b =
    let low = unsigned a * (unsigned b % 2 ^ 16) in
    let high = unsigned a * (unsigned b / 2 ^ 16) * 2 ^ 16 in
    int_wrap-add_left w32 (pos low) (wrap (pos high)) ∙ int_wrap-add_right w32 (pos low) (pos high) ∙ ap (λ n. wrap (pos n)) (halves (unsigned a) (unsigned b) (2 ^ 16)) ∙ wrap-unsigned_product a b

low_whole : (a b : ℤ) → pos 0 ≤ℤ b → b ≤ℤ pos 65535 → mpylu_of a b ≡ product_of a b
unfolding product_of mpylu_of
low_whole a (pos n) h k = small_product a n k
low_whole a (negsuc n) h k = absurd (omega (arith, ints))

product_turned : (a b : ℤ) → product_of a b ≡ product_of b a
unfolding product_of
product_turned a b = ap wrap (*ℤ_comm a b)

-- ---- shifts

shift_by_holds : (t : Bool) (j k : ℕ) (o : Option ℕ) (n : ℤ) → shift_if t j o ≡ Some k → (t ≡ true → shl_of (pos 1) (pos j) ≡ n) → (o ≡ Some k → shl_of (pos 1) (pos k) ≡ n) → shl_of (pos 1) (pos k) ≡ n
shift_by_holds true j k o n e h g = let q : j ≡ k = cc in subst (λ i. shl_of (pos 1) (pos i) ≡ n) q (h refl)
shift_by_holds false j k o n e h g = g e

shift_below_holds : (m k : ℕ) (n : ℤ) → shift_below m n ≡ Some k → shl_of (pos 1) (pos k) ≡ n
unfolding shift_below
shift_below_holds zero k n e = absurd (cc)
shift_below_holds (suc m) k n e =
    shift_by_holds (int_eq (value_of Shl (pos 1) (pos (suc m))) n) (suc m) k (shift_below m n) n e (λ t. equal-true (shl_of (pos 1) (pos (suc m))) n t) (λ q. shift_below_holds m k n q)

shift_of_holds : (k : ℕ) (n : ℤ) → shift_of n ≡ Some k → shl_of (pos 1) (pos k) ≡ n
unfolding shift_of
shift_of_holds k n e = shift_below_holds 30 k n e

-- ---- contents

abbrev product : Content → Content → Content
product a b = both product_of a b

whole_content : (a b : Content) → both sum_of (computed Mpylu a b) (computed Mpyhs a b) ≡ product a b
whole_content None b = refl
whole_content (Some x) None = refl
whole_content (Some x) (Some y) = ap Some (whole x y)

low_content : (i : Interval) (a b : Content) → is_half i ≡ true → Within i b → computed Mpylu a b ≡ product a b
low_content i None b e h = refl
low_content i (Some x) None e h = refl
low_content i (Some x) (Some y) e h =
    let l = le_holds (pos 0) i.low (and_one (int_le (pos 0) i.low) (int_le i.high (pos 65535)) e) in
    let g = le_holds i.high (pos 65535) (and_two (int_le (pos 0) i.low) (int_le i.high (pos 65535)) e) in
    ap Some (low_whole x y (omega (arith, ints, l, h.0)) (omega (arith, ints, g, h.1)))

turned_content : (a b : Content) → product a b ≡ product b a
turned_content None None = refl
turned_content None (Some y) = refl
turned_content (Some x) None = refl
turned_content (Some x) (Some y) = ap Some (product_turned x y)

shifted_content : (a : Content) (k n : ℤ) → shl_of (pos 1) k ≡ n → computed Shl a (Some k) ≡ product a (Some n)
shifted_content None k n e = refl
shifted_content (Some x) k n e = ap Some (shifted_whole x k n e)

-- ---- operations

module _ (setting : Setting) (s : State) (fs : List Fact) (g : Good fs s) where
  -- what an operation of this form leaves
  abbrev Gives : ℕ → Content → Op → Type 0
  Gives v c op = effect setting s op s ≡ Some (with_value s v c)

  gives_as : (v : ℕ) (x c : Content) → x ≡ c → Option.Some (with_value s v x) ≡ Some (with_value s v c)
  gives_as v x c e = ap (λ y. Some (with_value s v y)) e

  shifted_gives : (o : Option ℕ) (v : ℕ) (a : Operand) (n : ℤ) (c : Content) (otherwise : Op) → product (held s a) (Some n) ≡ c → ((k : ℕ) → o ≡ Some k → shl_of (pos 1) (pos k) ≡ n) → Gives v c otherwise → Gives v c (shifted_or o v a otherwise)
  shifted_gives None v a n c otherwise q h d = d
  shifted_gives (Some k) v a n c otherwise q h d = gives_as v (computed Shl (held s a) (Some (pos k))) c (shifted_content (held s a) (pos k) n (h k refl) ∙ q)

  shift_gives : (v : ℕ) (a b : Operand) (c : Content) (otherwise : Op) → product (held s a) (held s b) ≡ c → Gives v c otherwise → Gives v c (shifted_or (shift_in b) v a otherwise)
  shift_gives v a (Held u) c otherwise q d = d
  shift_gives v a (Number n) c otherwise q d = shifted_gives (shift_of n) v a n c otherwise q (λ k e. shift_of_holds k n e) d
  shift_gives v a Stack c otherwise q d = d

  low_gives : (t : Bool) (v : ℕ) (a b : Operand) (c : Content) (otherwise : Op) → (t ≡ true → is_half (range_of fs b) ≡ true) → product (held s a) (held s b) ≡ c → Gives v c otherwise → Gives v c (low_or t v a b otherwise)
  low_gives false v a b c otherwise e q d = d
  low_gives true v a b c otherwise e q d =
      let w : Within (range_of fs b) (held s b) = subst (Within (range_of fs b)) (sym (held_is s b)) (range_of_holds s.values fs b g.fits.values g.facts) in
      gives_as v (computed Mpylu (held s a) (held s b)) c (low_content (range_of fs b) (held s a) (held s b) (e refl) w ∙ q)

  product_gives : (v : ℕ) (a b : Operand) (c : Content) (otherwise : Op) → product (held s a) (held s b) ≡ c → Gives v c otherwise → Gives v c (product_or fs v a b otherwise)
  product_gives v a b c otherwise q d =
      let turned : product (held s b) (held s a) ≡ c = turned_content (held s b) (held s a) ∙ q in
      let third : Op = low_or (is_half (range_of fs a)) v b a otherwise in
      let second : Op = low_or (is_half (range_of fs b)) v a b third in
      let first : Op = low_or (names_number a && is_half (range_of fs a)) v b a second in
      let three : Gives v c third = low_gives (is_half (range_of fs a)) v b a c otherwise (λ e. e) turned d in
      let two : Gives v c second = low_gives (is_half (range_of fs b)) v a b c third (λ e. e) q three in
      let one : Gives v c first = low_gives (names_number a && is_half (range_of fs a)) v b a c second (λ e. and_two (names_number a) (is_half (range_of fs a)) e) turned two in
      shift_gives v a b c (shifted_or (shift_in a) v b first) q (shift_gives v b a c first turned one)

  low_is : (u w : ℕ) (code : Code) (a b : Operand) → is_low u w code ≡ true → Holds s.values (Equals w code a b) → s.values u ≡ computed Mpylu (content s.values a) (content s.values b)
  low_is u w Mpylu a b e h = sym (ap s.values (eqb-true w u e)) ∙ h
  low_is u w code a b e h = absurd (cc)

  factors_hold : (gs : List Fact) (u : ℕ) → AllHold s.values gs → (f : Factors) → factors_of gs u ≡ Some f → s.values u ≡ computed Mpylu (content s.values f.left) (content s.values f.right)
  factors_hold [] u h f e = absurd (cc)
  factors_hold (Between w i ∷ gs) u h f e = factors_hold gs u h.1 f e
  factors_hold (Congruent w c ∷ gs) u h f e = factors_hold gs u h.1 f e
  factors_hold (Never ∷ gs) u h f e = absurd h.0
  factors_hold (Equals w code a b ∷ gs) u h f e = by (is_low u w code) refl e (λ r. factors_hold gs u h.1 f r)
    where
      by : (t : Bool) → is_low u w code ≡ t → factors_if t a b (factors_of gs u) ≡ Some f → (factors_of gs u ≡ Some f → s.values u ≡ computed Mpylu (content s.values f.left) (content s.values f.right)) → s.values u ≡ computed Mpylu (content s.values f.left) (content s.values f.right)
      by true q r k = let made : Factors = record { left = a; right = b } in let is : made ≡ f = cc in subst (λ (z : Factors). s.values u ≡ computed Mpylu (content s.values z.left) (content s.values z.right)) is (low_is u w code a b q h.0)
      by false q r k = k r

  sum_is : (u w : ℕ) (f : Factors) → s.values u ≡ computed Mpylu (content s.values f.left) (content s.values f.right) → s.values w ≡ computed Mpyhs (content s.values f.left) (content s.values f.right) →
      product (held s f.left) (held s f.right) ≡ computed Add (s.values u) (s.values w)
  sum_is u w f e q =
      let a : Content = content s.values f.left in
      let b : Content = content s.values f.right in
      ap (λ x. product x (held s f.right)) (held_is s f.left) ∙ ap (λ x. product a x) (held_is s f.right) ∙ sym (whole_content a b) ∙ ap (λ x. both sum_of x (computed Mpyhs a b)) (sym e) ∙ ap (λ x. both sum_of (s.values u) x) (sym q)

  sum_gives : (o : Option Factors) (v u w : ℕ) (otherwise : Op) → factors_of fs u ≡ o → Gives v (computed Add (s.values u) (s.values w)) otherwise → Gives v (computed Add (s.values u) (s.values w)) (sum_as fs o v w otherwise)
  sum_gives None v u w otherwise e d = d
  sum_gives (Some f) v u w otherwise e d = by (has_equals fs w Mpyhs f.left f.right) refl
    where
      by : (t : Bool) → has_equals fs w Mpyhs f.left f.right ≡ t → Gives v (computed Add (s.values u) (s.values w)) (product_if t fs v f.left f.right otherwise)
      by true q = product_gives v f.left f.right (computed Add (s.values u) (s.values w)) otherwise (sum_is u w f (factors_hold fs u g.facts f e) (has_holds s.values fs w Mpyhs f.left f.right g.facts q)) d
      by false q = d

  short_same : (v : ℕ) (a b : Operand) → effect setting s (short_sum fs v a b) s ≡ effect setting s (Compute Add v a b) s
  short_same v (Held u) (Held w) = sum_gives (factors_of fs u) v u w (Compute Add v (Held u) (Held w)) refl refl
  short_same v a b = refl

  pub shortened_same : (op : Op) → effect setting s (shortened fs op) s ≡ effect setting s op s
  shortened_same (Compute Add v a b) = short_same v a b
  shortened_same (Compute And v a b) = masked_same setting s fs g.facts v a b
  shortened_same op = refl
