-- What is known of an operand is true of what it holds: where that is a number, the form comes to it, up to multiples of
-- 2 ^ 32. One operation keeps this.
use Rattle.std.proofs.Common.{◌≡◌, ℕ, refl, sym, ◌∙◌, ap, arith, Bool, true, false, ◌&&◌, if◌then◌else◌, Option, Some, None, ℤ, pos, negsuc, ◌+ℤ◌, ◌-ℤ◌, ◌*ℤ◌, subst}
use Rattle.std.proofs.lemmas.Int.{ints}
use Rattle.std.proofs.Math.IntN.{*ℤ_comm}
use Rattle.std.specs.Ordering.{int_eq}
use Rattle.vx_base.specs.Arithmetic.{wrap, sum_of, difference_of, value_of}
use Rattle.vx_base.specs.declared.arithmetic.Code.{Code}
use Rattle.vx_base.specs.declared.arithmetic.Code.TheVariants.{Add, Sub, And, Or, Xor, Shl, Shr, Shru, Sh2add, Max, Min, Mov, ToGeneral, ToBranch, Mpylu, Mpyhs, Div, Rem}
use Rattle.vx_flow.specs.declared.graph.Operand.{Operand}
use Rattle.vx_flow.specs.declared.graph.Operand.TheVariants.{Held, Number, Stack}
use Rattle.vx_flow.specs.Effects.{Content, State, held, both, computed as made_of}
use Rattle.vx_linear.specs.declared.form.Symbol.{Symbol}
use Rattle.vx_linear.specs.declared.form.Symbol.TheVariants.{Made}
use Rattle.vx_linear.specs.declared.linear.Linear.{Linear}
use Rattle.vx_linear.specs.declared.known_values.Half.{Half}
use Rattle.vx_linear.specs.declared.known_values.Known.{Known}
use Rattle.vx_linear.specs.Linear.{constant, symbol, plus, minus, same}
use Rattle.vx_linear.specs.Followed.{plain, number_in, common, are_two, are_halves, by_number, product_or, times_or, by_half, computed}
use Rattle.vx_linear.proofs.Symbols.{first-true, second-true}
use Rattle.vx_linear.specs.Amounts.{amount, Like}
use Rattle.vx_linear.proofs.Reduced.{like_wrap, like_sum, like_product, amount_plus, amount_times, amount_minus, amount_same}
use Rattle.vx_linear.proofs.ByNumber.{half_code, shl_by_one, mpylu_by_one, mpyhs_by_one, sum_of_halves}

-- where the content is a number, the form comes to it
abbrev pub Tells : (Symbol → ℤ) → Linear → Content → Type 0
Tells s a x = (n : ℤ) → x ≡ Some n → Like n (amount s a)

-- the content is what a half multiplication makes of two operands, of which this is known
pub record MadeByHalf (s : Symbol → ℤ) (h : Half) (x : Content) : Type 0 where
  pub left : Content
  pub right : Content
  pub is : x ≡ both (value_of (half_code h.is_high)) left right
  pub tells_left : Tells s h.left.linear left
  pub tells_right : Tells s h.right.linear right
  pub number_left : (n : ℤ) → h.left.number ≡ Some n → left ≡ Some n
  pub number_right : (n : ℤ) → h.right.number ≡ Some n → right ≡ Some n

pub record Told (s : Symbol → ℤ) (k : Known) (x : Content) : Type 0 where
  pub tells : Tells s k.linear x
  pub half : (h : Half) → k.half ≡ Some h → MadeByHalf s h x

pub some_is : (n m : ℤ) → Option.Some n ≡ Some m → n ≡ m
some_is n m e = cc

pub no_some : {A : Type 0} (n : A) → Option.None ≡ Some n → ⊥
no_some n e = cc

pub told_plain : (s : Symbol → ℤ) (a : Linear) (x : Content) → Tells s a x → Told s (plain a) x
told_plain s a x h = record { tells = h; half = λ k e. absurd (no_some k e) }

pub tells_constant : (s : Symbol → ℤ) (n : ℤ) → Tells s (constant n) (Some n)
tells_constant s n m e = ap wrap (sym (some_is n m e) ∙ omega (arith, ints))

pub tells_none : (s : Symbol → ℤ) (a : Linear) → Tells s a None
tells_none s a n e = absurd (no_some n e)

-- a symbol that stands for what is held
pub tells_symbol : (s : Symbol → ℤ) (y : Symbol) (x : Content) → ((n : ℤ) → x ≡ Some n → n ≡ s y) → Tells s (symbol y) x
tells_symbol s y x h n e = ap wrap (h n e ∙ once (s y))
  where
    once : (z : ℤ) → z ≡ pos 0 +ℤ (pos 1 *ℤ z +ℤ pos 0)
    once z = omega (arith, ints)

-- what two operands must hold where an operation of them gives a number
record Both (f : ℤ → ℤ → ℤ) (x y : Content) (n : ℤ) : Type 0 where
  left : ℤ
  right : ℤ
  is_left : x ≡ Some left
  is_right : y ≡ Some right
  is : n ≡ f left right

both_of : (f : ℤ → ℤ → ℤ) (x y : Content) (n : ℤ) → both f x y ≡ Some n → Both f x y n
both_of f None y n e = absurd (no_some n e)
both_of f (Some a) None n e = absurd (no_some n e)
both_of f (Some a) (Some b) n e = record { left = a; right = b; is_left = refl; is_right = refl; is = sym (some_is (f a b) n e) }

number_held : (st : State) (b : Operand) (n : ℤ) → number_in b ≡ Some n → held st b ≡ Some n
number_held st (Held v) n e = absurd (no_some n e)
number_held st (Number m) n e = e
number_held st Stack n e = absurd (no_some n e)

-- ---- sums and products

common_left : (p q : Option ℤ) (n : ℤ) → common p q ≡ Some n → p ≡ Some n
common_left None q n e = absurd (no_some n e)
common_left (Some a) None n e = absurd (no_some n e)
common_left (Some a) (Some b) n e = by (int_eq a b) e
  where
    by : (t : Bool) → (if t then Some a else None) ≡ Some n → Option.Some a ≡ Some n
    by true e = e
    by false e = absurd (no_some n e)

module _ (s : Symbol → ℤ) where
  sum_told : (a b : Linear) (x y : Content) → Tells s a x → Tells s b y → Tells s (plus a b) (both sum_of x y)
  unfolding sum_of
  sum_told a b x y h k n e =
      let o = both_of sum_of x y n e in
      ap wrap o.is ∙ like_wrap (o.left +ℤ o.right) ∙ like_sum o.left o.right (amount s a) (amount s b) (h o.left o.is_left) (k o.right o.is_right) ∙ sym (amount_plus s a b)

  difference_told : (a b : Linear) (x y : Content) → Tells s a x → Tells s b y → Tells s (minus a b) (both difference_of x y)
  unfolding difference_of
  difference_told a b x y h k n e =
      let o = both_of difference_of x y n e in
      ap wrap o.is ∙ like_wrap (o.left -ℤ o.right) ∙ like_difference o.left o.right (amount s a) (amount s b) (h o.left o.is_left) (k o.right o.is_right) ∙ sym (amount_minus s a b)
    where
      like_difference : (a b x y : ℤ) → Like a x → Like b y → Like (a -ℤ b) (x -ℤ y)
      like_difference a b x y h k =
          ap wrap (negative a b) ∙ like_sum a (negsuc 0 *ℤ b) x (negsuc 0 *ℤ y) h (like_product (negsuc 0) b (negsuc 0) y refl k) ∙ ap wrap (sym (negative x y))
        where
          negative : (a b : ℤ) → a -ℤ b ≡ a +ℤ negsuc 0 *ℤ b
          negative a b = omega (arith, ints)

  -- two halves of one product, added
  record OneProduct (h : Half) (n : ℤ) : Type 0 where
    left : ℤ
    right : ℤ
    is : Like n (left *ℤ right)
    tells_left : Like left (amount s h.left.linear)
    tells_right : Like right (amount s h.right.linear)
    number_left : (m : ℤ) → h.left.number ≡ Some m → left ≡ m
    number_right : (m : ℤ) → h.right.number ≡ Some m → right ≡ m

  one_product : (h k : Half) (x y : Content) (n : ℤ) → MadeByHalf s h x → MadeByHalf s k y → are_halves h k ≡ true → both sum_of x y ≡ Some n → OneProduct h n
  one_product h k x y n p q e f =
      let o = both_of sum_of x y n f in
      let a = both_of (value_of (half_code h.is_high)) p.left p.right o.left (sym p.is ∙ o.is_left) in
      let b = both_of (value_of (half_code k.is_high)) q.left q.right o.right (sym q.is ∙ o.is_right) in
      let two = first-true (are_two h.is_high k.is_high) (same h.left.linear k.left.linear && same h.right.linear k.right.linear) e in
      let alike = second-true (are_two h.is_high k.is_high) (same h.left.linear k.left.linear && same h.right.linear k.right.linear) e in
      let same_left = amount_same s h.left.linear k.left.linear (first-true (same h.left.linear k.left.linear) (same h.right.linear k.right.linear) alike) in
      let same_right = amount_same s h.right.linear k.right.linear (second-true (same h.left.linear k.left.linear) (same h.right.linear k.right.linear) alike) in
      let left_told = p.tells_left a.left a.is_left in
      let right_told = p.tells_right a.right a.is_right in
      record {
        left = a.left;
        right = a.right;
        is =
            ap wrap (o.is ∙ (λ i. sum_of (a.is i) (b.is i)))
            ∙ sum_of_halves h.is_high k.is_high a.left a.right b.left b.right two
            (left_told ∙ ap wrap same_left ∙ sym (q.tells_left b.left b.is_left))
            (right_told ∙ ap wrap same_right ∙ sym (q.tells_right b.right b.is_right));
        tells_left = left_told;
        tells_right = right_told;
        number_left = λ m g. some_is a.left m (sym a.is_left ∙ p.number_left m g);
        number_right = λ m g. some_is a.right m (sym a.is_right ∙ p.number_right m g);
      }

  product_told : (h k : Half) (x y : Content) (sum : Linear) → MadeByHalf s h x → MadeByHalf s k y → are_halves h k ≡ true → Tells s sum (both sum_of x y) →
      (l r : Option ℤ) → common h.left.number k.left.number ≡ l → common h.right.number k.right.number ≡ r → Tells s (by_number l r h sum) (both sum_of x y)
  product_told h k x y sum p q e t (Some m) r f g n c =
      let o = one_product h k x y n p q e c in
      o.is ∙ like_product o.left o.right m (amount s h.right.linear) (ap wrap (o.number_left m (common_left h.left.number k.left.number m f))) o.tells_right
      ∙ sym (amount_times s m h.right.linear)
  product_told h k x y sum p q e t None (Some m) f g n c =
      let o = one_product h k x y n p q e c in
      o.is ∙ ap wrap (*ℤ_comm o.left o.right) ∙ like_product o.right o.left m (amount s h.left.linear) (ap wrap (o.number_right m (common_left h.right.number k.right.number m g))) o.tells_left
      ∙ sym (amount_times s m h.left.linear)
  product_told h k x y sum p q e t None None f g n c = t n c

  product_or_told : (p q : Option Half) (x y : Content) (sum : Linear) → ((h : Half) → p ≡ Some h → MadeByHalf s h x) → ((h : Half) → q ≡ Some h → MadeByHalf s h y) → Tells s sum (both sum_of x y) →
      Tells s (product_or p q sum) (both sum_of x y)
  product_or_told None q x y sum h k t = t
  product_or_told (Some p) None x y sum h k t = t
  product_or_told (Some p) (Some q) x y sum h k t = by (are_halves p q) refl
    where
      by : (b : Bool) → are_halves p q ≡ b → Tells s (if b then by_number (common p.left.number q.left.number) (common p.right.number q.right.number) p sum else sum) (both sum_of x y)
      by true e = product_told p q x y sum (h p refl) (k q refl) e t (common p.left.number q.left.number) (common p.right.number q.right.number) refl refl
      by false e = t

  -- ---- by a number

  times_or_told : (code : Code) → ((x n : ℤ) → Like (value_of code x n) (value_of code (pos 1) n *ℤ x)) → (st : State) (b : Operand) (m : Option ℤ) → number_in b ≡ m → (a other : Linear) (x : Content) → Tells s a x → Tells s other (both (value_of code) x (held st b)) →
      Tells s (times_or m code a other) (both (value_of code) x (held st b))
  times_or_told code one st b None f a other x h t n e = t n e
  times_or_told code one st b (Some m) f a other x h t n e =
      let o = both_of (value_of code) x (held st b) n e in
      let right_is : o.right ≡ m = some_is o.right m (sym o.is_right ∙ number_held st b m f) in
      ap wrap (o.is ∙ ap (value_of code o.left) right_is) ∙ one o.left m
      ∙ like_product (value_of code (pos 1) m) o.left (value_of code (pos 1) m) (amount s a) refl (h o.left o.is_left)
      ∙ sym (amount_times s (value_of code (pos 1) m) a)

  module _ (st : State) (i : ℕ) (a b : Operand) (x y : Known) (h : Told s x (held st a)) (k : Told s y (held st b)) where
    half_told : (high : Bool) → ((x n : ℤ) → Like (value_of (half_code high) x n) (value_of (half_code high) (pos 1) n *ℤ x)) →
        Tells s (symbol (Made i)) (both (value_of (half_code high)) (held st a) (held st b)) →
        Told s (by_half high i (half_code high) a b x y) (both (value_of (half_code high)) (held st a) (held st b))
    half_told high one t = record {
      tells = times_or_told (half_code high) one st b (number_in b) refl x.linear (symbol (Made i)) (held st a) h.tells t;
      half = λ q e. subst (λ z. MadeByHalf s z (both (value_of (half_code high)) (held st a) (held st b))) (some_half _ q e) (record {
        left = held st a;
        right = held st b;
        is = refl;
        tells_left = h.tells;
        tells_right = k.tells;
        number_left = number_held st a;
        number_right = number_held st b;
      });
    }
      where
        some_half : (p q : Half) → Option.Some p ≡ Some q → p ≡ q
        some_half p q e = cc

    -- what is known of what an operation makes, where its symbol stands for it
    pub computed_told : (code : Code) → Tells s (symbol (Made i)) (made_of code (held st a) (held st b)) → Told s (computed i code a b x y) (made_of code (held st a) (held st b))
    computed_told Add t = told_plain s _ _ (product_or_told x.half y.half (held st a) (held st b) (plus x.linear y.linear) h.half k.half (sum_told x.linear y.linear (held st a) (held st b) h.tells k.tells))
    computed_told Sub t = told_plain s _ _ (difference_told x.linear y.linear (held st a) (held st b) h.tells k.tells)
    computed_told Mov t = told_plain s _ _ h.tells
    computed_told Shl t = told_plain s _ _ (times_or_told Shl shl_by_one st b (number_in b) refl x.linear (symbol (Made i)) (held st a) h.tells t)
    computed_told Mpylu t = half_told false mpylu_by_one t
    computed_told Mpyhs t = half_told true mpyhs_by_one t
    computed_told And t = told_plain s _ _ t
    computed_told Or t = told_plain s _ _ t
    computed_told Xor t = told_plain s _ _ t
    computed_told Shr t = told_plain s _ _ t
    computed_told Shru t = told_plain s _ _ t
    computed_told Sh2add t = told_plain s _ _ t
    computed_told Max t = told_plain s _ _ t
    computed_told Min t = told_plain s _ _ t
    computed_told (ToGeneral c) t = told_plain s _ _ t
    computed_told (ToBranch c) t = told_plain s _ _ t
    computed_told Div t = told_plain s _ _ t
    computed_told Rem t = told_plain s _ _ t
