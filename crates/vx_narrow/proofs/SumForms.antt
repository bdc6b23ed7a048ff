-- A computation in the form of a sum of what is at hand gives the same.
use Rattle.std.proofs.Common.{◌≡◌, ℕ, zero, suc, ◌==◌, ◌^◌, Bool, true, false, ℤ, pos, ◌+ℤ◌, ◌-ℤ◌, ◌*ℤ◌, List, [], ◌∷◌, Option, Some, None, refl, sym, ap, ◌∙◌, subst, arith}
use Rattle.std.specs.Int.{w32}
use Rattle.std.proofs.lemmas.Int.{ints, int_wrap-add_left, int_wrap-add_right, int_wrap-sub_right, int_wrap-mul_left}
use Rattle.std.proofs.lemmas.Bool.{eqb-true}
use Rattle.std.proofs.Math.IntN.{*ℤ-zero}
use Rattle.vx_base.specs.Arithmetic.{wrap, shift_by, sum_of, difference_of, shl_of, value_of}
use Rattle.vx_base.specs.declared.arithmetic.Code.{Code}
use Rattle.vx_base.specs.declared.arithmetic.Code.TheVariants.{Add, Sub, Shl}
use Rattle.vx_base.proofs.WrapLaws.{sum_of-wrap, wrap_fits}
use Rattle.vx_flow.specs.declared.graph.Operand.{Operand}
use Rattle.vx_flow.specs.declared.graph.Operand.TheVariants.{Held, Number, Stack}
use Rattle.vx_flow.specs.Effects.{Content, both, computed}
use Rattle.vx_claims.specs.declared.fact.Fact.{Fact}
use Rattle.vx_claims.specs.declared.fact.Fact.TheVariants.{Between, Congruent, Equals, Never}
use Rattle.vx_claims.specs.declared.sums.Sum.{Sum}
use Rattle.vx_claims.specs.declared.sums.Computation.{Computation}
use Rattle.vx_claims.specs.Facts.{full, Within, content, Holds, AllHold, found}
use Rattle.vx_claims.specs.Sums.{sum_if, sum_at, first_sum, held_as_sum, behind_if, behind, below, as_is, plus, plus_or, number_added, left_sum, right_sum, held_sum, held_difference, shifted, based_sum, based_difference, based_shift, based}
use Rattle.vx_narrow.proofs.Ranges.{Fit, number_within, product_suc}
use Rattle.vx_narrow.proofs.Equal.{found_holds}

-- ---- numbers

number_again : (u c n : ℤ) → sum_of (sum_of u c) n ≡ sum_of u (sum_of c n)
unfolding sum_of
number_again u c n = let e : (u +ℤ c) +ℤ n ≡ u +ℤ (c +ℤ n) = omega (arith, ints) in int_wrap-add_left w32 (u +ℤ c) n ∙ ap wrap e ∙ sym (int_wrap-add_right w32 u (c +ℤ n))

number_brought : (u n : ℤ) → sum_of u (sum_of (pos 0) n) ≡ sum_of u n
unfolding sum_of
number_brought u n = let e : u +ℤ (pos 0 +ℤ n) ≡ u +ℤ n = omega (arith, ints) in int_wrap-add_right w32 u (pos 0 +ℤ n) ∙ ap wrap e

left_out : (u c b : ℤ) → sum_of (sum_of u c) b ≡ sum_of (sum_of u b) c
unfolding sum_of
left_out u c b = let e : (u +ℤ c) +ℤ b ≡ (u +ℤ b) +ℤ c = omega (arith, ints) in int_wrap-add_left w32 (u +ℤ c) b ∙ ap wrap e ∙ sym (int_wrap-add_left w32 (u +ℤ b) c)

right_out : (a u c : ℤ) → sum_of a (sum_of u c) ≡ sum_of (sum_of a u) c
unfolding sum_of
right_out a u c = let e : a +ℤ (u +ℤ c) ≡ (a +ℤ u) +ℤ c = omega (arith, ints) in int_wrap-add_right w32 a (u +ℤ c) ∙ ap wrap e ∙ sym (int_wrap-add_left w32 (a +ℤ u) c)

difference_is : (a n : ℤ) → difference_of a n ≡ sum_of a (difference_of (pos 0) n)
unfolding sum_of difference_of
difference_is a n = let e : a -ℤ n ≡ a +ℤ (pos 0 -ℤ n) = omega (arith, ints) in ap wrap e ∙ sym (int_wrap-add_right w32 a (pos 0 -ℤ n))

left_out_of : (u c b : ℤ) → difference_of (sum_of u c) b ≡ sum_of (difference_of u b) c
left_out_of u c b = difference_is (sum_of u c) b ∙ left_out u c (difference_of (pos 0) b) ∙ ap (λ z. sum_of z c) (sym (difference_is u b))

right_out_of : (a u c : ℤ) → difference_of a (sum_of u c) ≡ sum_of (difference_of a u) (difference_of (pos 0) c)
unfolding sum_of difference_of
right_out_of a u c = let e : a -ℤ (u +ℤ c) ≡ (a -ℤ u) +ℤ (pos 0 -ℤ c) = omega (arith, ints) in int_wrap-sub_right w32 a (u +ℤ c) ∙ ap wrap e ∙ sym (sum_of-wrap (a -ℤ u) (pos 0 -ℤ c))

times_sum : (u c : ℤ) (n : ℕ) → (u +ℤ c) *ℤ pos n ≡ u *ℤ pos n +ℤ c *ℤ pos n
times_sum u c zero = omega (arith, ints, *ℤ-zero (u +ℤ c), *ℤ-zero u, *ℤ-zero c)
times_sum u c (suc n) = omega (arith, ints, product_suc (u +ℤ c) n, product_suc u n, product_suc c n, times_sum u c n)

shift_out : (u c n : ℤ) → shl_of (sum_of u c) n ≡ sum_of (shl_of u n) (shl_of c n)
unfolding sum_of shl_of
shift_out u c n = let m : ℕ = 2 ^ shift_by n in int_wrap-mul_left w32 (u +ℤ c) (pos m) ∙ ap wrap (times_sum u c m) ∙ sym (sum_of-wrap (u *ℤ pos m) (c *ℤ pos m))

-- ---- contents

number_again_content : (x : Content) (c n : ℤ) → computed Add (computed Add x (Some c)) (Some n) ≡ computed Add x (Some (sum_of c n))
number_again_content None c n = refl
number_again_content (Some u) c n = ap Some (number_again u c n)

brought_content : (x : Content) (n : ℤ) → computed Add x (Some (sum_of (pos 0) n)) ≡ computed Add x (Some n)
brought_content None n = refl
brought_content (Some u) n = ap Some (number_brought u n)

difference_content : (x : Content) (n : ℤ) → computed Sub x (Some n) ≡ computed Add x (Some (difference_of (pos 0) n))
difference_content None n = refl
difference_content (Some u) n = ap Some (difference_is u n)

left_out_content : (x y : Content) (c : ℤ) → computed Add (computed Add x (Some c)) y ≡ computed Add (computed Add x y) (Some c)
left_out_content None y c = refl
left_out_content (Some u) None c = refl
left_out_content (Some u) (Some b) c = ap Some (left_out u c b)

left_out_of_content : (x y : Content) (c : ℤ) → computed Sub (computed Add x (Some c)) y ≡ computed Add (computed Sub x y) (Some c)
left_out_of_content None y c = refl
left_out_of_content (Some u) None c = refl
left_out_of_content (Some u) (Some b) c = ap Some (left_out_of u c b)

right_out_content : (x y : Content) (c : ℤ) → computed Add x (computed Add y (Some c)) ≡ computed Add (computed Add x y) (Some c)
right_out_content None None c = refl
right_out_content None (Some u) c = refl
right_out_content (Some a) None c = refl
right_out_content (Some a) (Some u) c = ap Some (right_out a u c)

right_out_of_content : (x y : Content) (c : ℤ) → computed Sub x (computed Add y (Some c)) ≡ computed Add (computed Sub x y) (Some (difference_of (pos 0) c))
right_out_of_content None None c = refl
right_out_of_content None (Some u) c = refl
right_out_of_content (Some a) None c = refl
right_out_of_content (Some a) (Some u) c = ap Some (right_out_of a u c)

shift_out_content : (x : Content) (c n : ℤ) → computed Shl (computed Add x (Some c)) (Some n) ≡ computed Add (computed Shl x (Some n)) (Some (shl_of c n))
shift_out_content None c n = refl
shift_out_content (Some u) c n = ap Some (shift_out u c n)

-- ---- what a value holds

module _ (values : ℕ → Content) where
  -- x is the sum, where there is one
  abbrev pub IsSum : Content → Option Sum → Type 0
  IsSum x None = Unit {0}
  IsSum x (Some s) = x ≡ computed Add (values s.base) (Some s.by)

  if_holds : (t : Bool) (x : Content) (w : ℕ) (n : ℤ) → (t ≡ true → x ≡ computed Add (values w) (Some n)) → IsSum x (sum_if t w n)
  if_holds true x w n h = h refl
  if_holds false x w n h = tt

  at_holds : (v u : ℕ) (code : Code) (a b : Operand) → Holds values (Equals u code a b) → IsSum (values v) (sum_at v u code a b)
  at_holds v u Add (Held w) (Number n) h = if_holds (u == v) (values v) w n (λ t. sym (ap values (eqb-true u v t)) ∙ h)
  at_holds v u Sub (Held w) (Number n) h = if_holds (u == v) (values v) w (difference_of (pos 0) n) (λ t. sym (ap values (eqb-true u v t)) ∙ h ∙ difference_content (values w) n)
  at_holds v u code a b h = tt

  first_holds : (x : Content) (o p : Option Sum) → IsSum x o → IsSum x p → IsSum x (first_sum o p)
  first_holds x None p h k = k
  first_holds x (Some s) p h k = h

  pub sum_holds : (fs : List Fact) (v : ℕ) → AllHold values fs → IsSum (values v) (held_as_sum fs v)
  sum_holds [] v h = tt
  sum_holds (Between u i ∷ fs) v h = sum_holds fs v h.1
  sum_holds (Congruent u c ∷ fs) v h = sum_holds fs v h.1
  sum_holds (Never ∷ fs) v h = absurd h.0
  sum_holds (Equals u code a b ∷ fs) v h = first_holds (values v) (sum_at v u code a b) (held_as_sum fs v) (at_holds v u code a b h.0) (sum_holds fs v h.1)

  if_hold : (o : Option Sum) (here further : List Fact) → AllHold values here → AllHold values further → AllHold values (behind_if o here further)
  if_hold None here further h k = k
  if_hold (Some s) here further h k = h

  behind_hold : (fs : List Fact) (v : ℕ) → AllHold values fs → AllHold values (behind fs v)
  behind_hold [] v h = tt
  behind_hold (Between u i ∷ fs) v h = behind_hold fs v h.1
  behind_hold (Congruent u c ∷ fs) v h = behind_hold fs v h.1
  behind_hold (Never ∷ fs) v h = behind_hold fs v h.1
  behind_hold (Equals u code a b ∷ fs) v h = if_hold (sum_at v u code a b) fs (behind fs v) h.1 (behind_hold fs v h.1)

  -- ---- what a computation gives

  abbrev gives : Computation → Content
  gives c = computed c.code (content values c.left) (content values c.right)

  plus_gives : (u : ℕ) (n : ℤ) → gives (plus u n) ≡ computed Add (values u) (Some n)
  plus_gives u n = brought_content (values u) n

  plus_or_gives : (o : Option ℕ) (n : ℤ) (otherwise : Computation) (x : Content) → ((w : ℕ) → o ≡ Some w → computed Add (values w) (Some n) ≡ x) → gives otherwise ≡ x → gives (plus_or o n otherwise) ≡ x
  plus_or_gives None n otherwise x h e = e
  plus_or_gives (Some w) n otherwise x h e = plus_gives w n ∙ h w refl

  added_gives : (o : Option Sum) (x : Content) (n : ℤ) (otherwise : Computation) → IsSum x o → gives otherwise ≡ computed Add x (Some n) → gives (number_added o n otherwise) ≡ computed Add x (Some n)
  added_gives None x n otherwise h e = e
  added_gives (Some s) x n otherwise h e = plus_gives s.base (sum_of s.by n) ∙ sym (number_again_content (values s.base) s.by n) ∙ ap (λ y. computed Add y (Some n)) (sym h)

  -- a number added to the left operand is added to the result
  abbrev GoesOut : Code → Type 0
  GoesOut code = (x y : Content) (c : ℤ) → computed code (computed Add x (Some c)) y ≡ computed Add (computed code x y) (Some c)

  -- what the result is, by the sum that the right operand y is
  abbrev IsMoved : Code → Content → Content → Option Sum → Type 0
  IsMoved code x y None = Unit {0}
  IsMoved code x y (Some s) = computed code x y ≡ computed Add (computed code x (values s.base)) (Some s.by)

  sum_moved : (x y : Content) (o : Option Sum) → IsSum y o → IsMoved Add x y o
  sum_moved x y None h = tt
  sum_moved x y (Some s) h = ap (λ z. computed Add x z) h ∙ right_out_content x (values s.base) s.by

  difference_moved : (x y : Content) (o : Option Sum) → IsSum y o → IsMoved Sub x y (below o)
  difference_moved x y None h = tt
  difference_moved x y (Some s) h = ap (λ z. computed Sub x z) h ∙ right_out_of_content x (values s.base) s.by

  module _ (fs : List Fact) (k : AllHold values fs) where
    left_gives : (code : Code) → GoesOut code → (o : Option Sum) (x : Content) (b : Operand) (otherwise : Computation) → IsSum x o → gives otherwise ≡ computed code x (content values b) → gives (left_sum fs code o b otherwise) ≡ computed code x (content values b)
    left_gives code m None x b otherwise h e = e
    left_gives code m (Some s) x b otherwise h e =
        plus_or_gives (found fs code (Held s.base) b) s.by otherwise (computed code x (content values b))
        (λ w q. ap (λ y. computed Add y (Some s.by)) (found_holds values fs code (Held s.base) b w k q) ∙ sym (m (values s.base) (content values b) s.by) ∙ ap (λ y. computed code y (content values b)) (sym h)) e

    right_gives : (code : Code) (a : Operand) (o : Option Sum) (y : Content) (otherwise : Computation) → IsMoved code (content values a) y o → gives otherwise ≡ computed code (content values a) y → gives (right_sum fs code a o otherwise) ≡ computed code (content values a) y
    right_gives code a None y otherwise h e = e
    right_gives code a (Some s) y otherwise h e =
        plus_or_gives (found fs code a (Held s.base)) s.by otherwise (computed code (content values a) y)
        (λ w q. ap (λ z. computed Add z (Some s.by)) (found_holds values fs code a (Held s.base) w k q) ∙ sym h) e

    shifted_gives : (o : Option Sum) (x : Content) (n : ℤ) (otherwise : Computation) → IsSum x o → gives otherwise ≡ computed Shl x (Some n) → gives (shifted fs o n otherwise) ≡ computed Shl x (Some n)
    shifted_gives None x n otherwise h e = e
    shifted_gives (Some s) x n otherwise h e =
        plus_or_gives (found fs Shl (Held s.base) (Number n)) (shl_of s.by n) otherwise (computed Shl x (Some n))
        (λ w q. ap (λ y. computed Add y (Some (shl_of s.by n))) (found_holds values fs Shl (Held s.base) (Number n) w k q) ∙ sym (shift_out_content (values s.base) s.by n) ∙ ap (λ y. computed Shl y (Some n)) (sym h)) e

  module _ (fs : List Fact) (k : AllHold values fs) where
    held_sum_gives : (u v : ℕ) → gives (held_sum fs u v) ≡ computed Add (values u) (values v)
    held_sum_gives u v =
        let right : Computation = right_sum (behind fs v) Add (Held u) (held_as_sum fs v) (as_is Add (Held u) (Held v)) in
        left_gives (behind fs u) (behind_hold fs u k) Add left_out_content (held_as_sum fs u) (values u) (Held v) right (sum_holds fs u k)
        (right_gives (behind fs v) (behind_hold fs v k) Add (Held u) (held_as_sum fs v) (values v) (as_is Add (Held u) (Held v)) (sum_moved (values u) (values v) (held_as_sum fs v) (sum_holds fs v k)) refl)

    held_difference_gives : (u v : ℕ) → gives (held_difference fs u v) ≡ computed Sub (values u) (values v)
    held_difference_gives u v =
        let right : Computation = right_sum (behind fs v) Sub (Held u) (below (held_as_sum fs v)) (as_is Sub (Held u) (Held v)) in
        left_gives (behind fs u) (behind_hold fs u k) Sub left_out_of_content (held_as_sum fs u) (values u) (Held v) right (sum_holds fs u k)
        (right_gives (behind fs v) (behind_hold fs v k) Sub (Held u) (below (held_as_sum fs v)) (values v) (as_is Sub (Held u) (Held v)) (difference_moved (values u) (values v) (held_as_sum fs v) (sum_holds fs v k)) refl)

    based_sum_gives : (a b : Operand) → gives (based_sum fs a b) ≡ computed Add (content values a) (content values b)
    based_sum_gives (Held v) (Number n) = added_gives (held_as_sum fs v) (values v) n (as_is Add (Held v) (Number n)) (sum_holds fs v k) refl
    based_sum_gives (Held u) (Held v) = held_sum_gives u v
    based_sum_gives a b = refl

    based_difference_gives : (a b : Operand) → gives (based_difference fs a b) ≡ computed Sub (content values a) (content values b)
    based_difference_gives (Held v) (Number n) =
        added_gives (held_as_sum fs v) (values v) (difference_of (pos 0) n) (as_is Sub (Held v) (Number n)) (sum_holds fs v k) (difference_content (values v) n) ∙ sym (difference_content (values v) n)
    based_difference_gives (Held u) (Held v) = held_difference_gives u v
    based_difference_gives a b = refl

    based_shift_gives : (a b : Operand) → gives (based_shift fs a b) ≡ computed Shl (content values a) (content values b)
    based_shift_gives (Held v) (Number n) = shifted_gives (behind fs v) (behind_hold fs v k) (held_as_sum fs v) (values v) n (as_is Shl (Held v) (Number n)) (sum_holds fs v k) refl
    based_shift_gives a b = refl

    pub based_gives : (code : Code) (a b : Operand) → gives (based fs code a b) ≡ computed code (content values a) (content values b)
    based_gives Add a b = based_sum_gives a b
    based_gives Sub a b = based_difference_gives a b
    based_gives Shl a b = based_shift_gives a b
    based_gives code a b = refl

  -- ---- its operands are numbers of 32 bits

  abbrev pub BothFit : Computation → Type 0
  BothFit c = Within full (content values c.left) × Within full (content values c.right)

  module _ (fit : Fit values) where
    plus_fits : (u : ℕ) (n : ℤ) → BothFit (plus u n)
    unfolding sum_of
    plus_fits u n = (fit u, number_within (sum_of (pos 0) n) (wrap_fits (pos 0 +ℤ n)))

    plus_or_fits : (o : Option ℕ) (n : ℤ) (otherwise : Computation) → BothFit otherwise → BothFit (plus_or o n otherwise)
    plus_or_fits None n otherwise f = f
    plus_or_fits (Some w) n otherwise f = plus_fits w n

    added_fits : (o : Option Sum) (n : ℤ) (otherwise : Computation) → BothFit otherwise → BothFit (number_added o n otherwise)
    added_fits None n otherwise f = f
    added_fits (Some s) n otherwise f = plus_fits s.base (sum_of s.by n)

    left_fits : (fs : List Fact) (code : Code) (o : Option Sum) (b : Operand) (otherwise : Computation) → BothFit otherwise → BothFit (left_sum fs code o b otherwise)
    left_fits fs code None b otherwise f = f
    left_fits fs code (Some s) b otherwise f = plus_or_fits (found fs code (Held s.base) b) s.by otherwise f

    right_fits : (fs : List Fact) (code : Code) (a : Operand) (o : Option Sum) (otherwise : Computation) → BothFit otherwise → BothFit (right_sum fs code a o otherwise)
    right_fits fs code a None otherwise f = f
    right_fits fs code a (Some s) otherwise f = plus_or_fits (found fs code a (Held s.base)) s.by otherwise f

    shifted_fits : (fs : List Fact) (o : Option Sum) (n : ℤ) (otherwise : Computation) → BothFit otherwise → BothFit (shifted fs o n otherwise)
    shifted_fits fs None n otherwise f = f
    shifted_fits fs (Some s) n otherwise f = plus_or_fits (found fs Shl (Held s.base) (Number n)) (value_of Shl s.by n) otherwise f

    based_sum_fits : (fs : List Fact) (a b : Operand) → BothFit (as_is Add a b) → BothFit (based_sum fs a b)
    based_sum_fits fs (Held v) (Number n) f = added_fits (held_as_sum fs v) n (as_is Add (Held v) (Number n)) f
    based_sum_fits fs (Held u) (Held v) f =
        left_fits (behind fs u) Add (held_as_sum fs u) (Held v) (right_sum (behind fs v) Add (Held u) (held_as_sum fs v) (as_is Add (Held u) (Held v))) (right_fits (behind fs v) Add (Held u) (held_as_sum fs v) (as_is Add (Held u) (Held v)) f)
    based_sum_fits fs a b f = f

    based_difference_fits : (fs : List Fact) (a b : Operand) → BothFit (as_is Sub a b) → BothFit (based_difference fs a b)
    based_difference_fits fs (Held v) (Number n) f = added_fits (held_as_sum fs v) (difference_of (pos 0) n) (as_is Sub (Held v) (Number n)) f
    based_difference_fits fs (Held u) (Held v) f =
        left_fits (behind fs u) Sub (held_as_sum fs u) (Held v) (right_sum (behind fs v) Sub (Held u) (below (held_as_sum fs v)) (as_is Sub (Held u) (Held v))) (right_fits (behind fs v) Sub (Held u) (below (held_as_sum fs v)) (as_is Sub (Held u) (Held v)) f)
    based_difference_fits fs a b f = f

    based_shift_fits : (fs : List Fact) (a b : Operand) → BothFit (as_is Shl a b) → BothFit (based_shift fs a b)
    based_shift_fits fs (Held v) (Number n) f = shifted_fits (behind fs v) (held_as_sum fs v) n (as_is Shl (Held v) (Number n)) f
    based_shift_fits fs a b f = f

    pub based_fits : (fs : List Fact) (code : Code) (a b : Operand) → BothFit (as_is code a b) → BothFit (based fs code a b)
    based_fits fs Add a b f = based_sum_fits fs a b f
    based_fits fs Sub a b f = based_difference_fits fs a b f
    based_fits fs Shl a b f = based_shift_fits fs a b f
    based_fits fs code a b f = f
