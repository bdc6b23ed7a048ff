-- Tests: what a compare that came out says of its operands, and when facts decide it.
use Rattle.std.proofs.Common.{◌≡◌, ◌⊎◌, inl, inr, ℕ, ◌^◌, ◌<◌, ◌==◌, Bool, true, false, cond, not, ◌&&◌, ◌||◌, ◌≤ℤ◌, ◌<ℤ◌, ℤ, pos, negsuc, ◌+ℤ◌, ◌-ℤ◌, int_le, int_lt, List, [], ◌∷◌, ◌++◌, Option, Some, None, refl, sym, ap, ◌∙◌, subst, arith}
use Rattle.std.specs.Ordering.{int_eq}
use Rattle.std.proofs.lemmas.Int.{ints}
use Rattle.std.proofs.lemmas.Bool.{eqb-true}
use mathlib.Core.Bool.{true≢false}
use Rattle.vx_base.specs.Arithmetic.{opposite, IsNumber, one_if, compare_of}
use Rattle.vx_base.specs.declared.arithmetic.Compare.{Compare}
use Rattle.vx_base.specs.declared.arithmetic.Compare.TheVariants.{Eq, Ne, Lt, Le, Gt, Ge, Ltu, Geu}
use Rattle.vx_base.specs.declared.arithmetic.Code.{Code}
use Rattle.vx_base.specs.declared.arithmetic.Code.TheVariants.{Add, Sub, And, Or, Xor, Shl, Shr, Shru, Sh2add, Max, Min, Mov, ToGeneral, ToBranch, Mpylu, Mpyhs, Div, Rem}
use Rattle.vx_base.proofs.ArithmeticLaws.{compare_of-opposite, index_check_law, equal-true, equal-same}
use Rattle.vx_flow.specs.declared.graph.Operand.{Operand}
use Rattle.vx_flow.specs.declared.graph.Operand.TheVariants.{Held, Number, Stack}
use Rattle.vx_flow.specs.Effects.{Content, both, computed, is_one}
use Rattle.vx_claims.specs.declared.intervals.Interval.{Interval}
use Rattle.vx_claims.specs.declared.fact.Fact.{Fact}
use Rattle.vx_claims.specs.declared.fact.Fact.TheVariants.{Between, Congruent, Equals, Never}
use Rattle.vx_claims.specs.Facts.{least, greatest, full, Within, content, AllHold, range_of, is_above, one_less, one_more, below_unsigned, without_end, unequal_within, left_within, right_within, operand_between, compared, came_out, learned_if, learned, on_side, always, answer_of, compare_decided, first_of, decided_if, decided_by, decided}
use Rattle.vx_narrow.proofs.Ranges.{and_one, and_two, le_holds, lt_holds, within_number, Fit, range_of_holds, above_holds}

opposite_comes : (c : Compare) (x y : ℤ) → compare_of (opposite c) x y ≡ not (compare_of c x y)
opposite_comes c x y = compare_of-opposite c x y

opposite_holds : (c : Compare) (x y : ℤ) → compare_of c x y ≡ false → compare_of (opposite c) x y ≡ true
opposite_holds c x y e = opposite_comes c x y ∙ ap not e

number_between : (z : ℤ) → pos 0 ≤ℤ z → z ≤ℤ greatest → IsNumber z
number_between z h k = within_number z (omega (arith, ints), k)

-- without sign, against a number that is not below 0
below_true : (x y : ℤ) → IsNumber x → pos 0 ≤ℤ y → y ≤ℤ greatest → compare_of Ltu x y ≡ true → (pos 0 ≤ℤ x) × (x <ℤ y)
below_true x (pos n) f h k e = let s : n < 2 ^ 31 = omega (arith, ints) in (index_check_law x n f s).0 e
below_true x (negsuc n) f h k e = absurd (omega (arith, ints))

true_below : (x y : ℤ) → IsNumber x → pos 0 ≤ℤ x → x <ℤ y → y ≤ℤ greatest → compare_of Ltu x y ≡ true
true_below x (pos n) f h l k = let s : n < 2 ^ 31 = omega (arith, ints) in (index_check_law x n f s).1 (h, l)
true_below x (negsuc n) f h l k = absurd (omega (arith, ints))

below_holds : (x y : ℤ) (j : Interval) → compare_of Ltu x y ≡ true → Within j (Some y) → Within full (Some x) → Within (below_unsigned j) (Some x)
below_holds x y j e k f = by (is_above (pos 0) j) refl
  where
    by : (t : Bool) → is_above (pos 0) j ≡ t → Within (cond t (record { low = pos 0; high = j.high -ℤ pos 1 }) full) (Some x)
    by true q =
        let a = above_holds (pos 0) j y q k in
        let k1 : y ≤ℤ j.high = k.1 in
        let r = below_true x y (within_number x f) a.0 a.1 e in
        let r1 : x <ℤ y = r.1 in
        (r.0, omega (arith, ints))
    by false q = f

less_holds : (x n : ℤ) → least ≤ℤ x → x <ℤ n → x ≤ℤ one_less n
less_holds x n f l = by (int_le n least) refl
  where
    by : (t : Bool) → int_le n least ≡ t → x ≤ℤ cond t least (n -ℤ pos 1)
    by true e = let a : n ≤ℤ least = le_holds n least e in absurd (omega (arith, ints))
    by false e = omega (arith, ints)

more_holds : (x n : ℤ) → x ≤ℤ greatest → n <ℤ x → one_more n ≤ℤ x
more_holds x n f l = by (int_le greatest n) refl
  where
    by : (t : Bool) → int_le greatest n ≡ t → cond t greatest (n +ℤ pos 1) ≤ℤ x
    by true e = let a : greatest ≤ℤ n = le_holds greatest n e in absurd (omega (arith, ints))
    by false e = omega (arith, ints)

differs : (x y : ℤ) → compare_of Ne x y ≡ true → x ≡ y → ⊥
differs x y e q = true≢false (sym e ∙ ap not (equal-same x y q))

above_lowest : (x low : ℤ) → low ≤ℤ x → (x ≡ low → ⊥) → (low +ℤ pos 1) ≤ℤ x
above_lowest x low l apart = by (int_le (low +ℤ pos 1) x) refl
  where
    by : (t : Bool) → int_le (low +ℤ pos 1) x ≡ t → (low +ℤ pos 1) ≤ℤ x
    by true e = le_holds (low +ℤ pos 1) x e
    by false e = let q : x ≡ low = omega (arith, ints) in absurd (apart q)

below_highest : (x high : ℤ) → x ≤ℤ high → (x ≡ high → ⊥) → x ≤ℤ (high -ℤ pos 1)
below_highest x high l apart = by (int_le x (high -ℤ pos 1)) refl
  where
    by : (t : Bool) → int_le x (high -ℤ pos 1) ≡ t → x ≤ℤ (high -ℤ pos 1)
    by true e = le_holds x (high -ℤ pos 1) e
    by false e = let q : x ≡ high = omega (arith, ints) in absurd (apart q)

without_end_holds : (x n : ℤ) (i : Interval) → (x ≡ n → ⊥) → Within i (Some x) → Within (without_end i n) (Some x)
without_end_holds x n i apart h = by (int_le i.high i.low) (int_eq i.low n) (int_eq i.high n) refl refl
  where
    by : (one lowest highest : Bool) → int_eq i.low n ≡ lowest → int_eq i.high n ≡ highest
        → Within (cond one i (cond lowest (record { low = i.low +ℤ pos 1; high = i.high }) (cond highest (record { low = i.low; high = i.high -ℤ pos 1 }) i))) (Some x)
    by true lowest highest p q = h
    by false true highest p q = (above_lowest x i.low h.0 (λ r. apart (r ∙ equal-true i.low n p)), h.1)
    by false false true p q = (h.0, below_highest x i.high h.1 (λ r. apart (r ∙ equal-true i.high n q)))
    by false false false p q = h

unequal_holds : (x y : ℤ) (i j : Interval) → (x ≡ y → ⊥) → Within i (Some x) → Within j (Some y) → Within (unequal_within i j) (Some x)
unequal_holds x y i j apart h k = by (int_eq j.low j.high) refl
  where
    by : (t : Bool) → int_eq j.low j.high ≡ t → Within (cond t (without_end i j.low) i) (Some x)
    by true e =
        let one : j.low ≡ j.high = equal-true j.low j.high e in
        let a : j.low ≤ℤ y = k.0 in
        let b : y ≤ℤ j.high = k.1 in
        let q : j.low ≡ y = omega (arith, ints) in
        without_end_holds x j.low i (λ r. apart (r ∙ q)) h
    by false e = h

pub left_holds : (c : Compare) (x y : ℤ) (i j : Interval) → compare_of c x y ≡ true → Within i (Some x) → Within j (Some y) → Within full (Some x) → Within (left_within c i j) (Some x)
left_holds Eq x y i j e h k f = subst (λ z. Within j (Some z)) (sym (equal-true x y e)) k
left_holds Ne x y i j e h k f = unequal_holds x y i j (differs x y e) h k
left_holds Lt x y i j e h k f = let l : x <ℤ y = lt_holds x y e in let k1 : y ≤ℤ j.high = k.1 in let m : x <ℤ j.high = omega (arith, ints) in (f.0, less_holds x j.high f.0 m)
left_holds Le x y i j e h k f = let l : x ≤ℤ y = le_holds x y e in (f.0, omega (arith, ints, k.1))
left_holds Gt x y i j e h k f = let l : y <ℤ x = lt_holds y x e in let k0 : j.low ≤ℤ y = k.0 in let m : j.low <ℤ x = omega (arith, ints) in (more_holds x j.low f.1 m, f.1)
left_holds Ge x y i j e h k f = let l : y ≤ℤ x = le_holds y x e in (omega (arith, ints, k.0), f.1)
left_holds Ltu x y i j e h k f = below_holds x y j e k f
left_holds Geu x y i j e h k f = f

pub right_holds : (c : Compare) (x y : ℤ) (i j : Interval) → compare_of c x y ≡ true → Within i (Some x) → Within j (Some y) → Within full (Some y) → Within (right_within c i j) (Some y)
right_holds Eq x y i j e h k f = subst (λ z. Within i (Some z)) (equal-true x y e) h
right_holds Ne x y i j e h k f = unequal_holds y x j i (λ q. differs x y e (sym q)) k h
right_holds Lt x y i j e h k f = let l : x <ℤ y = lt_holds x y e in let h0 : i.low ≤ℤ x = h.0 in let m : i.low <ℤ y = omega (arith, ints) in (more_holds y i.low f.1 m, f.1)
right_holds Le x y i j e h k f = let l : x ≤ℤ y = le_holds x y e in (omega (arith, ints, h.0), f.1)
right_holds Gt x y i j e h k f = let l : y <ℤ x = lt_holds y x e in let h1 : x ≤ℤ i.high = h.1 in let m : y <ℤ i.high = omega (arith, ints) in (f.0, less_holds y i.high f.0 m)
right_holds Ge x y i j e h k f = let l : y ≤ℤ x = le_holds y x e in (f.0, omega (arith, ints, h.1))
right_holds Ltu x y i j e h k f = f
right_holds Geu x y i j e h k f = f

or_cases : (a b : Bool) → (a || b) ≡ true → (a ≡ true) ⊎ (b ≡ true)
or_cases true b h = inl refl
or_cases false b h = inr h

not_equal : (x y : ℤ) → (x ≡ y → ⊥) → compare_of Ne x y ≡ true
not_equal x y n = by (compare_of Eq x y) refl
  where
    by : (t : Bool) → compare_of Eq x y ≡ t → not t ≡ true
    by true e = absurd (n (equal-true x y e))
    by false e = refl

apart : (x y : ℤ) (i j : Interval) → Within i (Some x) → Within j (Some y) → (int_lt i.high j.low ≡ true) ⊎ (int_lt j.high i.low ≡ true) → x ≡ y → ⊥
apart x y i j h k (inl e) q =
    let a : i.high <ℤ j.low = lt_holds i.high j.low e in let b : x ≤ℤ i.high = h.1 in let d : j.low ≤ℤ y = k.0 in let d' : j.low ≤ℤ x = subst (λ z. j.low ≤ℤ z) (sym q) d in omega (arith, ints)
apart x y i j h k (inr e) q =
    let a : j.high <ℤ i.low = lt_holds j.high i.low e in let b : y ≤ℤ j.high = k.1 in let d : i.low ≤ℤ x = h.0 in let d' : i.low ≤ℤ y = subst (λ z. i.low ≤ℤ z) q d in omega (arith, ints)

not_below : (x y : ℤ) → pos 0 ≤ℤ y → y ≤ℤ x → x ≤ℤ greatest → compare_of Ltu x y ≡ false
not_below x y h l g = by (compare_of Ltu x y) refl
  where
    by : (t : Bool) → compare_of Ltu x y ≡ t → compare_of Ltu x y ≡ false
    by true e =
        let a : pos 0 ≤ℤ x = omega (arith, ints) in
        let b : y ≤ℤ greatest = omega (arith, ints) in
        let r = below_true x y (number_between x a g) h b e in let r1 : x <ℤ y = r.1 in absurd (omega (arith, ints))
    by false e = e

lt_comes : (a b : ℤ) → a <ℤ b → int_lt a b ≡ true
lt_comes a b h = sym (omega (arith, ints))

le_comes : (a b : ℤ) → a ≤ℤ b → int_le a b ≡ true
le_comes a b h = sym (omega (arith, ints))

pub always_holds : (c : Compare) (i j : Interval) (x y : ℤ) → always c i j ≡ true → Within i (Some x) → Within j (Some y) → compare_of c x y ≡ true
always_holds Eq i j x y e h k = absurd (cc)
always_holds Ne i j x y e h k = not_equal x y (apart x y i j h k (or_cases (int_lt i.high j.low) (int_lt j.high i.low) e))
always_holds Lt i j x y e h k = let l : i.high <ℤ j.low = lt_holds i.high j.low e in let a : x ≤ℤ i.high = h.1 in let b : j.low ≤ℤ y = k.0 in let m : x <ℤ y = omega (arith, ints) in lt_comes x y m
always_holds Le i j x y e h k = let l : i.high ≤ℤ j.low = le_holds i.high j.low e in let a : x ≤ℤ i.high = h.1 in let b : j.low ≤ℤ y = k.0 in let m : x ≤ℤ y = omega (arith, ints) in le_comes x y m
always_holds Gt i j x y e h k = let l : j.high <ℤ i.low = lt_holds j.high i.low e in let a : i.low ≤ℤ x = h.0 in let b : y ≤ℤ j.high = k.1 in let m : y <ℤ x = omega (arith, ints) in lt_comes y x m
always_holds Ge i j x y e h k = let l : j.high ≤ℤ i.low = le_holds j.high i.low e in let a : i.low ≤ℤ x = h.0 in let b : y ≤ℤ j.high = k.1 in let m : y ≤ℤ x = omega (arith, ints) in le_comes y x m
always_holds Ltu i j x y e h k =
    let e1 = and_one (int_le (pos 0) i.low && int_lt i.high j.low) (int_le j.high greatest) e in
    let g : j.high ≤ℤ greatest = le_holds j.high greatest (and_two (int_le (pos 0) i.low && int_lt i.high j.low) (int_le j.high greatest) e) in
    let z : pos 0 ≤ℤ i.low = le_holds (pos 0) i.low (and_one (int_le (pos 0) i.low) (int_lt i.high j.low) e1) in
    let l : i.high <ℤ j.low = lt_holds i.high j.low (and_two (int_le (pos 0) i.low) (int_lt i.high j.low) e1) in
    let a : i.low ≤ℤ x = h.0 in let b : x ≤ℤ i.high = h.1 in let c : j.low ≤ℤ y = k.0 in let d : y ≤ℤ j.high = k.1 in
    let p : pos 0 ≤ℤ x = omega (arith, ints) in
    let q : x ≤ℤ greatest = omega (arith, ints) in
    let r : x <ℤ y = omega (arith, ints) in
    let s : y ≤ℤ greatest = omega (arith, ints) in
    true_below x y (number_between x p q) p r s
always_holds Geu i j x y e h k =
    let e1 = and_one (int_le (pos 0) j.low && int_le j.high i.low) (int_le i.high greatest) e in
    let g : i.high ≤ℤ greatest = le_holds i.high greatest (and_two (int_le (pos 0) j.low && int_le j.high i.low) (int_le i.high greatest) e) in
    let z : pos 0 ≤ℤ j.low = le_holds (pos 0) j.low (and_one (int_le (pos 0) j.low) (int_le j.high i.low) e1) in
    let l : j.high ≤ℤ i.low = le_holds j.high i.low (and_two (int_le (pos 0) j.low) (int_le j.high i.low) e1) in
    let a : i.low ≤ℤ x = h.0 in let b : x ≤ℤ i.high = h.1 in let c : j.low ≤ℤ y = k.0 in let d : y ≤ℤ j.high = k.1 in
    let p : pos 0 ≤ℤ y = omega (arith, ints) in
    let r : y ≤ℤ x = omega (arith, ints) in
    let s : x ≤ℤ greatest = omega (arith, ints) in
    opposite_holds Ltu x y (not_below x y p r s)

-- ---- the test of a split

-- a compare of two numbers that came out so
pub record CameOut (c : Compare) (a b : Content) (answer : Bool) : Type 0 where
  pub left : ℤ
  pub right : ℤ
  pub is_left : a ≡ Some left
  pub is_right : b ≡ Some right
  pub comes : compare_of c left right ≡ answer

one_is : (t : Bool) → is_one (one_if t) ≡ t
one_is true = refl
one_is false = refl

came_out_by : (c : Compare) (a b : Content) (z : ℤ) (answer : Bool) → both (λ x y. one_if (compare_of c x y)) a b ≡ Some z → is_one z ≡ answer → CameOut c a b answer
came_out_by c None b z answer e o = absurd (cc)
came_out_by c (Some x) None z answer e o = absurd (cc)
came_out_by c (Some x) (Some y) z answer e o =
    let q : one_if (compare_of c x y) ≡ z = cc in
    record { left = x; right = y; is_left = refl; is_right = refl; comes = sym (one_is (compare_of c x y)) ∙ ap is_one q ∙ o }

pub append_holds : (values : ℕ → Content) (fs gs : List Fact) → AllHold values fs → AllHold values gs → AllHold values (fs ++ gs)
append_holds values [] gs h k = k
append_holds values (f ∷ fs) gs h k = (h.0, append_holds values fs gs h.1 k)

module _ (values : ℕ → Content) (fit : Fit values) (all : List Fact) (hold : AllHold values all) where
  operand_holds : (x : Operand) (i : Interval) (n : ℤ) → content values x ≡ Some n → (Within full (Some n) → Within i (Some n)) → AllHold values (operand_between x i)
  operand_holds (Held v) i n e h = (subst (Within i) (sym e) (h (subst (Within full) e (fit v))), tt)
  operand_holds (Number m) i n e h = tt
  operand_holds Stack i n e h = tt

  compared_holds : (c : Compare) (a b : Operand) → CameOut c (content values a) (content values b) true → AllHold values (compared all c a b)
  compared_holds c a b o =
      let i : Interval = range_of all a in
      let j : Interval = range_of all b in
      let h : Within i (Some o.left) = subst (Within i) o.is_left (range_of_holds values all a fit hold) in
      let k : Within j (Some o.right) = subst (Within j) o.is_right (range_of_holds values all b fit hold) in
      append_holds values (operand_between a (left_within c i j)) (operand_between b (right_within c i j))
      (operand_holds a (left_within c i j) o.left o.is_left (left_holds c o.left o.right i j o.comes h k))
      (operand_holds b (right_within c i j) o.right o.is_right (right_holds c o.left o.right i j o.comes h k))

  came_out_holds : (answer : Bool) (c : Compare) (a b : Operand) → CameOut c (content values a) (content values b) answer → AllHold values (came_out all answer c a b)
  came_out_holds true c a b o = compared_holds c a b o
  came_out_holds false c a b o =
      compared_holds (opposite c) a b (record { left = o.left; right = o.right; is_left = o.is_left; is_right = o.is_right; comes = opposite_holds c o.left o.right o.comes })

  module _ (p : ℕ) (z : ℤ) (answer : Bool) (is : values p ≡ Some z) (one : is_one z ≡ answer) where
    learned_if_holds : (t : Bool) (code : Code) (a b : Operand) → (t ≡ true → values p ≡ computed code (content values a) (content values b)) → AllHold values (learned_if t all answer code a b)
    learned_if_holds false code a b h = tt
    learned_if_holds true Add a b h = tt
    learned_if_holds true Sub a b h = tt
    learned_if_holds true And a b h = tt
    learned_if_holds true Or a b h = tt
    learned_if_holds true Xor a b h = tt
    learned_if_holds true Shl a b h = tt
    learned_if_holds true Shr a b h = tt
    learned_if_holds true Shru a b h = tt
    learned_if_holds true Sh2add a b h = tt
    learned_if_holds true Max a b h = tt
    learned_if_holds true Min a b h = tt
    learned_if_holds true Mov a b h = tt
    learned_if_holds true (ToGeneral c) a b h = tt
    learned_if_holds true (ToBranch c) a b h = came_out_holds answer c a b (came_out_by c (content values a) (content values b) z answer (sym (h refl) ∙ is) one)
    learned_if_holds true Mpylu a b h = tt
    learned_if_holds true Mpyhs a b h = tt
    learned_if_holds true Div a b h = tt
    learned_if_holds true Rem a b h = tt

    learned_holds : (fs : List Fact) → AllHold values fs → AllHold values (learned all answer p fs)
    learned_holds [] h = tt
    learned_holds (Between u i ∷ fs) h = learned_holds fs h.1
    learned_holds (Congruent u c ∷ fs) h = learned_holds fs h.1
    learned_holds (Never ∷ fs) h = absurd h.0
    learned_holds (Equals u code a b ∷ fs) h =
        append_holds values (learned_if (u == p) all answer code a b) (learned all answer p fs)
        (learned_if_holds (u == p) code a b (λ e. subst (λ w. values w ≡ computed code (content values a) (content values b)) (eqb-true u p e) h.0))
        (learned_holds fs h.1)

    pub side_holds : AllHold values (on_side all answer p)
    side_holds = append_holds values (learned all answer p all) all (learned_holds all hold) hold

  -- ---- decided tests

  fails : (t : Bool) → not t ≡ true → t ≡ false
  fails true e = absurd (true≢false (sym e))
  fails false e = refl

  pub compare_decided_holds : (c : Compare) (i j : Interval) (x y : ℤ) (answer : Bool) → compare_decided c i j ≡ Some answer → Within i (Some x) → Within j (Some y) → compare_of c x y ≡ answer
  compare_decided_holds c i j x y answer e h k = by (always c i j) (always (opposite c) i j) refl refl e
    where
      by : (s t : Bool) → always c i j ≡ s → always (opposite c) i j ≡ t → answer_of s t ≡ Some answer → compare_of c x y ≡ answer
      by true t a b q = let r : true ≡ answer = cc in always_holds c i j x y a h k ∙ r
      by false true a b q = let r : false ≡ answer = cc in fails (compare_of c x y) (sym (opposite_comes c x y) ∙ always_holds (opposite c) i j x y b h k) ∙ r
      by false false a b q = absurd (cc)

  -- both is undefined, or comes out by both numbers
  pub tests_by : (c : Compare) (a b : Content) (answer : Bool) → ((x y : ℤ) → a ≡ Some x → b ≡ Some y → compare_of c x y ≡ answer) → (both (λ x y. one_if (compare_of c x y)) a b ≡ None) ⊎ (both (λ x y. one_if (compare_of c x y)) a b ≡ Some (one_if answer))
  tests_by c None b answer h = inl refl
  tests_by c (Some x) None answer h = inl refl
  tests_by c (Some x) (Some y) answer h = inr (ap (λ t. Some (one_if t)) (h x y refl refl))

  -- the test is undefined, or comes out as decided
  abbrev pub Tests : ℕ → Bool → Type 0
  Tests p answer = (values p ≡ None) ⊎ (values p ≡ Some (one_if answer))

  tests_on : (p : ℕ) (answer : Bool) (c : Content) → values p ≡ c → (c ≡ None) ⊎ (c ≡ Some (one_if answer)) → Tests p answer
  tests_on p answer c e (inl q) = inl (e ∙ q)
  tests_on p answer c e (inr q) = inr (e ∙ q)

  decided_if_holds : (t : Bool) (p : ℕ) (code : Code) (a b : Operand) (answer : Bool) → decided_if t all code a b ≡ Some answer → (t ≡ true → values p ≡ computed code (content values a) (content values b)) → Tests p answer
  decided_if_holds false p code a b answer e h = absurd (cc)
  decided_if_holds true p Add a b answer e h = absurd (cc)
  decided_if_holds true p Sub a b answer e h = absurd (cc)
  decided_if_holds true p And a b answer e h = absurd (cc)
  decided_if_holds true p Or a b answer e h = absurd (cc)
  decided_if_holds true p Xor a b answer e h = absurd (cc)
  decided_if_holds true p Shl a b answer e h = absurd (cc)
  decided_if_holds true p Shr a b answer e h = absurd (cc)
  decided_if_holds true p Shru a b answer e h = absurd (cc)
  decided_if_holds true p Sh2add a b answer e h = absurd (cc)
  decided_if_holds true p Max a b answer e h = absurd (cc)
  decided_if_holds true p Min a b answer e h = absurd (cc)
  decided_if_holds true p Mov a b answer e h = absurd (cc)
  decided_if_holds true p (ToGeneral c) a b answer e h = absurd (cc)
  decided_if_holds true p (ToBranch c) a b answer e h =
      tests_on p answer _ (h refl) (tests_by c (content values a) (content values b) answer (λ x y f g.
      compare_decided_holds c (range_of all a) (range_of all b) x y answer e (subst (Within (range_of all a)) f (range_of_holds values all a fit hold)) (subst (Within (range_of all b)) g (range_of_holds values all b fit hold))))
  decided_if_holds true p Mpylu a b answer e h = absurd (cc)
  decided_if_holds true p Mpyhs a b answer e h = absurd (cc)
  decided_if_holds true p Div a b answer e h = absurd (cc)
  decided_if_holds true p Rem a b answer e h = absurd (cc)

  first_holds : (p : ℕ) (answer : Bool) (o q : Option Bool) → first_of o q ≡ Some answer → (o ≡ Some answer → Tests p answer) → (q ≡ Some answer → Tests p answer) → Tests p answer
  first_holds p answer None q e h k = k e
  first_holds p answer (Some t) q e h k = h e

  decided_by_holds : (p : ℕ) (answer : Bool) (fs : List Fact) → AllHold values fs → decided_by all p fs ≡ Some answer → Tests p answer
  decided_by_holds p answer [] h e = absurd (cc)
  decided_by_holds p answer (Between u i ∷ fs) h e = decided_by_holds p answer fs h.1 e
  decided_by_holds p answer (Congruent u c ∷ fs) h e = decided_by_holds p answer fs h.1 e
  decided_by_holds p answer (Never ∷ fs) h e = absurd h.0
  decided_by_holds p answer (Equals u code a b ∷ fs) h e =
      first_holds p answer (decided_if (u == p) all code a b) (decided_by all p fs) e
      (λ q. decided_if_holds (u == p) p code a b answer q (λ t. subst (λ w. values w ≡ computed code (content values a) (content values b)) (eqb-true u p t) h.0))
      (decided_by_holds p answer fs h.1)

  pub decided_holds : (p : ℕ) (answer : Bool) → decided all p ≡ Some answer → Tests p answer
  decided_holds p answer e = decided_by_holds p answer all hold e

  -- a test that is defined comes out as decided
  pub decided_side : (p : ℕ) (z : ℤ) (answer t : Bool) → values p ≡ Some z → is_one z ≡ answer → decided all p ≡ Some t → t ≡ answer
  decided_side p z answer t is one e = by (decided_holds p t e)
    where
      by : Tests p t → t ≡ answer
      by (inl n) = let q : Option.Some z ≡ None = sym is ∙ n in absurd (cc)
      by (inr n) = let q : Option.Some z ≡ Some (one_if t) = sym is ∙ n in let same : z ≡ one_if t = cc in sym (one_is t) ∙ ap is_one (sym same) ∙ one
