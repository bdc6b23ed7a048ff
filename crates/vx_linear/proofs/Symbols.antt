-- The order of symbols, and sums in which one symbol alone is not 0.
use Rattle.std.proofs.Common.{◌≡◌, ℕ, refl, ◌∙◌, ap, arith, Bool, true, false, ◌&&◌, nat_eq, if◌then◌else◌, List, [], ◌∷◌, ℤ, pos, ◌+ℤ◌, ◌*ℤ◌}
use Rattle.std.proofs.lemmas.Int.{ints}
use Rattle.std.proofs.lemmas.Bool.Decides.{nat_tests}
use Rattle.std.proofs.lemmas.Bool.{false≢true}
use Rattle.vx_linear.specs.declared.form.Symbol.{Symbol}
use Rattle.vx_linear.specs.declared.form.Symbol.TheVariants.{Entry, Made, EntryPlace, MadePlace}
use Rattle.vx_linear.specs.declared.form.Term.{Term}
use Rattle.vx_linear.specs.Forms.{sum_at, is_before, is_same, is_before_all, is_ordered}
use Rattle.vx_linear.specs.Steps.{is_before_first}

abbrev pub only : Symbol → ℤ → Symbol → ℤ
only x m y = if is_same y x then m else pos 0

pub before_apart : (x y : Symbol) → is_before x y ≡ true → is_same x y ≡ false
before_apart x y h = grind (arith, nat_tests)

pub before_apart_back : (x y : Symbol) → is_before x y ≡ true → is_same y x ≡ false
before_apart_back x y h = grind (arith, nat_tests)

pub same_self : (x : Symbol) → is_same x x ≡ true
same_self x = grind (arith, nat_tests)

pub before_before : (x y z : Symbol) → is_before x y ≡ true → is_before y z ≡ true → is_before x z ≡ true
before_before x y z h k = grind (arith, nat_tests)

pub same_before : (x y z : Symbol) → is_same x y ≡ true → is_before y z ≡ true → is_before x z ≡ true
same_before x y z h k = grind (arith, nat_tests)

both-true : (a b : Bool) → (a && b) ≡ true → (a ≡ true) × (b ≡ true)
both-true true b h = (refl, h)
both-true false b h = absurd (false≢true h)

pub first-true : (a b : Bool) → (a && b) ≡ true → a ≡ true
first-true a b h = (both-true a b h).0

pub second-true : (a b : Bool) → (a && b) ≡ true → b ≡ true
second-true a b h = (both-true a b h).1

pub true-both : (a b : Bool) → a ≡ true → b ≡ true → (a && b) ≡ true
true-both a b h k = ap (λ c. c && b) h ∙ k

pub ordered_rest : (t : Term) (ts : List Term) → is_ordered (t ∷ ts) ≡ true → is_ordered ts ≡ true
ordered_rest t ts h = second-true _ _ h

pub ordered_first : (t : Term) (ts : List Term) → is_ordered (t ∷ ts) ≡ true → is_before_all t.symbol ts ≡ true
ordered_first t ts h = second-true _ _ (first-true _ _ h)

-- what is before a symbol is before all that it is before
pub before_all_trans : (x y : Symbol) (ts : List Term) → is_before x y ≡ true → is_before_all y ts ≡ true → is_before_all x ts ≡ true
before_all_trans x y [] h k = refl
before_all_trans x y (t ∷ ts) h k = true-both _ _ (before_before x y t.symbol h (first-true _ _ k)) (before_all_trans x y ts h (second-true _ _ k))

pub same_before_all : (x y : Symbol) (ts : List Term) → is_same x y ≡ true → is_before_all y ts ≡ true → is_before_all x ts ≡ true
same_before_all x y [] h k = refl
same_before_all x y (t ∷ ts) h k = true-both _ _ (same_before x y t.symbol h (first-true _ _ k)) (same_before_all x y ts h (second-true _ _ k))

-- what is before the first of ascending terms is before all
pub first_all : (x : Symbol) (ts : List Term) → is_ordered ts ≡ true → is_before_first x ts ≡ true → is_before_all x ts ≡ true
first_all x [] o h = refl
first_all x (t ∷ ts) o h = true-both _ _ h (before_all_trans x t.symbol ts h (ordered_first t ts o))

-- sums

pub only_self : (x : Symbol) (m : ℤ) → only x m x ≡ m
only_self x m = ap (λ b. if b then m else pos 0) (same_self x)

pub only_other : (x y : Symbol) (m : ℤ) → is_same y x ≡ false → only x m y ≡ pos 0
only_other x y m h = ap (λ b. if b then m else pos 0) h

pub only_same : (x y : Symbol) (m : ℤ) → is_same y x ≡ true → only x m y ≡ m
only_same x y m h = ap (λ b. if b then m else pos 0) h

pub zero_sum : (ts : List Term) → sum_at (λ x. pos 0) ts ≡ pos 0
zero_sum [] = refl
zero_sum (t ∷ ts) = ap (λ z. t.factor *ℤ pos 0 +ℤ z) (zero_sum ts) ∙ omega (arith, ints)

-- a symbol before all terms has none
pub no_sum : (x : Symbol) (m : ℤ) (ts : List Term) → is_before_all x ts ≡ true → sum_at (only x m) ts ≡ pos 0
no_sum x m [] h = refl
no_sum x m (t ∷ ts) h =
    ap (λ z. t.factor *ℤ z +ℤ sum_at (only x m) ts) (only_other x t.symbol m (before_apart_back x t.symbol (first-true _ _ h)))
    ∙ ap (λ z. t.factor *ℤ pos 0 +ℤ z) (no_sum x m ts (second-true _ _ h)) ∙ omega (arith, ints)

nat_is : (m n : ℕ) → nat_eq m n ≡ true → m ≡ n
nat_is m n h = grind (arith, nat_tests)

-- symbols that are the same are equal
pub same_is : (x y : Symbol) → is_same x y ≡ true → x ≡ y
same_is (Entry v) (Entry w) h = ap Entry (nat_is v w h)
same_is (Made v) (Made w) h = ap Made (nat_is v w h)
same_is (EntryPlace v) (EntryPlace w) h = ap EntryPlace (nat_is v w h)
same_is (MadePlace v) (MadePlace w) h = ap MadePlace (nat_is v w h)
same_is (Entry v) (Made w) h = absurd (false≢true h)
same_is (Entry v) (EntryPlace w) h = absurd (false≢true h)
same_is (Entry v) (MadePlace w) h = absurd (false≢true h)
same_is (Made v) (Entry w) h = absurd (false≢true h)
same_is (Made v) (EntryPlace w) h = absurd (false≢true h)
same_is (Made v) (MadePlace w) h = absurd (false≢true h)
same_is (EntryPlace v) (Entry w) h = absurd (false≢true h)
same_is (EntryPlace v) (Made w) h = absurd (false≢true h)
same_is (EntryPlace v) (MadePlace w) h = absurd (false≢true h)
same_is (MadePlace v) (Entry w) h = absurd (false≢true h)
same_is (MadePlace v) (Made w) h = absurd (false≢true h)
same_is (MadePlace v) (EntryPlace w) h = absurd (false≢true h)
