-- What is known of the places and the words of arrays inside of a block.
use Rattle.std.specs.Prelude.{◌≡◌, ℕ, ◌==◌, Bool, true, false, ◌&&◌, ◌||◌, pos, Option, Some, None, List, [], ◌∷◌, slice_index_or}
use Rattle.std.specs.List.{list_all}
use Rattle.vx_base.specs.declared.arithmetic.Code.TheVariants.{Mov}
use Rattle.vx_flow.specs.declared.graph.Operand.{Operand}
use Rattle.vx_flow.specs.declared.graph.Operand.TheVariants.{Held, Number}
use Rattle.vx_flow.specs.declared.graph.Array.{Array}
use Rattle.vx_flow.specs.declared.graph.Op.{Op}
use Rattle.vx_flow.specs.declared.graph.Op.TheVariants.{Compute, Place, Load, Store}
use Rattle.vx_flow.specs.Effects.{State, Setting, held, place_of, row_of, cell_of}
use Rattle.vx_flow.specs.Operands.{written_by}
use Rattle.vx_flow.specs.Apart.{may_meet}
use Rattle.vx_flow.specs.Sound.{is_value}
use Rattle.vx_claims.specs.declared.access.Access.{Access}
use Rattle.vx_claims.specs.declared.access.Access.TheVariants.{Placed, Stored}
use Rattle.vx_claims.specs.declared.fact.Fact.{Fact}
use Rattle.vx_claims.specs.declared.fact.Fact.TheVariants.{Equals}
use Rattle.vx_claims.specs.Facts.{same_operand}

-- the word of array a at place p, where it has one, holds what x holds
abbrev pub HoldsWord : Setting → State → ℕ → Operand → Operand → Type 0
HoldsWord setting s a p x = (i : ℕ) → cell_of setting s a p ≡ Some i → slice_index_or (row_of s (setting.spot a)) i None ≡ held s x

abbrev pub Tells : Setting → State → Access → Type 0
Tells setting s (Placed v a i) = s.values v ≡ place_of (held s i)
Tells setting s (Stored a p x) = HoldsWord setting s a p x

abbrev pub AllTell : Setting → State → List Access → Type 0
AllTell setting s [] = Unit {0}
AllTell setting s (x ∷ xs) = Tells setting s x × AllTell setting s xs

-- the same in the same words

abbrev pub same_access : Access → Access → Bool
same_access (Placed v a i) (Placed u b j) = ((u == v) && (b == a)) && same_operand j i
same_access (Stored a p x) (Stored b q y) = (b == a) && (same_operand q p && same_operand y x)
same_access x y = false

abbrev pub is_told : List Access → Access → Bool
is_told [] x = false
is_told (y ∷ ys) x = same_access x y || is_told ys x

abbrev pub tell : List Access → List Access → Bool
tell xs ys = list_all (is_told xs) ys

abbrev pub mentions : ℕ → Access → Bool
mentions v (Placed u a i) = (u == v) || is_value v i
mentions v (Stored a p x) = is_value v p || is_value v x

abbrev pub unless : Bool → Access → List Access → List Access
unless true x xs = xs
unless false x xs = x ∷ xs

-- those that do not mention v
abbrev pub unmentioned : ℕ → List Access → List Access
unmentioned v [] = []
unmentioned v (x ∷ xs) = unless (mentions v x) x (unmentioned v xs)

-- those that stay where a value is written, and all of them where none is
abbrev pub unmentioned_written : Option ℕ → List Access → List Access
unmentioned_written None xs = xs
unmentioned_written (Some v) xs = unmentioned v xs

-- whether a store to array a may change it: what is known of a word of an array that may share one with a
abbrev pub touches : List Array → ℕ → Access → Bool
touches arrays a (Placed v b i) = false
touches arrays a (Stored b p x) = may_meet arrays a b

abbrev pub untouched : List Array → ℕ → List Access → List Access
untouched arrays a [] = []
untouched arrays a (x ∷ xs) = unless (touches arrays a x) x (untouched arrays a xs)

-- what is known behind an operation of a function with these arrays
abbrev pub accessed : List Array → List Access → Op → List Access
accessed arrays xs (Place v a i) = unless (is_value v i) (Placed v a i) (unmentioned v xs)
accessed arrays xs (Load v a p dismissible) = unless (is_value v p) (Stored a p (Held v)) (unmentioned v xs)
accessed arrays xs (Store a p x) = Stored a p x ∷ untouched arrays a xs
accessed arrays xs op = unmentioned_written (written_by op) xs

abbrev pub value_if : Bool → ℕ → Option ℕ
value_if true v = Some v
value_if false v = None

abbrev pub first_or : Option ℕ → Option ℕ → Option ℕ
first_or (Some w) o = Some w
first_or None o = o

-- the value that is the place of the element of array a at index i for longest
abbrev pub place_in : List Access → ℕ → Operand → Option ℕ
place_in [] a i = None
place_in (Placed v b j ∷ xs) a i = first_or (place_in xs a i) (value_if ((b == a) && same_operand j i) v)
place_in (Stored b p x ∷ xs) a i = place_in xs a i

abbrev pub held_if : Bool → Operand → Option Operand → Option Operand
held_if true x otherwise = Some x
held_if false x otherwise = otherwise

-- what holds what the word of array a at place p holds
abbrev pub word_in : List Access → ℕ → Operand → Option Operand
word_in [] a p = None
word_in (Placed v b i ∷ xs) a p = word_in xs a p
word_in (Stored b q x ∷ xs) a p = held_if ((b == a) && same_operand q p) x (word_in xs a p)

abbrev pub moved_or : Option Operand → ℕ → Op → Op
moved_or None v otherwise = otherwise
moved_or (Some x) v otherwise = Compute Mov v x (Number (pos 0))

abbrev pub loaded_as : List Access → Bool → (v a : ℕ) → Operand → Op
loaded_as xs true v a p = Load v a p true
loaded_as xs false v a p = moved_or (word_in xs a p) v (Load v a p false)

-- a load of a word that an operand holds is a move
abbrev pub with_words : List Access → Op → Op
with_words xs (Load v a p dismissible) = loaded_as xs dismissible v a p
with_words xs op = op

abbrev pub moved_from : ℕ → Option ℕ → List Fact
moved_from v None = []
moved_from v (Some w) = Equals v Mov (Held w) (Number (pos 0)) ∷ []

-- a place that a value holds already
abbrev pub place_known : List Access → Op → List Fact
place_known xs (Place v a i) = moved_from v (place_in xs a i)
place_known xs op = []
