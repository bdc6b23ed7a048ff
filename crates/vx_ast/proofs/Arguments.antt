-- Arguments that are numbers: no array is given with them, and a row of numbers gives no others.
use Rattle.std.proofs.Common.{◌≡◌, ◌∙◌, ℕ, ℤ, pos, true, List, [], ◌∷◌, ◌++◌, length, map, replicate, slice_index_or, Option, Some, refl, ap}
use Rattle.vx_ast.specs.Tree.{Row, Tree, NoMore, Then, Hand, Function}
use Rattle.vx_ast.specs.Meaning.{Store, Part, With, Trapped, Going, Argument, NumberArgument, numbers_given, arrays_given, Calls, and_then, value, does, spot_in, spot_of, result_of, entered, activate}
use Rattle.vx_ast.specs.Accepted.{has_numbers}

pub numbers_are : (zs : List ℤ) → numbers_given (map NumberArgument zs) ≡ zs
numbers_are [] = refl
numbers_are (z ∷ zs) = ap (λ l. z ∷ l) (numbers_are zs)

pub no_arrays : (zs : List ℤ) → arrays_given (map NumberArgument zs) ≡ []
no_arrays [] = refl
no_arrays (z ∷ zs) = no_arrays zs

-- so a row of numbers gives them, and what a function does to which they are given is what it does by its numbers

abbrev pub OnlyNumbers : Part (List Argument) → Type 0
OnlyNumbers (With xs s) = xs ≡ map NumberArgument (numbers_given xs)
OnlyNumbers (Trapped k out) = Unit {0}
OnlyNumbers (Going out) = Unit {0}

then_numbers : {A : Type 0} (x : Part A) (f : A → Store → Part (List Argument)) → ((a : A) (t : Store) → OnlyNumbers (f a t)) → OnlyNumbers (and_then x f)
then_numbers (With a s) f h = h a s
then_numbers (Trapped k out) f h = tt
then_numbers (Going out) f h = tt

more_numbers : (x : ℤ) (p : Part (List Argument)) → OnlyNumbers p → OnlyNumbers (and_then p (λ xs u. With (NumberArgument x ∷ xs) u))
more_numbers x (With xs s) h = ap (λ l. NumberArgument x ∷ l) h
more_numbers x (Trapped k out) h = tt
more_numbers x (Going out) h = tt

pub row_numbers : (spot : ℕ → ℕ) (calls : Calls) (row : Tree Row) (s : Store) → has_numbers row ≡ true → OnlyNumbers (value spot calls row s)
row_numbers spot calls NoMore s h = refl
row_numbers spot calls (Then a rest) s h = then_numbers (value spot calls a s) _ (λ x t. more_numbers x (value spot calls rest t) (row_numbers spot calls rest t h))
row_numbers spot calls (Hand a rest) s h = cc

pub given_numbers : (g : ℕ) (f : Function) (calls : Calls) (n : ℕ) (zs : List ℤ) (s : Store) →
    activate g (Some f) calls n (map NumberArgument zs) s ≡ result_of s (does (spot_of g (length s.arrays)) calls n f.body (record s { scalars = λ x. slice_index_or zs x (pos 0); arrays = s.arrays ++ map (λ size. replicate size (pos 0)) f.arrays }))
given_numbers g f calls n zs s =
    ap (λ l. result_of s (does (spot_in g l (length s.arrays)) calls n f.body (entered f (map NumberArgument zs) s))) (no_arrays zs)
    ∙ ap (λ l. result_of s (does (spot_of g (length s.arrays)) calls n f.body (record s { scalars = λ x. slice_index_or l x (pos 0); arrays = s.arrays ++ map (λ size. replicate size (pos 0)) f.arrays }))) (numbers_are zs)
