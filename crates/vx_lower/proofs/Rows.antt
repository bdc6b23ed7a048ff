-- Rows of arguments, one behind the other.
use Rattle.std.proofs.Common.{◌≡◌, ℕ, suc, ◌+◌, true, false, List, [], ◌∷◌, ◌++◌, refl, sym, ap, subst, inl, inr, arith}
use Rattle.vx_ast.specs.declared.tree.Expression.{Expression}
use Rattle.vx_ast.specs.declared.tree.Argument.{Argument}
use Rattle.vx_ast.specs.declared.tree.Argument.TheVariants.{Number as ANumber, Array as AnArray}
use Rattle.vx_ast.specs.declared.tree.Takes.TheVariants.{Number as TakesNumber, Array as TakesArray}
use Rattle.vx_ast.specs.Tree.{Row, Tree, NoMore, Then, Hand}
use Rattle.vx_ast.specs.View.{tree_of, row_in, argument_before, arguments_in}
use Rattle.vx_ast.specs.Accepted.{row_length, nodes_of, takes_of_row, has_numbers}
use Rattle.vx_flow.specs.declared.graph.Operand.{Operand}
use Rattle.vx_lower.specs.Seen.{Sees}
use Rattle.vx_lower.specs.Emits.{IsWithin, row_before}
use Rattle.vx_lower.specs.Named.{Known, IsNamed}
use Rattle.vx_lower.specs.Fits.{Role, OperandFits, AllFit, ArgumentsFit}

pub before_assoc : (a b rest : Tree Row) → row_before a (row_before b rest) ≡ row_before (row_before a b) rest
before_assoc NoMore b rest = refl
before_assoc (Then e a) b rest = ap (Then e) (before_assoc a b rest)
before_assoc (Hand n a) b rest = ap (Hand n) (before_assoc a b rest)

pub before_none : (a : Tree Row) → row_before a NoMore ≡ a
before_none NoMore = refl
before_none (Then e a) = ap (Then e) (before_none a)
before_none (Hand n a) = ap (Hand n) (before_none a)

pub row_more : (xs : List Expression) (e : Expression) → row_before (row_in xs) (Then (tree_of e) NoMore) ≡ row_in (xs ++ e ∷ [])
row_more [] e = refl
row_more (x ∷ xs) e = ap (Then (tree_of x)) (row_more xs e)

pub arguments_more : (xs : List Argument) (x : Argument) → row_before (arguments_in xs) (argument_before x NoMore) ≡ arguments_in (xs ++ x ∷ [])
arguments_more [] x = refl
arguments_more (ANumber e ∷ xs) x = ap (Then (tree_of e)) (arguments_more xs x)
arguments_more (AnArray a ∷ xs) x = ap (Hand a) (arguments_more xs x)

pub within_before : (n : ℕ) (a b : Tree Row) → IsWithin n (row_before a b) → IsWithin n a × IsWithin n b
within_before n NoMore b h = (tt, h)
within_before n (Then e a) b h = let w = within_before n a b h.1 in ((h.0, w.0), w.1)
within_before n (Hand m a) b h = within_before n a b h

pub named_before : {words : Sees} (k : Known words) (a b : Tree Row) → IsNamed k (row_before a b) → IsNamed k a × IsNamed k b
named_before k NoMore b h = (tt, h)
named_before k (Then e a) b h = let w = named_before k a b h.1 in ((h.0, w.0), w.1)
named_before k (Hand m a) b h = let w = named_before k a b h.1 in ((h.0, w.0), w.1)

pub length_before : (a b : Tree Row) → row_length (row_before a b) ≡ row_length a + row_length b
length_before NoMore b = let h : row_length b ≡ 0 + row_length b = omega arith in h
length_before (Then e a) b = let h = length_before a b in let x : row_length (row_before (Then e a) b) ≡ suc (row_length (row_before a b)) = refl in let y : row_length (Then e a) ≡ suc (row_length a) = refl in omega arith
length_before (Hand m a) b = let h = length_before a b in let x : row_length (row_before (Hand m a) b) ≡ suc (row_length (row_before a b)) = refl in let y : row_length (Hand m a) ≡ suc (row_length a) = refl in omega arith

pub nodes_before : (a b : Tree Row) → nodes_of (row_before a b) ≡ nodes_of a + nodes_of b
nodes_before NoMore b = let h : nodes_of b ≡ 0 + nodes_of b = omega arith in h
nodes_before (Then e a) b = let h = nodes_before a b in let x : nodes_of (row_before (Then e a) b) ≡ nodes_of e + nodes_of (row_before a b) = refl in let y : nodes_of (Then e a) ≡ nodes_of e + nodes_of a = refl in omega arith
nodes_before (Hand m a) b = let h = nodes_before a b in let x : nodes_of (row_before (Hand m a) b) ≡ 1 + nodes_of (row_before a b) = refl in let y : nodes_of (Hand m a) ≡ 1 + nodes_of a = refl in omega arith

takes_before : (a b : Tree Row) → takes_of_row (row_before a b) ≡ takes_of_row a ++ takes_of_row b
takes_before NoMore b = refl
takes_before (Then e a) b = ap (λ z. TakesNumber ∷ z) (takes_before a b)
takes_before (Hand m a) b = ap (λ z. TakesArray ∷ z) (takes_before a b)

pub arguments_before : (roles : List Role) (a b : Tree Row) (os own : List Operand) → ArgumentsFit roles (takes_of_row a) os → ArgumentsFit roles (takes_of_row b) own → ArgumentsFit roles (takes_of_row (row_before a b)) (os ++ own)
arguments_before roles NoMore b [] own f g = g
arguments_before roles NoMore b (o ∷ os) own f g = absurd f
arguments_before roles (Then e a) b [] own f g = absurd f
arguments_before roles (Then e a) b (o ∷ os) own f g = (f.0, arguments_before roles a b os own f.1 g)
arguments_before roles (Hand m a) b [] own f g = absurd f
arguments_before roles (Hand m a) b (o ∷ []) own f g = absurd f
arguments_before roles (Hand m a) b (o ∷ n ∷ os) own f g = (f.0, f.1, arguments_before roles a b os own f.2 g)

-- of a row of numbers each operand is one
pub all_numbers : (roles : List Role) (row : Tree Row) (os : List Operand) → has_numbers row ≡ true → ArgumentsFit roles (takes_of_row row) os → AllFit roles os
all_numbers roles NoMore [] h f o m = absurd m
all_numbers roles NoMore (x ∷ os) h f o m = absurd f
all_numbers roles (Then e a) [] h f o m = absurd m
all_numbers roles (Then e a) (x ∷ os) h f o (inl q) = let g : OperandFits roles x = f.0 in subst (OperandFits roles) (sym q) g
all_numbers roles (Then e a) (x ∷ os) h f o (inr m) = all_numbers roles a os h f.1 o m
all_numbers roles (Hand n a) os h f o m = absurd (no h)
  where
    no : false ≡ true → ⊥
    no e = cc
