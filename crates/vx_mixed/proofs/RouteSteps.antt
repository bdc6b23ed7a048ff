-- One more item of a list that is put together piece by piece, and the routes by their numbers.
use Rattle.std.proofs.Common.{◌≡◌, ℕ, zero, suc, ◌+◌, ◌<◌, ◌≤◌, Some, List, [], ◌∷◌, ◌++◌, length, drop, slice_get, get_or, refl, sym, ap, ◌∙◌, subst, arith, append_assoc, drop-cons}
use Rattle.vx_flow.specs.declared.graph.Exit.{Exit}
use Rattle.vx_flow.specs.declared.routes.Route.{Route}
use Rattle.vx_flow.specs.Closing.{BeginWithin}
use Rattle.vx_mixed.specs.declared.region.Item.{Item}
use Rattle.vx_mixed.specs.declared.region.Node.{Node}
use Rattle.vx_mixed.specs.declared.region.Node.TheVariants.{Unused, Enters, Inner}
use Rattle.vx_mixed.specs.declared.region.Region.{Region}
use Rattle.vx_mixed.specs.declared.mixed.MixedGraph.{MixedGraph}
use Rattle.vx_mixed.specs.Routes.{word_routes, behind, region_routes, region_starts, node_route, node_routes, routes}

-- a piece more: what is there and what is still to come are all of it
pub one_more : {A : Type 0} (now next part left rest all : List A) → now ++ left ≡ all → left ≡ part ++ rest → next ≡ now ++ part → next ++ rest ≡ all
one_more now next part left rest all h e n = ap (λ l. l ++ rest) n ∙ append_assoc now part rest ∙ ap (λ l. now ++ l) (sym e) ∙ h

pub left_from : {A : Type 0} (xs : List A) (i : ℕ) (d : A) → i < length xs → drop i xs ≡ get_or xs i d ∷ drop (i + 1) xs
left_from xs i d h = let z : suc i ≡ i + 1 = omega arith in drop-cons xs i d h ∙ ap (λ k. get_or xs i d ∷ drop k xs) z

-- what is left from place i on is the item there and what is left behind it
pub left_at : {A : Type 0} (xs : List A) (i : ℕ) (x : A) → i < length xs → x ≡ get_or xs i x → drop i xs ≡ x ∷ drop (i + 1) xs
left_at xs i x h e = let z : suc i ≡ i + 1 = omega arith in drop-cons xs i x h ∙ ap (λ y. y ∷ drop (suc i) xs) (sym e) ∙ ap (λ k. x ∷ drop k xs) z

pub none_left : {A : Type 0} (xs : List A) (i : ℕ) → length xs ≤ i → drop i xs ≡ []
none_left [] zero h = refl
none_left [] (suc i) h = refl
none_left (x ∷ xs) zero h = absurd (omega arith)
none_left (x ∷ xs) (suc i) h = none_left xs i (omega arith)

-- each route begins at the node of its number

abbrev Numbered : ℕ → List Route → Type 0
Numbered n [] = Unit {0}
Numbered n (r ∷ rs) = (r.from ≡ n) × Numbered (n + 1) rs

numbered_both : (n : ℕ) (xs ys : List Route) → Numbered n xs → Numbered (n + length xs) ys → Numbered n (xs ++ ys)
numbered_both n [] ys a b = let z : n + 0 ≡ n = omega arith in subst (λ k. Numbered k ys) z b
numbered_both n (x ∷ xs) ys a b = let z : n + suc (length xs) ≡ n + 1 + length xs = omega arith in (a.0, numbered_both (n + 1) xs ys a.1 (subst (λ k. Numbered k ys) z b))

word_numbers : (n : ℕ) (x : Exit) (words : List (List Item)) → Numbered n (word_routes n x words)
word_numbers n x [] = (refl, tt)
word_numbers n x (word ∷ words) = (refl, word_numbers (n + 1) x words)

words_many : (n : ℕ) (x : Exit) (words : List (List Item)) → length (word_routes n x words) ≡ length words + 1
words_many n x [] = refl
words_many n x (word ∷ words) = let h = words_many (n + 1) x words in omega arith

region_numbers : (n : ℕ) (gs : List Region) → Numbered n (region_routes n gs)
region_numbers n [] = tt
region_numbers n (g ∷ gs) = numbered_both n (word_routes n g.last g.words) (region_routes (behind n g) gs) (word_numbers n g.last g.words) (subst (λ k. Numbered (n + k) (region_routes (behind n g) gs)) (sym (words_many n g.last g.words)) (region_numbers (behind n g) gs))

from_is : (starts : List ℕ) (n : ℕ) (k : Node) → (node_route starts n k).from ≡ n
from_is starts n (Unused block) = refl
from_is starts n (Enters q w) = refl
from_is starts n Inner = refl

node_numbers : (starts : List ℕ) (n : ℕ) (ns : List Node) → Numbered n (node_routes starts n ns)
node_numbers starts n [] = tt
node_numbers starts n (k ∷ ns) = (from_is starts n k, node_numbers starts (n + 1) ns)

nodes_many : (starts : List ℕ) (n : ℕ) (ns : List Node) → length (node_routes starts n ns) ≡ length ns
nodes_many starts n [] = refl
nodes_many starts n (k ∷ ns) = ap suc (nodes_many starts (n + 1) ns)

all_numbered : (m : MixedGraph) → Numbered 0 (routes m)
all_numbered m =
    let starts = region_starts (length m.nodes) m.regions in
    let e : length m.nodes ≡ 0 + length (node_routes starts 0 m.nodes) = sym (nodes_many starts 0 m.nodes) ∙ (omega arith) in
    numbered_both 0 (node_routes starts 0 m.nodes) (region_routes (length m.nodes) m.regions) (node_numbers starts 0 m.nodes) (subst (λ k. Numbered k (region_routes (length m.nodes) m.regions)) e (region_numbers (length m.nodes) m.regions))

number_is : (n : ℕ) (rs : List Route) → Numbered n rs → (i : ℕ) (r : Route) → slice_get rs i ≡ Some r → (r.from ≡ n + i) × (i < length rs)
number_is n [] h i r e = absurd (cc)
number_is n (x ∷ rs) h zero r e = let q : x ≡ r = cc in let z : n ≡ n + 0 = omega arith in (ap (λ (y : Route). y.from) (sym q) ∙ h.0 ∙ z, omega arith)
number_is n (x ∷ rs) h (suc i) r e = let s = number_is (n + 1) rs h.1 i r e in let z : n + 1 + i ≡ n + suc i = omega arith in let l = s.1 in (s.0 ∙ z, omega arith)

pub begin_within : (m : MixedGraph) → BeginWithin (length (routes m)) (routes m)
begin_within m i r e = let s = number_is 0 (routes m) (all_numbered m) i r e in let a = s.0 in let b = s.1 in omega arith
