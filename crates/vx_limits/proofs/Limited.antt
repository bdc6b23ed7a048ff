-- The first count that is over a limit.
use Rattle.std.proofs.Common.{◌≡◌, ℕ, suc, ◌<◌, ◌≤◌, Bool, true, false, if◌then◌else◌, List, [], ◌∷◌, ◌++◌, length, map, refl, ap, sym, ◌∙◌, Option, Some, None, arith}
use Rattle.std.specs.Prelude.{option_map}
use Rattle.std.specs.List.{flat_map, sum}
use Rattle.vx_ast.specs.declared.tree.Item.{Item}
use Rattle.vx_ast.specs.declared.tree.Item.TheVariants.{Scalar, ScalarWith, Array}
use Rattle.vx_ast.specs.declared.tree.GlobalVariable.{GlobalVariable}
use Rattle.vx_ast.specs.Tree as tree
use Rattle.vx_ast.specs.View.{items_of}
use Rattle.vx_ast.specs.Accepted.{Over, over, or_else, at_most, formats_of, function_nodes, global_words, limit_of}
use Rattle.vx_limits.specs.Capped.{over_of, lengths_of, or_count}
use Rattle.std.proofs.lemmas.Bool.{lt-ltb, le-ltb}

pub over_passes : (k most n : ℕ) (ns : List ℕ) → n ≤ most → over k most (n ∷ ns) ≡ over k most ns
over_passes k most n ns h = ap (λ (b : Bool). if b then over k most ns else Some (over_of k n)) (lt-ltb n (suc most) (omega arith))

pub over_stops : (k most n : ℕ) (ns : List ℕ) → most < n → over k most (n ∷ ns) ≡ Some (over_of k n)
over_stops k most n ns h = ap (λ (b : Bool). if b then over k most ns else Some (over_of k n)) (le-ltb n (suc most) (omega arith))

pub over_append : (k most : ℕ) (xs ys : List ℕ) → over k most (xs ++ ys) ≡ or_else (over k most xs) (over k most ys)
over_append k most [] ys = refl
over_append k most (x ∷ xs) ys =
    let by : (b : Bool) → (if b then over k most (xs ++ ys) else Some (over_of k x)) ≡ or_else (if b then over k most xs else Some (over_of k x)) (over k most ys)
    = λ b. elim b as (λ b. (if b then over k most (xs ++ ys) else Some (over_of k x)) ≡ or_else (if b then over k most xs else Some (over_of k x)) (over k most ys)) [ true ↦ over_append k most xs ys | false ↦ refl ] in
    by (at_most x most)

pub lengths_append : (xs ys : List (List ℕ)) → lengths_of (xs ++ ys) ≡ lengths_of xs ++ lengths_of ys
lengths_append [] ys = refl
lengths_append (x ∷ xs) ys = ap (λ (z : List ℕ). length x ∷ z) (lengths_append xs ys)

or_both : (k : ℕ) (a b : Option ℕ) → option_map (over_of k) (or_count a b) ≡ or_else (option_map (over_of k) a) (option_map (over_of k) b)
or_both k None b = refl
or_both k (Some n) b = refl

pub over_both : (k most : ℕ) (a b : Option ℕ) (xs ys : List (List ℕ)) → option_map (over_of k) a ≡ over k most (lengths_of xs) → option_map (over_of k) b ≡ over k most (lengths_of ys) → option_map (over_of k) (or_count a b) ≡ over k most (lengths_of (xs ++ ys))
over_both k most a b xs ys p q =
    or_both k a b ∙ ap (λ (z : Option Over). or_else z (option_map (over_of k) b)) p ∙ ap (λ (z : Option Over). or_else (over k most (lengths_of xs)) z) q
    ∙ sym (over_append k most (lengths_of xs) (lengths_of ys)) ∙ sym (ap (λ (z : List ℕ). over k most z) (lengths_append xs ys))

pub map_length : {A B : Type 0} (f : A → B) (xs : List A) → length (map f xs) ≡ length xs
map_length f [] = refl
map_length f (x ∷ xs) = ap suc (map_length f xs)

pub declared_formats : (is : List Item) → formats_of (items_of is) ≡ []
declared_formats [] = refl
declared_formats (Scalar x ∷ is) = declared_formats is
declared_formats (ScalarWith x e ∷ is) = declared_formats is
declared_formats (Array a ∷ is) = declared_formats is

pub limit_is : (gs : List GlobalVariable) (fs : List tree.Function) (m : ℕ) (a b c d e f out : Option Over)
    → a ≡ over 3 256 (length fs ∷ []) → b ≡ over 4 8 (map (λ (f : tree.Function). length f.takes) fs) → c ≡ over 5 4000 (map function_nodes fs) → d ≡ over 6 8192 (map (λ (f : tree.Function). sum f.arrays) fs)
    → e ≡ over 7 262144 (sum (map global_words gs) ∷ []) → f ≡ over 8 4096 (flat_map (λ (f : tree.Function). lengths_of (formats_of f.body)) fs)
    → out ≡ or_else a (or_else b (or_else c (or_else d (or_else e f)))) → out ≡ limit_of (record { globals = gs; functions = fs; main = m })
limit_is gs fs m a b c d e f out p q r s t u o =
    o ∙ ap (λ z. or_else z (or_else b (or_else c (or_else d (or_else e f))))) p
    ∙ ap (λ z. or_else (over 3 256 (length fs ∷ [])) (or_else z (or_else c (or_else d (or_else e f))))) q
    ∙ ap (λ z. or_else (over 3 256 (length fs ∷ [])) (or_else (over 4 8 (map (λ (f : tree.Function). length f.takes) fs)) (or_else z (or_else d (or_else e f))))) r
    ∙ ap (λ z. or_else (over 3 256 (length fs ∷ [])) (or_else (over 4 8 (map (λ (f : tree.Function). length f.takes) fs)) (or_else (over 5 4000 (map function_nodes fs)) (or_else z (or_else e f))))) s
    ∙ ap (λ z. or_else (over 3 256 (length fs ∷ [])) (or_else (over 4 8 (map (λ (f : tree.Function). length f.takes) fs)) (or_else (over 5 4000 (map function_nodes fs)) (or_else (over 6 8192 (map (λ (f : tree.Function). sum f.arrays) fs)) (or_else z f))))) t
    ∙ ap (λ z. or_else (over 3 256 (length fs ∷ [])) (or_else (over 4 8 (map (λ (f : tree.Function). length f.takes) fs)) (or_else (over 5 4000 (map function_nodes fs)) (or_else (over 6 8192 (map (λ (f : tree.Function). sum f.arrays) fs)) (or_else (over 7 262144 (sum (map global_words gs) ∷ [])) z))))) u
