-- Graphs of a program with all the values that their functions allow.
use Rattle.std.proofs.Common.{◌≡◌, ℕ, zero, suc, ◌*◌, ◌<◌, ◌≤◌, ◌^◌, Bool, true, false, cond, List, [], ◌∷◌, length, map, get_or, slice_get, Option, Some, None, refl, sym, ap, ◌∙◌, subst, arith, ltb-true}
use Rattle.std.specs.Prelude.{count_by}
use Rattle.std.specs.Option.{option_map}
use Rattle.std.specs.List.{flat_map, sum}
use Rattle.std.proofs.lemmas.Bool.{and_parts}
use Rattle.std.proofs.lemmas.Option.{slice_get-map}
use Rattle.vx_ast.specs.Tree.{Function, Program}
use Rattle.vx_ast.specs.Accepted.{Over, over, or_else, limit_of, is_none, at_most, is_accepted, is_suited, function_nodes, global_words, formats_of}
use Rattle.vx_flow.specs.declared.graph.Bank.{Bank}
use Rattle.vx_flow.specs.declared.graph.Graph.{Graph}
use Rattle.vx_flow.specs.declared.graph.Flow.{Flow}
use Rattle.vx_lower.specs.FlowOf.{GraphOf, FlowOf, is_general, is_branch}
use Rattle.vx_lower.proofs.Facts.{none_is, or_one, or_two}
use Rattle.vx_select.specs.Padding.{AreSizes, AreWithin, EachPaddedTo, FlowPadded, IsWithin}
use Rattle.vx_rewrite.specs.Filling.{AreSmall}
use Rattle.vx_rewrite.specs.Rewritten.{IsFull}

-- ---- functions within their limit

within_first : (number most m n : ℕ) (ns : List ℕ) (t : Bool) → at_most m most ≡ t → (over number most ns ≡ None → (i : ℕ) → slice_get ns i ≡ Some n → n ≤ most) → (i : ℕ) → slice_get (m ∷ ns) i ≡ Some n →
    cond t (over number most ns) (Some (record { number = number; count = m })) ≡ None → n ≤ most
within_first number most m n ns true q later zero at e = let h : m < suc most = ltb-true m (suc most) q in let is : m ≡ n = cc in omega (arith, h, is)
within_first number most m n ns true q later (suc i) at e = later e i at
within_first number most m n ns false q later i at e = absurd (cc)

within : (number most : ℕ) (ns : List ℕ) (i n : ℕ) → over number most ns ≡ None → slice_get ns i ≡ Some n → n ≤ most
within number most [] i n e at = absurd (cc)
within number most (m ∷ ns) i n e at = within_first number most m n ns (at_most m most) refl (λ h j a. within number most ns j n h a) i at e

pub accepted_small : (p : Program) → is_accepted p ≡ true → AreSmall p.functions
unfolding is_accepted
accepted_small p accepted f function at =
    let o3 : Option Over = over 3 256 (length p.functions ∷ []) in
    let o4 : Option Over = over 4 8 (map (λ (f : Function). length f.takes) p.functions) in
    let o5 : Option Over = over 5 4000 (map function_nodes p.functions) in
    let o6 : Option Over = over 6 8192 (map (λ (f : Function). sum f.arrays) p.functions) in
    let o7 : Option Over = over 7 262144 (sum (map global_words p.globals) ∷ []) in
    let o8 : Option Over = over 8 4096 (flat_map (λ (f : Function). map (λ (format : List ℕ). length format) (formats_of f.body)) p.functions) in
    let none : limit_of p ≡ None = none_is (limit_of p) (and_parts (is_suited p) (is_none (limit_of p)) accepted).1 in
    let third : o5 ≡ None = or_one o5 (or_else o6 (or_else o7 o8)) (or_two o4 (or_else o5 (or_else o6 (or_else o7 o8))) (or_two o3 (or_else o4 (or_else o5 (or_else o6 (or_else o7 o8)))) none)) in
    let few : function_nodes function ≤ 4000 = within 5 4000 (map function_nodes p.functions) f (function_nodes function) third (slice_get-map function_nodes p.functions f ∙ ap (option_map function_nodes) at) in
    omega (arith, few)

pub small_at : {X : Type 0} (of : X → Function) (xs : List X) → AreSmall (map of xs) → (i : ℕ) (x : X) → i < length xs → x ≡ get_or xs i x → function_nodes (of x) < 2 ^ 32
small_at of [] s i x l e = absurd (omega (arith, l))
small_at of (y ∷ ys) s zero x l e = s 0 (of x) (ap (λ z. Some (of z)) (sym e))
small_at of (y ∷ ys) s (suc i) x l e = let k : i < length ys = omega (arith, l) in small_at of ys (λ f function at. s (suc f) function at) i x k e

-- ---- graphs of a program have no more values than their functions allow

all_within : (ns : List ℕ) (gs : List Graph) → length gs ≡ length ns → ((i n : ℕ) (g : Graph) → slice_get ns i ≡ Some n → slice_get gs i ≡ Some g → IsWithin n g) → AreWithin ns gs
all_within [] [] l h = tt
all_within [] (g ∷ gs) l h = absurd (omega (arith, l))
all_within (n ∷ ns) [] l h = absurd (omega (arith, l))
all_within (n ∷ ns) (g ∷ gs) l h = let same : length gs ≡ length ns = omega (arith, l) in (h 0 n g refl refl, all_within ns gs same (λ i m k e q. h (suc i) m k e q))

length_map : {A B : Type 0} (f : A → B) (xs : List A) → length (map f xs) ≡ length xs
length_map f [] = refl
length_map f (x ∷ xs) = ap suc (length_map f xs)

module _ (p : Program) (sizes : List ℕ) (s : AreSizes p sizes) where
  at_function : (i : ℕ) → slice_get sizes i ≡ option_map function_nodes (slice_get p.functions i)
  at_function i = ap (λ l. slice_get l i) s ∙ slice_get-map function_nodes p.functions i

  pub flow_within : (flow : Flow) → FlowOf p flow → AreWithin sizes flow.functions
  flow_within flow o = all_within sizes flow.functions many at
    where
      many : length flow.functions ≡ length sizes
      many = o.count ∙ sym (length_map function_nodes p.functions) ∙ ap length (sym s)

      at : (i n : ℕ) (g : Graph) → slice_get sizes i ≡ Some n → slice_get flow.functions i ≡ Some g → IsWithin n g
      at i n g e h = by (slice_get p.functions i) refl
        where
          by : (f : Option Function) → slice_get p.functions i ≡ f → IsWithin n g
          by None q = let r : Option.Some n ≡ None = sym e ∙ at_function i ∙ ap (option_map function_nodes) q in absurd (cc)
          by (Some f) q =
              let r : Option.Some n ≡ Some (function_nodes f) = sym e ∙ at_function i ∙ ap (option_map function_nodes) q in
              let is : function_nodes f ≡ n = cc in
              let shape : GraphOf p f g = o.graphs i f g q h in
              subst (λ m. IsWithin m g) is (shape.general_values, shape.branch_values)

  -- ---- graphs with these values

  at_size : (ns : List ℕ) (gs hs : List Graph) (f n : ℕ) (h : Graph) → EachPaddedTo ns gs hs → slice_get ns f ≡ Some n → slice_get hs f ≡ Some h → (count_by is_general h.banks ≡ 3 * n) × (count_by is_branch h.banks ≡ 2 * n)
  at_size [] [] [] f n h e p q = absurd (cc)
  at_size [] [] (x ∷ hs) f n h e p q = absurd e
  at_size [] (g ∷ gs) hs f n h e p q = absurd e
  at_size (m ∷ ns) [] hs f n h e p q = absurd e
  at_size (m ∷ ns) (g ∷ gs) [] f n h e p q = absurd e
  at_size (m ∷ ns) (g ∷ gs) (x ∷ hs) zero n h e p q =
      let a : m ≡ n = cc in
      let b : x ≡ h = cc in
      (ap (λ (z : Graph). count_by is_general z.banks) (sym b) ∙ e.0.generals ∙ ap (λ k. 3 * k) a, ap (λ (z : Graph). count_by is_branch z.banks) (sym b) ∙ e.0.branches ∙ ap (λ k. 2 * k) a)
  at_size (m ∷ ns) (g ∷ gs) (x ∷ hs) (suc f) n h e p q = at_size ns gs hs f n h e.1 p q

  pub padded_full : (old new : Flow) → FlowPadded sizes old new → IsFull p new
  padded_full old new x f function graph a b = at_size sizes old.functions new.functions f (function_nodes function) graph x.each (at_function f ∙ ap (option_map function_nodes) a) b

-- ---- and graphs with the values of others

abbrev pub values_in : Graph → List Bank
values_in g = g.banks

pub full_kept : (p : Program) (old new : Flow) → map values_in new.functions ≡ map values_in old.functions → IsFull p old → IsFull p new
full_kept p old new e full f function graph a b = by (slice_get old.functions f) refl
  where
    there : option_map values_in (slice_get old.functions f) ≡ Some graph.banks
    there = sym (slice_get-map values_in old.functions f) ∙ ap (λ l. slice_get l f) (sym e) ∙ slice_get-map values_in new.functions f ∙ ap (option_map values_in) b

    by : (g : Option Graph) → slice_get old.functions f ≡ g → (count_by is_general graph.banks ≡ 3 * function_nodes function) × (count_by is_branch graph.banks ≡ 2 * function_nodes function)
    by None q = let r : Option.None ≡ Some graph.banks = sym (ap (option_map values_in) q) ∙ there in absurd (cc)
    by (Some g) q =
        let r : Option.Some g.banks ≡ Some graph.banks = sym (ap (option_map values_in) q) ∙ there in
        let is : g.banks ≡ graph.banks = cc in
        subst (λ bs. (count_by is_general bs ≡ 3 * function_nodes function) × (count_by is_branch bs ≡ 2 * function_nodes function)) is (full f function g a q)
