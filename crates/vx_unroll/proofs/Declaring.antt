-- How many words the declarations of a function within its limits have.
use Rattle.std.proofs.Common.{◌≡◌, ℕ, zero, suc, ◌+◌, ◌-◌, ◌*◌, ◌≤◌, ◌<◌, Bool, true, false, nat_lt, List, [], ◌∷◌, length, drop, map, get_or, Option, slice_index_or, inl, inr, refl, ap, ◌∙◌, arith, ltb-true}
use Rattle.std.specs.Prelude.{if◌then◌else◌}
use Rattle.std.specs.List.{list_all, flat_map, sum, sum_by}
use Rattle.std.proofs.lemmas.Bool.{and_parts, and_from, cases_lt}
use Rattle.std.proofs.lemmas.List.{get_or_past, at_drop_more}
use Rattle.std.proofs.lemmas.List.Sums.{get_or-le-sum_by, sum_by-cons}
use Rattle.vx_ast.specs.Tree.{Code, Seq, Block, ClearArray, If, IfElse, While, DoWhile, For, Function, Program}
use Rattle.vx_ast.specs.declared.tree.Takes.{Takes}
use Rattle.vx_ast.specs.declared.tree.Takes.TheVariants.{Number as TakesNumber, Array as TakesArray}
use Rattle.vx_ast.specs.Accepted.{Over, at_most, arrays_among, code_nodes, function_nodes, global_words, formats_of, over, or_else, limit_of, is_none, is_suited, is_accepted}
use Rattle.vx_limits.specs.Capped.{capped}
use Rattle.vx_unroll.specs.Unrolling.{declared_words, own_words, first_own, function_words, size_of}
use Rattle.vx_unroll.specs.Growth.{is_small_function}
use Rattle.vx_unroll.proofs.Sizes.{both_words}
use Rattle.vx_unroll.proofs.Making.{size_same}
use Rattle.vx_unroll.proofs.Accepting.{none_first, none_is, all_within}

summed : (ns : List ℕ) (i : ℕ) → slice_index_or ns i 0 ≤ sum ns
summed ns i = elim (cases_lt i (length ns)) [
  | inl h ↦ get_or-le-sum_by (λ x. x) ns i 0 h
  | inr h ↦ let e : slice_index_or ns i 0 ≡ 0 = get_or_past ns i 0 h in omega (arith, e)
]

own_most : (own : ℕ) (arrays : List ℕ) (a : ℕ) → sum arrays ≤ 8192 → own_words own arrays a ≤ 8192
own_most own arrays a h =
    let by : (b : Bool) → (if b then 0 else slice_index_or arrays (a - own) 0) ≤ 8192
    = λ b. elim b as (λ b. (if b then 0 else slice_index_or arrays (a - own) 0) ≤ 8192) [
      | true ↦ omega arith
      | false ↦ let s = summed arrays (a - own) in omega (arith, s, h)
    ] in
    by (nat_lt a own)

module _ (words : ℕ → ℕ) (most : (a : ℕ) → words a ≤ 8192) where
  declared_most : (c : Code) → declared_words words c ≤ 8192 * code_nodes c
  declared_most (Seq a b) = let h = declared_most a in let k = declared_most b in let e = both_words words a b in omega (arith, h, k, e)
  declared_most (Block a) = let h = declared_most a in omega (arith, h)
  declared_most (ClearArray a) = let e : sum_by words (a ∷ []) ≡ words a + 0 = sum_by-cons words a [] in let m = most a in omega (arith, e, m)
  declared_most (If t a) = let h = declared_most a in omega (arith, h)
  declared_most (IfElse t a b) = let h = declared_most a in let k = declared_most b in let e = both_words words a b in omega (arith, h, k, e)
  declared_most (While t a) = let h = declared_most a in omega (arith, h)
  declared_most (DoWhile a t) = let h = declared_most a in omega (arith, h)
  declared_most (For first test step a) = let h = declared_most first in let k = declared_most a in let e = both_words words first a in omega (arith, h, k, e)
  declared_most c = omega arith

pub function_most : (globals : ℕ) (f : Function) → is_small_function f ≡ true → (function_nodes f ≤ 4000) × (function_words globals f ≤ 32768000)
function_most globals f e =
    let b = and_parts (at_most (function_nodes f) 4000) (at_most (sum f.arrays) 8192) e in
    let m : function_nodes f < 4001 = ltb-true (function_nodes f) 4001 b.0 in
    let n : sum f.arrays < 8193 = ltb-true (sum f.arrays) 8193 b.1 in
    let few : sum f.arrays ≤ 8192 = omega (arith, n) in
    let all : 1 + length f.takes + code_nodes f.body < 4001 = m in
    let d = declared_most (own_words (first_own globals f) f.arrays) (λ a. own_most (first_own globals f) f.arrays a few) f.body in
    (omega (arith, m), omega (arith, d, all))

-- how many parameters take an array

taken_more : (x : Takes) (rest : List Takes) → arrays_among (x ∷ rest) ≡ arrays_among (x ∷ []) + arrays_among rest
taken_more TakesNumber rest = omega arith
taken_more TakesArray rest = omega arith

pub taken_step : (takes : List Takes) (i count one : ℕ) (none : Takes) → count + arrays_among (drop i takes) ≡ arrays_among takes → i < length takes → one ≡ arrays_among (get_or takes i none ∷ []) → (count + one) + arrays_among (drop (i + 1) takes) ≡ arrays_among takes
taken_step takes i count one none s h n =
    let d : arrays_among (drop i takes) ≡ arrays_among (get_or takes i none ∷ []) + arrays_among (drop (i + 1) takes) = ap arrays_among (at_drop_more (λ z. z) takes i none h) ∙ taken_more (get_or takes i none) (drop (i + 1) takes) in
    omega (arith, s, n, d)

pub taken_end : (takes : List Takes) (i count : ℕ) → count + arrays_among (drop i takes) ≡ arrays_among takes → drop i takes ≡ [] → count ≡ arrays_among takes
taken_end takes i count s e = let d : arrays_among (drop i takes) ≡ 0 = ap arrays_among e in omega (arith, s, d)

-- counts of a function within its limits are not stopped
pub size_counted : (globals : ℕ) (f : Function) (own : ℕ) (arrays : List ℕ) (body : Code) (nodes words : ℕ) → is_small_function f ≡ true → own ≡ first_own globals f → arrays ≡ f.arrays → body ≡ f.body → nodes ≡ capped (function_nodes f) → words ≡ capped (declared_words (own_words own arrays) body)
    → record { nodes = nodes; words = words } ≡ size_of globals f
size_counted globals f own arrays body nodes words e o a b n w =
    let m = function_most globals f e in let l = m.0 in let k = m.1 in
    let is : declared_words (own_words own arrays) body ≡ function_words globals f =
    ap (λ (z : ℕ). declared_words (own_words z arrays) body) o ∙ ap (λ (z : List ℕ). declared_words (own_words (first_own globals f) z) body) a ∙ ap (λ (z : Code). declared_words (own_words (first_own globals f) f.arrays) z) b
    in
    let en : nodes ≡ function_nodes f = omega (arith, l, n) in
    let ew : words ≡ function_words globals f = omega (arith, k, w, is) in
    size_same (record { nodes = nodes; words = words }) (size_of globals f) en ew

all_small : (fs : List Function) → list_all (λ n. at_most n 4000) (map function_nodes fs) ≡ true → list_all (λ n. at_most n 8192) (map (λ (f : Function). sum f.arrays) fs) ≡ true → list_all is_small_function fs ≡ true
all_small [] e h = refl
all_small (f ∷ fs) e h =
    let a = and_parts (at_most (function_nodes f) 4000) (list_all (λ n. at_most n 4000) (map function_nodes fs)) e in
    let b = and_parts (at_most (sum f.arrays) 8192) (list_all (λ n. at_most n 8192) (map (λ (g : Function). sum g.arrays) fs)) h in
    and_from (is_small_function f) (list_all is_small_function fs) (and_from (at_most (function_nodes f) 4000) (at_most (sum f.arrays) 8192) a.0 b.0) (all_small fs a.1 b.1)

pub accepted_small : (p : Program) → is_accepted p ≡ true → list_all is_small_function p.functions ≡ true
unfolding is_accepted
accepted_small p e =
    let fs : List Function = p.functions in
    let o3 : Option Over = over 3 256 (length fs ∷ []) in
    let o4 : Option Over = over 4 8 (map (λ (f : Function). length f.takes) fs) in
    let o5 : Option Over = over 5 4000 (map function_nodes fs) in
    let o6 : Option Over = over 6 8192 (map (λ (f : Function). sum f.arrays) fs) in
    let o7 : Option Over = over 7 262144 (sum (map global_words p.globals) ∷ []) in
    let o8 : Option Over = over 8 4096 (flat_map (λ (f : Function). map (λ (format : List ℕ). length format) (formats_of f.body)) fs) in
    let none = none_is (limit_of p) (and_parts (is_suited p) (is_none (limit_of p)) e).1 in
    let n3 = none_first o3 (or_else o4 (or_else o5 (or_else o6 (or_else o7 o8)))) none in
    let n4 = none_first o4 (or_else o5 (or_else o6 (or_else o7 o8))) n3.1 in
    let n5 = none_first o5 (or_else o6 (or_else o7 o8)) n4.1 in
    let n6 = none_first o6 (or_else o7 o8) n5.1 in
    all_small fs (all_within 5 4000 (map function_nodes fs) n5.0) (all_within 6 8192 (map (λ (f : Function). sum f.arrays) fs) n6.0)

-- what all of a list keep one of it does
pub kept_at : {A : Type 0} (p : A → Bool) {X : Type 0} (of : X → A) (xs : List X) (i : ℕ) (x : X) → list_all p (map of xs) ≡ true → i < length xs → x ≡ get_or xs i x → p (of x) ≡ true
kept_at p of [] i x e h k = absurd (omega arith)
kept_at p of (y ∷ ys) zero x e h k = ap (λ z. p (of z)) k ∙ (and_parts (p (of y)) (list_all p (map of ys)) e).0
kept_at p of (y ∷ ys) (suc i) x e h k = let l : i < length ys = omega arith in kept_at p of ys i x (and_parts (p (of y)) (list_all p (map of ys)) e).1 l k
