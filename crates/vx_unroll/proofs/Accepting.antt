-- The unrolled program is accepted where the program was.
use Rattle.std.proofs.Common.{◌≡◌, ℕ, zero, suc, ◌+◌, ◌-◌, ◌≤◌, ◌<◌, Bool, true, false, ◌&&◌, nat_lt, List, [], ◌∷◌, length, map, Option, Some, None, slice_get, refl, sym, ap, ◌∙◌, arith, ltb-true, lt-ltb}
use Rattle.std.specs.Prelude.{if◌then◌else◌, nat_eq}
use Rattle.std.specs.List.{list_all, flat_map, sum}
use Rattle.std.proofs.lemmas.Bool.{and_parts, and_from}
use Rattle.std.proofs.lemmas.List.Folds.{list_all-append, list_all-map}
use Rattle.vx_ast.specs.Tree.{Code, Function, Program}
use Rattle.vx_ast.specs.Accepted.{Over, at_most, numbers_taken, arrays_taken, suits_code, suits_function, suits_global, in_force_at_start, is_main, scalars_of, arrays_of, formats_of, are_all_from, function_nodes, global_words, over, or_else, limit_of, is_none, is_suited, is_accepted}
use Rattle.vx_unroll.specs.Unrolling.{unrolled_function, unrolled_program}
use Rattle.vx_unroll.specs.Laws.{Unrolls, AllUnroll, NoneLeft, AndMore, UnrolledIsAccepted, NamesStay}
use Rattle.vx_unroll.proofs.Unrolled.{all_unroll}
use Rattle.vx_unroll.proofs.Whole.{body_suits}
use Rattle.vx_unroll.proofs.Sizes.{nodes_stay_within}
use Rattle.vx_unroll.proofs.Items.{scalars_covered, arrays_covered, formats_covered, all_from_covered}

-- limits

pub none_first : (a b : Option Over) → or_else a b ≡ None → (a ≡ None) × (b ≡ None)
none_first None b e = (refl, e)
none_first (Some o) b e = let h : Some o ≡ None = e in absurd (cc)

both_none : (a b : Option Over) → a ≡ None → b ≡ None → or_else a b ≡ None
both_none a b e h = ap (λ (z : Option Over). or_else z b) e ∙ h

is_over : (number most n : ℕ) (o : Option Over) (b : Bool) → (if b then o else Some (record { number = number; count = n })) ≡ None → (b ≡ true) × (o ≡ None)
is_over number most n o true e = (refl, e)
is_over number most n o false e = absurd (cc)

pub all_within : (number most : ℕ) (ns : List ℕ) → over number most ns ≡ None → list_all (λ n. at_most n most) ns ≡ true
all_within number most [] e = refl
all_within number most (n ∷ ns) e = let h = is_over number most n (over number most ns) (at_most n most) e in and_from (at_most n most) (list_all (λ n. at_most n most) ns) h.0 (all_within number most ns h.1)

none_over : (number most : ℕ) (ns : List ℕ) → list_all (λ n. at_most n most) ns ≡ true → over number most ns ≡ None
none_over number most [] e = refl
none_over number most (n ∷ ns) e =
    let h = and_parts (at_most n most) (list_all (λ n. at_most n most) ns) e in
    ap (λ (b : Bool). if b then over number most ns else Some (record { number = number; count = n })) h.0 ∙ none_over number most ns h.1

pub none_is : (o : Option Over) → is_none o ≡ true → o ≡ None
none_is None e = refl
none_is (Some o) e = absurd (cc)

-- what all functions have

module _ {A : Type 0} (of : Function → A) where
  same_of_all : {k : ℕ} {fs gs : List Function} → ((f : Function) (body : Code) → of (record f { body = body }) ≡ of f) → AllUnroll k fs gs → map of gs ≡ map of fs
  same_of_all h NoneLeft = refl
  same_of_all h (AndMore f body fs gs u all) = ap (λ (z : A). z ∷ map of gs) (h f body) ∙ ap (λ (z : List A). of f ∷ z) (same_of_all h all)

length_same : {k : ℕ} {fs gs : List Function} → AllUnroll k fs gs → length gs ≡ length fs
length_same NoneLeft = refl
length_same (AndMore f body fs gs u all) = ap suc (length_same all)

main_same : {k : ℕ} {fs gs : List Function} → AllUnroll k fs gs → (i : ℕ) → is_main (slice_get gs i) ≡ is_main (slice_get fs i)
main_same NoneLeft i = refl
main_same (AndMore f body fs gs u all) zero = refl
main_same (AndMore f body fs gs u all) (suc i) = main_same all i

nodes_within : (k globals : ℕ) (fs : List Function) → list_all (λ n. at_most n 4000) (map function_nodes fs) ≡ true → list_all (λ n. at_most n 4000) (map function_nodes (map (unrolled_function k globals) fs)) ≡ true
nodes_within k globals [] e = refl
nodes_within k globals (f ∷ fs) e =
    let h = and_parts (at_most (function_nodes f) 4000) (list_all (λ n. at_most n 4000) (map function_nodes fs)) e in
    let l : function_nodes f < 4001 = ltb-true (function_nodes f) 4001 h.0 in
    let m : function_nodes f ≤ 4000 = omega (arith, l) in
    let n = nodes_stay_within k globals f m in
    and_from (at_most (function_nodes (unrolled_function k globals f)) 4000) (list_all (λ n. at_most n 4000) (map function_nodes (map (unrolled_function k globals) fs)))
    (lt-ltb (function_nodes (unrolled_function k globals f)) 4001 (omega (arith, n))) (nodes_within k globals fs h.1)

abbrev lengths : Function → List ℕ
lengths f = map (λ format. length format) (formats_of f.body)

formats_within : {k : ℕ} {fs gs : List Function} → AllUnroll k fs gs → list_all (λ n. at_most n 4096) (flat_map lengths fs) ≡ true → list_all (λ n. at_most n 4096) (flat_map lengths gs) ≡ true
formats_within NoneLeft e = refl
formats_within (AndMore f body fs gs u all) e =
    let short : ℕ → Bool = λ n. at_most n 4096 in
    let h = and_parts (list_all short (lengths f)) (list_all short (flat_map lengths fs)) (sym (list_all-append short (lengths f) (flat_map lengths fs)) ∙ e) in
    let g : Function = record f { body = body } in
    list_all-append short (lengths g) (flat_map lengths gs)
    ∙ and_from (list_all short (lengths g)) (list_all short (flat_map lengths gs))
    (list_all-map short (λ (format : List ℕ). length format) (formats_of body) ∙ (formats_covered u).all (λ (format : List ℕ). short (length format)) (sym (list_all-map short (λ (format : List ℕ). length format) (formats_of f.body)) ∙ h.0))
    (formats_within all h.1)

limits_kept : (k : ℕ) (p : Program) → limit_of p ≡ None → limit_of (unrolled_program k p) ≡ None
limits_kept k p e =
    let fs : List Function = p.functions in
    let gs : List Function = map (unrolled_function k (length p.globals)) fs in
    let all : AllUnroll (k - 1) fs gs = all_unroll k (length p.globals) fs in
    let o3 : List Function → Option Over = λ hs. over 3 256 (length hs ∷ []) in
    let o4 : List Function → Option Over = λ hs. over 4 8 (map (λ (f : Function). length f.takes) hs) in
    let o5 : List Function → Option Over = λ hs. over 5 4000 (map function_nodes hs) in
    let o6 : List Function → Option Over = λ hs. over 6 8192 (map (λ (f : Function). sum f.arrays) hs) in
    let o7 : Option Over = over 7 262144 (sum (map global_words p.globals) ∷ []) in
    let o8 : List Function → Option Over = λ hs. over 8 4096 (flat_map lengths hs) in
    let n3 = none_first (o3 fs) (or_else (o4 fs) (or_else (o5 fs) (or_else (o6 fs) (or_else o7 (o8 fs))))) e in
    let n4 = none_first (o4 fs) (or_else (o5 fs) (or_else (o6 fs) (or_else o7 (o8 fs)))) n3.1 in
    let n5 = none_first (o5 fs) (or_else (o6 fs) (or_else o7 (o8 fs))) n4.1 in
    let n6 = none_first (o6 fs) (or_else o7 (o8 fs)) n5.1 in
    let n7 = none_first o7 (o8 fs) n6.1 in
    both_none (o3 gs) (or_else (o4 gs) (or_else (o5 gs) (or_else (o6 gs) (or_else o7 (o8 gs))))) (ap (λ (n : ℕ). over 3 256 (n ∷ [])) (length_same all) ∙ n3.0)
    (both_none (o4 gs) (or_else (o5 gs) (or_else (o6 gs) (or_else o7 (o8 gs)))) (ap (over 4 8) (same_of_all (λ (f : Function). length f.takes) (λ f body. refl) all) ∙ n4.0)
    (both_none (o5 gs) (or_else (o6 gs) (or_else o7 (o8 gs))) (none_over 5 4000 (map function_nodes gs) (nodes_within k (length p.globals) fs (all_within 5 4000 (map function_nodes fs) n5.0)))
    (both_none (o6 gs) (or_else o7 (o8 gs)) (ap (over 6 8192) (same_of_all (λ (f : Function). sum f.arrays) (λ f body. refl) all) ∙ n6.0)
    (both_none o7 (o8 gs) n7.0 (none_over 8 4096 (flat_map lengths gs) (formats_within all (all_within 8 4096 (flat_map lengths fs) n7.1)))))))

-- names, kinds and numbers

function_suits : (k : ℕ) (p : Program) (functions : List Function) → AllUnroll k p.functions functions → (f : Function) (body : Code) → Unrolls k f.body body → suits_function p f ≡ true → suits_function (record p { functions = functions }) (record f { body = body }) ≡ true
function_suits k p functions all f body u e =
    let q : Program = record p { functions = functions } in
    let code : Bool = suits_code p f.gives false (in_force_at_start p f) f.body in
    let fits : Bool = at_most f.parameters f.scalars && nat_eq f.parameters (numbers_taken f) in
    let sizes : Bool = list_all (nat_lt 0) f.arrays in
    let scalars : List ℕ → Bool = are_all_from f.parameters (f.scalars - f.parameters) in
    let own : List ℕ → Bool = are_all_from (length p.globals + arrays_taken f) (length f.arrays) in
    let a = and_parts (code && fits) (scalars (scalars_of f.body) && (own (arrays_of f.body) && sizes)) e in
    let b = and_parts code fits a.0 in
    let c = and_parts (scalars (scalars_of f.body)) (own (arrays_of f.body) && sizes) a.1 in
    let d = and_parts (own (arrays_of f.body)) sizes c.1 in
    and_from (suits_code q f.gives false (in_force_at_start q f) body && fits) (scalars (scalars_of body) && (own (arrays_of body) && sizes))
    (and_from (suits_code q f.gives false (in_force_at_start q f) body) fits (body_suits k p functions all f body u b.0) b.1)
    (and_from (scalars (scalars_of body)) (own (arrays_of body) && sizes) (all_from_covered f.parameters (f.scalars - f.parameters) (scalars_of f.body) (scalars_of body) (scalars_covered u) c.0)
    (and_from (own (arrays_of body)) sizes (all_from_covered (length p.globals + arrays_taken f) (length f.arrays) (arrays_of f.body) (arrays_of body) (arrays_covered u) d.0) d.1))

functions_suit : (k : ℕ) (p : Program) (functions : List Function) → AllUnroll k p.functions functions → {fs gs : List Function} → AllUnroll k fs gs → list_all (suits_function p) fs ≡ true → list_all (suits_function (record p { functions = functions })) gs ≡ true
functions_suit k p functions all NoneLeft e = refl
functions_suit k p functions all (AndMore f body fs gs u more) e =
    let q : Program = record p { functions = functions } in
    let h = and_parts (suits_function p f) (list_all (suits_function p) fs) e in
    and_from (suits_function q (record f { body = body })) (list_all (suits_function q) gs) (function_suits k p functions all f body u h.0) (functions_suit k p functions all more h.1)

suits : (k : ℕ) (p : Program) → is_suited p ≡ true → is_suited (unrolled_program k p) ≡ true
suits k p e =
    let q : Program = unrolled_program k p in
    let all : AllUnroll (k - 1) p.functions q.functions = all_unroll k (length p.globals) p.functions in
    let a = and_parts (list_all (suits_function p) p.functions && list_all suits_global p.globals) (is_main (slice_get p.functions p.main)) e in
    let b = and_parts (list_all (suits_function p) p.functions) (list_all suits_global p.globals) a.0 in
    and_from (list_all (suits_function q) q.functions && list_all suits_global p.globals) (is_main (slice_get q.functions p.main))
    (and_from (list_all (suits_function q) q.functions) (list_all suits_global p.globals) (functions_suit (k - 1) p q.functions all all b.0) b.1)
    (main_same all p.main ∙ a.1)

pub unrolled_is_accepted : UnrolledIsAccepted
unfolding is_accepted
unrolled_is_accepted k p e =
    let a = and_parts (is_suited p) (is_none (limit_of p)) e in
    and_from (is_suited (unrolled_program k p)) (is_none (limit_of (unrolled_program k p))) (suits k p a.0) (ap is_none (limits_kept k p (none_is (limit_of p) a.1)))

pub names_stay : NamesStay
names_stay k p = same_of_all (λ (f : Function). f.name) (λ f body. refl) (all_unroll k (length p.globals) p.functions)
