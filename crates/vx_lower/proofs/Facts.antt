-- What acceptance says of a program's functions and arrays, and what lists keep.
use Rattle.std.proofs.Common.{◌≡◌, ℕ, zero, suc, ◌+◌, ◌-◌, ◌<◌, ◌≤◌, ℤ, pos, Bool, true, false, cond, ◌&&◌, ◌||◌, List, [], ◌∷◌, ◌++◌, length, map, take, drop, replicate, slice_index_or, Option, Some, None, refl, sym, ap, ◌∙◌, subst, inl, inr, arith, ltb-true}
use Rattle.std.specs.Prelude.{nat_lt, nat_eq, slice_get}
use Rattle.std.specs.List.{list_all, flat_map, sum}
use Rattle.std.specs.Option.{option_map}
use Rattle.std.proofs.lemmas.Bool.{eqb-true, cases_lt}
use Rattle.std.proofs.lemmas.List.Sums.{get_or-le-sum_by}
use Rattle.std.proofs.lemmas.List.{get_or_past}
use Rattle.std.proofs.lemmas.Option.{slice_get-map}
use Rattle.vx_base.specs.Arithmetic.{IsNumber}
use Rattle.vx_ast.specs.declared.tree.GlobalVariable.{GlobalVariable}
use Rattle.vx_ast.specs.declared.tree.GlobalVariable.TheVariants.{Scalar as ScalarGlobal, Array as ArrayGlobal}
use Rattle.vx_ast.specs.Tree.{Function, Program}
use Rattle.vx_ast.specs.Accepted.{Scope, Over, over, or_else, limit_of, is_none, at_most, is_in, below, is_scalar, is_array, is_accepted, is_suited, is_main, suits_function, suits_global, suits_code, in_force_at_start, are_all_from, scalars_of, arrays_of, names_array, numbers_taken, arrays_taken, global_words, function_nodes, formats_of}
use Rattle.vx_lower.proofs.Base.{and_one, and_two}
use Rattle.vx_lower.proofs.Ties.{InForce}
use Rattle.vx_lower.proofs.Values.{zero_fits}

pub all_at : {A : Type 0} (p : A → Bool) (xs : List A) (i : ℕ) (x : A) → list_all p xs ≡ true → slice_get xs i ≡ Some x → p x ≡ true
all_at p [] i x h e = absurd (cc)
all_at p (y ∷ ys) zero x h e = let q : y ≡ x = cc in subst (λ z. p z ≡ true) q (and_one (p y) (list_all p ys) h)
all_at p (y ∷ ys) (suc i) x h e = all_at p ys i x (and_two (p y) (list_all p ys) h) e

-- limits

pub none_is : (o : Option Over) → is_none o ≡ true → o ≡ None
none_is None e = refl
none_is (Some o) e = absurd (cc)

pub or_one : (a b : Option Over) → or_else a b ≡ None → a ≡ None
or_one None b e = refl
or_one (Some o) b e = e

pub or_two : (a b : Option Over) → or_else a b ≡ None → b ≡ None
or_two None b e = e
or_two (Some o) b e = absurd (cc)

fourth_and_fifth : (a b c d e f : Option Over) → or_else a (or_else b (or_else c (or_else d (or_else e f)))) ≡ None → (d ≡ None) × (e ≡ None)
fourth_and_fifth a b c d e f is =
    let x = or_two a (or_else b (or_else c (or_else d (or_else e f)))) is in
    let y = or_two b (or_else c (or_else d (or_else e f))) x in
    let z = or_two c (or_else d (or_else e f)) y in
    (or_one d (or_else e f) z, or_one e f (or_two d (or_else e f) z))

counted : (number most m n : ℕ) (ns : List ℕ) → over number most (m ∷ ns) ≡ None → ((j : ℕ) → over number most ns ≡ None → slice_get ns j ≡ Some n → n ≤ most) → (i : ℕ) → slice_get (m ∷ ns) i ≡ Some n → n ≤ most
counted number most m n ns e tail i at = by (at_most m most) refl i at
  where
    no : (o : Over) → Some o ≡ None → ⊥
    no o e = absurd (cc)

    by : (t : Bool) → at_most m most ≡ t → (i : ℕ) → slice_get (m ∷ ns) i ≡ Some n → n ≤ most
    by false q i at = absurd (no (record { number = number; count = m }) (sym (ap (λ t. cond t (over number most ns) (Some (record { number = number; count = m }))) q) ∙ e))
    by true q zero at = let h : m < suc most = ltb-true m (suc most) q in let w : m ≡ n = cc in omega arith
    by true q (suc i) at = tail i (sym (ap (λ t. cond t (over number most ns) (Some (record { number = number; count = m }))) q) ∙ e) at

not_over : (number most : ℕ) (ns : List ℕ) (i n : ℕ) → over number most ns ≡ None → slice_get ns i ≡ Some n → n ≤ most
not_over number most [] i n e at = absurd (cc)
not_over number most (m ∷ ns) i n e at = counted number most m n ns e (λ j f at. not_over number most ns j n f at) i at

summed : (ns : List ℕ) (i : ℕ) → slice_index_or ns i 0 ≤ sum ns
summed ns i = elim (cases_lt i (length ns)) [
  | inl h ↦ get_or-le-sum_by (λ x. x) ns i 0 h
  | inr h ↦ let e : slice_index_or ns i 0 ≡ 0 = get_or_past ns i 0 h in omega arith
]

word_of_both : (xs ys : List ℕ) (a most : ℕ) → ((i : ℕ) → slice_index_or xs i 0 ≤ most) → ((i : ℕ) → slice_index_or ys i 0 ≤ most) → slice_index_or (xs ++ ys) a 0 ≤ most
word_of_both [] ys a most f g = g a
word_of_both (x ∷ xs) ys zero most f g = f zero
word_of_both (x ∷ xs) ys (suc a) most f g = word_of_both xs ys a most (λ i. f (suc i)) g

module _ (p : Program) (accepted : is_accepted p ≡ true) where
  suited : is_suited p ≡ true
  unfolding is_accepted
  suited = and_one (is_suited p) (is_none (limit_of p)) accepted

  limited : limit_of p ≡ None
  unfolding is_accepted
  limited = none_is (limit_of p) (and_two (is_suited p) (is_none (limit_of p)) accepted)

  both_all : (list_all (suits_function p) p.functions && list_all suits_global p.globals) ≡ true
  both_all = and_one (list_all (suits_function p) p.functions && list_all suits_global p.globals) (is_main (slice_get p.functions p.main)) suited

  pub global_suits : (i : ℕ) (v : GlobalVariable) → slice_get p.globals i ≡ Some v → suits_global v ≡ true
  global_suits i v at = all_at suits_global p.globals i v (and_two (list_all (suits_function p) p.functions) (list_all suits_global p.globals) both_all) at

  pub globals_suit : list_all suits_global p.globals ≡ true
  globals_suit = and_two (list_all (suits_function p) p.functions) (list_all suits_global p.globals) both_all

  pub main_suits : is_main (slice_get p.functions p.main) ≡ true
  main_suits = and_two (list_all (suits_function p) p.functions && list_all suits_global p.globals) (is_main (slice_get p.functions p.main)) suited

  pub function_suits : (i : ℕ) (f : Function) → slice_get p.functions i ≡ Some f → suits_function p f ≡ true
  function_suits i f at = all_at (suits_function p) p.functions i f (and_one (list_all (suits_function p) p.functions) (list_all suits_global p.globals) both_all) at

  abbrev whole : Function → Bool
  whole f = suits_code p f.gives false (in_force_at_start p f) f.body

  abbrev counts : Function → Bool
  counts f = at_most f.parameters f.scalars && nat_eq f.parameters (numbers_taken f)

  abbrev items : Function → Bool
  items f = are_all_from f.parameters (f.scalars - f.parameters) (scalars_of f.body) && (are_all_from (length p.globals + arrays_taken f) (length f.arrays) (arrays_of f.body) && list_all (nat_lt 0) f.arrays)

  pub body_suits : (i : ℕ) (f : Function) → slice_get p.functions i ≡ Some f → suits_code p f.gives false (in_force_at_start p f) f.body ≡ true
  body_suits i f at = and_one (whole f) (counts f) (and_one (whole f && counts f) (items f) (function_suits i f at))

  pub numbers_are : (i : ℕ) (f : Function) → slice_get p.functions i ≡ Some f → f.parameters ≡ numbers_taken f
  numbers_are i f at = eqb-true f.parameters (numbers_taken f) (and_two (at_most f.parameters f.scalars) (nat_eq f.parameters (numbers_taken f)) (and_two (whole f) (counts f) (and_one (whole f && counts f) (items f) (function_suits i f at))))

  both_limits : (over 6 8192 (map (λ f. sum f.arrays) p.functions) ≡ None) × (over 7 262144 (sum (map global_words p.globals) ∷ []) ≡ None)
  both_limits = fourth_and_fifth (over 3 256 (length p.functions ∷ [])) (over 4 8 (map (λ f. length f.takes) p.functions)) (over 5 4000 (map function_nodes p.functions)) (over 6 8192 (map (λ f. sum f.arrays) p.functions)) (over 7 262144 (sum (map global_words p.globals) ∷ [])) (over 8 4096 (flat_map (λ f. map (λ format. length format) (formats_of f.body)) p.functions)) limited

  pub array_limit : (i : ℕ) (f : Function) → slice_get p.functions i ≡ Some f → sum f.arrays ≤ 8192
  array_limit i f at = not_over 6 8192 (map (λ f. sum f.arrays) p.functions) i (sum f.arrays) both_limits.0 (slice_get-map (λ f. sum f.arrays) p.functions i ∙ ap (option_map (λ f. sum f.arrays)) at)

  pub global_limit : sum (map global_words p.globals) ≤ 262144
  global_limit = not_over 7 262144 (sum (map global_words p.globals) ∷ []) 0 (sum (map global_words p.globals)) both_limits.1 refl

  pub few_own : (i : ℕ) (f : Function) → slice_get p.functions i ≡ Some f → (k : ℕ) → slice_index_or f.arrays k 0 ≤ 262144
  few_own i f at k = let x = array_limit i f at in let s = summed f.arrays k in omega arith

  pub few_global : (k : ℕ) → slice_index_or (map global_words p.globals) k 0 ≤ 262144
  few_global k = let y = global_limit in let s = summed (map global_words p.globals) k in omega arith

pub few_both : (xs ys : List ℕ) → ((i : ℕ) → slice_index_or xs i 0 ≤ 262144) → ((i : ℕ) → slice_index_or ys i 0 ≤ 262144) → (a : ℕ) → slice_index_or (xs ++ ys) a 0 ≤ 262144
few_both xs ys f g a = word_of_both xs ys a 262144 f g

pub scalar_at : (gs : List GlobalVariable) (a : ℕ) → is_scalar (slice_get gs a) ≡ true → (slice_index_or (map global_words gs) a 0 ≡ 1) × (a < length gs)
scalar_at [] a e = absurd (cc)
scalar_at (ScalarGlobal z ∷ gs) zero e = (refl, omega arith)
scalar_at (ArrayGlobal n ∷ gs) zero e = absurd (cc)
scalar_at (g ∷ gs) (suc a) e = let h = scalar_at gs a e in (h.0, omega (arith, h.1))

pub named_in_force : (p : Program) (sc : Scope) (a : ℕ) → names_array p sc a ≡ true → InForce (length p.globals) sc a
named_in_force p sc a e = by (nat_lt a (length p.globals)) refl
  where
    by : (t : Bool) → nat_lt a (length p.globals) ≡ t → InForce (length p.globals) sc a
    by true q = inl (ltb-true a (length p.globals) q)
    by false q = inr (sym (ap (λ t. cond t (is_array (slice_get p.globals a)) (is_in a sc.arrays)) q) ∙ e)

pub in_below : (n x : ℕ) → is_in x (below n) ≡ true → x < n
in_below zero x i = absurd (cc)
in_below (suc n) x i = by (λ j. in_below n x j) (nat_eq x n) refl
  where
    by : (is_in x (below n) ≡ true → x < n) → (t : Bool) → nat_eq x n ≡ t → x < suc n
    by f true e = let q = eqb-true x n e in omega arith
    by f false e = let h = f (sym (ap (λ t. t || is_in x (below n)) e) ∙ i) in omega arith

-- lists

pub take_past : {A : Type 0} (d : A) (n : ℕ) (xs : List A) (p : ℕ) → n ≤ p → slice_index_or (take n xs) p d ≡ d
take_past d zero [] p h = refl
take_past d zero (x ∷ xs) p h = refl
take_past d (suc n) [] p h = refl
take_past d (suc n) (x ∷ xs) zero h = absurd (omega arith)
take_past d (suc n) (x ∷ xs) (suc p) h = take_past d n xs p (omega arith)

pub take_within : {A : Type 0} (d : A) (n : ℕ) (xs : List A) (p : ℕ) → p < n → slice_index_or (take n xs) p d ≡ slice_index_or xs p d
take_within d zero xs p h = absurd (omega arith)
take_within d (suc n) [] p h = refl
take_within d (suc n) (x ∷ xs) zero h = refl
take_within d (suc n) (x ∷ xs) (suc p) h = take_within d n xs p (omega arith)

pub front_item : {A : Type 0} (d : A) (xs ys : List A) (p : ℕ) → p < length xs → slice_index_or (xs ++ ys) p d ≡ slice_index_or xs p d
front_item d [] ys p h = absurd (omega arith)
front_item d (x ∷ xs) ys zero h = refl
front_item d (x ∷ xs) ys (suc p) h = front_item d xs ys p (omega arith)

pub back_item : {A : Type 0} (d : A) (xs ys : List A) (p : ℕ) → slice_index_or (xs ++ ys) (length xs + p) d ≡ slice_index_or ys p d
back_item d [] ys p = let e : 0 + p ≡ p = omega arith in ap (λ i. slice_index_or ys i d) e
back_item d (x ∷ xs) ys p = let e : suc (length xs) + p ≡ suc (length xs + p) = omega arith in ap (λ i. slice_index_or (x ∷ (xs ++ ys)) i d) e ∙ back_item d xs ys p

pub map_append : {A B : Type 0} (f : A → B) (xs ys : List A) → map f (xs ++ ys) ≡ map f xs ++ map f ys
map_append f [] ys = refl
map_append f (x ∷ xs) ys = ap (λ zs. f x ∷ zs) (map_append f xs ys)

pub take_all : {A : Type 0} (xs ys : List A) → take (length xs) (xs ++ ys) ≡ xs
take_all [] [] = refl
take_all [] (y ∷ ys) = refl
take_all (x ∷ xs) ys = ap (λ zs. x ∷ zs) (take_all xs ys)

pub drop_all : {A : Type 0} (xs ys : List A) → drop (length xs) (xs ++ ys) ≡ ys
drop_all [] ys = refl
drop_all (x ∷ xs) ys = drop_all xs ys

pub map_drop : {A B : Type 0} (f : A → B) (n : ℕ) (xs : List A) → map f (drop n xs) ≡ drop n (map f xs)
map_drop f zero [] = refl
map_drop f zero (x ∷ xs) = refl
map_drop f (suc n) [] = refl
map_drop f (suc n) (x ∷ xs) = map_drop f n xs

pub map_take : {A B : Type 0} (f : A → B) (n : ℕ) (xs : List A) → map f (take n xs) ≡ take n (map f xs)
map_take f zero [] = refl
map_take f zero (x ∷ xs) = refl
map_take f (suc n) [] = refl
map_take f (suc n) (x ∷ xs) = ap (λ zs. f x ∷ zs) (map_take f n xs)

-- numbers in rows
abbrev pub RowsFit : List (List ℤ) → Type 0
RowsFit xs = (p j : ℕ) → IsNumber (slice_index_or (slice_index_or xs p []) j (pos 0))

pub rows_append : (xs ys : List (List ℤ)) → RowsFit xs → RowsFit ys → RowsFit (xs ++ ys)
rows_append [] ys f g p j = g p j
rows_append (x ∷ xs) ys f g zero j = f zero j
rows_append (x ∷ xs) ys f g (suc p) j = rows_append xs ys (λ q k. f (suc q) k) g p j

pub rows_take : (n : ℕ) (xs : List (List ℤ)) → RowsFit xs → RowsFit (take n xs)
rows_take zero [] f p j = zero_fits
rows_take zero (x ∷ xs) f p j = zero_fits
rows_take (suc n) [] f p j = zero_fits
rows_take (suc n) (x ∷ xs) f zero j = f zero j
rows_take (suc n) (x ∷ xs) f (suc p) j = rows_take n xs (λ q k. f (suc q) k) p j

pub zeros_fit : (n j : ℕ) → IsNumber (slice_index_or (replicate n (pos 0)) j (pos 0))
zeros_fit zero j = zero_fits
zeros_fit (suc n) zero = zero_fits
zeros_fit (suc n) (suc j) = zeros_fit n j

pub rows_zero : (ns : List ℕ) → RowsFit (map (λ n. replicate n (pos 0)) ns)
rows_zero [] p j = zero_fits
rows_zero (n ∷ ns) zero j = zeros_fit n j
rows_zero (n ∷ ns) (suc p) j = rows_zero ns p j

pub length_replicate : {A : Type 0} (n : ℕ) (x : A) → length (replicate n x) ≡ n
length_replicate zero x = refl
length_replicate (suc n) x = ap suc (length_replicate n x)

pub lengths_replicate : {A : Type 0} (x : A) (ns : List ℕ) → map (λ z. length z) (map (λ n. replicate n x) ns) ≡ ns
lengths_replicate x [] = refl
lengths_replicate x (n ∷ ns) = ap (λ m. m ∷ map (λ z. length z) (map (λ n. replicate n x) ns)) (length_replicate n x) ∙ ap (λ ms. n ∷ ms) (lengths_replicate x ns)
