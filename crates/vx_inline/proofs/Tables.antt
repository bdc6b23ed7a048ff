-- The table of what values take tells it.
use Rattle.std.proofs.Common.{◌≡◌, inl, inr, ℕ, zero, suc, ◌+◌, ◌<◌, ◌≤◌, nat_lt, Bool, true, false, cond, ◌==◌, ◌&&◌, List, [], ◌∷◌, ◌++◌, length, map, slice_get, slice_index_or, Some, None, Ok, Err, get_or, refl, sym, ap, ◌∙◌, subst, arith, eq-eqb, eqb-true, ltb-true, ltb-false}
use Rattle.std.proofs.lemmas.Bool.{false≢true}
use Rattle.std.specs.Option.{unwrap_or}
use Rattle.std.specs.List.Sorted.{IsBinarySearchResult}
use Rattle.std.specs.Ordering.{nat_cmp}
use Rattle.std.proofs.lemmas.List.Sorted.{searched}
use Rattle.vx_flow.proofs.Ascending.{found_by_search}
use Rattle.vx_flow.proofs.ClosingSteps.{in_any}
use Rattle.vx_flow.proofs.IndexSteps.{at_or_after}
use Rattle.vx_flow.specs.declared.graph.Bank.{Bank}
use Rattle.vx_flow.specs.declared.graph.Bank.TheVariants.{General}
use Rattle.vx_flow.specs.declared.graph.Graph.{Graph}
use Rattle.vx_flow.specs.Effects.{IsIn}
use Rattle.vx_flow.specs.Rows.{Rising}
use Rattle.vx_flow.specs.Sound.{is_bank}
use Rattle.vx_flow.specs.Walk.{numbers}
use Rattle.vx_inline.specs.declared.by_bank.ByBank.{ByBank}
use Rattle.vx_inline.specs.Inlined.{Ascends, is_among, names, named, beside, bank_of, taken}
use Rattle.vx_inline.specs.Taking.{taken_by, value_at, Tells}
use Rattle.vx_inline.specs.Values.{of_bank}
use Rattle.vx_inline.proofs.Depth.{get_in}
use Rattle.vx_inline.proofs.Frees.{in_filtered, filter_ascends}

-- ---- ascending lists

ascends_rising : (xs : List ℕ) → Ascends xs → Rising xs
ascends_rising [] a i j x y l e f = absurd (cc)
ascends_rising (z ∷ zs) a i zero x y l e f = absurd (omega arith)
ascends_rising (z ∷ zs) a zero (suc j) x y l e f = let q : z ≡ x = cc in subst (λ w. w < y) q (a.0 y (get_in zs j y f))
ascends_rising (z ∷ zs) a (suc i) (suc j) x y l e f = ascends_rising zs a.1 i j x y (omega arith) e f

pub named_rises : (g : Graph) (values : ByBank) → ((bank : Bank) → of_bank values bank ≡ named g bank) → (bank : Bank) → Rising (of_bank values bank)
named_rises g values h bank =
    subst Rising (sym (h bank)) (ascends_rising (named g bank) (filter_ascends (λ v. is_bank bank (slice_get g.banks v) && is_among (names g) v) 0 (length g.banks)))

-- ---- what stands beside

pub beside_none : (xs ys : List ℕ) (v : ℕ) → (IsIn v xs → ⊥) → beside xs ys v ≡ v
beside_none [] ys v n = refl
beside_none (x ∷ xs) [] v n = refl
beside_none (x ∷ xs) (y ∷ ys) v n = by (v == x) refl (beside_none xs ys v (λ m. n (inr m)))
  where
    by : (t : Bool) → (v == x) ≡ t → beside xs ys v ≡ v → cond t y (beside xs ys v) ≡ v
    by true e k = absurd (n (inl (eqb-true v x e)))
    by false e k = k

rising_rest : (x : ℕ) (xs : List ℕ) → Rising (x ∷ xs) → Rising xs
rising_rest x xs r i j u v l e f = r (suc i) (suc j) u v (omega arith) e f

pub beside_found : (xs ys : List ℕ) (i v : ℕ) → Rising xs → slice_get xs i ≡ Some v → beside xs ys v ≡ unwrap_or (slice_get ys i) v
beside_found [] ys i v r e = absurd (cc)
beside_found (x ∷ xs) [] zero v r e = refl
beside_found (x ∷ xs) [] (suc i) v r e = refl
beside_found (x ∷ xs) (y ∷ ys) zero v r e = let q : x ≡ v = cc in ap (λ t. cond t y (beside xs ys v)) (eq-eqb v x (sym q))
beside_found (x ∷ xs) (y ∷ ys) (suc i) v r e = by (v == x) refl (beside_found xs ys i v (rising_rest x xs r) e)
  where
    by : (t : Bool) → (v == x) ≡ t → beside xs ys v ≡ unwrap_or (slice_get ys i) v → cond t y (beside xs ys v) ≡ unwrap_or (slice_get ys i) v
    by true h k = let l : x < v = r 0 (suc i) x v (omega arith) refl e in let q : v ≡ x = eqb-true v x h in absurd (omega (arith, l, q))
    by false h k = k

-- ---- tables by number

pub numbers_more : (b n : ℕ) → numbers b (suc n) ≡ numbers b n ++ (b + n) ∷ []
numbers_more b zero = let z : b ≡ b + 0 = omega arith in ap (λ k. k ∷ []) z
numbers_more b (suc n) = let z : b + 1 + n ≡ b + suc n = omega arith in ap (λ l. b ∷ l) (numbers_more (b + 1) n ∙ ap (λ k. numbers (b + 1) n ++ k ∷ []) z)

map_append : {A B : Type 0} (f : A → B) (xs : List A) (y : A) → map f (xs ++ y ∷ []) ≡ map f xs ++ f y ∷ []
map_append f [] y = refl
map_append f (x ∷ xs) y = ap (λ l. f x ∷ l) (map_append f xs y)

pub map_more : (f : ℕ → ℕ) (n : ℕ) → map f (numbers 0 (n + 1)) ≡ map f (numbers 0 n) ++ f n ∷ []
map_more f n =
    let a : suc n ≡ n + 1 = omega arith in
    let z : 0 + n ≡ n = omega arith in
    subst (λ k. map f (numbers 0 k) ≡ map f (numbers 0 n) ++ f n ∷ []) a (ap (map f) (numbers_more 0 n ∙ ap (λ k. numbers 0 n ++ k ∷ []) z) ∙ map_append f (numbers 0 n) n)

-- a table of what a function gives
read_there : (f : ℕ → ℕ) (b n v d : ℕ) → v < n → slice_index_or (map f (numbers b n)) v d ≡ f (b + v)
read_there f b zero v d l = absurd (omega arith)
read_there f b (suc n) zero d l = let z : b ≡ b + 0 = omega arith in ap f z
read_there f b (suc n) (suc v) d l = let z : b + 1 + v ≡ b + suc v = omega arith in read_there f (b + 1) n v d (omega arith) ∙ ap f z

read_past : (f : ℕ → ℕ) (b n v d : ℕ) → n ≤ v → slice_index_or (map f (numbers b n)) v d ≡ d
read_past f b zero zero d l = refl
read_past f b zero (suc v) d l = refl
read_past f b (suc n) zero d l = absurd (omega arith)
read_past f b (suc n) (suc v) d l = read_past f (b + 1) n v d (omega arith)

none_past : {A : Type 0} (xs : List A) (v : ℕ) → length xs ≤ v → slice_get xs v ≡ None
none_past [] zero l = refl
none_past [] (suc v) l = refl
none_past (x ∷ xs) zero l = absurd (omega arith)
none_past (x ∷ xs) (suc v) l = none_past xs v (omega arith)

numbers_below : (b n v : ℕ) → IsIn v (numbers b n) → v < b + n
numbers_below b zero v m = absurd m
numbers_below b (suc n) v (inl e) = omega (arith, e)
numbers_below b (suc n) v (inr m) = let l : v < b + 1 + n = numbers_below (b + 1) n v m in omega (arith, l)

module _ (g : Graph) (names_by free_by : ByBank) (free : Bank → List ℕ) (to : List ℕ) (n : (bank : Bank) → of_bank names_by bank ≡ named g bank) (f : (bank : Bank) → of_bank free_by bank ≡ free bank) (tells : Tells g.banks names_by free_by to) where
  taken_same : (bank : Bank) (v : ℕ) → beside (of_bank names_by bank) (of_bank free_by bank) v ≡ beside (named g bank) (free bank) v
  taken_same bank v = ap (λ l. beside l (of_bank free_by bank) v) (n bank) ∙ ap (λ l. beside (named g bank) l v) (f bank)

  unnamed : (v : ℕ) → length g.banks ≤ v → IsIn v (named g General) → ⊥
  unnamed v l m =
      let k : v < 0 + length g.banks = numbers_below 0 (length g.banks) v (in_filtered (λ u. is_bank General (slice_get g.banks u) && is_among (names g) u) (numbers 0 (length g.banks)) v m).0 in
      omega (arith, k, l)

  pub value_told : (v : ℕ) → value_at to v ≡ taken g free v
  value_told v = ap (λ l. slice_index_or l v v) tells ∙ by (nat_lt v (length g.banks)) refl
    where
      by : (t : Bool) → nat_lt v (length g.banks) ≡ t → slice_index_or (map (taken_by g.banks names_by free_by) (numbers 0 (length g.banks))) v v ≡ taken g free v
      by true e =
          let z : 0 + v ≡ v = omega arith in
          read_there (taken_by g.banks names_by free_by) 0 (length g.banks) v v (ltb-true v (length g.banks) e) ∙ ap (taken_by g.banks names_by free_by) z ∙ taken_same (bank_of (slice_get g.banks v)) v
      by false e =
          let l : length g.banks ≤ v = ltb-false v (length g.banks) e in
          read_past (taken_by g.banks names_by free_by) 0 (length g.banks) v v l ∙ sym (ap (λ o. beside (named g (bank_of o)) (free (bank_of o)) v) (none_past g.banks v l) ∙ beside_none (named g General) (free General) v (unnamed v l))

pub told_more : (f : ℕ → ℕ) (to new : List ℕ) (n : ℕ) → to ≡ map f (numbers 0 n) → new ≡ to ++ f n ∷ [] → new ≡ map f (numbers 0 (n + 1))
told_more f to new n e q = q ∙ ap (λ l. l ++ f n ∷ []) e ∙ sym (map_more f n)

-- ---- what a binary search finds

got_there : (xs : List ℕ) (i : ℕ) → i < length xs → slice_get xs i ≡ Some (get_or xs i 0)
got_there [] i h = absurd (omega arith)
got_there (x ∷ xs) zero h = refl
got_there (x ∷ xs) (suc i) h = got_there xs i (omega arith)

never_falls : (xs : List ℕ) → Rising xs → (i j : ℕ) → i ≤ j → j < length xs → get_or xs i 0 ≤ get_or xs j 0
never_falls xs s i j h k = elim (at_or_after i j h) [
  | inl e ↦ let q : get_or xs i 0 ≡ get_or xs j 0 = ap (λ n. get_or xs n 0) e in omega (arith, q)
  | inr l ↦ let p : i < length xs = omega (arith, l, k) in let a : i < j = omega (arith, l) in
      let q : get_or xs i 0 < get_or xs j 0 = s i j (get_or xs i 0) (get_or xs j 0) a (got_there xs i p) (got_there xs j k) in omega (arith, q)
]

found_there : (xs : List ℕ) (v i : ℕ) → Rising xs → IsBinarySearchResult (λ y. nat_cmp y v) xs (Ok i) → slice_get xs i ≡ Some v
found_there xs v i s h = let w : (i < length xs) × (get_or xs i 0 ≡ v) = searched xs v (Ok i) h (never_falls xs s) in got_there xs i w.0 ∙ ap Some w.1

pub beside_some : (xs ys : List ℕ) (v i y : ℕ) → Rising xs → IsBinarySearchResult (λ y. nat_cmp y v) xs (Ok i) → slice_get ys i ≡ Some y → y ≡ beside xs ys v
beside_some xs ys v i y s h e = sym (beside_found xs ys i v s (found_there xs v i s h) ∙ ap (λ o. unwrap_or o v) e)

pub beside_past : (xs ys : List ℕ) (v i : ℕ) → Rising xs → IsBinarySearchResult (λ y. nat_cmp y v) xs (Ok i) → slice_get ys i ≡ None → v ≡ beside xs ys v
beside_past xs ys v i s h e = sym (beside_found xs ys i v s (found_there xs v i s h) ∙ ap (λ o. unwrap_or o v) e)

pub beside_missed : (xs ys : List ℕ) (v i : ℕ) → Rising xs → IsBinarySearchResult (λ y. nat_cmp y v) xs (Err i) → v ≡ beside xs ys v
beside_missed xs ys v i s h = sym (beside_none xs ys v (λ m. false≢true (found_by_search xs v (Err i) s h ∙ in_any v xs m)))
