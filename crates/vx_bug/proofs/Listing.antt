-- Each place is listed once, and is a place of the trace.
use Rattle.std.proofs.Common.{◌≡◌, ◌<◌, ◌≤◌, ◌⊎◌, inl, inr, ⊎_elim, ◌+◌, ◌||◌, refl, sym, ◌∙◌, ap, arith, subst, Bool, true, false, nat_eq, if◌then◌else◌, ℕ, zero, suc, Option, Some, None, List, [], ◌∷◌, ◌++◌, length, reverse, take, get_or, slice_get, is_some, ltb, ltb-true, ltb-false, IfSome, IfNone, Bor}
use Rattle.std.specs.List.{list_any, flat_map}
use Rattle.std.proofs.lemmas.Bool.{eq-eqb, true≢false}
use Rattle.std.proofs.lemmas.List.{reverse-append, take_all}
use Rattle.std.proofs.lemmas.List.Folds.{list_any_more, list_any_at}
use Rattle.std.proofs.lemmas.Option.{slice_get-get_or, slice_get_past}
use Rattle.vx_flow.specs.declared.trace.TraceOp.{TraceOp}
use Rattle.vx_flow.specs.declared.trace.Trace.{Trace}
use Rattle.vx_flow.specs.Effects.{IsIn}
use Rattle.vx_flow.specs.Walk.{numbers}
use Rattle.vx_linear.specs.Writers.{writer}
use Rattle.vx_linear.proofs.Writing.{writer_below}
use Rattle.vx_dep.specs.Delays.{reads_of}
use Rattle.vx_bug.specs.Clusters.{some_of, writers_of, visit_each, visit, listed}
use Rattle.vx_bug.specs.Choices.{Apart}
use Rattle.vx_bug.proofs.Best.{in_numbers}

-- members

pub in_append : {A : Type 0} (x : A) (xs ys : List A) → IsIn x (xs ++ ys) → IsIn x xs ⊎ IsIn x ys
in_append x [] ys h = inr h
in_append x (y ∷ xs) ys h = ⊎_elim (λ e. inl (inl e)) (λ k. ⊎_elim (λ a. inl (inr a)) (λ b. inr b) (in_append x xs ys k)) h

pub append_in_left : {A : Type 0} (x : A) (xs ys : List A) → IsIn x xs → IsIn x (xs ++ ys)
append_in_left x [] ys h = absurd h
append_in_left x (y ∷ xs) ys h = ⊎_elim (λ e. inl e) (λ k. inr (append_in_left x xs ys k)) h

pub append_in_right : {A : Type 0} (x : A) (xs ys : List A) → IsIn x ys → IsIn x (xs ++ ys)
append_in_right x [] ys h = h
append_in_right x (y ∷ xs) ys h = inr (append_in_right x xs ys h)

pub any_in : (x : ℕ) (xs : List ℕ) → IsIn x xs → list_any (nat_eq x) xs ≡ true
any_in x [] h = absurd h
any_in x (y ∷ ys) h = by (nat_eq x y) refl (any_in x ys)
  where
    by : (b : Bool) → nat_eq x y ≡ b → (IsIn x ys → list_any (nat_eq x) ys ≡ true) → (nat_eq x y || list_any (nat_eq x) ys) ≡ true
    by true e more = ap (λ b. b || list_any (nat_eq x) ys) e
    by false e more = ap (λ b. b || list_any (nat_eq x) ys) e ∙ ⊎_elim (λ q. absurd (true≢false (sym (eq-eqb x y q) ∙ e))) more h

reverse_in : (x : ℕ) (xs : List ℕ) → IsIn x (reverse xs) → IsIn x xs
reverse_in x [] h = h
reverse_in x (y ∷ ys) h =
    let e : reverse (y ∷ ys) ≡ reverse ys ++ y ∷ [] = reverse-append (y ∷ []) ys in
    ⊎_elim (λ a. inr (reverse_in x ys a)) (λ b. ⊎_elim (λ q. inl q) (λ n. absurd n) b) (in_append x (reverse ys) (y ∷ []) (subst (λ zs. IsIn x zs) e h))

-- places that are apart

apart_end : (xs : List ℕ) (y : ℕ) → Apart xs → (IsIn y xs → ⊥) → Apart (xs ++ y ∷ [])
apart_end [] y a h = ((λ k. k), tt)
apart_end (x ∷ xs) y a h =
    ((λ k. ⊎_elim (λ i. a.0 i) (λ e. ⊎_elim (λ q. h (inl (sym q))) (λ n. n) e) (in_append x xs (y ∷ []) k)), apart_end xs y a.1 (λ i. h (inr i)))

at_in : (xs : List ℕ) (k : ℕ) → k < length xs → IsIn (get_or xs k 0) xs
at_in [] k h = absurd (omega arith)
at_in (x ∷ xs) zero h = inl refl
at_in (x ∷ xs) (suc k) h = inr (at_in xs k (omega (arith, h)))

pub place_in : (xs : List ℕ) (k x : ℕ) → k < length xs → x ≡ get_or xs k 0 → IsIn x xs
place_in xs k x h e = subst (λ y. IsIn y xs) (sym e) (at_in xs k h)

at_new : (xs : List ℕ) (k : ℕ) → Apart xs → k < length xs → IsIn (get_or xs k 0) (take k xs) → ⊥
at_new [] k a h i = omega arith
at_new (x ∷ xs) zero a h i = i
at_new (x ∷ xs) (suc k) a h i =
    let l : k < length xs = omega (arith, h) in
    ⊎_elim (λ e. a.0 (subst (λ y. IsIn y xs) e (at_in xs k l))) (λ j. at_new xs k a.1 l j) i

pub place_new : (xs : List ℕ) (k x : ℕ) → Apart xs → k < length xs → x ≡ get_or xs k 0 → IsIn x (take k xs) → ⊥
place_new xs k x a h e i = at_new xs k a h (subst (λ y. IsIn y (take k xs)) e i)

-- visits

abbrev IsGood : (ℕ → List ℕ → List ℕ) → Type 0
IsGood f = (i : ℕ) (l : List ℕ) → (Apart l → Apart (f i l)) × ((x : ℕ) → IsIn x (f i l) → IsIn x l ⊎ (x ≤ i))

each_apart : (f : ℕ → List ℕ → List ℕ) → IsGood f → (is l : List ℕ) → Apart l → Apart (visit_each f is l)
each_apart f good [] l a = a
each_apart f good (i ∷ is) l a = each_apart f good is (f i l) ((good i l).0 a)

each_in : (f : ℕ → List ℕ → List ℕ) → IsGood f → (is l : List ℕ) (n : ℕ) → ((i : ℕ) → IsIn i is → i < n) → (x : ℕ) → IsIn x (visit_each f is l) → IsIn x l ⊎ (x < n)
each_in f good [] l n below x h = inl h
each_in f good (i ∷ is) l n below x h = ⊎_elim
    (λ k. ⊎_elim (λ a. inl a) (λ b. let c : i < n = below i (inl refl) in let d : x < n = omega (arith, b, c) in inr d) ((good i l).1 x k))
    (λ k. inr k)
    (each_in f good is (f i l) n (λ j q. below j (inr q)) x h)

some_in : (x : ℕ) (o : Option ℕ) → IsIn x (some_of o) → o ≡ Some x
some_in x None h = absurd h
some_in x (Some y) h = ⊎_elim (λ e. ap Some (sym e)) (λ n. absurd n) h

writer_in : (t : Trace) (i : ℕ) (vs : List ℕ) (x : ℕ) → IsIn x (flat_map (λ v. some_of (writer t.ops i v)) vs) → x < i
writer_in t i [] x h = absurd h
writer_in t i (v ∷ vs) x h = ⊎_elim (λ a. writer_below t.ops i v x (some_in x (writer t.ops i v) a)) (λ b. writer_in t i vs x b) (in_append x (some_of (writer t.ops i v)) (flat_map (λ u. some_of (writer t.ops i u)) vs) h)

writers_in : (t : Trace) (i : ℕ) (op : Option TraceOp) (x : ℕ) → IsIn x (writers_of t i op) → x < i
writers_in t i None x h = absurd h
writers_in t i (Some op) x h = writer_in t i (reads_of op) x h

good_none : (t : Trace) → IsGood (visit zero t)
unfolding visit
good_none t i l = ((λ a. a), λ x h. inl h)

good_more : (t : Trace) (d : ℕ) → IsGood (visit d t) → IsGood (visit (suc d) t)
unfolding visit
good_more t d good i l = by (list_any (nat_eq i) l) refl
  where
    inner : List ℕ
    inner = visit_each (visit d t) (writers_of t i (slice_get t.ops i)) l

    inner_in : (x : ℕ) → IsIn x inner → IsIn x l ⊎ (x < i)
    inner_in x h = each_in (visit d t) good (writers_of t i (slice_get t.ops i)) l i (λ j q. writers_in t i (slice_get t.ops i) j q) x h

    new : list_any (nat_eq i) l ≡ false → IsIn i inner → ⊥
    new e h = ⊎_elim (λ a. true≢false (sym (any_in i l a) ∙ e)) (λ b. omega (arith, b)) (inner_in i h)

    apart : list_any (nat_eq i) l ≡ false → Apart l → Apart (inner ++ i ∷ [])
    apart e a = apart_end inner i (each_apart (visit d t) good (writers_of t i (slice_get t.ops i)) l a) (new e)

    within : (x : ℕ) → IsIn x (inner ++ i ∷ []) → IsIn x l ⊎ (x ≤ i)
    within x h = ⊎_elim
        (λ a. ⊎_elim (λ b. inl b) (λ b. let c : x ≤ i = omega (arith, b) in inr c) (inner_in x a))
        (λ a. ⊎_elim (λ e. let c : x ≤ i = omega (arith, e) in inr c) (λ n. absurd n) a)
        (in_append x inner (i ∷ []) h)

    by : (b : Bool) → list_any (nat_eq i) l ≡ b → (Apart l → Apart (if b then l else inner ++ i ∷ [])) × ((x : ℕ) → IsIn x (if b then l else inner ++ i ∷ []) → IsIn x l ⊎ (x ≤ i))
    by true e = ((λ a. a), λ x h. inl h)
    by false e = (apart e, within)

good : (t : Trace) (d : ℕ) → IsGood (visit d t)
good t zero = good_none t
good t (suc d) = good_more t d (good t d)

pub listed_apart : (t : Trace) → Apart (listed t)
listed_apart t = each_apart (visit (suc (length t.ops)) t) (good t (suc (length t.ops))) (reverse (numbers 0 (length t.ops))) [] tt

pub listed_below : (t : Trace) (i : ℕ) → IsIn i (listed t) → i < length t.ops
listed_below t i h = ⊎_elim (λ n. absurd n) (λ k. k)
    (each_in (visit (suc (length t.ops)) t) (good t (suc (length t.ops))) (reverse (numbers 0 (length t.ops))) [] (length t.ops)
    (λ j q. let r = in_numbers 0 (length t.ops) j (reverse_in j (numbers 0 (length t.ops)) q) in let b = r.1 in omega (arith, b)) i h)

-- a list without a first item
pub nothing_left : {A : Type 0} (xs : List A) → length xs ≡ 0 → xs ≡ []
nothing_left [] h = refl
nothing_left (x ∷ xs) h = absurd (omega arith)

-- what a look into a list gives

pub looked_up : {A : Type 0} (xs : List A) (i : ℕ) (r : Option (Bor A)) → is_some r ≡ ltb i (length xs) → IfSome r (λ x. x.now ≡ get_or xs i x.now) → IfSome r (λ x. slice_get xs i ≡ Some x.now)
looked_up xs i (Some x) l e = slice_get-get_or xs i x.now (ltb-true _ _ (sym l)) ∙ ap Some (sym e)
looked_up xs i None l e = tt

pub none_found : {A : Type 0} (xs : List A) (i : ℕ) (r : Option (Bor A)) → is_some r ≡ ltb i (length xs) → IfNone r (slice_get xs i ≡ None)
none_found xs i (Some x) l = tt
none_found xs i None l = slice_get_past xs i (ltb-false _ _ (sym l))

-- whether one item of those so far passes

module _ {A : Type 0} (p : A → Bool) (xs : List A) (i : ℕ) where
  pub none_more : (d : A) → i < length xs → list_any p (take i xs) ≡ false → p (get_or xs i d) ≡ false → list_any p (take (i + 1) xs) ≡ false
  none_more d inside so none = list_any_more p xs i d inside ∙ ap (λ b. b || p (get_or xs i d)) so ∙ none

  pub one_passes : (d : A) → i < length xs → p (get_or xs i d) ≡ true → true ≡ list_any p xs
  one_passes d inside one = sym (list_any_at p xs i d inside one)

  pub none_passes : length xs ≤ i → list_any p (take i xs) ≡ false → false ≡ list_any p xs
  none_passes past so = sym so ∙ ap (list_any p) (take_all i xs past)
