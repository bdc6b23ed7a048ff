-- The first of those that are left in order comes before all others without a word.
use Rattle.std.proofs.Common.{◌≡◌, ℕ, zero, suc, ◌<◌, ◌≤◌, ◌⊎◌, inl, inr, ◌+◌, Bool, cond, true, false, ◌&&◌, nat_lt, nat_eq, All, IsPermutation, List, [], ◌∷◌, ◌++◌, Option, Some, None, drop, length, slice_index_or, slice_set, sym, ◌∙◌, refl, ap, subst, count_by, arith}
use Rattle.std.proofs.lemmas.Bool.{true≢false, and_parts, and_from, and_right, ltb-true, lt-ltb, eqb-true, eq-eqb, ne_eqb, cases_order, cases_eq}
use Rattle.std.proofs.lemmas.List.{get_or-set_same, get_or-set_other, length-set}
use Rattle.std.proofs.lemmas.List.Sorted.{All-permutation, sum_by-IsPermutation}
use Rattle.std.proofs.lemmas.Option.{none-some}
use Rattle.vx_isa.proofs.Lists.{count_by-append, count_by-cons}
use Rattle.vx_sched.specs.declared.height_order.Ranked.{Ranked}
use Rattle.vx_sched.specs.Placement.{comes_before}
use Rattle.vx_sched.specs.Filling.{word_in, is_without, AreWithout, IsNext}
use Rattle.vx_sched.specs.Ranking.{rank_of, IsRanked, is_of, AreRanked, AreSorted, AreLeft, first_of}
use Rattle.vx_sched.proofs.Order.{before_is}

not_less : (x y : ℕ) → y ≤ x → nat_lt x y ≡ false
not_less x y l = by (nat_lt x y) refl
  where
    by : (b : Bool) → nat_lt x y ≡ b → nat_lt x y ≡ false
    by false e = e
    by true e = let h = ltb-true x y e in absurd (omega (arith, h, l))

abbrev count_one : Bool → ℕ
count_one b = cond b 1 0

-- one more place

counts_on : (k p : ℕ) → count_one (nat_lt p k) + count_one (nat_eq k p) ≡ count_one (nat_lt p (k + 1))
counts_on k p = by (cases_order p k)
  where
    all : (a b c : Bool) → nat_lt p k ≡ a → nat_eq k p ≡ b → nat_lt p (k + 1) ≡ c → count_one a + count_one b ≡ count_one c → count_one (nat_lt p k) + count_one (nat_eq k p) ≡ count_one (nat_lt p (k + 1))
    all a b c e f g h =
        let x : count_one (nat_lt p k) ≡ count_one a = ap count_one e in
        let y : count_one (nat_eq k p) ≡ count_one b = ap count_one f in
        let z : count_one (nat_lt p (k + 1)) ≡ count_one c = ap count_one g in
        omega (arith, x, y, z, h)

    by : (p ≡ k) ⊎ ((p < k) ⊎ (k < p)) → count_one (nat_lt p k) + count_one (nat_eq k p) ≡ count_one (nat_lt p (k + 1))
    by (inl same) = all false true true (not_less p k (omega (arith, same))) (eq-eqb k p (sym same)) (lt-ltb p (k + 1) (omega (arith, same))) refl
    by (inr (inl less)) = all true false true (lt-ltb p k less) (ne_eqb k p (λ e. let f : k ≡ p = e in absurd (omega (arith, f, less)))) (lt-ltb p (k + 1) (omega (arith, less))) refl
    by (inr (inr more)) = all false false false (not_less p k (omega (arith, more))) (ne_eqb k p (λ e. let f : k ≡ p = e in absurd (omega (arith, f, more)))) (not_less p (k + 1) (omega (arith, more))) refl

all_push : {X : Type 0} (P : X → Type 0) (xs : List X) (x : X) → All P xs → P x → All P (xs ++ x ∷ [])
all_push P [] x all this zero d l = this
all_push P [] x all this (suc k) d l = absurd (omega (arith, l))
all_push P (y ∷ ys) x all this zero d l = all zero d (omega arith)
all_push P (y ∷ ys) x all this (suc k) d l = all_push P ys x (λ i e m. all (suc i) e (omega (arith, m))) this k d (omega (arith, l))

module _ (h : ℕ → ℕ) where
  pub none_ranked : (all : List Ranked) → all ≡ [] → AreRanked h 0 all
  none_ranked all e = subst (AreRanked h 0) (sym e) (record {
    ranks = λ k d l. absurd (omega (arith, l));
    once = λ p. sym (ap count_one (not_less p 0 (omega arith)));
  })

  pub one_ranked : (k : ℕ) (all : List Ranked) (r : Ranked) → AreRanked h k all → r.place ≡ k → IsRanked h r → AreRanked h (k + 1) (all ++ r ∷ [])
  one_ranked k all r so e is = record {
    ranks = all_push (IsRanked h) all r so.ranks is;
    once = λ p.
        let both = count_by-append (is_of p) all (r ∷ []) in
        let one = count_by-cons (is_of p) r [] in
        let here : count_one (is_of p r) ≡ count_one (nat_eq k p) = ap (λ x. count_one (nat_eq x p)) e in
        let before = so.once p in
        let after = counts_on k p in
        omega (arith, both, one, here, before, after);
  }

  -- sorted, they are the same places

  pub sorted_ranked : (n : ℕ) (all order : List Ranked) → IsPermutation all order → AreRanked h n all → AreRanked h n order
  sorted_ranked n all order same so = record {
    ranks = All-permutation (IsRanked h) all order same so.ranks;
    once = λ p. sum_by-IsPermutation _ all order same ∙ so.once p;
  }

  -- none has a word
  pub all_left : (n : ℕ) (words : List (Option ℕ)) (order : List Ranked) → AreWithout n words → AreRanked h n order → AreSorted order → AreLeft h words order
  all_left n words order without so sorted = record {
    ranks = so.ranks;
    once = λ p. so.once p ∙ ap (λ k. count_one (nat_lt p k)) (sym without.each) ∙ ap count_one (sym (and_yes (nat_lt p (length words)) _ (ap is_without (without.without p))));
    sorted = sorted;
  }
    where
      and_yes : (a b : Bool) → b ≡ true → (a && b) ≡ a
      and_yes true b e = e
      and_yes false b e = refl

  -- who is next

  found : (p : ℕ) (xs : List Ranked) (d : Ranked) → 0 < count_by (is_of p) xs → (k : ℕ) × (k < length xs) × ((slice_index_or xs k d).place ≡ p)
  found p [] d e = absurd (omega (arith, e))
  found p (x ∷ xs) d e = by (nat_eq x.place p) refl (found p xs d)
    where
      by : (b : Bool) → nat_eq x.place p ≡ b → (0 < count_by (is_of p) xs → (k : ℕ) × (k < length xs) × ((slice_index_or xs k d).place ≡ p)) → (k : ℕ) × (k < suc (length xs)) × ((slice_index_or (x ∷ xs) k d).place ≡ p)
      by true f more = (0, (omega arith), eqb-true x.place p f)
      by false f more =
          let cons = count_by-cons (is_of p) x xs in
          let none : count_one (is_of p x) ≡ 0 = ap count_one f in
          let r = more (omega (arith, cons, none, e)) in
          let l = r.1 in
          (suc r.0, (omega (arith, l)), r.2)

  lower_rank : (ho hp o p : ℕ) → ho < 4294967296 → hp < 4294967296 → o < 4294967296 → p < 4294967296 → rank_of ho o ≤ rank_of hp p → (p ≡ o) ⊎ ((hp < ho) ⊎ ((ho ≡ hp) × (o < p)))
  lower_rank ho hp o p a b c d l = by (cases_order ho hp) (cases_order o p)
    where
      by : (ho ≡ hp) ⊎ ((ho < hp) ⊎ (hp < ho)) → (o ≡ p) ⊎ ((o < p) ⊎ (p < o)) → (p ≡ o) ⊎ ((hp < ho) ⊎ ((ho ≡ hp) × (o < p)))
      by any (inl same) = inl (sym same)
      by (inl level) (inr (inl less)) = inr (inr (level, less))
      by (inl level) (inr (inr more)) = absurd (omega (arith, level, more, l))
      by (inr (inl lower)) (inr places) = absurd (omega (arith, a, b, c, d, lower, l))
      by (inr (inr higher)) (inr places) = inr (inl higher)

  none_of : (o : Option ℕ) → is_without o ≡ true → o ≡ None
  none_of None e = refl
  none_of (Some w) e = absurd (true≢false (sym e))

  is_here : (words : List (Option ℕ)) (left : List Ranked) (p : ℕ) → AreLeft h words left → p < length words → word_in words p ≡ None → count_by (is_of p) left ≡ 1
  is_here words left p so inside e = so.once p ∙ ap count_one (and_from (nat_lt p (length words)) (is_without (word_in words p)) (lt-ltb p (length words) inside) (ap is_without e))

  -- the first is there once, inside, and has no word
  record IsFree (words : List (Option ℕ)) (r : Ranked) (rest : List Ranked) : Type 0 where
    inside : r.place < length words
    without : word_in words r.place ≡ None
    no_more : count_by (is_of r.place) rest ≡ 0

  first_free : (words : List (Option ℕ)) (r : Ranked) (rest : List Ranked) → AreLeft h words (r ∷ rest) → IsFree words r rest
  first_free words r rest so = by (nat_lt r.place (length words) && is_without (word_in words r.place)) refl
    where
      cons : count_by (is_of r.place) (r ∷ rest) ≡ 1 + count_by (is_of r.place) rest
      cons =
          let one = count_by-cons (is_of r.place) r rest in
          let here : count_one (is_of r.place r) ≡ 1 = ap count_one (eq-eqb r.place r.place refl) in
          omega (arith, one, here)

      by : (b : Bool) → (nat_lt r.place (length words) && is_without (word_in words r.place)) ≡ b → IsFree words r rest
      by false e =
          let all = so.once r.place in
          let none : count_one (nat_lt r.place (length words) && is_without (word_in words r.place)) ≡ 0 = ap count_one e in
          let more = cons in
          absurd (omega (arith, all, none, more))
      by true e =
          let parts = and_parts (nat_lt r.place (length words)) (is_without (word_in words r.place)) e in
          let all = so.once r.place in
          let one : count_one (nat_lt r.place (length words) && is_without (word_in words r.place)) ≡ 1 = ap count_one e in
          let more = cons in
          record { inside = ltb-true r.place (length words) parts.0; without = none_of _ parts.1; no_more = omega (arith, all, one, more) }

  pub first_next : (words : List (Option ℕ)) (left : List Ranked) → AreLeft h words left → IsNext h words (length words) (first_of left)
  first_next words [] so = λ p inside e. let one = is_here words [] p so inside e in absurd (omega (arith, one))
  first_next words (r ∷ rest) so = ((first_free words r rest so).inside, (first_free words r rest so).without, others)
    where
      others : (p : ℕ) → p < length words → word_in words p ≡ None → (p ≡ r.place) ⊎ (comes_before h r.place p ≡ true)
      others p inside e = by (found p (r ∷ rest) r (let one = is_here words (r ∷ rest) p so inside e in omega (arith, one)))
        where
          told : (p ≡ r.place) ⊎ ((h p < h r.place) ⊎ ((h r.place ≡ h p) × (r.place < p))) → (p ≡ r.place) ⊎ (comes_before h r.place p ≡ true)
          told (inl same) = inl same
          told (inr before) = inr (before_is h r.place p before)

          by : (k : ℕ) × (k < suc (length rest)) × ((slice_index_or (r ∷ rest) k r).place ≡ p) → (p ≡ r.place) ⊎ (comes_before h r.place p ≡ true)
          by (k, l, same) =
              let x : Ranked = slice_index_or (r ∷ rest) k r in
              let one : IsRanked h r = so.ranks 0 r (omega arith) in
              let other : IsRanked h x = so.ranks k r l in
              let sorted : r.rank ≤ x.rank = so.sorted 0 k r (omega arith) l in
              let a = one.is in
              let b = other.is in
              let c : x.place ≡ p = same in
              let e = lower_rank (h r.place) (h x.place) r.place x.place one.low other.low one.few other.few (omega (arith, a, b, sorted)) in
              told (subst (λ z. (z ≡ r.place) ⊎ ((h z < h r.place) ⊎ ((h r.place ≡ h z) × (r.place < z)))) c e)

  -- once the first has a word

  pub rest_left : (words : List (Option ℕ)) (left : List Ranked) (place w : ℕ) → AreLeft h words left → Some place ≡ first_of left → AreLeft h (slice_set words place (Some w)) (drop 1 left)
  rest_left words [] place w so e = absurd cc
  rest_left words (r ∷ rest) place w so e = subst (λ x. AreLeft h (slice_set words x (Some w)) rest) (sym same) (record {
    ranks = λ k d l. so.ranks (suc k) d (omega (arith, l));
    once = λ p. by p (cases_eq p r.place);
    sorted = λ i j d a b. so.sorted (suc i) (suc j) d (omega (arith, a)) (omega (arith, b));
  })
    where
      same : place ≡ r.place
      same = cc

      long : length (slice_set words r.place (Some w)) ≡ length words
      long = length-set words r.place (Some w)

      by : (p : ℕ) → (p ≡ r.place) ⊎ (p ≡ r.place → ⊥) → count_by (is_of p) rest ≡ count_one (nat_lt p (length (slice_set words r.place (Some w))) && is_without (word_in (slice_set words r.place (Some w)) p))
      by p (inl here) =
          let free = first_free words r rest so in
          let given : is_without (word_in (slice_set words r.place (Some w)) p) ≡ false = ap (λ x. is_without (word_in (slice_set words r.place (Some w)) x)) here ∙ ap is_without (get_or-set_same words r.place (Some w) None free.inside) in
          ap (λ x. count_by (is_of x) rest) here ∙ free.no_more ∙ sym (ap count_one (and_right (nat_lt p (length (slice_set words r.place (Some w)))) _ given))
      by p (inr other) =
          let cons = count_by-cons (is_of p) r rest in
          let none : count_one (is_of p r) ≡ 0 = ap count_one (ne_eqb r.place p (λ x. other (sym x))) in
          let all = so.once p in
          let less : count_by (is_of p) rest ≡ count_one (nat_lt p (length words) && is_without (word_in words p)) = omega (arith, cons, none, all) in
          less
          ∙ ap (λ k. count_one (nat_lt p k && is_without (word_in words p))) (sym long)
          ∙ ap (λ x. count_one (nat_lt p (length (slice_set words r.place (Some w))) && is_without x)) (sym (get_or-set_other words r.place p (Some w) None other))

pub one_fewer : (left : List Ranked) (place : ℕ) → Some place ≡ first_of left → length (drop 1 left) < length left
one_fewer [] place e = absurd cc
one_fewer (r ∷ rest) place e = omega arith

-- where one comes first, fewer stand behind it
pub fewer : (left : List Ranked) (place : ℕ) → Some place ≡ first_of left → length (drop 1 left) < length left
fewer [] place e = absurd (none-some place (sym e))
fewer (x ∷ xs) place e = omega arith
