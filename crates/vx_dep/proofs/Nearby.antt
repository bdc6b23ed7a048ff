-- What is listed by values and kinds has all that is near to a lower operation; behind the others it has no delay.
use Rattle.std.proofs.Common.{◌≡◌, ◌≤◌, ◌⊎◌, inl, inr, ◌+◌, ◌%◌, ℕ, refl, sym, ◌∙◌, arith, subst, Bool, true, false, not, ◌&&◌, ◌||◌, nat_eq, Some, slice_get, length, OnOk, IfOk, Result, Ok, Err, List, [], ◌∷◌, ◌++◌}
use Rattle.std.proofs.lemmas.Bool.{false≢true, true≢false, eqb-true, eq-eqb}
use Rattle.vx_flow.specs.Effects.{IsIn}
use Rattle.vx_flow.proofs.Members.{in_left, in_last}
use Rattle.vx_dep.specs.declared.keys.Key.{Key}
use Rattle.vx_dep.specs.declared.links.Link.{Link}
use Rattle.vx_dep.specs.declared.mode.Mode.{Mode}
use Rattle.vx_dep.specs.declared.near.Near.{Near}
use Rattle.vx_dep.specs.Keys.{is_read, share_value, access_both, are_apart}
use Rattle.vx_dep.specs.Links.{OnChain}
use Rattle.vx_dep.specs.Chains.{IsOn}
use Rattle.vx_dep.specs.Near.{IsNoted, by_rows, is_near, AreCollected, WritersCollected, KindsCollected, AllCollected}
use Rattle.vx_dep.specs.Rows.{is_barred}
use Rattle.vx_dep.proofs.Linked.{first_or_before, none_on}
use Rattle.vx_dep.proofs.Apart.{none_of}

-- what a call in tail position ensures
pub ok_along : {A E P Q : Type 0} (r : Result A E) → (P → Q) → OnOk r P → OnOk r Q
ok_along (Ok x) f h = f h
ok_along (Err e) f h = h

pub ok_always : {A E P : Type 0} (r : Result A E) → P → OnOk r P
ok_always (Ok x) p = p
ok_always (Err e) p = tt

pub ok_by_two : {A E P Q R : Type 0} (r : Result A E) → (P → Q → R) → IfOk r (λ _. P) → IfOk r (λ _. Q) → OnOk r R
ok_by_two (Ok x) f p q = f p q
ok_by_two (Err e) f p q = tt

-- what is collected one after the other

module _ (keys : List Key) (b : Key) where
  pub collected_before : (These : ℕ → Type 0) (front middle after : List ℕ) → ((i : ℕ) → IsIn i front → IsIn i middle) → AreCollected keys b These middle after → AreCollected keys b These front after
  collected_before These front middle after keeps so = record { keeps = λ i h. so.keeps i (keeps i h); has = so.has }

  pub collected_behind : (These : ℕ → Type 0) (front middle after : List ℕ) → AreCollected keys b These front middle → ((i : ℕ) → IsIn i middle → IsIn i after) → AreCollected keys b These front after
  collected_behind These front middle after so keeps = record { keeps = λ i h. keeps i (so.keeps i h); has = λ i a h f n. keeps i (so.has i a h f n) }

  pub four_writers : (near : Near) (one two three four five : List ℕ) → AreCollected keys b (IsOn near.writers (b.written % 128)) one two → AreCollected keys b (IsOn near.writers (b.first % 128)) two three
      → AreCollected keys b (IsOn near.writers (b.second % 128)) three four → AreCollected keys b (IsOn near.writers (b.third % 128)) four five → WritersCollected keys near b one five
  four_writers near one two three four five p q r s = record {
    written = collected_behind _ one two five p (λ i h. s.keeps i (r.keeps i (q.keeps i h)));
    first = collected_before _ one two five p.keeps (collected_behind _ two three five q (λ i h. s.keeps i (r.keeps i h)));
    second = collected_before _ one three five (λ i h. q.keeps i (p.keeps i h)) (collected_behind _ three four five r s.keeps);
    third = collected_before _ one four five (λ i h. r.keeps i (q.keeps i (p.keeps i h))) s;
  }

  pub four_kinds : (near : Near) (one two three four five : List ℕ) → AreCollected keys b (IsOn near.kinds 0) one two → AreCollected keys b (λ i. (b.is_store ≡ true) × IsOn near.kinds 1 i) two three
      → AreCollected keys b (λ i. (b.is_access ≡ true) × IsOn near.kinds 2 i) three four → AreCollected keys b (IsOn near.kinds 3) four five → KindsCollected keys near b one five
  four_kinds near one two three four five p q r s = record {
    splits = collected_behind _ one two five p (λ i h. s.keeps i (r.keeps i (q.keeps i h)));
    accesses = collected_before _ one two five p.keeps (collected_behind _ two three five q (λ i h. s.keeps i (r.keeps i h)));
    stores = collected_before _ one three five (λ i h. q.keeps i (p.keeps i h)) (collected_behind _ three four five r s.keeps);
    observables = collected_before _ one four five (λ i h. r.keeps i (q.keeps i (p.keeps i h))) s;
  }

  -- one place

  pub one_near : (place : ℕ) (before after : List ℕ) → after ≡ before ++ place ∷ [] → AreCollected keys b (λ i. i ≡ place) before after
  one_near place before after e = record {
    keeps = λ i h. subst (IsIn i) (sym e) (in_left i before (place ∷ []) h);
    has = λ i a f g n. subst (λ x. IsIn x after) (sym f) (subst (IsIn place) (sym e) (in_last place before));
  }

  -- a walk along a chain

  -- what is in the chain is listed, as far as it is near, or still to come
  pub record AreWalked (links : List Link) (head at : ℕ) (before after : List ℕ) : Type 0 where
    pub within : at ≤ length links
    pub keeps : (i : ℕ) → IsIn i before → IsIn i after
    pub has : (i : ℕ) (a : Key) → OnChain links i head → slice_get keys i ≡ Some a → is_near a b ≡ true → IsIn i after ⊎ OnChain links i at

  pub none_walked : (links : List Link) (head : ℕ) (before : List ℕ) → head ≤ length links → AreWalked links head head before before
  none_walked links head before l = record { within = l; keeps = λ i h. h; has = λ i a on f n. inr on }

  pub one_walked : (links : List Link) (head at k : ℕ) (l : Link) (before middle after : List ℕ) → AreWalked links head at before middle → at ≡ k + 1 → slice_get links k ≡ Some l → l.before ≤ k
      → AreCollected keys b (λ i. i ≡ l.place) middle after → AreWalked links head l.before before after
  one_walked links head at k l before middle after so e there least one = record {
    within = let w = so.within in omega (arith, w, e, least);
    keeps = λ i h. one.keeps i (so.keeps i h);
    has = λ i a on f n. by i a f n (so.has i a on f n);
  }
    where
      next : (i : ℕ) (a : Key) → slice_get keys i ≡ Some a → is_near a b ≡ true → (i ≡ l.place) ⊎ OnChain links i l.before → IsIn i after ⊎ OnChain links i l.before
      next i a f n (inl p) = inl (one.has i a p f n)
      next i a f n (inr on) = inr on

      by : (i : ℕ) (a : Key) → slice_get keys i ≡ Some a → is_near a b ≡ true → IsIn i middle ⊎ OnChain links i at → IsIn i after ⊎ OnChain links i l.before
      by i a f n (inl h) = inl (one.keeps i h)
      by i a f n (inr on) = next i a f n (first_or_before links i at k l e there on)

  pub all_walked : (links : List Link) (head at : ℕ) (before after : List ℕ) → AreWalked links head at before after → at ≡ 0 → AreCollected keys b (λ i. OnChain links i head) before after
  all_walked links head at before after so z = record { keeps = so.keeps; has = λ i a on f n. by i (so.has i a on f n) }
    where
      by : (i : ℕ) → IsIn i after ⊎ OnChain links i at → IsIn i after
      by i (inl h) = h
      by i (inr on) = absurd (none_on links i at z on)

-- all that is near

cases_or : (x y : Bool) → (x || y) ≡ true → (x ≡ true) ⊎ (y ≡ true)
cases_or true y e = inl refl
cases_or false y e = inr e

both_true : (x y : Bool) → (x && y) ≡ true → (x ≡ true) × (y ≡ true)
both_true true true e = (refl, refl)
both_true true false e = absurd (false≢true e)
both_true false y e = absurd (false≢true e)

not_true : (x : Bool) → not x ≡ true → x ≡ false
not_true true e = absurd (false≢true e)
not_true false e = refl

of_not : (x : Bool) → not (not x) ≡ true → x ≡ true
of_not true e = refl
of_not false e = absurd (false≢true e)

module _ (keys : List Key) (near : Near) (mode : Mode) (b : Key) (rows : by_rows mode b ≡ true) (before middle behind after : List ℕ) (writers : WritersCollected keys near b before middle) (readers : AreCollected keys b (IsOn near.readers (b.written % 128)) middle behind) (kinds : KindsCollected keys near b behind after) where
  module _ (i : ℕ) (a : Key) (there : slice_get keys i ≡ Some a) (is : IsNoted near i a) (so : is_near a b ≡ true) where
    from_middle : IsIn i middle → IsIn i after
    from_middle h = kinds.splits.keeps i (readers.keeps i h)

    -- what writes a value is in the chain of each value of its number
    writes : (v : ℕ) → nat_eq a.written v ≡ true → IsOn near.writers (v % 128) i
    writes v e = subst (λ n. IsOn near.writers (n % 128) i) (eqb-true a.written v e) is.written

    not_none : b.written ≡ 4294967295 → ⊥
    not_none e = let parts = none_of _ _ (not_true _ rows) in let h = none_of (nat_eq b.written 4294967295) (b.leaves && is_barred mode) parts.0 in true≢false (sym (eq-eqb b.written 4294967295 e) ∙ h.0)

    reads : (v : ℕ) → nat_eq b.written v ≡ true → ((v ≡ 4294967295 → ⊥) → IsOn near.readers (v % 128) i) → IsIn i after
    reads v e on =
        let f : b.written ≡ v = eqb-true b.written v e in
        kinds.splits.keeps i (readers.has i a (subst (λ n. IsOn near.readers (n % 128) i) (sym f) (on (λ g. not_none (f ∙ g)))) there so)

    shares : (a.leaves || share_value a b ≡ true) ⊎ (access_both a b ≡ true) → IsIn i after
    shares (inr e) = by_store (both_true (a.is_access && b.is_access) (a.is_store || b.is_store) e)
      where
        by : (a.is_access ≡ true) → (b.is_access ≡ true) → (a.is_store ≡ true) ⊎ (b.is_store ≡ true) → IsIn i after
        by p q (inl s) = kinds.stores.has i a (q, is.store s) there so
        by p q (inr s) = kinds.accesses.has i a (s, is.access p) there so

        by_store : (a.is_access && b.is_access ≡ true) × (a.is_store || b.is_store ≡ true) → IsIn i after
        by_store (p, q) = let h = both_true a.is_access b.is_access p in by h.0 h.1 (cases_or a.is_store b.is_store q)
    shares (inl e) = upper (cases_or a.leaves (share_value a b) e)
      where
        below : (is_read a.written b ≡ true) → IsIn i after
        below f = second (cases_or (nat_eq a.written b.first || nat_eq a.written b.second) (nat_eq a.written b.third) f)
          where
            first : (nat_eq a.written b.first ≡ true) ⊎ (nat_eq a.written b.second ≡ true) → IsIn i after
            first (inl g) = from_middle (writers.first.has i a (writes b.first g) there so)
            first (inr g) = from_middle (writers.second.has i a (writes b.second g) there so)

            second : (nat_eq a.written b.first || nat_eq a.written b.second ≡ true) ⊎ (nat_eq a.written b.third ≡ true) → IsIn i after
            second (inl g) = first (cases_or (nat_eq a.written b.first) (nat_eq a.written b.second) g)
            second (inr g) = from_middle (writers.third.has i a (writes b.third g) there so)

        above : (is_read b.written a ≡ true) → IsIn i after
        above f = second (cases_or (nat_eq b.written a.first || nat_eq b.written a.second) (nat_eq b.written a.third) f)
          where
            first : (nat_eq b.written a.first ≡ true) ⊎ (nat_eq b.written a.second ≡ true) → IsIn i after
            first (inl g) = reads a.first g is.first
            first (inr g) = reads a.second g is.second

            second : (nat_eq b.written a.first || nat_eq b.written a.second ≡ true) ⊎ (nat_eq b.written a.third ≡ true) → IsIn i after
            second (inl g) = first (cases_or (nat_eq b.written a.first) (nat_eq b.written a.second) g)
            second (inr g) = reads a.third g is.third

        wrote : (nat_eq a.written b.written ≡ true) ⊎ (is_read a.written b ≡ true) → IsIn i after
        wrote (inl g) = from_middle (writers.written.has i a (writes b.written g) there so)
        wrote (inr g) = below g

        named : ((nat_eq a.written b.written || is_read a.written b) ≡ true) ⊎ (is_read b.written a ≡ true) → IsIn i after
        named (inl g) = wrote (cases_or (nat_eq a.written b.written) (is_read a.written b) g)
        named (inr g) = above g

        upper : (a.leaves ≡ true) ⊎ (share_value a b ≡ true) → IsIn i after
        upper (inl f) = kinds.splits.has i a (is.split f) there so
        upper (inr f) = named (cases_or (nat_eq a.written b.written || is_read a.written b) (is_read b.written a) f)

    found : (not (are_apart a b) ≡ true) ⊎ (a.is_observable && (b.is_observable || b.leaves) ≡ true) → IsIn i after
    found (inl e) = shares (cases_or (a.leaves || share_value a b) (access_both a b) (of_not ((a.leaves || share_value a b) || access_both a b) e))
    found (inr e) = kinds.observables.has i a (is.observable (both_true a.is_observable (b.is_observable || b.leaves) e).0) there so

  pub all_collected : AllCollected keys near b after
  all_collected i a there is so = found i a there is so (cases_or (not (are_apart a b)) (a.is_observable && (b.is_observable || b.leaves)) so)
