-- The delays behind all that is near to an operation are all of its delays.
use Rattle.std.proofs.Common.{◌≡◌, ◌<◌, ◌≤◌, ◌⊎◌, inl, inr, ◌+◌, ◌%◌, ℕ, zero, suc, refl, sym, ◌∙◌, ap, arith, subst, Bool, true, false, not, ◌&&◌, ◌||◌, nat_eq, nat_lt, if◌then◌else◌, Option, Some, None, map, slice_get, All, IsPermutation, List, [], ◌∷◌, ◌++◌}
use Rattle.std.proofs.lemmas.Bool.{true≢false, lt-ltb}
use Rattle.std.proofs.lemmas.List.Sorted.{All-permutation, IsPermutation-sym}
use Rattle.vx_flow.specs.declared.trace.Trace.{Trace}
use Rattle.vx_flow.specs.Effects.{IsIn}
use Rattle.vx_flow.proofs.Members.{in_either, in_right}
use Rattle.vx_isa.specs.Numbers.{Numbers}
use Rattle.vx_dep.specs.declared.earlier.Earlier.{Earlier}
use Rattle.vx_dep.specs.declared.keys.Key.{Key}
use Rattle.vx_dep.specs.declared.mode.Mode.{Mode}
use Rattle.vx_dep.specs.declared.near.Near.{Near}
use Rattle.vx_dep.specs.declared.tables.Standing.{Standing}
use Rattle.vx_dep.specs.Delays.{Applies, IsDelay}
use Rattle.vx_dep.specs.Earlier.{IsListed, AreEarlier, noted}
use Rattle.vx_dep.specs.Keys.{key_of, are_apart, apart_delay_of}
use Rattle.vx_dep.specs.Near.{IsNoted, AreNoted, NearKept, by_rows, is_near, AllCollected, AreBehind}
use Rattle.vx_dep.specs.Rows.{is_barred}
use Rattle.vx_dep.specs.Tables.{standings_of, lives_of}
use Rattle.vx_dep.proofs.Noting.{still_listed}
use Rattle.vx_dep.proofs.Telling.{less_or, lt_is}
use Rattle.vx_dep.proofs.Apart.{none_of, not_so, apart_delay_is}
use Rattle.vx_dep.proofs.Standing.{mapped_none, none_above}

-- the places in another order

in_all : (P : ℕ → Type 0) (xs : List ℕ) (x : ℕ) → All P xs → IsIn x xs → P x
in_all P [] x all h = absurd h
in_all P (y ∷ ys) x all (inl e) = subst P (sym e) (all 0 y (omega arith))
in_all P (y ∷ ys) x all (inr h) = in_all P ys x (λ k d l. all (suc k) d (omega (arith, l))) h

all_in : (P : ℕ → Type 0) (xs : List ℕ) → ((x : ℕ) → IsIn x xs → P x) → All P xs
all_in P [] each k d l = absurd (omega (arith, l))
all_in P (y ∷ ys) each zero d l = each y (inl refl)
all_in P (y ∷ ys) each (suc k) d l = all_in P ys (λ x h. each x (inr h)) k d (omega (arith, l))

sorted_in : (xs ys : List ℕ) (x : ℕ) → IsPermutation xs ys → IsIn x xs → IsIn x ys
sorted_in xs ys x same h = in_all (λ y. IsIn y ys) xs x (All-permutation (λ y. IsIn y ys) ys xs (IsPermutation-sym xs ys same) (all_in (λ y. IsIn y ys) ys (λ y i. i))) h

pub all_sorted : (keys : List Key) (near : Near) (b : Key) (xs ys : List ℕ) → AllCollected keys near b xs → IsPermutation xs ys → AllCollected keys near b ys
all_sorted keys near b xs ys so same i a there is n = sorted_in xs ys i same (so i a there is n)

-- what is noted

pub nothing_noted : (keys : List Key) (near : Near) → AreNoted keys near 0
nothing_noted keys near i a l = absurd (omega (arith, l))

still_noted : (before after : Near) (i : ℕ) (a : Key) → NearKept before after → IsNoted before i a → IsNoted after i a
still_noted before after i a keeps is = record {
  written = keeps.writers (a.written % 128) i is.written;
  first = λ n. keeps.readers (a.first % 128) i (is.first n);
  second = λ n. keeps.readers (a.second % 128) i (is.second n);
  third = λ n. keeps.readers (a.third % 128) i (is.third n);
  split = λ e. keeps.kinds 0 i (is.split e);
  access = λ e. keeps.kinds 1 i (is.access e);
  store = λ e. keeps.kinds 2 i (is.store e);
  observable = λ e. keeps.kinds 3 i (is.observable e);
}

pub one_more_noted : (keys : List Key) (before after : Near) (k : ℕ) (b : Key) → AreNoted keys before k → slice_get keys k ≡ Some b → NearKept before after → IsNoted after k b → AreNoted keys after (k + 1)
one_more_noted keys before after k b so there keeps is i a l e = by (less_or i k)
  where
    by : (i < k) ⊎ (k ≤ i) → IsNoted after i a
    by (inl u) = still_noted before after i a keeps (so i a u e)
    by (inr u) =
        let f : i ≡ k = omega (arith, u, l) in
        let g : Some a ≡ Some b = sym e ∙ ap (slice_get keys) f ∙ there in
        let h : a ≡ b = cc in
        subst (λ x. IsNoted after x a) (sym f) (subst (IsNoted after k) (sym h) is)

pub none_more_noted : (keys : List Key) (near : Near) (k : ℕ) → AreNoted keys near k → slice_get keys k ≡ None → AreNoted keys near (k + 1)
none_more_noted keys near k so none i a l e = by (less_or i k)
  where
    by : (i < k) ⊎ (k ≤ i) → IsNoted near i a
    by (inl u) = so i a u e
    by (inr u) = let f : i ≡ k = omega (arith, u, l) in let g : Some a ≡ None = sym e ∙ ap (slice_get keys) f ∙ none in absurd cc

-- the delays behind some places

module _ (m : Numbers) (mode : Mode) (t : Trace) (j : ℕ) where
  sound_so : (list : List Earlier) (above : ℕ) (d : Option ℕ) → ((e : Earlier) → IsIn e list → IsDelay m mode t e.place j (Some e.delay)) → IsDelay m mode t above j d → (e : Earlier) → IsIn e (list ++ noted above d) → IsDelay m mode t e.place j (Some e.delay)
  sound_so list above None so is e h = by (in_either e list [] h)
    where
      by : IsIn e list ⊎ IsIn e [] → IsDelay m mode t e.place j (Some e.delay)
      by (inl i) = so e i
      by (inr i) = absurd i
  sound_so list above (Some delay) so is e h = by (in_either e list (noted above (Some delay)) h)
    where
      by : IsIn e list ⊎ IsIn e (noted above (Some delay)) → IsDelay m mode t e.place j (Some e.delay)
      by (inl i) = so e i
      by (inr (inl f)) = subst (λ (y : Earlier). IsDelay m mode t y.place j (Some y.delay)) (sym f) is
      by (inr (inr i)) = absurd i

  listed_now : (list : List Earlier) (above delay : ℕ) (d : Option ℕ) → IsDelay m mode t above j d → Applies m mode t above j delay → IsListed (list ++ noted above d) above delay
  listed_now list above delay None is a = absurd (is delay a)
  listed_now list above delay (Some most) is a =
      let new : Earlier = record { place = above; delay = most } in
      record { entry = new; is = in_right new list (new ∷ []) (inl refl); place = refl; delay = is.greatest delay a }

  pub record AreSought (places rest : List ℕ) (next : ℕ) (list : List Earlier) : Type 0 where
    pub sound : (e : Earlier) → IsIn e list → IsDelay m mode t e.place j (Some e.delay)
    pub last : (i delay : ℕ) → i + 1 ≡ next → Applies m mode t i j delay → IsListed list i delay
    pub whole : (i delay : ℕ) → IsIn i places → Applies m mode t i j delay → IsIn i rest ⊎ IsListed list i delay

  pub none_sought : (places : List ℕ) (list : List Earlier) → list ≡ [] → AreSought places places 0 list
  none_sought places list e = record {
    sound = λ x h. absurd (subst (IsIn x) e h);
    last = λ i d f a. absurd (omega (arith, f));
    whole = λ i d h a. inl h;
  }

  pub twice_sought : (places rest others : List ℕ) (next above : ℕ) (list : List Earlier) → AreSought places rest next list → rest ≡ above ∷ others → above + 1 ≡ next → AreSought places others next list
  twice_sought places rest others next above list so front same = record { sound = so.sound; last = so.last; whole = λ i d h a. by i d a (so.whole i d h a) }
    where
      first : (i d : ℕ) → Applies m mode t i j d → (i ≡ above) ⊎ IsIn i others → IsIn i others ⊎ IsListed list i d
      first i d a (inl e) = inr (so.last i d (ap (λ x. x + 1) e ∙ same) a)
      first i d a (inr h) = inl h

      by : (i d : ℕ) → Applies m mode t i j d → IsIn i rest ⊎ IsListed list i d → IsIn i others ⊎ IsListed list i d
      by i d a (inl h) = first i d a (subst (IsIn i) front h)
      by i d a (inr h) = inr h

  pub one_sought : (places rest others : List ℕ) (next above : ℕ) (d : Option ℕ) (list more : List Earlier) → AreSought places rest next list → rest ≡ above ∷ others → IsDelay m mode t above j d → more ≡ list ++ noted above d → AreSought places others (above + 1) more
  one_sought places rest others next above d list more so front is e = subst (AreSought places others (above + 1)) (sym e) (record {
    sound = sound_so list above d so.sound is;
    last = λ i delay f a. let g : i ≡ above = omega (arith, f) in subst (λ x. IsListed (list ++ noted above d) x delay) (sym g) (listed_now list above delay d is (subst (λ x. Applies m mode t x j delay) g a));
    whole = λ i delay h a. by i delay a (so.whole i delay h a);
  })
    where
      first : (i delay : ℕ) → Applies m mode t i j delay → (i ≡ above) ⊎ IsIn i others → IsIn i others ⊎ IsListed (list ++ noted above d) i delay
      first i delay a (inl g) = inr (subst (λ x. IsListed (list ++ noted above d) x delay) (sym g) (listed_now list above delay d is (subst (λ x. Applies m mode t x j delay) g a)))
      first i delay a (inr h) = inl h

      by : (i delay : ℕ) → Applies m mode t i j delay → IsIn i rest ⊎ IsListed list i delay → IsIn i others ⊎ IsListed (list ++ noted above d) i delay
      by i delay a (inl h) = first i delay a (subst (IsIn i) front h)
      by i delay a (inr h) = inr (still_listed list (noted above d) i delay h)

  pub all_sought : (places rest : List ℕ) (next : ℕ) (list : List Earlier) → AreSought places rest next list → rest ≡ [] → AreBehind m mode t j places list
  all_sought places rest next list so e = record { sound = so.sound; whole = λ i d h a. by i d (so.whole i d h a) }
    where
      by : (i d : ℕ) → IsIn i rest ⊎ IsListed list i d → IsListed list i d
      by i d (inl h) = absurd (subst (IsIn i) e h)
      by i d (inr h) = h

-- an operation that is not near has no delay

seen_left : (o p v : Bool) → (o && (p || v)) ≡ false → (o && p) ≡ false
seen_left false p v e = refl
seen_left true true v e = absurd (true≢false e)
seen_left true false v e = refl

seen_right : (o p v barred : Bool) → (o && (p || v)) ≡ false → (v && barred) ≡ false → (v && (o || barred)) ≡ false
seen_right o p false barred e f = refl
seen_right false p true barred e f = f
seen_right true true true barred e f = absurd (true≢false e)
seen_right true false true barred e f = absurd (true≢false e)

or_false : (x y : Bool) → x ≡ false → y ≡ false → (x || y) ≡ false
or_false false y e f = f
or_false true y e f = absurd (true≢false e)

abbrev one_or_none : Bool → Bool → Option ℕ
one_or_none x y = if x then Some 1 else (if y then Some 0 else None)

none_by : (x y : Bool) → x ≡ false → y ≡ false → None ≡ one_or_none x y
none_by false false e f = refl
none_by true y e f = absurd (true≢false e)
none_by false true e f = absurd (true≢false f)

far_delay : (mode : Mode) (a b : Key) (i : ℕ) → by_rows mode b ≡ true → (a.is_observable && (b.is_observable || b.leaves)) ≡ false → None ≡ apart_delay_of mode a b (nat_lt i b.joined)
far_delay mode a b i rows far =
    let parts = none_of (nat_eq b.written 4294967295 || (b.leaves && is_barred mode)) (nat_lt 0 b.joined && ((b.is_observable || b.leaves) || is_barred mode)) (not_so _ rows) in
    let fixed = none_of (nat_eq b.written 4294967295) (b.leaves && is_barred mode) parts.0 in
    none_by _ _
    (or_false (a.is_observable && b.is_observable) (nat_lt i b.joined && ((b.is_observable || b.leaves) || is_barred mode)) (seen_left a.is_observable b.is_observable b.leaves far) (joined ((b.is_observable || b.leaves) || is_barred mode) (nat_lt i b.joined) refl parts.1))
    (seen_right a.is_observable b.is_observable b.leaves (is_barred mode) far fixed.1)
  where
    joined : (any below : Bool) → nat_lt i b.joined ≡ below → (nat_lt 0 b.joined && any) ≡ false → (below && any) ≡ false
    joined any false e f = refl
    joined any true e f = let l = lt_is i b.joined e in let g : nat_lt 0 b.joined ≡ true = lt-ltb 0 b.joined (omega (arith, l)) in sym (ap (λ x. x && any) g) ∙ f

module _ (m : Numbers) (mode : Mode) (t : Trace) (standings : List Standing) (keys : List Key) (exact : standings ≡ standings_of m t) (of_standings : keys ≡ map key_of standings) (lives : List (List Bool)) (lives_exact : lives ≡ lives_of t) (near : Near) (b : Key) (j : ℕ) (places : List ℕ) (list : List Earlier) where
  pub earlier_by_rows : AreNoted keys near j → slice_get keys j ≡ Some b → by_rows mode b ≡ true → AllCollected keys near b places → AreBehind m mode t j places list → AreEarlier m mode t j j list
  earlier_by_rows are stands rows all behind = record { sound = behind.sound; whole = λ i d l a. by i d l a (slice_get keys i) refl }
    where
      far : (i d : ℕ) (a : Key) → i < j → Applies m mode t i j d → slice_get keys i ≡ Some a → is_near a b ≡ false → IsListed list i d
      far i d a l applies e n =
          let parts = none_of (not (are_apart a b)) (a.is_observable && (b.is_observable || b.leaves)) n in
          absurd (apart_delay_is m mode t standings keys exact of_standings lives i j a b None lives_exact l e stands (of_not (are_apart a b) parts.0) (far_delay mode a b i rows parts.1) d applies)
        where
          of_not : (x : Bool) → not x ≡ false → x ≡ true
          of_not true h = refl
          of_not false h = absurd (true≢false h)

      near_or : (i d : ℕ) (a : Key) → i < j → Applies m mode t i j d → slice_get keys i ≡ Some a → (n : Bool) → is_near a b ≡ n → IsListed list i d
      near_or i d a l applies e true n = behind.whole i d (all i a e (are i a l e) n) applies
      near_or i d a l applies e false n = far i d a l applies e n

      by : (i d : ℕ) → i < j → Applies m mode t i j d → (k : Option Key) → slice_get keys i ≡ k → IsListed list i d
      by i d l a None e = absurd (none_above m t standings exact mode i j (mapped_none key_of standings i (ap (λ ks. slice_get ks i) (sym of_standings) ∙ e)) d a)
      by i d l a (Some k) e = near_or i d k l a e (is_near k b) refl
