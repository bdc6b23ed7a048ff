-- Where entries say that the kinds alone count, the kinds give the delay.
use Rattle.std.proofs.Common.{◌≡◌, ◌<◌, ◌≤◌, ◌⊎◌, inl, inr, ◌+◌, ℕ, refl, sym, ◌∙◌, ap, arith, subst, Bool, true, false, not, ◌&&◌, ◌||◌, nat_eq, nat_lt, if◌then◌else◌, Option, Some, None, map, slice_get, List, ◌++◌}
use Rattle.std.proofs.lemmas.Bool.{false≢true, true≢false}
use Rattle.std.specs.List.{list_any}
use Rattle.vx_flow.specs.declared.trace.Trace.{Trace}
use Rattle.vx_flow.specs.Operands.{value_list, values_read}
use Rattle.vx_isa.specs.Numbers.{Numbers}
use Rattle.vx_dep.specs.declared.keys.Key.{Key}
use Rattle.vx_dep.specs.declared.mode.Mode.{Mode}
use Rattle.vx_dep.specs.declared.traits.Traits.{Traits}
use Rattle.vx_dep.specs.declared.tables.Standing.{Standing}
use Rattle.vx_dep.specs.declared.rows.Ways.{Ways}
use Rattle.vx_dep.specs.Delays.{Applies, IsDelay}
use Rattle.vx_dep.specs.Earlier.{NoneBetween}
use Rattle.vx_dep.specs.Traits.{has}
use Rattle.vx_dep.specs.Tables.{standings_of, lives_of}
use Rattle.vx_dep.specs.Rows.{is_barred, are_tied, stays_behind_split, stays_behind_join, keeps_split, stays_below, at_least, row_of, delay_of}
use Rattle.vx_dep.specs.Sights.{reaches, has_join, is_live}
use Rattle.vx_dep.specs.Keys.{named, key_of, is_read, share_value, access_both, are_apart, apart_delay_of, can_pass}
use Rattle.vx_dep.proofs.Telling.{less_or, lt_is, is_lt}
use Rattle.vx_dep.proofs.Written.{reads_two}
use Rattle.vx_dep.proofs.Standing.{IsMapped, unmapped, tells, delay_is}
use Rattle.vx_dep.proofs.Quiet.{neither, not_both}

pub none_of : (x y : Bool) → (x || y) ≡ false → (x ≡ false) × (y ≡ false)
none_of false false e = (refl, refl)
none_of true y e = absurd (true≢false e)
none_of false true e = absurd (true≢false e)

pub not_so : (x : Bool) → not x ≡ true → x ≡ false
not_so true e = absurd (false≢true e)
not_so false e = refl

-- a number that is not that of a value, where there is one, is not among the values

alone : (v none : ℕ) (o : Option ℕ) → nat_eq v (named none o) ≡ false → list_any (nat_eq v) (value_list o) ≡ false
alone v none None e = refl
alone v none (Some u) e = neither (nat_eq v u) false e refl

among : (v none : ℕ) (one two three : Option ℕ) → ((nat_eq v (named none one) || nat_eq v (named none two)) || nat_eq v (named none three)) ≡ false
    → list_any (nat_eq v) (value_list one ++ (value_list two ++ value_list three)) ≡ false
among v none one two three e =
    let outer = none_of (nat_eq v (named none one) || nat_eq v (named none two)) (nat_eq v (named none three)) e in
    let inner = none_of (nat_eq v (named none one)) (nat_eq v (named none two)) outer.0 in
    let lower : list_any (nat_eq v) (value_list two ++ value_list three) ≡ false = reads_two v (value_list two) (value_list three) ∙ neither (list_any (nat_eq v) (value_list two)) (list_any (nat_eq v) (value_list three)) (alone v none two inner.1) (alone v none three outer.1) in
    reads_two v (value_list one) (value_list two ++ value_list three) ∙ neither (list_any (nat_eq v) (value_list one)) (list_any (nat_eq v) (value_list two ++ value_list three)) (alone v none one inner.0) lower

unread : (written : Option ℕ) (none other : ℕ) (one two three : Option ℕ)
    → ((nat_eq (named other written) (named none one) || nat_eq (named other written) (named none two)) || nat_eq (named other written) (named none three)) ≡ false
    → has written (value_list one ++ (value_list two ++ value_list three)) ≡ false
unread None none other one two three e = refl
unread (Some v) none other one two three e = among v none one two three e

unwritten : (one two : Option ℕ) (none : ℕ) → nat_eq (named none one) (named none two) ≡ false → has one (value_list two) ≡ false
unwritten None two none e = refl
unwritten (Some v) two none e = alone v none two e

-- what the entries of two operations say

record AreApart (a b : Traits) : Type 0 where
  leaves : a.leaves ≡ false
  tied : (last : Bool) → are_tied a b last ≡ false
  read : has b.written (values_read a.reads) ≡ false
  touch : a.is_access ≡ true → b.is_access ≡ true → (a.is_store || b.is_store) ≡ true → ⊥

not_three : (x y z : Bool) → ((x && y) && z) ≡ false → x ≡ true → y ≡ true → z ≡ true → ⊥
not_three x y z e f g h = false≢true (sym e ∙ ap (λ b. (b && y) && z) f ∙ ap (λ b. b && z) g ∙ h)

apart_parts : (s u : Standing) → are_apart (key_of s) (key_of u) ≡ true → AreApart s.traits u.traits
apart_parts s u e =
    let a : Key = key_of s in
    let b : Key = key_of u in
    let all = none_of (a.leaves || share_value a b) (access_both a b) (not_so ((a.leaves || share_value a b) || access_both a b) e) in
    let upper = none_of a.leaves (share_value a b) all.0 in
    let shared = none_of (nat_eq a.written b.written || is_read a.written b) (is_read b.written a) upper.1 in
    let above = none_of (nat_eq a.written b.written) (is_read a.written b) shared.0 in
    let alike : has s.traits.written (value_list u.traits.written) ≡ false = unwritten s.traits.written u.traits.written 4294967294 above.0 in
    let lower : has s.traits.written (values_read u.traits.reads) ≡ false = unread s.traits.written 4294967295 4294967294 u.traits.reads.first u.traits.reads.second u.traits.reads.third above.1 in
    record {
      leaves = upper.0;
      tied = λ last. neither (last && has s.traits.written (values_read u.traits.reads)) (has s.traits.written (value_list u.traits.written)) (not_both last (has s.traits.written (values_read u.traits.reads)) lower) alike;
      read = unread u.traits.written 4294967295 4294967294 s.traits.reads.first s.traits.reads.second s.traits.reads.third shared.1;
      touch = not_three s.traits.is_access u.traits.is_access (s.traits.is_store || u.traits.is_store) all.1;
    }

behind_is : (p v s j : Bool) → v ≡ false → ((p || (v && s)) || j) ≡ (p || j)
behind_is true false s j e = refl
behind_is false false s j e = refl
behind_is p true s j e = absurd (true≢false e)

below_is : (r l k : Bool) → r ≡ false → ((r || (false && l)) || k) ≡ k
below_is false l k e = refl
below_is true l k e = absurd (true≢false e)

apart_rows : (mode : Mode) (s u : Standing) (last joined live : Bool) → AreApart s.traits u.traits → delay_of mode s.traits u.traits (record { last = last; touch = false; joined = joined; live = live }) ≡ apart_delay_of mode (key_of s) (key_of u) joined
apart_rows mode s u last joined live apart =
    let a : Traits = s.traits in
    let b : Traits = u.traits in
    let w : Ways = record { last = last; touch = false; joined = joined; live = live } in
    let both : Bool = a.is_observable && b.is_observable in
    let behind : Bool = joined && stays_behind_join mode b in
    let kept : Bool = b.leaves && (keeps_split a b || is_barred mode) in
    ap (λ x. if x then at_least a.latency (row_of mode a b w) else row_of mode a b w) (apart.tied last)
    ∙ ap (λ x. if x then Some 1 else (if stays_below mode a b w then Some 0 else None)) (behind_is both a.leaves (stays_behind_split mode b w) behind apart.leaves)
    ∙ ap (λ x. if both || behind then Some 1 else (if x then Some 0 else None)) (below_is (has b.written (values_read a.reads)) a.is_load kept apart.read)
    ∙ ap (λ x. if both || behind then Some 1 else (if b.leaves && (((x && not b.alone) || a.is_observable) || is_barred mode) then Some 0 else None)) apart.leaves

-- a lower operation that passes what is apart from it

passes : (mode : Mode) (a b : Key) (from i : ℕ) → can_pass mode b from ≡ true → from ≤ i → None ≡ apart_delay_of mode a b (nat_lt i b.joined)
passes mode a b from i e l =
    let all = none_of (b.is_observable || b.leaves) (is_barred mode && nat_lt from b.joined) (not_so ((b.is_observable || b.leaves) || (is_barred mode && nat_lt from b.joined)) e) in
    let fixed = none_of b.is_observable b.leaves all.0 in
    by a.is_observable b.is_observable b.leaves (is_barred mode) (nat_lt i b.joined) fixed.0 fixed.1 (later (is_barred mode) all.1)
  where
    before : (x : Bool) → nat_lt i b.joined ≡ x → nat_lt from b.joined ≡ false → x ≡ false
    before false f g = refl
    before true f g = let u = lt_is i b.joined f in absurd (is_lt from b.joined g (omega (arith, u, l)))

    later : (barred : Bool) → (barred && nat_lt from b.joined) ≡ false → (barred && nat_lt i b.joined) ≡ false
    later false f = refl
    later true f = before (nat_lt i b.joined) refl f

    by_kinds : (o p v barred joined : Bool) → Option ℕ
    by_kinds o p v barred joined = if (o && p) || (joined && ((p || v) || barred)) then Some 1 else (if v && (o || barred) then Some 0 else None)

    by : (o p v barred joined : Bool) → p ≡ false → v ≡ false → (barred && joined) ≡ false → None ≡ by_kinds o p v barred joined
    by true false false true false e f g = refl
    by true false false false true e f g = refl
    by true false false false false e f g = refl
    by false false false true false e f g = refl
    by false false false false true e f g = refl
    by false false false false false e f g = refl
    by o false false true true e f g = absurd (true≢false g)
    by o true v barred joined e f g = absurd (true≢false e)
    by o false true barred joined e f g = absurd (true≢false f)

-- the delay by entries

module _ (m : Numbers) (mode : Mode) (t : Trace) (standings : List Standing) (keys : List Key) (exact : standings ≡ standings_of m t) (of_standings : keys ≡ map key_of standings) where
  entry : (i : ℕ) (a : Key) → slice_get keys i ≡ Some a → IsMapped key_of standings i a
  entry i a e = unmapped key_of standings i a (ap (λ ks. slice_get ks i) (sym of_standings) ∙ e)

  pub apart_delay_is : (lives : List (List Bool)) (i j : ℕ) (a b : Key) (d : Option ℕ) → lives ≡ lives_of t → i < j → slice_get keys i ≡ Some a → slice_get keys j ≡ Some b
      → are_apart a b ≡ true → d ≡ apart_delay_of mode a b (nat_lt i b.joined) → IsDelay m mode t i j d
  apart_delay_is lives i j a b d lives_exact in_order at_one at_two apart is =
      let one = entry i a at_one in
      let two = entry j b at_two in
      let s : Standing = one.from in
      let u : Standing = two.from in
      let are : are_apart (key_of s) (key_of u) ≡ true = sym (ap (λ x. are_apart x b) one.is ∙ ap (are_apart (key_of s)) two.is) ∙ apart in
      let parts = apart_parts s u are in
      let live : Bool = s.traits.leaves && is_live (slice_get lives i) i j in
      let w : Ways = record { last = reaches s i j; touch = false; joined = has_join u i; live = live } in
      let told = tells m t standings lives i j s u w exact lives_exact in_order one.there two.there refl refl refl (λ e. absurd (false≢true e)) (λ e k. parts.touch k.upper k.lower k.stores) in
      let given : d ≡ apart_delay_of mode (key_of s) (key_of u) (has_join u i) = is ∙ ap (λ x. apart_delay_of mode x b (nat_lt i b.joined)) one.is ∙ ap (λ x. apart_delay_of mode (key_of s) x (nat_lt i x.joined)) two.is in
      delay_is m t standings exact mode i j s u w d in_order one.there two.there told (given ∙ sym (apart_rows mode s u (reaches s i j) (has_join u i) live parts))

  pub none_passed : (j from : ℕ) → NoneBetween m mode t j from from
  none_passed j from above d l u a = absurd (omega (arith, l, u))

  pub one_passed : (lives : List (List Bool)) (j from near : ℕ) (a b : Key) → lives ≡ lives_of t → can_pass mode b from ≡ true → from ≤ near → near < j → slice_get keys near ≡ Some a → slice_get keys j ≡ Some b → are_apart a b ≡ true
      → NoneBetween m mode t j from near → NoneBetween m mode t j from (near + 1)
  one_passed lives j from near a b lives_exact pass behind in_order at_one at_two apart none above d l u p = by (less_or above near)
    where
      free : IsDelay m mode t near j None
      free = apart_delay_is lives near j a b None lives_exact in_order at_one at_two apart (passes mode a b from near pass behind)

      by : (above < near) ⊎ (near ≤ above) → ⊥
      by (inl h) = none above d l h p
      by (inr h) = let e : above ≡ near = omega (arith, h, u) in free d (subst (λ x. Applies m mode t x j d) e p)
