-- The laws of placement: no operation could stand earlier, and at most one list of words is that of a clustered trace.
use Rattle.std.proofs.Common.{◌≡◌, ℕ, zero, suc, ◌<◌, ◌≤◌, ◌⊎◌, inl, inr, ◌+◌, max, Bool, ◌&&◌, cond, true, false, nat_eq, List, ◌∷◌, length, sym, ◌∙◌, refl, ap, arith}
use Rattle.std.proofs.lemmas.Bool.{true≢false, cases_order, cases_lt, cases_eq, and_right, eq-eqb}
use Rattle.std.proofs.lemmas.List.{ext_get_or}
use Rattle.std.proofs.lemmas.Option.{slice_get_within}
use Rattle.std.specs.List.{filter, sum_by}
use Rattle.vx_flow.specs.Walk.{numbers}
use Rattle.vx_flow.specs.declared.trace.Clustered.{Clustered}
use Rattle.vx_flow.specs.declared.trace.Homes.{Homes}
use Rattle.vx_isa.specs.Numbers.{Numbers}
use Rattle.vx_room.specs.declared.items.ClusteredItem.{ClusteredItem}
use Rattle.vx_room.specs.Room.{has_room}
use Rattle.vx_dep.specs.declared.mode.Mode.{Mode}
use Rattle.vx_dep.specs.Delays.{Applies, AreHeights}
use Rattle.vx_dep.specs.Compensation.{word_at}
use Rattle.vx_sched.specs.Placement.{comes_before, items_at, places_in, with_earlier, IsReady, PlacedBy, OnePlacement, Tight}
use Rattle.vx_sched.proofs.Totals.{Within, room_within, weight, sum_items, sum_kept, sum_more, sum_filter_le, sum_at, filter_numbers, filter_twice}
use Rattle.vx_sched.proofs.Order.{applies_before, not_before_itself, not_before, before_tells}

-- a property of numbers up to a bound has a greatest number or none: not neither
pub greatest_or_none : (P : ℕ → Type 0) (most : ℕ) → ((x : ℕ) → P x → x ≤ most) → (((r : ℕ) × P r × ((x : ℕ) → P x → x ≤ r)) ⊎ ((x : ℕ) → P x → ⊥) → ⊥) → ⊥
greatest_or_none P zero bound neither = neither (inr none)
  where
    none : (x : ℕ) → P x → ⊥
    none x p = neither (inl (x, p, λ y q. let l = bound y q in omega (arith, l)))
greatest_or_none P (suc most) bound neither = greatest_or_none P most less neither
  where
    less : (x : ℕ) → P x → x ≤ most
    less x p = by (cases_lt most x)
      where
        by : (most < x) ⊎ (x ≤ most) → x ≤ most
        by (inl above) =
            let u = bound x p in
            absurd (neither (inl (x, p, λ y q. let l = bound y q in omega (arith, above, u, l))))
        by (inr within) = within

-- numbers up to a place have a bound
pub bound_below : (f : ℕ → ℕ) (n : ℕ) → (most : ℕ) × ((i : ℕ) → i < n → f i ≤ most)
bound_below f zero = (0, λ i l. absurd (omega (arith, l)))
bound_below f (suc n) =
    let most = bound_below f n in
    (max most.0 (f n), λ i l. step most.0 most.1 i l (cases_eq i n))
  where
    step : (most : ℕ) → ((i : ℕ) → i < n → f i ≤ most) → (i : ℕ) → i < suc n → (i ≡ n) ⊎ (i ≡ n → ⊥) → f i ≤ max most (f n)
    step most all i l (inl same) = let e : f i ≡ f n = ap f same in omega (arith, e)
    step most all i l (inr other) = let u = all i (omega (arith, l, other)) in omega (arith, u)

-- what stands beside an operation of a word is part of that word

module _ (c : Clustered) (m : Numbers) (homes : Homes) (height : ℕ → ℕ) where
  beside_item : (words : List ℕ) (o : ℕ) → o < length words → Within (items_at c (with_earlier height words (word_at words o) o)) (items_at c (places_in words (word_at words o)))
  beside_item words o inside = record { at = less }
    where
      one_less : (w : ℕ) (a b : Bool) → cond (a && b) w 0 ≤ cond a w 0
      one_less w true true = omega arith
      one_less w true false = omega arith
      one_less w false b = omega arith

      less : (f : ClusteredItem → ℕ) → sum_by f (items_at c (with_earlier height words (word_at words o) o)) ≤ sum_by f (items_at c (places_in words (word_at words o)))
      less f =
          let before = λ (i : ℕ). comes_before height i o in
          let here = λ (i : ℕ). nat_eq (word_at words i) (word_at words o) in
          let first = sum_more c f o (filter before (filter here (numbers 0 (length words)))) in
          let second : sum_by f (items_at c (filter before (filter here (numbers 0 (length words))))) ≡ sum_by f (items_at c (filter (λ i. here i && before i) (numbers 0 (length words)))) = ap (λ xs. sum_by f (items_at c xs)) (filter_twice here before (numbers 0 (length words))) in
          let third = sum_kept c f (λ i. here i && before i) (numbers 0 (length words)) in
          let whole = sum_kept c f here (numbers 0 (length words)) in
          let stands : here o ≡ true = eq-eqb (word_at words o) (word_at words o) refl in
          let not_itself : before o ≡ false = not_before height o o (not_before_itself height o) in
          let none : cond (here o && before o) (weight c f o) 0 ≡ 0 = ap (λ b. cond b (weight c f o) 0) (and_right (here o) (before o) not_itself) in
          let all : cond (here o) (weight c f o) 0 ≡ weight c f o = ap (λ b. cond b (weight c f o) 0) stands in
          let sums = sum_at (λ i. cond (here i && before i) (weight c f i) 0) (λ i. cond (here i) (weight c f i) 0) o (weight c f o) 0 0 (length words) (λ i other. one_less (weight c f i) (here i) (before i)) (omega (arith, none, all)) (omega arith) (omega (arith, inside)) in
          omega (arith, first, second, third, whole, sums)

  pub tight : (mode : Mode) (words : List ℕ) (o ready w : ℕ) → PlacedBy c m homes mode height words → o < length words → IsReady m mode c.trace words o ready → ready ≤ w → w < word_at words o → has_room m homes (items_at c (o ∷ places_in words w)) ≡ false
  tight mode words o ready w placed inside is at_least earlier = by (has_room m homes (items_at c (o ∷ places_in words w))) refl
    where
      less : (f : ClusteredItem → ℕ) → sum_by f (items_at c (with_earlier height words w o)) ≤ sum_by f (items_at c (o ∷ places_in words w))
      less f =
          let first = sum_more c f o (filter (λ p. comes_before height p o) (places_in words w)) in
          let all = sum_more c f o (places_in words w) in
          let part = sum_items c f (filter (λ p. comes_before height p o) (places_in words w)) in
          let whole = sum_items c f (places_in words w) in
          let fewer = sum_filter_le (weight c f) (λ p. comes_before height p o) (places_in words w) in
          omega (arith, first, all, part, whole, fewer)

      by : (b : Bool) → has_room m homes (items_at c (o ∷ places_in words w)) ≡ b → has_room m homes (items_at c (o ∷ places_in words w)) ≡ false
      by false e = e
      by true e =
          let closed = placed.tight o ready w inside is at_least earlier in
          absurd (true≢false (sym (room_within m homes (items_at c (with_earlier height words w o)) (items_at c (o ∷ places_in words w)) (record { at = less }) e) ∙ closed))

-- two placements

module _ (c : Clustered) (m : Numbers) (homes : Homes) (mode : Mode) (height : ℕ → ℕ) (heights : AreHeights m mode c.trace height) where
  -- those that come before an operation stand in the same words
  abbrev AgreeBefore : (words others : List ℕ) (o : ℕ) → Type 0
  AgreeBefore words others o = (i : ℕ) → i < length c.trace.ops → comes_before height i o ≡ true → word_at words i ≡ word_at others i

  agrees : (words others : List ℕ) (o i delay : ℕ) → AgreeBefore words others o → Applies m mode c.trace i o delay → word_at words i ≡ word_at others i
  agrees words others o i delay agree a = agree i (slice_get_within c.trace.ops i a.one a.stands_one) (applies_before m mode c.trace height i o delay heights a)

  ready_too : (words others : List ℕ) (o ready : ℕ) → AgreeBefore words others o → IsReady m mode c.trace words o ready → IsReady m mode c.trace others o ready
  ready_too words others o ready agree is = record {
    met = λ i d a. let u = is.met i d a in let v = agrees words others o i d agree a in omega (arith, u, v);
    reached = by is.reached;
  }
    where
      by : (ready ≡ 0) ⊎ ((i : ℕ) × (delay : ℕ) × Applies m mode c.trace i o delay × (ready ≡ word_at words i + delay)) → (ready ≡ 0) ⊎ ((i : ℕ) × (delay : ℕ) × Applies m mode c.trace i o delay × (ready ≡ word_at others i + delay))
      by (inl none) = inl none
      by (inr (i, d, a, e)) = let v = agrees words others o i d agree a in inr (i, d, a, omega (arith, e, v))

  same_beside : (words others : List ℕ) (w o : ℕ) → length words ≡ length c.trace.ops → length others ≡ length c.trace.ops → AgreeBefore words others o → with_earlier height others w o ≡ with_earlier height words w o
  same_beside words others w o each too agree = ap (λ xs. o ∷ xs) (
      filter_twice (λ i. nat_eq (word_at others i) w) (λ i. comes_before height i o) (numbers 0 (length others))
      ∙ ap (λ n. filter (λ i. nat_eq (word_at others i) w && comes_before height i o) (numbers 0 n)) (too ∙ sym each)
      ∙ filter_numbers (λ i. nat_eq (word_at others i) w && comes_before height i o) (λ i. nat_eq (word_at words i) w && comes_before height i o) 0 (length words) same
      ∙ sym (filter_twice (λ i. nat_eq (word_at words i) w) (λ i. comes_before height i o) (numbers 0 (length words))))
    where
      same : (i : ℕ) → 0 ≤ i → i < 0 + length words → (nat_eq (word_at others i) w && comes_before height i o) ≡ (nat_eq (word_at words i) w && comes_before height i o)
      same i l u = by (comes_before height i o) refl
        where
          by : (b : Bool) → comes_before height i o ≡ b → (nat_eq (word_at others i) w && b) ≡ (nat_eq (word_at words i) w && b)
          by true e = ap (λ v. nat_eq v w && true) (sym (agree i (omega (arith, u, each)) e))
          by false e = and_right (nat_eq (word_at others i) w) false refl ∙ sym (and_right (nat_eq (word_at words i) w) false refl)

  not_less : (words others : List ℕ) (o : ℕ) → PlacedBy c m homes mode height words → PlacedBy c m homes mode height others → o < length c.trace.ops → AgreeBefore words others o → word_at words o < word_at others o → ⊥
  not_less words others o one two inside agree less = greatest_or_none Sum (last.0 + most.0) bound neither
    where
      Sum : ℕ → Type 0
      Sum x = (i : ℕ) × (delay : ℕ) × Applies m mode c.trace i o delay × (x ≡ word_at words i + delay)

      last : (most : ℕ) × ((i : ℕ) → i < length c.trace.ops → word_at words i ≤ most)
      last = bound_below (word_at words) (length c.trace.ops)

      most : (most : ℕ) × ((i : ℕ) → i < length c.trace.ops → height i ≤ most)
      most = bound_below height (length c.trace.ops)

      bound : (x : ℕ) → Sum x → x ≤ last.0 + most.0
      bound x (i, d, a, e) =
          let there = slice_get_within c.trace.ops i a.one a.stands_one in
          let u = last.1 i there in
          let v = most.1 i there in
          let w = (heights i there).0 o d a in
          omega (arith, e, u, v, w)

      clash : (ready : ℕ) → IsReady m mode c.trace words o ready → ⊥
      clash ready is =
          let closed = two.tight o ready (word_at words o) (let e = two.each in omega (arith, inside, e)) (ready_too words others o ready agree is) (one.ready o ready (let e = one.each in omega (arith, inside, e)) is) less in
          let closed_too : has_room m homes (items_at c (with_earlier height words (word_at words o) o)) ≡ false = ap (λ xs. has_room m homes (items_at c xs)) (sym (same_beside words others (word_at words o) o one.each two.each agree)) ∙ closed in
          let fits = room_within m homes (items_at c (with_earlier height words (word_at words o) o)) (items_at c (places_in words (word_at words o))) (beside_item c m homes height words o (let e = one.each in omega (arith, inside, e))) (one.room (word_at words o)) in
          true≢false (sym fits ∙ closed_too)

      neither : ((r : ℕ) × Sum r × ((x : ℕ) → Sum x → x ≤ r)) ⊎ ((x : ℕ) → Sum x → ⊥) → ⊥
      neither (inl (r, reached, met)) = clash r (record { met = λ i d a. met (word_at words i + d) (i, d, a, refl); reached = inr reached })
      neither (inr none) = clash 0 (record { met = λ i d a. absurd (none (word_at words i + d) (i, d, a, refl)); reached = inl refl })

  module _ (words others : List ℕ) (one : PlacedBy c m homes mode height words) (two : PlacedBy c m homes mode height others) where
    same_here : (o : ℕ) → o < length c.trace.ops → AgreeBefore words others o → word_at words o ≡ word_at others o
    same_here o inside agree = by (cases_order (word_at words o) (word_at others o))
      where
        by : (word_at words o ≡ word_at others o) ⊎ ((word_at words o < word_at others o) ⊎ (word_at others o < word_at words o)) → word_at words o ≡ word_at others o
        by (inl same) = same
        by (inr (inl less)) = absurd (not_less words others o one two inside agree less)
        by (inr (inr more)) = absurd (not_less others words o two one inside (λ i l b. sym (agree i l b)) more)

    -- those of greater height, and those of the same height in ascending order of places
    along : (most d : ℕ) → ((o : ℕ) → o < length c.trace.ops → most < height o + d → word_at words o ≡ word_at others o)
        → (e o : ℕ) → o < length c.trace.ops → most < height o + suc d → o < e → word_at words o ≡ word_at others o
    along most d higher zero o inside level under = absurd (omega (arith, under))
    along most d higher (suc e) o inside level under = same_here o inside (λ i l b. by i l (before_tells height i o b) (along most d higher e i l))
      where
        by : (i : ℕ) → i < length c.trace.ops → (height o < height i) ⊎ ((height i ≡ height o) × (i < o)) → (most < height i + suc d → i < e → word_at words i ≡ word_at others i) → word_at words i ≡ word_at others i
        by i l (inl above) lower = higher i l (omega (arith, above, level))
        by i l (inr (same, before)) lower = lower (omega (arith, same, level)) (omega (arith, before, under))

    at_height : (most : ℕ) → ((i : ℕ) → i < length c.trace.ops → height i ≤ most) → (d o : ℕ) → o < length c.trace.ops → most < height o + d → word_at words o ≡ word_at others o
    at_height most bound zero o inside level = let u = bound o inside in absurd (omega (arith, u, level))
    at_height most bound (suc d) o inside level = along most d (at_height most bound d) (suc o) o inside level (omega arith)

    same_words : words ≡ others
    same_words = ext_get_or 0 words others (one.each ∙ sym two.each) same
      where
        most : (most : ℕ) × ((i : ℕ) → i < length c.trace.ops → height i ≤ most)
        most = bound_below height (length c.trace.ops)

        same : (i : ℕ) → i < length words → word_at words i ≡ word_at others i
        same i l = let e = one.each in at_height most.0 most.1 (suc most.0) i (omega (arith, l, e)) (omega arith)

pub one_placement : OnePlacement
one_placement c m homes mode height words others heights one two = same_words c m homes mode height heights words others one two

pub no_earlier : Tight
no_earlier c m homes mode height words o ready w placed inside is at_least earlier = tight c m homes height mode words o ready w placed inside is at_least earlier
