-- Each row of the table that lets operations move is a row of the delays, so that words that meet the delays meet the table.
use Rattle.std.proofs.Common.{◌≡◌, ◌⊎◌, inl, inr, ℕ, ◌+◌, ◌<◌, ◌≤◌, Bool, true, false, ◌&&◌, Option, Some, None, List, length, slice_get, refl, sym, ap, ◌∙◌, subst, arith}
use Rattle.std.specs.Prelude.{◌||◌, nat_lt, nat_eq}
use Rattle.std.proofs.lemmas.Bool.{false≢true, true≢false, ltb-false, eqb-true}
use Rattle.vx_flow.specs.declared.trace.TraceOp.{TraceOp}
use Rattle.vx_flow.specs.declared.trace.Join.{Join}
use Rattle.vx_flow.specs.declared.trace.Trace.{Trace}
use Rattle.vx_flow.specs.Effects.{IsIn}
use Rattle.vx_flow.proofs.SoundLists.{any_in, or_left, or_right}
use Rattle.vx_isa.specs.Numbers.{Numbers}
use Rattle.vx_room.specs.Items.{latency_of_op}
use Rattle.vx_mixed.specs.declared.region.Item.{Item}
use Rattle.vx_mixed.specs.Live.{item_reads, item_writes}
use Rattle.vx_motion.specs.Trace.{nth}
use Rattle.vx_motion.specs.Facts.{IsSplit}
use Rattle.vx_motion.specs.Rows.{IsObservable, IsLoad, IsStore, Row, reads_last, writes_too, writes_read, store_access, load_store, observables, two_splits, split_held, below_join, split_live, Meets}
use Rattle.vx_mixed.specs.Way.{item_latency}
use Rattle.vx_motion.specs.Compensation.{live_of, is_join_place}
use Rattle.vx_mixed.specs.TraceItems.{plain_item, plain_items}
use Rattle.vx_dep.specs.declared.mode.Mode.{Mode}
use Rattle.vx_dep.specs.Delays.{writes_of, is_load, is_store, is_observable, leaves, latency_of, between_splits, JoinBetween, Applies, Row as DelayRow, reads_written, writes_written, writes_read as writes_what_is_read, both_observable, both_splits, seen_behind_split, live_behind_split, seen_behind_join}
use Rattle.vx_dep.specs.Compensation.{word_at}
use Rattle.vx_region.proofs.PlainItems.{plain_many, nth_at, some_at, writes_there, writes_back, reads_there, live_there, latency_there, split_there, store_there, load_there, observable_there}

-- Two accesses of which one is a store never touch one word where they stand in words that do not meet the delay that they
-- would have: so no form need be compared.
abbrev pub never_of : Option TraceOp → Option TraceOp → ℕ → ℕ → Bool
never_of None o v w = false
never_of (Some a) None v w = false
never_of (Some a) (Some b) v w = (is_store a && ((is_load b || is_store b) && nat_lt w (v + 1))) || (is_load a && (is_store b && nat_lt w v))

abbrev pub never_at : List TraceOp → List ℕ → ℕ → ℕ → Bool
never_at ops words i j = never_of (slice_get ops i) (slice_get ops j) (word_at words i) (word_at words j)

unmet_left : (p q r s : Bool) → p ≡ true → q ≡ true → ((p && (q && r)) || s) ≡ false → r ≡ false
unmet_left true true true s a b h = h
unmet_left true true false s a b h = refl
unmet_left true false r s a b h = absurd (false≢true b)
unmet_left false q r s a b h = absurd (false≢true a)

unmet_right : (p q r s : Bool) → p ≡ true → q ≡ true → (s || (p && (q && r))) ≡ false → r ≡ false
unmet_right p q r true a b h = absurd (true≢false h)
unmet_right true true true false a b h = h
unmet_right true true false false a b h = refl
unmet_right true false r false a b h = absurd (false≢true b)
unmet_right false q r false a b h = absurd (false≢true a)

module _ (m : Numbers) (mode : Mode) (t : Trace) (words : List ℕ) (met : (i j d : ℕ) → Applies m mode t i j d → word_at words i + d ≤ word_at words j) where
  abbrev Is : List Item
  Is = plain_items t.ops

  abbrev Lives : ℕ → ℕ → Type 0
  Lives e v = IsIn v (live_of (slice_get t.ops e))

  module _ (i j : ℕ) (before : i < j) (a b : TraceOp) (at_a : slice_get t.ops i ≡ Some a) (at_b : slice_get t.ops j ≡ Some b) where
    applies : (d : ℕ) → DelayRow m mode t i j a b d → word_at words i + d ≤ word_at words j
    applies d row = met i j d (record { one = a; two = b; in_order = before; stands_one = at_a; stands_two = at_b; row = row })

    first : nth Is i ≡ plain_item a
    first = nth_at t.ops i a at_a

    second : nth Is j ≡ plain_item b
    second = nth_at t.ops j b at_b

    never_false : never_at t.ops words i j ≡ false → never_of (Some a) (Some b) (word_at words i) (word_at words j) ≡ false
    never_false h = subst (λ z. never_of (Some a) z (word_at words i) (word_at words j) ≡ false) at_b (subst (λ z. never_of z (slice_get t.ops j) (word_at words i) (word_at words j) ≡ false) at_a h)

    writes_a : (v : ℕ) → IsIn v (item_writes (nth Is i)) → IsIn v (writes_of a)
    writes_a v h = writes_there a v (subst (λ z. IsIn v (item_writes z)) first h)

    writes_b : (v : ℕ) → IsIn v (item_writes (nth Is j)) → IsIn v (writes_of b)
    writes_b v h = writes_there b v (subst (λ z. IsIn v (item_writes z)) second h)

    takes : (v : ℕ) → IsIn v (writes_of a) → item_latency (latency_of_op m) (nth Is i) ≡ latency_of m a
    takes v h = ap (item_latency (latency_of_op m)) first ∙ latency_there m a v h

    split_a : IsSplit (nth Is i) → leaves a ≡ true
    split_a h = split_there a (subst IsSplit first h)

    access_b : IsLoad (nth Is j) ⊎ IsStore (nth Is j) → (is_load b || is_store b) ≡ true
    access_b (inl h) = or_left (is_load b) (is_store b) (load_there b (subst IsLoad second h))
    access_b (inr h) = or_right (is_load b) (is_store b) (store_there b (subst IsStore second h))

    held_b : IsStore (nth Is j) ⊎ IsObservable (nth Is j) → (is_store b ≡ true) ⊎ (is_observable b ≡ true)
    held_b (inl h) = inl (store_there b (subst IsStore second h))
    held_b (inr h) = inr (observable_there b (subst IsObservable second h))

    seen_b : IsSplit (nth Is j) ⊎ IsObservable (nth Is j) → (is_observable b ≡ true) ⊎ (leaves b ≡ true)
    seen_b (inl h) = inr (split_there b (subst IsSplit second h))
    seen_b (inr h) = inl (observable_there b (subst IsObservable second h))

    last_writer : (v : ℕ) → ((k : ℕ) → i < k → k < j → IsIn v (item_writes (nth Is k)) → ⊥) → (k : ℕ) (op : TraceOp) → i < k → k < j → slice_get t.ops k ≡ Some op → IsIn v (writes_of op) → ⊥
    last_writer v last k op lo hi at_k h = last k lo hi (subst (λ z. IsIn v (item_writes z)) (sym (nth_at t.ops k op at_k)) (writes_back op v h))

    between : (q : ℕ) → is_join_place t.joins q ≡ true → i < q → q ≤ j → JoinBetween t i j
    between q h lo hi =
        let f = any_in (λ (x : Join). nat_eq x.place q) t.joins h in
        let e : f.item.place ≡ q = eqb-true f.item.place q f.holds in
        record { join = f.item; is = f.has; above = omega (arith, e, lo); below = omega (arith, e, hi) }

    by_row : (d : ℕ) → Row Is (item_latency (latency_of_op m)) Lives (never_at t.ops words) (is_join_place t.joins) i j d → word_at words i + d ≤ word_at words j
    by_row d (reads_last v x y last) =
        let w = writes_a v x in
        let l = takes v w in
        let h = applies (latency_of m a) (reads_written v w (reads_there b v (subst (λ z. IsIn v (item_reads z)) second y)) (last_writer v last)) in
        omega (arith, l, h)
    by_row d (writes_too v x y) =
        let w = writes_a v x in
        let l = takes v w in
        let h = applies (latency_of m a) (writes_written v w (writes_b v y)) in
        omega (arith, l, h)
    by_row d (writes_read v x y) = applies 0 (writes_what_is_read v (reads_there a v (subst (λ z. IsIn v (item_reads z)) first x)) (writes_b v y))
    by_row d (store_access x y n) =
        let r = unmet_left (is_store a) (is_load b || is_store b) (nat_lt (word_at words j) (word_at words i + 1)) (is_load a && (is_store b && nat_lt (word_at words j) (word_at words i))) (store_there a (subst IsStore first x)) (access_b y) (never_false n) in
        ltb-false (word_at words j) (word_at words i + 1) r
    by_row d (load_store x y n) =
        let r = unmet_right (is_load a) (is_store b) (nat_lt (word_at words j) (word_at words i)) (is_store a && ((is_load b || is_store b) && nat_lt (word_at words j) (word_at words i + 1))) (load_there a (subst IsLoad first x)) (store_there b (subst IsStore second y)) (never_false n) in
        let h = ltb-false (word_at words j) (word_at words i) r in
        omega (arith, h)
    by_row d (observables x y) = applies 1 (both_observable (observable_there a (subst IsObservable first x)) (observable_there b (subst IsObservable second y)))
    by_row d (two_splits x y) = let h = applies (between_splits m) (both_splits (split_a x) (split_there b (subst IsSplit second y))) in omega (arith, h)
    by_row d (split_held x y) = applies 1 (seen_behind_split (split_a x) (held_b y))
    by_row d (below_join q joins lo hi y) = applies 1 (seen_behind_join (between q joins lo hi) (seen_b y))
    by_row d (split_live v x l y) = applies 1 (live_behind_split v (split_a x) (live_there a v (subst (λ z. IsIn v (live_of z)) at_a l)) (writes_b v y))

  pub table_met : (word : ℕ → ℕ) → ((k : ℕ) → k < length t.ops → word k ≡ word_at words k) → Meets Is (item_latency (latency_of_op m)) Lives (never_at t.ops words) (is_join_place t.joins) word
  table_met word same i j d before inside row =
      let many = plain_many t.ops in
      let x = some_at t.ops i (omega (arith, many, before, inside)) in
      let y = some_at t.ops j (omega (arith, many, inside)) in
      let u = same i (omega (arith, many, before, inside)) in
      let v = same j (omega (arith, many, inside)) in
      let h = by_row i j before x.0 y.0 x.1 y.1 d row in
      omega (arith, u, v, h)
