-- Accesses that stand in words that do not meet their delay never touch one word: their forms never name one.
use Rattle.std.proofs.Common.{◌≡◌, ◌⊎◌, inl, inr, ℕ, zero, suc, ◌+◌, ◌<◌, ◌≤◌, true, ◌&&◌, Option, Some, None, List, [], ◌∷◌, drop, slice_get, refl, ap, ◌∙◌, subst, arith}
use Rattle.std.specs.Prelude.{◌||◌, nat_lt}
use Rattle.std.proofs.lemmas.Bool.{false≢true, ltb-true, and_parts}
use Rattle.vx_flow.specs.declared.trace.TraceOp.{TraceOp}
use Rattle.vx_flow.specs.declared.trace.TraceOp.TheVariants.{Plain, Split}
use Rattle.vx_flow.specs.declared.trace.Trace.{Trace}
use Rattle.vx_flow.specs.Apart.{StandApart}
use Rattle.vx_flow.specs.Effects.{State, Setting, Location, Cell}
use Rattle.vx_flow.proofs.SoundLists.{or_parts}
use Rattle.vx_isa.specs.Numbers.{Numbers}
use Rattle.vx_linear.specs.InOrder.{in_order, state_before, Touches}
use Rattle.vx_linear.proofs.Apart.{never_law}
use Rattle.vx_motion.specs.Items.{item_takes, item_gives, calm}
use Rattle.vx_motion.specs.Trace.{nth, order}
use Rattle.vx_motion.specs.Rows.{NeverApart}
use Rattle.vx_motion.specs.Compensation.{is_join_place}
use Rattle.vx_mixed.specs.TraceItems.{plain_item, plain_items}
use Rattle.vx_motion.proofs.OrderShape.{inert_reads, inert_writes}
use Rattle.vx_dep.specs.declared.mode.Mode.{Mode}
use Rattle.vx_dep.specs.Delays.{is_load, is_store, Applies, NeverMeet, access_behind_store, store_behind_load}
use Rattle.vx_dep.specs.Compensation.{word_at}
use Rattle.vx_region.proofs.PlainItems.{drop_plain}
use Rattle.vx_region.proofs.Table.{never_of, never_at}

-- runs in order

calm_is : (setting : Setting) (s : State) (op : TraceOp) → calm setting s (plain_item op) ≡ in_order setting s op
calm_is setting s (Plain op) = refl
calm_is setting s (Split test leaves_when edge live) = refl

order_is : (setting : Setting) (ops : List TraceOp) (s : State) (k : ℕ) → order setting (plain_items ops) s k ≡ state_before setting ops s k
order_is setting ops s zero = refl
order_is setting [] s (suc k) = refl
order_is setting (op ∷ ops) s (suc k) = order_is setting ops (calm setting s (plain_item op)) k ∙ ap (λ z. state_before setting ops z k) (calm_is setting s op)

touched : (setting : Setting) (s : State) (op : TraceOp) (l : Location) → item_takes setting s (plain_item op) l ⊎ item_gives setting s (plain_item op) l → Touches setting s (Some op) l
touched setting s (Plain op) l h = h
touched setting s (Split test leaves_when edge live) l (inl h) = h
touched setting s (Split test leaves_when edge live) l (inr h) = h

touches_at : (setting : Setting) (s : State) (ops : List TraceOp) (k : ℕ) (l : Location) → item_takes setting s (nth (plain_items ops) k) l ⊎ item_gives setting s (nth (plain_items ops) k) l → Touches setting s (slice_get ops k) l
touches_at setting s [] k l (inl h) = absurd (inert_reads setting s l (inr h))
touches_at setting s [] k l (inr h) = absurd (inert_writes setting s l (inr h))
touches_at setting s (op ∷ ops) zero l h = touched setting s op l h
touches_at setting s (op ∷ ops) (suc k) l h = touches_at setting s ops k l h

-- what the test says

record Unmet (o p : Option TraceOp) (v w : ℕ) : Type 0 where
  one : TraceOp
  two : TraceOp
  is_one : o ≡ Some one
  is_two : p ≡ Some two
  kind : ((is_store one ≡ true) × ((is_load two ≡ true) ⊎ (is_store two ≡ true)) × (w < v + 1)) ⊎ ((is_load one ≡ true) × (is_store two ≡ true) × (w < v))

unmet : (o p : Option TraceOp) (v w : ℕ) → never_of o p v w ≡ true → Unmet o p v w
unmet None p v w h = absurd (false≢true h)
unmet (Some a) None v w h = absurd (false≢true h)
unmet (Some a) (Some b) v w h = record { one = a; two = b; is_one = refl; is_two = refl; kind = by (or_parts (is_store a && ((is_load b || is_store b) && nat_lt w (v + 1))) (is_load a && (is_store b && nat_lt w v)) h) }
  where
    by : ((is_store a && ((is_load b || is_store b) && nat_lt w (v + 1))) ≡ true) ⊎ ((is_load a && (is_store b && nat_lt w v)) ≡ true) → ((is_store a ≡ true) × ((is_load b ≡ true) ⊎ (is_store b ≡ true)) × (w < v + 1)) ⊎ ((is_load a ≡ true) × (is_store b ≡ true) × (w < v))
    by (inl x) =
        let p = and_parts (is_store a) ((is_load b || is_store b) && nat_lt w (v + 1)) x in
        let q = and_parts (is_load b || is_store b) (nat_lt w (v + 1)) p.1 in
        inl (p.0, or_parts (is_load b) (is_store b) q.0, ltb-true w (v + 1) q.1)
    by (inr x) =
        let p = and_parts (is_load a) (is_store b && nat_lt w v) x in
        let q = and_parts (is_store b) (nat_lt w v) p.1 in
        inr (p.0, q.0, ltb-true w v q.1)

module _ (m : Numbers) (mode : Mode) (t : Trace) (words : List ℕ) (met : (i j d : ℕ) → Applies m mode t i j d → word_at words i + d ≤ word_at words j) where
  -- a pair of accesses that does not meet its delay has none
  never_meets : (i j : ℕ) → i < j → never_at t.ops words i j ≡ true → (NeverMeet t i j → ⊥) → ⊥
  never_meets i j lt h not = by u.kind
    where
      u : Unmet (slice_get t.ops i) (slice_get t.ops j) (word_at words i) (word_at words j)
      u = unmet (slice_get t.ops i) (slice_get t.ops j) (word_at words i) (word_at words j) h

      by : ((is_store u.one ≡ true) × ((is_load u.two ≡ true) ⊎ (is_store u.two ≡ true)) × (word_at words j < word_at words i + 1)) ⊎ ((is_load u.one ≡ true) × (is_store u.two ≡ true) × (word_at words j < word_at words i)) → ⊥
      by (inl (x, y, less)) =
          let k = met i j 1 (record { one = u.one; two = u.two; in_order = lt; stands_one = u.is_one; stands_two = u.is_two; row = access_behind_store x y not }) in
          omega (arith, less, k)
      by (inr (x, y, less)) =
          let k = met i j 0 (record { one = u.one; two = u.two; in_order = lt; stands_one = u.is_one; stands_two = u.is_two; row = store_behind_load x y not }) in
          omega (arith, less, k)

  pub never_apart : (setting : Setting) → StandApart t.arrays setting.spot → (q : ℕ) → ((q ≡ 0) ⊎ (is_join_place t.joins q ≡ true)) → NeverApart setting (plain_items t.ops) (never_at t.ops words) q
  never_apart setting far q enters s i j a c lt never at_i at_j = never_meets (q + i) (q + j) (omega (arith, lt)) never meets
    where
      part : List TraceOp
      part = drop q t.ops

      touch : (k : ℕ) → item_takes setting (order setting (drop q (plain_items t.ops)) s k) (nth (drop q (plain_items t.ops)) k) (Cell a c) ⊎ item_gives setting (order setting (drop q (plain_items t.ops)) s k) (nth (drop q (plain_items t.ops)) k) (Cell a c) →
          Touches setting (state_before setting part s k) (slice_get part k) (Cell a c)
      touch k h =
          let first = subst (λ z. item_takes setting (order setting z s k) (nth z k) (Cell a c) ⊎ item_gives setting (order setting z s k) (nth z k) (Cell a c)) (drop_plain q t.ops) h in
          let second = touches_at setting (order setting (plain_items part) s k) part k (Cell a c) first in
          subst (λ z. Touches setting z (slice_get part k) (Cell a c)) (order_is setting part s k) second

      meets : NeverMeet t (q + i) (q + j) → ⊥
      meets x = never_law t setting q s i j x.one x.two far enters x.form_one x.form_two x.never a c (touch i at_i) (touch j at_j)
