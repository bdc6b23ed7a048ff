-- A placement in mode Barred has no copies and frees no load.
use Rattle.std.proofs.Common.{◌≡◌, ◌⊎◌, inl, inr, ℕ, zero, suc, ◌+◌, ◌-◌, ◌<◌, ◌≤◌, Bool, true, false, ◌&&◌, Some, List, [], ◌∷◌, length, map, drop, slice_get, slice_index_or, refl, sym, ap, ◌∙◌, subst, arith}
use Rattle.std.specs.Prelude.{◌||◌, nat_lt, nat_le, if◌then◌else◌}
use Rattle.std.specs.List.{filter, list_any}
use Rattle.std.proofs.lemmas.Bool.{ltb-true, cases_Bool}
use Rattle.std.proofs.lemmas.Bool.Decides.{nat_tests}
use Rattle.std.proofs.lemmas.Option.{slice_get_within}
use Rattle.vx_flow.specs.declared.trace.TraceOp.{TraceOp}
use Rattle.vx_flow.specs.declared.trace.TraceOp.TheVariants.{Plain as TracePlain, Split as TraceSplit}
use Rattle.vx_flow.specs.declared.trace.Homes.{Homes}
use Rattle.vx_flow.specs.declared.trace.Join.{Join}
use Rattle.vx_flow.specs.declared.trace.Placed.{Placed}
use Rattle.vx_flow.specs.declared.trace.Trace.{Trace}
use Rattle.vx_flow.specs.Effects.{IsIn}
use Rattle.vx_flow.specs.Walk.{numbers}
use Rattle.vx_flow.specs.Effects.{dismissed}
use Rattle.vx_mixed.specs.declared.region.Item.TheVariants.{Plain, Split}
use Rattle.vx_mixed.specs.Next.{placed}
use Rattle.vx_region.specs.Barring.{placed_as_is}
use Rattle.vx_isa.specs.Numbers.{Numbers}
use Rattle.vx_dep.specs.declared.mode.Mode.TheVariants.{Barred}
use Rattle.vx_dep.specs.declared.copies.EdgeCopies.{EdgeCopies}
use Rattle.vx_dep.specs.declared.copies.Rejoin.{Rejoin}
use Rattle.vx_dep.specs.Delays.{Applies, Stands, leaves, barred_above_split, barred_below_split, barred_below_join}
use Rattle.vx_dep.specs.Compensation.{word_at, splits_from, copies_at_split, copies_at_join, rejoin_word, rejoin_of, at_splits_of, at_joins_of, is_freed, may_be_dismissed, is_dismissible}
use Rattle.vx_region.specs.RegionPlans.{IsPlaced}
use Rattle.vx_region.proofs.CopiedPlaces.{freed_by}
use Rattle.vx_region.proofs.Greatest.{reached}
use Rattle.vx_region.proofs.PlainItems.{some_at}
use Rattle.vx_region.proofs.Waited.{delays_met}

pub filter_none : (q : ℕ → Bool) (b n : ℕ) → ((i : ℕ) → b ≤ i → i < b + n → q i ≡ false) → filter q (numbers b n) ≡ []
filter_none q b zero h = refl
filter_none q b (suc n) h =
    ap (λ z. if z then b ∷ filter q (numbers (b + 1) n) else filter q (numbers (b + 1) n)) (h b (omega arith) (omega arith))
    ∙ filter_none q (b + 1) n (λ i l u. h i (omega (arith, l)) (omega (arith, u)))

pub not_less : (a b : ℕ) → b ≤ a → nat_lt a b ≡ false
not_less a b le = elim (cases_Bool (nat_lt a b)) [ inl t ↦ (let h = ltb-true a b t in absurd (omega (arith, h, le))) | inr f ↦ f ]

module _ (p : Placed) (m : Numbers) (homes : Homes) (is : IsPlaced p.clustered m homes Barred p) where
  abbrev T : Trace
  T = p.clustered.trace

  abbrev W : ℕ → ℕ
  W i = word_at p.words i

  met : (i j delay : ℕ) → Applies m Barred T i j delay → W i + delay ≤ W j
  met i j delay a = delays_met p.clustered m homes Barred is.height p.words i j delay is.heights is.words a

  -- the three rows of the mode

  pub above_split : (i s : ℕ) (op : TraceOp) → i < s → Stands T s op → leaves op ≡ true → W i ≤ W s
  above_split i s op lt at out =
      let there = slice_get_within T.ops s op at in
      let one = some_at T.ops i (omega (arith, lt, there)) in
      let h = met i s 0 (record { one = one.0; two = op; in_order = lt; stands_one = one.1; stands_two = at; row = barred_above_split refl out }) in
      omega (arith, h)

  pub below_split : (s i : ℕ) (op : TraceOp) → s < i → i < length T.ops → Stands T s op → leaves op ≡ true → W s < W i
  below_split s i op lt inside at out =
      let two = some_at T.ops i inside in
      let h = met s i 1 (record { one = op; two = two.0; in_order = lt; stands_one = at; stands_two = two.1; row = barred_below_split refl out }) in
      omega (arith, h)

  pub below_join : (i j : ℕ) (join : Join) → IsIn join T.joins → i < join.place → join.place ≤ j → j < length T.ops → W i < W j
  below_join i j join has lt le inside =
      let one = some_at T.ops i (omega (arith, lt, le, inside)) in
      let two = some_at T.ops j inside in
      let h = met i j 1 (record { one = one.0; two = two.0; in_order = omega (arith, lt, le); stands_one = one.1; stands_two = two.1; row = barred_below_join refl (record { join = join; is = has; above = lt; below = le }) }) in
      omega (arith, h)

  -- splits

  none_at_split : (s : ℕ) (op : TraceOp) → Stands T s op → leaves op ≡ true → copies_at_split p.words s ≡ []
  none_at_split s op at out = filter_none (λ i. nat_lt (W s) (W i)) 0 s (λ i l u. not_less (W s) (W i) (above_split i s op (omega (arith, u)) at out))

  abbrev StandAll : ℕ → List TraceOp → Type 0
  StandAll b ops = (k : ℕ) (op : TraceOp) → slice_get ops k ≡ Some op → Stands T (b + k) op

  rest_stand : (b : ℕ) (op : TraceOp) (ops : List TraceOp) → StandAll b (op ∷ ops) → StandAll (b + 1) ops
  rest_stand b op ops h k x e = let n : b + suc k ≡ b + 1 + k = omega arith in subst (λ z. Stands T z x) n (h (suc k) x e)

  first_stands : (b : ℕ) (op : TraceOp) (ops : List TraceOp) → StandAll b (op ∷ ops) → Stands T b op
  first_stands b op ops h = let n : b + 0 ≡ b = omega arith in subst (λ z. Stands T z op) n (h 0 op refl)

  none_at_splits : (b : ℕ) (ops : List TraceOp) → StandAll b ops → (x : EdgeCopies) → IsIn x (splits_from p.words b ops) → x.copies ≡ []
  none_at_splits b [] h x i = absurd i
  none_at_splits b (TracePlain op ∷ ops) h x i = none_at_splits (b + 1) ops (rest_stand b (TracePlain op) ops h) x i
  none_at_splits b (TraceSplit test y e live ∷ ops) h x (inl q) =
      ap (λ (z : EdgeCopies). z.copies) q ∙ none_at_split b (TraceSplit test y e live) (first_stands b (TraceSplit test y e live) ops h) refl
  none_at_splits b (TraceSplit test y e live ∷ ops) h x (inr i) = none_at_splits (b + 1) ops (rest_stand b (TraceSplit test y e live) ops h) x i

  -- joins

  none_at_join : (join : Join) → IsIn join T.joins → copies_at_join p.words join.place ≡ []
  none_at_join join has = filter_none (λ i. nat_lt (W i) (rejoin_word p.words join.place)) join.place (length p.words - join.place) outside
    where
      outside : (i : ℕ) → join.place ≤ i → i < join.place + (length p.words - join.place) → nat_lt (W i) (rejoin_word p.words join.place) ≡ false
      outside i l u = not_less (W i) (rejoin_word p.words join.place) (by (reached p.words join.place (omega (arith, l, u))))
        where
          by : (rejoin_word p.words join.place ≡ 0) ⊎ ((k : ℕ) × (k < join.place) × (rejoin_word p.words join.place ≡ W k + 1)) → rejoin_word p.words join.place ≤ W i
          by (inl e) = omega (arith, e)
          by (inr (k, lt, e)) =
              let many = is.words.each in
              let h = below_join k i join has lt l (omega (arith, l, u, many)) in
              omega (arith, h, e)

  none_at_joins : (joins : List Join) → ((j : Join) → IsIn j joins → IsIn j T.joins) → (x : Rejoin) → IsIn x (map (rejoin_of p.words) joins) → x.copies ≡ []
  none_at_joins [] h x i = absurd i
  none_at_joins (j ∷ joins) h x (inl q) = ap (λ (z : Rejoin). z.copies) q ∙ none_at_join j (h j (inl refl))
  none_at_joins (j ∷ joins) h x (inr i) = none_at_joins joins (λ k l. h k (inr l)) x i

  -- loads

  both_not : (a b : Bool) → (a ≡ true → b ≡ false) → (a && b) ≡ false
  both_not true b h = h refl
  both_not false b h = refl

  none_freed : (i b : ℕ) (ops : List TraceOp) → i < length T.ops → StandAll b ops → list_any (freed_by p.words i (W i)) (splits_from p.words b ops) ≡ false
  none_freed i b [] inside h = refl
  none_freed i b (TracePlain op ∷ ops) inside h = none_freed i (b + 1) ops inside (rest_stand b (TracePlain op) ops h)
  none_freed i b (TraceSplit test y e live ∷ ops) inside h =
      ap (λ z. z || list_any (freed_by p.words i (W i)) (splits_from p.words (b + 1) ops)) (both_not (nat_lt b i) (nat_le (W i) (W b)) late)
      ∙ none_freed i (b + 1) ops inside (rest_stand b (TraceSplit test y e live) ops h)
    where
      late : nat_lt b i ≡ true → nat_le (W i) (W b) ≡ false
      late t =
          let lt = ltb-true b i t in
          let l = below_split b i (TraceSplit test y e live) lt inside (first_stands b (TraceSplit test y e live) ops h) refl in
          by (nat_le (W i) (W b)) refl l
        where
          by : (z : Bool) → nat_le (W i) (W b) ≡ z → W b < W i → nat_le (W i) (W b) ≡ false
          by false q l = q
          by true q l = grind (arith, nat_tests)

  start : StandAll 0 T.ops
  start k op e = let n : k ≡ 0 + k = omega arith in subst (λ z. Stands T z op) n e

  pub splits_empty : (x : EdgeCopies) → IsIn x (at_splits_of p) → x.copies ≡ []
  splits_empty = none_at_splits 0 T.ops start

  pub joins_empty : (x : Rejoin) → IsIn x (at_joins_of p) → x.copies ≡ []
  joins_empty = none_at_joins T.joins (λ j i. i)

  pub not_freed : (i : ℕ) (op : TraceOp) → slice_get T.ops i ≡ Some op → is_freed p i ≡ false
  not_freed i op at = none_freed i 0 T.ops (slice_get_within T.ops i op at) start

  pub as_before : (i : ℕ) (op : TraceOp) → slice_get T.ops i ≡ Some op → may_be_dismissed p i (Some op) ≡ is_dismissible false op
  as_before i op at = ap (λ z. is_dismissible z op) (not_freed i op at)

  -- the region

  none_before : (w : ℕ) (above : List ℕ) → ((s : ℕ) → IsIn s above → s < w) → list_any (λ s. nat_le w s) above ≡ false
  none_before w [] h = refl
  none_before w (s ∷ above) h = ap (λ z. z || list_any (λ x. nat_le w x) above) (not_le w s (h s (inl refl))) ∙ none_before w above (λ x i. h x (inr i))
    where
      not_le : (w s : ℕ) → s < w → nat_le w s ≡ false
      not_le w s lt = by (nat_le w s) refl lt
        where
          by : (z : Bool) → nat_le w s ≡ z → s < w → nat_le w s ≡ false
          by false q l = q
          by true q l = grind (arith, nat_tests)

  as_is : (to : ℕ → ℕ → ℕ) (b : ℕ) (ops : List TraceOp) (cs ws ds above : List ℕ) → StandAll b ops → ((k : ℕ) → k < length ws → slice_index_or ws k 0 ≡ W (b + k)) →
      ((s k : ℕ) → IsIn s above → k < length ops → s < W (b + k)) → placed to ops cs ws ds above ≡ placed_as_is to ops cs ws ds
  as_is to b [] cs ws ds above stand same below = refl
  as_is to b (op ∷ ops) [] ws ds above stand same below = refl
  as_is to b (op ∷ ops) (c ∷ cs) [] ds above stand same below = refl
  as_is to b (TracePlain op ∷ ops) (c ∷ cs) (w ∷ ws) ds above stand same below =
      ap (λ z. record { word = w; item = Plain (if z then dismissed op else op) c } ∷ placed to ops cs ws ds above) none
      ∙ ap (λ z. record { word = w; item = Plain op c } ∷ z)
      (as_is to (b + 1) ops cs ws ds above (rest_stand b (TracePlain op) ops stand) (λ k l. next_same k l) (λ s k i l. let n : b + suc k ≡ b + 1 + k = omega arith in subst (λ z. s < W z) n (below s (suc k) i (omega (arith, l)))))
    where
      word_is : w ≡ W (b + 0)
      word_is = same 0 (omega arith)

      none : list_any (λ s. nat_le w s) above ≡ false
      none = none_before w above (λ s i. subst (λ z. s < z) (sym word_is) (below s 0 i (omega arith)))

      next_same : (k : ℕ) → k < length ws → slice_index_or ws k 0 ≡ W (b + 1 + k)
      next_same k l = let n : b + suc k ≡ b + 1 + k = omega arith in same (suc k) (omega (arith, l)) ∙ ap W n
  as_is to b (TraceSplit test y e live ∷ ops) (c ∷ cs) (w ∷ ws) ds above stand same below =
      ap (λ z. record { word = w; item = Split test y (record e { to = to e.from e.to }) (slice_index_or ds 0 0) } ∷ z)
      (as_is to (b + 1) ops cs ws (drop 1 ds) (w ∷ above) (rest_stand b (TraceSplit test y e live) ops stand) next_same next_below)
    where
      word_is : w ≡ W b
      word_is = let n : b + 0 ≡ b = omega arith in same 0 (omega arith) ∙ ap W n

      next_same : (k : ℕ) → k < length ws → slice_index_or ws k 0 ≡ W (b + 1 + k)
      next_same k l = let n : b + suc k ≡ b + 1 + k = omega arith in same (suc k) (omega (arith, l)) ∙ ap W n

      next_below : (s k : ℕ) → IsIn s (w ∷ above) → k < length ops → s < W (b + 1 + k)
      next_below s k (inl q) l =
          let x = some_at ops k l in
          let at : Stands T (b + 1 + k) x.0 = rest_stand b (TraceSplit test y e live) ops stand k x.0 x.1 in
          let h = below_split b (b + 1 + k) (TraceSplit test y e live) (omega arith) (slice_get_within T.ops (b + 1 + k) x.0 at) (first_stands b (TraceSplit test y e live) ops stand) refl in
          let s_is : s ≡ W b = q ∙ word_is in
          omega (arith, h, s_is)
      next_below s k (inr i) l = let n : b + suc k ≡ b + 1 + k = omega arith in subst (λ z. s < W z) n (below s (suc k) i (omega (arith, l)))

  pub as_in_trace : (to : ℕ → ℕ → ℕ) (clusters drains : List ℕ) → placed to T.ops clusters p.words drains [] ≡ placed_as_is to T.ops clusters p.words drains
  as_in_trace to clusters drains = as_is to 0 T.ops clusters p.words drains [] start (λ k l. let n : k ≡ 0 + k = omega arith in ap W n) (λ s k i l. absurd i)
