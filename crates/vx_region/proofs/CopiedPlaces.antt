-- The places that are copied, and the operations that stand there.
use Rattle.std.proofs.Common.{◌≡◌, inl, inr, ℕ, zero, suc, ◌+◌, ◌<◌, ◌≤◌, Bool, true, false, ◌&&◌, cond, Some, List, [], ◌∷◌, ◌++◌, length, map, drop, slice_get, slice_index_or, refl, sym, ap, ◌∙◌, subst, arith}
use Rattle.std.specs.Prelude.{◌||◌, nat_lt, nat_le, if◌then◌else◌}
use Rattle.std.specs.List.{filter, flat_map, list_any}
use Rattle.std.proofs.lemmas.Bool.{lt-ltb, ltb-true, cases_Bool}
use Rattle.vx_flow.specs.declared.graph.Op.{Op}
use Rattle.vx_flow.specs.declared.trace.TraceOp.{TraceOp}
use Rattle.vx_flow.specs.declared.trace.TraceOp.TheVariants.{Plain as TracePlain, Split as TraceSplit}
use Rattle.vx_flow.specs.Walk.{numbers}
use Rattle.vx_mixed.specs.declared.region.Item.{Item}
use Rattle.vx_motion.specs.Trace.{nth}
use Rattle.vx_motion.specs.Facts.{ops_of, copies}
use Rattle.vx_mixed.specs.Next.{freed}
use Rattle.vx_mixed.specs.TraceItems.{plain_item, plain_items}
use Rattle.vx_motion.proofs.PlacedWords.{marks}
use Rattle.vx_dep.specs.declared.copies.EdgeCopies.{EdgeCopies}
use Rattle.vx_dep.specs.Compensation.{word_at, splits_from}
use Rattle.vx_region.specs.Planned.{op_of, dismissed_if}

-- copies by a filter on places

pub copies_are : (f : ℕ → List Op) (p chosen : ℕ → Bool) (put : ℕ → Item) (b n : ℕ) → ((i : ℕ) → b ≤ i → i < b + n → p i ≡ chosen i) → ((i : ℕ) → b ≤ i → i < b + n → f i ≡ ops_of (put i)) → flat_map f (filter p (numbers b n)) ≡ copies chosen put b n
copies_are f p chosen put b zero same what = refl
copies_are f p chosen put b (suc n) same what =
    let next : b + 1 ≡ suc b = omega arith in
    by (p b) refl ∙ ap (λ z. z ++ flat_map f (filter p (numbers (b + 1) n))) (ap (λ c. cond c (f b) []) (same b (omega arith) (omega arith)) ∙ ap (λ z. cond (chosen b) z []) (what b (omega arith) (omega arith)))
    ∙ ap (λ z. cond (chosen b) (ops_of (put b)) [] ++ flat_map f (filter p (numbers z n))) next
    ∙ ap (λ z. cond (chosen b) (ops_of (put b)) [] ++ z) (copies_are f p chosen put (suc b) n (λ i l u. same i (omega (arith, l)) (omega (arith, u))) (λ i l u. what i (omega (arith, l)) (omega (arith, u))))
  where
    by : (c : Bool) → p b ≡ c → flat_map f (filter p (numbers b (suc n))) ≡ cond (p b) (f b) [] ++ flat_map f (filter p (numbers (b + 1) n))
    by true e = ap (λ c. flat_map f (if c then b ∷ filter p (numbers (b + 1) n) else filter p (numbers (b + 1) n))) e ∙ ap (λ c. cond c (f b) [] ++ flat_map f (filter p (numbers (b + 1) n))) (sym e)
    by false e = ap (λ c. flat_map f (if c then b ∷ filter p (numbers (b + 1) n) else filter p (numbers (b + 1) n))) e ∙ ap (λ c. cond c (f b) [] ++ flat_map f (filter p (numbers (b + 1) n))) (sym e)

-- as it stands in the trace

op_is : (op : TraceOp) → op_of (Some op) ≡ ops_of (plain_item op)
op_is (TracePlain op) = refl
op_is (TraceSplit p y e live) = refl

pub op_at : (ops : List TraceOp) (k : ℕ) → k < length ops → op_of (slice_get ops k) ≡ ops_of (nth (plain_items ops) k)
op_at [] k lt = absurd (omega arith)
op_at (op ∷ ops) zero lt = op_is op
op_at (op ∷ ops) (suc k) lt = op_at ops k (omega (arith, lt))

-- as it stands in the region: dismissible where a split stood above it that is not in an earlier word

abbrev pub freed_by : List ℕ → ℕ → ℕ → EdgeCopies → Bool
freed_by words i w s = nat_lt s.split i && nat_le w (word_at words s.split)

none_later : (words : List ℕ) (i w b : ℕ) (ops : List TraceOp) → i ≤ b → list_any (freed_by words i w) (splits_from words b ops) ≡ false
none_later words i w b [] le = refl
none_later words i w b (TracePlain op ∷ ops) le = none_later words i w (b + 1) ops (omega (arith, le))
none_later words i w b (TraceSplit p y e live ∷ ops) le =
    ap (λ z. (z && nat_le w (word_at words b)) || list_any (freed_by words i w) (splits_from words (b + 1) ops)) (not_less b i le) ∙ none_later words i w (b + 1) ops (omega (arith, le))
  where
    not_less : (b i : ℕ) → i ≤ b → nat_lt b i ≡ false
    not_less b i le = elim (cases_Bool (nat_lt b i)) [ inl t ↦ (let h = ltb-true b i t in absurd (omega (arith, h, le))) | inr f ↦ f ]

moved_over : (a x z g : Bool) → x ≡ true → ((z || a) || g) ≡ (a || ((x && z) || g))
moved_over true true true g e = refl
moved_over true true false g e = refl
moved_over false true true g e = refl
moved_over false true false g e = refl
moved_over a false z g e = absurd (cc)

no_more : (a g : Bool) → g ≡ false → a ≡ (a || g)
no_more true g e = refl
no_more false g e = sym e

module _ (whole : List ℕ) (to : ℕ → ℕ → ℕ) where
  abbrev pub In : List ℕ → ℕ → List TraceOp → Type 0
  In words b ops = (k : ℕ) → k < length ops → slice_index_or words k 0 ≡ word_at whole (b + k)

  pub marked_op : (ops : List TraceOp) (cs words ds above : List ℕ) (b k : ℕ) → length cs ≡ length ops → length words ≡ length ops → In words b ops → k < length ops →
      ops_of (nth (marks to ops cs words ds above) k) ≡ map (dismissed_if (list_any (λ s. nat_le (word_at whole (b + k)) s) above || list_any (freed_by whole (b + k) (word_at whole (b + k))) (splits_from whole b ops))) (op_of (slice_get ops k))
  marked_op [] cs words ds above b k c w h lt = absurd (omega arith)
  marked_op (op ∷ ops) [] words ds above b k c w h lt = absurd (omega arith)
  marked_op (op ∷ ops) (x ∷ cs) [] ds above b k c w h lt = absurd (omega arith)
  marked_op (TracePlain op ∷ ops) (x ∷ cs) (v ∷ words) ds above b zero c w h lt =
      let v_is : v ≡ word_at whole (b + 0) = h 0 (omega arith) in
      ap (λ z. freed z above op ∷ []) v_is
      ∙ ap (λ z. dismissed_if z op ∷ []) (no_more (list_any (λ s. nat_le (word_at whole (b + 0)) s) above) (list_any (freed_by whole (b + 0) (word_at whole (b + 0))) (splits_from whole b (TracePlain op ∷ ops))) (none_later whole (b + 0) (word_at whole (b + 0)) b (TracePlain op ∷ ops) (omega arith)))
  marked_op (TraceSplit p y e live ∷ ops) (x ∷ cs) (v ∷ words) ds above b zero c w h lt = refl
  marked_op (TracePlain op ∷ ops) (x ∷ cs) (v ∷ words) ds above b (suc k) c w h lt =
      let q : b + 1 + k ≡ b + suc k = omega arith in
      subst (λ z. ops_of (nth (marks to ops cs words ds above) k) ≡ map (dismissed_if (list_any (λ s. nat_le (word_at whole z) s) above || list_any (freed_by whole z (word_at whole z)) (splits_from whole (b + 1) ops))) (op_of (slice_get ops k))) q
      (marked_op ops cs words ds above (b + 1) k (omega (arith, c)) (omega (arith, w)) (λ j l. let r : b + 1 + j ≡ b + suc j = omega arith in h (suc j) (omega (arith, l)) ∙ ap (word_at whole) (sym r)) (omega (arith, lt)))
  marked_op (TraceSplit p y e live ∷ ops) (x ∷ cs) (v ∷ words) ds above b (suc k) c w h lt =
      let q : b + 1 + k ≡ b + suc k = omega arith in
      let i = b + suc k in
      let v_is : v ≡ word_at whole b = (let z : b + 0 ≡ b = omega arith in h 0 (omega arith) ∙ ap (word_at whole) z) in
      let rest = subst (λ z. ops_of (nth (marks to ops cs words (drop 1 ds) (v ∷ above)) k) ≡ map (dismissed_if (list_any (λ s. nat_le (word_at whole z) s) (v ∷ above) || list_any (freed_by whole z (word_at whole z)) (splits_from whole (b + 1) ops))) (op_of (slice_get ops k))) q
      (marked_op ops cs words (drop 1 ds) (v ∷ above) (b + 1) k (omega (arith, c)) (omega (arith, w)) (λ j l. let r : b + 1 + j ≡ b + suc j = omega arith in h (suc j) (omega (arith, l)) ∙ ap (word_at whole) (sym r)) (omega (arith, lt))) in
      rest
      ∙ ap (λ u. map (dismissed_if ((nat_le (word_at whole i) u || list_any (λ s. nat_le (word_at whole i) s) above) || list_any (freed_by whole i (word_at whole i)) (splits_from whole (b + 1) ops))) (op_of (slice_get ops k))) v_is
      ∙ ap (λ u. map (dismissed_if u) (op_of (slice_get ops k))) (moved_over (list_any (λ s. nat_le (word_at whole i) s) above) (nat_lt b i) (nat_le (word_at whole i) (word_at whole b)) (list_any (freed_by whole i (word_at whole i)) (splits_from whole (b + 1) ops)) (lt-ltb b i (omega arith)))
