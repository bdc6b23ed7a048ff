-- Where a region that is entered leaves, and with what.
use Rattle.std.proofs.Common.{◌≡◌, ℕ, suc, ◌+◌, ◌-◌, ◌<◌, ◌≤◌, Bool, true, Some, List, length, refl, sym, ap, ◌∙◌, subst, ⊎_elim, inl, inr, arith}
use Rattle.std.specs.Prelude.{nat_lt}
use Rattle.std.proofs.lemmas.Bool.{cases_order}
use Rattle.vx_flow.specs.Effects.{State, Setting, IsIn, Location, at}
use Rattle.vx_flow.specs.declared.graph.Edge.{Edge}
use Rattle.vx_flow.specs.declared.graph.Exit.{Exit}
use Rattle.vx_mixed.specs.declared.region.Item.{Item}
use Rattle.vx_mixed.specs.declared.region.Item.TheVariants.{Split}
use Rattle.vx_mixed.specs.declared.region.Region.{Region}
use Rattle.vx_flow.specs.Meaning.{Arrives, leave, block_hop}
use Rattle.vx_mixed.specs.Meaning.{taken, leaves_on, after_word, early_words}
use Rattle.vx_mixed.specs.Live.{item_reads}
use Rattle.vx_base.specs.Schedule.{through}
use Rattle.vx_base.proofs.Leaving.{exactly_through}
use Rattle.vx_motion.specs.Items.{Fine, Reads, Writes, Marked, as_it_is, dismissible, split, Safe}
use Rattle.vx_mixed.specs.Agree.{SameShape}
use Rattle.vx_motion.specs.Trace.{nth, order}
use Rattle.vx_motion.specs.Facts.{RowFacts, IsSplit, row, words_from, copies}
use Rattle.vx_motion.proofs.Times.{ways}
use Rattle.vx_motion.proofs.Delays.{delayed, in_trace, harmless_is_safe, split_is_safe}
use Rattle.vx_motion.proofs.InWords.{holds}
use Rattle.vx_motion.proofs.Entered.{U, quiet, table, word_on, test, to_word, to_rejoin, split_copies, join_copies, first_out, leaves_grow, Quiet}
use Rattle.vx_motion.proofs.Passing.{Passes}
use Rattle.vx_motion.proofs.AtTimes.{at_time, form}

-- the split as it is placed
split_form : (i i' : Item) (p : ℕ) (edge : Edge) (d : ℕ) (y : Bool) → Marked i i' → i ≡ Split p y edge d → (other : Edge) × (g : ℕ) × (i' ≡ Split p y other g)
split_form i i' p edge d y as_it_is e = absurd (cc)
split_form i i' p edge d y dismissible e = absurd (cc)
split_form i i' p edge d y (split {p = q} {d' = g} {edge' = other} {y = u}) e =
    let ep : q ≡ p = cc in
    let ew : u ≡ y = cc in
    (other, g, ap (λ z. Split z u other g) ep ∙ ap (λ z. Split p z other g) ew)

is_split : (i : Item) (p : ℕ) (edge : Edge) (d : ℕ) (y : Bool) → i ≡ Split p y edge d → IsSplit i
is_split i p edge d y e = subst IsSplit (sym e) tt

module _ (setting : Setting) (is : List Item) (word : ℕ → ℕ) (mark : ℕ → Item) (latency : Item → ℕ) (last : ℕ) (After : ℕ → ℕ → Type 0) (facts : RowFacts setting is word mark latency last After) (r : ℕ) (s t : State) (same : SameShape s t) (Wanted : Location → Type 0) (start : (l : Location) → Wanted l → Fine l (at s l) (at t l)) (wants : (o : ℕ) (l : Location) → Reads setting (order setting is s o) (nth is o) l → ((k : ℕ) → k < o → Writes setting (order setting is s k) (nth is k) l → ⊥) → Wanted l) where
  abbrev W : ℕ → Location → Type 0
  W k l = Writes setting (order setting is s k) (nth is k) l

  -- by the split at place e
  module _ (e p : ℕ) (edge : Edge) (d : ℕ) (y : Bool) (at_e : nth is e ≡ Split p y edge d) (in_e : e < length is) (late : r ≤ word e) (passes : (k : ℕ) → k < e → Passes setting (order setting is s k) (nth is k)) where
    pub late_ : r ≤ word e + 1
    late_ = omega arith

    pub reach : word e ≤ last
    reach = let h = facts.inside e in_e in omega arith

    pub speculated : (k : ℕ) → e ≤ k → word k ≤ word e → (u : State) → Safe setting u (mark k)
    speculated k le h u =
        ⊎_elim
        (λ q. split_is_safe setting u (nth is k) (mark k) (facts.marked k) (subst (λ z. IsSplit (nth is z)) q (is_split (nth is e) p edge d y at_e)))
        (λ x. ⊎_elim
        (λ lt. harmless_is_safe setting u (mark k) (facts.early e k lt (is_split (nth is e) p edge d y at_e) h))
        (λ gt. absurd (omega arith))
        x)
        (cases_order e k)

    wants_ : (o : ℕ) (l : Location) → through word (length is) r (word e) e o < length is + (word e + 1 + e) → Reads setting (order setting is s o) (nth is o) l → ((k : ℕ) → k < o → Writes setting (order setting is s k) (nth is k) l → ⊥) → Wanted l
    wants_ o l lt rd none = wants o l rd none

    abbrev pub X : ℕ → State
    X = U setting is word mark latency last After facts r (word e) e late_ reach s t same passes speculated

    only_passed : (j k : ℕ) → j < word e → r ≤ j → word k ≡ j → k < length is → IsSplit (nth is k) → k < e
    only_passed j k lt lo q hi sp =
        ⊎_elim
        (λ same_place. absurd (let h : word e ≡ word k = ap word same_place in omega arith))
        (λ x. ⊎_elim
        (λ more. absurd (let h = facts.splits e k more (is_split (nth is e) p edge d y at_e) sp in omega arith))
        (λ a. a)
        x)
        (cases_order e k)

    -- a made block on the joining edge
    pub by_join : (b : ℕ) (x : Exit) → block_hop setting b (copies (λ k. nat_lt (word k) r) mark 0 (length is)) x t ≡ leave b x (X (length is))
    by_join b x = join_copies setting is word mark latency last After facts r (word e) e late_ reach s t same passes speculated Wanted start wants_ b x

    -- from the rejoin word the region leaves by this very split
    pub leaves_by : leaves_on ((order setting is s e).values p) y ≡ Some true → (reg : Region) → (other : Edge) × (g : ℕ) × (mark e ≡ Split p y other g) × (early_words setting reg (words_from (row word mark 0 (length is)) r (last - r)) (X (length is)) ≡ Arrives other.from other.to (X (length is + (word e + 1))))
    leaves_by out reg =
        let f = split_form (nth is e) (mark e) p edge d y (facts.marked e) at_e in
        let other = f.0 in let g = f.1 in
        let n = length is in
        let w = word e in
        let below = facts.inside e in_e in
        let rest : last - r ≡ (w - r) + suc (last - (w + 1)) = omega arith in
        let there = to_rejoin setting is word mark latency last After facts r w e late_ reach s t same passes speculated Wanted start wants_ r (omega arith) in
        let known = leaves_grow ((order setting is s e).values p) ((X (n + w)).values p) y true (test setting is word mark latency last After facts r w e late_ reach s t same passes speculated Wanted start wants_ e late (omega arith) p (subst (λ z. IsIn p (item_reads z)) (sym at_e) (inl refl))) out in
        let hit = first_out (X (n + w)) word mark w e p y other g f.2 known refl n 0 (omega arith) (omega arith)
        (λ j a lt q. subst (λ z. Quiet (X (n + z)) (mark j)) q (quiet setting is word mark latency last After facts r w e late_ reach s t same passes speculated Wanted start wants_ j lt (let q' = q in omega arith) (let q' = q in omega arith))) in
        let next : suc (n + w) ≡ n + (w + 1) = omega arith in (
          other,
          g,
          f.2,
          ap (λ z. early_words setting reg (words_from (row word mark 0 n) r z) (X n)) rest
              ∙ ap (λ z. early_words setting reg (words_from (row word mark 0 n) r ((w - r) + suc (last - (w + 1)))) z) (sym there)
              ∙ to_word setting is word mark latency last After facts r w e late_ reach s t same passes speculated Wanted start wants_ reg w (omega arith) only_passed (w - r) r (suc (last - (w + 1))) (omega arith) (omega arith)
              ∙ ap (λ o. after_word o (taken (X (n + w)) (row word mark 0 n w)) (early_words setting reg (words_from (row word mark 0 n) (suc w) (last - (w + 1))))) (word_on setting is word mark latency last After facts r w e late_ reach s t same passes speculated Wanted start wants_ w late (omega arith))
              ∙ ap (λ k. after_word (Some (X (suc (n + w)))) k (early_words setting reg (words_from (row word mark 0 n) (suc w) (last - (w + 1))))) hit
              ∙ ap (λ z. Arrives other.from other.to (X z)) next,
        )

    -- the made block on its edge
    pub by_edge : (b : ℕ) (x : Exit) → block_hop setting b (copies (λ k. nat_lt (word e) (word k)) (nth is) 0 e) x (X (length is + (word e + 1))) ≡ leave b x (X (length is + (word e + 1 + e)))
    by_edge b x = split_copies setting is word mark latency last After facts r (word e) e late_ reach s t same passes speculated Wanted start wants_ b x

    -- what is not written below the split by what is done by then is as at the split in trace order
    pub at_edge : (l : Location) → ((k : ℕ) → e ≤ k → W k l → word e < word k) → (((k : ℕ) → k < e → W k l → ⊥) → Wanted l) → Fine l (at (order setting is s e) l) (at (X (length is + (word e + 1 + e))) l)
    at_edge l later want =
        holds setting is s t (form is mark (length is) (word e)) (at_time word (length is) r (word e) e) (through word (length is) r (word e) e) (length is + (word e + 1 + e)) (table setting is word mark latency last After facts r (word e) e late_ reach s t same passes speculated) same Wanted start wants_ (length is + (word e + 1 + e)) (omega arith) l e
        (exactly_through (λ k l. Reads setting (order setting is s k) (nth is k) l) W word (length is) r (word e) e (delayed setting is word mark latency last After facts s) (λ k l h. in_trace setting is (order setting is s k) k l h) late_ l (let i = in_e in omega arith) later)
        want

  -- by the last exit
  module _ (late : r ≤ last) (passes : (k : ℕ) → k < length is → Passes setting (order setting is s k) (nth is k)) where
    pub late__ : r ≤ last + 1
    late__ = omega arith

    pub reach_ : last ≤ last
    reach_ = omega arith

    pub speculated_ : (k : ℕ) → length is ≤ k → word k ≤ last → (u : State) → Safe setting u (mark k)
    speculated_ k le h u = absurd (let b = facts.beyond k le in omega arith)

    wants__ : (o : ℕ) (l : Location) → through word (length is) r last (length is) o < length is + (last + 1 + length is) → Reads setting (order setting is s o) (nth is o) l → ((k : ℕ) → k < o → Writes setting (order setting is s k) (nth is k) l → ⊥) → Wanted l
    wants__ o l lt rd none = wants o l rd none

    abbrev pub Y : ℕ → State
    Y = U setting is word mark latency last After facts r last (length is) late__ reach_ s t same passes speculated_

    pub by_join_ : (b : ℕ) (x : Exit) → block_hop setting b (copies (λ k. nat_lt (word k) r) mark 0 (length is)) x t ≡ leave b x (Y (length is))
    by_join_ b x = join_copies setting is word mark latency last After facts r last (length is) late__ reach_ s t same passes speculated_ Wanted start wants__ b x

    pub runs_out : (reg : Region) → early_words setting reg (words_from (row word mark 0 (length is)) r (last - r)) (Y (length is)) ≡ leave reg.from reg.last (Y (length is + last))
    runs_out reg =
        let n = length is in
        let rest : last - r ≡ (last - r) + 0 = omega arith in
        let there = to_rejoin setting is word mark latency last After facts r last n late__ reach_ s t same passes speculated_ Wanted start wants__ r (omega arith) in
        ap (λ z. early_words setting reg (words_from (row word mark 0 n) r z) (Y n)) rest
        ∙ ap (λ z. early_words setting reg (words_from (row word mark 0 n) r ((last - r) + 0)) z) (sym there)
        ∙ to_word setting is word mark latency last After facts r last n late__ reach_ s t same passes speculated_ Wanted start wants__ reg last (omega arith) (λ j k a b q lt sp. lt) (last - r) r 0 (omega arith) (omega arith)

    pub at_end : (l : Location) → (((k : ℕ) → k < length is → W k l → ⊥) → Wanted l) → Fine l (at (order setting is s (length is)) l) (at (Y (length is + last)) l)
    at_end l want =
        holds setting is s t (form is mark (length is) last) (at_time word (length is) r last (length is)) (through word (length is) r last (length is)) (length is + (last + 1 + length is)) (table setting is word mark latency last After facts r last (length is) late__ reach_ s t same passes speculated_) same Wanted start wants__ (length is + last) (omega arith) l (length is)
        (λ k wr.
        let lt = in_trace setting is (order setting is s k) k l (inr wr) in
        let low = facts.inside k lt in (
          (λ h. lt),
          (λ h. ⊎_elim (λ a. let a2 = a.2 in omega arith) (λ x. ⊎_elim (λ a. let a3 = a.3 in omega arith) (λ y. ⊎_elim (λ a. absurd (let a0 = a.0 in omega arith)) (λ a. absurd (let a0 = a.0 in omega arith)) y) x) (ways word (length is) r last (length is) late__ last reach_ facts.beyond k)),
        ))
        want
