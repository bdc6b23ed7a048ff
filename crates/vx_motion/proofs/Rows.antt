-- A placement that meets the delays has the facts that motion needs.
use Rattle.std.proofs.Common.{◌≡◌, ℕ, zero, suc, ◌+◌, ◌-◌, ◌<◌, ◌≤◌, Bool, true, List, length, drop, refl, sym, ◌∙◌, subst, ⊎_elim, inl, inr, arith, length-drop}
use Rattle.std.specs.Prelude.{◌⊎◌}
use Rattle.std.proofs.lemmas.Bool.{cases_lt, cases_Bool}
use Rattle.vx_flow.specs.declared.graph.Op.TheVariants.{Load, Store, More, Input, Text, Decimal}
use Rattle.vx_flow.specs.declared.graph.Operand.{Operand}
use Rattle.vx_flow.specs.Effects.{State, Setting, cell_of, IsIn, Location, Cell, TheInput, TheOutput}
use Rattle.vx_mixed.specs.declared.region.Item.{Item}
use Rattle.vx_mixed.specs.declared.region.Item.TheVariants.{Plain, Split}
use Rattle.vx_mixed.specs.Live.{item_reads, item_writes}
use Rattle.vx_motion.specs.Items.{Marked, as_it_is, dismissible, split, item_takes, item_gives}
use Rattle.vx_motion.specs.Trace.{nth, order}
use Rattle.vx_motion.specs.Facts.{RowFacts, IsSplit, IsFirm, Harmless}
use Rattle.vx_motion.specs.Replaced.{CellFacts}
use Rattle.vx_motion.specs.Rows.{IsObservable, IsLoad, IsStore, reads_last, writes_too, writes_read, store_access, load_store, observables, two_splits, split_held, split_live, Meets, NeverApart, Placed}
use Rattle.vx_motion.proofs.Effect.{cell_named}
use Rattle.vx_mixed.proofs.Alike.{in_or}
use Rattle.vx_motion.proofs.Delays.{split_in_trace, in_trace, nth_past}
use Rattle.vx_motion.proofs.Joins.{nth_drop}

-- what gives or takes a cell, the input or the output
gives_kind : (setting : Setting) (s : State) (i : Item) (l : Location) → item_gives setting s i l → ((a : ℕ) × (c : ℕ) × (l ≡ Cell a c) × IsStore i) ⊎ (((l ≡ TheInput) ⊎ (l ≡ TheOutput)) × IsObservable i)
gives_kind setting s (Plain (Store a p x) cluster) l k = let h = cell_named (setting.spot a) (cell_of setting s a p) l k in inl (setting.spot a, h.0, h.2, tt)
gives_kind setting s (Plain (Input v) cluster) l h = inr (inl h, refl)
gives_kind setting s (Plain (Text n) cluster) l h = inr (inr h, refl)
gives_kind setting s (Plain (Decimal x) cluster) l h = inr (inr h, refl)
gives_kind setting s (Plain op cluster) l h = absurd h
gives_kind setting s (Split p y edge d) l h = absurd h

takes_kind : (setting : Setting) (s : State) (i : Item) (l : Location) → item_takes setting s i l → ((a : ℕ) × (c : ℕ) × (l ≡ Cell a c) × IsLoad i) ⊎ (((l ≡ TheInput) ⊎ (l ≡ TheOutput)) × IsObservable i)
takes_kind setting s (Plain (Load v a p d) cluster) l k = let h = cell_named (setting.spot a) (cell_of setting s a p) l k in inl (setting.spot a, h.0, h.2, tt)
takes_kind setting s (Plain (More v) cluster) l h = inr (inl h, refl)
takes_kind setting s (Plain (Input v) cluster) l h = inr (inl h, refl)
takes_kind setting s (Plain (Text n) cluster) l h = inr (inr h, refl)
takes_kind setting s (Plain (Decimal x) cluster) l h = inr (inr h, refl)
takes_kind setting s (Plain op cluster) l h = absurd h
takes_kind setting s (Split p y edge d) l h = absurd h

no_stream_cell : {A : Type 0} (l : Location) (a c : ℕ) → l ≡ Cell a c → ((l ≡ TheInput) ⊎ (l ≡ TheOutput)) → A
no_stream_cell l a c e (inl f) = absurd (let g : Cell a c ≡ TheInput = sym e ∙ f in cc)
no_stream_cell l a c e (inr f) = absurd (let g : Cell a c ≡ TheOutput = sym e ∙ f in cc)

module _ (setting : Setting) (is : List Item) (latency : Item → ℕ) (live : ℕ → ℕ → Type 0) (never : ℕ → ℕ → Bool) (joins : ℕ → Bool) (word : ℕ → ℕ) (mark : ℕ → Item) (last : ℕ) (meets : Meets is latency live never joins word) (placed : Placed is latency word mark last) where
  writes_in : (k v : ℕ) → IsIn v (item_writes (nth is k)) → k < length is
  writes_in k v h = ⊎_elim (λ a. a) (λ a. absurd (subst (λ i. IsIn v (item_writes i)) (nth_past is k a) h)) (cases_lt k (length is))

  reads_in : (k v : ℕ) → IsIn v (item_reads (nth is k)) → k < length is
  reads_in k v h = ⊎_elim (λ a. a) (λ a. absurd (subst (λ i. IsIn v (item_reads i)) (nth_past is k a) h)) (cases_lt k (length is))

  output : (i k v : ℕ) → i < k → IsIn v (item_writes (nth is i)) → IsIn v (item_writes (nth is k)) → word i + latency (nth is i) ≤ word k
  output i k v lt a b = meets i k (latency (nth is i)) lt (writes_in k v b) (writes_too v a b)

  -- the last writer at or after i, before o
  last_writer : (m i o v : ℕ) → i + suc m ≡ o → IsIn v (item_writes (nth is i)) → (k : ℕ) × (i ≤ k) × (k < o) × IsIn v (item_writes (nth is k)) × ((z : ℕ) → k < z → z < o → IsIn v (item_writes (nth is z)) → ⊥)
  last_writer zero i o v e w = (i, omega arith, omega arith, w, (λ z a b h. absurd (omega arith)))
  last_writer (suc m) i o v e w =
      let before = last_writer m i (i + suc m) v refl w in
      ⊎_elim
      (λ h. (i + suc m, omega arith, omega arith, h, (λ z a b g. absurd (omega arith))))
      (λ n. (
        before.0,
        before.1,
        (let b = before.2 in omega arith),
        before.3,
        (λ z a b g.
            ⊎_elim (λ lt. before.4 z a lt g) (λ ge. n (subst (λ y. IsIn v (item_writes (nth is y))) (let q : z ≡ i + suc m = omega arith in q) g)) (cases_lt z (i + suc m))),
      ))
      (in_or v (item_writes (nth is (i + suc m))))

  flow : (i o v : ℕ) → i < o → IsIn v (item_writes (nth is i)) → IsIn v (item_reads (nth is o)) → word i + latency (nth is i) ≤ word o
  flow i o v lt w r =
      let k = last_writer (o - (i + 1)) i o v (omega arith) w in
      let in_o = reads_in o v r in
      let last_one = meets k.0 o (latency (nth is k.0)) k.2 in_o (reads_last v k.3 r k.4) in
      let le = k.1 in
      ⊎_elim
      (λ a. let f = output i k.0 v a w k.3 in omega arith)
      (λ a. let q : i ≡ k.0 = omega arith in subst (λ z. word z + latency (nth is z) ≤ word o) (sym q) last_one)
      (cases_lt i k.0)

  held : (e k : ℕ) → e < k → IsSplit (nth is e) → IsFirm (nth is k) → word e < word k
  held e k lt s f =
      ⊎_elim
      (λ a. let h = meets e k 1 lt a (split_held s (firm (nth is k) f)) in omega arith)
      (λ a. let b = placed.beyond k a in let c = placed.inside e (split_in_trace is e s) in omega arith)
      (cases_lt k (length is))
    where
      firm : (i : Item) → IsFirm i → IsStore i ⊎ IsObservable i
      firm (Plain (Store a p x) cluster) h = inl tt
      firm (Plain (Input v) cluster) h = inr refl
      firm (Plain (Text n) cluster) h = inr refl
      firm (Plain (Decimal x) cluster) h = inr refl
      firm (Plain op cluster) h = absurd h
      firm (Split p y edge d) h = absurd h

  early : (e k : ℕ) → e < k → IsSplit (nth is e) → word k ≤ word e → Harmless (mark k)
  early e k lt s le = by (nth is k) (mark k) (placed.marked k) (λ f. let h = held e k lt s f in omega arith) (λ v a cluster p d q. placed.freed e k v a cluster p d lt s le q)
    where
      by : (i i' : Item) → Marked i i' → (IsFirm i → ⊥) → ((v a cluster : ℕ) (p : Operand) (d : Bool) → i' ≡ Plain (Load v a p d) cluster → d ≡ true) → Harmless i'
      by i i' (as_it_is {op = Load v a p d} {cluster' = cluster}) n f = f v a cluster p d refl
      by i i' (as_it_is {op = Store a p x}) n f = n tt
      by i i' (as_it_is {op = Input v}) n f = n tt
      by i i' (as_it_is {op = Decimal x}) n f = n tt
      by i i' (as_it_is {op = o}) n f = tt
      by i i' dismissible n f = refl
      by i i' split n f = tt

  module _ (q : ℕ) (inside : q ≤ length is) (apart : NeverApart setting is never q) where
    abbrev Part : List Item
    Part = drop q is

    at : (P : Item → Type 0) (k : ℕ) → P (nth Part k) → P (nth is (q + k))
    at P k h = subst P (nth_drop is q k) h

    in_part : (s : State) (k : ℕ) (l : Location) → (item_takes setting s (nth Part k) l ⊎ item_gives setting s (nth Part k) l) → q + k < length is
    in_part s k l h =
        let lt : k < length Part = in_trace setting Part s k l (⊎_elim (λ a. inl (inr a)) (λ a. inr (inr a)) h) in
        let l = length-drop q is in
        omega arith

    -- the facts on cells, input and output from place q on
    pub cell_facts : CellFacts setting Part (λ k. word (q + k))
    cell_facts = record {
      flow = λ s i o l lt a b. flow_ s i o l lt a b (in_part (order setting Part s o) o l (inl b)) (gives_kind setting (order setting Part s i) (nth Part i) l a) (takes_kind setting (order setting Part s o) (nth Part o) l b);
      anti = λ s o k l lt a b. anti_ s o k l lt a b (in_part (order setting Part s k) k l (inr b)) (takes_kind setting (order setting Part s o) (nth Part o) l a) (gives_kind setting (order setting Part s k) (nth Part k) l b);
      output = λ s i k l lt a b. output_ s i k l lt a b (in_part (order setting Part s k) k l (inr b)) (gives_kind setting (order setting Part s i) (nth Part i) l a) (gives_kind setting (order setting Part s k) (nth Part k) l b);
    }
      where
        flow_ : (s : State) (i o : ℕ) (l : Location) → i < o → item_gives setting (order setting Part s i) (nth Part i) l → item_takes setting (order setting Part s o) (nth Part o) l → q + o < length is → ((a : ℕ) × (c : ℕ) × (l ≡ Cell a c) × IsStore (nth Part i)) ⊎ (((l ≡ TheInput) ⊎ (l ≡ TheOutput)) × IsObservable (nth Part i)) → ((a : ℕ) × (c : ℕ) × (l ≡ Cell a c) × IsLoad (nth Part o)) ⊎ (((l ≡ TheInput) ⊎ (l ≡ TheOutput)) × IsObservable (nth Part o)) → word (q + i) < word (q + o)
        flow_ s i o l lt a b hi (inl x) (inl y) =
            ⊎_elim
            (λ t. absurd (apart s i o x.0 x.1 lt t (inr (subst (λ z. item_gives setting (order setting Part s i) (nth Part i) z) x.2 a)) (inl (subst (λ z. item_takes setting (order setting Part s o) (nth Part o) z) x.2 b))))
            (λ f. let h = meets (q + i) (q + o) 1 (omega arith) hi (store_access (at IsStore i x.3) (inl (at IsLoad o y.3)) f) in omega arith)
            (cases_Bool (never (q + i) (q + o)))
        flow_ s i o l lt a b hi (inl x) (inr y) = no_stream_cell l x.0 x.1 x.2 y.0
        flow_ s i o l lt a b hi (inr x) (inl y) = no_stream_cell l y.0 y.1 y.2 x.0
        flow_ s i o l lt a b hi (inr x) (inr y) = let h = meets (q + i) (q + o) 1 (omega arith) hi (observables (at IsObservable i x.1) (at IsObservable o y.1)) in omega arith

        anti_ : (s : State) (o k : ℕ) (l : Location) → o < k → item_takes setting (order setting Part s o) (nth Part o) l → item_gives setting (order setting Part s k) (nth Part k) l → q + k < length is → ((a : ℕ) × (c : ℕ) × (l ≡ Cell a c) × IsLoad (nth Part o)) ⊎ (((l ≡ TheInput) ⊎ (l ≡ TheOutput)) × IsObservable (nth Part o)) → ((a : ℕ) × (c : ℕ) × (l ≡ Cell a c) × IsStore (nth Part k)) ⊎ (((l ≡ TheInput) ⊎ (l ≡ TheOutput)) × IsObservable (nth Part k)) → word (q + o) ≤ word (q + k)
        anti_ s o k l lt a b hi (inl x) (inl y) =
            ⊎_elim
            (λ t. absurd (apart s o k x.0 x.1 lt t (inl (subst (λ z. item_takes setting (order setting Part s o) (nth Part o) z) x.2 a)) (inr (subst (λ z. item_gives setting (order setting Part s k) (nth Part k) z) x.2 b))))
            (λ f. let h = meets (q + o) (q + k) 0 (omega arith) hi (load_store (at IsLoad o x.3) (at IsStore k y.3) f) in omega arith)
            (cases_Bool (never (q + o) (q + k)))
        anti_ s o k l lt a b hi (inl x) (inr y) = no_stream_cell l x.0 x.1 x.2 y.0
        anti_ s o k l lt a b hi (inr x) (inl y) = no_stream_cell l y.0 y.1 y.2 x.0
        anti_ s o k l lt a b hi (inr x) (inr y) = let h = meets (q + o) (q + k) 1 (omega arith) hi (observables (at IsObservable o x.1) (at IsObservable k y.1)) in omega arith

        output_ : (s : State) (i k : ℕ) (l : Location) → i < k → item_gives setting (order setting Part s i) (nth Part i) l → item_gives setting (order setting Part s k) (nth Part k) l → q + k < length is → ((a : ℕ) × (c : ℕ) × (l ≡ Cell a c) × IsStore (nth Part i)) ⊎ (((l ≡ TheInput) ⊎ (l ≡ TheOutput)) × IsObservable (nth Part i)) → ((a : ℕ) × (c : ℕ) × (l ≡ Cell a c) × IsStore (nth Part k)) ⊎ (((l ≡ TheInput) ⊎ (l ≡ TheOutput)) × IsObservable (nth Part k)) → word (q + i) < word (q + k)
        output_ s i k l lt a b hi (inl x) (inl y) =
            ⊎_elim
            (λ t. absurd (apart s i k x.0 x.1 lt t (inr (subst (λ z. item_gives setting (order setting Part s i) (nth Part i) z) x.2 a)) (inr (subst (λ z. item_gives setting (order setting Part s k) (nth Part k) z) x.2 b))))
            (λ f. let h = meets (q + i) (q + k) 1 (omega arith) hi (store_access (at IsStore i x.3) (inr (at IsStore k y.3)) f) in omega arith)
            (cases_Bool (never (q + i) (q + k)))
        output_ s i k l lt a b hi (inl x) (inr y) = no_stream_cell l x.0 x.1 x.2 y.0
        output_ s i k l lt a b hi (inr x) (inl y) = no_stream_cell l y.0 y.1 y.2 x.0
        output_ s i k l lt a b hi (inr x) (inr y) = let h = meets (q + i) (q + k) 1 (omega arith) hi (observables (at IsObservable i x.1) (at IsObservable k y.1)) in omega arith

  -- all the facts
  pub row_facts : CellFacts setting is word → RowFacts setting is word mark latency last live
  row_facts cells = record {
    inside = placed.inside;
    beyond = placed.beyond;
    marked = placed.marked;
    takes_time = placed.takes_time;
    flow = flow;
    anti = λ o k v lt r w. let h = meets o k 0 lt (writes_in k v w) (writes_read v r w) in omega arith;
    output = output;
    cell_flow = cells.flow;
    cell_anti = cells.anti;
    cell_output = cells.output;
    splits = λ i k lt a b. let h = meets i k 0 lt (split_in_trace is k b) (two_splits a b) in omega arith;
    held = held;
    kept = λ e k v lt s l w. let h = meets e k 1 lt (writes_in k v w) (split_live v s l w) in omega arith;
    early = early;
  }
