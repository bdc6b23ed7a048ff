-- A region whose items meet the delays is settled.
use Rattle.std.proofs.Common.{◌≡◌, ℕ, zero, suc, ◌+◌, ◌<◌, ◌≤◌, Bool, Some, List, [], ◌∷◌, ◌++◌, cond, length, refl, sym, ap, ◌∙◌, subst, ⊎_elim, inl, inr, arith, map, flat_map}
use Rattle.std.specs.Prelude.{◌⊎◌, slice_get}
use Rattle.std.proofs.lemmas.Bool.{cases_eq, cases_order, eq-eqb, ne_eqb}
use Rattle.vx_flow.specs.declared.graph.Edge.{Edge}
use Rattle.vx_flow.specs.declared.graph.Op.{Op}
use Rattle.vx_flow.specs.declared.graph.Op.TheVariants.{Store, Text, Decimal}
use Rattle.vx_mixed.specs.declared.region.Item.{Item}
use Rattle.vx_mixed.specs.declared.region.Item.TheVariants.{Plain, Split}
use Rattle.vx_mixed.specs.declared.region.Region.{Region}
use Rattle.vx_flow.specs.Effects.{Setting, IsIn}
use Rattle.vx_mixed.specs.Live.{item_reads, item_writes, word_reads, word_writes}
use Rattle.vx_mixed.specs.Settled.{NoTwice, InTime, WritesIn, ReadsIn}
use Rattle.vx_motion.specs.Items.{Marked, as_it_is, dismissible, split}
use Rattle.vx_motion.specs.Trace.{nth}
use Rattle.vx_motion.specs.Facts.{RowFacts, places, row, words_from}
use Rattle.vx_mixed.specs.Way.{item_latency}
use Rattle.vx_motion.specs.Drains.{Drained, LoadsAlike}
use Rattle.vx_mixed.proofs.Contents.{none_is}
use Rattle.vx_motion.proofs.Times.{in_places}
use Rattle.vx_mixed.proofs.Alike.{split_in}

pub word_at : (f : ℕ → List Item) (w m j : ℕ) (word : List Item) → slice_get (words_from f w m) j ≡ Some word → (j < m) × (word ≡ f (w + j))
word_at f w zero j word e = none_is e
word_at f w (suc m) zero word e = (omega arith, let q : f w ≡ word = cc in let z : w ≡ w + 0 = omega arith in sym q ∙ ap f z)
word_at f w (suc m) (suc j) word e = let r = word_at f (suc w) m j word e in (let a = r.0 in omega arith, let z : suc w + j ≡ w + suc j = omega arith in r.1 ∙ ap f z)

pub of_mapped : (mark : ℕ → Item) (ks : List ℕ) (i : Item) → IsIn i (map mark ks) → (k : ℕ) × IsIn k ks × (i ≡ mark k)
of_mapped mark [] i h = absurd h
of_mapped mark (k ∷ ks) i (inl e) = (k, inl refl, e)
of_mapped mark (k ∷ ks) i (inr h) = let r = of_mapped mark ks i h in (r.0, inr r.1, r.2)

pub of_flat : (f : Item → List ℕ) (mark : ℕ → Item) (ks : List ℕ) (v : ℕ) → IsIn v (flat_map f (map mark ks)) → (k : ℕ) × IsIn k ks × IsIn v (f (mark k))
of_flat f mark [] v h = absurd h
of_flat f mark (k ∷ ks) v h = ⊎_elim (λ a. (k, inl refl, a)) (λ a. let r = of_flat f mark ks v a in (r.0, inr r.1, r.2)) (split_in v (f (mark k)) (flat_map f (map mark ks)) h)

-- what is marked reads and writes the same
pub reads_same : (i i' : Item) → Marked i i' → item_reads i' ≡ item_reads i
reads_same i i' as_it_is = refl
reads_same i i' dismissible = refl
reads_same i i' split = refl

pub writes_same : (i i' : Item) → Marked i i' → item_writes i' ≡ item_writes i
writes_same i i' as_it_is = refl
writes_same i i' dismissible = refl
writes_same i i' split = refl

time_same : (latency : Op → ℕ) → LoadsAlike latency → (i i' : Item) → Marked i i' → item_latency latency i' ≡ item_latency latency i
time_same latency loads i i' as_it_is = refl
time_same latency loads i i' (dismissible {v} {a} {p = p} {d = d}) = loads v a p d
time_same latency loads i i' split = refl

at_most_one : (i : Item) → (item_writes i ≡ []) ⊎ ((v : ℕ) × (item_writes i ≡ v ∷ []))
at_most_one (Plain (Store a p x) cluster) = inl refl
at_most_one (Plain (Text n) cluster) = inl refl
at_most_one (Plain (Decimal x) cluster) = inl refl
at_most_one (Plain op cluster) = inr (_, refl)
at_most_one (Split p y edge d) = inl refl

places_low : (word : ℕ → ℕ) (w k m j : ℕ) → IsIn j (places word w k m) → k ≤ j
places_low word w k zero j h = absurd h
places_low word w k (suc m) j h =
    ⊎_elim
    (λ e. let h' : IsIn j (k ∷ places word w (suc k) m) = subst (λ b. IsIn j (cond b (k ∷ places word w (suc k) m) (places word w (suc k) m))) (eq-eqb (word k) w e) h in
    ⊎_elim (λ q. let q' = q in omega arith) (λ q. let r = places_low word w (suc k) m j q in omega arith) h')
    (λ n. let h' : IsIn j (places word w (suc k) m) = subst (λ b. IsIn j (cond b (k ∷ places word w (suc k) m) (places word w (suc k) m))) (ne_eqb (word k) w n) h in
    let r = places_low word w (suc k) m j h' in omega arith)
    (cases_eq (word k) w)

module _ (setting : Setting) (is : List Item) (word : ℕ → ℕ) (mark : ℕ → Item) (latency : Op → ℕ) (loads : LoadsAlike latency) (reg : Region) (After : ℕ → ℕ → Type 0) (facts : RowFacts setting is word mark (item_latency latency) (length reg.words) After) (drained : Drained is word mark (item_latency latency) reg) (words : reg.words ≡ words_from (row word mark 0 (length is)) 0 (length reg.words)) where
  at_word : (j : ℕ) (wd : List Item) → slice_get reg.words j ≡ Some wd → wd ≡ row word mark 0 (length is) j
  at_word j wd e =
      let r = word_at (row word mark 0 (length is)) 0 (length reg.words) j wd (ap (λ z. slice_get z j) (sym words) ∙ e) in
      let z : 0 + j ≡ j = omega arith in
      r.1 ∙ ap (row word mark 0 (length is)) z

  Writer : ℕ → ℕ → ℕ → Type 0
  Writer i v l = (k : ℕ) × (word k ≡ i) × (k < length is) × IsIn v (item_writes (nth is k)) × (l ≡ item_latency latency (nth is k))

  writer : (i v l : ℕ) → WritesIn latency reg.words i v l → Writer i v l
  unfolding Writer
  writer i v l w =
      let q = subst (λ z. IsIn (Plain w.1 w.2) z) (at_word i w.0 w.3) w.4 in
      let r = of_mapped mark (places word i 0 (length is)) (Plain w.1 w.2) q in
      let p = in_places word i 0 (length is) r.0 r.1 in
      let m = facts.marked r.0 in (
        r.0,
        p.0,
        (let b = p.1 in omega arith),
        subst (λ z. IsIn v z) (ap item_writes r.2 ∙ writes_same (nth is r.0) (mark r.0) m) w.5,
        w.6 ∙ ap (item_latency latency) r.2 ∙ time_same latency loads (nth is r.0) (mark r.0) m,
      )

  reader : (j v : ℕ) → ReadsIn reg.words j v → (k : ℕ) × (word k ≡ j) × IsIn v (item_reads (nth is k))
  reader j v w =
      let q = subst (λ z. IsIn v (word_reads z)) (at_word j w.0 w.1) w.2 in
      let r = of_flat item_reads mark (places word j 0 (length is)) v q in
      let p = in_places word j 0 (length is) r.0 r.1 in
      (r.0, p.0, subst (λ z. IsIn v z) (reads_same (nth is r.0) (mark r.0) (facts.marked r.0)) r.2)

  split_place : (j p d : ℕ) (edge : Edge) (y : Bool) (wd : List Item) → slice_get reg.words j ≡ Some wd → IsIn (Split p y edge d) wd → (e : ℕ) × (word e ≡ j) × (mark e ≡ Split p y edge d)
  split_place j p d edge y wd e h =
      let r = of_mapped mark (places word j 0 (length is)) (Split p y edge d) (subst (λ z. IsIn (Split p y edge d) z) (at_word j wd e) h) in
      (r.0, (in_places word j 0 (length is) r.0 r.1).0, sym r.2)

  -- of two writers in one word there is one
  once_from : (w m k : ℕ) → NoTwice (word_writes (map mark (places word w k m)))
  once_from w zero k = tt
  once_from w (suc m) k =
      let rest = once_from w m (suc k) in
      ⊎_elim
      (λ e. subst (λ b. NoTwice (word_writes (map mark (cond b (k ∷ places word w (suc k) m) (places word w (suc k) m))))) (sym (eq-eqb (word k) w e))
      (⊎_elim
      (λ none. subst (λ z. NoTwice (z ++ word_writes (map mark (places word w (suc k) m)))) (sym none) rest)
      (λ one. subst (λ z. NoTwice (z ++ word_writes (map mark (places word w (suc k) m)))) (sym one.1) (
        (λ h.
            let r = of_flat item_writes mark (places word w (suc k) m) one.0 h in
            let p = in_places_from w (suc k) m r.0 r.1 in
            let a = subst (λ z. IsIn one.0 z) (writes_same (nth is k) (mark k) (facts.marked k)) (subst (λ z. IsIn one.0 z) (sym one.1) (inl refl)) in
            let b = subst (λ z. IsIn one.0 z) (writes_same (nth is r.0) (mark r.0) (facts.marked r.0)) r.2 in
            let f = facts.output k r.0 one.0 p.1 a b in
            let t = facts.takes_time k one.0 a in
            let q = p.0 in
            omega arith),
        rest,
      ))
      (at_most_one (mark k))))
      (λ n. subst (λ b. NoTwice (word_writes (map mark (cond b (k ∷ places word w (suc k) m) (places word w (suc k) m))))) (sym (ne_eqb (word k) w n)) rest)
      (cases_eq (word k) w)
    where
      in_places_from : (w a m j : ℕ) → IsIn j (places word w a m) → (word j ≡ w) × (a ≤ j)
      in_places_from w a m j h = ((in_places word w a m j h).0, places_low word w a m j h)

  order_of : (a c : ℕ) → (a < c) ⊎ ((a ≡ c) ⊎ (c < a))
  order_of a c = ⊎_elim (λ e. inr (inl e)) (λ x. ⊎_elim (λ l. inl l) (λ g. inr (inr g)) x) (cases_order a c)

  by_reads : (i j v l : ℕ) → i < j → Writer i v l → ((k : ℕ) × (word k ≡ j) × IsIn v (item_reads (nth is k))) → i + l ≤ j
  unfolding Writer
  by_reads i j v l lt w r =
      let wi = w.1 in let wj = r.1 in let wl = w.4 in
      ⊎_elim
      (λ a. let f = facts.flow w.0 r.0 v a w.3 r.2 in omega arith)
      (λ x. ⊎_elim
      (λ e. absurd (let q : word w.0 ≡ word r.0 = ap word e in omega arith))
      (λ g. absurd (let f = facts.anti r.0 w.0 v g r.2 w.3 in omega arith))
      x)
      (order_of w.0 r.0)

  by_writes : (i j v l k : ℕ) → i < j → Writer i v l → Writer j v k → i + l ≤ j
  unfolding Writer
  by_writes i j v l k lt w u =
      let wi = w.1 in let uj = u.1 in let wl = w.4 in
      ⊎_elim
      (λ a. let f = facts.output w.0 u.0 v a w.3 u.3 in omega arith)
      (λ x. ⊎_elim
      (λ e. absurd (let q : word w.0 ≡ word u.0 = ap word e in omega arith))
      (λ g. absurd (let f = facts.output u.0 w.0 v g u.3 w.3 in omega arith))
      x)
      (order_of w.0 u.0)

  by_splits : (i j v l d : ℕ) → i ≤ j → Writer i v l → (e p : ℕ) (edge : Edge) (y : Bool) → word e ≡ j → mark e ≡ Split p y edge d → i + l ≤ j + 1 + d
  unfolding Writer
  by_splits i j v l d le w e p edge y we me =
      let wi = w.1 in let wl = w.4 in
      let f = drained.splits w.0 e p d edge y me (omega arith) in omega arith

  by_last : (i v l : ℕ) → Writer i v l → i + l ≤ length reg.words + reg.drain
  unfolding Writer
  by_last i v l w = let wi = w.1 in let wl = w.4 in let f = drained.last w.0 w.2 in omega arith

  pub settled : InTime latency reg
  settled = record {
    once = λ i wd e. subst (λ z. NoTwice (word_writes z)) (sym (at_word i wd e)) (once_from i (length is) 0);
    reads = λ i j v l lt w r. by_reads i j v l lt (writer i v l w) (reader j v r);
    writes = λ i j v l k lt w u. by_writes i j v l k lt (writer i v l w) (writer j v k u);
    splits = λ i j v l p d edge y wd le w e h.
        let a = writer i v l w in
        by_splits i j v l d le a (split_place j p d edge y wd e h).0 p edge y (split_place j p d edge y wd e h).1 (split_place j p d edge y wd e h).2;
    last = λ i v l w. by_last i v l (writer i v l w);
  }
