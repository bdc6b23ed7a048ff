-- The words of a settled region do the same whenever writes land: what they do where each lands at the next word.
use Rattle.std.proofs.Common.{◌≡◌, ℕ, zero, suc, ◌+◌, ◌<◌, ◌≤◌, ℤ, Bool, true, false, Option, Some, None, List, [], ◌∷◌, ◌++◌, length, map, drop, slice_get, refl, sym, ap, ◌∙◌, subst, ⊎_elim, inl, inr, arith}
use Rattle.std.proofs.Math.Path.{fun_ext}
use Rattle.std.proofs.lemmas.Bool.{eq-eqb, eqb-true}
use Rattle.vx_base.specs.Flight.{Write, written, landed_in, flying, flying_in, landing_time}
use Rattle.vx_base.specs.Timed.{Given, Lands, asked_by, delayed}
use Rattle.vx_base.proofs.Settle.{Tells, Without, Apart, settled, settles_in, apart_in, not_in_flight, settled_append, written_at}
use Rattle.vx_base.proofs.Flight.{Each, each_map, each_append, each_flying, all_land, apart_append}
use Rattle.vx_flow.specs.declared.graph.Edge.{Edge}
use Rattle.vx_flow.specs.declared.graph.Op.{Op}
use Rattle.vx_flow.specs.Effects.{Content, State, Setting, IsIn, reads, writes}
use Rattle.vx_flow.specs.Meaning.{Hop, Arrives, leave}
use Rattle.vx_mixed.specs.declared.region.Item.{Item}
use Rattle.vx_mixed.specs.declared.region.Item.TheVariants.{Plain, Split}
use Rattle.vx_mixed.specs.declared.region.Region.{Region}
use Rattle.vx_mixed.specs.Live.{word_reads, word_writes}
use Rattle.vx_mixed.specs.Meaning.{word_effect, leaves_on, picked, Taken, Stays, Takes, Unsure, taken, after_word, early_words, is_same, InFlight, waited, quiet, drained, given_by, after_timed, issued, timed_words}
use Rattle.vx_mixed.specs.Agree.{SameWorld}
use Rattle.vx_mixed.specs.Settled.{WritesIn, ReadsIn, NoTwice, InTime}
use Rattle.vx_mixed.proofs.Contents.{Grows, in_append}
use Rattle.vx_mixed.proofs.Alike.{Both, Follow, word_follows, in_or, split_in}

pub tells_values : Tells is_same
tells_values = record { equal = λ u v e. eqb-true u v e; itself = λ v. eq-eqb v v refl }

abbrev make : (ℕ → Content) → List (List Content) → List ℤ → List ℕ → State
make values arrays input out = record { values = values; arrays = arrays; input = input; out = out }

pub same_state : (s t : State) → SameWorld s t → ((v : ℕ) → s.values v ≡ t.values v) → s ≡ t
same_state s t w h =
    ap (λ z. make z s.arrays s.input s.out) (fun_ext h) ∙ ap (λ z. make t.values z s.input s.out) (sym w.arrays)
    ∙ ap (λ z. make t.values t.arrays z s.out) (sym w.input) ∙ ap (λ z. make t.values t.arrays t.input z) (sym w.out)

pub grows_equal : (x y : Content) → Grows x y → Grows y x → x ≡ y
grows_equal None None f g = refl
grows_equal None (Some n) f g = g n refl
grows_equal (Some n) y f g = sym (f n refl)

-- The writes of a word

-- made by an operation of the word, to land within its latency
abbrev MadeIn : (Op → ℕ) → List Item → Write ℕ Content → Type 0
MadeIn latency word w = (op : Op) × (cluster : ℕ) × IsIn (Plain op cluster) word × IsIn w.to (writes op) × (w.left ≤ latency op)

-- the writes of values to what they are in t
record Fresh (t : State) (values : List ℕ) (P : Write ℕ Content → Type 0) (new : InFlight) : Type 0 where
  without : (v : ℕ) → (IsIn v values → ⊥) → Without v new
  apart : NoTwice values → Apart new
  comes : (f : ℕ → Content) (v : ℕ) → NoTwice values → IsIn v values → settled is_same f new v ≡ t.values v
  each : Each P new

one_more : (t : State) (values : List ℕ) (P : Write ℕ Content → Type 0) (new : InFlight) (v left : ℕ) → P (record { to = v; number = t.values v; left = left }) → Fresh t values P new → Fresh t (v ∷ values) P (record { to = v; number = t.values v; left = left } ∷ new)
one_more t values P new v left p r = record {
  without = λ u n. ((λ e. n (inl (sym e))), r.without u (λ q. n (inr q)));
  apart = λ n. (r.without v n.0, r.apart n.1);
  comes = λ f u n q. ⊎_elim
      (λ e. not_in_flight Content is_same tells_values new (written is_same f v (t.values v)) u (r.without u (λ z. n.0 (subst (λ y. IsIn y values) e z)))
      ∙ ap (written is_same f v (t.values v)) e ∙ written_at Content is_same tells_values f v (t.values v) ∙ ap t.values (sym e))
      (λ z. r.comes (written is_same f v (t.values v)) u n.1 z)
      q;
  each = (p, r.each);
}

module _ (times : List ℕ) (latency : Op → ℕ) (t : State) where
  abbrev New : ℕ → List (Given ℕ Content) → InFlight
  New i gs = delayed (landing_time times) i gs

  of_op : (P : Write ℕ Content → Type 0) (vs values : List ℕ) (i l : ℕ) (rest : List (Given ℕ Content)) → ((w : Write ℕ Content) → IsIn w.to vs → w.left ≤ l → P w) → ((j : ℕ) → Fresh t values P (New j rest)) → Fresh t (vs ++ values) P (New i (map (λ v. Lands v (t.values v) l) vs ++ rest))
  of_op P [] values i l rest new h = h i
  of_op P (v ∷ vs) values i l rest new h =
      one_more t (vs ++ values) P (New (suc i) (map (λ v. Lands v (t.values v) l) vs ++ rest)) v (landing_time times i l)
      (new (record { to = v; number = t.values v; left = landing_time times i l }) (inl refl) (omega arith))
      (of_op P vs values (suc i) l rest (λ w q le. new w (inr q) le) h)

  wider : (i : Item) (word : List Item) (new : InFlight) → Each (MadeIn latency word) new → Each (MadeIn latency (i ∷ word)) new
  wider i word new h = each_map (MadeIn latency word) (MadeIn latency (i ∷ word)) (λ w x. (x.0, x.1, inr x.2, x.3, x.4)) new h

  more : (i : Item) (word : List Item) (values : List ℕ) (new : InFlight) → Fresh t values (MadeIn latency word) new → Fresh t values (MadeIn latency (i ∷ word)) new
  more i word values new r = record { without = r.without; apart = r.apart; comes = r.comes; each = wider i word new r.each }

  fresh : (word : List Item) (i : ℕ) → Fresh t (word_writes word) (MadeIn latency word) (New i (given_by latency t word))
  fresh [] i = record { without = λ v n. tt; apart = λ n. tt; comes = λ f v n h. absurd h; each = tt }
  fresh (Split p y edge d ∷ items) i = more (Split p y edge d) items (word_writes items) (New i (given_by latency t items)) (fresh items i)
  fresh (Plain op cluster ∷ items) i =
      of_op (MadeIn latency (Plain op cluster ∷ items)) (writes op) (word_writes items) i (latency op) (given_by latency t items)
      (λ w h le. (op, cluster, inl refl, h, le))
      (λ j. more (Plain op cluster) items (word_writes items) (New j (given_by latency t items)) (fresh items j))

-- Splits

pub taken_same : (s t : State) (word : List Item) → ((v : ℕ) → IsIn v (word_reads word) → s.values v ≡ t.values v) → taken s word ≡ taken t word
taken_same s t [] h = refl
taken_same s t (Plain op cluster ∷ items) h = taken_same s t items (λ v q. h v (in_append v (reads op) (word_reads items) (inr q)))
taken_same s t (Split p y edge d ∷ items) h =
    ap (λ z. picked (leaves_on z y) Unsure (Takes edge.from edge.to d) (taken s items)) (h p (inl refl))
    ∙ ap (picked (leaves_on (t.values p) y) Unsure (Takes edge.from edge.to d)) (taken_same s t items (λ v q. h v (inr q)))

-- the split that is taken stands in the word
pub taken_in_word : (s : State) (word : List Item) (b c d : ℕ) → taken s word ≡ Takes b c d → (p : ℕ) × (y : Bool) × (edge : Edge) × IsIn (Split p y edge d) word × (edge.from ≡ b) × (edge.to ≡ c)
taken_in_word s [] b c d e = absurd (cc)
taken_in_word s (Plain op cluster ∷ items) b c d e = let r = taken_in_word s items b c d e in (r.0, r.1, r.2, inr r.3, r.4, r.5)
taken_in_word s (Split p y edge d' ∷ items) b c d e = by (leaves_on (s.values p) y) e (λ f. taken_in_word s items b c d f)
  where
    by : (o : Option Bool) → picked o Unsure (Takes edge.from edge.to d') (taken s items) ≡ Takes b c d → (taken s items ≡ Takes b c d → (p : ℕ) × (y : Bool) × (edge : Edge) × IsIn (Split p y edge d) items × (edge.from ≡ b) × (edge.to ≡ c)) → (q : ℕ) × (z : Bool) × (other : Edge) × IsIn (Split q z other d) (Split p y edge d' ∷ items) × (other.from ≡ b) × (other.to ≡ c)
    by None f go = absurd (cc)
    by (Some true) f go = let ed : d ≡ d' = cc in let eb : edge.from ≡ b = cc in let ec : edge.to ≡ c = cc in (p, y, edge, inl (ap (Split p y edge) ed), eb, ec)
    by (Some false) f go = let r = go f in (r.0, r.1, r.2, inr r.3, r.4, r.5)

-- what a word writes is written by one of its operations
pub writer_of : (v : ℕ) (word : List Item) → IsIn v (word_writes word) → (op : Op) × (cluster : ℕ) × IsIn (Plain op cluster) word × IsIn v (writes op)
writer_of v [] h = absurd h
writer_of v (Plain op cluster ∷ items) h =
    ⊎_elim (λ a. (op, cluster, inl refl, a)) (λ a. let r = writer_of v items a in (r.0, r.1, inr r.2, r.3)) (split_in v (writes op) (word_writes items) h)
writer_of v (Split p y edge d ∷ items) h = let r = writer_of v items h in (r.0, r.1, inr r.2, r.3)

-- the words of a region from word j on
record Rest (all : List (List Item)) (j : ℕ) (words : List (List Item)) : Type 0 where
  each : (k : ℕ) → slice_get words k ≡ slice_get all (j + k)
  count : length all ≤ j + length words

rest_of : (words : List (List Item)) (w : ℕ) → Rest words w (drop w words)
rest_of words zero = record { each = λ k. let z : k ≡ 0 + k = omega arith in ap (slice_get words) z; count = omega arith }
rest_of [] (suc w) = record { each = λ k. refl; count = omega arith }
rest_of (x ∷ words) (suc w) =
    let r = rest_of words w in
    record { each = λ k. r.each k ∙ (let z : suc (w + k) ≡ suc w + k = omega arith in ap (slice_get (x ∷ words)) z); count = let c = r.count in omega arith }

module _ (setting : Setting) (times : List ℕ) (latency : Op → ℕ) (g : Region) (in_time : InTime latency g) where
  -- made by an earlier word than word j, and to land within its latency
  abbrev Due : ℕ → ℕ → Write ℕ Content → Type 0
  Due j left w = (i : ℕ) × (l : ℕ) × (i < j) × WritesIn latency g.words i w.to l × (j + w.left ≤ i + l + left) × (1 ≤ w.left)

  record Tied (j : ℕ) (early s : State) (flight : InFlight) : Type 0 where
    world : SameWorld s early
    apart : Apart flight
    due : Each (Due j 0) flight
    values : (v : ℕ) → settled is_same s.values flight v ≡ early.values v

  -- what is in flight is read and written by no operation of this word
  not_read : (j : ℕ) (ws : InFlight) (v : ℕ) → Each (Due j 0) ws → ReadsIn g.words j v → Without v ws
  not_read j [] v h rd = tt
  not_read j (w ∷ ws) v h rd = (
    (λ e. let d = h.0 in
        let f = in_time.reads d.0 j v d.1 d.2 (subst (λ z. WritesIn latency g.words d.0 z d.1) e d.3) rd in
        absurd (let a = d.4 in let b = d.5 in omega arith)),
    not_read j ws v h.1 rd,
  )

  not_written : (j : ℕ) (ws : InFlight) (v k : ℕ) → Each (Due j 0) ws → WritesIn latency g.words j v k → Without v ws
  not_written j [] v k h wr = tt
  not_written j (w ∷ ws) v k h wr = (
    (λ e. let d = h.0 in
        let f = in_time.writes d.0 j v d.1 k d.2 (subst (λ z. WritesIn latency g.words d.0 z d.1) e d.3) wr in
        absurd (let a = d.4 in let b = d.5 in omega arith)),
    not_written j ws v k h.1 wr,
  )

  -- once all has landed both states are the same
  drained_is : (n : ℕ) (s early : State) (ws : InFlight) (on : State → Hop) → flying_in n ws ≡ [] → SameWorld s early → Apart ws → ((v : ℕ) → settled is_same s.values ws v ≡ early.values v) → drained n s ws on ≡ on early
  drained_is n s early ws on empty world apart comes =
      ap (λ z. quiet z (on (waited n s ws))) empty
      ∙ ap on (same_state (waited n s ws) early (record { arrays = world.arrays; input = world.input; out = world.out })
      (λ v. ap (λ z. settled is_same (landed_in is_same n s.values ws) z v) (sym empty) ∙ settles_in Content is_same tells_values n ws apart s.values v ∙ comes v))

  module _ (j : ℕ) (word : List Item) (here : slice_get g.words j ≡ Some word) where
    written_here : (v : ℕ) → IsIn v (word_writes word) → (k : ℕ) × WritesIn latency g.words j v k
    written_here v h = let r = writer_of v word h in (latency r.0, (word, r.0, r.1, here, r.2, r.3, refl))

    apart_from : (ws new : InFlight) → Each (Due j 0) ws → ((v : ℕ) → (IsIn v (word_writes word) → ⊥) → Without v new) → Each (λ w. Without w.to new) ws
    apart_from [] new h f = tt
    apart_from (w ∷ ws) new h f = (f w.to (λ q. let r = written_here w.to q in (not_written j (w ∷ ws) w.to r.0 h r.1).0 refl), apart_from ws new h.1 f)

    made_here : (new : InFlight) → Each (MadeIn latency word) new → Each (λ w. (l : ℕ) × WritesIn latency g.words j w.to l × (w.left ≤ l)) new
    made_here new h = each_map (MadeIn latency word) (λ w. (l : ℕ) × WritesIn latency g.words j w.to l × (w.left ≤ l)) (λ w x. (latency x.0, (word, x.0, x.1, here, x.2, x.3, refl), x.4)) new h

    -- after this word, where it has a meaning in both
    module _ (s early t next : State) (ws new : InFlight) (tied : Tied j early s ws) (fore : Both (word_writes word) s early t next) (back : Both (word_writes word) early s next t) (f : Fresh t (word_writes word) (MadeIn latency word) new) where
      abbrev now : State
      now = record t { values = s.values }

      all_apart : Apart (ws ++ new)
      all_apart = apart_append ws new tied.apart (f.apart (in_time.once j word here)) (apart_from ws new tied.due f.without)

      comes : (v : ℕ) → settled is_same s.values (ws ++ new) v ≡ next.values v
      comes v =
          ap (λ h. h v) (settled_append Content is_same tells_values ws new s.values)
          ∙ ⊎_elim
          (λ wr. f.comes (settled is_same s.values ws) v (in_time.once j word here) wr ∙ grows_equal (t.values v) (next.values v) (fore.written v wr) (back.written v wr))
          (λ no. not_in_flight Content is_same tells_values new (settled is_same s.values ws) v (f.without v no) ∙ tied.values v ∙ sym (fore.right v no))
          (in_or v (word_writes word))

      world : SameWorld now next
      world = record { arrays = fore.world.arrays; input = fore.world.input; out = fore.world.out }

      leaves : (b c d : ℕ) → taken s word ≡ Takes b c d → drained (d + 1) now (ws ++ new) (Arrives b c) ≡ Arrives b c next
      leaves b c d e =
          let at = taken_in_word s word b c d e in
          let older = each_map (Due j 0) (λ w. w.left ≤ d + 1) (λ w q. let k = in_time.splits q.0 j w.to q.1 at.0 d at.2 at.1 word (let l = q.2 in omega arith) q.3 here at.3 in let m = q.4 in omega arith) ws tied.due in
          let newer = each_map (λ w. (l : ℕ) × WritesIn latency g.words j w.to l × (w.left ≤ l)) (λ w. w.left ≤ d + 1) (λ w q. let k = in_time.splits j j w.to q.0 at.0 d at.2 at.1 word (omega arith) q.1 here at.3 in let m = q.2 in omega arith) new (made_here new f.each) in
          let left = each_append (λ w. w.left ≤ d + 1) ws new older newer in
          let one : d + 1 ≡ suc d = omega arith in
          let empty : flying_in (d + 1) (ws ++ new) ≡ [] = ap (λ z. flying_in z (ws ++ new)) one ∙ all_land d (flying (ws ++ new)) (each_flying (λ w. w.left ≤ d + 1) (λ w. (1 ≤ w.left) × (w.left ≤ d)) (λ w n a e. (omega arith, omega arith)) (ws ++ new) left) in
          drained_is (d + 1) now next (ws ++ new) (Arrives b c) empty world all_apart comes

      stays : Tied (j + 1) next (waited 1 now (ws ++ new)) (flying_in 1 (ws ++ new))
      stays =
          let older = each_map (Due j 0) (λ w. (i : ℕ) × (l : ℕ) × (i < j + 1) × WritesIn latency g.words i w.to l × (j + w.left ≤ i + l)) (λ w q. (q.0, q.1, (let l = q.2 in omega arith), q.3, (let m = q.4 in omega arith))) ws tied.due in
          let newer = each_map (λ w. (l : ℕ) × WritesIn latency g.words j w.to l × (w.left ≤ l)) (λ w. (i : ℕ) × (l : ℕ) × (i < j + 1) × WritesIn latency g.words i w.to l × (j + w.left ≤ i + l)) (λ w q. (j, q.0, omega arith, q.1, (let m = q.2 in omega arith))) new (made_here new f.each) in
          record {
            world = record { arrays = world.arrays; input = world.input; out = world.out };
            apart = apart_in Content is_same tells_values 1 (ws ++ new) all_apart;
            due = each_flying (λ w. (i : ℕ) × (l : ℕ) × (i < j + 1) × WritesIn latency g.words i w.to l × (j + w.left ≤ i + l)) (Due (j + 1) 0) (λ w n q e. (q.0, q.1, q.2, q.3, (let m = q.4 in omega arith), omega arith)) (ws ++ new)
                (each_append (λ w. (i : ℕ) × (l : ℕ) × (i < j + 1) × WritesIn latency g.words i w.to l × (j + w.left ≤ i + l)) ws new older newer);
            values = λ v. settles_in Content is_same tells_values 1 (ws ++ new) all_apart s.values v ∙ comes v;
          }

  from : (words : List (List Item)) (j asked : ℕ) (early s : State) (ws : InFlight) → Rest g.words j words → Tied j early s ws → timed_words setting times latency g words asked s ws ≡ early_words setting g words early
  from [] j asked early s ws rest tied =
      let n = rest.count in
      drained_is g.drain s early ws (leave g.from g.last)
      (all_land g.drain ws (each_map (Due j 0) (λ w. (1 ≤ w.left) × (w.left ≤ g.drain)) (λ w h. (h.5, let f = in_time.last h.0 w.to h.1 h.3 in let b = h.4 in omega arith)) ws tied.due))
      tied.world tied.apart tied.values
  from (word ∷ words) j asked early s ws rest tied =
      by (word_effect setting s word s) (word_effect setting early word early)
      (word_follows setting s early tied.world word s early (λ v h n e. sym (same_read v h) ∙ e) tied.world)
      (word_follows setting early s back_world word early s (λ v h n e. same_read v h ∙ e) back_world)
      (λ more next s' ws' tied'. from words (j + 1) (asked + more) next s' ws' next_rest tied')
    where
      here : slice_get g.words j ≡ Some word
      here = let z : j + 0 ≡ j = omega arith in ap (slice_get g.words) (sym z) ∙ sym (rest.each 0)

      next_rest : Rest g.words (j + 1) words
      next_rest = record { each = λ k. let z : j + suc k ≡ (j + 1) + k = omega arith in rest.each (suc k) ∙ ap (slice_get g.words) z; count = let c = rest.count in omega arith }

      back_world : SameWorld early s
      back_world = record { arrays = sym tied.world.arrays; input = sym tied.world.input; out = sym tied.world.out }

      same_read : (v : ℕ) → IsIn v (word_reads word) → s.values v ≡ early.values v
      same_read v h = sym (not_in_flight Content is_same tells_values ws s.values v (not_read j ws v tied.due (word, here, h))) ∙ tied.values v

      at_taken : (t next : State) (new : InFlight) (go : State → InFlight → Hop) → Both (word_writes word) s early t next → Both (word_writes word) early s next t → Fresh t (word_writes word) (MadeIn latency word) new → ((s' : State) (ws' : InFlight) → Tied (j + 1) next s' ws' → go s' ws' ≡ early_words setting g words next) → (k : Taken) → taken s word ≡ k →
          after_timed k (record t { values = s.values }) (ws ++ new) go ≡ after_word (Some next) k (early_words setting g words)
      at_taken t next new go fore back f then Unsure e = refl
      at_taken t next new go fore back f then (Takes b c d) e = leaves j word here s early t next ws new tied fore back f b c d e
      at_taken t next new go fore back f then Stays e = then (waited 1 (record t { values = s.values }) (ws ++ new)) (flying_in 1 (ws ++ new)) (stays j word here s early t next ws new tied fore back f)

      by : (o p : Option State) → Follow (word_writes word) s early o p → Follow (word_writes word) early s p o → ((more : ℕ) (next s' : State) (ws' : InFlight) → Tied (j + 1) next s' ws' → timed_words setting times latency g words (asked + more) s' ws' ≡ early_words setting g words next) →
          issued o times latency s word asked ws (timed_words setting times latency g words) ≡ after_word p (taken early word) (early_words setting g words)
      by None None fore back then = refl
      by None (Some next) fore back then = absurd back
      by (Some t) None fore back then = absurd fore
      by (Some t) (Some next) fore back then =
          let gs = given_by latency t word in
          let new = delayed (landing_time times) asked gs in
          at_taken t next new (timed_words setting times latency g words (asked + asked_by gs)) fore back (fresh times latency t word asked) (λ s' ws' tied'. then (asked_by gs) next s' ws' tied') (taken s word) refl
          ∙ ap (λ k. after_word (Some next) k (early_words setting g words)) (taken_same s early word same_read)

  pub timed_is_early : (w : ℕ) (s : State) → timed_words setting times latency g (drop w g.words) 0 s [] ≡ early_words setting g (drop w g.words) s
  timed_is_early w s = from (drop w g.words) w 0 s s [] (rest_of g.words w) (record { world = record { arrays = refl; input = refl; out = refl }; apart = tt; due = tt; values = λ v. refl })
