-- A region entered at its start or by a joining edge: copies, words, copies.
use Rattle.std.proofs.Common.{◌≡◌, ℕ, zero, suc, ◌+◌, ◌<◌, ◌≤◌, Bool, true, false, Option, Some, None, List, [], ◌∷◌, ◌++◌, cond, ◌&&◌, length, refl, sym, ap, ◌∙◌, subst, ⊎_elim, inl, arith, map}
use Rattle.std.specs.Prelude.{nat_lt, nat_le}
use Rattle.std.proofs.lemmas.Bool.{cases_lt, cases_eq, cases_order, lt-ltb, le-leb, lt-leb, eq-eqb, ne_eqb}
use Rattle.vx_flow.specs.Effects.{Content, State, Setting, effect, IsIn, Location, Of, at}
use Rattle.vx_flow.specs.declared.graph.Edge.{Edge}
use Rattle.vx_flow.specs.declared.graph.Op.{Op}
use Rattle.vx_flow.specs.declared.graph.Exit.{Exit}
use Rattle.vx_mixed.specs.declared.region.Item.{Item}
use Rattle.vx_mixed.specs.declared.region.Item.TheVariants.{Plain, Split}
use Rattle.vx_mixed.specs.declared.region.Region.{Region}
use Rattle.vx_flow.specs.Meaning.{leave, and_then, block_hop}
use Rattle.vx_mixed.specs.Meaning.{word_effect, into, Taken, Stays, Takes, Unsure, taken, leaves_on, picked, after_word, early_words}
use Rattle.vx_mixed.specs.Live.{item_reads}
use Rattle.vx_base.specs.Schedule.{through}
use Rattle.vx_base.proofs.Leaving.{ordered_through}
use Rattle.vx_motion.specs.Items.{Fine, Reads, Writes, Marked, as_it_is, dismissible, split, Safe}
use Rattle.vx_mixed.specs.Agree.{SameShape}
use Rattle.vx_motion.specs.Trace.{nth, order}
use Rattle.vx_motion.specs.Facts.{RowFacts, IsSplit, places, row, words_from, ops_of, copies}
use Rattle.vx_motion.proofs.Effect.{grows}
use Rattle.vx_mixed.proofs.Contents.{Grows}
use Rattle.vx_motion.proofs.Times.{in_region, ways, all, only, at_join, before_region, on_edge, when_placed}
use Rattle.vx_motion.proofs.Delays.{delayed, in_trace, passes_is_safe, marked_is_safe}
use Rattle.vx_motion.proofs.InWords.{reads_it, goes}
use Rattle.vx_motion.proofs.Timetable.{in_words, laid, Timetable}
use Rattle.vx_motion.proofs.Passing.{Passes}
use Rattle.vx_motion.proofs.AtTimes.{one_if, at_time, form}

marked_self : (i : Item) → Marked i i
marked_self (Plain op cluster) = as_it_is
marked_self (Split p y edge d) = split

nat_le_is : (a b : ℕ) → b < a → nat_le a b ≡ false
nat_le_is a b h = lt-leb a b h

form_region : (is : List Item) (mark : ℕ → Item) (n w t k : ℕ) → t < n + (w + 1) → form is mark n w t k ≡ mark k
form_region is mark n w t k h = ap (λ b. cond b (nth is k) (mark k)) (lt-leb (n + (w + 1)) t h)

form_edge : (is : List Item) (mark : ℕ → Item) (n w t k : ℕ) → n + (w + 1) ≤ t → form is mark n w t k ≡ nth is k
form_edge is mark n w t k h = ap (λ b. cond b (nth is k) (mark k)) (le-leb (n + (w + 1)) t h)

forms_region : (is : List Item) (mark : ℕ → Item) (n w t : ℕ) (ks : List ℕ) → t < n + (w + 1) → map (form is mark n w t) ks ≡ map mark ks
forms_region is mark n w t ks h = ap (λ b. map (λ k. cond b (nth is k) (mark k)) ks) (lt-leb (n + (w + 1)) t h)

forms_edge : (is : List Item) (mark : ℕ → Item) (n w t : ℕ) (ks : List ℕ) → n + (w + 1) ≤ t → map (form is mark n w t) ks ≡ map (nth is) ks
forms_edge is mark n w t ks h = ap (λ b. map (λ k. cond b (nth is k) (mark k)) ks) (le-leb (n + (w + 1)) t h)

-- one chosen operation to a time is a block
block_append : (setting : Setting) (b : ℕ) (i : Item) (ops : List Op) (x : Exit) (s t : State) → word_effect setting s (i ∷ []) s ≡ Some t → block_hop setting b (ops_of i ++ ops) x s ≡ block_hop setting b ops x t
block_append setting b (Plain op cluster) ops x s t e = by (effect setting s op s) e
  where
    by : (o : Option State) → into o (word_effect setting s []) ≡ Some t → and_then o (block_hop setting b ops x) ≡ block_hop setting b ops x t
    by None f = absurd (cc)
    by (Some u) f = let q : u ≡ t = cc in ap (block_hop setting b ops x) q
block_append setting b (Split p y edge g) ops x s t e = let q : s ≡ t = cc in ap (block_hop setting b ops x) q

pub in_turn : (setting : Setting) (b : ℕ) (x : Exit) (chosen : ℕ → Bool) (put : ℕ → Item) (U : ℕ → State) (end : ℕ) → ((j : ℕ) → j < end → word_effect setting (U j) (cond (chosen j) (put j ∷ []) []) (U j) ≡ Some (U (suc j))) → (m j : ℕ) → j + m ≡ end → block_hop setting b (copies chosen put j m) x (U j) ≡ leave b x (U end)
in_turn setting b x chosen put U end go zero j e = let q : j ≡ end = omega arith in ap (λ i. leave b x (U i)) q
in_turn setting b x chosen put U end go (suc m) j e = by (chosen j) (go j (omega arith)) ∙ in_turn setting b x chosen put U end go m (suc j) (omega arith)
  where
    by : (c : Bool) → word_effect setting (U j) (cond c (put j ∷ []) []) (U j) ≡ Some (U (suc j)) → block_hop setting b (cond c (ops_of (put j)) [] ++ copies chosen put (suc j) m) x (U j) ≡ block_hop setting b (copies chosen put (suc j) m) x (U (suc j))
    by true f = block_append setting b (put j) (copies chosen put (suc j) m) x (U j) (U (suc j)) f
    by false f = let q : U j ≡ U (suc j) = cc in ap (block_hop setting b (copies chosen put (suc j) m) x) q

-- a test that is known
pub leaves_grow : (x x' : Content) (y b : Bool) → Grows x x' → leaves_on x y ≡ Some b → leaves_on x' y ≡ Some b
leaves_grow None x' y b g e = absurd (cc)
leaves_grow (Some n) x' y b g e = ap (λ z. leaves_on z y) (g n refl) ∙ e

holds_on : (o : Option Bool) (out next : Taken) → o ≡ Some false → picked o Unsure out next ≡ next
holds_on None out next e = absurd (cc)
holds_on (Some true) out next e = absurd (cc)
holds_on (Some false) out next e = refl

holds_out : (o : Option Bool) (out next : Taken) → o ≡ Some true → picked o Unsure out next ≡ out
holds_out None out next e = absurd (cc)
holds_out (Some true) out next e = refl
holds_out (Some false) out next e = absurd (cc)

abbrev pub Quiet : State → Item → Type 0
Quiet σ (Plain op cluster) = Unit {0}
Quiet σ (Split p y edge d) = leaves_on (σ.values p) y ≡ Some false

passed : (σ : State) (i : Item) (is : List Item) → Quiet σ i → taken σ (i ∷ is) ≡ taken σ is
passed σ (Plain op cluster) is q = refl
passed σ (Split p y edge d) is q = holds_on (leaves_on (σ.values p) y) (Takes edge.from edge.to d) (taken σ is) q

pub all_quiet : (σ : State) (word : ℕ → ℕ) (mark : ℕ → Item) (w m k : ℕ) → ((j : ℕ) → k ≤ j → j < k + m → word j ≡ w → Quiet σ (mark j)) → taken σ (map mark (places word w k m)) ≡ Stays
all_quiet σ word mark w zero k q = refl
all_quiet σ word mark w (suc m) k q =
    let rest = all_quiet σ word mark w m (suc k) (λ j a b. q j (omega arith) (omega arith)) in
    ⊎_elim
    (λ e. ap (λ b. taken σ (map mark (cond b (k ∷ places word w (suc k) m) (places word w (suc k) m)))) (eq-eqb (word k) w e) ∙ passed σ (mark k) (map mark (places word w (suc k) m)) (q k (omega arith) (omega arith) e) ∙ rest)
    (λ n. ap (λ b. taken σ (map mark (cond b (k ∷ places word w (suc k) m) (places word w (suc k) m)))) (ne_eqb (word k) w n) ∙ rest)
    (cases_eq (word k) w)

pub first_out : (σ : State) (word : ℕ → ℕ) (mark : ℕ → Item) (w e p : ℕ) (y : Bool) (edge : Edge) (d : ℕ) → mark e ≡ Split p y edge d → leaves_on (σ.values p) y ≡ Some true → word e ≡ w → (m k : ℕ) → k ≤ e → e < k + m → ((j : ℕ) → k ≤ j → j < e → word j ≡ w → Quiet σ (mark j)) → taken σ (map mark (places word w k m)) ≡ Takes edge.from edge.to d
first_out σ word mark w e p y edge d at_e out we zero k lo hi q = absurd (omega arith)
first_out σ word mark w e p y edge d at_e out we (suc m) k lo hi q =
    ⊎_elim
    (λ same.
    ap (λ z. taken σ (map mark (cond z (k ∷ places word w (suc k) m) (places word w (suc k) m)))) (eq-eqb (word k) w (ap word same ∙ we))
    ∙ ap (λ z. taken σ (z ∷ map mark (places word w (suc k) m))) (ap mark same ∙ at_e)
    ∙ holds_out (leaves_on (σ.values p) y) (Takes edge.from edge.to d) (taken σ (map mark (places word w (suc k) m))) out)
    (λ n.
    let lt : k < e = ⊎_elim (λ z. absurd (n z)) (λ z. ⊎_elim (λ a. a) (λ a. absurd (omega arith)) z) (cases_order k e) in
    let rest = first_out σ word mark w e p y edge d at_e out we m (suc k) (omega arith) (omega arith) (λ j a z. q j (omega arith) z) in
    ⊎_elim
    (λ f. ap (λ z. taken σ (map mark (cond z (k ∷ places word w (suc k) m) (places word w (suc k) m)))) (eq-eqb (word k) w f) ∙ passed σ (mark k) (map mark (places word w (suc k) m)) (q k (omega arith) lt f) ∙ rest)
    (λ f. ap (λ z. taken σ (map mark (cond z (k ∷ places word w (suc k) m) (places word w (suc k) m)))) (ne_eqb (word k) w f) ∙ rest)
    (cases_eq (word k) w))
    (cases_eq k e)

module _ (setting : Setting) (is : List Item) (word : ℕ → ℕ) (mark : ℕ → Item) (latency : Item → ℕ) (last : ℕ) (After : ℕ → ℕ → Type 0) (facts : RowFacts setting is word mark latency last After) (r w e : ℕ) (late : r ≤ w + 1) (reach : w ≤ last) (s t : State) (same : SameShape s t) (passes : (k : ℕ) → k < e → Passes setting (order setting is s k) (nth is k)) (speculated : (k : ℕ) → e ≤ k → word k ≤ w → (u : State) → Safe setting u (mark k)) where
  abbrev pub N : ℕ
  N = length is

  abbrev pub At : ℕ → ℕ
  At = through word N r w e

  abbrev pub Done : ℕ
  Done = N + (w + 1 + e)

  marked_safe : (k : ℕ) → word k ≤ w → Safe setting (order setting is s k) (mark k)
  marked_safe k h = ⊎_elim (λ a. marked_is_safe setting (order setting is s k) (nth is k) (mark k) (facts.marked k) (passes_is_safe setting (order setting is s k) (nth is k) (passes k a))) (λ a. speculated k a h (order setting is s k)) (cases_lt k e)

  pub table : Timetable setting is s (form is mark N w) (at_time word N r w e) At Done
  table = record {
    all = λ k τ lt q. all word N r w e late last reach facts.beyond k τ lt q;
    only = λ k τ lt q. only word N r w e late last reach facts.beyond k τ lt q;
    marked = λ k lt.
        ⊎_elim
        (λ a. subst (λ z. Marked (nth is k) z) (sym (form_region is mark N w (At k) k (let a2 = a.2 in let a1 = a.1 in omega arith))) (facts.marked k))
        (λ x. ⊎_elim
        (λ a. subst (λ z. Marked (nth is k) z) (sym (form_region is mark N w (At k) k (let a3 = a.3 in let a1 = a.1 in omega arith))) (facts.marked k))
        (λ y. ⊎_elim
        (λ a. subst (λ z. Marked (nth is k) z) (sym (form_edge is mark N w (At k) k (let a2 = a.2 in omega arith))) (marked_self (nth is k)))
        (λ a. absurd (let a2 = a.2 in omega arith))
        y)
        x)
        (ways word N r w e late last reach facts.beyond k);
    safe = λ k lt.
        ⊎_elim
        (λ a. subst (λ z. Safe setting (order setting is s k) z) (sym (form_region is mark N w (At k) k (let a2 = a.2 in let a1 = a.1 in omega arith))) (marked_safe k (let a0 = a.0 in omega arith)))
        (λ x. ⊎_elim
        (λ a. subst (λ z. Safe setting (order setting is s k) z) (sym (form_region is mark N w (At k) k (let a3 = a.3 in let a1 = a.1 in omega arith))) (marked_safe k a.1))
        (λ y. ⊎_elim
        (λ a. subst (λ z. Safe setting (order setting is s k) z) (sym (form_edge is mark N w (At k) k (let a2 = a.2 in omega arith))) (passes_is_safe setting (order setting is s k) (nth is k) (passes k a.1)))
        (λ a. absurd (let a2 = a.2 in omega arith))
        y)
        x)
        (ways word N r w e late last reach facts.beyond k);
    ordered = ordered_through (λ k l. Reads setting (order setting is s k) (nth is k) l) (λ k l. Writes setting (order setting is s k) (nth is k) l) word N r w e (delayed setting is word mark latency last After facts s) (λ k l h. in_trace setting is (order setting is s k) k l h) late;
  }

  -- the state at each time
  abbrev pub U : ℕ → State
  U = in_words setting (laid (form is mark N w) (at_time word N r w e)) t

  module _ (Wanted : Location → Type 0) (start : (l : Location) → Wanted l → Fine l (at s l) (at t l)) (wants : (o : ℕ) (l : Location) → At o < Done → Reads setting (order setting is s o) (nth is o) l → ((k : ℕ) → k < o → Writes setting (order setting is s k) (nth is k) l → ⊥) → Wanted l) where
    pub on : (τ : ℕ) → τ < Done → word_effect setting (U τ) (laid (form is mark N w) (at_time word N r w e) τ) (U τ) ≡ Some (U (suc τ))
    on τ lt = goes setting is s t (form is mark N w) (at_time word N r w e) At Done table same Wanted start wants τ lt

    -- the made block on the joining edge
    pub join_copies : (b : ℕ) (x : Exit) → block_hop setting b (copies (λ k. nat_lt (word k) r) mark 0 N) x t ≡ leave b x (U N)
    join_copies b x = in_turn setting b x (λ k. nat_lt (word k) r) mark U N (λ j lt. subst (λ z. word_effect setting (U j) z (U j) ≡ Some (U (suc j))) (one j lt) (on j (let h : j < Done = omega arith in h))) N 0 (omega arith)
      where
        one : (j : ℕ) → j < N → laid (form is mark N w) (at_time word N r w e) j ≡ cond (nat_lt (word j) r) (mark j ∷ []) []
        one j lt = ap (map (form is mark N w j)) (at_join word N r w e j lt) ∙ forms_region is mark N w j (one_if (nat_lt (word j) r) j) (omega arith) ∙ one_picked (nat_lt (word j) r)
          where
            one_picked : (b : Bool) → map mark (one_if b j) ≡ cond b (mark j ∷ []) []
            one_picked true = refl
            one_picked false = refl

    -- nothing is done up to the rejoin word
    pub to_rejoin : (j : ℕ) → j ≤ r → U (N + j) ≡ U N
    to_rejoin zero h = let q : N + 0 ≡ N = omega arith in ap U q
    to_rejoin (suc j) h =
        let q : N + suc j ≡ suc (N + j) = omega arith in
        let empty : laid (form is mark N w) (at_time word N r w e) (N + j) ≡ [] = ap (map (form is mark N w (N + j))) (before_region word N r w e j (omega arith) (omega arith)) in
        let stays = subst (λ z. word_effect setting (U (N + j)) z (U (N + j)) ≡ Some (U (suc (N + j)))) empty (on (N + j) (let h : N + j < Done = omega arith in h)) in
        let e' : U (N + j) ≡ U (suc (N + j)) = cc in
        ap U q ∙ sym e' ∙ to_rejoin j (omega arith)

    pub word_on : (j : ℕ) → r ≤ j → j ≤ w → word_effect setting (U (N + j)) (row word mark 0 N j) (U (N + j)) ≡ Some (U (suc (N + j)))
    word_on j lo hi =
        let q : laid (form is mark N w) (at_time word N r w e) (N + j) ≡ row word mark 0 N j =
        ap (map (form is mark N w (N + j))) (in_region word N r w e j lo hi) ∙ forms_region is mark N w (N + j) (places word j 0 N) (omega arith) in
        subst (λ z. word_effect setting (U (N + j)) z (U (N + j)) ≡ Some (U (suc (N + j)))) q (on (N + j) (let h : N + j < Done = omega arith in h))

    -- a test in its word is as in trace order, where that knows it
    pub test : (k : ℕ) → r ≤ word k → word k ≤ w → (p : ℕ) → IsIn p (item_reads (nth is k)) → Grows ((order setting is s k).values p) ((U (N + word k)).values p)
    test k lo hi p rd =
        let at_k = when_placed word N r w e late last reach facts.beyond k lo hi in
        let f = reads_it setting is s t (form is mark N w) (at_time word N r w e) At Done table same Wanted start wants k (Of p) (let h : At k < Done = omega arith in h) (inl (p, rd, refl)) in
        grows p _ _ (subst (λ z. Fine (Of p) (at (order setting is s k) (Of p)) (at (U z) (Of p))) at_k f)

    pub quiet : (k : ℕ) → k < e → r ≤ word k → word k ≤ w → Quiet (U (N + word k)) (mark k)
    quiet k lt lo hi = by (nth is k) (mark k) (facts.marked k) (passes k lt) (test k lo hi)
      where
        by : (i i' : Item) → Marked i i' → Passes setting (order setting is s k) i → ((p : ℕ) → IsIn p (item_reads i) → Grows ((order setting is s k).values p) ((U (N + word k)).values p)) → Quiet (U (N + word k)) i'
        by i i' as_it_is pass g = tt
        by i i' dismissible pass g = tt
        by i i' (split {p} {y = y}) pass g = leaves_grow ((order setting is s k).values p) ((U (N + word k)).values p) y false (g p (inl refl)) pass

    -- the words before the last one are passed
    pub to_word : (reg : Region) (end : ℕ) → end ≤ w → ((j k : ℕ) → j < end → r ≤ j → word k ≡ j → k < N → IsSplit (nth is k) → k < e) → (d j rest : ℕ) → r ≤ j → j + d ≡ end → early_words setting reg (words_from (row word mark 0 N) j (d + rest)) (U (N + j)) ≡ early_words setting reg (words_from (row word mark 0 N) end rest) (U (N + end))
    to_word reg end le only_passed zero j rest lo q =
        let a : j ≡ end = omega arith in
        let b : 0 + rest ≡ rest = omega arith in
        ap (λ z. early_words setting reg (words_from (row word mark 0 N) j z) (U (N + j))) b ∙ ap (λ z. early_words setting reg (words_from (row word mark 0 N) z rest) (U (N + z))) a
    to_word reg end le only_passed (suc d) j rest lo q =
        let a : suc d + rest ≡ suc (d + rest) = omega arith in
        let next : N + suc j ≡ suc (N + j) = omega arith in
        ap (λ z. early_words setting reg (words_from (row word mark 0 N) j z) (U (N + j))) a
        ∙ ap (λ o. after_word o (taken (U (N + j)) (row word mark 0 N j)) (early_words setting reg (words_from (row word mark 0 N) (suc j) (d + rest)))) (word_on j lo (omega arith))
        ∙ ap (λ k. after_word (Some (U (suc (N + j)))) k (early_words setting reg (words_from (row word mark 0 N) (suc j) (d + rest)))) (all_quiet (U (N + j)) word mark j N 0 (λ k x y z. still k (let h : k < N = omega arith in h) z))
        ∙ ap (λ z. early_words setting reg (words_from (row word mark 0 N) (suc j) (d + rest)) (U z)) (sym next)
        ∙ to_word reg end le only_passed d (suc j) rest (omega arith) (omega arith)
      where
        still : (k : ℕ) → k < N → word k ≡ j → Quiet (U (N + j)) (mark k)
        still k lt z = subst (λ y. Quiet (U (N + y)) (mark k)) z (by (nth is k) (mark k) (facts.marked k) (λ h. quiet k (only_passed j k (omega arith) lo z lt h) (let z' = z in omega arith) (let z' = z in omega arith)))
          where
            by : (i i' : Item) → Marked i i' → (IsSplit i → Quiet (U (N + word k)) i') → Quiet (U (N + word k)) i'
            by i i' as_it_is g = tt
            by i i' dismissible g = tt
            by i i' split g = g tt

    -- the copies on the edge of the split
    pub split_copies : (b : ℕ) (x : Exit) → block_hop setting b (copies (λ k. nat_lt w (word k)) (nth is) 0 e) x (U (N + (w + 1))) ≡ leave b x (U Done)
    split_copies b x =
        let z : N + (w + 1) ≡ N + (w + 1 + 0) = omega arith in
        ap (λ i. block_hop setting b (copies (λ k. nat_lt w (word k)) (nth is) 0 e) x (U i)) z
        ∙ in_turn setting b x (λ k. nat_lt w (word k)) (nth is) (λ j. U (N + (w + 1 + j))) e go e 0 (omega arith)
      where
        go : (j : ℕ) → j < e → word_effect setting (U (N + (w + 1 + j))) (cond (nat_lt w (word j)) (nth is j ∷ []) []) (U (N + (w + 1 + j))) ≡ Some (U (N + (w + 1 + suc j)))
        go j lt =
            let next : suc (N + (w + 1 + j)) ≡ N + (w + 1 + suc j) = omega arith in
            let one = ap (map (form is mark N w (N + (w + 1 + j)))) (on_edge word N r w e j) ∙ forms_edge is mark N w (N + (w + 1 + j)) (one_if (nat_lt w (word j) && nat_lt j e) j) (omega arith) ∙ one_picked (nat_lt w (word j)) (nat_lt j e) (lt-ltb j e lt) in
            subst (λ z. word_effect setting (U (N + (w + 1 + j))) z (U (N + (w + 1 + j))) ≡ Some (U (N + (w + 1 + suc j)))) one (on (N + (w + 1 + j)) (let h : N + (w + 1 + j) < Done = omega arith in h) ∙ ap (λ z. Some (U z)) next)
          where
            one_picked : (b c : Bool) → c ≡ true → map (nth is) (one_if (b && c) j) ≡ cond b (nth is j ∷ []) []
            one_picked true true h = refl
            one_picked true false h = absurd (cc)
            one_picked false c h = refl
