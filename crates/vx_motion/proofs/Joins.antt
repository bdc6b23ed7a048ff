-- The part of a trace below a join, with its words and copies.
use Rattle.std.proofs.Common.{◌≡◌, ℕ, zero, suc, ◌+◌, ◌-◌, ◌<◌, ◌≤◌, Bool, true, false, List, [], ◌∷◌, ◌++◌, cond, length, drop, refl, sym, ap, ◌∙◌, subst, inl, inr, ⊎_elim, arith, map, length-drop}
use Rattle.std.specs.Prelude.{◌⊎◌, nat_eq, nat_lt}
use Rattle.std.proofs.lemmas.Bool.{ne_eqb, le-ltb}
use Rattle.vx_flow.specs.declared.graph.Op.{Op}
use Rattle.vx_mixed.specs.declared.region.Item.{Item}
use Rattle.vx_mixed.specs.declared.region.Item.TheVariants.{Split}
use Rattle.vx_mixed.specs.declared.mixed.MixedGraph.{MixedGraph}
use Rattle.vx_flow.specs.Apart.{StandApart}
use Rattle.vx_flow.specs.Effects.{State, Setting, IsIn}
use Rattle.vx_flow.proofs.Apart.{itself_apart}
use Rattle.vx_mixed.specs.Live.{item_reads, item_writes}
use Rattle.vx_mixed.specs.Agree.{Segment}
use Rattle.vx_mixed.specs.Settled.{InTime}
use Rattle.vx_flow.specs.Meaning.{Hop}
use Rattle.vx_mixed.specs.Meaning.{hop}
use Rattle.vx_motion.specs.Items.{Marked}
use Rattle.vx_motion.specs.Trace.{nth, AfterOf}
use Rattle.vx_mixed.specs.Path.{Path}
use Rattle.vx_motion.specs.Facts.{RowFacts, IsSplit, IsFirm, places, row, words_from, ops_of, copies}
use Rattle.vx_mixed.specs.Alive.{AfterItem}
use Rattle.vx_mixed.specs.Way.{item_latency, LeadsIn, LeadsOut}
use Rattle.vx_motion.specs.Replaced.{CellFacts, Join, Replaced, ReplacementLaw, RegionSettled}
use Rattle.vx_motion.proofs.Way.{from_here}
use Rattle.vx_motion.proofs.Waits.{settled}
use Rattle.vx_motion.proofs.Unchanged.{unchanged, outside_ends}
use Rattle.vx_motion.proofs.PathEnds.{path_ends}
use Rattle.vx_motion.specs.Unchanged.{Outside}
use Rattle.vx_motion.proofs.OneWay.{Way}

pub nth_drop : (is : List Item) (q k : ℕ) → nth (drop q is) k ≡ nth is (q + k)
nth_drop is zero k = let z : k ≡ 0 + k = omega arith in ap (nth is) z
nth_drop [] (suc q) k = refl
nth_drop (i ∷ is) (suc q) k = let z : suc (q + k) ≡ suc q + k = omega arith in nth_drop is q k ∙ ap (nth (i ∷ is)) z

copies_skip : (chosen : ℕ → Bool) (put : ℕ → Item) (a m k : ℕ) → ((j : ℕ) → k ≤ j → j < k + a → chosen j ≡ false) → copies chosen put k (a + m) ≡ copies chosen put (k + a) m
copies_skip chosen put zero m k none = let x : 0 + m ≡ m = omega arith in let y : k ≡ k + 0 = omega arith in ap (copies chosen put k) x ∙ ap (λ z. copies chosen put z m) y
copies_skip chosen put (suc a) m k none =
    let x : suc a + m ≡ suc (a + m) = omega arith in
    let y : suc k + a ≡ k + suc a = omega arith in
    ap (copies chosen put k) x
    ∙ ap (λ b. cond b (ops_of (put k)) [] ++ copies chosen put (suc k) (a + m)) (none k (omega arith) (omega arith))
    ∙ copies_skip chosen put a m (suc k) (λ j lo hi. none j (omega arith) (omega arith))
    ∙ ap (λ z. copies chosen put z m) y

copies_shift : (chosen chosen' : ℕ → Bool) (put put' : ℕ → Item) (q : ℕ) → ((j : ℕ) → chosen (q + j) ≡ chosen' j) → ((j : ℕ) → put (q + j) ≡ put' j) → (m k : ℕ) → copies chosen put (q + k) m ≡ copies chosen' put' k m
copies_shift chosen chosen' put put' q c p zero k = refl
copies_shift chosen chosen' put put' q c p (suc m) k =
    let y : suc (q + k) ≡ q + suc k = omega arith in
    ap (λ b. cond b (ops_of (put (q + k))) [] ++ copies chosen put (suc (q + k)) m) (c k)
    ∙ ap (λ i. cond (chosen' k) (ops_of i) [] ++ copies chosen put (suc (q + k)) m) (p k)
    ∙ ap (λ z. cond (chosen' k) (ops_of (put' k)) [] ++ copies chosen put z m) y
    ∙ ap (λ z. cond (chosen' k) (ops_of (put' k)) [] ++ z) (copies_shift chosen chosen' put put' q c p m (suc k))

places_skip : (word : ℕ → ℕ) (w a m k : ℕ) → ((j : ℕ) → k ≤ j → j < k + a → word j ≡ w → ⊥) → places word w k (a + m) ≡ places word w (k + a) m
places_skip word w zero m k none = let x : 0 + m ≡ m = omega arith in let y : k ≡ k + 0 = omega arith in ap (places word w k) x ∙ ap (λ z. places word w z m) y
places_skip word w (suc a) m k none =
    let x : suc a + m ≡ suc (a + m) = omega arith in
    let y : suc k + a ≡ k + suc a = omega arith in
    ap (places word w k) x
    ∙ ap (λ b. cond b (k ∷ places word w (suc k) (a + m)) (places word w (suc k) (a + m))) (ne_eqb (word k) w (none k (omega arith) (omega arith)))
    ∙ places_skip word w a m (suc k) (λ j lo hi. none j (omega arith) (omega arith))
    ∙ ap (λ z. places word w z m) y

row_shift : (word : ℕ → ℕ) (mark : ℕ → Item) (q w m k : ℕ) → map mark (places word w (q + k) m) ≡ map (λ j. mark (q + j)) (places (λ j. word (q + j)) w k m)
row_shift word mark q w zero k = refl
row_shift word mark q w (suc m) k =
    let y : suc (q + k) ≡ q + suc k = omega arith in
    ap (λ z. map mark (cond (nat_eq (word (q + k)) w) ((q + k) ∷ places word w z m) (places word w z m))) y
    ∙ by (nat_eq (word (q + k)) w) (row_shift word mark q w m (suc k))
  where
    by : (b : Bool) → map mark (places word w (q + suc k) m) ≡ map (λ j. mark (q + j)) (places (λ j. word (q + j)) w (suc k) m) → map mark (cond b ((q + k) ∷ places word w (q + suc k) m) (places word w (q + suc k) m)) ≡ map (λ j. mark (q + j)) (cond b (k ∷ places (λ j. word (q + j)) w (suc k) m) (places (λ j. word (q + j)) w (suc k) m))
    by true h = ap (λ z. mark (q + k) ∷ z) h
    by false h = h

words_drop : (f : ℕ → List Item) (r m w : ℕ) → drop r (words_from f w (r + m)) ≡ words_from f (w + r) m
words_drop f zero m w = let x : 0 + m ≡ m = omega arith in let y : w ≡ w + 0 = omega arith in ap (words_from f w) x ∙ ap (λ z. words_from f z m) y
words_drop f (suc r) m w =
    let x : suc r + m ≡ suc (r + m) = omega arith in
    let y : suc w + r ≡ w + suc r = omega arith in
    ap (λ z. drop (suc r) (words_from f w z)) x ∙ words_drop f r m (suc w) ∙ ap (λ z. words_from f z m) y

words_cong : (f g : ℕ → List Item) (m w : ℕ) → ((j : ℕ) → w ≤ j → f j ≡ g j) → words_from f w m ≡ words_from g w m
words_cong f g zero w h = refl
words_cong f g (suc m) w h = ap (λ z. z ∷ words_from f (suc w) m) (h w (omega arith)) ∙ ap (λ z. g w ∷ z) (words_cong f g m (suc w) (λ j lo. h j (omega arith)))

pub no_copies : (chosen : ℕ → Bool) (put : ℕ → Item) → ((k : ℕ) → chosen k ≡ false) → (n k : ℕ) → copies chosen put k n ≡ []
no_copies chosen put none zero k = refl
no_copies chosen put none (suc n) k = ap (λ b. cond b (ops_of (put k)) [] ++ copies chosen put (suc k) n) (none k) ∙ no_copies chosen put none n (suc k)

-- the copies on an edge into the trace are those of its part below place q
pub join_copies : (is : List Item) (word : ℕ → ℕ) (mark : ℕ → Item) (q rejoin : ℕ) → copies (λ k. nat_lt (word k) rejoin) mark q (length is - q) ≡ copies (λ k. nat_lt (word (q + k)) rejoin) (λ k. mark (q + k)) 0 (length (drop q is))
join_copies is word mark q rejoin =
    let n : length is - q ≡ length (drop q is) = sym (length-drop q is) in
    let z : q ≡ q + 0 = omega arith in
    ap (copies (λ k. nat_lt (word k) rejoin) mark q) n
    ∙ ap (λ i. copies (λ k. nat_lt (word k) rejoin) mark i (length (drop q is))) z
    ∙ copies_shift (λ k. nat_lt (word k) rejoin) (λ k. nat_lt (word (q + k)) rejoin) mark (λ k. mark (q + k)) q (λ k. refl) (λ k. refl) (length (drop q is)) 0

-- where a trace is entered at place q and at a word behind all that stands above it
module _ (is : List Item) (word : ℕ → ℕ) (q rejoin : ℕ) (inside : q ≤ length is) (above : (k : ℕ) → k < q → word k < rejoin) where
  rows_below : (mark : ℕ → Item) (w : ℕ) → rejoin ≤ w → row word mark 0 (length is) w ≡ row (λ k. word (q + k)) (λ k. mark (q + k)) 0 (length (drop q is)) w
  rows_below mark w le =
      let l = length-drop q is in
      let i = inside in
      let size : length is ≡ q + length (drop q is) = omega arith in
      let z : 0 + q ≡ q + 0 = omega arith in
      ap (λ m. map mark (places word w 0 m)) size
      ∙ ap (map mark) (places_skip word w q (length (drop q is)) 0 (λ k lo hi e. let a = above k (omega arith) in omega arith))
      ∙ ap (λ i. map mark (places word w i (length (drop q is)))) z
      ∙ row_shift word mark q w (length (drop q is)) 0

  -- the words from there on are those of its part
  pub words_below : (mark : ℕ → Item) (words : List (List Item)) → words ≡ words_from (row word mark 0 (length is)) 0 (length words) → rejoin ≤ length words →
      drop rejoin words ≡ words_from (row (λ k. word (q + k)) (λ k. mark (q + k)) 0 (length (drop q is))) rejoin (length words - rejoin)
  words_below mark words are low =
      let total : length words ≡ rejoin + (length words - rejoin) = omega arith in
      let z : 0 + rejoin ≡ rejoin = omega arith in
      ap (drop rejoin) (are ∙ ap (words_from (row word mark 0 (length is)) 0) total)
      ∙ words_drop (row word mark 0 (length is)) rejoin (length words - rejoin) 0
      ∙ ap (λ i. words_from (row word mark 0 (length is)) i (length words - rejoin)) z
      ∙ words_cong (row word mark 0 (length is)) (row (λ k. word (q + k)) (λ k. mark (q + k)) 0 (length (drop q is))) (length words - rejoin) rejoin (rows_below mark)

  -- the copies on the edge out of a split
  pub split_copies : (e : ℕ) → rejoin ≤ word (q + e) → copies (λ k. nat_lt (word (q + e)) (word k)) (nth is) 0 (q + e) ≡ copies (λ k. nat_lt (word (q + e)) (word (q + k))) (nth (drop q is)) 0 e
  split_copies e lo =
      let z : 0 + q ≡ q + 0 = omega arith in
      copies_skip (λ k. nat_lt (word (q + e)) (word k)) (nth is) q e 0 (λ k a b. le-ltb (word (q + e)) (word k) (let h = above k (omega arith) in omega arith))
      ∙ ap (λ i. copies (λ k. nat_lt (word (q + e)) (word k)) (nth is) i e) z
      ∙ copies_shift (λ k. nat_lt (word (q + e)) (word k)) (λ k. nat_lt (word (q + e)) (word (q + k))) (nth is) (nth (drop q is)) q (λ k. refl) (λ k. sym (nth_drop is q k)) e 0

module _ (setting : Setting) (is : List Item) (word : ℕ → ℕ) (mark : ℕ → Item) (latency : Item → ℕ) (last : ℕ) (m : MixedGraph) (facts : RowFacts setting is word mark latency last (AfterOf m is)) (q : ℕ) (inside : q ≤ length is) (cells : CellFacts setting (drop q is) (λ k. word (q + k))) where
  at : (P : Item → Type 0) (k : ℕ) → P (nth (drop q is) k) → P (nth is (q + k))
  at P k h = subst P (nth_drop is q k) h

  back : (P : Item → Type 0) (k : ℕ) → P (nth is (q + k)) → P (nth (drop q is) k)
  back P k h = subst P (sym (nth_drop is q k)) h

  -- what holds of the trace holds of its part below a join
  pub below : RowFacts setting (drop q is) (λ k. word (q + k)) (λ k. mark (q + k)) latency last (AfterOf m (drop q is))
  below = record {
    inside = λ k lt. facts.inside (q + k) (let l = length-drop q is in omega arith);
    beyond = λ k le. facts.beyond (q + k) (let l = length-drop q is in omega arith);
    marked = λ k. back (λ z. Marked z (mark (q + k))) k (facts.marked (q + k));
    takes_time = λ i v w. back (λ z. 1 ≤ latency z) i (facts.takes_time (q + i) v (at (λ z. IsIn v (item_writes z)) i w));
    flow = λ i o v lt w r. back (λ z. word (q + i) + latency z ≤ word (q + o)) i (facts.flow (q + i) (q + o) v (omega arith) (at (λ z. IsIn v (item_writes z)) i w) (at (λ z. IsIn v (item_reads z)) o r));
    anti = λ o k v lt r w. facts.anti (q + o) (q + k) v (omega arith) (at (λ z. IsIn v (item_reads z)) o r) (at (λ z. IsIn v (item_writes z)) k w);
    output = λ i k v lt w u. back (λ z. word (q + i) + latency z ≤ word (q + k)) i (facts.output (q + i) (q + k) v (omega arith) (at (λ z. IsIn v (item_writes z)) i w) (at (λ z. IsIn v (item_writes z)) k u));
    cell_flow = λ s i o l lt a b. cells.flow s i o l lt a b;
    cell_anti = λ s o k l lt a b. cells.anti s o k l lt a b;
    cell_output = λ s i k l lt a b. cells.output s i k l lt a b;
    splits = λ i k lt a b. facts.splits (q + i) (q + k) (omega arith) (at IsSplit i a) (at IsSplit k b);
    held = λ e k lt a b. facts.held (q + e) (q + k) (omega arith) (at IsSplit e a) (at IsFirm k b);
    kept = λ e k v lt a l w. facts.kept (q + e) (q + k) v (omega arith) (at IsSplit e a) (at (λ z. AfterItem m z v) e l) (at (λ z. IsIn v (item_writes z)) k w);
    early = λ e k lt a le. facts.early (q + e) (q + k) (omega arith) (at IsSplit e a) le;
  }

module _ (latency : Op → ℕ) (old new : MixedGraph) (meet_old meet_new pairs : ℕ → ℕ → Bool) (r : Replaced latency old new meet_old meet_new pairs) (setting : Setting) (apart : StandApart old.arrays setting.spot) where
  abbrev Ways : ℕ → ℕ → Type 0
  Ways b b' = Way setting latency old new meet_old meet_new pairs r.n r.reg b b'

  from_start : (b b' : ℕ) → b ≡ r.start → LeadsIn new meet_new r.n 0 (copies (λ k. nat_lt (r.word k) 0) r.mark 0 (length r.items)) b' → Ways b b'
  from_start b b' e into = record {
    items = r.items;
    end = r.end;
    exit = r.exit;
    word = r.word;
    mark = r.mark;
    rejoin = 0;
    plain = r.plain;
    path = subst (λ z. Path old meet_old z r.plain r.end r.exit) (sym e) r.path;
    clustered = r.clustered setting apart;
    facts = r.facts setting apart;
    low = omega arith;
    late = λ k s. omega arith;
    words = r.words ∙ (let z : length r.reg.words ≡ length r.reg.words - 0 = omega arith in ap (words_from (row r.word r.mark 0 (length r.items)) 0) z);
    enters = into;
    leaves = r.leaves;
    last_exit = r.last_exit;
    last_meets = r.last_meets;
  }

  module _ (j j' : ℕ) (join : Join latency old new meet_old meet_new r.items r.end r.exit r.word r.mark r.n r.reg j j') where
    abbrev Q : ℕ
    Q = join.place

    abbrev word' : ℕ → ℕ
    word' k = r.word (Q + k)

    abbrev mark' : ℕ → Item
    mark' k = r.mark (Q + k)

    from_join : Ways j j'
    from_join = record {
      items = drop Q r.items;
      end = r.end;
      exit = r.exit;
      word = word';
      mark = mark';
      rejoin = join.rejoin;
      plain = join.plain;
      path = join.path;
      clustered = join.clustered setting apart;
      facts = below setting r.items r.word r.mark (item_latency latency) (length r.reg.words) old (r.facts setting apart) Q join.inside (join.cells setting apart);
      low = join.low;
      late = λ k s. join.splits_below (Q + k) (omega arith) (subst IsSplit (nth_drop r.items Q k) s);
      words = words_below r.items r.word Q join.rejoin join.inside join.above r.mark r.reg.words r.words join.low;
      enters = subst (λ z. LeadsIn new meet_new r.n join.rejoin z j') (join_copies r.items r.word r.mark Q join.rejoin) join.enters;
      leaves = λ e p d g y edge edge' at_e m.
          let at' : nth r.items (Q + e) ≡ Split p y edge d = sym (nth_drop r.items Q e) ∙ at_e in
          subst (λ z. LeadsOut new meet_new pairs z edge'.from edge'.to edge.to) (split_copies r.items r.word Q join.rejoin join.inside join.above e (join.splits_below (Q + e) (omega arith) (subst IsSplit (sym at') tt))) (r.leaves (Q + e) p d g y edge edge' at' m);
      last_exit = r.last_exit;
      last_meets = r.last_meets;
    }

  pub ways : (b b' : ℕ) → pairs b b' ≡ true → Ways b b' ⊎ Outside latency old new meet_old meet_new pairs b b'
  ways b b' pair =
      ⊎_elim (λ x. inl (from_start b b' x.0 x.1)) (λ x. ⊎_elim (λ y. inl (from_join b b' y)) (λ y. inr y) x) (r.entrances b b' pair)

  pub region_settled : InTime latency r.reg
  region_settled = settled setting r.items r.word r.mark latency r.loads r.reg (AfterOf old r.items) (r.facts setting apart) r.drained r.words

-- from each entrance old comes to the next one
old_ends : (latency : Op → ℕ) (old new : MixedGraph) (meet_old meet_new pairs : ℕ → ℕ → Bool) → Replaced latency old new meet_old meet_new pairs → (setting : Setting) (times : List ℕ) (b b' : ℕ) (s : State) → pairs b b' ≡ true → (h : Hop) × Segment (hop setting times latency old) meet_old b s h
old_ends latency old new meet_old meet_new pairs r setting times b b' s pair =
    ⊎_elim
    (λ x. subst (λ z. (h : Hop) × Segment (hop setting times latency old) meet_old z s h) (sym x.0) (path_ends setting times latency old meet_old r.path s))
    (λ x. ⊎_elim
    (λ y. path_ends setting times latency old meet_old y.path s)
    (λ y. outside_ends setting latency old new meet_old meet_new pairs b b' times times s s y)
    x)
    (r.entrances b b' pair)

pub replacement_law : ReplacementLaw
replacement_law latency old new meet_old meet_new pairs r = record {
  start = r.begins;
  ends = old_ends latency old new meet_old meet_new pairs r;
  leads = λ setting times times' b b' s t h apart some some' pair agree seg n.
      ⊎_elim
      (λ w. from_here setting latency old new meet_old meet_new pairs r.n r.reg b b' w (region_settled latency old new meet_old meet_new pairs r setting apart) r.is_region times' s t agree times h seg n)
      (λ o. unchanged setting latency old new meet_old meet_new pairs b b' times times' s t agree o h seg)
      (ways latency old new meet_old meet_new pairs r setting apart b b' pair);
}

-- arrays that stand in their own order
abbrev pub in_order : Setting
in_order = record { spot = λ a. a; texts = [] }

pub region_is_settled : RegionSettled
region_is_settled latency old new meet_old meet_new pairs r = region_settled latency old new meet_old meet_new pairs r in_order (itself_apart old.arrays)
