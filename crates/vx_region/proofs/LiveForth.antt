-- What is live at an entrance of the old graph is live there in the new one: the reverse of `live_within` of vx_motion.
use Rattle.std.proofs.Common.{◌≡◌, ℕ, zero, suc, ◌+◌, ◌-◌, ◌<◌, ◌≤◌, Bool, true, false, Some, None, List, [], ◌∷◌, ◌++◌, cond, length, take, drop, refl, sym, ap, ◌∙◌, subst, ⊎_elim, inl, inr, arith, map, flat_map}
use Rattle.std.specs.Prelude.{◌⊎◌, slice_get, nat_lt}
use Rattle.std.proofs.lemmas.Bool.{cases_eq, cases_lt, cases_order, lt-ltb, ltb-true}
use Rattle.vx_flow.specs.declared.graph.Edge.{Edge}
use Rattle.vx_flow.specs.declared.graph.Exit.{Exit}
use Rattle.vx_flow.specs.declared.graph.Exit.TheVariants.{Goto, Split as Branch}
use Rattle.vx_flow.specs.declared.graph.Op.{Op}
use Rattle.vx_flow.specs.Effects.{Setting, IsIn, reads, writes}
use Rattle.vx_flow.specs.Live.{reads_of_exit}
use Rattle.vx_flow.specs.Sound.{targets_of, results_of_exit}
use Rattle.vx_flow.specs.Walk.{edge}
use Rattle.vx_mixed.specs.declared.region.Item.{Item}
use Rattle.vx_mixed.specs.declared.region.Item.TheVariants.{Plain, Split}
use Rattle.vx_mixed.specs.declared.region.Node.TheVariants.{Unused, Enters}
use Rattle.vx_mixed.specs.declared.region.Region.{Region}
use Rattle.vx_mixed.specs.declared.mixed.MixedGraph.{MixedGraph}
use Rattle.vx_mixed.specs.Live.{item_reads, item_writes, word_writes, Live, here, beyond, Passage, IsPassage, through_block, by_split, to_the_end, ReadsFirst, Untouched, plain, single}
use Rattle.vx_mixed.specs.Next.{rename}
use Rattle.vx_mixed.specs.Path.{Path, ends, jumps, on_yes, on_no}
use Rattle.vx_mixed.specs.Way.{item_latency, LeadsIn, LeadsOut, at_once, by_made, Renamed, goto, branch, call, return, stop}
use Rattle.vx_mixed.proofs.Alive.{in_whole}
use Rattle.vx_mixed.proofs.Contents.{in_append}
use Rattle.vx_mixed.proofs.LiveRegions.{got}
use Rattle.vx_mixed.proofs.NewNodes.{map_get}
use Rattle.vx_motion.specs.Facts.{RowFacts, IsSplit, row, words_from, ops_of, copies, places}
use Rattle.vx_motion.specs.Items.{Marked, as_it_is, dismissible, split}
use Rattle.vx_motion.specs.Trace.{AfterOf, nth}
use Rattle.vx_motion.specs.Unchanged.{Outside, block, region}
use Rattle.vx_motion.proofs.First.{take_words, NoCopy}
use Rattle.vx_motion.proofs.SettledRenamed.{reads_renamed, writes_renamed, reads_first_exit, drop_map, take_map}
use Rattle.vx_motion.proofs.Times.{in_places, to_places}
use Rattle.vx_motion.proofs.Waits.{of_flat, reads_same, writes_same}

-- Items in order: read, or wanted on an edge that leaves, before it is written

abbrev pub Off : (ℕ → Type 0) → Item → Type 0
Off Q (Plain op cluster) = ⊥
Off Q (Split p y edge d) = Q edge.to

abbrev pub Wants : (ℕ → Type 0) → List Item → ℕ → Type 0 → Type 0
Wants Q [] v E = E
Wants Q (i ∷ is) v E = IsIn v (item_reads i) ⊎ (Off Q i ⊎ ((IsIn v (item_writes i) → ⊥) × Wants Q is v E))

abbrev pub AtExit : (ℕ → Type 0) → Exit → ℕ → Type 0
AtExit Q x v = IsIn v (reads_of_exit x) ⊎ ((c : ℕ) × IsIn c (targets_of x) × (IsIn v (results_of_exit x) → ⊥) × Q c)

abbrev NoneAbove : List Item → ℕ → ℕ → Type 0
NoneAbove is n v = (k : ℕ) → k < n → IsIn v (item_writes (nth is k)) → ⊥

-- where it is
abbrev Found : (ℕ → Type 0) → List Item → ℕ → Type 0 → Type 0
Found Q is v E = ((o : ℕ) × IsIn v (item_reads (nth is o)) × NoneAbove is o v) ⊎ (((e : ℕ) × Off Q (nth is e) × NoneAbove is e v) ⊎ (E × NoneAbove is (length is) v))

none_more : (i : Item) (is : List Item) (v n : ℕ) → (IsIn v (item_writes i) → ⊥) → NoneAbove is n v → NoneAbove (i ∷ is) (suc n) v
none_more i is v n a b zero lt w = a w
none_more i is v n a b (suc k) lt w = b k (omega arith) w

found : (Q : ℕ → Type 0) (is : List Item) (v : ℕ) (E : Type 0) → Wants Q is v E → Found Q is v E
found Q [] v E h = inr (inr (h, (λ k lt w. absurd (omega arith))))
found Q (i ∷ is) v E (inl h) = inl (0, h, (λ k lt w. absurd (omega arith)))
found Q (i ∷ is) v E (inr (inl h)) = inr (inl (0, h, (λ k lt w. absurd (omega arith))))
found Q (i ∷ is) v E (inr (inr h)) =
    ⊎_elim
    (λ a. inl (suc a.0, a.1, none_more i is v a.0 h.0 a.2))
    (λ x. inr (⊎_elim (λ a. inl (suc a.0, a.1, none_more i is v a.0 h.0 a.2)) (λ a. inr (a.0, none_more i is v (length is) h.0 a.1)) x))
    (found Q is v E h.1)

-- the operations of a block

reads_through : (Q : ℕ → Type 0) (ops : List Op) (rest : List Item) (x : Exit) (v : ℕ) (E : Type 0) → ReadsFirst (map single ops) x v → (IsIn v (reads_of_exit x) → Wants Q rest v E) → Wants Q (map plain ops ++ rest) v E
reads_through Q [] rest x v E h k = k h
reads_through Q (op ∷ ops) rest x v E (inl h) k = inl (in_whole v (reads op) h)
reads_through Q (op ∷ ops) rest x v E (inr h) k = inr (inr ((λ w. h.0 (in_append v (writes op) [] (inl w))), reads_through Q ops rest x v E h.1 k))

untouched_through : (Q : ℕ → Type 0) (ops : List Op) (rest : List Item) (v : ℕ) (E : Type 0) → Untouched (map single ops) v → Wants Q rest v E → Wants Q (map plain ops ++ rest) v E
untouched_through Q [] rest v E h k = k
untouched_through Q (op ∷ ops) rest v E h k = inr (inr ((λ w. h.0 (in_append v (writes op) [] (inl w))), untouched_through Q ops rest v E h.1 k))

nothing_after : (is : List Item) → is ++ [] ≡ is
nothing_after [] = refl
nothing_after (i ∷ is) = ap (λ z. i ∷ z) (nothing_after is)

-- a way through a block
block_way : (m : MixedGraph) (c : ℕ) (r : Passage) (ops : List Op) (x : Exit) → IsPassage m c r → slice_get m.nodes c ≡ Some (Unused (record { ops = ops; exit = x })) → (r.words ≡ map single ops) × (r.exit ≡ x)
block_way m c r ops x (through_block {block = k} e) node =
    let same : Some (Unused k) ≡ Some (Unused (record { ops = ops; exit = x })) = sym e ∙ node in
    let same_block : k ≡ record { ops = ops; exit = x } = cc in
    (ap (λ z. map single z.ops) same_block, ap (λ z. z.exit) same_block)
block_way m c r ops x (by_split {r = q} w j p d edge y word node' reg le at h) node = absurd (let same : Some (Enters q w) ≡ Some (Unused (record { ops = ops; exit = x })) = sym node' ∙ node in cc)
block_way m c r ops x (to_the_end {r = q} {w = w} node' reg) node = absurd (let same : Some (Enters q w) ≡ Some (Unused (record { ops = ops; exit = x })) = sym node' ∙ node in cc)

one_target : (d c : ℕ) → IsIn d (c ∷ []) → d ≡ c
one_target d c (inl e) = e
one_target d c (inr h) = absurd h

exit_read : (ws : List (List Item)) (x : Exit) (v : ℕ) → Untouched ws v → IsIn v (reads_of_exit x) → ReadsFirst ws x v
exit_read [] x v u h = h
exit_read (w ∷ ws) x v u h = inr (u.0, exit_read ws x v u.1 h)

-- an exit to blocks that correspond
renamed_reads : (pairs : ℕ → ℕ → Bool) (x x' : Exit) → Renamed pairs x x' → reads_of_exit x ≡ reads_of_exit x'
renamed_reads pairs x x' (goto p) = refl
renamed_reads pairs x x' (branch p q) = refl
renamed_reads pairs x x' (call p) = refl
renamed_reads pairs x x' return = refl
renamed_reads pairs x x' stop = refl

abbrev Onward : (ℕ → ℕ → Bool) → Exit → Exit → ℕ → Type 0
Onward pairs x x' c = (c' : ℕ) × IsIn c' (targets_of x') × (results_of_exit x' ≡ results_of_exit x) × (pairs c c' ≡ true)

pair_from : (pairs : ℕ → ℕ → Bool) (c d c' : ℕ) → d ≡ c → pairs c c' ≡ true → pairs d c' ≡ true
pair_from pairs c d c' e p = subst (λ z. pairs z c' ≡ true) (sym e) p

onward : (pairs : ℕ → ℕ → Bool) (x x' : Exit) (c : ℕ) → Renamed pairs x x' → IsIn c (targets_of x) → Onward pairs x x' c
onward pairs x x' d (goto {c} {c'} p) (inl l) = (c', inl refl, refl, pair_from pairs c d c' l p)
onward pairs x x' d (goto {c} {c'} p) (inr l) = absurd l
onward pairs x x' d (branch {c = c} {c' = c'} {d = e} {d' = e'} a b) (inl l) = (c', inl refl, refl, pair_from pairs c d c' l a)
onward pairs x x' d (branch {c = c} {c' = c'} {d = e} {d' = e'} a b) (inr (inl l)) = (e', inr (inl refl), refl, pair_from pairs e d e' l b)
onward pairs x x' d (branch {c = c} {c' = c'} {d = e} {d' = e'} a b) (inr (inr l)) = absurd l
onward pairs x x' d (call {next = c} {next' = c'} {result = None} p) (inl l) = (c', inl refl, refl, pair_from pairs c d c' l p)
onward pairs x x' d (call {next = c} {next' = c'} {result = Some r} p) (inl l) = (c', inl refl, refl, pair_from pairs c d c' l p)
onward pairs x x' d (call {next = c} {next' = c'} {result = result} p) (inr l) = absurd l
onward pairs x x' d return l = absurd l
onward pairs x x' d stop l = absurd l

-- copies

module _ (chosen : ℕ → Bool) (put : ℕ → Item) where
  untouched_copies : (m k v : ℕ) → NoCopy chosen put k (k + m) v → Untouched (map single (copies chosen put k m)) v
  untouched_copies zero k v h = tt
  untouched_copies (suc m) k v h = by (chosen k) (put k) (λ e w. h k (omega arith) (omega arith) e w) (untouched_copies m (suc k) v (λ i lo hi c w. h i (omega arith) (omega arith) c w))
    where
      by : (b : Bool) (p : Item) → (b ≡ true → IsIn v (item_writes p) → ⊥) → Untouched (map single (copies chosen put (suc k) m)) v → Untouched (map single (cond b (ops_of p) [] ++ copies chosen put (suc k) m)) v
      by true (Plain op cluster) none rest = ((λ w. none refl (in_whole v (writes op) w)), rest)
      by true (Split p u edge d) none rest = rest
      by false p none rest = rest

  read_copy : (m k j : ℕ) (x : Exit) (v : ℕ) → k ≤ j → j < k + m → chosen j ≡ true → (IsSplit (put j) → ⊥) → IsIn v (item_reads (put j)) → NoCopy chosen put k j v → ReadsFirst (map single (copies chosen put k m)) x v
  read_copy zero k j x v lo hi c ns rd none = absurd (omega arith)
  read_copy (suc m) k j x v lo hi c ns rd none =
      ⊎_elim
      (λ e. first (chosen k) (put k) (ap chosen e ∙ c) (subst (λ z. IsSplit (put z) → ⊥) (sym e) ns) (subst (λ z. IsIn v (item_reads (put z))) (sym e) rd))
      (λ n. later (chosen k) (put k) (λ b w. none k (omega arith) (let n' = n in omega arith) b w) (read_copy m (suc k) j x v (let n' = n in omega arith) (omega arith) c ns rd (λ i a b d w. none i (omega arith) b d w)))
      (cases_eq k j)
    where
      first : (b : Bool) (p : Item) → b ≡ true → (IsSplit p → ⊥) → IsIn v (item_reads p) → ReadsFirst (map single (cond b (ops_of p) [] ++ copies chosen put (suc k) m)) x v
      first true (Plain op cluster) e n h = inl (in_append v (reads op) [] (inl h))
      first true (Split p u edge d) e n h = absurd (n tt)
      first false p e n h = absurd (cc)

      later : (b : Bool) (p : Item) → (b ≡ true → IsIn v (item_writes p) → ⊥) → ReadsFirst (map single (copies chosen put (suc k) m)) x v → ReadsFirst (map single (cond b (ops_of p) [] ++ copies chosen put (suc k) m)) x v
      later true (Plain op cluster) n h = inr ((λ w. n refl (in_whole v (writes op) w)), h)
      later true (Split p u edge d) n h = h
      later false p n h = h

-- words

to_flat : (f : Item → List ℕ) (mark : ℕ → Item) (ks : List ℕ) (k v : ℕ) → IsIn k ks → IsIn v (f (mark k)) → IsIn v (flat_map f (map mark ks))
to_flat f mark [] k v h w = absurd h
to_flat f mark (j ∷ ks) k v (inl e) w = in_append v (f (mark j)) (flat_map f (map mark ks)) (inl (subst (λ z. IsIn v (f (mark z))) e w))
to_flat f mark (j ∷ ks) k v (inr h) w = in_append v (f (mark j)) (flat_map f (map mark ks)) (inr (to_flat f mark ks k v h w))

to_mapped : (mark : ℕ → Item) (ks : List ℕ) (k : ℕ) → IsIn k ks → IsIn (mark k) (map mark ks)
to_mapped mark [] k h = absurd h
to_mapped mark (j ∷ ks) k (inl e) = inl (ap mark e)
to_mapped mark (j ∷ ks) k (inr h) = inr (to_mapped mark ks k h)

at_word : (f : ℕ → List Item) (n w k : ℕ) → k < n → slice_get (words_from f w n) k ≡ Some (f (w + k))
at_word f zero w k lt = absurd (omega arith)
at_word f (suc n) w zero lt = let z : w ≡ w + 0 = omega arith in ap (λ k. Some (f k)) z
at_word f (suc n) w (suc k) lt = let z : suc w + k ≡ w + suc k = omega arith in at_word f n (suc w) k (omega arith) ∙ ap (λ k. Some (f k)) z

module _ (is : List Item) (word : ℕ → ℕ) (mark : ℕ → Item) (marked : (k : ℕ) → Marked (nth is k) (mark k)) where
  abbrev F : ℕ → List Item
  F = row word mark 0 (length is)

  abbrev NoWriter : ℕ → ℕ → ℕ → Type 0
  NoWriter w z v = (i : ℕ) → i < length is → w ≤ word i → word i < z → IsIn v (item_writes (nth is i)) → ⊥

  writer_of : (w v : ℕ) → IsIn v (word_writes (F w)) → (k : ℕ) × (word k ≡ w) × (k < length is) × IsIn v (item_writes (nth is k))
  writer_of w v h =
      let r = of_flat item_writes mark (places word w 0 (length is)) v h in
      let p = in_places word w 0 (length is) r.0 r.1 in
      (r.0, p.0, (let q = p.1 in omega arith), subst (λ z. IsIn v z) (writes_same (nth is r.0) (mark r.0) (marked r.0)) r.2)

  words_untouched : (n w v : ℕ) → NoWriter w (w + n) v → Untouched (words_from F w n) v
  words_untouched zero w v h = tt
  words_untouched (suc n) w v h = ((λ x. let r = writer_of w v x in let e = r.1 in h r.0 r.2 (omega arith) (omega arith) r.3), words_untouched n (suc w) v (λ i lt a b x. h i lt (omega arith) (omega arith) x))

  words_read : (n w o : ℕ) (x : Exit) (v : ℕ) → o < length is → w ≤ word o → word o < w + n → IsIn v (item_reads (nth is o)) → NoWriter w (word o) v → ReadsFirst (words_from F w n) x v
  words_read zero w o x v lt lo hi rd none = absurd (omega arith)
  words_read (suc n) w o x v lt lo hi rd none =
      ⊎_elim
      (λ e. inl (to_flat item_reads mark (places word w 0 (length is)) o v (to_places word w 0 (length is) o (sym e) (omega arith) (omega arith)) (subst (λ z. IsIn v z) (sym (reads_same (nth is o) (mark o) (marked o))) rd)))
      (λ d. inr ((λ y. let r = writer_of w v y in let e = r.1 in none r.0 r.2 (omega arith) (let d' = d in omega arith) r.3), words_read n (suc w) o x v lt (let d' = d in omega arith) (omega arith) rd (λ i a b c y. none i a (omega arith) c y)))
      (cases_eq w (word o))

-- words whose splits go to blocks of other names

renamed_read_first : (to : ℕ → ℕ → ℕ) (ws : List (List Item)) (x x' : Exit) (v : ℕ) → reads_of_exit x ≡ reads_of_exit x' → ReadsFirst ws x v → ReadsFirst (map (map (rename to)) ws) x' v
renamed_read_first to [] x x' v e h = subst (λ z. IsIn v z) e h
renamed_read_first to (w ∷ ws) x x' v e (inl h) = inl (subst (λ z. IsIn v z) (sym (reads_renamed to w)) h)
renamed_read_first to (w ∷ ws) x x' v e (inr h) = inr ((λ q. h.0 (subst (λ z. IsIn v z) (writes_renamed to w) q)), renamed_read_first to ws x x' v e h.1)

renamed_untouched : (to : ℕ → ℕ → ℕ) (ws : List (List Item)) (v : ℕ) → Untouched ws v → Untouched (map (map (rename to)) ws) v
renamed_untouched to [] v h = tt
renamed_untouched to (w ∷ ws) v h = ((λ q. h.0 (subst (λ z. IsIn v z) (writes_renamed to w) q)), renamed_untouched to ws v h.1)

in_renamed : (to : ℕ → ℕ → ℕ) (word : List Item) (i : Item) → IsIn i word → IsIn (rename to i) (map (rename to) word)
in_renamed to [] i h = absurd h
in_renamed to (x ∷ word) i (inl e) = inl (ap (rename to) e)
in_renamed to (x ∷ word) i (inr h) = inr (in_renamed to word i h)

-- One way into a region, as `Way` of vx_motion has it, where the items that are placed want what those of the blocks do

abbrev pub Kept : (old new : MixedGraph) (pairs : ℕ → ℕ → Bool) (v c : ℕ) → Type 0
Kept old new pairs v c = Live old c v × ((c' : ℕ) → (pairs c c' ≡ true) → Live new c' v)

pub record Entry (setting : Setting) (latency : Op → ℕ) (old new : MixedGraph) (meet_old meet_new : ℕ → ℕ → Bool) (pairs : ℕ → ℕ → Bool) (n : ℕ) (reg : Region) (v b b' : ℕ) : Type 0 where
  pub plain : List Item
  pub items : List Item
  pub end : ℕ
  pub exit : Exit
  pub word : ℕ → ℕ
  pub mark : ℕ → Item
  pub rejoin : ℕ
  pub path : Path old meet_old b plain end exit
  pub wants : Wants (Kept old new pairs v) plain v (AtExit (Kept old new pairs v) exit v) → Wants (Kept old new pairs v) items v (AtExit (Kept old new pairs v) exit v)
  pub facts : RowFacts setting items word mark (item_latency latency) (length reg.words) (AfterOf old items)
  pub low : rejoin ≤ length reg.words
  pub late : (k : ℕ) → IsSplit (nth items k) → rejoin ≤ word k
  pub words : drop rejoin reg.words ≡ words_from (row word mark 0 (length items)) rejoin (length reg.words - rejoin)
  pub enters : LeadsIn new meet_new n rejoin (copies (λ k. nat_lt (word k) rejoin) mark 0 (length items)) b'
  pub leaves : (e p d g : ℕ) (y : Bool) (edge edge' : Edge) → nth items e ≡ Split p y edge d → mark e ≡ Split p y edge' g → LeadsOut new meet_new pairs (copies (λ k. nat_lt (word e) (word k)) (nth items) 0 e) edge'.from edge'.to edge.to
  pub last_exit : Renamed pairs exit reg.last

split_writes_none : (i : Item) (v : ℕ) → IsSplit i → IsIn v (item_writes i) → ⊥
split_writes_none (Plain op cluster) v s w = s
split_writes_none (Split p y e d) v s w = w

split_marked : (i i' : Item) (p d : ℕ) (y : Bool) (edge : Edge) → i ≡ Split p y edge d → Marked i i' → (edge' : Edge) × (g : ℕ) × (i' ≡ Split p y edge' g)
split_marked i i' p d y edge e as_it_is = absurd (cc)
split_marked i i' p d y edge e dismissible = absurd (cc)
split_marked i i' p d y edge e (split {p = q} {d' = z} {edge' = other} {y = u}) =
    let ep : q ≡ p = cc in
    let ey : u ≡ y = cc in
    (other, z, ap (λ k. Split k u other z) ep ∙ ap (λ k. Split p k other z) ey)

-- what stands past the end reads nothing
nth_reads : (is : List Item) (k v : ℕ) → IsIn v (item_reads (nth is k)) → (k < length is)
nth_reads [] k v h = absurd h
nth_reads (i ∷ is) zero v h = omega arith
nth_reads (i ∷ is) (suc k) v h = let l = nth_reads is k v h in omega arith

nth_split : (is : List Item) (k : ℕ) → IsSplit (nth is k) → (k < length is)
nth_split [] k h = absurd h
nth_split (i ∷ is) zero h = omega arith
nth_split (i ∷ is) (suc k) h = let l = nth_split is k h in omega arith

module _ (setting : Setting) (latency : Op → ℕ) (old new : MixedGraph) (meet_old meet_new : ℕ → ℕ → Bool) (pairs : ℕ → ℕ → Bool) (n : ℕ) (reg : Region) (is_region : slice_get new.regions n ≡ Some reg) (v : ℕ) where
  abbrev Q : ℕ → Type 0
  Q = Kept old new pairs v

  module _ (b b' : ℕ) (way : Entry setting latency old new meet_old meet_new pairs n reg v b b') where
    abbrev I : List Item
    I = way.items

    abbrev N : ℕ
    N = length way.items

    abbrev L : ℕ
    L = length reg.words

    abbrev R : ℕ
    R = way.rejoin

    abbrev W : ℕ → ℕ
    W = way.word

    abbrev f : ℕ → List Item
    f = row way.word way.mark 0 (length way.items)

    abbrev Wr : ℕ → Type 0
    Wr i = IsIn v (item_writes (nth way.items i))

    mark_writes : (i : ℕ) → IsIn v (item_writes (way.mark i)) → Wr i
    mark_writes i w = subst (λ z. IsIn v z) (writes_same (nth way.items i) (way.mark i) (way.facts.marked i)) w

    -- no copy at the join writes it
    abbrev Free : Type 0
    Free = (i : ℕ) → i < N → W i < R → Wr i → ⊥

    no_copy : Free → NoCopy (λ k. nat_lt (way.word k) way.rejoin) way.mark 0 (0 + N) v
    no_copy free i lo hi c w = free i (omega arith) (ltb-true (W i) R c) (mark_writes i w)

    -- past the copies at the join
    into : Free → ((c : ℕ) → slice_get new.nodes c ≡ Some (Enters n R) → Live new c v) → Live new b' v
    into free go = by way.enters
      where
        by : LeadsIn new meet_new n R (copies (λ k. nat_lt (way.word k) way.rejoin) way.mark 0 (length way.items)) b' → Live new b' v
        by (at_once none node) = go b' node
        by (by_made c node inner at) = beyond (through_block node) (untouched_copies (λ k. nat_lt (way.word k) way.rejoin) way.mark N 0 v (no_copy free)) (λ z. z) (inl refl) (go c at)

    -- read by a copy at the join
    copied : (o : ℕ) → o < N → W o < R → IsIn v (item_reads (nth way.items o)) → NoneAbove I o v → Live new b' v
    copied o lt lo rd none = by way.enters
      where
        ns : IsSplit (way.mark o) → ⊥
        ns s = old_split (nth way.items o) (way.mark o) (way.facts.marked o) s (λ q. let l = way.late o q in omega arith)
          where
            old_split : (i i' : Item) → Marked i i' → IsSplit i' → (IsSplit i → ⊥) → ⊥
            old_split i i' as_it_is s k = s
            old_split i i' dismissible s k = s
            old_split i i' split s k = k tt

        first : (x : Exit) → ReadsFirst (map single (copies (λ k. nat_lt (way.word k) way.rejoin) way.mark 0 (length way.items))) x v
        first x = read_copy (λ k. nat_lt (way.word k) way.rejoin) way.mark N 0 o x v (omega arith) (omega arith) (lt-ltb (W o) R lo) ns (subst (λ z. IsIn v z) (sym (reads_same (nth way.items o) (way.mark o) (way.facts.marked o))) rd)
            (λ i a c d w. none i c (mark_writes i w))

        by : LeadsIn new meet_new n R (copies (λ k. nat_lt (way.word k) way.rejoin) way.mark 0 (length way.items)) b' → Live new b' v
        by (at_once none node) = absurd (subst (λ ops. ReadsFirst (map single ops) (Goto 0) v) none (first (Goto 0)))
        by (by_made c node inner at) = here (through_block node) (first (Goto c))

    read : (o : ℕ) → IsIn v (item_reads (nth way.items o)) → NoneAbove I o v → Live new b' v
    read o rd none = ⊎_elim (λ lo. copied o lt lo rd none) (λ le. into (free le) (λ c node. placed le c node)) (cases_lt (W o) R)
      where
        lt : o < N
        lt = nth_reads way.items o v rd

        free : R ≤ W o → Free
        free le i hi lo w = ⊎_elim (λ e. let e' = e in let x : o ≡ i = e in let y : W o ≡ W i = ap way.word x in omega arith) (λ x. ⊎_elim (λ a. let z = way.facts.anti o i v a rd w in omega arith) (λ a. none i a w) x) (cases_order o i)

        placed : R ≤ W o → (c : ℕ) → slice_get new.nodes c ≡ Some (Enters n R) → Live new c v
        placed le c node =
            let ins = way.facts.inside o lt in
            here (to_the_end node is_region) (subst (λ ws. ReadsFirst ws reg.last v) (sym way.words) (words_read way.items way.word way.mark way.facts.marked (L - R) R o reg.last v lt le (omega arith) rd
            (λ i hi a z w. ⊎_elim (λ e. let x : o ≡ i = e in let y : W o ≡ W i = ap way.word x in omega arith) (λ x. ⊎_elim (λ k. let g = way.facts.anti o i v k rd w in omega arith) (λ k. none i k w) x) (cases_order o i))))

    ended : AtExit Q way.exit v → NoneAbove I N v → Live new b' v
    ended x none = into (λ i hi lo w. none i hi w) (λ c node. by c node x)
      where
        free : Untouched (drop R reg.words) v
        free = subst (λ ws. Untouched ws v) (sym way.words) (words_untouched way.items way.word way.mark way.facts.marked (L - R) R v (λ i hi a z w. none i hi w))

        by : (c : ℕ) → slice_get new.nodes c ≡ Some (Enters n R) → AtExit Q way.exit v → Live new c v
        by c node (inl h) = here (to_the_end node is_region) (exit_read (drop R reg.words) reg.last v free (subst (λ z. IsIn v z) (renamed_reads pairs way.exit reg.last way.last_exit) h))
        by c node (inr h) =
            let k = onward pairs way.exit reg.last h.0 way.last_exit h.1 in
            beyond (to_the_end node is_region) free (λ z. h.2 (subst (λ rs. IsIn v rs) k.2 z)) k.1 (h.3.1 k.0 k.3)

    module _ (e p d : ℕ) (y : Bool) (off : Edge) (at_e : nth way.items e ≡ Split p y off d) (kept : Q off.to) (none : NoneAbove I e v) where
      is_sp : IsSplit (nth way.items e)
      is_sp = subst IsSplit (sym at_e) tt

      lt_e : e < N
      lt_e = nth_split way.items e is_sp

      lo_e : R ≤ W e
      lo_e = way.late e is_sp

      after_e : AfterOf old way.items e v
      after_e = subst (λ z. (λ (i : Item). AfterOf old (i ∷ []) 0 v) z) (sym at_e) kept.0

      -- all that is done up to the word of the split leaves it be
      clear : (i : ℕ) → W i ≤ W e → Wr i → ⊥
      clear i le w = ⊎_elim (λ q. split_writes_none (nth way.items i) v (subst (λ z. IsSplit (nth way.items z)) q is_sp) w) (λ x. ⊎_elim (λ k. let g = way.facts.kept e i v k is_sp after_e w in omega arith) (λ k. none i k w) x) (cases_order e i)

      off_copies : (x : ℕ) (k : ℕ) → (pairs off.to k ≡ true) → slice_get new.nodes x ≡ Some (Unused (record { ops = copies (λ z. nat_lt (way.word e) (way.word z)) (nth way.items) 0 e; exit = Goto k })) → Live new x v
      off_copies x k pair node = beyond (through_block node) (untouched_copies (λ z. nat_lt (way.word e) (way.word z)) (nth way.items) e 0 v (λ i a c g w. none i (omega arith) w)) (λ z. z) (inl refl) (kept.1 k pair)

      leaving : (x : ℕ) (from : ℕ) → LeadsOut new meet_new pairs (copies (λ k. nat_lt (way.word e) (way.word k)) (nth way.items) 0 e) from x off.to → Live new x v
      leaving x from (at_once nothing meets pair) = kept.1 x pair
      leaving x from (by_made k inner node meets pair) = off_copies x k pair node

      at_split : (c : ℕ) → slice_get new.nodes c ≡ Some (Enters n R) → Live new c v
      at_split c node =
          let s = split_marked (nth way.items e) (way.mark e) p d y off at_e (way.facts.marked e) in
          let ins = way.facts.inside e lt_e in
          let low = lo_e in
          let hi = lt_e in
          let place : R + (W e - R) ≡ W e = omega arith in
          let total : L - R ≡ (W e + 1 - R) + (L - (W e + 1)) = omega arith in
          let there : slice_get reg.words (W e) ≡ Some (f (W e)) =
          ap (slice_get reg.words) (sym place) ∙ sym (got R reg.words (W e - R)) ∙ ap (λ ws. slice_get ws (W e - R)) way.words ∙ at_word f (L - R) R (W e - R) (omega arith) ∙ ap (λ k. Some (f k)) place in
          let has : IsIn (Split p y s.0 s.1) (f (W e)) = subst (λ z. IsIn z (f (W e))) s.2 (to_mapped way.mark (places way.word (W e) 0 N) e (to_places way.word (W e) 0 N e refl (omega arith) (omega arith))) in
          let cut : take (W e + 1 - R) (drop R reg.words) ≡ words_from f R (W e + 1 - R) =
          ap (take (W e + 1 - R)) way.words ∙ ap (λ k. take (W e + 1 - R) (words_from f R k)) total ∙ take_words f (W e + 1 - R) (L - (W e + 1)) R in
          let route : IsPassage new c (record { words = take (W e + 1 - R) (drop R reg.words); exit = Goto s.0.to }) = by_split R (W e) p s.1 s.0 y (f (W e)) node is_region low there has in
          beyond route (subst (λ ws. Untouched ws v) (sym cut) (words_untouched way.items way.word way.mark way.facts.marked (W e + 1 - R) R v (λ i hi a z w. clear i (omega arith) w))) (λ z. z) (inl refl)
          (leaving s.0.to s.0.from (way.leaves e p d s.1 y off s.0 at_e s.2))

      off_live : Live new b' v
      off_live = into (λ i hi lo w. let low = lo_e in clear i (omega arith) w) at_split

    entered : Wants Q way.plain v (AtExit Q way.exit v) → Live new b' v
    entered h =
        ⊎_elim
        (λ a. read a.0 a.1 a.2)
        (λ x. ⊎_elim (λ a. off a.0 (nth way.items a.0) refl a.1 a.2) (λ a. ended a.0 a.1) x)
        (found Q way.items v (AtExit Q way.exit v) (way.wants h))
      where
        off : (e : ℕ) (i : Item) → nth way.items e ≡ i → Off Q (nth way.items e) → NoneAbove I e v → Live new b' v
        off e (Plain op cluster) at h none = absurd (subst (Off Q) at h)
        off e (Split p y edge d) at h none = off_live e p d y edge at (subst (Off Q) at h) none

  -- what holds where it is live in the old graph: it is live at what corresponds, and wanted along a path from there
  record Both (b : ℕ) : Type 0 where
    paired : (b' : ℕ) → (pairs b b' ≡ true) → Live new b' v
    along : (l : ℕ) (is : List Item) (x : Exit) → Path old meet_old b is l x → Wants Q is v (AtExit Q x v)

  -- along a path

  along_here : (b : ℕ) (r : Passage) → IsPassage old b r → ReadsFirst r.words r.exit v → (l : ℕ) (is : List Item) (x : Exit) → Path old meet_old b is l x → Wants Q is v (AtExit Q x v)
  along_here b r route h l is x (ends ops e i el all) =
      let w = block_way old b r ops x route e in
      subst (λ z. Wants Q z v (AtExit Q x v)) (nothing_after (map plain ops) ∙ sym i)
      (reads_through Q ops [] x v (AtExit Q x v) (subst (λ z. ReadsFirst (map single ops) z v) w.1 (subst (λ z. ReadsFirst z r.exit v) w.0 h)) (λ q. inl q))
  along_here b r route h l is x (jumps c ops rest e inner i path) =
      let w = block_way old b r ops (Goto c) route e in
      subst (λ z. Wants Q z v (AtExit Q x v)) (sym i)
      (reads_through Q ops rest (Goto c) v (AtExit Q x v) (subst (λ z. ReadsFirst (map single ops) z v) w.1 (subst (λ z. ReadsFirst z r.exit v) w.0 h)) (λ q. absurd q))
  along_here b r route h l is x (on_yes p c d ops rest e inner out i path) =
      let w = block_way old b r ops (Branch p c d) route e in
      subst (λ z. Wants Q z v (AtExit Q x v)) (sym i)
      (reads_through Q ops (Split p false (edge b d) 0 ∷ rest) (Branch p c d) v (AtExit Q x v) (subst (λ z. ReadsFirst (map single ops) z v) w.1 (subst (λ z. ReadsFirst z r.exit v) w.0 h)) (λ q. inl q))
  along_here b r route h l is x (on_no p c d ops rest e inner out i path) =
      let w = block_way old b r ops (Branch p c d) route e in
      subst (λ z. Wants Q z v (AtExit Q x v)) (sym i)
      (reads_through Q ops (Split p true (edge b c) 0 ∷ rest) (Branch p c d) v (AtExit Q x v) (subst (λ z. ReadsFirst (map single ops) z v) w.1 (subst (λ z. ReadsFirst z r.exit v) w.0 h)) (λ q. inl q))

  along_beyond : (b c : ℕ) (r : Passage) → IsPassage old b r → Untouched r.words v → (IsIn v (results_of_exit r.exit) → ⊥) → IsIn c (targets_of r.exit) → Live old c v → Both c → (l : ℕ) (is : List Item) (x : Exit) → Path old meet_old b is l x → Wants Q is v (AtExit Q x v)
  along_beyond b t r route un nr leads live go l is x (ends ops e i el all) =
      let w = block_way old b r ops x route e in
      subst (λ z. Wants Q z v (AtExit Q x v)) (nothing_after (map plain ops) ∙ sym i)
      (untouched_through Q ops [] v (AtExit Q x v) (subst (λ z. Untouched z v) w.0 un) (inr (t, subst (λ z. IsIn t (targets_of z)) w.1 leads, (λ q. nr (subst (λ z. IsIn v (results_of_exit z)) (sym w.1) q)), (live, go.paired))))
  along_beyond b t r route un nr leads live go l is x (jumps c ops rest e inner i path) =
      let w = block_way old b r ops (Goto c) route e in
      let q : t ≡ c = one_target t c (subst (λ z. IsIn t (targets_of z)) w.1 leads) in
      subst (λ z. Wants Q z v (AtExit Q x v)) (sym i)
      (untouched_through Q ops rest v (AtExit Q x v) (subst (λ z. Untouched z v) w.0 un) (go.along l rest x (subst (λ z. Path old meet_old z rest l x) (sym q) path)))
  along_beyond b t r route un nr leads live go l is x (on_yes p c d ops rest e inner out i path) =
      let w = block_way old b r ops (Branch p c d) route e in
      subst (λ z. Wants Q z v (AtExit Q x v)) (sym i)
      (untouched_through Q ops (Split p false (edge b d) 0 ∷ rest) v (AtExit Q x v) (subst (λ z. Untouched z v) w.0 un) (by (subst (λ z. IsIn t (targets_of z)) w.1 leads)))
    where
      by : IsIn t (c ∷ d ∷ []) → Wants Q (Split p false (edge b d) 0 ∷ rest) v (AtExit Q x v)
      by (inl q) = inr (inr ((λ z. z), go.along l rest x (subst (λ z. Path old meet_old z rest l x) (sym q) path)))
      by (inr (inl q)) = inr (inl (subst Q q (live, go.paired)))
      by (inr (inr q)) = absurd q
  along_beyond b t r route un nr leads live go l is x (on_no p c d ops rest e inner out i path) =
      let w = block_way old b r ops (Branch p c d) route e in
      subst (λ z. Wants Q z v (AtExit Q x v)) (sym i)
      (untouched_through Q ops (Split p true (edge b c) 0 ∷ rest) v (AtExit Q x v) (subst (λ z. Untouched z v) w.0 un) (by (subst (λ z. IsIn t (targets_of z)) w.1 leads)))
    where
      by : IsIn t (c ∷ d ∷ []) → Wants Q (Split p true (edge b c) 0 ∷ rest) v (AtExit Q x v)
      by (inl q) = inr (inl (subst Q q (live, go.paired)))
      by (inr (inl q)) = inr (inr ((λ z. z), go.along l rest x (subst (λ z. Path old meet_old z rest l x) (sym q) path)))
      by (inr (inr q)) = absurd q

  -- a way through a node that is left as it is

  abbrev NewWay : ℕ → Passage → Type 0
  NewWay b' r = (q : Passage) × IsPassage new b' q × (ReadsFirst r.words r.exit v → ReadsFirst q.words q.exit v) × (Untouched r.words v → Untouched q.words v) × ((c : ℕ) → IsIn c (targets_of r.exit) → Onward pairs r.exit q.exit c)

  new_way : (b b' : ℕ) (r : Passage) → Outside latency old new meet_old meet_new pairs b b' → IsPassage old b r → NewWay b' r
  new_way b b' r (block ops x x' node node' renamed meets meets') route =
      let e = block_way old b r ops x route node in (
        record { words = map single ops; exit = x' },
        through_block node',
        (λ h. reads_first_exit (map single ops) x' x v (renamed_reads pairs x x' renamed) (subst (λ z. ReadsFirst (map single ops) z v) e.1 (subst (λ z. ReadsFirst z r.exit v) e.0 h))),
        (λ h. subst (λ z. Untouched z v) e.0 h),
        (λ c l. subst (λ z. Onward pairs z x' c) (sym e.1) (onward pairs x x' c renamed (subst (λ z. IsIn c (targets_of z)) e.1 l))),
      )
  new_way b b' r (region q q' w g g' node reg' node' reg'' same) (through_block {block = k} e) = absurd (let s : Some (Unused k) ≡ Some (Enters q w) = sym e ∙ node in cc)
  new_way b b' r (region q q' w g g' node reg' node' reg'' same) (to_the_end {r = y} {w = u} {g = h} e at) =
      let s : Some (Enters y u) ≡ Some (Enters q w) = sym e ∙ node in
      let ey : y ≡ q = cc in
      let eu : u ≡ w = cc in
      let t : Some h ≡ Some g = sym at ∙ ap (slice_get old.regions) ey ∙ reg' in
      let eh : h ≡ g = cc in
      let old_words : drop u h.words ≡ drop w g.words = ap (λ z. drop z h.words) eu ∙ ap (λ z. drop w z.words) eh in
      let exit : h.last ≡ g.last = ap (λ z. z.last) eh in
      let words : drop w g'.words ≡ map (map (rename same.to)) (drop w g.words) = ap (drop w) same.words ∙ drop_map (map (rename same.to)) g.words w in (
        record { words = drop w g'.words; exit = g'.last },
        to_the_end node' reg'',
        (λ k. subst (λ z. ReadsFirst z g'.last v) (sym words) (renamed_read_first same.to (drop w g.words) g.last g'.last v (renamed_reads pairs g.last g'.last same.last) (subst (λ z. ReadsFirst (drop w g.words) z v) exit (subst (λ z. ReadsFirst z h.last v) old_words k)))),
        (λ k. subst (λ z. Untouched z v) (sym words) (renamed_untouched same.to (drop w g.words) v (subst (λ z. Untouched z v) old_words k))),
        (λ c l. subst (λ z. Onward pairs z g'.last c) (sym exit) (onward pairs g.last g'.last c same.last (subst (λ z. IsIn c (targets_of z)) exit l))),
      )
  new_way b b' r (region q q' w g g' node reg' node' reg'' same) (by_split {r = z} u j p d off y {g = h} word e at lo here_ sp) =
      let s : Some (Enters z u) ≡ Some (Enters q w) = sym e ∙ node in
      let ey : z ≡ q = cc in
      let eu : u ≡ w = cc in
      let t : Some h ≡ Some g = sym at ∙ ap (slice_get old.regions) ey ∙ reg' in
      let eh : h ≡ g = cc in
      let there : slice_get g.words j ≡ Some word = ap (λ k. slice_get k.words j) (sym eh) ∙ here_ in
      let low : w ≤ j = subst (λ k. k ≤ j) eu lo in
      let now : slice_get g'.words j ≡ Some (map (rename same.to) word) = ap (λ ws. slice_get ws j) same.words ∙ map_get (map (rename same.to)) g.words j word there in
      let words : take (j + 1 - w) (drop w g'.words) ≡ map (map (rename same.to)) (take (j + 1 - w) (drop w g.words)) =
      ap (λ k. take (j + 1 - w) (drop w k)) same.words ∙ ap (take (j + 1 - w)) (drop_map (map (rename same.to)) g.words w) ∙ take_map (map (rename same.to)) (drop w g.words) (j + 1 - w) in
      let old_words : take (j + 1 - u) (drop u h.words) ≡ take (j + 1 - w) (drop w g.words) = ap (λ k. take (j + 1 - k) (drop k h.words)) eu ∙ ap (λ k. take (j + 1 - w) (drop w k.words)) eh in
      let pair : pairs off.to (same.to off.from off.to) ≡ true = (same.edges j p d off y word there sp).0 in (
        record { words = take (j + 1 - w) (drop w g'.words); exit = Goto (same.to off.from off.to) },
        by_split w j p d (record off { to = same.to off.from off.to }) y (map (rename same.to) word) node' reg'' low now (in_renamed same.to word (Split p y off d) sp),
        (λ k. subst (λ ws. ReadsFirst ws (Goto (same.to off.from off.to)) v) (sym words) (renamed_read_first same.to (take (j + 1 - w) (drop w g.words)) (Goto off.to) (Goto (same.to off.from off.to)) v refl (subst (λ ws. ReadsFirst ws (Goto off.to) v) old_words k))),
        (λ k. subst (λ ws. Untouched ws v) (sym words) (renamed_untouched same.to (take (j + 1 - w) (drop w g.words)) v (subst (λ ws. Untouched ws v) old_words k))),
        (λ c l. (same.to off.from off.to, inl refl, refl, pair_from pairs off.to c (same.to off.from off.to) (one_target c off.to l) pair)),
      )

  outside_here : (b' : ℕ) (r : Passage) → NewWay b' r → ReadsFirst r.words r.exit v → Live new b' v
  outside_here b' r q h = here q.1 (q.2 h)

  outside_beyond : (b' c : ℕ) (r : Passage) → NewWay b' r → Untouched r.words v → (IsIn v (results_of_exit r.exit) → ⊥) → IsIn c (targets_of r.exit) → Both c → Live new b' v
  outside_beyond b' c r q un nr leads go = let k = q.4 c leads in beyond q.1 (q.3 un) (λ z. nr (subst (λ rs. IsIn v rs) k.2 z)) k.1 (go.paired k.0 k.3)

  module _ (ways : (b b' : ℕ) → (pairs b b' ≡ true) → Entry setting latency old new meet_old meet_new pairs n reg v b b' ⊎ Outside latency old new meet_old meet_new pairs b b') where
    by_way : (b b' : ℕ) → ((l : ℕ) (is : List Item) (x : Exit) → Path old meet_old b is l x → Wants Q is v (AtExit Q x v)) → Entry setting latency old new meet_old meet_new pairs n reg v b b' → Live new b' v
    by_way b b' along way = entered b b' way (along way.end way.plain way.exit way.path)

    forth : {b : ℕ} → Live old b v → Both b
    forth {b} (here {p = r} route h) =
        let a = along_here b r route h in
        record { paired = λ b' pair. ⊎_elim (by_way b b' a) (λ o. outside_here b' r (new_way b b' r o route) h) (ways b b' pair); along = a }
    forth {b} (beyond {c = c} {p = r} route un nr leads rest) =
        let go = forth rest in
        let a = along_beyond b c r route un nr leads rest go in
        record { paired = λ b' pair. ⊎_elim (by_way b b' a) (λ o. outside_beyond b' c r (new_way b b' r o route) un nr leads go) (ways b b' pair); along = a }

    pub live_forth : (b b' : ℕ) → pairs b b' ≡ true → Live old b v → Live new b' v
    live_forth b b' pair live = (forth live).paired b' pair
