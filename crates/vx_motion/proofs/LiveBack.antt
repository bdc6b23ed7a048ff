-- What is live at an entrance of the new graph is live there in the old one.
use Rattle.std.proofs.Common.{◌≡◌, ℕ, ◌+◌, ◌-◌, ◌<◌, ◌≤◌, Bool, true, Some, None, List, [], ◌∷◌, length, take, drop, refl, sym, ap, ◌∙◌, subst, ⊎_elim, inl, inr, arith, map}
use Rattle.std.specs.Prelude.{◌⊎◌, slice_get, nat_lt}
use Rattle.std.proofs.lemmas.Bool.{cases_lt, lt-ltb, ltb-true}
use Rattle.vx_flow.specs.declared.graph.Edge.{Edge}
use Rattle.vx_flow.specs.Sound.{targets_of, results_of_exit}
use Rattle.vx_flow.specs.declared.graph.Op.{Op}
use Rattle.vx_flow.specs.declared.graph.Exit.{Exit}
use Rattle.vx_flow.specs.declared.graph.Exit.TheVariants.{Goto}
use Rattle.vx_mixed.specs.declared.region.Item.{Item}
use Rattle.vx_mixed.specs.declared.region.Item.TheVariants.{Split}
use Rattle.vx_mixed.specs.declared.region.Region.{Region}
use Rattle.vx_mixed.specs.declared.region.Node.TheVariants.{Unused, Enters}
use Rattle.vx_mixed.specs.declared.mixed.MixedGraph.{MixedGraph}
use Rattle.vx_flow.specs.Effects.{Setting, IsIn}
use Rattle.vx_mixed.specs.Live.{item_reads, item_writes, Live, here, beyond, Passage, IsPassage, through_block, by_split, to_the_end, ReadsFirst, Untouched, single}
use Rattle.vx_flow.specs.Live.{reads_of_exit}
use Rattle.vx_motion.specs.Items.{Marked, as_it_is, dismissible, split}
use Rattle.vx_motion.specs.Trace.{nth}
use Rattle.vx_motion.specs.Facts.{row, words_from, copies, places}
use Rattle.vx_mixed.specs.Alive.{Alive, AfterItem, AtEnd}
use Rattle.vx_mixed.specs.Way.{LeadsIn, LeadsOut, at_once, by_made, Renamed, goto, branch, call, return, stop}
use Rattle.vx_motion.specs.Unchanged.{Outside, block, region, LiveWithin}
use Rattle.vx_mixed.specs.Next.{rename}
use Rattle.vx_mixed.proofs.Alive.{live_start}
use Rattle.vx_motion.proofs.AliveAt.{alive_read, alive_edge, alive_end}
use Rattle.vx_mixed.proofs.LiveRegions.{got}
use Rattle.vx_mixed.proofs.Renames.{old_word, old_split}
use Rattle.vx_motion.proofs.SettledRenamed.{reads_first_renamed, reads_first_exit, untouched_renamed, drop_map, take_map}
use Rattle.vx_motion.proofs.Waits.{word_at, of_mapped, reads_same, writes_same}
use Rattle.vx_motion.proofs.Times.{in_places}
use Rattle.vx_motion.proofs.Delays.{nth_past}
use Rattle.vx_motion.proofs.First.{take_words, first_in_words, untouched_words, none_copied, first_in_copies, untouched_copies, NoWriter, NoCopy}
use Rattle.vx_motion.proofs.OneWay.{Way}

split_back : (i i' : Item) (p : ℕ) (other : Edge) (g : ℕ) (y : Bool) → Marked i i' → i' ≡ Split p y other g → (edge : Edge) × (d : ℕ) × (i ≡ Split p y edge d)
split_back i i' p other g y as_it_is e = (other, g, absurd (cc))
split_back i i' p other g y dismissible e = absurd (cc)
split_back i i' p other g y (split {p = q} {d = z} {edge = edge} {y = u}) e =
    let ep : q ≡ p = cc in
    let ew : u ≡ y = cc in
    (edge, z, ap (λ k. Split k u edge z) ep ∙ ap (λ k. Split p k edge z) ew)

-- an exit to blocks that correspond reads the same, and leads to what corresponds
renamed_reads : (pairs : ℕ → ℕ → Bool) (x x' : Exit) → Renamed pairs x x' → reads_of_exit x' ≡ reads_of_exit x
renamed_reads pairs x x' (goto p) = refl
renamed_reads pairs x x' (branch p q) = refl
renamed_reads pairs x x' (call p) = refl
renamed_reads pairs x x' return = refl
renamed_reads pairs x x' stop = refl

pair_of : (pairs : ℕ → ℕ → Bool) (c c' d : ℕ) → pairs c c' ≡ true → d ≡ c' → pairs c d ≡ true
pair_of pairs c c' d p e = subst (λ z. pairs c z ≡ true) (sym e) p

renamed_leads : (pairs : ℕ → ℕ → Bool) (x x' : Exit) (d v : ℕ) → Renamed pairs x x' → IsIn d (targets_of x') → (IsIn v (results_of_exit x') → ⊥) → (c : ℕ) × IsIn c (targets_of x) × (IsIn v (results_of_exit x) → ⊥) × (pairs c d ≡ true)
renamed_leads pairs x x' d v (goto {c} {c'} p) (inl l) n = (c, inl refl, (λ z. z), pair_of pairs c c' d p l)
renamed_leads pairs x x' d v (goto {c} {c'} p) (inr l) n = absurd l
renamed_leads pairs x x' d v (branch {c = c} {c' = c'} {d = e} {d' = e'} a b) (inl l) n = (c, inl refl, (λ z. z), pair_of pairs c c' d a l)
renamed_leads pairs x x' d v (branch {c = c} {c' = c'} {d = e} {d' = e'} a b) (inr (inl l)) n = (e, inr (inl refl), (λ z. z), pair_of pairs e e' d b l)
renamed_leads pairs x x' d v (branch {c = c} {c' = c'} {d = e} {d' = e'} a b) (inr (inr l)) n = absurd l
renamed_leads pairs x x' d v (call {next = c} {next' = c'} {result = None} p) (inl l) n = (c, inl refl, n, pair_of pairs c c' d p l)
renamed_leads pairs x x' d v (call {next = c} {next' = c'} {result = Some r} p) (inl l) n = (c, inl refl, n, pair_of pairs c c' d p l)
renamed_leads pairs x x' d v (call {next = c} {next' = c'} {result = result} p) (inr l) n = absurd l
renamed_leads pairs x x' d v return l n = absurd l
renamed_leads pairs x x' d v stop l n = absurd l

one_target : (d c : ℕ) → IsIn d (c ∷ []) → d ≡ c
one_target d c (inl e) = e
one_target d c (inr h) = absurd h

-- a way through a block
block_route : (m : MixedGraph) (c : ℕ) (r : Passage) (ops : List Op) (x : Exit) → IsPassage m c r → slice_get m.nodes c ≡ Some (Unused (record { ops = ops; exit = x })) → (r.words ≡ map single ops) × (r.exit ≡ x)
block_route m c r ops x (through_block {block = k} e) node =
    let same : Some (Unused k) ≡ Some (Unused (record { ops = ops; exit = x })) = sym e ∙ node in
    let same_block : k ≡ record { ops = ops; exit = x } = cc in
    (ap (λ z. map single z.ops) same_block, ap (λ z. z.exit) same_block)
block_route m c r ops x (by_split {r = q} w j p d edge y word node' reg le at h) node = absurd (let same : Some (Enters q w) ≡ Some (Unused (record { ops = ops; exit = x })) = sym node' ∙ node in cc)
block_route m c r ops x (to_the_end {r = q} {w = w} node' reg) node = absurd (let same : Some (Enters q w) ≡ Some (Unused (record { ops = ops; exit = x })) = sym node' ∙ node in cc)

-- a way through a region that is left as it is, in the old graph
OldRoute : (latency : Op → ℕ) (old new : MixedGraph) (meet_old meet_new : ℕ → ℕ → Bool) (pairs : ℕ → ℕ → Bool) (b : ℕ) → Passage → Type 0
OldRoute latency old new meet_old meet_new pairs b r = (q : Passage) × IsPassage old b q × ((v : ℕ) → ReadsFirst r.words r.exit v → ReadsFirst q.words q.exit v) × ((v : ℕ) → Untouched r.words v → Untouched q.words v) × ((d v : ℕ) → IsIn d (targets_of r.exit) → (IsIn v (results_of_exit r.exit) → ⊥) → (c : ℕ) × IsIn c (targets_of q.exit) × (IsIn v (results_of_exit q.exit) → ⊥) × (pairs c d ≡ true))

old_route : (latency : Op → ℕ) (old new : MixedGraph) (meet_old meet_new : ℕ → ℕ → Bool) (pairs : ℕ → ℕ → Bool) (b b' : ℕ) (r : Passage) → Outside latency old new meet_old meet_new pairs b b' → IsPassage new b' r → OldRoute latency old new meet_old meet_new pairs b r
unfolding OldRoute
old_route latency old new meet_old meet_new pairs b b' r (block ops x x' node node' renamed meets meets') route =
    let e = block_route new b' r ops x' route node' in (
      record { words = map single ops; exit = x },
      through_block node,
      (λ v h. reads_first_exit (map single ops) x x' v (renamed_reads pairs x x' renamed) (subst (λ z. ReadsFirst (map single ops) z v) e.1 (subst (λ z. ReadsFirst z r.exit v) e.0 h))),
      (λ v h. subst (λ z. Untouched z v) e.0 h),
      (λ d v l n. renamed_leads pairs x x' d v renamed (subst (λ z. IsIn d (targets_of z)) e.1 l) (λ z. n (subst (λ k. IsIn v (results_of_exit k)) (sym e.1) z))),
    )
old_route latency old new meet_old meet_new pairs b b' r (region q q' w g g' node reg node' reg' same) (through_block {block = k} e) = absurd (let s : Some (Unused k) ≡ Some (Enters q' w) = sym e ∙ node' in cc)
old_route latency old new meet_old meet_new pairs b b' r (region q q' w g g' node reg node' reg' same) (to_the_end {r = y} {w = u} {g = h} e at) =
    let s : Some (Enters y u) ≡ Some (Enters q' w) = sym e ∙ node' in
    let ey : y ≡ q' = cc in
    let eu : u ≡ w = cc in
    let t : Some h ≡ Some g' = sym at ∙ ap (slice_get new.regions) ey ∙ reg' in
    let eh : h ≡ g' = cc in
    let words : drop u h.words ≡ map (map (rename same.to)) (drop w g.words) = ap (λ z. drop z h.words) eu ∙ ap (λ z. drop w z.words) eh ∙ ap (drop w) same.words ∙ drop_map (map (rename same.to)) g.words w in
    let exit : h.last ≡ g'.last = ap (λ z. z.last) eh in (
      record { words = drop w g.words; exit = g.last },
      to_the_end node reg,
      (λ v k. reads_first_renamed same.to (drop w g.words) g.last g'.last v (renamed_reads pairs g.last g'.last same.last) (subst (λ z. ReadsFirst (map (map (rename same.to)) (drop w g.words)) z v) exit (subst (λ z. ReadsFirst z h.last v) words k))),
      (λ v k. untouched_renamed same.to (drop w g.words) v (subst (λ z. Untouched z v) words k)),
      (λ d v l n. renamed_leads pairs g.last g'.last d v same.last (subst (λ z. IsIn d (targets_of z)) exit l) (λ z. n (subst (λ k. IsIn v (results_of_exit k)) (sym exit) z))),
    )
old_route latency old new meet_old meet_new pairs b b' r (region q q' w g g' node reg node' reg' same) (by_split {r = k} u j p d edge y {g = h} word e at lo here_ sp) =
    let s : Some (Enters k u) ≡ Some (Enters q' w) = sym e ∙ node' in
    let ey : k ≡ q' = cc in
    let eu : u ≡ w = cc in
    let t : Some h ≡ Some g' = sym at ∙ ap (slice_get new.regions) ey ∙ reg' in
    let eh : h ≡ g' = cc in
    let words : take (j + 1 - u) (drop u h.words) ≡ map (map (rename same.to)) (take (j + 1 - w) (drop w g.words)) =
    ap (λ z. take (j + 1 - z) (drop z h.words)) eu ∙ ap (λ z. take (j + 1 - w) (drop w z.words)) eh ∙ ap (λ z. take (j + 1 - w) (drop w z)) same.words ∙ ap (take (j + 1 - w)) (drop_map (map (rename same.to)) g.words w) ∙ take_map (map (rename same.to)) (drop w g.words) (j + 1 - w) in
    let o = old_word (map (rename same.to)) g.words j word (ap (λ z. slice_get z j) (sym same.words) ∙ ap (λ z. slice_get z.words j) (sym eh) ∙ here_) in
    let i = old_split same.to o.0 p d edge y (subst (λ z. IsIn (Split p y edge d) z) o.2 sp) in
    let end : edge.to ≡ same.to i.0.from i.0.to = i.3 in
    let pair : pairs i.0.to (same.to i.0.from i.0.to) ≡ true = (same.edges j p d i.0 y o.0 o.1 i.1).0 in (
      record { words = take (j + 1 - w) (drop w g.words); exit = Goto i.0.to },
      by_split w j p d i.0 y o.0 node reg (subst (λ z. z ≤ j) eu lo) o.1 i.1,
      (λ v k. reads_first_renamed same.to (take (j + 1 - w) (drop w g.words)) (Goto i.0.to) (Goto edge.to) v refl (subst (λ z. ReadsFirst z (Goto edge.to) v) words k)),
      (λ v k. untouched_renamed same.to (take (j + 1 - w) (drop w g.words)) v (subst (λ z. Untouched z v) words k)),
      (λ d2 v l n. (i.0.to, inl refl, (λ z. z), pair_of pairs i.0.to (same.to i.0.from i.0.to) d2 pair (subst (λ z. d2 ≡ z) end (one_target d2 edge.to l)))),
    )

module _ (setting : Setting) (latency : Op → ℕ) (old new : MixedGraph) (meet_old meet_new : ℕ → ℕ → Bool) (pairs : ℕ → ℕ → Bool) (n : ℕ) (reg : Region) (is_region : slice_get new.regions n ≡ Some reg) where
  abbrev Ways : ℕ → ℕ → Type 0
  Ways b b' = Way setting latency old new meet_old meet_new pairs n reg b b'

  module _ (b b' : ℕ) (way : Ways b b') where
    abbrev N : ℕ
    N = length way.items

    abbrev L : ℕ
    L = length reg.words

    abbrev f : ℕ → List Item
    f = row way.word way.mark 0 N

    abbrev NW : ℕ → ℕ → ℕ → Type 0
    NW = NoWriter way.items way.word way.mark way.facts.marked

    -- a way through the region from its entrance
    Through : Passage → Type 0
    Through r = ((r.words ≡ words_from f way.rejoin (L - way.rejoin)) × (r.exit ≡ reg.last)) ⊎ ((e : ℕ) × (p : ℕ) × (y : Bool) × (other : Edge) × (g : ℕ) × (way.mark e ≡ Split p y other g) × (e < N) × (way.rejoin ≤ way.word e) × (r.words ≡ words_from f way.rejoin (way.word e + 1 - way.rejoin)) × (r.exit ≡ Goto other.to))

    region_route : (c : ℕ) (r : Passage) → IsPassage new c r → slice_get new.nodes c ≡ Some (Enters n way.rejoin) → Through r
    unfolding Through
    region_route c r (through_block {block = k} e) node = absurd (let same : Some (Unused k) ≡ Some (Enters n way.rejoin) = sym e ∙ node in cc)
    region_route c r (to_the_end {r = q} {w = w} {g = g} node' at) node =
        let same : Some (Enters q w) ≡ Some (Enters n way.rejoin) = sym node' ∙ node in
        let eq : q ≡ n = cc in
        let ew : w ≡ way.rejoin = cc in
        let both : Some g ≡ Some reg = sym at ∙ ap (slice_get new.regions) eq ∙ is_region in
        let eg : g ≡ reg = cc in
        inl (ap (λ z. drop z g.words) ew ∙ ap (λ z. drop way.rejoin z.words) eg ∙ way.words, ap (λ z. z.last) eg)
    region_route c r (by_split {r = q} w j p d edge y {g = g} word node' at le here_ h) node =
        let same : Some (Enters q w) ≡ Some (Enters n way.rejoin) = sym node' ∙ node in
        let eq : q ≡ n = cc in
        let ew : w ≡ way.rejoin = cc in
        let both : Some g ≡ Some reg = sym at ∙ ap (slice_get new.regions) eq ∙ is_region in
        let eg : g ≡ reg = cc in
        let lo : way.rejoin ≤ j = subst (λ z. z ≤ j) ew le in
        let place : way.rejoin + (j - way.rejoin) ≡ j = omega arith in
        let found : slice_get (words_from f way.rejoin (L - way.rejoin)) (j - way.rejoin) ≡ Some word =
        ap (λ z. slice_get z (j - way.rejoin)) (sym way.words) ∙ got way.rejoin reg.words (j - way.rejoin) ∙ ap (slice_get reg.words) place ∙ ap (λ z. slice_get z.words j) (sym eg) ∙ here_ in
        let wd = word_at f way.rejoin (L - way.rejoin) (j - way.rejoin) word found in
        let is_f : word ≡ f j = wd.1 ∙ ap f place in
        let m = of_mapped way.mark (places way.word j 0 N) (Split p y edge d) (subst (λ z. IsIn (Split p y edge d) z) is_f h) in
        let pl = in_places way.word j 0 N m.0 m.1 in
        let less = wd.0 in
        let total : L - way.rejoin ≡ (j + 1 - way.rejoin) + (L - (j + 1)) = omega arith in
        let words : take (j + 1 - w) (drop w g.words) ≡ words_from f way.rejoin (way.word m.0 + 1 - way.rejoin) =
        ap (λ z. take (j + 1 - z) (drop z g.words)) ew ∙ ap (λ z. take (j + 1 - way.rejoin) (drop way.rejoin z.words)) eg ∙ ap (take (j + 1 - way.rejoin)) way.words
        ∙ ap (λ z. take (j + 1 - way.rejoin) (words_from f way.rejoin z)) total ∙ take_words f (j + 1 - way.rejoin) (L - (j + 1)) way.rejoin ∙ ap (λ z. words_from f way.rejoin (z + 1 - way.rejoin)) (sym pl.0) in
        inr (m.0, p, y, edge, d, sym m.2, (let z = pl.1 in omega arith), subst (λ z. way.rejoin ≤ z) (sym pl.0) lo, words, refl)

    live_if : (v : ℕ) → Alive old way.items v (AtEnd old way.exit v) → Live old b v
    live_if v a = live_start old meet_old way.path v (way.clustered.alive v a)

    abbrev Wr : ℕ → ℕ → Type 0
    Wr i v = IsIn v (item_writes (nth way.items i))

    -- none of the copies at the join writes v
    abbrev Free : ℕ → Type 0
    Free v = (i : ℕ) → i < N → way.word i < way.rejoin → Wr i v → ⊥

    in_items : (i v : ℕ) → Wr i v → i < N
    in_items i v w = ⊎_elim (λ a. a) (λ a. absurd (subst (λ z. IsIn v (item_writes z)) (nth_past way.items i a) w)) (cases_lt i N)

    read_first : (v k : ℕ) → IsIn v (item_reads (nth way.items k)) → Free v → NW way.rejoin (way.word k) v → Live old b v
    read_first v k rd free none = live_if v (alive_read old way.items v (AtEnd old way.exit v) k rd (λ i lt w.
        let fl = way.facts.flow i k v lt w rd in
        let t = way.facts.takes_time i v w in
        let hi = in_items i v w in
        ⊎_elim (λ a. free i hi a w) (λ a. none i hi a (omega arith) w) (cases_lt (way.word i) way.rejoin)))

    here_entered : (c v : ℕ) (r : Passage) → IsPassage new c r → slice_get new.nodes c ≡ Some (Enters n way.rejoin) → Free v → ReadsFirst r.words r.exit v → Live old b v
    unfolding Through
    here_entered c v r route node free h =
        ⊎_elim
        (λ a. by_words (L - way.rejoin) reg.last (subst (λ z. ReadsFirst (words_from f way.rejoin (L - way.rejoin)) z v) a.1 (subst (λ z. ReadsFirst z r.exit v) a.0 h))
        (λ none ex. live_if v (alive_end old way.items v (AtEnd old way.exit v) (inl (subst (λ z. IsIn v z) (renamed_reads pairs way.exit reg.last way.last_exit) ex)) (λ i lt w.
        let low = way.low in let ins = way.facts.inside i lt in
        ⊎_elim (λ y. free i lt y w) (λ y. none i lt y (omega arith) w) (cases_lt (way.word i) way.rejoin)))))
        (λ a. by_words (way.word a.0 + 1 - way.rejoin) (Goto a.3.to) (subst (λ z. ReadsFirst (words_from f way.rejoin (way.word a.0 + 1 - way.rejoin)) z v) a.9 (subst (λ z. ReadsFirst z r.exit v) a.8 h)) (λ none ex. absurd ex))
        (region_route c r route node)
      where
        by_words : (m : ℕ) (x : Exit) → ReadsFirst (words_from f way.rejoin m) x v → (NW way.rejoin (way.rejoin + m) v → IsIn v (reads_of_exit x) → Live old b v) → Live old b v
        by_words m x h last_ = ⊎_elim (λ a. read_first v a.0 a.4 free a.5) (λ a. last_ a.0 a.1) (first_in_words way.items way.word way.mark way.facts.marked m way.rejoin x v h)

    -- v is written by nothing above the split at place e: what is live behind it is live at the start
    edge_live : (v e p d : ℕ) (edge : Edge) (y : Bool) → nth way.items e ≡ Split p y edge d → ((i : ℕ) → i < e → Wr i v → ⊥) → Live old edge.to v → Live old b v
    edge_live v e p d edge y at_e none live = live_if v (alive_edge old way.items v (AtEnd old way.exit v) e (subst (λ z. AfterItem old z v) (sym at_e) live) none)

    abbrev copied : ℕ → List Op
    copied e = copies (λ k. nat_lt (way.word e) (way.word k)) (nth way.items) 0 e

    -- nothing done up to the word of the split writes v
    abbrev Clear : ℕ → ℕ → Type 0
    Clear v e = (i : ℕ) → i < N → way.word i ≤ way.word e → Wr i v → ⊥

    clear : (v e : ℕ) → way.rejoin ≤ way.word e → Free v → NW way.rejoin (way.rejoin + (way.word e + 1 - way.rejoin)) v → Clear v e
    clear v e lo free none i lt le w = ⊎_elim (λ a. free i lt a w) (λ a. none i lt a (omega arith) w) (cases_lt (way.word i) way.rejoin)

    no_writer : (v e : ℕ) → e < N → Clear v e → NoCopy (λ k. nat_lt (way.word e) (way.word k)) (nth way.items) 0 (0 + e) v → (i : ℕ) → i < e → Wr i v → ⊥
    no_writer v e hi cl none i lt w = ⊎_elim (λ a. none i (omega arith) (omega arith) (lt-ltb (way.word e) (way.word i) a) w) (λ a. cl i (omega arith) a w) (cases_lt (way.word e) (way.word i))

    -- the made block on the edge of the split
    here_made : (c c' v e : ℕ) (r : Passage) → e < N → IsPassage new c r → slice_get new.nodes c ≡ Some (Unused (record { ops = copied e; exit = Goto c' })) → Clear v e → ReadsFirst r.words r.exit v → Live old b v
    here_made c c' v e r hi route node cl h =
        let q = block_route new c r (copied e) (Goto c') route node in
        ⊎_elim
        (λ a. live_if v (alive_read old way.items v (AtEnd old way.exit v) a.0 a.4 (λ i lt w.
        let k = a.2 in
        ⊎_elim (λ y. a.5 i (omega arith) lt (lt-ltb (way.word e) (way.word i) y) w) (λ y. cl i (omega arith) y w) (cases_lt (way.word e) (way.word i)))))
        (λ a. absurd a.1)
        (first_in_copies (λ k. nat_lt (way.word e) (way.word k)) (nth way.items) e 0 (Goto c') v (subst (λ z. ReadsFirst (map single (copied e)) z v) q.1 (subst (λ z. ReadsFirst z r.exit v) q.0 h)))

    -- the made block on the joining edge
    abbrev joined : List Op
    joined = copies (λ k. nat_lt (way.word k) way.rejoin) way.mark 0 N

    mark_writes : (i v : ℕ) → Wr i v → IsIn v (item_writes (way.mark i))
    mark_writes i v w = subst (λ z. IsIn v z) (sym (writes_same (nth way.items i) (way.mark i) (way.facts.marked i))) w

    free_of : (v : ℕ) → NoCopy (λ k. nat_lt (way.word k) way.rejoin) way.mark 0 (0 + N) v → Free v
    free_of v none i lt a w = none i (omega arith) (omega arith) (lt-ltb (way.word i) way.rejoin a) (mark_writes i v w)

    here_joined : (c v : ℕ) (r : Passage) → IsPassage new b' r → slice_get new.nodes b' ≡ Some (Unused (record { ops = joined; exit = Goto c })) → ReadsFirst r.words r.exit v → Live old b v
    here_joined c v r route node h =
        let q = block_route new b' r joined (Goto c) route node in
        ⊎_elim
        (λ a.
        let rd = subst (λ z. IsIn v z) (reads_same (nth way.items a.0) (way.mark a.0) (way.facts.marked a.0)) a.4 in
        let lo = ltb-true (way.word a.0) way.rejoin a.3 in
        live_if v (alive_read old way.items v (AtEnd old way.exit v) a.0 rd (λ i lt w.
        let fl = way.facts.flow i a.0 v lt w rd in
        a.5 i (omega arith) lt (lt-ltb (way.word i) way.rejoin (omega arith)) (mark_writes i v w))))
        (λ a. absurd a.1)
        (first_in_copies (λ k. nat_lt (way.word k) way.rejoin) way.mark N 0 (Goto c) v (subst (λ z. ReadsFirst (map single joined) z v) q.1 (subst (λ z. ReadsFirst z r.exit v) q.0 h)))

  -- where a path of the new graph may stand, with v unwritten so far
  data Role (v : ℕ) : ℕ → ℕ → Type 0 where
    paired : {b b' : ℕ} → (pairs b b' ≡ true) → Role v b b'
    entered : {b c : ℕ} (b' : ℕ) (way : Way setting latency old new meet_old meet_new pairs n reg b b') → slice_get new.nodes c ≡ Some (Enters n way.rejoin) → ((i : ℕ) → i < length way.items → way.word i < way.rejoin → IsIn v (item_writes (nth way.items i)) → ⊥) → Role v b c
    made : {b c : ℕ} (b' : ℕ) (way : Way setting latency old new meet_old meet_new pairs n reg b b') (e p d c' : ℕ) (edge : Edge) (y : Bool) → nth way.items e ≡ Split p y edge d → e < length way.items → slice_get new.nodes c ≡ Some (Unused (record { ops = copies (λ k. nat_lt (way.word e) (way.word k)) (nth way.items) 0 e; exit = Goto c' })) → (pairs edge.to c' ≡ true) → ((i : ℕ) → i < length way.items → way.word i ≤ way.word e → IsIn v (item_writes (nth way.items i)) → ⊥) → Role v b c

  module _ (v d : ℕ) (go : (b2 : ℕ) → Role v b2 d → Live old b2 v) where
    beyond_entered : (b b' : ℕ) (way : Ways b b') (c : ℕ) (r : Passage) → IsPassage new c r → slice_get new.nodes c ≡ Some (Enters n way.rejoin) → Free b b' way v → Untouched r.words v → (IsIn v (results_of_exit r.exit) → ⊥) → IsIn d (targets_of r.exit) → Live old b v
    unfolding Through
    beyond_entered b b' way c r route node free un nr leads = ⊎_elim at_the_end at_a_split (region_route b b' way c r route node)
      where
        at_the_end : (r.words ≡ words_from (f b b' way) way.rejoin (L b b' way - way.rejoin)) × (r.exit ≡ reg.last) → Live old b v
        at_the_end a =
            let q = renamed_leads pairs way.exit reg.last d v way.last_exit (subst (λ z. IsIn d (targets_of z)) a.1 leads) (λ z. nr (subst (λ k. IsIn v (results_of_exit k)) (sym a.1) z)) in
            let live = go q.0 (paired q.3) in
            let none = untouched_words way.items way.word way.mark way.facts.marked (L b b' way - way.rejoin) way.rejoin v (subst (λ z. Untouched z v) a.0 un) in
            live_if b b' way v (alive_end old way.items v (AtEnd old way.exit v) (inr (q.0, q.1, q.2, live)) (λ i lt w.
            let low = way.low in
            let ins = way.facts.inside i lt in
            ⊎_elim (λ y. free i lt y w) (λ y. none i lt y (omega arith) w) (cases_lt (way.word i) way.rejoin)))

        out : (e p g x : ℕ) (edge : Edge) (y : Bool) → nth way.items e ≡ Split p y edge g → e < length way.items → Clear b b' way v e → LeadsOut new meet_new pairs (copied b b' way e) x d edge.to → Live old b v
        out e p g x edge y at_e hi cl (at_once none meets pair) = edge_live b b' way v e p g edge y at_e (no_writer b b' way v e hi cl (none_copied (λ k. nat_lt (way.word e) (way.word k)) (nth way.items) e 0 none v)) (go edge.to (paired pair))
        out e p g x edge y at_e hi cl (by_made c' inner node' meets pair) = go b (made b' way e p g c' edge y at_e hi node' pair cl)

        at_a_split : (e : ℕ) × (p : ℕ) × (y : Bool) × (other : Edge) × (g : ℕ) × (way.mark e ≡ Split p y other g) × (e < N b b' way) × (way.rejoin ≤ way.word e) × (r.words ≡ words_from (f b b' way) way.rejoin (way.word e + 1 - way.rejoin)) × (r.exit ≡ Goto other.to) → Live old b v
        at_a_split a =
            let ed : d ≡ a.3.to = one_target d a.3.to (subst (λ z. IsIn d (targets_of z)) a.9 leads) in
            let o = split_back (nth way.items a.0) (way.mark a.0) a.1 a.3 a.4 a.2 (way.facts.marked a.0) a.5 in
            let none = untouched_words way.items way.word way.mark way.facts.marked (way.word a.0 + 1 - way.rejoin) way.rejoin v (subst (λ z. Untouched z v) a.8 un) in
            out a.0 a.1 o.1 a.3.from o.0 a.2 o.2 a.6 (clear b b' way v a.0 a.7 free none) (subst (λ z. LeadsOut new meet_new pairs (copied b b' way a.0) a.3.from z o.0.to) (sym ed) (way.leaves a.0 a.1 o.1 a.4 a.2 o.0 a.3 o.2 a.5))

    beyond_made : (b b' : ℕ) (way : Ways b b') (e p g c c' : ℕ) (edge : Edge) (y : Bool) (r : Passage) → nth way.items e ≡ Split p y edge g → e < length way.items → IsPassage new c r → slice_get new.nodes c ≡ Some (Unused (record { ops = copied b b' way e; exit = Goto c' })) → (pairs edge.to c' ≡ true) → Clear b b' way v e → Untouched r.words v → IsIn d (targets_of r.exit) → Live old b v
    beyond_made b b' way e p g c c' edge y r at_e hi route node pair cl un leads =
        let q = block_route new c r (copied b b' way e) (Goto c') route node in
        let ed : d ≡ c' = one_target d c' (subst (λ z. IsIn d (targets_of z)) q.1 leads) in
        let none = untouched_copies (λ k. nat_lt (way.word e) (way.word k)) (nth way.items) e 0 v (subst (λ z. Untouched z v) q.0 un) in
        edge_live b b' way v e p g edge y at_e (no_writer b b' way v e hi cl none) (go edge.to (paired (subst (λ z. pairs edge.to z ≡ true) (sym ed) pair)))

    beyond_joined : (b b' : ℕ) (way : Ways b b') (c : ℕ) (r : Passage) → IsPassage new b' r → slice_get new.nodes b' ≡ Some (Unused (record { ops = joined b b' way; exit = Goto c })) → slice_get new.nodes c ≡ Some (Enters n way.rejoin) → Untouched r.words v → IsIn d (targets_of r.exit) → Live old b v
    beyond_joined b b' way c r route node at un leads =
        let q = block_route new b' r (joined b b' way) (Goto c) route node in
        let ed : d ≡ c = one_target d c (subst (λ z. IsIn d (targets_of z)) q.1 leads) in
        let none = untouched_copies (λ k. nat_lt (way.word k) way.rejoin) way.mark (length way.items) 0 v (subst (λ z. Untouched z v) q.0 un) in
        go b (entered b' way (subst (λ z. slice_get new.nodes z ≡ Some (Enters n way.rejoin)) (sym ed) at) (free_of b b' way v none))

  here_old : (b v : ℕ) (r : Passage) → OldRoute latency old new meet_old meet_new pairs b r → ReadsFirst r.words r.exit v → Live old b v
  unfolding OldRoute
  here_old b v r q h = here q.1 (q.2 v h)

  beyond_old : (b d v : ℕ) (r : Passage) → OldRoute latency old new meet_old meet_new pairs b r → Untouched r.words v → (IsIn v (results_of_exit r.exit) → ⊥) → IsIn d (targets_of r.exit) → ((b2 : ℕ) → (pairs b2 d ≡ true) → Live old b2 v) → Live old b v
  unfolding OldRoute
  beyond_old b d v r q un nr leads go = let l = q.4 d v leads nr in beyond q.1 (q.3 v un) l.2 l.1 (go l.0 l.3)

  module _ (ways : (b b' : ℕ) → (pairs b b' ≡ true) → Ways b b' ⊎ Outside latency old new meet_old meet_new pairs b b') where
    here_role : (c v : ℕ) (r : Passage) → IsPassage new c r → ReadsFirst r.words r.exit v → (b : ℕ) → Role v b c → Live old b v
    here_role c v r route h b (entered b' way node free) = here_entered b b' way c v r route node free h
    here_role c v r route h b (made b' way e p d c' edge y at_e hi node pair cl) = here_made b b' way c c' v e r hi route node cl h
    here_role c v r route h b (paired pair) = ⊎_elim by_way outside (ways b c pair)
      where
        into : (way : Ways b c) → LeadsIn new meet_new n way.rejoin (joined b c way) c → Live old b v
        into way (at_once none node) = here_entered b c way c v r route node (free_of b c way v (none_copied (λ k. nat_lt (way.word k) way.rejoin) way.mark (length way.items) 0 none v)) h
        into way (by_made c1 node inner at) = here_joined b c way c1 v r route node h

        by_way : Ways b c → Live old b v
        by_way way = into way way.enters

        outside : Outside latency old new meet_old meet_new pairs b c → Live old b v
        outside o = here_old b v r (old_route latency old new meet_old meet_new pairs b c r o route) h

    beyond_role : (c d v : ℕ) (r : Passage) → IsPassage new c r → Untouched r.words v → (IsIn v (results_of_exit r.exit) → ⊥) → IsIn d (targets_of r.exit) → ((b2 : ℕ) → Role v b2 d → Live old b2 v) → (b : ℕ) → Role v b c → Live old b v
    beyond_role c d v r route un nr leads go b (entered b' way node free) = beyond_entered v d go b b' way c r route node free un nr leads
    beyond_role c d v r route un nr leads go b (made b' way e p g c' edge y at_e hi node pair cl) = beyond_made v d go b b' way e p g c c' edge y r at_e hi route node pair cl un leads
    beyond_role c d v r route un nr leads go b (paired pair) = ⊎_elim by_way outside (ways b c pair)
      where
        into : (way : Ways b c) → LeadsIn new meet_new n way.rejoin (joined b c way) c → Live old b v
        into way (at_once none node) = beyond_entered v d go b c way c r route node (free_of b c way v (none_copied (λ k. nat_lt (way.word k) way.rejoin) way.mark (length way.items) 0 none v)) un nr leads
        into way (by_made c1 node inner at) = beyond_joined v d go b c way c1 r route node at un leads

        by_way : Ways b c → Live old b v
        by_way way = into way way.enters

        outside : Outside latency old new meet_old meet_new pairs b c → Live old b v
        outside o = beyond_old b d v r (old_route latency old new meet_old meet_new pairs b c r o route) un nr leads (λ b2 p. go b2 (paired p))

    live_back : {c v : ℕ} → Live new c v → (b : ℕ) → Role v b c → Live old b v
    live_back {c} {v} (here {p = r} route h) b role = here_role c v r route h b role
    live_back {c} {v} (beyond {c = d} {p = r} route un nr leads rest) b role = beyond_role c d v r route un nr leads (λ b2 role2. live_back rest b2 role2) b role

    pub live_within : LiveWithin old new pairs
    live_within b b' v pair live = live_back live b (paired pair)
