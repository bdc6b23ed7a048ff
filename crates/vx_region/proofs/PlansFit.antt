-- What planning gives for blocks of a graph is compensated, and fits a replacement.
use Rattle.std.proofs.Common.{◌≡◌, ◌⊎◌, inl, inr, ℕ, zero, suc, ◌+◌, ◌*◌, ◌<◌, ◌≤◌, Bool, Option, Some, List, [], ◌∷◌, ◌++◌, length, map, take, slice_get, slice_index_or, length-append, refl, sym, ap, ◌∙◌, subst, arith}
use Rattle.std.proofs.lemmas.List.{length-map}
use Rattle.vx_flow.specs.declared.graph.Bank.TheVariants.{Branch}
use Rattle.vx_flow.specs.declared.graph.Block.{Block}
use Rattle.vx_flow.specs.declared.graph.Edge.{Edge}
use Rattle.vx_flow.specs.declared.graph.Graph.{Graph}
use Rattle.vx_flow.specs.declared.graph.Op.{Op}
use Rattle.vx_flow.specs.declared.graph.Op.TheVariants.{Load, Across}
use Rattle.vx_flow.specs.declared.trace.TraceOp.{TraceOp}
use Rattle.vx_flow.specs.declared.trace.TraceOp.TheVariants.{Plain as TracePlain, Split as TraceSplit}
use Rattle.vx_flow.specs.declared.trace.Clustered.{Clustered}
use Rattle.vx_flow.specs.declared.trace.Join.{Join}
use Rattle.vx_flow.specs.declared.trace.Trace.{Trace}
use Rattle.vx_flow.specs.declared.trace.Placed.{Placed}
use Rattle.vx_flow.specs.declared.trace.Homes.{Homes}
use Rattle.vx_flow.specs.Effects.{IsIn, dismissed, reads, writes}
use Rattle.vx_flow.specs.Sound.{arrays_of, Sound}
use Rattle.vx_flow.proofs.SoundLaw.{sound_is}
use Rattle.vx_isa.specs.Numbers.{Numbers, IsMachine}
use Rattle.vx_room.specs.Items.{latency_of_op}
use Rattle.vx_mixed.specs.declared.region.Item.{Item}
use Rattle.vx_mixed.specs.declared.region.Item.TheVariants.{Plain, Split}
use Rattle.vx_mixed.specs.declared.region.Made.{Made}
use Rattle.vx_mixed.specs.declared.mixed.MixedGraph.{MixedGraph}
use Rattle.vx_mixed.specs.declared.replacement.Replacement.{Replacement}
use Rattle.vx_mixed.specs.CanReplace.{IsFormed, NamesFit, ListsFit, WordsFit, Stands, MadeStands, IsNamed, in_trace, in_made, AwayFrom, CanReplace}
use Rattle.vx_motion.specs.Compensation.{Compensated}
use Rattle.vx_mixed.specs.TraceItems.{splits_of}
use Rattle.vx_mixed.specs.Next.{placed, new_end, new_region, next_mixed, last_of, exit_in}
use Rattle.vx_motion.specs.Scheduled.{WordsStand}
use Rattle.vx_mixed.specs.Settled.{has_home, bank_of, OnClusters}
use Rattle.vx_mixed.specs.TraceOf.{CanTrace, IsTraceOf, block_at, block_or_none}
use Rattle.vx_mixed.specs.Valid.{Valid, names_of, TestsBranch}
use Rattle.vx_mixed.proofs.Linked.{index_in, in_index, some_blocks, some_same}
use Rattle.vx_mixed.proofs.NewBlocks.{from_placed, split_of, word_of}
use Rattle.vx_layout.proofs.CodeStays.{writes_dismissed}
use Rattle.vx_dep.specs.declared.mode.Mode.{Mode}
use Rattle.vx_dep.specs.Delays.{AreHeights}
use Rattle.vx_dep.specs.declared.copies.EdgeCopies.{EdgeCopies}
use Rattle.vx_dep.specs.declared.copies.Rejoin.{Rejoin}
use Rattle.vx_dep.specs.Compensation.{word_at, drain_at, rejoin_of, at_splits_of, at_joins_of}
use Rattle.vx_bug.specs.declared.clusters.Clusters.{Clusters}
use Rattle.vx_bug.specs.Assigned.{last_books, Assigned}
use Rattle.vx_bug.specs.CanAssign.{IsWellFormed, ValuesAreThere}
use Rattle.vx_bug.specs.Copies.{Standing, pieces_of, joined, moved_join, with_copies}
use Rattle.vx_bug.proofs.Best.{four_clusters}
use Rattle.vx_sched.specs.Placement.{PlacedBy}
use Rattle.vx_region.specs.AtHome.{IsAtHome, AllStand, AssignedStands}
use Rattle.vx_region.specs.Ways.{ClusteredFits}
use Rattle.vx_region.proofs.FromValid.{assigned_trace_fits}
use Rattle.vx_region.specs.Planned.{placed_in, replacement_of, Planned}
use Rattle.vx_region.specs.PlanLaws.{PlanLaw}
use Rattle.vx_region.specs.Regions.{IsCopyAway, room_in, IsGraphOf, FitsIn, PlansFit}
use Rattle.vx_region.proofs.Assignable.{bound_at_home, fixed_at_home, fixed_reads_here, clusters_are_there, values_are_there, across_of_values, is_well_formed}
use Rattle.vx_region.proofs.ClusteredOps.{all_copies, stands, dismissed_at_home, op_below, op_copies_away, op_away, op_at_home, op_there, op_known}
use Rattle.vx_region.proofs.Formed.{splits_many}
use Rattle.vx_region.proofs.PlainItems.{some_at}
use Rattle.vx_region.proofs.PlanOps.{Comes, comes_placed, placed_there, MadeFrom, made_from, tests_branch}
use Rattle.vx_region.proofs.Planning.{compensated, own_blocks}
use Rattle.vx_region.proofs.RoomWords.{words_have_room}
use Rattle.vx_region.proofs.SoundOps.{Known, reads_dismissed}

-- joins of a clustered trace ascend

within : (n q : ℕ) (pieces : List (List Standing)) → length (joined (take n pieces)) ≤ length (joined (take (n + q) pieces))
within n q pieces = by n pieces
  where
    by : (n : ℕ) (ps : List (List Standing)) → length (joined (take n ps)) ≤ length (joined (take (n + q) ps))
    by zero ps = omega arith
    by (suc n) [] = omega arith
    by (suc n) (p ∷ ps) =
        let rest : length (joined (take n ps)) ≤ length (joined (take (n + q) ps)) = by n ps in
        let more : suc n + q ≡ suc (n + q) = omega arith in
        let a : length (p ++ joined (take n ps)) ≡ length p + length (joined (take n ps)) = length-append p (joined (take n ps)) in
        let b : length (p ++ joined (take (n + q) ps)) ≡ length p + length (joined (take (n + q) ps)) = length-append p (joined (take (n + q) ps)) in
        subst (λ z. length (joined (take (suc n) (p ∷ ps))) ≤ length (joined (take z (p ∷ ps)))) (sym more) (let l : length (p ++ joined (take n ps)) ≤ length (p ++ joined (take (n + q) ps)) = omega (arith, rest, a, b) in l)

further : (a b : ℕ) (pieces : List (List Standing)) → a ≤ b → length (joined (take a pieces)) ≤ length (joined (take b pieces))
further a b pieces le = by a b le
  where
    more : (a b : ℕ) → a ≤ b → (q : ℕ) × (b ≡ a + q)
    more zero b le = (b, let e : b ≡ 0 + b = omega arith in e)
    more (suc a) zero le = absurd (omega (arith, le))
    more (suc a) (suc b) le = let r = more a b (omega (arith, le)) in let e = r.1 in (r.0, let q : suc b ≡ suc a + r.0 = omega (arith, e) in q)

    by : (a b : ℕ) → a ≤ b → length (joined (take a pieces)) ≤ length (joined (take b pieces))
    by a b le = let r = more a b le in subst (λ n. length (joined (take a pieces)) ≤ length (joined (take n pieces))) (sym r.1) (within a r.0 pieces)

moved_at : (pieces : List (List Standing)) (js : List Join) (i : ℕ) (j : Join) → slice_get (map (moved_join pieces) js) i ≡ Some j → (k : Join) × (slice_get js i ≡ Some k) × (j ≡ moved_join pieces k)
moved_at pieces [] i j e = absurd cc
moved_at pieces (k ∷ js) zero j e = (k, refl, let q : j ≡ moved_join pieces k = cc in q)
moved_at pieces (k ∷ js) (suc i) j e = moved_at pieces js i j e

one_behind : (i : ℕ) → i < i + 1
one_behind i = omega arith

moved_ascend : (t : Trace) → IsWellFormed t → (pieces : List (List Standing)) (i : ℕ) (j k : Join) → slice_get (map (moved_join pieces) t.joins) i ≡ Some j → slice_get (map (moved_join pieces) t.joins) (i + 1) ≡ Some k → j.place ≤ k.place
moved_ascend t well pieces i j k a b =
    let x = moved_at pieces t.joins i j a in
    let y = moved_at pieces t.joins (i + 1) k b in
    let le : x.0.place ≤ y.0.place = well.joins_ascend i (i + 1) x.0 y.0 (one_behind i) x.1 y.1 in
    let l : length (joined (take x.0.place pieces)) ≤ length (joined (take y.0.place pieces)) = further x.0.place y.0.place pieces le in
    let p : j.place ≡ length (joined (take x.0.place pieces)) = ap (λ (z : Join). z.place) x.2 in
    let q : k.place ≡ length (joined (take y.0.place pieces)) = ap (λ (z : Join). z.place) y.2 in
    omega (arith, l, p, q)

fixed_many : (t : Trace) (homes : ℕ → Option ℕ) (chosen : List ℕ) → length (with_copies t homes chosen).trace.fixed ≡ length (with_copies t homes chosen).trace.ops
fixed_many t homes chosen = length-map (joined (pieces_of t homes chosen)) (λ (s : Standing). s.fixed) ∙ sym (length-map (joined (pieces_of t homes chosen)) (λ (s : Standing). s.op))

arrays_dismissed : (op : Op) → arrays_of (dismissed op) ≡ arrays_of op
arrays_dismissed (Load v a p d) = refl
arrays_dismissed op = refl

across_dismissed : (op : Op) (v u : ℕ) → Across v u ≡ dismissed op → op ≡ Across v u
across_dismissed (Across w y) v u e = sym e
across_dismissed op v u e = absurd cc

known_dismissed : (graph : Graph) (op : Op) → Known graph op → Known graph (dismissed op)
known_dismissed graph (Load v a p d) h = record { results = h.results; operands = h.operands; tests = h.tests; arrays = h.arrays }
known_dismissed graph op h = h

pub index_low : {A : Type 0} (xs : List A) (i : ℕ) (x : A) → slice_get xs i ≡ Some x → i < length xs
index_low [] i x e = absurd (cc)
index_low (y ∷ ys) zero x e = omega arith
index_low (y ∷ ys) (suc i) x e = let l = index_low ys i x e in omega (arith, l)

entry_is : (xs : List ℕ) (i d : ℕ) → i < length xs → slice_get xs i ≡ Some (slice_index_or xs i d)
entry_is [] i d l = absurd (omega (arith, l))
entry_is (x ∷ xs) zero d l = refl
entry_is (x ∷ xs) (suc i) d l = entry_is xs i d (omega (arith, l))

-- a trace whose operations have clusters, in words

module _ (machine : Numbers) (graph : Graph) (m : MixedGraph) (t : Trace) (k : Clusters) (words : List ℕ) (works : IsMachine machine) (valid : Valid m) (G : IsGraphOf machine graph m) (can : CanTrace m k.clustered.trace.blocks) (is : IsTraceOf m k.clustered.trace.blocks t)
    (A : Assigned machine t m.homes k) (S : AllStand machine t m.homes k) (F : ClusteredFits m (last_of k.clustered.trace.blocks) (exit_in (slice_get m.nodes (last_of k.clustered.trace.blocks))) t k.clustered) where
  abbrev C : Clustered
  C = k.clustered

  abbrev P : Placed
  P = placed_in C words

  abbrev R : Replacement
  R = replacement_of machine k.homes P (at_splits_of P) (at_joins_of P)

  abbrev Banks : ℕ
  Banks = length m.banks

  abbrev Moved : MixedGraph
  Moved = record m { homes = k.homes }

  sound : Sound graph
  sound = sound_is graph G.sound

  pub copied : (v c : ℕ) → has_home k.homes.clusters v ≡ Some c → Banks ≤ v → (w : ℕ) × (w < Banks) × (v ≡ (c + 1) * Banks + w)
  copied v c e le = subst (λ n. (w : ℕ) × (w < n) × (v ≡ (c + 1) * n + w)) is.values (S.copies v c e (subst (λ n. n ≤ v) (sym is.values) le))

  -- what comes from its operations

  module _ (op : Op) (cluster : ℕ) (c : Comes C op cluster) where
    either : (Q : Op → Type 0) → ((o : Op) → Q o → Q (dismissed o)) → Q c.origin → Q op
    either Q h q = by c.is
      where
        by : (op ≡ c.origin) ⊎ (op ≡ dismissed c.origin) → Q op
        by (inl e) = subst Q (sym e) q
        by (inr e) = subst Q (sym e) (h c.origin q)

    pub made_below : (v : ℕ) → IsIn v (names_of op) → v < (machine.clusters + 1) * Banks
    made_below = either (λ o. (v : ℕ) → IsIn v (names_of o) → v < (machine.clusters + 1) * Banks)
        (λ o q v h. q v (subst (IsIn v) (ap (λ z. z ++ writes (dismissed o)) (reads_dismissed o) ∙ ap (λ z. reads o ++ z) (writes_dismissed o)) h))
        (op_below machine graph m C.trace.blocks t k works valid G can is A S c.place c.origin c.at)

    pub made_copies_away : (v : ℕ) → IsIn v (names_of op) → Banks ≤ v → IsCopyAway m.banks k.homes.clusters v
    made_copies_away = either (λ o. (v : ℕ) → IsIn v (names_of o) → Banks ≤ v → IsCopyAway m.banks k.homes.clusters v)
        (λ o q v h le. q v (subst (IsIn v) (ap (λ z. z ++ writes (dismissed o)) (reads_dismissed o) ∙ ap (λ z. reads o ++ z) (writes_dismissed o)) h) le)
        (op_copies_away machine graph m C.trace.blocks t k works valid G can is A S c.place c.origin c.at)

    pub made_arrays : (a : ℕ) → IsIn a (arrays_of op) → a < length graph.arrays
    made_arrays = either (λ o. (a : ℕ) → IsIn a (arrays_of o) → a < length graph.arrays) (λ o q a h. q a (subst (IsIn a) (arrays_dismissed o) h)) ((op_known machine graph m C.trace.blocks t k works valid G can is A S c.place c.origin c.at).arrays)

    pub made_away : (v u : ℕ) → op ≡ Across v u → AwayFrom m k.homes.clusters v u
    made_away = either (λ o. (v u : ℕ) → o ≡ Across v u → AwayFrom m k.homes.clusters v u) (λ o q v u e. q v u (across_dismissed o v u (sym e))) (op_away machine graph m C.trace.blocks t k works valid G can is A S c.place c.origin c.at)

    pub made_at_home : IsAtHome (has_home k.homes.clusters) (TracePlain op) cluster
    made_at_home = subst (IsAtHome (has_home k.homes.clusters) (TracePlain op)) (sym c.cluster_is)
        (either (λ o. IsAtHome (has_home k.homes.clusters) (TracePlain o) (slice_index_or C.clusters c.place 0)) (λ o q. dismissed_at_home (has_home k.homes.clusters) o (slice_index_or C.clusters c.place 0) q)
        (op_at_home machine graph m C.trace.blocks t k works valid G can is A S c.place c.origin c.at))

    pub made_there : cluster < machine.clusters
    made_there = subst (λ z. z < machine.clusters) (sym c.cluster_is) (op_there machine graph m C.trace.blocks t k works valid G can is A S c.place c.origin c.at)

    pub made_stands : (M : MixedGraph) → M.banks ≡ m.banks → M.homes ≡ k.homes → Stands M op cluster
    made_stands M banks homes = stands graph M (banks ∙ G.code.banks) there op cluster knows (subst (λ (h : Homes). IsAtHome (has_home h.clusters) (TracePlain op) cluster) (sym homes) made_at_home)
      where
        there : (v c : ℕ) → has_home M.homes.clusters v ≡ Some c → length M.banks ≤ v → (w : ℕ) × (w < length M.banks) × (v ≡ (c + 1) * length M.banks + w)
        there v c e le = subst (λ n. (w : ℕ) × (w < n) × (v ≡ (c + 1) * n + w)) (sym (ap length banks)) (copied v c (subst (λ (h : Homes). has_home h.clusters v ≡ Some c) homes e) (subst (λ n. n ≤ v) (ap length banks) le))

        knows : Known graph op
        knows = either (Known graph) (λ o q. known_dismissed graph o q) (op_known machine graph m C.trace.blocks t k works valid G can is A S c.place c.origin c.at)

  -- made blocks

  pub made_comes : (x : Made) → IsIn x R.made → MadeFrom P x
  made_comes x h = made_from P (at_splits_of P) (at_joins_of P) x h

  pub op_of_made : (x : Made) (op : Op) → IsIn x R.made → IsIn op x.ops → (cluster : ℕ) × Comes C op cluster
  op_of_made x op h i =
      let f = made_comes x h in
      let a = in_index x.ops op i in
      let many = f.copied.many in
      let l = index_low x.ops a.0 op a.1 in
      (slice_index_or x.clusters a.0 0, f.copied.each a.0 (slice_index_or x.clusters a.0 0) op a.1 (entry_is x.clusters a.0 0 (omega (arith, l, many))))

  made_stand : MadeStands m R
  made_stand x i cluster op h at_op at_cluster = made_stands op cluster ((made_comes x h).copied.each i cluster op at_op at_cluster) Moved refl refl

  -- the arguments of a replacement

  comes_itself : (i : ℕ) (op : Op) → slice_get C.trace.ops i ≡ Some (TracePlain op) → Comes C op (slice_index_or C.clusters i 0)
  comes_itself i op at = record { place = i; origin = op; at = at; cluster_is = refl; is = inl refl }

  pub traced : (op : Op) → IsIn (TracePlain op) C.trace.ops → (cluster : ℕ) × Comes C op cluster
  traced op h = let i = in_index C.trace.ops (TracePlain op) h in (slice_index_or C.clusters i.0 0, comes_itself i.0 op i.1)

  names_fit : NamesFit m R
  names_fit = record {
    traced = λ op v h i. let c = traced op h in all_copies Banks machine.clusters v (four_clusters machine works) (made_below op c.0 c.1 v i);
    made = λ x op v h i j. let c = op_of_made x op h i in all_copies Banks machine.clusters v (four_clusters machine works) (made_below op c.0 c.1 v j);
    arrays = λ x op a h i j. let c = op_of_made x op h i in subst (λ z. a < length z) (sym G.code.arrays) (made_arrays op c.0 c.1 a j);
  }

  module _ (c : Compensated (latency_of_op machine) m R) where
    abbrev With : Clustered
    With = with_copies t (last_books machine t m.homes k).homes k.chosen

    well : IsWellFormed t
    well = is_well_formed machine graph m C.trace.blocks t valid G can is

    formed : IsFormed C.trace
    formed = record {
      fixed = subst (λ (z : Clustered). length z.trace.fixed ≡ length z.trace.ops) (sym A.clustered) (fixed_many t (last_books machine t m.homes k).homes k.chosen);
      ascend = λ i j l a b. moved_ascend t well (pieces_of t (last_books machine t m.homes k).homes k.chosen) i j l
          (ap (λ (z : Clustered). slice_get z.trace.joins i) (sym A.clustered) ∙ a) (ap (λ (z : Clustered). slice_get z.trace.joins (i + 1)) (sym A.clustered) ∙ b);
      places = c.join_places;
      arrays = λ op a h i. let x = traced op h in subst (λ z. a < length z) (sym (ap (λ (z : Clustered). z.trace.arrays) A.clustered ∙ is.arrays ∙ G.code.arrays)) (made_arrays op x.0 x.1 a i);
    }

    rejoins_many : length R.rejoins ≡ length C.trace.joins
    rejoins_many = length-map (map (rejoin_of words) C.trace.joins) (λ (x : Rejoin). x.word) ∙ length-map C.trace.joins (rejoin_of words)

    lists_fit : ListsFit R
    lists_fit = record {
      clusters = c.clusters_fit;
      words = c.words_fit;
      drains = length-map (at_splits_of P) (λ (x : EdgeCopies). drain_at machine P (word_at words x.split + 1)) ∙ splits_many words 0 C.trace.ops;
      rejoins = rejoins_many;
      made = λ x h. (made_comes x h).copied.many;
    }

    rejoin_low : (w : ℕ) → IsIn w R.rejoins → w ≤ R.length
    rejoin_low w h =
        let i = in_index R.rejoins w h in
        let many = rejoins_many in
        let low : i.0 < length R.rejoins = index_low R.rejoins i.0 w i.1 in
        let j = some_at C.trace.joins i.0 (omega (arith, many, low)) in
        let r = c.rejoins i.0 j.0 j.1 in
        let same : w ≡ r.0 = some_same (slice_get R.rejoins i.0) w r.0 i.1 r.1 in
        by j.0 (c.join_places j.0 (index_in C.trace.joins i.0 j.0 j.1)) r.0 same r.2.1
      where
        by : (j : Join) → j.place ≤ length C.trace.ops → (rejoin : ℕ) → w ≡ rejoin → (rejoin ≡ 0) ⊎ ((i : ℕ) × (i < j.place) × (rejoin ≡ slice_index_or words i (R.length + 1) + 1)) → w ≤ R.length
        by j le rejoin same (inl e) = omega (arith, same, e)
        by j le rejoin same (inr (i, lt, e)) =
            let many = c.words_fit in
            let there = some_at words i (omega (arith, lt, le, many)) in
            let inside : there.0 < R.length = c.within i there.0 there.1 in
            let is_word : slice_index_or words i (R.length + 1) ≡ there.0 = index_is words i there.0 (R.length + 1) there.1 in
            omega (arith, same, e, inside, is_word)
          where
            index_is : (xs : List ℕ) (i x d : ℕ) → slice_get xs i ≡ Some x → slice_index_or xs i d ≡ x
            index_is [] i x d e = absurd (cc)
            index_is (y ∷ ys) zero x d e = cc
            index_is (y ∷ ys) (suc i) x d e = index_is ys i x d e

    words_fit : WordsFit R
    words_fit = record { words = λ w h. let i = in_index words w h in c.within i.0 w i.1; rejoins = rejoin_low }

    away_fits : (v u : ℕ) → IsNamed R (Across v u) → AwayFrom m k.homes.clusters v u
    away_fits v u (in_trace h) = let x = traced (Across v u) h in made_away (Across v u) x.0 x.1 v u refl
    away_fits v u (in_made x h i) = let y = op_of_made x (Across v u) h i in made_away (Across v u) y.0 y.1 v u refl

    pub can_replace : CanReplace m R
    can_replace = record {
      trace = record {
        can = can;
        plain = t;
        is_trace = is;
        function = ap (λ (z : Clustered). z.trace.function) A.clustered;
        values = ap (λ (z : Clustered). z.trace.values) A.clustered;
        arrays = ap (λ (z : Clustered). z.trace.arrays) A.clustered;
        splits = c_splits;
        join_blocks = F.join_blocks;
        join_edges = F.join_edges;
      };
      formed = formed;
      names = names_fit;
      lists = lists_fit;
      words = words_fit;
      made = record { made_where = c.made_where; made_once = c.made_once };
      stand = made_stand;
      homes = S.homes_stay;
      away = away_fits;
    }
      where
        c_splits : splits_of C.trace.ops ≡ splits_of t.ops
        c_splits = F.splits

    -- words

    abbrev To : ℕ → ℕ → ℕ
    To = new_end m R.made

    pub in_region : (i cluster : ℕ) (op : Op) (word : List Item) → slice_get (new_region m R).words i ≡ Some word → IsIn (Plain op cluster) word → Comes C op cluster
    in_region i cluster op word at h =
        let w = word_of m R i word at in
        let x = from_placed (placed To C.trace.ops C.clusters words R.drains []) w.0 (Plain op cluster) (subst (IsIn (Plain op cluster)) w.1 h) in
        comes_placed C op cluster (placed_there To C.trace.ops C.clusters words R.drains [] x.0 op cluster x.1 x.2)

    block_tests : (b : ℕ) → IsIn b C.trace.blocks → TestsBranch m (block_at m b).exit
    block_tests b h = let u = can.unused b h in subst (λ (z : Block). TestsBranch m z.exit) (sym (ap block_or_none u.1)) (valid.block_parts b u.0 u.1).1

    of_splits : (p : ℕ) (y : Bool) (e : Edge) (live : List ℕ) (xs : List TraceOp) → IsIn (TraceSplit p y e live) (splits_of xs) → IsIn (TraceSplit p y e live) xs
    of_splits p y e live [] i = i
    of_splits p y e live (TracePlain op ∷ xs) i = inr (of_splits p y e live xs i)
    of_splits p y e live (TraceSplit q z f l ∷ xs) (inl q2) = inl q2
    of_splits p y e live (TraceSplit q z f l ∷ xs) (inr i) = inr (of_splits p y e live xs i)

    to_splits : (p : ℕ) (y : Bool) (e : Edge) (live : List ℕ) (xs : List TraceOp) → IsIn (TraceSplit p y e live) xs → IsIn (TraceSplit p y e live) (splits_of xs)
    to_splits p y e live [] i = i
    to_splits p y e live (TracePlain op ∷ xs) (inl q) = absurd (let w : TraceSplit p y e live ≡ TracePlain op = q in cc)
    to_splits p y e live (TracePlain op ∷ xs) (inr i) = to_splits p y e live xs i
    to_splits p y e live (TraceSplit q z f l ∷ xs) (inl q2) = inl q2
    to_splits p y e live (TraceSplit q z f l ∷ xs) (inr i) = inr (to_splits p y e live xs i)

    tests_are : (i p d : ℕ) (e : Edge) (y : Bool) (word : List Item) → slice_get (new_region m R).words i ≡ Some word → IsIn (Split p y e d) word → bank_of m p ≡ Some Branch
    tests_are i p d e y word at h =
        let w = word_of m R i word at in
        let x = from_placed (placed To C.trace.ops C.clusters words R.drains []) w.0 (Split p y e d) (subst (IsIn (Split p y e d)) w.1 h) in
        let s = split_of To C.trace.ops C.clusters words R.drains [] x.0 p d y e x.1 x.2 in
        let own : IsIn (TraceSplit p y s.0 s.1) t.ops = of_splits p y s.0 s.1 t.ops (subst (IsIn (TraceSplit p y s.0 s.1)) F.splits (to_splits p y s.0 s.1 C.trace.ops s.2)) in
        tests_branch m is.live p y s.0 s.1 C.trace.blocks block_tests (subst (IsIn (TraceSplit p y s.0 s.1)) is.ops own)

    clusters : OnClusters (next_mixed m R) (new_region m R)
    clusters = record {
      reads = λ i v cluster op word at h j. (made_stands op cluster (in_region i cluster op word at h) (next_mixed m R) refl refl).reads v j;
      writes = λ i v cluster op word at h j. (made_stands op cluster (in_region i cluster op word at h) (next_mixed m R) refl refl).writes v j;
      tests = tests_are;
    }

    pub words_stand : (mode : Mode) (height : ℕ → ℕ) → PlacedBy C machine k.homes mode height words → WordsStand (room_in machine) m R
    words_stand mode height by = record {
      fits = λ i word at.
          let w = word_of m R i word at in
          ap (room_in machine k.homes.clusters) w.1 ∙ words_have_room machine k.homes C.trace.ops C.clusters words R.drains To w.0 F.clusters_fit by.each first (by.room w.0);
      clusters = clusters;
    }
      where
        first : (i p : ℕ) (y : Bool) (e : Edge) (live : List ℕ) → slice_get C.trace.ops i ≡ Some (TraceSplit p y e live) → slice_index_or C.clusters i 0 ≡ 0
        first i p y e live at = (S.each i (TraceSplit p y e live) at).at_home.bound refl

-- what planning gives

-- the trace with its clusters, and what is known of it
pub record Known_of (machine : Numbers) (graph : Graph) (m : MixedGraph) (t : Trace) (k : Clusters) : Type 0 where
  pub can : CanTrace m k.clustered.trace.blocks
  pub is : IsTraceOf m k.clustered.trace.blocks t
  pub stand : AllStand machine t m.homes k
  pub fits : ClusteredFits m (last_of k.clustered.trace.blocks) (exit_in (slice_get m.nodes (last_of k.clustered.trace.blocks))) t k.clustered

module _ (law : AssignedStands) where
  pub known_of : (machine : Numbers) (graph : Graph) (m : MixedGraph) (blocks : List ℕ) (t : Trace) (k : Clusters) → IsMachine machine → Valid m → IsGraphOf machine graph m → CanTrace m blocks → IsTraceOf m blocks t → Assigned machine t m.homes k → Known_of machine graph m t k
  known_of machine graph m blocks t k works valid G can is A =
      let same : k.clustered.trace.blocks ≡ blocks = ap (λ (z : Clustered). z.trace.blocks) A.clustered ∙ is.blocks_are in
      let own : CanTrace m k.clustered.trace.blocks = subst (CanTrace m) (sym same) can in
      let trace : IsTraceOf m k.clustered.trace.blocks t = own_blocks m blocks k.clustered.trace.blocks t is same in
      let well = is_well_formed machine graph m blocks t valid G can is in
      let there = values_are_there machine graph m blocks t valid G can is in
      record {
        can = own;
        is = trace;
        stand = law machine t m.homes k works (bound_at_home machine graph m blocks t valid G can is) (fixed_at_home machine graph m blocks t valid G can is) (fixed_reads_here machine graph m blocks t valid G can is) (clusters_are_there machine graph m blocks t valid G can is) there (across_of_values machine graph m blocks t valid G can is) well
            (λ v c e le. subst (λ n. (w : ℕ) × (w < n) × (v ≡ (c + 1) * n + w)) (sym is.values) (G.on.copies_at_home v c e (subst (λ n. n ≤ v) is.values le))) A;
        fits = fits_of k.clustered.trace.blocks own trace well there;
      }
    where
      fits_of : (bs : List ℕ) → CanTrace m bs → IsTraceOf m bs t → IsWellFormed t → ValuesAreThere t → ClusteredFits m (last_of bs) (exit_in (slice_get m.nodes (last_of bs))) t k.clustered
      fits_of [] c i w v = absurd (c.some refl)
      fits_of (b ∷ bs) c i w v = assigned_trace_fits machine m b bs t m.homes k valid G.on.tidy G.on.copies c i w v A

  -- a plan, by its parts
  pub record Parts (machine : Numbers) (graph : Graph) (m : MixedGraph) (mode : Mode) (r : Replacement) : Type 0 where
    pub trace : Trace
    pub clusters : Clusters
    pub words : List ℕ
    pub height : ℕ → ℕ
    pub heights : AreHeights machine mode clusters.clustered.trace height
    pub placed : PlacedBy clusters.clustered machine clusters.homes mode height words
    pub assigned : Assigned machine trace m.homes clusters
    pub knows : Known_of machine graph m trace clusters
    pub works : IsMachine machine
    pub is : r ≡ replacement_of machine clusters.homes (placed_in clusters.clustered words) (at_splits_of (placed_in clusters.clustered words)) (at_joins_of (placed_in clusters.clustered words))
    pub compensated : Compensated (latency_of_op machine) m (replacement_of machine clusters.homes (placed_in clusters.clustered words) (at_splits_of (placed_in clusters.clustered words)) (at_joins_of (placed_in clusters.clustered words)))

  pub parts_of : (machine : Numbers) (graph : Graph) (m : MixedGraph) (blocks : List ℕ) (mode : Mode) (r : Replacement) → Valid m → CanTrace m blocks → IsGraphOf machine graph m → Planned m blocks machine mode r → Parts machine graph m mode r
  parts_of machine graph m blocks mode r valid can G p =
      let k = p.clusters in
      let P' = placed_in k.clustered p.words in
      let knows = known_of machine graph m blocks p.trace k p.is_a_machine valid G can p.is_trace p.assigned in
      let b = some_blocks k.clustered.trace.blocks knows.can.some in
      record {
        trace = p.trace;
        clusters = k;
        words = p.words;
        height = p.height;
        heights = p.heights;
        placed = p.placed;
        assigned = p.assigned;
        knows = knows;
        works = p.is_a_machine;
        is = p.replacement ∙ ap (λ z. replacement_of machine k.homes P' z p.rejoins) p.at_splits ∙ ap (replacement_of machine k.homes P' (at_splits_of P')) p.at_joins;
        compensated = compensated m machine mode k.homes p.trace k.clustered p.words p.height p.is_a_machine knows.is p.heights p.placed valid knows.can b.0 b.1 b.2 knows.fits (ap (λ (z : Clustered). z.trace.arrays) p.assigned.clustered ∙ p.is_trace.arrays);
      }

  pub plan_law : PlanLaw
  plan_law graph m blocks machine mode r valid can G p =
      let x = parts_of machine graph m blocks mode r valid can G p in
      subst (Compensated (latency_of_op machine) m) (sym x.is) x.compensated

  pub plans_fit : PlansFit
  plans_fit graph m blocks machine mode r valid can G p =
      let x = parts_of machine graph m blocks mode r valid can G p in
      subst (FitsIn machine m) (sym x.is) (record {
        can = can_replace machine graph m x.trace x.clusters x.words x.works valid G x.knows.can x.knows.is x.assigned x.knows.stand x.knows.fits x.compensated;
        stand = words_stand machine graph m x.trace x.clusters x.words x.works valid G x.knows.can x.knows.is x.assigned x.knows.stand x.knows.fits x.compensated mode x.height x.placed;
      })
