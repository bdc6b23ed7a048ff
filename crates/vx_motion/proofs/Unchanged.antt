-- A node that is left as it is does what it did, from states that agree on what is live.
use Rattle.std.proofs.Common.{◌≡◌, ℕ, suc, ◌+◌, Bool, true, false, Option, Some, None, List, [], ◌∷◌, drop, refl, sym, ap, ◌∙◌, subst, ⊎_elim, inl, inr, map}
use Rattle.std.specs.Prelude.{◌⊎◌, slice_get}
use Rattle.vx_flow.specs.Effects.{State, Setting, effect, reads, writes, IsIn}
use Rattle.vx_flow.specs.Sound.{targets_of}
use Rattle.vx_flow.specs.declared.graph.Edge.{Edge}
use Rattle.vx_flow.specs.declared.graph.Op.{Op}
use Rattle.vx_flow.specs.declared.graph.Exit.{Exit}
use Rattle.vx_flow.specs.Meaning.{Hop, Arrives, and_then, block_hop}
use Rattle.vx_mixed.specs.declared.region.Item.{Item}
use Rattle.vx_mixed.specs.declared.region.Item.TheVariants.{Plain, Split}
use Rattle.vx_mixed.specs.declared.region.Region.{Region}
use Rattle.vx_mixed.specs.declared.region.Node.TheVariants.{Enters}
use Rattle.vx_mixed.specs.declared.mixed.MixedGraph.{MixedGraph}
use Rattle.vx_mixed.specs.Meaning.{into, word_effect, leaves_on, picked, Taken, Stays, Takes, Unsure, taken, node_hop, in_region, timed_from_start, hop, after_word, early_words}
use Rattle.vx_mixed.specs.Agree.{Segment, last, EndsAt, SameWorld, Agree, Alike}
use Rattle.vx_mixed.specs.Live.{word_reads, word_writes, plain, Live}
use Rattle.vx_mixed.specs.Alive.{AtEnd, Alive}
use Rattle.vx_mixed.specs.Path.{Path, ends}
use Rattle.vx_mixed.specs.Way.{Renamed}
use Rattle.vx_motion.specs.Unchanged.{SameRegion, Outside, block, region}
use Rattle.vx_mixed.specs.Next.{rename}
use Rattle.vx_mixed.proofs.Contents.{Grows, in_append}
use Rattle.vx_mixed.proofs.Alike.{Both, Follow, op_follows, word_follows, in_or}
use Rattle.vx_mixed.proofs.Alive.{live_start}
use Rattle.vx_mixed.proofs.Timed.{timed_is_early, taken_in_word}
use Rattle.vx_motion.proofs.Entered.{leaves_grow}
use Rattle.vx_motion.proofs.Hops.{exit_ends}
use Rattle.vx_mixed.proofs.LeaveAlike.{leave_alike}
use Rattle.vx_motion.proofs.Blocks.{is_whole}
use Rattle.vx_mixed.proofs.Renames.{old_word, old_split}
use Rattle.vx_motion.proofs.SettledRenamed.{settled_renamed, drop_map}
use Rattle.vx_mixed.proofs.AliveWords.{OffEdge, AliveWords}
use Rattle.vx_mixed.proofs.LiveRegions.{got, live_region}

-- blocks
block_alike : (setting : Setting) (old : MixedGraph) (pairs : ℕ → ℕ → Bool) (b b' : ℕ) (ops : List Op) (x x' : Exit) → Renamed pairs x x' → (s t : State) → SameWorld s t → ((v : ℕ) → Alive old (map plain ops) v (AtEnd old x v) → Grows (s.values v) (t.values v)) → Alike old pairs (block_hop setting b ops x s) (block_hop setting b' ops x' t)
block_alike setting old pairs b b' [] x x' r s t w g = leave_alike old pairs b b' x x' r s t w g
block_alike setting old pairs b b' (op ∷ ops) x x' r s t w g =
    by (effect setting s op s) (effect setting t op t) (op_follows setting s t w op s t (λ v h. g v (inl h)) w) (λ s' t' f. block_alike setting old pairs b b' ops x x' r s' t' f.world (λ v a n e. ⊎_elim (λ wr. f.written v wr n e) (λ none. f.right v none ∙ g v (inr (inr (none, a))) n (sym (f.left v none) ∙ e)) (in_or v (writes op))))
  where
    by : (o p : Option State) → Follow (writes op) s t o p → ((s' t' : State) → Both (writes op) s t s' t' → Alike old pairs (block_hop setting b ops x s') (block_hop setting b' ops x' t')) → Alike old pairs (and_then o (block_hop setting b ops x)) (and_then p (block_hop setting b' ops x'))
    by None p f go = tt
    by (Some s') None f go = absurd f
    by (Some s') (Some t') f go = go s' t' f

pub block_ends : (setting : Setting) (meet : ℕ → ℕ → Bool) (b : ℕ) (ops : List Op) (x : Exit) (s : State) → ((c : ℕ) → IsIn c (targets_of x) → meet b c ≡ true) → EndsAt meet (block_hop setting b ops x s)
block_ends setting meet b [] x s h = exit_ends meet b x s h
block_ends setting meet b (op ∷ ops) x s h = by (effect setting s op s) (λ t. block_ends setting meet b ops x t h)
  where
    by : (o : Option State) → ((t : State) → EndsAt meet (block_hop setting b ops x t)) → EndsAt meet (and_then o (block_hop setting b ops x))
    by None go = tt
    by (Some t) go = go t

-- regions
abbrev rename_taken : (ℕ → ℕ → ℕ) → Taken → Taken
rename_taken to Stays = Stays
rename_taken to (Takes b c d) = Takes b (to b c) d
rename_taken to Unsure = Unsure

renamed_picked : (to : ℕ → ℕ → ℕ) (o : Option Bool) (b c d : ℕ) (k : Taken) → picked o Unsure (Takes b (to b c) d) (rename_taken to k) ≡ rename_taken to (picked o Unsure (Takes b c d) k)
renamed_picked to None b c d k = refl
renamed_picked to (Some true) b c d k = refl
renamed_picked to (Some false) b c d k = refl

renamed_split : (to : ℕ → ℕ → ℕ) (s : State) (word : List Item) → taken s (map (rename to) word) ≡ rename_taken to (taken s word)
renamed_split to s [] = refl
renamed_split to s (Plain op cluster ∷ is) = renamed_split to s is
renamed_split to s (Split p y edge d ∷ is) =
    ap (picked (leaves_on (s.values p) y) Unsure (Takes edge.from (to edge.from edge.to) d)) (renamed_split to s is) ∙ renamed_picked to (leaves_on (s.values p) y) edge.from edge.to d (taken s is)

renamed_word : (setting : Setting) (to : ℕ → ℕ → ℕ) (s t : State) (word : List Item) → word_effect setting s (map (rename to) word) t ≡ word_effect setting s word t
renamed_word setting to s t [] = refl
renamed_word setting to s t (Plain op cluster ∷ is) = by (effect setting s op t) (λ u. renamed_word setting to s u is)
  where
    by : (o : Option State) → ((u : State) → word_effect setting s (map (rename to) is) u ≡ word_effect setting s is u) → into o (word_effect setting s (map (rename to) is)) ≡ into o (word_effect setting s is)
    by None h = refl
    by (Some u) h = h u
renamed_word setting to s t (Split p y edge d ∷ is) = renamed_word setting to s t is

-- what is taken does not change where more is known
taken_grows : (s t : State) (word : List Item) → ((v : ℕ) → IsIn v (word_reads word) → Grows (s.values v) (t.values v)) → (taken s word ≡ Unsure) ⊎ (taken t word ≡ taken s word)
taken_grows s t [] g = inr refl
taken_grows s t (Plain op cluster ∷ is) g = taken_grows s t is (λ v h. g v (in_append v (reads op) (word_reads is) (inr h)))
taken_grows s t (Split p y edge d ∷ is) g = by (leaves_on (s.values p) y) (λ b e. leaves_grow (s.values p) (t.values p) y b (g p (inl refl)) e) (taken_grows s t is (λ v h. g v (inr h)))
  where
    by : (o : Option Bool) → ((b : Bool) → o ≡ Some b → leaves_on (t.values p) y ≡ Some b) → (taken s is ≡ Unsure) ⊎ (taken t is ≡ taken s is) →
        (picked o Unsure (Takes edge.from edge.to d) (taken s is) ≡ Unsure) ⊎ (picked (leaves_on (t.values p) y) Unsure (Takes edge.from edge.to d) (taken t is) ≡ picked o Unsure (Takes edge.from edge.to d) (taken s is))
    by None f r = inl refl
    by (Some true) f r = inr (ap (λ z. picked z Unsure (Takes edge.from edge.to d) (taken t is)) (f true refl))
    by (Some false) f r = ⊎_elim (λ e. inl e) (λ e. inr (ap (λ z. picked z Unsure (Takes edge.from edge.to d) (taken t is)) (f false refl) ∙ e)) r

-- the taken split: what is live on its edge
taken_off : (m : MixedGraph) (s : State) (word : List Item) (b c d : ℕ) (v : ℕ) → taken s word ≡ Takes b c d → Live m c v → OffEdge m word v
taken_off m s [] b c d v e l = absurd (cc)
taken_off m s (Plain op cluster ∷ is) b c d v e l = taken_off m s is b c d v e l
taken_off m s (Split p y edge d' ∷ is) b c d v e l = by (leaves_on (s.values p) y) e (λ f. taken_off m s is b c d v f l)
  where
    by : (o : Option Bool) → picked o Unsure (Takes edge.from edge.to d') (taken s is) ≡ Takes b c d → (taken s is ≡ Takes b c d → OffEdge m is v) → Live m edge.to v ⊎ OffEdge m is v
    by None f go = absurd (cc)
    by (Some true) f go = let ec : c ≡ edge.to = cc in inl (subst (λ z. Live m z v) ec l)
    by (Some false) f go = inr (go f)

module _ (setting : Setting) (old : MixedGraph) (pairs : ℕ → ℕ → Bool) (g g' : Region) (to : ℕ → ℕ → ℕ) (renamed : Renamed pairs g.last g'.last) where
  abbrev Edges : List (List Item) → Type 0
  Edges words = (j p d : ℕ) (edge : Edge) (y : Bool) (word : List Item) → slice_get words j ≡ Some word → IsIn (Split p y edge d) word → pairs edge.to (to edge.from edge.to) ≡ true

  words_alike : (words : List (List Item)) → Edges words → (s t : State) → SameWorld s t → ((v : ℕ) → AliveWords old words g.last v → Grows (s.values v) (t.values v)) → Alike old pairs (early_words setting g words s) (early_words setting g' (map (map (rename to)) words) t)
  words_alike [] edges s t w k = leave_alike old pairs g.from g'.from g.last g'.last renamed s t w k
  words_alike (word ∷ words) edges s t w k =
      subst (λ z. Alike old pairs (early_words setting g (word ∷ words) s) (after_word z (taken t (map (rename to) word)) (early_words setting g' (map (map (rename to)) words)))) (sym (renamed_word setting to t t word))
      (subst (λ z. Alike old pairs (early_words setting g (word ∷ words) s) (after_word (word_effect setting t word t) z (early_words setting g' (map (map (rename to)) words)))) (sym (renamed_split to t word))
      (by (word_effect setting s word s) (word_effect setting t word t) (word_follows setting s t w word s t (λ v h. k v (inl h)) w) (λ s' t' w' k'. words_alike words (λ j p d edge y wd e h. edges (suc j) p d edge y wd e h) s' t' w' k')))
    where
      after : (s' t' : State) → Both (word_writes word) s t s' t' → (v : ℕ) → (OffEdge old word v ⊎ AliveWords old words g.last v) → Grows (s'.values v) (t'.values v)
      after s' t' f v a n e = ⊎_elim (λ wr. f.written v wr n e) (λ none. f.right v none ∙ k v (inr (none, a)) n (sym (f.left v none) ∙ e)) (in_or v (word_writes word))

      at_taken : (s' t' : State) → Both (word_writes word) s t s' t' → ((s' t' : State) → SameWorld s' t' → ((v : ℕ) → AliveWords old words g.last v → Grows (s'.values v) (t'.values v)) → Alike old pairs (early_words setting g words s') (early_words setting g' (map (map (rename to)) words) t')) → (x : Taken) → taken s word ≡ x → Alike old pairs (after_word (Some s') x (early_words setting g words)) (after_word (Some t') (rename_taken to x) (early_words setting g' (map (map (rename to)) words)))
      at_taken s' t' f go Unsure e = tt
      at_taken s' t' f go (Takes b c d) e = let p = taken_in_word s word b c d e in (subst (λ z. pairs c (to z c) ≡ true) p.4 (subst (λ z. pairs z (to p.2.from z) ≡ true) p.5 (edges 0 p.0 d p.2 p.1 word refl p.3)), record { world = f.world; values = λ v n l q. after s' t' f v (inl (taken_off old s word b c d v e l)) n q })
      at_taken s' t' f go Stays e = go s' t' f.world (λ v a. after s' t' f v (inr a))

      by : (o p : Option State) → Follow (word_writes word) s t o p → ((s' t' : State) → SameWorld s' t' → ((v : ℕ) → AliveWords old words g.last v → Grows (s'.values v) (t'.values v)) → Alike old pairs (early_words setting g words s') (early_words setting g' (map (map (rename to)) words) t')) → Alike old pairs (after_word o (taken s word) (early_words setting g words)) (after_word p (rename_taken to (taken t word)) (early_words setting g' (map (map (rename to)) words)))
      by None p f go = tt
      by (Some s') None f go = absurd f
      by (Some s') (Some t') f go =
          ⊎_elim
          (λ e. subst (λ z. Alike old pairs (after_word (Some s') z (early_words setting g words)) (after_word (Some t') (rename_taken to (taken t word)) (early_words setting g' (map (map (rename to)) words)))) (sym e) tt)
          (λ e. subst (λ z. Alike old pairs (after_word (Some s') (taken s word) (early_words setting g words)) (after_word (Some t') (rename_taken to z) (early_words setting g' (map (map (rename to)) words)))) (sym e) (at_taken s' t' f go (taken s word) refl))
          (taken_grows s t word (λ v h. k v (inl h)))

early_ends : (setting : Setting) (meet : ℕ → ℕ → Bool) (g : Region) (words : List (List Item)) (s : State) → ((j p d : ℕ) (edge : Edge) (y : Bool) (word : List Item) → slice_get words j ≡ Some word → IsIn (Split p y edge d) word → meet edge.from edge.to ≡ true) → ((c : ℕ) → IsIn c (targets_of g.last) → meet g.from c ≡ true) → EndsAt meet (early_words setting g words s)
early_ends setting meet g [] s edges lasts = exit_ends meet g.from g.last s lasts
early_ends setting meet g (word ∷ words) s edges lasts = by (word_effect setting s word s) (taken s word) refl (λ t. early_ends setting meet g words t (λ j p d edge y wd e h. edges (suc j) p d edge y wd e h) lasts)
  where
    by : (o : Option State) (k : Taken) → taken s word ≡ k → ((t : State) → EndsAt meet (early_words setting g words t)) → EndsAt meet (after_word o k (early_words setting g words))
    by None k e go = tt
    by (Some t) Unsure e go = tt
    by (Some t) (Takes b c d) e go = let p = taken_in_word s word b c d e in subst (λ z. meet b z ≡ true) p.5 (subst (λ z. meet z p.2.to ≡ true) p.4 (edges 0 p.0 d p.2 p.1 word refl p.3))
    by (Some t) Stays e go = go t

ends_never : (meet : ℕ → ℕ → Bool) (f : Hop) → EndsAt meet f → (p q : ℕ) (t : State) → f ≡ Arrives p q t → meet p q ≡ false → ⊥
ends_never meet f e p q t is no_meet = let m : meet p q ≡ true = subst (EndsAt meet) is e in cc

module _ (setting : Setting) (latency : Op → ℕ) (old new : MixedGraph) (meet_old meet_new pairs : ℕ → ℕ → Bool) (b b' : ℕ) (times times' : List ℕ) (s t : State) where
  whole : (f h : Hop) → hop setting times latency old b s ≡ f → EndsAt meet_old f → Segment (hop setting times latency old) meet_old b s h → f ≡ h
  whole f h e end seg = is_whole setting times latency old meet_old b s f h e (ends_never meet_old f end) seg

  -- the edges of the words from one on, of a region and of the one that it becomes
  module _ (w : ℕ) (g g' : Region) (same : SameRegion latency old new meet_old meet_new pairs g g') where
    there : (j : ℕ) (wd : List Item) → slice_get (drop w g.words) j ≡ Some wd → slice_get g.words (w + j) ≡ Some wd
    there j wd e = sym (got w g.words j) ∙ e

    same_words : drop w g'.words ≡ map (map (rename same.to)) (drop w g.words)
    same_words = ap (drop w) same.words ∙ drop_map (map (rename same.to)) g.words w

    old_end : EndsAt meet_old (early_words setting g (drop w g.words) s)
    old_end = early_ends setting meet_old g (drop w g.words) s (λ j p d edge y wd e h. (same.edges (w + j) p d edge y wd (there j wd e) h).1) same.last_old

    new_edge : (j p d : ℕ) (edge : Edge) (y : Bool) (wd : List Item) → slice_get (drop w g'.words) j ≡ Some wd → IsIn (Split p y edge d) wd → meet_new edge.from edge.to ≡ true
    new_edge j p d edge y wd e h =
        let o = old_word (map (rename same.to)) (drop w g.words) j wd (ap (λ z. slice_get z j) (sym same_words) ∙ e) in
        let i = old_split same.to o.0 p d edge y (subst (λ z. IsIn (Split p y edge d) z) o.2 h) in
        let m = (same.edges (w + j) p d i.0 y o.0 (there j o.0 o.1) i.1).2 in
        subst (λ z. meet_new z edge.to ≡ true) (sym i.2) (subst (λ z. meet_new i.0.from z ≡ true) (sym i.3) m)

    new_end : EndsAt meet_new (early_words setting g' (drop w g'.words) t)
    new_end = early_ends setting meet_new g' (drop w g'.words) t new_edge same.last_new

    old_is : (r : ℕ) → slice_get old.nodes b ≡ Some (Enters r w) → slice_get old.regions r ≡ Some g → hop setting times latency old b s ≡ early_words setting g (drop w g.words) s
    old_is r node reg =
        ap (λ z. node_hop setting (timed_from_start setting times latency) old b z s) node ∙ ap (λ z. in_region (timed_from_start setting times latency) w z s) reg ∙ timed_is_early setting times latency g same.settled_old w s

    new_is : (r' : ℕ) → slice_get new.nodes b' ≡ Some (Enters r' w) → slice_get new.regions r' ≡ Some g' → hop setting times' latency new b' t ≡ early_words setting g' (drop w g'.words) t
    new_is r' node reg =
        ap (λ z. node_hop setting (timed_from_start setting times' latency) new b' z t) node ∙ ap (λ z. in_region (timed_from_start setting times' latency) w z t) reg
        ∙ timed_is_early setting times' latency g' (settled_renamed latency g g' same.to same.words same.drain same.settled_old) w t

  -- old comes to the next entrance
  pub outside_ends : Outside latency old new meet_old meet_new pairs b b' → (h : Hop) × Segment (hop setting times latency old) meet_old b s h
  outside_ends (block ops x x' node node' renamed meets meets') =
      (block_hop setting b ops x s, last (ap (λ z. node_hop setting (timed_from_start setting times latency) old b z s) node) (block_ends setting meet_old b ops x s meets))
  outside_ends (region r r' w g g' node reg node' reg' same) = (early_words setting g (drop w g.words) s, last (old_is w g g' same r node reg) (old_end w g g' same))

  module _ (agree : Agree (Live old b) s t) where
    pub unchanged : Outside latency old new meet_old meet_new pairs b b' → (h : Hop) → Segment (hop setting times latency old) meet_old b s h → (h' : Hop) × Segment (hop setting times' latency new) meet_new b' t h' × Alike old pairs h h'
    unchanged (block ops x x' node node' renamed meets meets') h seg =
        let is : hop setting times latency old b s ≡ block_hop setting b ops x s = ap (λ z. node_hop setting (timed_from_start setting times latency) old b z s) node in
        let is' : hop setting times' latency new b' t ≡ block_hop setting b' ops x' t = ap (λ z. node_hop setting (timed_from_start setting times' latency) new b' z t) node' in
        let e = whole (block_hop setting b ops x s) h is (block_ends setting meet_old b ops x s meets) seg in
        let path : Path old (λ p q. true) b (map plain ops) b x = ends ops node refl refl (λ c l. refl) in
        let like = block_alike setting old pairs b b' ops x x' renamed s t agree.world (λ v a m q. agree.values v m (live_start old (λ p q. true) path v a) q) in
        (block_hop setting b' ops x' t, last is' (block_ends setting meet_new b' ops x' t meets'), subst (λ z. Alike old pairs z (block_hop setting b' ops x' t)) e like)
    unchanged (region r r' w g g' node reg node' reg' same) h seg =
        let early = early_words setting g (drop w g.words) s in
        let early' = early_words setting g' (drop w g'.words) t in
        let e = whole early h (old_is w g g' same r node reg) (old_end w g g' same) seg in
        let like = subst (λ z. Alike old pairs early (early_words setting g' z t)) (sym (same_words w g g' same))
        (words_alike setting old pairs g g' same.to same.last (drop w g.words) (λ j p d edge y wd q h. (same.edges (w + j) p d edge y wd (there w g g' same j wd q) h).0) s t agree.world (λ v a m q. agree.values v m (live_region old b r w g node reg v a) q)) in
        (early', last (new_is w g g' same r' node' reg') (new_end w g g' same), subst (λ z. Alike old pairs z early') e like)
