-- The best of several, one after the other: the seed, and the heaviest edges at a block.
use Rattle.std.proofs.Common.{◌≡◌, ◌⊎◌, inl, inr, ℕ, suc, ◌+◌, ◌<◌, ◌≤◌, Bool, true, false, Option, Some, None, List, [], ◌∷◌, ◌++◌, length, take, slice_get, slice_index_or, refl, sym, ap, subst, ◌∙◌, arith}
use Rattle.std.specs.Prelude.{if◌then◌else◌}
use Rattle.std.proofs.Math.Seq.{take-suc}
use Rattle.std.proofs.lemmas.Bool.Decides.{nat_tests}
use Rattle.std.proofs.lemmas.List.{take_all}
use Rattle.vx_flow.specs.declared.graph.Block.{Block}
use Rattle.vx_flow.specs.declared.graph.Edge.{Edge}
use Rattle.vx_flow.specs.Effects.{IsIn}
use Rattle.vx_flow.specs.Sound.{targets_of}
use Rattle.vx_flow.specs.Walk.{edge}
use Rattle.vx_flow.proofs.Members.{in_left, in_last, in_front_or_last}
use Rattle.vx_mixed.specs.declared.region.Node.TheVariants.{Unused}
use Rattle.vx_mixed.specs.declared.mixed.MixedGraph.{MixedGraph}
use Rattle.vx_mixed.specs.Edges.{IsEdge, EdgesOf, of_block, of_split, of_last}
use Rattle.vx_mixed.specs.Valid.{Valid, is_in_region}
use Rattle.vx_profile.specs.declared.counts.Counts.{Counts}
use Rattle.vx_trace.specs.declared.heaviest.Best.{Best}
use Rattle.vx_trace.specs.Growing.{is_better, better, BestOf, HasSource, HasTarget, HeaviestOf, IsSeed}
use Rattle.vx_trace.specs.Picked.{Greatest, HeaviestIn, HeaviestOut, IsUnused, count_of_block, count_of_edge}
use Rattle.vx_trace.proofs.Readings.{unused_below}
use Rattle.vx_trace.proofs.Unique.{greatest_one}

-- c and n are the count and the number of one, d and k those of another, which is before it
abbrev Before : (c n d k : ℕ) → Type 0
Before c n d k = (c < d) ⊎ ((c ≡ d) × (k ≤ n))

chain : (c n d k e l : ℕ) → Before c n d k → Before d k e l → Before c n e l
chain c n d k e l (inl a) (inl b) = inl (omega arith)
chain c n d k e l (inl a) (inr b) = let q = b.0 in inl (omega arith)
chain c n d k e l (inr a) (inl b) = let q = a.0 in inl (omega arith)
chain c n d k e l (inr a) (inr b) = let q = a.0 in let r = b.0 in let s = a.1 in let t = b.1 in inr (omega arith, omega arith)

better_so : (b : Best) (n c : ℕ) → is_better b n c ≡ true → Before b.count b.other c n
better_so b n c h = grind (arith, nat_tests)

better_not : (b : Best) (n c : ℕ) → is_better b n c ≡ false → Before c n b.count b.other
better_not b n c h = grind (arith, nat_tests)

pub best_more : {A : Type 0} (Is Js : A → Type 0) (count number : A → ℕ) (e : A) → Js e → ((y : A) → Js y → Is y ⊎ (y ≡ e)) → ((y : A) → Is y → Js y) → (best : Option Best) → BestOf Is count number best → BestOf Js count number (Some (better best (number e) (count e)))
best_more {A = A} Is Js count number e here cover more None h =
    (e, record { is = here; others = λ y j. elim (cover y j) [ inl i ↦ absurd (h y i) | inr q ↦ inr (ap count q, (let s = ap number q in omega arith)) ] }, refl, refl)
best_more {A = A} Is Js count number e here cover more (Some b) h = by (is_better b (number e) (count e)) refl
  where
    by : (t : Bool) → is_better b (number e) (count e) ≡ t → BestOf Js count number (Some (if t then record { other = number e; count = count e } else b))
    by true q =
        let step : Before (count h.0) (number h.0) (count e) (number e) = subst (λ z. Before z (number h.0) (count e) (number e)) (sym h.3) (subst (λ z. Before b.count z (count e) (number e)) (sym h.2) (better_so b (number e) (count e) q)) in
        (e, record { is = here; others = λ y j. elim (cover y j) [ inl i ↦ chain (count y) (number y) (count h.0) (number h.0) (count e) (number e) (h.1.others y i) step | inr s ↦ inr (ap count s, (let t = ap number s in omega arith)) ] }, refl, refl)
    by false q =
        let step : Before (count e) (number e) (count h.0) (number h.0) = subst (λ z. Before (count e) (number e) z (number h.0)) (sym h.3) (subst (λ z. Before (count e) (number e) b.count z) (sym h.2) (better_not b (number e) (count e) q)) in
        (h.0, record { is = more h.0 h.1.is; others = λ y j. elim (cover y j) [ inl i ↦ h.1.others y i | inr s ↦ subst (λ z. Before (count z) (number z) (count h.0) (number h.0)) (sym s) step ] }, h.2, h.3)

pub best_kept : {A : Type 0} (Is Js : A → Type 0) (count number : A → ℕ) → ((y : A) → Js y → Is y) → ((y : A) → Is y → Js y) → (best : Option Best) → BestOf Is count number best → BestOf Js count number best
best_kept Is Js count number less more None h = λ x j. h x (less x j)
best_kept Is Js count number less more (Some b) h = (h.0, record { is = more h.0 h.1.is; others = λ y j. h.1.others y (less y j) }, h.2, h.3)

-- the seed

pub seed_none : (m : MixedGraph) (counts : Counts) → BestOf (λ b. (b < 0) × IsUnused m b) (count_of_block m counts) (λ b. b) None
seed_none m counts = λ b h. let q = h.0 in absurd (omega arith)

pub seed_more : (m : MixedGraph) (counts : Counts) (i count : ℕ) (best : Option Best) (next : Best) → IsUnused m i → count ≡ count_of_block m counts i → next ≡ better best i count → BestOf (λ b. (b < i) × IsUnused m b) (count_of_block m counts) (λ b. b) best → BestOf (λ b. (b < i + 1) × IsUnused m b) (count_of_block m counts) (λ b. b) (Some next)
seed_more m counts i count best next u is_count is h =
    subst (λ z. BestOf (λ b. (b < i + 1) × IsUnused m b) (count_of_block m counts) (λ b. b) (Some z)) (ap (better best i) (sym is_count) ∙ sym is)
    (best_more (λ b. (b < i) × IsUnused m b) (λ b. (b < i + 1) × IsUnused m b) (count_of_block m counts) (λ b. b) i (omega arith, u)
    (λ y j. elim (below_or y i j.0) [ inl k ↦ inl (k, j.1) | inr q ↦ inr q ]) (λ y j. let k = j.0 in (omega arith, j.1)) best h)
  where
    below_or : (y i : ℕ) → y < i + 1 → (y < i) ⊎ (y ≡ i)
    below_or y i h = grind arith

pub seed_kept : (m : MixedGraph) (counts : Counts) (i : ℕ) (best : Option Best) → (IsUnused m i → ⊥) → BestOf (λ b. (b < i) × IsUnused m b) (count_of_block m counts) (λ b. b) best → BestOf (λ b. (b < i + 1) × IsUnused m b) (count_of_block m counts) (λ b. b) best
seed_kept m counts i best n h =
    best_kept (λ b. (b < i) × IsUnused m b) (λ b. (b < i + 1) × IsUnused m b) (count_of_block m counts) (λ b. b)
    (λ y j. (less y j.0 (λ q. n (subst (IsUnused m) q j.1)), j.1)) (λ y j. let k = j.0 in (omega arith, j.1)) best h
  where
    less : (y : ℕ) → y < i + 1 → (y ≡ i → ⊥) → y < i
    less y k q = grind arith

pub seed_found : (m : MixedGraph) (counts : Counts) (n : ℕ) (b : Best) → n ≡ length m.nodes → BestOf (λ b. (b < n) × IsUnused m b) (count_of_block m counts) (λ b. b) (Some b) → IsSeed m counts (Some b.other)
seed_found m counts n b many h = subst (Greatest (IsUnused m) (count_of_block m counts) (λ c. c)) h.2 (record { is = h.1.is.1; others = λ y u. h.1.others y (let k = unused_below m y u in omega arith, u) })

pub seed_missing : (m : MixedGraph) (counts : Counts) (n : ℕ) → n ≡ length m.nodes → BestOf (λ b. (b < n) × IsUnused m b) (count_of_block m counts) (λ b. b) None → IsSeed m counts None
seed_missing m counts n many h = λ b u. h b (let k = unused_below m b u in omega arith, u)

-- the heaviest edges at a block

same_edges : (e f : Edge) → e.from ≡ f.from → e.to ≡ f.to → e ≡ f
same_edges e f p q = λ i. record { from = p i; to = q i }

module _ (m : MixedGraph) (counts : Counts) (edges : List Edge) (all : EdgesOf m edges) (b : ℕ) where
  abbrev Count : Edge → ℕ
  Count = count_of_edge m counts

  abbrev Into : Edge → Type 0
  Into e = IsIn e edges × (e.to ≡ b)

  pub source_some : (best : Best) → BestOf Into Count (λ e. e.from) (Some best) → HeaviestIn m counts (edge best.other b)
  source_some best h =
      let x : Greatest (λ f. IsEdge m f × (f.to ≡ b)) Count (λ f. f.from) h.0 = record { is = ((all.exact h.0).0 h.1.is.0, h.1.is.1); others = λ f i. h.1.others f ((all.exact f).1 i.0, i.1) } in
      subst (Greatest (λ f. IsEdge m f × (f.to ≡ b)) Count (λ f. f.from)) (same_edges h.0 (edge best.other b) h.2 h.1.is.1) x

  pub source_none : BestOf Into Count (λ e. e.from) None → HasSource m counts b None
  source_none h c g = h (edge c b) ((all.exact (edge c b)).1 g.is.0, refl)

-- an unused block has the edges of its exit

out_only : (m : MixedGraph) → Valid m → (b : ℕ) (k : Block) → slice_get m.nodes b ≡ Some (Unused k) → (e : Edge) → IsEdge m e → e.from ≡ b → IsIn e.to (targets_of k.exit)
out_only m valid b k at e (of_block {block = block} there to) q =
    let same : Some (Unused block) ≡ Some (Unused k) = sym there ∙ ap (slice_get m.nodes) q ∙ at in
    let is : block ≡ k = cc in
    subst (λ (z : Block). IsIn e.to (targets_of z.exit)) is to
out_only m valid b k at e (of_split r j p d y g word has stands there) q =
    let inside : is_in_region (slice_get m.nodes e.from) ≡ true = valid.splits_from r j p d y e g word has stands there in
    let outside : is_in_region (slice_get m.nodes e.from) ≡ false = ap (λ z. is_in_region (slice_get m.nodes z)) q ∙ ap is_in_region at in
    absurd (let z : true ≡ false = sym inside ∙ outside in cc)
out_only m valid b k at e (of_last r g has from to) q =
    let inside : is_in_region (slice_get m.nodes g.from) ≡ true = valid.last_from r g has in
    let outside : is_in_region (slice_get m.nodes g.from) ≡ false = ap (λ z. is_in_region (slice_get m.nodes z)) (sym from ∙ q) ∙ ap is_in_region at in
    absurd (let z : true ≡ false = sym inside ∙ outside in cc)

pub target_is : (m : MixedGraph) (counts : Counts) → Valid m → (b : ℕ) (k : Block) → slice_get m.nodes b ≡ Some (Unused k) → (o : Option ℕ) → HeaviestOf m counts b (targets_of k.exit) o → HasTarget m counts b o
target_is m counts valid b k at None h = λ c g. h c (out_only m valid b k at (edge b c) g.is.0 refl)
target_is m counts valid b k at (Some c) h = record {
  is = (of_block at h.is, refl);
  others = λ f i.
      let same : edge b f.to ≡ f = same_edges (edge b f.to) f (sym i.1) refl in
      subst (λ (z : Edge). (count_of_edge m counts z < count_of_edge m counts (edge b c)) ⊎ ((count_of_edge m counts z ≡ count_of_edge m counts (edge b c)) × (c ≤ z.to))) same (h.others f.to (out_only m valid b k at f i.0 i.1));
}

pub one_target : (m : MixedGraph) (counts : Counts) (b c : ℕ) → HeaviestOf m counts b (c ∷ []) (Some c)
one_target m counts b c = record { is = inl refl; others = λ d i. elim i [ inl q ↦ inr (ap (λ z. count_of_edge m counts (edge b z)) q, (let s = q in omega arith)) | inr n ↦ absurd n ] }

pub first_of_two : (m : MixedGraph) (counts : Counts) (b c d : ℕ) → (count_of_edge m counts (edge b d) < count_of_edge m counts (edge b c)) ⊎ ((count_of_edge m counts (edge b d) ≡ count_of_edge m counts (edge b c)) × (c ≤ d)) → HeaviestOf m counts b (c ∷ d ∷ []) (Some c)
first_of_two m counts b c d h = record {
  is = inl refl;
  others = λ x i. elim i [
    | inl q ↦ inr (ap (λ z. count_of_edge m counts (edge b z)) q, (let s = q in omega arith))
    | inr k ↦ elim k [
      | inl q ↦ subst (λ z. (count_of_edge m counts (edge b z) < count_of_edge m counts (edge b c)) ⊎ ((count_of_edge m counts (edge b z) ≡ count_of_edge m counts (edge b c)) × (c ≤ z))) (sym q) h
      | inr n ↦ absurd n
    ]
  ];
}

pub second_of_two : (m : MixedGraph) (counts : Counts) (b c d : ℕ) → (count_of_edge m counts (edge b c) < count_of_edge m counts (edge b d)) ⊎ ((count_of_edge m counts (edge b c) ≡ count_of_edge m counts (edge b d)) × (d ≤ c)) → HeaviestOf m counts b (c ∷ d ∷ []) (Some d)
second_of_two m counts b c d h = record {
  is = inr (inl refl);
  others = λ x i. elim i [
    | inl q ↦ subst (λ z. (count_of_edge m counts (edge b z) < count_of_edge m counts (edge b d)) ⊎ ((count_of_edge m counts (edge b z) ≡ count_of_edge m counts (edge b d)) × (d ≤ z))) (sym q) h
    | inr k ↦ elim k [
      | inl q ↦ inr (ap (λ z. count_of_edge m counts (edge b z)) q, (let s = q in omega arith))
      | inr n ↦ absurd n
    ]
  ];
}

-- one more edge, at this end of which the block stands or does not

more : (edges : List Edge) (i : ℕ) (d : Edge) → i < length edges → take (i + 1) edges ≡ take i edges ++ slice_index_or edges i d ∷ []
more edges i d lt = let e : i + 1 ≡ suc i = omega arith in ap (λ n. take n edges) e ∙ take-suc edges i d lt

pub edge_more : (end other count : Edge → ℕ) (b : ℕ) (edges : List Edge) (i : ℕ) (d : Edge) (best : Option Best) (next : Best) → i < length edges → end (slice_index_or edges i d) ≡ b → next ≡ better best (other (slice_index_or edges i d)) (count (slice_index_or edges i d)) →
    BestOf (λ e. IsIn e (take i edges) × (end e ≡ b)) count other best → BestOf (λ e. IsIn e (take (i + 1) edges) × (end e ≡ b)) count other (Some next)
edge_more end other count b edges i d best next lt at is h =
    let x = slice_index_or edges i d in
    subst (λ z. BestOf (λ e. IsIn e z × (end e ≡ b)) count other (Some next)) (sym (more edges i d lt))
    (subst (λ z. BestOf (λ e. IsIn e (take i edges ++ x ∷ []) × (end e ≡ b)) count other (Some z)) (sym is)
    (best_more (λ e. IsIn e (take i edges) × (end e ≡ b)) (λ e. IsIn e (take i edges ++ x ∷ []) × (end e ≡ b)) count other x (in_last x (take i edges), at)
    (λ f j. elim (in_front_or_last f x (take i edges) j.0) [ inl k ↦ inl (k, j.1) | inr q ↦ inr q ]) (λ f j. (in_left f (take i edges) (x ∷ []) j.0, j.1)) best h))

pub edge_passed : (end other count : Edge → ℕ) (b : ℕ) (edges : List Edge) (i : ℕ) (d : Edge) (best : Option Best) → i < length edges → (end (slice_index_or edges i d) ≡ b → ⊥) →
    BestOf (λ e. IsIn e (take i edges) × (end e ≡ b)) count other best → BestOf (λ e. IsIn e (take (i + 1) edges) × (end e ≡ b)) count other best
edge_passed end other count b edges i d best lt not h =
    let x = slice_index_or edges i d in
    subst (λ z. BestOf (λ e. IsIn e z × (end e ≡ b)) count other best) (sym (more edges i d lt))
    (best_kept (λ e. IsIn e (take i edges) × (end e ≡ b)) (λ e. IsIn e (take i edges ++ x ∷ []) × (end e ≡ b)) count other
    (λ f j. elim (in_front_or_last f x (take i edges) j.0) [ inl k ↦ (k, j.1) | inr q ↦ absurd (not (sym (ap end q) ∙ j.1)) ]) (λ f j. (in_left f (take i edges) (x ∷ []) j.0, j.1)) best h)

pub edges_all : (end other count : Edge → ℕ) (b : ℕ) (edges : List Edge) (i : ℕ) (best : Option Best) → length edges ≤ i → BestOf (λ e. IsIn e (take i edges) × (end e ≡ b)) count other best → BestOf (λ e. IsIn e edges × (end e ≡ b)) count other best
edges_all end other count b edges i best le h = subst (λ z. BestOf (λ e. IsIn e z × (end e ≡ b)) count other best) (take_all i edges le) h

-- the edge is the heaviest at its other end

pub into_found : (m : MixedGraph) (counts : Counts) (e : Edge) (o : Option ℕ) → HasSource m counts e.to o → o ≡ Some e.from → HeaviestIn m counts e
into_found m counts e o h q = subst (HasSource m counts e.to) q h

pub into_missed : (m : MixedGraph) (counts : Counts) (e : Edge) (o : Option ℕ) → HasSource m counts e.to o → (o ≡ Some e.from → ⊥) → HeaviestIn m counts e → ⊥
into_missed m counts e None h n g = h e.from g
into_missed m counts e (Some c) h n g = n (ap Some (greatest_one (edge c e.to) e h g))

pub out_found : (m : MixedGraph) (counts : Counts) (e : Edge) (o : Option ℕ) → HasTarget m counts e.from o → o ≡ Some e.to → HeaviestOut m counts e
out_found m counts e o h q = subst (HasTarget m counts e.from) q h

pub out_missed : (m : MixedGraph) (counts : Counts) (e : Edge) (o : Option ℕ) → HasTarget m counts e.from o → (o ≡ Some e.to → ⊥) → HeaviestOut m counts e → ⊥
out_missed m counts e None h n g = h e.to g
out_missed m counts e (Some c) h n g = n (ap Some (greatest_one (edge e.from c) e h g))
