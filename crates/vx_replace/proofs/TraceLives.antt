-- The splits of a trace have the values that are live at the end of their edge.
use Rattle.std.proofs.Common.{◌≡◌, ◌≢◌, ℕ, ◌+◌, ◌<◌, Bool, true, false, Some, List, [], ◌∷◌, drop, get_or, length, map, slice_get, refl, sym, ap, ◌∙◌, subst, ⊎_elim, inl, inr, arith}
use Rattle.std.specs.Prelude.{◌↔◌, ◌==◌, if◌then◌else◌}
use Rattle.std.proofs.lemmas.Bool.{eq-eqb, eqb-true, ne_eqb}
use Rattle.vx_flow.specs.declared.graph.Edge.{Edge}
use Rattle.vx_flow.specs.declared.graph.Exit.{Exit}
use Rattle.vx_flow.specs.declared.graph.Exit.TheVariants.{Goto, Split as Branches, Call, Return, Ends}
use Rattle.vx_flow.specs.declared.graph.Op.{Op}
use Rattle.vx_flow.specs.declared.trace.TraceOp.{TraceOp}
use Rattle.vx_flow.specs.declared.trace.TraceOp.TheVariants.{Plain, Split}
use Rattle.vx_flow.specs.Effects.{IsIn}
use Rattle.vx_flow.specs.Sound.{targets_of}
use Rattle.vx_flow.specs.Walk.{edge}
use Rattle.vx_flow.proofs.Members.{in_either}
use Rattle.vx_flow.proofs.IndexSteps.{get_below}
use Rattle.vx_mixed.specs.declared.region.Node.TheVariants.{Unused}
use Rattle.vx_mixed.specs.declared.mixed.MixedGraph.{MixedGraph}
use Rattle.vx_mixed.specs.Edges.{IsEdge, of_block}
use Rattle.vx_mixed.specs.Live.{Live}
use Rattle.vx_replace.specs.TraceLists.{LiveAtSplits, has_split}
use Rattle.vx_mixed.specs.TraceOf.{CanTrace, block_at, block_or_none, split_between, split_behind, block_ops, trace_ops}
use Rattle.vx_mixed.specs.Valid.{Valid}
use Rattle.vx_mixed.proofs.Linked.{entrance_there}
use Rattle.vx_mixed.proofs.RouteSteps.{left_from}

-- a split that leaves from an exit, with what is live at its end
record OffEnd (live : ℕ → List ℕ) (b : ℕ) (x : Exit) (e : Edge) (values : List ℕ) : Type 0 where
  from : e.from ≡ b
  target : IsIn e.to (targets_of x)
  are : values ≡ live e.to

module _ (live : ℕ → List ℕ) where
  no_plain : (ops : List Op) (p : ℕ) (y : Bool) (e : Edge) (l : List ℕ) → IsIn (Split p y e l) (map Plain ops) → ⊥
  no_plain [] p y e l h = h
  no_plain (op ∷ ops) p y e l (inl q) = cc
  no_plain (op ∷ ops) p y e l (inr h) = no_plain ops p y e l h

  between : (b : ℕ) (x : Exit) (c p : ℕ) (y : Bool) (e : Edge) (l : List ℕ) → IsIn (Split p y e l) (split_between live b x c) → OffEnd live b x e l
  between b (Goto d) c p y e l h = absurd h
  between b (Branches q d f) c p y e l h = by (d == c) h
    where
      by : (z : Bool) → IsIn (Split p y e l) (if z then Split q false (edge b f) (live f) ∷ [] else Split q true (edge b d) (live d) ∷ []) → OffEnd live b (Branches q d f) e l
      by true (inr i) = absurd i
      by true (inl w) = let ed : e ≡ edge b f = cc in let vs : l ≡ live f = cc in record { from = ap (λ (z : Edge). z.from) ed; target = inr (inl (ap (λ (z : Edge). z.to) ed)); are = vs ∙ ap (λ (z : Edge). live z.to) (sym ed) }
      by false (inr i) = absurd i
      by false (inl w) = let ed : e ≡ edge b d = cc in let vs : l ≡ live d = cc in record { from = ap (λ (z : Edge). z.from) ed; target = inl (ap (λ (z : Edge). z.to) ed); are = vs ∙ ap (λ (z : Edge). live z.to) (sym ed) }
  between b (Call g arguments result next) c p y e l h = absurd h
  between b (Return x) c p y e l h = absurd h
  between b (Ends k) c p y e l h = absurd h

  behind : (b : ℕ) (x : Exit) (bs : List ℕ) (p : ℕ) (y : Bool) (e : Edge) (l : List ℕ) → IsIn (Split p y e l) (split_behind live b x bs) → OffEnd live b x e l
  behind b x [] p y e l h = absurd h
  behind b x (c ∷ bs) p y e l h = between b x c p y e l h

  in_trace : (m : MixedGraph) (bs : List ℕ) (p : ℕ) (y : Bool) (e : Edge) (l : List ℕ) → IsIn (Split p y e l) (trace_ops m live bs) → (b : ℕ) × IsIn b bs × OffEnd live b (block_at m b).exit e l
  in_trace m [] p y e l h = absurd h
  in_trace m (b ∷ bs) p y e l h =
      ⊎_elim
      (λ a. ⊎_elim
      (λ i. absurd (no_plain (block_at m b).ops p y e l i))
      (λ i. (b, inl refl, behind b (block_at m b).exit bs p y e l i))
      (in_either (Split p y e l) (map Plain (block_at m b).ops) (split_behind live b (block_at m b).exit bs) a))
      (λ a. let r = in_trace m bs p y e l a in (r.0, inr r.1, r.2))
      (in_either (Split p y e l) (block_ops m live b bs) (trace_ops m live bs) h)

split_lives : (m : MixedGraph) → Valid m → (blocks : List ℕ) → CanTrace m blocks → (live : ℕ → List ℕ) → ((b v : ℕ) → b < length m.nodes → IsIn v (live b) ↔ Live m b v) → (ops : List TraceOp) → ops ≡ trace_ops m live blocks →
    (p v : ℕ) (y : Bool) (e : Edge) (vs : List ℕ) → IsIn (Split p y e vs) ops → IsIn v vs ↔ Live m e.to v
split_lives m valid blocks can live exact ops are p v y e vs h =
    let r = in_trace live m blocks p y e vs (subst (IsIn (Split p y e vs)) are h) in
    let u = can.unused r.0 r.1 in
    let exit : (block_at m r.0).exit ≡ u.0.exit = ap (λ o. (block_or_none o).exit) u.1 in
    let from : slice_get m.nodes e.from ≡ Some (Unused u.0) = ap (slice_get m.nodes) r.2.from ∙ u.1 in
    let is : IsEdge m e = of_block from (subst (λ x. IsIn e.to (targets_of x)) exit r.2.target) in
    let k = entrance_there (slice_get m.nodes e.to) (valid.leads e is) in
    subst (λ l. IsIn v l ↔ Live m e.to v) (sym r.2.are) (exact e.to v (get_below m.nodes e.to k.0 k.1))

-- A trace without splits

between_many : (live other : ℕ → List ℕ) (b : ℕ) (x : Exit) (c : ℕ) → length (split_between live b x c) ≡ length (split_between other b x c)
between_many live other b (Goto d) c = refl
between_many live other b (Branches q d f) c = by (d == c)
  where
    by : (z : Bool) → length (if z then Split q false (edge b f) (live f) ∷ [] else Split q true (edge b d) (live d) ∷ []) ≡ length (if z then Split q false (edge b f) (other f) ∷ [] else Split q true (edge b d) (other d) ∷ [])
    by true = refl
    by false = refl
between_many live other b (Call g arguments result next) c = refl
between_many live other b (Return x) c = refl
between_many live other b (Ends k) c = refl

behind_many : (live other : ℕ → List ℕ) (b : ℕ) (x : Exit) (bs : List ℕ) → length (split_behind live b x bs) ≡ length (split_behind other b x bs)
behind_many live other b x [] = refl
behind_many live other b x (c ∷ bs) = between_many live other b x c

abbrev nowhere : ℕ → List ℕ
nowhere b = []

none_in : {A : Type 0} (xs : List A) (x : A) → length xs ≡ 0 → IsIn x xs → ⊥
none_in [] x n h = h
none_in (y ∷ ys) x n h = omega (arith, n)

module _ (m : MixedGraph) where
  abbrev count : ℕ → List ℕ → ℕ
  count b bs = length (split_behind nowhere b (block_at m b).exit bs)

  no_split : (live : ℕ → List ℕ) (blocks : List ℕ) → has_split m blocks ≡ false → (p : ℕ) (y : Bool) (e : Edge) (l : List ℕ) → IsIn (Split p y e l) (trace_ops m live blocks) → ⊥
  no_split live [] n p y e l h = h
  no_split live (b ∷ bs) n p y e l h = by (count b bs == 0) refl n (λ q. no_split live bs q p y e l)
    where
      by : (t : Bool) → (count b bs == 0) ≡ t → (if t then has_split m bs else true) ≡ false → (has_split m bs ≡ false → IsIn (Split p y e l) (trace_ops m live bs) → ⊥) → ⊥
      by false q r rest = cc
      by true q r rest =
          ⊎_elim
          (λ a. ⊎_elim
          (λ i. no_plain live (block_at m b).ops p y e l i)
          (λ i. none_in (split_behind live b (block_at m b).exit bs) (Split p y e l) (behind_many live nowhere b (block_at m b).exit bs ∙ eqb-true (count b bs) 0 q) i)
          (in_either (Split p y e l) (map Plain (block_at m b).ops) (split_behind live b (block_at m b).exit bs) a))
          (λ a. rest r a)
          (in_either (Split p y e l) (block_ops m live b bs) (trace_ops m live bs) h)

  pub none_live : (live : ℕ → List ℕ) (blocks : List ℕ) → has_split m blocks ≡ false → LiveAtSplits m blocks live
  none_live live blocks n p v y e vs h = absurd (no_split live blocks n p y e vs h)

  pub passed : (blocks rest : List ℕ) (i n : ℕ) → i < length blocks → rest ≡ drop (i + 1) blocks → n ≡ count (get_or blocks i 0) rest → n ≡ 0 → has_split m (drop i blocks) ≡ has_split m (drop (i + 1) blocks)
  passed blocks rest i n low r is zero_is =
      let b = get_or blocks i 0 in
      let none : count b (drop (i + 1) blocks) ≡ 0 = ap (count b) (sym r) ∙ sym is ∙ zero_is in
      ap (has_split m) (left_from blocks i 0 low) ∙ ap (λ t. if t then has_split m (drop (i + 1) blocks) else true) (eq-eqb (count b (drop (i + 1) blocks)) 0 none)

  pub found : (blocks rest : List ℕ) (i n : ℕ) → i < length blocks → rest ≡ drop (i + 1) blocks → n ≡ count (get_or blocks i 0) rest → n ≢ 0 → has_split m (drop i blocks) ≡ true
  found blocks rest i n low r is some =
      let b = get_or blocks i 0 in
      let here : count b (drop (i + 1) blocks) ≡ n = ap (count b) (sym r) ∙ sym is in
      ap (has_split m) (left_from blocks i 0 low) ∙ ap (λ t. if t then has_split m (drop (i + 1) blocks) else true) (ne_eqb (count b (drop (i + 1) blocks)) 0 (λ e. some (sym here ∙ e)))

pub split_live : (m : MixedGraph) → Valid m → (blocks : List ℕ) → CanTrace m blocks → (live : ℕ → List ℕ) → ((b v : ℕ) → b < length m.nodes → IsIn v (live b) ↔ Live m b v) → LiveAtSplits m blocks live
split_live m valid blocks can live exact = split_lives m valid blocks can live exact (trace_ops m live blocks) refl
