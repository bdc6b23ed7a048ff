-- The edges of blocks, block by block, are all of them, ascending.
use Rattle.std.proofs.Common.{◌≡◌, ℕ, zero, suc, ◌+◌, ◌<◌, Option, Some, None, List, [], ◌∷◌, ◌++◌, cond, length, map, slice_get, take, get_or, refl, sym, ap, ◌∙◌, subst, ⊎_elim, inl, inr, arith}
use Rattle.std.specs.Prelude.{◌⊎◌, ◌↔◌, nat_lt}
use Rattle.std.specs.Option.{option_map}
use Rattle.std.proofs.lemmas.Option.{slice_get-map}
use Rattle.std.proofs.lemmas.Bool.{cases_eq, cases_lt, eq-eqb, ne_eqb, lt-ltb, le-ltb}
use Rattle.vx_flow.specs.declared.graph.Block.{Block}
use Rattle.vx_flow.specs.declared.graph.Edge.{Edge}
use Rattle.vx_flow.specs.declared.graph.Exit.{Exit}
use Rattle.vx_flow.specs.declared.graph.Exit.TheVariants.{Goto, Split as Branch, Call, Return, Ends}
use Rattle.vx_flow.specs.Effects.{IsIn}
use Rattle.vx_flow.specs.Sound.{targets_of}
use Rattle.vx_flow.specs.Walk.{edge, ascending, successors_of}
use Rattle.vx_flow.proofs.Members.{in_left, in_right, in_either}
use Rattle.vx_mixed.specs.declared.region.Node.TheVariants.{Unused}
use Rattle.vx_mixed.specs.declared.region.Region.{Region}
use Rattle.vx_mixed.specs.declared.mixed.MixedGraph.{MixedGraph}
use Rattle.vx_mixed.specs.Edges.{Before, Ascending, IsEdge, of_block, of_split, of_last, EdgesOf, edges_from}

-- one more block
pub edges_more : (b : ℕ) (blocks : List Block) (i : ℕ) (k : Block) → i < length blocks → k ≡ get_or blocks i k → edges_from b (take (suc i) blocks) ≡ edges_from b (take i blocks) ++ map (edge (b + i)) (successors_of k.exit)
edges_more b [] i k h e = absurd (omega arith)
edges_more b (x ∷ blocks) zero k h e =
    let same : x ≡ k = sym e in
    let z : b ≡ b + 0 = omega arith in
    nothing (map (edge b) (successors_of x.exit)) ∙ ap (λ (q : Block). map (edge b) (successors_of q.exit)) same ∙ ap (λ n. map (edge n) (successors_of k.exit)) z
  where
    nothing : (xs : List Edge) → xs ++ [] ≡ xs
    nothing [] = refl
    nothing (y ∷ xs) = ap (λ z. y ∷ z) (nothing xs)
edges_more b (x ∷ blocks) (suc i) k h e =
    let z : (b + 1) + i ≡ b + suc i = omega arith in
    ap (λ z. map (edge b) (successors_of x.exit) ++ z) (edges_more (b + 1) blocks i k (omega arith) e)
    ∙ sym (assoc (map (edge b) (successors_of x.exit)) (edges_from (b + 1) (take i blocks)) (map (edge ((b + 1) + i)) (successors_of k.exit)))
    ∙ ap (λ n. (map (edge b) (successors_of x.exit) ++ edges_from (b + 1) (take i blocks)) ++ map (edge n) (successors_of k.exit)) z
  where
    assoc : (xs ys zs : List Edge) → (xs ++ ys) ++ zs ≡ xs ++ (ys ++ zs)
    assoc [] ys zs = refl
    assoc (y ∷ xs) ys zs = ap (λ q. y ∷ q) (assoc xs ys zs)

-- successors are the targets

two_ways : (c d : ℕ) → ((ascending c d ≡ c ∷ []) × (c ≡ d)) ⊎ (((ascending c d ≡ c ∷ d ∷ []) × (c < d)) ⊎ ((ascending c d ≡ d ∷ c ∷ []) × (d < c)))
two_ways c d =
    ⊎_elim
    (λ e. inl (ap (λ z. cond z (c ∷ []) (cond (nat_lt c d) (c ∷ d ∷ []) (d ∷ c ∷ []))) (eq-eqb c d e), e))
    (λ n. inr (⊎_elim
    (λ l. inl (ap (λ z. cond z (c ∷ []) (cond (nat_lt c d) (c ∷ d ∷ []) (d ∷ c ∷ []))) (ne_eqb c d n) ∙ ap (λ z. cond z (c ∷ d ∷ []) (d ∷ c ∷ [])) (lt-ltb c d l), l))
    (λ g. inr (ap (λ z. cond z (c ∷ []) (cond (nat_lt c d) (c ∷ d ∷ []) (d ∷ c ∷ []))) (ne_eqb c d n) ∙ ap (λ z. cond z (c ∷ d ∷ []) (d ∷ c ∷ [])) (le-ltb c d g), (let n' = n in omega arith)))
    (cases_lt c d)))
    (cases_eq c d)

pub successor_is : (x : Exit) (c : ℕ) → IsIn c (successors_of x) ↔ IsIn c (targets_of x)
successor_is (Goto d) c = ((λ h. h), (λ h. h))
successor_is (Branch p d e) c =
    ⊎_elim
    (λ a. (
      (λ h. one (subst (IsIn c) a.0 h)),
      (λ h. subst (IsIn c) (sym a.0) (back a.1 h)),
    ))
    (λ y. ⊎_elim
    (λ a. ((λ h. subst (IsIn c) a.0 h), (λ h. subst (IsIn c) (sym a.0) h)))
    (λ a. ((λ h. turn d e (subst (IsIn c) a.0 h)), (λ h. subst (IsIn c) (sym a.0) (turn e d h))))
    y)
    (two_ways d e)
  where
    one : IsIn c (d ∷ []) → IsIn c (d ∷ e ∷ [])
    one (inl h) = inl h
    one (inr h) = absurd h

    back : d ≡ e → IsIn c (d ∷ e ∷ []) → IsIn c (d ∷ [])
    back q (inl h) = inl h
    back q (inr (inl h)) = inl (h ∙ sym q)
    back q (inr (inr h)) = absurd h

    turn : (a b : ℕ) → IsIn c (b ∷ a ∷ []) → IsIn c (a ∷ b ∷ [])
    turn a b (inl h) = inr (inl h)
    turn a b (inr (inl h)) = inl h
    turn a b (inr (inr h)) = absurd h
successor_is (Call g arguments result next) c = ((λ h. h), (λ h. h))
successor_is (Return y) c = ((λ h. h), (λ h. h))
successor_is (Ends k) c = ((λ h. h), (λ h. h))

-- which edges there are

to_mapped : (b c : ℕ) (cs : List ℕ) → IsIn c cs → IsIn (edge b c) (map (edge b) cs)
to_mapped b c [] h = absurd h
to_mapped b c (d ∷ cs) (inl e) = inl (ap (edge b) e)
to_mapped b c (d ∷ cs) (inr h) = inr (to_mapped b c cs h)

of_mapped : (b : ℕ) (cs : List ℕ) (e : Edge) → IsIn e (map (edge b) cs) → (e.from ≡ b) × IsIn e.to cs
of_mapped b [] e h = absurd h
of_mapped b (d ∷ cs) e (inl q) = (ap (λ (z : Edge). z.from) q, inl (ap (λ (z : Edge). z.to) q))
of_mapped b (d ∷ cs) e (inr h) = let r = of_mapped b cs e h in (r.0, inr r.1)

of_edges : (b : ℕ) (blocks : List Block) (e : Edge) → IsIn e (edges_from b blocks) → (i : ℕ) × (block : Block) × (slice_get blocks i ≡ Some block) × (e.from ≡ b + i) × IsIn e.to (successors_of block.exit)
of_edges b [] e h = absurd h
of_edges b (x ∷ blocks) e h =
    ⊎_elim
    (λ a. let r = of_mapped b (successors_of x.exit) e a in (0, x, refl, (let q = r.0 in omega arith), r.1))
    (λ a. let r = of_edges (b + 1) blocks e a in (suc r.0, r.1, r.2, (let q = r.3 in omega arith), r.4))
    (in_either e (map (edge b) (successors_of x.exit)) (edges_from (b + 1) blocks) h)

pub to_edges : (b : ℕ) (blocks : List Block) (i c : ℕ) (block : Block) → slice_get blocks i ≡ Some block → IsIn c (successors_of block.exit) → IsIn (edge (b + i) c) (edges_from b blocks)
to_edges b [] i c block e h = absurd (cc)
to_edges b (x ∷ blocks) zero c block e h =
    let same : block ≡ x = cc in
    let z : b ≡ b + 0 = omega arith in
    in_left (edge (b + 0) c) (map (edge b) (successors_of x.exit)) (edges_from (b + 1) blocks) (subst (λ n. IsIn (edge n c) (map (edge b) (successors_of x.exit))) z (to_mapped b c (successors_of x.exit) (subst (λ (q : Block). IsIn c (successors_of q.exit)) same h)))
to_edges b (x ∷ blocks) (suc i) c block e h =
    let z : (b + 1) + i ≡ b + suc i = omega arith in
    in_right (edge (b + suc i) c) (map (edge b) (successors_of x.exit)) (edges_from (b + 1) blocks) (subst (λ n. IsIn (edge n c) (edges_from (b + 1) blocks)) z (to_edges (b + 1) blocks i c block e h))

-- they ascend

up_append : (es fs : List Edge) → Ascending es → Ascending fs → ((e f : Edge) → IsIn e es → IsIn f fs → Before e f) → Ascending (es ++ fs)
up_append [] fs a b h = b
up_append (e ∷ es) fs a b h = ((λ f q. ⊎_elim (λ z. a.0 f z) (λ z. h e f (inl refl) z) (in_either f es fs q)), up_append es fs a.1 b (λ x y p q. h x y (inr p) q))

up_two : (b c d : ℕ) → c < d → Ascending (edge b c ∷ edge b d ∷ [])
up_two b c d lt = (by, ((λ f h. absurd h), tt))
  where
    by : (f : Edge) → IsIn f (edge b d ∷ []) → Before (edge b c) f
    by f (inl e) = let p : f.from ≡ b = ap (λ (z : Edge). z.from) e in let q : f.to ≡ d = ap (λ (z : Edge). z.to) e in inr (sym p, subst (λ z. c < z) (sym q) lt)
    by f (inr h) = absurd h

up_exit : (b : ℕ) (x : Exit) → Ascending (map (edge b) (successors_of x))
up_exit b (Goto c) = ((λ f h. absurd h), tt)
up_exit b (Branch p c d) =
    ⊎_elim
    (λ a. subst (λ z. Ascending (map (edge b) z)) (sym a.0) ((λ f h. absurd h), tt))
    (λ y. ⊎_elim (λ a. subst (λ z. Ascending (map (edge b) z)) (sym a.0) (up_two b c d a.1)) (λ a. subst (λ z. Ascending (map (edge b) z)) (sym a.0) (up_two b d c a.1)) y)
    (two_ways c d)
up_exit b (Call g arguments result next) = ((λ f h. absurd h), tt)
up_exit b (Return y) = tt
up_exit b (Ends k) = tt

up_edges : (b : ℕ) (blocks : List Block) → Ascending (edges_from b blocks)
up_edges b [] = tt
up_edges b (x ∷ blocks) =
    up_append (map (edge b) (successors_of x.exit)) (edges_from (b + 1) blocks) (up_exit b x.exit) (up_edges (b + 1) blocks)
    (λ e f p q. let r = of_mapped b (successors_of x.exit) e p in let s = of_edges (b + 1) blocks f q in inl (let r0 = r.0 in let s3 = s.3 in omega arith))

unused_is : (o : Option Block) (k : Block) → option_map Unused o ≡ Some (Unused k) → o ≡ Some k
unused_is None k e = absurd (cc)
unused_is (Some b) k e = let q : b ≡ k = cc in ap Some q

pub block_edges_are : (m : MixedGraph) (blocks : List Block) → m.nodes ≡ map Unused blocks → m.regions ≡ [] → EdgesOf m (edges_from 0 blocks)
block_edges_are m blocks nodes regions = record { ascending = up_edges 0 blocks; exact = λ e. (there e, back e) }
  where
    node : (b : ℕ) → slice_get m.nodes b ≡ option_map Unused (slice_get blocks b)
    node b = ap (λ z. slice_get z b) nodes ∙ slice_get-map Unused blocks b

    there : (e : Edge) → IsIn e (edges_from 0 blocks) → IsEdge m e
    there e h =
        let r = of_edges 0 blocks e h in
        let z : e.from ≡ r.0 = let q = r.3 in omega arith in
        of_block {block = r.1} (node e.from ∙ ap (λ i. option_map Unused (slice_get blocks i)) z ∙ ap (option_map Unused) r.2) ((successor_is r.1.exit e.to).0 r.4)

    no_region : {A : Type 0} → (r : ℕ) (g : Region) → slice_get m.regions r ≡ Some g → A
    no_region r g e = absurd (let q : None ≡ Some g = sym (ap (λ z. slice_get z r) regions) ∙ e in cc)

    back : (e : Edge) → IsEdge m e → IsIn e (edges_from 0 blocks)
    back e (of_block {block = k} at t) =
        let z : 0 + e.from ≡ e.from = omega arith in
        subst (λ n. IsIn (edge n e.to) (edges_from 0 blocks)) z (to_edges 0 blocks e.from e.to k (unused_is (slice_get blocks e.from) k (sym (node e.from) ∙ at)) ((successor_is k.exit e.to).1 t))
    back e (of_split r j p d y g word at here_ h) = no_region r g at
    back e (of_last r g at f t) = no_region r g at

-- the edges are the same, whatever the function's number
pub edges_whatever_function : (m : MixedGraph) (function : ℕ) (edges : List Edge) → EdgesOf m edges → EdgesOf (record m { function = function }) edges
edges_whatever_function m function edges h = record { ascending = h.ascending; exact = λ e. ((λ q. there e ((h.exact e).0 q)), (λ q. (h.exact e).1 (back e q))) }
  where
    there : (e : Edge) → IsEdge m e → IsEdge (record m { function = function }) e
    there e (of_block at t) = of_block at t
    there e (of_split r j p d y g word at here_ q) = of_split r j p d y g word at here_ q
    there e (of_last r g at f t) = of_last r g at f t

    back : (e : Edge) → IsEdge (record m { function = function }) e → IsEdge m e
    back e (of_block at t) = of_block at t
    back e (of_split r j p d y g word at here_ q) = of_split r j p d y g word at here_ q
    back e (of_last r g at f t) = of_last r g at f t
