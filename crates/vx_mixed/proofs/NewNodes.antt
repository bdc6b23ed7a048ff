-- The blocks that a replacement makes, by the edge on which they are made, and what stands at each number after it.
use Rattle.std.proofs.Common.{◌≡◌, ℕ, zero, suc, ◌+◌, ◌-◌, ◌<◌, Bool, true, false, ◌&&◌, Some, None, List, [], ◌∷◌, ◌++◌, length, map, slice_get, refl, sym, ap, ◌∙◌, ⊎_elim, inl, inr, arith}
use Rattle.std.specs.Prelude.{◌⊎◌, ◌==◌, if◌then◌else◌}
use Rattle.std.specs.Option.{option_map}
use Rattle.std.proofs.lemmas.Bool.{and_parts, eqb-true, eq-eqb, lt-ltb, le-ltb, cases_Bool}
use Rattle.vx_flow.specs.declared.graph.Edge.{Edge}
use Rattle.vx_flow.specs.Walk.{edge}
use Rattle.vx_mixed.specs.declared.region.Made.{Made}
use Rattle.vx_mixed.specs.declared.region.Node.{Node}
use Rattle.vx_mixed.specs.declared.mixed.MixedGraph.{MixedGraph}
use Rattle.vx_mixed.specs.FromGraph.{same_edge}
use Rattle.vx_mixed.specs.Next.{Replacement, made_on, trace_node, nodes_from, made_node, made_origin, next_mixed, on_edge}
use Rattle.vx_mixed.specs.Entrances.{edge_of_made}
use Rattle.vx_mixed.specs.declared.region.Region.{Region}

pub and_both : (a b : Bool) → a ≡ true → b ≡ true → (a && b) ≡ true
and_both true b p q = q
and_both false b p q = absurd (cc)

-- edges

edge_is : (e f : Edge) → e.from ≡ f.from → e.to ≡ f.to → e ≡ f
edge_is e f p q = ap (λ z. edge z e.to) p ∙ ap (λ z. edge f.from z) q

pub same_is : (e f : Edge) → same_edge e f ≡ true → e ≡ f
same_is e f h = let p = and_parts (e.from == f.from) (e.to == f.to) h in edge_is e f (eqb-true e.from f.from p.0) (eqb-true e.to f.to p.1)

pub is_same_edge : (e f : Edge) → e ≡ f → same_edge e f ≡ true
is_same_edge e f h = and_both (e.from == f.from) (e.to == f.to) (eq-eqb e.from f.from (ap (λ (z : Edge). z.from) h)) (eq-eqb e.to f.to (ap (λ (z : Edge). z.to) h))

pub edges_or : (e f : Edge) → (e ≡ f) ⊎ (same_edge e f ≡ false)
edges_or e f = ⊎_elim (λ h. inl (same_is e f h)) (λ h. inr h) (cases_Bool (same_edge e f))

-- made blocks

pub record MadeOn (n : ℕ) (made : List Made) (e : Edge) (c : ℕ) : Type 0 where
  pub index : ℕ
  pub item : Made
  pub number : c ≡ n + index
  pub has : slice_get made index ≡ Some item
  pub where_ : item.edge ≡ e
  pub ops : on_edge made e ≡ item.ops

pub made_none : (n : ℕ) (made : List Made) (e : Edge) → made_on n made e ≡ None → on_edge made e ≡ []
made_none n [] e h = refl
made_none n (x ∷ xs) e h = by (same_edge x.edge e) h (made_none (n + 1) xs e)
  where
    by : (b : Bool) → (if b then Some n else made_on (n + 1) xs e) ≡ None → (made_on (n + 1) xs e ≡ None → on_edge xs e ≡ []) → (if b then x.ops else on_edge xs e) ≡ []
    by true q f = absurd (cc)
    by false q f = f q

pub made_some : (n : ℕ) (made : List Made) (e : Edge) (c : ℕ) → made_on n made e ≡ Some c → MadeOn n made e c
made_some n [] e c h = absurd (cc)
made_some n (x ∷ xs) e c h =
    ⊎_elim
    (λ t. let q : Some n ≡ Some c = sym (ap (λ b. if b then Some n else made_on (n + 1) xs e) t) ∙ h in
    let z : n ≡ n + 0 = omega arith in
    let qn : c ≡ n = cc in
    record { index = 0; item = x; number = qn ∙ z; has = refl; where_ = same_is x.edge e t; ops = ap (λ b. if b then x.ops else on_edge xs e) t })
    (λ f. let rest = made_some (n + 1) xs e c (sym (ap (λ b. if b then Some n else made_on (n + 1) xs e) f) ∙ h) in
    let w : n + 1 + rest.index ≡ n + suc rest.index = omega arith in
    record { index = suc rest.index; item = rest.item; number = rest.number ∙ w; has = rest.has; where_ = rest.where_; ops = ap (λ b. if b then x.ops else on_edge xs e) f ∙ rest.ops })
    (cases_Bool (same_edge x.edge e))

pub made_here : (n : ℕ) (made : List Made) (i : ℕ) (x : Made) → slice_get made i ≡ Some x → (c : ℕ) × (made_on n made x.edge ≡ Some c)
made_here n [] i x h = absurd (cc)
made_here n (y ∷ ys) zero x h = let q : y ≡ x = cc in (n, ap (λ b. if b then Some n else made_on (n + 1) ys x.edge) (is_same_edge y.edge x.edge (ap (λ (z : Made). z.edge) q)))
made_here n (y ∷ ys) (suc i) x h = let r = made_here (n + 1) ys i x h in by (same_edge y.edge x.edge) r
  where
    by : (b : Bool) → (c : ℕ) × (made_on (n + 1) ys x.edge ≡ Some c) → (c : ℕ) × ((if b then Some n else made_on (n + 1) ys x.edge) ≡ Some c)
    by true q = (n, refl)
    by false q = q

pub edge_made : (n : ℕ) (made : List Made) (i : ℕ) (x : Made) → slice_get made i ≡ Some x → edge_of_made n made (n + i) ≡ Some x.edge
edge_made n made i x h =
    let z : n + i - n ≡ i = omega arith in
    ap (λ b. if b then None else option_map (λ (y : Made). y.edge) (slice_get made (n + i - n))) (le-ltb (n + i) n (omega arith))
    ∙ ap (λ k. option_map (λ (y : Made). y.edge) (slice_get made k)) z
    ∙ ap (option_map (λ (y : Made). y.edge)) h

pub edge_old : (n : ℕ) (made : List Made) (b : ℕ) → b < n → edge_of_made n made b ≡ None
edge_old n made b lt = ap (λ t. if t then None else option_map (λ (y : Made). y.edge) (slice_get made (b - n))) (lt-ltb b n lt)

-- lists one behind the other

pub front_get : {A : Type 0} (xs ys : List A) (b : ℕ) (x : A) → slice_get xs b ≡ Some x → slice_get (xs ++ ys) b ≡ Some x
front_get [] ys b x h = absurd (cc)
front_get (y ∷ xs) ys zero x h = h
front_get (y ∷ xs) ys (suc b) x h = front_get xs ys b x h

pub back_get : {A : Type 0} (xs ys : List A) (i : ℕ) → slice_get (xs ++ ys) (length xs + i) ≡ slice_get ys i
back_get [] ys i = let z : 0 + i ≡ i = omega arith in ap (slice_get ys) z
back_get (x ∷ xs) ys i = let z : suc (length xs) + i ≡ suc (length xs + i) = omega arith in ap (slice_get (x ∷ (xs ++ ys))) z ∙ back_get xs ys i

pub front_or_back : {A : Type 0} (xs ys : List A) (b : ℕ) (x : A) → slice_get (xs ++ ys) b ≡ Some x → (slice_get xs b ≡ Some x) ⊎ ((i : ℕ) × (b ≡ length xs + i) × (slice_get ys i ≡ Some x))
front_or_back [] ys b x h = let z : b ≡ 0 + b = omega arith in inr (b, z, h)
front_or_back (y ∷ xs) ys zero x h = inl h
front_or_back (y ∷ xs) ys (suc b) x h = ⊎_elim (λ a. inl a) (λ a. let e = a.1 in inr (a.0, (let z : suc b ≡ suc (length xs) + a.0 = omega arith in z), a.2)) (front_or_back xs ys b x h)

pub map_get : {A B : Type 0} (f : A → B) (xs : List A) (i : ℕ) (x : A) → slice_get xs i ≡ Some x → slice_get (map f xs) i ≡ Some (f x)
map_get f [] i x h = absurd (cc)
map_get f (y ∷ xs) zero x h = let q : y ≡ x = cc in ap (λ z. Some (f z)) q
map_get f (y ∷ xs) (suc i) x h = map_get f xs i x h

pub map_back : {A B : Type 0} (f : A → B) (xs : List A) (i : ℕ) (y : B) → slice_get (map f xs) i ≡ Some y → (x : A) × (slice_get xs i ≡ Some x) × (y ≡ f x)
map_back f [] i y h = absurd (cc)
map_back f (x ∷ xs) zero y h = (x, refl, cc)
map_back f (x ∷ xs) (suc i) y h = map_back f xs i y h

-- nodes

pub nodes_length : (m : MixedGraph) (r : Replacement) (b : ℕ) (nodes : List Node) → length (nodes_from m r b nodes) ≡ length nodes
nodes_length m r b [] = refl
nodes_length m r b (k ∷ nodes) = ap suc (nodes_length m r (b + 1) nodes)

nodes_get : (m : MixedGraph) (r : Replacement) (n b : ℕ) (nodes : List Node) (k : Node) → slice_get nodes b ≡ Some k → slice_get (nodes_from m r n nodes) b ≡ Some (trace_node m r r.trace.blocks (n + b) k)
nodes_get m r n b [] k h = absurd (cc)
nodes_get m r n zero (x ∷ nodes) k h = let q : x ≡ k = cc in let z : n ≡ n + 0 = omega arith in ap (λ y. Some (trace_node m r r.trace.blocks n y)) q ∙ ap (λ y. Some (trace_node m r r.trace.blocks y k)) z
nodes_get m r n (suc b) (x ∷ nodes) k h = let z : n + 1 + b ≡ n + suc b = omega arith in nodes_get m r (n + 1) b nodes k h ∙ ap (λ y. Some (trace_node m r r.trace.blocks y k)) z

nodes_back : (m : MixedGraph) (r : Replacement) (n b : ℕ) (nodes : List Node) (k : Node) → slice_get (nodes_from m r n nodes) b ≡ Some k → (o : Node) × (slice_get nodes b ≡ Some o) × (k ≡ trace_node m r r.trace.blocks (n + b) o)
nodes_back m r n b [] k h = absurd (cc)
nodes_back m r n zero (x ∷ nodes) k h = let z : n ≡ n + 0 = omega arith in let q : trace_node m r r.trace.blocks n x ≡ k = cc in (x, refl, sym q ∙ ap (λ y. trace_node m r r.trace.blocks y x) z)
nodes_back m r n (suc b) (x ∷ nodes) k h = let z : n + 1 + b ≡ n + suc b = omega arith in let o = nodes_back m r (n + 1) b nodes k h in (o.0, o.1, o.2 ∙ ap (λ y. trace_node m r r.trace.blocks y o.0) z)

module _ (m : MixedGraph) (r : Replacement) where
  abbrev New : MixedGraph
  New = next_mixed m r

  pub node_old : (b : ℕ) (k : Node) → slice_get m.nodes b ≡ Some k → slice_get New.nodes b ≡ Some (trace_node m r r.trace.blocks b k)
  node_old b k h = let z : 0 + b ≡ b = omega arith in front_get (nodes_from m r 0 m.nodes) (map made_node r.made) b (trace_node m r r.trace.blocks b k) (nodes_get m r 0 b m.nodes k h ∙ ap (λ y. Some (trace_node m r r.trace.blocks y k)) z)

  pub node_made : (i : ℕ) (x : Made) → slice_get r.made i ≡ Some x → slice_get New.nodes (length m.nodes + i) ≡ Some (made_node x)
  node_made i x h =
      ap (λ z. slice_get New.nodes (z + i)) (sym (nodes_length m r 0 m.nodes)) ∙ back_get (nodes_from m r 0 m.nodes) (map made_node r.made) i ∙ map_get made_node r.made i x h

  pub node_new : (b : ℕ) (k : Node) → slice_get New.nodes b ≡ Some k → ((o : Node) × (slice_get m.nodes b ≡ Some o) × (k ≡ trace_node m r r.trace.blocks b o)) ⊎ ((i : ℕ) × (x : Made) × (b ≡ length m.nodes + i) × (slice_get r.made i ≡ Some x) × (k ≡ made_node x))
  node_new b k h =
      let z : 0 + b ≡ b = omega arith in
      ⊎_elim
      (λ a. let o = nodes_back m r 0 b m.nodes k a in inl (o.0, o.1, o.2 ∙ ap (λ y. trace_node m r r.trace.blocks y o.0) z))
      (λ a. let o = map_back made_node r.made a.0 k a.2 in inr (a.0, o.0, a.1 ∙ ap (λ y. y + a.0) (nodes_length m r 0 m.nodes), o.1, o.2))
      (front_or_back (nodes_from m r 0 m.nodes) (map made_node r.made) b k h)

  get_at : {A : Type 0} (xs : List A) (b : ℕ) → b < length xs → (x : A) × (slice_get xs b ≡ Some x)
  get_at [] b lt = absurd (omega arith)
  get_at (x ∷ xs) zero lt = (x, refl)
  get_at (x ∷ xs) (suc b) lt = get_at xs b (omega arith)

  pub origin_old : (b : ℕ) → b < length m.origins → slice_get New.origins b ≡ slice_get m.origins b
  origin_old b lt = let x = get_at m.origins b lt in front_get m.origins (map (made_origin r.trace.ops) r.made) b x.0 x.1 ∙ sym x.1

  pub origin_made : (i : ℕ) (x : Made) → length m.origins ≡ length m.nodes → slice_get r.made i ≡ Some x → slice_get New.origins (length m.nodes + i) ≡ Some (made_origin r.trace.ops x)
  origin_made i x e h = ap (λ z. slice_get New.origins (z + i)) (sym e) ∙ back_get m.origins (map (made_origin r.trace.ops) r.made) i ∙ map_get (made_origin r.trace.ops) r.made i x h

-- one of the old regions, or the last one
pub of_regions : (f : Region → Region) (gs : List Region) (g g' : Region) (q : ℕ) → slice_get (map f gs ++ g ∷ []) q ≡ Some g' → ((o : Region) × (slice_get gs q ≡ Some o) × (g' ≡ f o)) ⊎ (g' ≡ g)
of_regions f [] g g' zero e = inr cc
of_regions f [] g g' (suc q) e = absurd (cc)
of_regions f (o ∷ gs) g g' zero e = inl (o, refl, cc)
of_regions f (o ∷ gs) g g' (suc q) e = of_regions f gs g g' q e
