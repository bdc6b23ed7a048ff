-- The copies at the joins of a trace, each edge once.
use Rattle.std.proofs.Common.{◌≡◌, ◌≢◌, ◌⊎◌, inl, inr, ℕ, ◌+◌, Bool, true, false, List, [], ◌∷◌, ◌++◌, length, map, refl, sym, ap, ◌∙◌, subst, arith}
use Rattle.std.specs.Prelude.{◌==◌, ◌&&◌, not, if◌then◌else◌}
use Rattle.std.specs.List.{flat_map, filter}
use Rattle.vx_flow.specs.declared.graph.Edge.{Edge}
use Rattle.vx_flow.specs.declared.graph.Op.{Op}
use Rattle.vx_flow.specs.declared.trace.Join.{Join}
use Rattle.vx_flow.specs.declared.trace.Placed.{Placed}
use Rattle.vx_flow.specs.Effects.{IsIn}
use Rattle.vx_flow.specs.Walk.{edge}
use Rattle.vx_flow.proofs.Members.{in_left, in_right, in_either}
use Rattle.vx_mixed.specs.declared.mixed.MixedGraph.{MixedGraph}
use Rattle.vx_mixed.specs.Edges.{Before, Ascending}
use Rattle.vx_mixed.specs.FromGraph.{same_edge}
use Rattle.vx_mixed.specs.Settled.{NoTwice}
use Rattle.vx_mixed.specs.TraceOf.{block_ops, joined, joins_behind, trace_joins}
use Rattle.vx_mixed.proofs.TraceFacts.{in_filter}
use Rattle.vx_dep.specs.Compensation.{rejoin_of, copies_at_join}
use Rattle.vx_region.specs.Planned.{clusters_at, made_of, placed_at, made_at_joins}
use Rattle.vx_region.proofs.MadeCopies.{Copy, made_all, made_append, Distinct, distinct_append}

-- each edge of a list once
abbrev pub EdgesOnce : List Edge → Type 0
EdgesOnce [] = Unit {0}
EdgesOnce (e ∷ es) = ((f : Edge) → IsIn f es → f ≢ e) × EdgesOnce es

not_before_itself : (e : Edge) → Before e e → ⊥
not_before_itself e (inl lt) = omega (arith, lt)
not_before_itself e (inr (q, lt)) = omega (arith, lt)

pub ascending_once : (es : List Edge) → Ascending es → EdgesOnce es
ascending_once [] up = tt
ascending_once (e ∷ es) up = ((λ f h q. not_before_itself e (subst (Before e) q (up.0 f h))), ascending_once es up.1)

pub filter_once : (p : Edge → Bool) (es : List Edge) → EdgesOnce es → EdgesOnce (filter p es)
filter_once p [] once = tt
filter_once p (e ∷ es) once = by (p e) (filter_once p es once.1)
  where
    by : (b : Bool) → EdgesOnce (filter p es) → EdgesOnce (if b then e ∷ filter p es else filter p es)
    by true more = ((λ f h. once.0 f (in_filter p es f h).0), more)
    by false more = more

module _ (p : Placed) where
  abbrev pub edge_copies : List Op → List ℕ → List Edge → List Copy
  edge_copies ops cs [] = []
  edge_copies ops cs (e ∷ es) = record { edge = e; ops = ops; clusters = cs } ∷ edge_copies ops cs es

  abbrev pub join_ops_at : Join → List Op
  join_ops_at j = placed_at p (copies_at_join p.words j.place)

  abbrev pub join_clusters_at : Join → List ℕ
  join_clusters_at j = clusters_at p.clustered (copies_at_join p.words j.place)

  abbrev pub join_copies : List Join → List Copy
  join_copies [] = []
  join_copies (j ∷ joins) = edge_copies (join_ops_at j) (join_clusters_at j) j.edges ++ join_copies joins

  made_edges : (ops : List Op) (cs : List ℕ) (es : List Edge) → flat_map (λ e. made_of e ops cs) es ≡ made_all (edge_copies ops cs es)
  made_edges ops cs [] = refl
  made_edges ops cs (e ∷ es) = ap (λ z. made_of e ops cs ++ z) (made_edges ops cs es)

  pub made_joins : (joins : List Join) → made_at_joins p joins (map (rejoin_of p.words) joins) ≡ made_all (join_copies joins)
  made_joins [] = refl
  made_joins (j ∷ joins) =
      ap (λ z. z ++ made_at_joins p joins (map (rejoin_of p.words) joins)) (made_edges (join_ops_at j) (join_clusters_at j) j.edges)
      ∙ ap (λ z. made_all (edge_copies (join_ops_at j) (join_clusters_at j) j.edges) ++ z) (made_joins joins)
      ∙ sym (made_append (edge_copies (join_ops_at j) (join_clusters_at j) j.edges) (join_copies joins))

  has_edge : (ops : List Op) (cs : List ℕ) (es : List Edge) (e : Edge) → IsIn e es → IsIn (record { edge = e; ops = ops; clusters = cs }) (edge_copies ops cs es)
  has_edge ops cs [] e h = absurd h
  has_edge ops cs (f ∷ es) e (inl q) = inl (ap (λ (x : Edge). record { edge = x; ops = ops; clusters = cs }) q)
  has_edge ops cs (f ∷ es) e (inr h) = inr (has_edge ops cs es e h)

  pub has_join : (joins : List Join) (j : Join) (e : Edge) → IsIn j joins → IsIn e j.edges → IsIn (record { edge = e; ops = join_ops_at j; clusters = join_clusters_at j }) (join_copies joins)
  has_join [] j e h i = absurd h
  has_join (k ∷ joins) j e (inl q) i =
      in_left (record { edge = e; ops = join_ops_at j; clusters = join_clusters_at j }) (edge_copies (join_ops_at k) (join_clusters_at k) k.edges) (join_copies joins)
      (subst (λ (z : Join). IsIn (record { edge = e; ops = join_ops_at j; clusters = join_clusters_at j }) (edge_copies (join_ops_at z) (join_clusters_at z) z.edges)) q (has_edge (join_ops_at j) (join_clusters_at j) j.edges e i))
  has_join (k ∷ joins) j e (inr h) i = in_right (record { edge = e; ops = join_ops_at j; clusters = join_clusters_at j }) (edge_copies (join_ops_at k) (join_clusters_at k) k.edges) (join_copies joins) (has_join joins j e h i)

  of_edge : (ops : List Op) (cs : List ℕ) (es : List Edge) (x : Copy) → IsIn x (edge_copies ops cs es) → IsIn x.edge es
  of_edge ops cs [] x h = absurd h
  of_edge ops cs (e ∷ es) x (inl q) = inl (ap (λ (z : Copy). z.edge) q)
  of_edge ops cs (e ∷ es) x (inr h) = inr (of_edge ops cs es x h)

  pub of_join : (joins : List Join) (x : Copy) → IsIn x (join_copies joins) → (j : Join) × IsIn j joins × IsIn x.edge j.edges
  of_join [] x h = absurd h
  of_join (j ∷ joins) x h = by (in_either x (edge_copies (join_ops_at j) (join_clusters_at j) j.edges) (join_copies joins) h) (of_join joins x)
    where
      by : IsIn x (edge_copies (join_ops_at j) (join_clusters_at j) j.edges) ⊎ IsIn x (join_copies joins) → (IsIn x (join_copies joins) → (k : Join) × IsIn k joins × IsIn x.edge k.edges) → (k : Join) × IsIn k (j ∷ joins) × IsIn x.edge k.edges
      by (inl a) more = (j, inl refl, of_edge (join_ops_at j) (join_clusters_at j) j.edges x a)
      by (inr b) more = let s = more b in (s.0, inr s.1, s.2)

  distinct_edges : (ops : List Op) (cs : List ℕ) (es : List Edge) → EdgesOnce es → Distinct (edge_copies ops cs es)
  distinct_edges ops cs [] once = tt
  distinct_edges ops cs (e ∷ es) once = ((λ y h. once.0 y.edge (of_edge ops cs es y h)), distinct_edges ops cs es once.1)

  -- each join goes to a block of its own, and the edges of each are one list without repeats
  pub distinct_joins : (joins : List Join) → NoTwice (map (λ (j : Join). j.block) joins) → ((j : Join) → IsIn j joins → EdgesOnce j.edges) → ((j : Join) (e : Edge) → IsIn j joins → IsIn e j.edges → e.to ≡ j.block) → Distinct (join_copies joins)
  distinct_joins [] blocks edges to = tt
  distinct_joins (j ∷ joins) blocks edges to =
      distinct_append (edge_copies (join_ops_at j) (join_clusters_at j) j.edges) (join_copies joins) (distinct_edges (join_ops_at j) (join_clusters_at j) j.edges (edges j (inl refl)))
      (distinct_joins joins blocks.1 (λ k h. edges k (inr h)) (λ k e h i. to k e (inr h) i)) apart
    where
      block_in : (ks : List Join) (k : Join) → IsIn k ks → IsIn k.block (map (λ (j : Join). j.block) ks)
      block_in [] k h = absurd h
      block_in (i ∷ ks) k (inl q) = inl (ap (λ (z : Join). z.block) q)
      block_in (i ∷ ks) k (inr h) = inr (block_in ks k h)

      apart : (x y : Copy) → IsIn x (edge_copies (join_ops_at j) (join_clusters_at j) j.edges) → IsIn y (join_copies joins) → y.edge ≢ x.edge
      apart x y a b q =
          let one = to j x.edge (inl refl) (of_edge (join_ops_at j) (join_clusters_at j) j.edges x a) in
          let s = of_join joins y b in
          let two = to s.0 y.edge (inr s.1) s.2 in
          blocks.0 (subst (λ z. IsIn z (map (λ (k : Join). k.block) joins)) (sym two ∙ ap (λ (e : Edge). e.to) q ∙ one) (block_in joins s.0 s.1))

-- the edges of a join of a trace are some of the graph's edges, each once

module _ (m : MixedGraph) (live : ℕ → List ℕ) (edges : List Edge) where
  joined_once : (place b : ℕ) (es : List Edge) (j : Join) → EdgesOnce es → IsIn j (joined place b es) → EdgesOnce j.edges
  joined_once place b [] j once h = absurd h
  joined_once place b (e ∷ es) j once (inl q) = subst EdgesOnce (sym (ap (λ (z : Join). z.edges) q)) once
  joined_once place b (e ∷ es) j once (inr h) = absurd h

  abbrev Into : ℕ → ℕ → List Edge
  Into before b = filter (λ (e : Edge). (e.to == b) && not (same_edge e (edge before b))) edges

  behind_once : (before place : ℕ) (bs : List ℕ) (j : Join) → EdgesOnce edges → IsIn j (joins_behind m live edges before place bs) → EdgesOnce j.edges
  behind_once before place [] j once h = absurd h
  behind_once before place (b ∷ bs) j once h = by (in_either j (joined place b (Into before b)) (joins_behind m live edges b (place + length (block_ops m live b bs)) bs) h) (behind_once b (place + length (block_ops m live b bs)) bs j once)
    where
      by : IsIn j (joined place b (Into before b)) ⊎ IsIn j (joins_behind m live edges b (place + length (block_ops m live b bs)) bs) → (IsIn j (joins_behind m live edges b (place + length (block_ops m live b bs)) bs) → EdgesOnce j.edges) → EdgesOnce j.edges
      by (inl a) more = joined_once place b (Into before b) j (filter_once (λ (e : Edge). (e.to == b) && not (same_edge e (edge before b))) edges once) a
      by (inr b) more = more b

  pub trace_joins_once : (blocks : List ℕ) (j : Join) → EdgesOnce edges → IsIn j (trace_joins m live edges blocks) → EdgesOnce j.edges
  trace_joins_once [] j once h = absurd h
  trace_joins_once (b ∷ bs) j once h = behind_once b (length (block_ops m live b bs)) bs j once h
