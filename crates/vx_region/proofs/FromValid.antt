-- The traces of a valid and tidy graph are as the copies law asks.
use Rattle.std.proofs.Common.{◌≡◌, ◌⊎◌, inl, inr, ⊎_elim, refl, sym, ◌∙◌, ap, subst, arith, Bool, true, false, not, ◌&&◌, ◌||◌, ◌==◌, ℕ, zero, suc, ◌<◌, Option, Some, None, List, [], ◌∷◌, length, slice_get}
use Rattle.std.specs.List.{list_any}
use Rattle.std.proofs.lemmas.Bool.{eqb-true, eq-eqb, and_parts}
use Rattle.vx_flow.specs.declared.graph.Block.{Block}
use Rattle.vx_flow.specs.declared.graph.Edge.{Edge}
use Rattle.vx_flow.specs.declared.graph.Op.{Op}
use Rattle.vx_flow.specs.declared.trace.Trace.{Trace}
use Rattle.vx_flow.specs.declared.trace.TraceOp.TheVariants.{Plain}
use Rattle.vx_flow.specs.Effects.{IsIn, reads, writes}
use Rattle.vx_flow.specs.Sound.{targets_of}
use Rattle.vx_flow.specs.Walk.{edge}
use Rattle.vx_flow.proofs.Members.{in_right}
use Rattle.vx_mixed.specs.declared.region.Origin.{Origin}
use Rattle.vx_mixed.specs.declared.region.Node.TheVariants.{Unused}
use Rattle.vx_mixed.specs.declared.mixed.MixedGraph.{MixedGraph}
use Rattle.vx_mixed.specs.Alive.{AtEnd}
use Rattle.vx_mixed.specs.Edges.{IsEdge, of_block, of_split, of_last}
use Rattle.vx_mixed.specs.FromGraph.{same_edge}
use Rattle.vx_mixed.specs.Next.{last_of, exit_in}
use Rattle.vx_mixed.specs.Settled.{Tidy}
use Rattle.vx_mixed.specs.TraceOf.{block_or_none, block_at, inner_edges, CanTrace, IsTraceOf}
use Rattle.vx_mixed.specs.Valid.{is_in_region, IsOp, block_op, Valid}
use Rattle.vx_mixed.proofs.PathOf.{Ways}
use Rattle.vx_bug.specs.CanAssign.{ValuesAreThere, IsWellFormed}
use Rattle.vx_region.specs.Beside.{IsCopyOf}
use Rattle.vx_region.specs.Ways.{live_in, TracesTidily, AssignedTraceFits}
use Rattle.vx_region.proofs.Fields.{assigned_fits}
use Rattle.vx_region.proofs.Tidied.{NamesTidily, traces_tidily}

-- the edges inside a trace

abbrev pub meets : List ℕ → ℕ → ℕ → Bool
meets blocks b c = not (list_any (λ (e : Edge). same_edge e (edge b c)) (inner_edges blocks))

edge_in : (es : List Edge) (f : Edge) → IsIn f es → list_any (λ (e : Edge). same_edge e f) es ≡ true
edge_in [] f h = absurd h
edge_in (x ∷ xs) f h = ⊎_elim
    (λ q. ap (λ b. b || list_any (λ (e : Edge). same_edge e f) xs) (same x f q))
    (λ i. ap (λ b. same_edge x f || b) (edge_in xs f i) ∙ or_true (same_edge x f)) h
  where
    or_true : (b : Bool) → (b || true) ≡ true
    or_true true = refl
    or_true false = refl

    same : (e g : Edge) → g ≡ e → same_edge e g ≡ true
    same e g q = ap (λ b. b && (e.to == g.to)) (eq-eqb e.from g.from (ap (λ (z : Edge). z.from) (sym q))) ∙ eq-eqb e.to g.to (ap (λ (z : Edge). z.to) (sym q))

in_edges : (es : List Edge) (f : Edge) → list_any (λ (e : Edge). same_edge e f) es ≡ true → IsIn f es
in_edges [] f h = let e : false ≡ true = h in absurd cc
in_edges (x ∷ xs) f h = by (same_edge x f) refl (in_edges xs f)
  where
    by : (b : Bool) → same_edge x f ≡ b → (list_any (λ (e : Edge). same_edge e f) xs ≡ true → IsIn f xs) → IsIn f (x ∷ xs)
    by true q more = let p = and_parts (x.from == f.from) (x.to == f.to) q in
        let y : f.from ≡ x.from = sym (eqb-true x.from f.from p.0) in let z : f.to ≡ x.to = sym (eqb-true x.to f.to p.1) in
        inl (λ i. record { from = y i; to = z i })
    by false q more = inr (more (sym (ap (λ b. b || list_any (λ (e : Edge). same_edge e f) xs) q) ∙ h))

module _ (m : MixedGraph) (valid : Valid m) where
  edge_block : (a b : ℕ) (k : Block) → IsEdge m (edge a b) → slice_get m.nodes a ≡ Some (Unused k) → IsIn b (targets_of k.exit)
  edge_block a b k (of_block {block = o} at t) u = let q : Some (Unused o) ≡ Some (Unused k) = sym at ∙ u in let s : o ≡ k = cc in subst (λ (z : Block). IsIn b (targets_of z.exit)) s t
  edge_block a b k (of_split q j p d y g w at in_word h) u = absurd (let s = valid.splits_from q j p d y (edge a b) g w at in_word h in let z : false ≡ true = sym (ap is_in_region u) ∙ s in cc)
  edge_block a b k (of_last q g at f t) u = absurd (let s = valid.last_from q g at in let z : false ≡ true = sym (ap is_in_region u) ∙ ap (λ y. is_in_region (slice_get m.nodes y)) f ∙ s in cc)

  ways_of : (live : ℕ → List ℕ) (blocks : List ℕ) → CanTrace m blocks → Ways m (meets blocks) live blocks
  ways_of live blocks k = record {
    unused = k.unused;
    parts = λ b x at. (valid.block_parts b x at).0;
    once = k.once;
    follow = λ a b x h at. edge_block a b x (k.follow (edge a b) h) at;
    no_call = λ a b x h at. k.no_call (edge a b) x h at;
    inner = λ a b h. ap not (edge_in (inner_edges blocks) (edge a b) h);
    outer = λ a b x h at t n. by a b n (list_any (λ (e : Edge). same_edge e (edge a b)) (inner_edges blocks)) refl;
  }
    where
      by : (a b : ℕ) → (IsIn (edge a b) (inner_edges blocks) → ⊥) → (c : Bool) → list_any (λ (e : Edge). same_edge e (edge a b)) (inner_edges blocks) ≡ c → not c ≡ true
      by a b n true e = absurd (n (in_edges (inner_edges blocks) (edge a b) e))
      by a b n false e = refl

  -- names

  as_long : {A B : Type 0} (xs : List A) (ys : List B) (i : ℕ) (y : B) → length xs ≡ length ys → slice_get ys i ≡ Some y → (x : A) × (slice_get xs i ≡ Some x)
  as_long xs [] i y e h = absurd cc
  as_long [] (z ∷ zs) i y e h = let g : 0 ≡ suc (length zs) = e in absurd (omega (arith, g))
  as_long (x ∷ xs) (z ∷ zs) zero y e h = (x, refl)
  as_long (x ∷ xs) (z ∷ zs) (suc i) y e h = as_long xs zs i y (let g : suc (length xs) ≡ suc (length zs) = e in omega (arith, g)) h

  names_tidily : (meet : ℕ → ℕ → Bool) (live : ℕ → List ℕ) (c : ℕ) (k : Block) → slice_get m.nodes c ≡ Some (Unused k) →
      ((op : Op) (u : ℕ) → IsOp m op → IsIn u (writes op) → (u < length m.banks) ⊎ IsCopyOf (length m.banks) (Plain op) u) → NamesTidily m meet live c
  names_tidily meet live c k at W = record {
    made = λ origin e. valid.clusters c k origin at e ∙ ap (λ (z : Block). length z.ops) (sym is);
    copies = λ o u i h. W o u (block_op c k at (subst (λ (z : Block). IsIn o z.ops) is i)) h;
    others = λ none o u i h. by none o u (subst (λ (z : Block). IsIn o z.ops) is i) h (as_long m.origins m.nodes c (Unused k) valid.origins at);
  }
    where
      is : block_at m c ≡ k
      is = ap block_or_none at

      by : ((origin : Origin) → slice_get m.origins c ≡ Some (Some origin) → ⊥) → (o : Op) (u : ℕ) → IsIn o k.ops → IsIn u (writes o) → ((x : Option Origin) × (slice_get m.origins c ≡ Some x)) → u < length m.banks
      by none o u i h p = at_origin p.0 p.1
        where
          at_origin : (x : Option Origin) → slice_get m.origins c ≡ Some x → u < length m.banks
          at_origin None e = valid.names c u k at e (inl (o, i, in_right u (reads o) (writes o) h))
          at_origin (Some origin) e = absurd (none origin e)

  pub valid_traces_tidily : (b : ℕ) (bs : List ℕ) (t : Trace) → Tidy m → CanTrace m (b ∷ bs) → IsTraceOf m (b ∷ bs) t →
      ((op : Op) (u : ℕ) → IsOp m op → IsIn u (writes op) → (u < length m.banks) ⊎ IsCopyOf (length m.banks) (Plain op) u) → IsWellFormed t → ValuesAreThere t →
      TracesTidily t (live_in m) (AtEnd m (exit_in (slice_get m.nodes (last_of (b ∷ bs)))))
  valid_traces_tidily b bs t T k is W well there = traces_tidily m (meets (b ∷ bs)) b bs t is (ways_of is.live (b ∷ bs) k) T
      (λ c i. let u = k.unused c i in names_tidily (meets (b ∷ bs)) is.live c u.0 u.1 W) well there

pub assigned_trace_fits : AssignedTraceFits
assigned_trace_fits machine m b bs t homes r valid T W k is well there A =
    assigned_fits machine t homes r m (last_of (b ∷ bs)) (exit_in (slice_get m.nodes (last_of (b ∷ bs)))) (valid_traces_tidily m valid b bs t T k is W well there) A
