-- The copies at the splits of a trace, each split with an edge of its own.
use Rattle.std.proofs.Common.{◌≡◌, ◌≢◌, inl, inr, ℕ, zero, suc, ◌+◌, Bool, true, false, Some, List, [], ◌∷◌, ◌++◌, map, slice_get, refl, sym, ap, ◌∙◌, subst, arith}
use Rattle.std.specs.Prelude.{◌==◌, if◌then◌else◌}
use Rattle.std.specs.List.{flat_map}
use Rattle.vx_flow.specs.declared.graph.Edge.{Edge}
use Rattle.vx_flow.specs.declared.graph.Exit.{Exit}
use Rattle.vx_flow.specs.declared.graph.Exit.TheVariants.{Goto, Split as Branches, Call, Return, Ends}
use Rattle.vx_flow.specs.declared.graph.Op.{Op}
use Rattle.vx_flow.specs.declared.trace.Clustered.{Clustered}
use Rattle.vx_flow.specs.declared.trace.TraceOp.{TraceOp}
use Rattle.vx_flow.specs.declared.trace.TraceOp.TheVariants.{Plain as TracePlain, Split as TraceSplit}
use Rattle.vx_flow.specs.Effects.{IsIn}
use Rattle.vx_flow.specs.Sound.{targets_of}
use Rattle.vx_flow.specs.Walk.{edge}
use Rattle.vx_mixed.specs.declared.mixed.MixedGraph.{MixedGraph}
use Rattle.vx_mixed.specs.Settled.{NoTwice}
use Rattle.vx_mixed.specs.TraceOf.{block_at, split_between, trace_ops, inner_edges}
use Rattle.vx_mixed.specs.Valid.{PartsWays}
use Rattle.vx_mixed.proofs.PathOf.{from_inside}
use Rattle.vx_mixed.proofs.TraceFacts.{split_fact}
use Rattle.vx_dep.specs.declared.copies.EdgeCopies.{EdgeCopies}
use Rattle.vx_dep.specs.Compensation.{splits_from, copies_at_split}
use Rattle.vx_region.specs.Planned.{ops_at, clusters_at, made_of}
use Rattle.vx_region.proofs.MadeCopies.{Copy, made_all, Distinct}

-- each split has an edge of its own
abbrev pub Once : List TraceOp → Type 0
Once [] = Unit {0}
Once (TracePlain op ∷ ops) = Once ops
Once (TraceSplit p y e live ∷ ops) = ((q : ℕ) (z : Bool) (f : Edge) (l : List ℕ) → IsIn (TraceSplit q z f l) ops → f ≢ e) × Once ops

module _ (words : List ℕ) (c : Clustered) where
  abbrev pub split_copies : ℕ → List TraceOp → List Copy
  split_copies i [] = []
  split_copies i (TracePlain op ∷ ops) = split_copies (i + 1) ops
  split_copies i (TraceSplit p y e live ∷ ops) = record { edge = e; ops = ops_at c.trace.ops (copies_at_split words i); clusters = clusters_at c (copies_at_split words i) } ∷ split_copies (i + 1) ops

  pub made_splits : (i : ℕ) (ops : List TraceOp) → flat_map (λ (x : EdgeCopies). made_of x.edge (ops_at c.trace.ops x.copies) (clusters_at c x.copies)) (splits_from words i ops) ≡ made_all (split_copies i ops)
  made_splits i [] = refl
  made_splits i (TracePlain op ∷ ops) = made_splits (i + 1) ops
  made_splits i (TraceSplit p y e live ∷ ops) = ap (λ z. made_of e (ops_at c.trace.ops (copies_at_split words i)) (clusters_at c (copies_at_split words i)) ++ z) (made_splits (i + 1) ops)

  pub has_split : (i k : ℕ) (ops : List TraceOp) (p : ℕ) (y : Bool) (e : Edge) (live : List ℕ) → slice_get ops k ≡ Some (TraceSplit p y e live) → IsIn (record { edge = e; ops = ops_at c.trace.ops (copies_at_split words (i + k)); clusters = clusters_at c (copies_at_split words (i + k)) }) (split_copies i ops)
  has_split i k [] p y e live h = absurd (cc)
  has_split i zero (TracePlain op ∷ ops) p y e live h = absurd (cc)
  has_split i zero (TraceSplit q z f l ∷ ops) p y e live h =
      let s : f ≡ e = cc in
      let n : i + 0 ≡ i = omega arith in
      inl (ap (λ (x : Edge). record { edge = x; ops = ops_at c.trace.ops (copies_at_split words (i + 0)); clusters = clusters_at c (copies_at_split words (i + 0)) }) (sym s) ∙ ap (λ x. record { edge = f; ops = ops_at c.trace.ops (copies_at_split words x); clusters = clusters_at c (copies_at_split words x) }) n)
  has_split i (suc k) (TracePlain op ∷ ops) p y e live h = let n : i + 1 + k ≡ i + suc k = omega arith in subst (λ x. IsIn (record { edge = e; ops = ops_at c.trace.ops (copies_at_split words x); clusters = clusters_at c (copies_at_split words x) }) (split_copies (i + 1) ops)) n (has_split (i + 1) k ops p y e live h)
  has_split i (suc k) (TraceSplit q z f l ∷ ops) p y e live h = let n : i + 1 + k ≡ i + suc k = omega arith in inr (subst (λ x. IsIn (record { edge = e; ops = ops_at c.trace.ops (copies_at_split words x); clusters = clusters_at c (copies_at_split words x) }) (split_copies (i + 1) ops)) n (has_split (i + 1) k ops p y e live h))

  pub of_split : (i : ℕ) (ops : List TraceOp) (x : Copy) → IsIn x (split_copies i ops) → (p : ℕ) × (y : Bool) × (live : List ℕ) × IsIn (TraceSplit p y x.edge live) ops
  of_split i [] x h = absurd h
  of_split i (TracePlain op ∷ ops) x h = let s = of_split (i + 1) ops x h in (s.0, s.1, s.2, inr s.3)
  of_split i (TraceSplit p y e live ∷ ops) x (inl q) = (p, y, live, inl (ap (λ (z : Copy). TraceSplit p y z.edge live) q))
  of_split i (TraceSplit p y e live ∷ ops) x (inr h) = let s = of_split (i + 1) ops x h in (s.0, s.1, s.2, inr s.3)

  pub distinct_splits : (i : ℕ) (ops : List TraceOp) → Once ops → Distinct (split_copies i ops)
  distinct_splits i [] once = tt
  distinct_splits i (TracePlain op ∷ ops) once = distinct_splits (i + 1) ops once
  distinct_splits i (TraceSplit p y e live ∷ ops) once = ((λ x h. let s = of_split (i + 1) ops x h in once.0 s.0 s.1 x.edge s.2 s.3), distinct_splits (i + 1) ops once.1)

-- so have the splits of a trace, since its blocks are different

once_plain : (ps : List Op) (rest : List TraceOp) → Once rest → Once (map TracePlain ps ++ rest)
once_plain [] rest h = h
once_plain (op ∷ ps) rest h = once_plain ps rest h

join_ops : (xs ys zs : List TraceOp) → (xs ++ ys) ++ zs ≡ xs ++ (ys ++ zs)
join_ops [] ys zs = refl
join_ops (x ∷ xs) ys zs = ap (λ z. x ∷ z) (join_ops xs ys zs)

module _ (m : MixedGraph) (live : ℕ → List ℕ) where
  once_between : (b c : ℕ) (bs : List ℕ) (x : Exit) → Once (trace_ops m live (c ∷ bs)) → ((p : ℕ) (y : Bool) (e : Edge) (l : List ℕ) → IsIn (TraceSplit p y e l) (trace_ops m live (c ∷ bs)) → e.from ≡ b → ⊥) → Once (split_between live b x c ++ trace_ops m live (c ∷ bs))
  once_between b c bs (Goto d) more other = more
  once_between b c bs (Call g arguments result next) more other = more
  once_between b c bs (Return x) more other = more
  once_between b c bs (Ends k) more other = more
  once_between b c bs (Branches p d f) more other = by (d == c)
    where
      by : (z : Bool) → Once ((if z then TraceSplit p false (edge b f) (live f) ∷ [] else TraceSplit p true (edge b d) (live d) ∷ []) ++ trace_ops m live (c ∷ bs))
      by true = ((λ q y e l h s. other q y e l h (ap (λ (w : Edge). w.from) s)), more)
      by false = ((λ q y e l h s. other q y e l h (ap (λ (w : Edge). w.from) s)), more)

  pub once_blocks : (blocks : List ℕ) → NoTwice blocks → ((b : ℕ) → IsIn b blocks → PartsWays (block_at m b).exit) → ((b c : ℕ) → IsIn (edge b c) (inner_edges blocks) → IsIn c (targets_of (block_at m b).exit)) → Once (trace_ops m live blocks)
  once_blocks [] once parts goes = tt
  once_blocks (b ∷ []) once parts goes =
      subst Once (sym (join_ops (map TracePlain (block_at m b).ops) [] [])) (once_plain (block_at m b).ops [] tt)
  once_blocks (b ∷ c ∷ bs) once parts goes =
      subst Once (sym (join_ops (map TracePlain (block_at m b).ops) (split_between live b (block_at m b).exit c) (trace_ops m live (c ∷ bs))))
      (once_plain (block_at m b).ops (split_between live b (block_at m b).exit c ++ trace_ops m live (c ∷ bs))
      (once_between b c bs (block_at m b).exit (once_blocks (c ∷ bs) once.1 (λ z i. parts z (inr i)) (λ z w i. goes z w (inr i))) other))
    where
      other : (p : ℕ) (y : Bool) (e : Edge) (l : List ℕ) → IsIn (TraceSplit p y e l) (trace_ops m live (c ∷ bs)) → e.from ≡ b → ⊥
      other p y e l h q =
          let f = split_fact m live (c ∷ bs) (λ z i. parts z (inr i)) (λ z w i. goes z w (inr i)) p y e l h in
          once.0 (subst (λ z. IsIn z (c ∷ bs)) q (from_inside (c ∷ bs) (edge e.from f.next) f.follows))
