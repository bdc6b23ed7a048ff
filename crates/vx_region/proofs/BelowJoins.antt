-- What stands below a join of a trace.
use Rattle.std.proofs.Common.{◌≡◌, ◌⊎◌, inl, inr, ℕ, suc, ◌+◌, ◌≤◌, List, [], ◌∷◌, ◌++◌, length, drop, sym, ap, ◌∙◌, subst, arith, length-append}
use Rattle.std.specs.Prelude.{◌==◌, ◌&&◌, not, if◌then◌else◌}
use Rattle.std.specs.List.{filter}
use Rattle.std.proofs.lemmas.Bool.{eq-eqb, ne_eqb}
use Rattle.vx_flow.specs.declared.graph.Edge.{Edge}
use Rattle.vx_flow.specs.declared.trace.Join.{Join}
use Rattle.vx_flow.specs.Effects.{IsIn}
use Rattle.vx_flow.specs.Walk.{edge}
use Rattle.vx_flow.proofs.Members.{in_either}
use Rattle.vx_mixed.specs.declared.mixed.MixedGraph.{MixedGraph}
use Rattle.vx_mixed.specs.FromGraph.{same_edge}
use Rattle.vx_mixed.specs.Settled.{NoTwice}
use Rattle.vx_mixed.specs.TraceOf.{block_ops, trace_ops, joined, joins_behind, trace_joins}
use Rattle.vx_motion.specs.Compensation.{blocks_from}

-- what stands below a join is the trace of the blocks from its block on

drop_behind : {A : Type 0} (xs ys : List A) (k : ℕ) → drop (length xs + k) (xs ++ ys) ≡ drop k ys
drop_behind [] ys k = let e : 0 + k ≡ k = omega arith in ap (λ z. drop z ys) e
drop_behind (x ∷ xs) ys k = let e : suc (length xs) + k ≡ suc (length xs + k) = omega arith in ap (λ z. drop z (x ∷ (xs ++ ys))) e ∙ drop_behind xs ys k

module _ (m : MixedGraph) (live : ℕ → List ℕ) (edges : List Edge) where
  pub record Below (place : ℕ) (bs : List ℕ) (j : Join) : Type 0 where
    pub above : ℕ
    pub place_is : j.place ≡ place + above
    pub block : IsIn j.block bs
    pub within : above ≤ length (trace_ops m live bs)
    pub rest : drop above (trace_ops m live bs) ≡ trace_ops m live (blocks_from j.block bs)

  of_joined : (place b : ℕ) (es : List Edge) (j : Join) → IsIn j (joined place b es) → (j.place ≡ place) × (j.block ≡ b)
  of_joined place b [] j h = absurd h
  of_joined place b (e ∷ es) j (inl q) = (ap (λ (z : Join). z.place) q, ap (λ (z : Join). z.block) q)
  of_joined place b (e ∷ es) j (inr h) = absurd h

  from_here : (b c : ℕ) (bs : List ℕ) → c ≡ b → blocks_from b (c ∷ bs) ≡ c ∷ bs
  from_here b c bs e = ap (λ z. if z then c ∷ bs else blocks_from b bs) (eq-eqb c b e)

  from_behind : (b c : ℕ) (bs : List ℕ) → (c ≡ b → ⊥) → blocks_from b (c ∷ bs) ≡ blocks_from b bs
  from_behind b c bs n = ap (λ z. if z then c ∷ bs else blocks_from b bs) (ne_eqb c b n)

  -- one block more in front
  pub below_more : (place b : ℕ) (bs : List ℕ) (j : Join) → NoTwice (b ∷ bs) → Below (place + length (block_ops m live b bs)) bs j → Below place (b ∷ bs) j
  below_more place b bs j once x = record {
    above = length (block_ops m live b bs) + x.above;
    place_is = (let e = x.place_is in omega (arith, e));
    block = inr x.block;
    within = (let e = length-append (block_ops m live b bs) (trace_ops m live bs) in let w = x.within in omega (arith, e, w));
    rest = drop_behind (block_ops m live b bs) (trace_ops m live bs) x.above ∙ x.rest ∙ ap (trace_ops m live) (sym (from_behind j.block b bs (λ e. once.0 (subst (λ z. IsIn z bs) (sym e) x.block))));
  }

  abbrev Into : ℕ → ℕ → List Edge
  Into before b = filter (λ (e : Edge). (e.to == b) && not (same_edge e (edge before b))) edges

  below_joins : (before place : ℕ) (bs : List ℕ) (j : Join) → NoTwice bs → IsIn j (joins_behind m live edges before place bs) → Below place bs j
  below_joins before place [] j once h = absurd h
  below_joins before place (b ∷ bs) j once h = by (in_either j (joined place b (Into before b)) (joins_behind m live edges b (place + length (block_ops m live b bs)) bs) h) (below_joins b (place + length (block_ops m live b bs)) bs j once.1)
    where
      by : IsIn j (joined place b (Into before b)) ⊎ IsIn j (joins_behind m live edges b (place + length (block_ops m live b bs)) bs) → (IsIn j (joins_behind m live edges b (place + length (block_ops m live b bs)) bs) → Below (place + length (block_ops m live b bs)) bs j) → Below place (b ∷ bs) j
      by (inl h) more =
          let f = of_joined place b (Into before b) j h in
          record {
            above = 0;
            place_is = (let e = f.0 in omega (arith, e));
            block = inl f.1;
            within = omega arith;
            rest = ap (trace_ops m live) (sym (from_here j.block b bs (sym f.1)));
          }
      by (inr h) more = below_more place b bs j once (more h)

  pub below_join : (blocks : List ℕ) (j : Join) → NoTwice blocks → IsIn j (trace_joins m live edges blocks) → Below 0 blocks j
  below_join [] j once h = absurd h
  below_join (b ∷ bs) j once h = below_more 0 b bs j once (subst (λ n. Below n bs j) (let e : length (block_ops m live b bs) ≡ 0 + length (block_ops m live b bs) = omega arith in e) (below_joins b (length (block_ops m live b bs)) bs j once.1 h))
