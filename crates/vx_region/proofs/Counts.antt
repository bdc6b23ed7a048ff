-- At most as many blocks are made as copies.
use Rattle.std.proofs.Common.{◌≡◌, inl, inr, ℕ, suc, ◌+◌, ◌*◌, ◌≤◌, Option, Some, None, List, [], ◌∷◌, ◌++◌, length, map, slice_get, refl, ap, ◌∙◌, arith}
use Rattle.std.specs.List.{flat_map}
use Rattle.std.proofs.lemmas.List.{length-append}
use Rattle.std.proofs.Math.Nat.{suc-mul, mul_comm}
use Rattle.vx_flow.specs.declared.graph.Edge.{Edge}
use Rattle.vx_flow.specs.declared.graph.Op.{Op}
use Rattle.vx_flow.specs.declared.trace.TraceOp.{TraceOp}
use Rattle.vx_flow.specs.declared.trace.TraceOp.TheVariants.{Plain as TracePlain, Split as TraceSplit}
use Rattle.vx_flow.specs.declared.trace.Join.{Join}
use Rattle.vx_flow.specs.declared.trace.Placed.{Placed}
use Rattle.vx_flow.specs.Effects.{IsIn}
use Rattle.vx_dep.specs.declared.copies.EdgeCopies.{EdgeCopies}
use Rattle.vx_dep.specs.declared.copies.Rejoin.{Rejoin}
use Rattle.vx_dep.specs.Compensation.{at_splits_of, at_joins_of, is_freed}
use Rattle.vx_region.specs.Planned.{op_of, dismissed_if, placed_at, clusters_at, made_of, made_at_splits, made_at_joins}
use Rattle.vx_region.specs.Growth.{count_splits, count_joins, made_blocks, FewMade}

one_block : (e : Edge) (ops : List Op) (clusters : List ℕ) → length (made_of e ops clusters) ≤ length ops
one_block e [] clusters = omega arith
one_block e (op ∷ ops) clusters = omega arith

-- at most one operation for each place
at_most : (f : ℕ → List Op) → ((i : ℕ) → length (f i) ≤ 1) → (places : List ℕ) → length (flat_map f places) ≤ length places
at_most f h [] = omega arith
at_most f h (i ∷ places) =
    let a = length-append (f i) (flat_map f places) in
    let l = h i in
    let rest = at_most f h places in
    omega (arith, a, l, rest)

one_op : (f : Op → Op) (o : Option TraceOp) → length (map f (op_of o)) ≤ 1
one_op f None = omega arith
one_op f (Some (TracePlain op)) = omega arith
one_op f (Some (TraceSplit p y e live)) = omega arith

one_plain : (o : Option TraceOp) → length (op_of o) ≤ 1
one_plain None = omega arith
one_plain (Some (TracePlain op)) = omega arith
one_plain (Some (TraceSplit p y e live)) = omega arith

-- splits
module _ (p : Placed) where
  few_at_splits : (xs : List EdgeCopies) → length (made_at_splits p xs) ≤ count_splits xs
  few_at_splits [] = omega arith
  few_at_splits (x ∷ xs) =
      let ops : List Op = flat_map (λ i. op_of (slice_get p.clustered.trace.ops i)) x.copies in
      let cs : List ℕ = clusters_at p.clustered x.copies in
      let a : length (made_of x.edge ops cs ++ made_at_splits p xs) ≡ length (made_of x.edge ops cs) + length (made_at_splits p xs) = length-append (made_of x.edge ops cs) (made_at_splits p xs) in
      let b : length (made_of x.edge ops cs) ≤ length ops = one_block x.edge ops cs in
      let c : length ops ≤ length x.copies = at_most (λ i. op_of (slice_get p.clustered.trace.ops i)) (λ i. one_plain (slice_get p.clustered.trace.ops i)) x.copies in
      let rest : length (made_at_splits p xs) ≤ count_splits xs = few_at_splits xs in
      omega (arith, a, b, c, rest)

  -- joins

  few_on_edges : (n : ℕ) (ops : List Op) (cs : List ℕ) → length ops ≤ n → (es : List Edge) → length (flat_map (λ e. made_of e ops cs) es) ≤ length es * n
  few_on_edges n ops cs h [] = omega arith
  few_on_edges n ops cs h (e ∷ es) =
      let a : length (made_of e ops cs ++ flat_map (λ f. made_of f ops cs) es) ≡ length (made_of e ops cs) + length (flat_map (λ f. made_of f ops cs) es) = length-append (made_of e ops cs) (flat_map (λ f. made_of f ops cs) es) in
      let b : length (made_of e ops cs) ≤ length ops = one_block e ops cs in
      let c : suc (length es) * n ≡ length es * n + n = suc-mul (length es) n in
      let rest : length (flat_map (λ f. made_of f ops cs) es) ≤ length es * n = few_on_edges n ops cs h es in
      omega (arith, a, b, c, h, rest)

  few_at_joins : (joins : List Join) (xs : List Rejoin) → length (made_at_joins p joins xs) ≤ count_joins joins xs
  few_at_joins [] xs = omega arith
  few_at_joins (j ∷ joins) [] = omega arith
  few_at_joins (j ∷ joins) (x ∷ xs) =
      let ops : List Op = placed_at p x.copies in
      let cs : List ℕ = clusters_at p.clustered x.copies in
      let a : length (flat_map (λ e. made_of e ops cs) j.edges ++ made_at_joins p joins xs) ≡ length (flat_map (λ e. made_of e ops cs) j.edges) + length (made_at_joins p joins xs) = length-append (flat_map (λ e. made_of e ops cs) j.edges) (made_at_joins p joins xs) in
      let c : length ops ≤ length x.copies = at_most (λ i. map (dismissed_if (is_freed p i)) (op_of (slice_get p.clustered.trace.ops i))) (λ i. one_op (dismissed_if (is_freed p i)) (slice_get p.clustered.trace.ops i)) x.copies in
      let b : length (flat_map (λ e. made_of e ops cs) j.edges) ≤ length j.edges * length x.copies = few_on_edges (length x.copies) ops cs c j.edges in
      let rest : length (made_at_joins p joins xs) ≤ count_joins joins xs = few_at_joins joins xs in
      omega (arith, a, b, rest)

pub few_made : FewMade
few_made p =
    let a : made_blocks p ≡ length (made_at_splits p (at_splits_of p)) + length (made_at_joins p p.clustered.trace.joins (at_joins_of p)) = length-append (made_at_splits p (at_splits_of p)) (made_at_joins p p.clustered.trace.joins (at_joins_of p)) in
    let b : length (made_at_splits p (at_splits_of p)) ≤ count_splits (at_splits_of p) = few_at_splits p (at_splits_of p) in
    let c : length (made_at_joins p p.clustered.trace.joins (at_joins_of p)) ≤ count_joins p.clustered.trace.joins (at_joins_of p) = few_at_joins p p.clustered.trace.joins (at_joins_of p) in
    omega (arith, a, b, c)

-- where all lists are empty there are none

pub no_splits : (xs : List EdgeCopies) → ((x : EdgeCopies) → IsIn x xs → x.copies ≡ []) → count_splits xs ≡ 0
no_splits [] h = refl
no_splits (x ∷ xs) h =
    let e : length x.copies ≡ 0 = ap length (h x (inl refl)) in
    let rest : count_splits xs ≡ 0 = no_splits xs (λ y i. h y (inr i)) in
    omega (arith, e, rest)

pub no_joins : (joins : List Join) (xs : List Rejoin) → ((x : Rejoin) → IsIn x xs → x.copies ≡ []) → count_joins joins xs ≡ 0
no_joins [] xs h = refl
no_joins (j ∷ joins) [] h = refl
no_joins (j ∷ joins) (x ∷ xs) h =
    let e : length x.copies ≡ 0 = ap length (h x (inl refl)) in
    let a : length j.edges * length x.copies ≡ 0 = ap (λ n. length j.edges * n) e ∙ mul_comm (length j.edges) 0 ∙ omega arith in
    let rest : count_joins joins xs ≡ 0 = no_joins joins xs (λ y i. h y (inr i)) in
    omega (arith, a, rest)

pub empty_of : {A : Type 0} (xs : List A) → length xs ≤ 0 → xs ≡ []
empty_of [] h = refl
empty_of (x ∷ xs) h = absurd (omega (arith, h))
