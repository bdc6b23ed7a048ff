-- Which values stand on cluster 0 from the start.
use Rattle.std.proofs.Common.{◌≡◌, ℕ, zero, suc, ◌<◌, Bool, true, false, ◌||◌, Option, Some, None, List, [], ◌∷◌, length, take, get_or, slice_index_or, slice_set, refl, sym, ap, ◌∙◌, subst, ⊎_elim, arith, length-set}
use Rattle.std.specs.Prelude.{if◌then◌else◌, replicate}
use Rattle.std.specs.List.{list_any}
use Rattle.std.proofs.lemmas.Bool.{cases_eq, eq-eqb, ne_eqb}
use Rattle.std.proofs.lemmas.List.{get_or-set_same, get_or-set_other}
use Rattle.vx_flow.specs.declared.graph.Block.{Block}
use Rattle.vx_flow.specs.declared.graph.Graph.{Graph}
use Rattle.vx_flow.specs.declared.graph.Op.{Op}
use Rattle.vx_flow.specs.Operands.{binds}
use Rattle.vx_mixed.specs.Settled.{has_home}
use Rattle.vx_mixed.specs.FromGraph.{is_some_of, is_bound, StartHomes, bound_to, bound_in, bound_by}

pub bound_in_more : (ops : List Op) (i : ℕ) (d : Op) (homes : List (Option ℕ)) → i < length ops → bound_in (take (suc i) ops) homes ≡ bound_to (binds (get_or ops i d)) (bound_in (take i ops) homes)
bound_in_more [] i d homes h = absurd (omega arith)
bound_in_more (x ∷ ops) zero d homes h = refl
bound_in_more (x ∷ ops) (suc i) d homes h = bound_in_more ops i d (bound_to (binds x) homes) (omega arith)

pub bound_by_more : (blocks : List Block) (i : ℕ) (block : Block) (homes : List (Option ℕ)) → i < length blocks → block ≡ get_or blocks i block → bound_by (take (suc i) blocks) homes ≡ bound_in block.ops (bound_by (take i blocks) homes)
bound_by_more [] i block homes h e = absurd (omega arith)
bound_by_more (x ∷ blocks) zero block homes h e = ap (λ (z : Block). bound_in z.ops homes) (sym e)
bound_by_more (x ∷ blocks) (suc i) block homes h e = bound_by_more blocks i block (bound_in x.ops homes) (omega arith) e

-- the homes after one binding, or after some of them
record Bound (test : ℕ → Bool) (before after : List (Option ℕ)) : Type 0 where
  size : length after ≡ length before
  homes : (v : ℕ) → v < length before → has_home after v ≡ (if test v then Some 0 else has_home before v)

merge : (a b : Bool) (x y : Option ℕ) → (if b then x else (if a then x else y)) ≡ (if a || b then x else y)
merge true true x y = refl
merge true false x y = refl
merge false b x y = refl

both_bound : (s t : ℕ → Bool) (a b c : List (Option ℕ)) → Bound s a b → Bound t b c → Bound (λ v. s v || t v) a c
both_bound s t a b c h k = record {
  size = k.size ∙ h.size;
  homes = λ v lt. k.homes v (subst (λ n. v < n) (sym h.size) lt) ∙ ap (λ z. if t v then Some 0 else z) (h.homes v lt) ∙ merge (s v) (t v) (Some 0) (has_home a v);
}

one_bound : (o : Option ℕ) (homes : List (Option ℕ)) → Bound (is_some_of o) homes (bound_to o homes)
one_bound None homes = record { size = refl; homes = λ v lt. refl }
one_bound (Some u) homes = record {
  size = length-set homes u (Some 0);
  homes = λ v lt.
      ⊎_elim
      (λ e. ap (λ z. slice_index_or (slice_set homes u (Some 0)) z None) (sym e) ∙ get_or-set_same homes u (Some 0) None (subst (λ z. z < length homes) (sym e) lt) ∙ ap (λ z. if z then Some 0 else has_home homes v) (sym (eq-eqb u v e)))
      (λ n. get_or-set_other homes u v (Some 0) None (λ e. n (sym e)) ∙ ap (λ z. if z then Some 0 else has_home homes v) (sym (ne_eqb u v n)))
      (cases_eq u v);
}

ops_bound : (ops : List Op) (homes : List (Option ℕ)) → Bound (λ v. list_any (λ op. is_some_of (binds op) v) ops) homes (bound_in ops homes)
ops_bound [] homes = record { size = refl; homes = λ v lt. refl }
ops_bound (op ∷ ops) homes = both_bound (is_some_of (binds op)) (λ v. list_any (λ op. is_some_of (binds op) v) ops) homes (bound_to (binds op) homes) (bound_in ops (bound_to (binds op) homes)) (one_bound (binds op) homes) (ops_bound ops (bound_to (binds op) homes))

blocks_bound : (blocks : List Block) (homes : List (Option ℕ)) → Bound (λ v. list_any (λ (block : Block). list_any (λ op. is_some_of (binds op) v) block.ops) blocks) homes (bound_by blocks homes)
blocks_bound [] homes = record { size = refl; homes = λ v lt. refl }
blocks_bound (block ∷ blocks) homes =
    both_bound (λ v. list_any (λ op. is_some_of (binds op) v) block.ops) (λ v. list_any (λ (k : Block). list_any (λ op. is_some_of (binds op) v) k.ops) blocks) homes (bound_in block.ops homes) (bound_by blocks (bound_in block.ops homes))
    (ops_bound block.ops homes) (blocks_bound blocks (bound_in block.ops homes))

none_at : (n v : ℕ) → has_home (replicate n None) v ≡ None
none_at zero v = refl
none_at (suc n) zero = refl
none_at (suc n) (suc v) = none_at n v

abbrev nothing : ℕ → List (Option ℕ)
nothing n = replicate n None

so_many : (n : ℕ) → length (nothing n) ≡ n
so_many zero = refl
so_many (suc n) = ap suc (so_many n)

pub starts_with : (graph : Graph) → StartHomes graph (bound_by graph.blocks (replicate (length graph.banks) None))
starts_with graph =
    let n = length graph.banks in
    let b = blocks_bound graph.blocks (replicate n None) in
    record {
      size = b.size ∙ so_many n;
      homes = λ v lt. b.homes v (subst (λ k. v < k) (sym (so_many n)) lt) ∙ ap (λ z. if is_bound graph v then Some 0 else z) (none_at n v);
    }
