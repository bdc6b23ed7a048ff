-- The clustered trace is laid down piece by piece; what is left makes the rest of it.
use Rattle.std.proofs.Common.{◌≡◌, ◌<◌, ◌≤◌, ◌+◌, ◌-◌, min, refl, sym, ◌∙◌, ap, arith, subst, ℕ, zero, suc, Option, Some, None, List, [], ◌∷◌, ◌++◌, length, map, take, drop, slice_get, slice_index_or, get_or}
use Rattle.std.proofs.lemmas.List.{append_assoc, map-append, length-append, length-map, append-nil, drop_more, drop_all, take_min}
use Rattle.std.proofs.lemmas.Option.{slice_get_within, get_or_from_slice_get}
use Rattle.vx_flow.specs.declared.graph.Array.{Array}
use Rattle.vx_flow.specs.declared.trace.TraceOp.{TraceOp}
use Rattle.vx_flow.specs.declared.trace.Join.{Join}
use Rattle.vx_flow.specs.declared.trace.Trace.{Trace}
use Rattle.vx_flow.specs.declared.trace.Clustered.{Clustered}
use Rattle.vx_dep.specs.Delays.{Stands}
use Rattle.vx_bug.specs.declared.cluster_copies.Standings.{Standings}
use Rattle.vx_bug.specs.declared.served.Served.{Served}
use Rattle.vx_bug.specs.Copies.{Standing, with_its_copies, served_behind, pieces_from, pieces_of, joined, moved_join, with_copies}
use Rattle.vx_bug.specs.Laying.{Adds, starts_of, served_at, IsLaidOne, AreLaid, start_in}

-- what is left

abbrev pub rest_at : Trace → (homes : ℕ → Option ℕ) → (chosen : List ℕ) → (i : ℕ) → List Served → List (List Standing)
rest_at t homes chosen i served = pieces_from t homes i served (drop i t.ops) (drop i chosen) (drop i t.fixed)

pub rest_more : (t : Trace) (homes : ℕ → Option ℕ) (chosen : List ℕ) (i : ℕ) (served : List Served) (op : TraceOp) → length chosen ≡ length t.ops → length t.fixed ≡ length t.ops → Stands t i op →
    rest_at t homes chosen i served ≡ with_its_copies t.values homes (served_at t i served) op (slice_index_or chosen i 0) (slice_index_or t.fixed i None)
    ∷ rest_at t homes chosen (i + 1) (served_behind homes (served_at t i served) op (slice_index_or chosen i 0) (slice_index_or t.fixed i None))
rest_more t homes chosen i served op p q s =
    let inside : i < length t.ops = slice_get_within t.ops i op s in
    let inside_chosen : i < length chosen = omega (arith, inside, p) in
    let inside_fixed : i < length t.fixed = omega (arith, inside, q) in
    let there : get_or t.ops i op ≡ op = get_or_from_slice_get t.ops i op op s in
    ap (λ x. pieces_from t homes i served x (drop i chosen) (drop i t.fixed)) (drop_more t.ops i op inside ∙ ap (λ x. x ∷ drop (i + 1) t.ops) there)
    ∙ ap (λ x. pieces_from t homes i served (op ∷ drop (i + 1) t.ops) x (drop i t.fixed)) (drop_more chosen i 0 inside_chosen)
    ∙ ap (λ x. pieces_from t homes i served (op ∷ drop (i + 1) t.ops) (get_or chosen i 0 ∷ drop (i + 1) chosen) x) (drop_more t.fixed i None inside_fixed)

pub rest_none : (t : Trace) (homes : ℕ → Option ℕ) (chosen : List ℕ) (i : ℕ) (served : List Served) → length t.ops ≤ i → rest_at t homes chosen i served ≡ []
rest_none t homes chosen i served h = ap (λ x. pieces_from t homes i served x (drop i chosen) (drop i t.fixed)) (drop_all i t.ops h)

-- laying down

pub record Laying (pieces rest : List (List Standing)) (out : Standings) (starts : List ℕ) : Type 0 where
  pub ops : out.ops ++ map (λ (s : Standing). s.op) (joined rest) ≡ map (λ (s : Standing). s.op) (joined pieces)
  pub clusters : out.clusters ++ map (λ (s : Standing). s.cluster) (joined rest) ≡ map (λ (s : Standing). s.cluster) (joined pieces)
  pub fixed : out.fixed ++ map (λ (s : Standing). s.fixed) (joined rest) ≡ map (λ (s : Standing). s.fixed) (joined pieces)
  pub begins : starts ++ starts_of (length out.ops) rest ≡ starts_of 0 pieces

pub none_laid : (pieces : List (List Standing)) (out : Standings) (starts : List ℕ) → out ≡ record { ops = []; clusters = []; fixed = [] } → starts ≡ [] → Laying pieces pieces out starts
none_laid pieces out starts e f = record {
  ops = ap (λ (o : Standings). o.ops ++ map (λ (s : Standing). s.op) (joined pieces)) e;
  clusters = ap (λ (o : Standings). o.clusters ++ map (λ (s : Standing). s.cluster) (joined pieces)) e;
  fixed = ap (λ (o : Standings). o.fixed ++ map (λ (s : Standing). s.fixed) (joined pieces)) e;
  begins = ap (λ x. x ++ starts_of (length out.ops) pieces) f ∙ ap (λ (o : Standings). starts_of (length o.ops) pieces) e;
}

pub one_laid : (pieces rest : List (List Standing)) (piece : List Standing) (out new : Standings) (starts : List ℕ) → Laying pieces (piece ∷ rest) out starts → Adds out new piece → Laying pieces rest new (starts ++ length out.ops ∷ [])
one_laid pieces rest piece out new starts l a = record {
  ops = push (λ (s : Standing). s.op) out.ops new.ops a.ops ∙ l.ops;
  clusters = push (λ (s : Standing). s.cluster) out.clusters new.clusters a.clusters ∙ l.clusters;
  fixed = push (λ (s : Standing). s.fixed) out.fixed new.fixed a.fixed ∙ l.fixed;
  begins =
      let long : length new.ops ≡ length out.ops + length piece = ap length a.ops ∙ length-append out.ops (map (λ (s : Standing). s.op) piece) ∙ ap (λ n. length out.ops + n) (length-map piece (λ (s : Standing). s.op)) in
      append_assoc starts (length out.ops ∷ []) (starts_of (length new.ops) rest) ∙ ap (λ n. starts ++ (length out.ops ∷ starts_of n rest)) long ∙ l.begins;
}
  where
    push : {A : Type 0} (f : Standing → A) (old new : List A) → new ≡ old ++ map f piece → new ++ map f (joined rest) ≡ old ++ map f (joined (piece ∷ rest))
    push f old new e = ap (λ x. x ++ map f (joined rest)) e ∙ append_assoc old (map f piece) (map f (joined rest)) ∙ ap (λ x. old ++ x) (sym (map-append f piece (joined rest)))

pub all_laid : (pieces rest : List (List Standing)) (out : Standings) (starts all : List ℕ) → Laying pieces rest out starts → rest ≡ [] → all ≡ starts ++ length out.ops ∷ [] → AreLaid pieces out all
all_laid pieces rest out starts all l e f = record {
  ops = sym (append-nil out.ops) ∙ ap (λ x. out.ops ++ map (λ (s : Standing). s.op) (joined x)) (sym e) ∙ l.ops;
  clusters = sym (append-nil out.clusters) ∙ ap (λ x. out.clusters ++ map (λ (s : Standing). s.cluster) (joined x)) (sym e) ∙ l.clusters;
  fixed = sym (append-nil out.fixed) ∙ ap (λ x. out.fixed ++ map (λ (s : Standing). s.fixed) (joined x)) (sym e) ∙ l.fixed;
  begins = f ∙ ap (λ x. starts ++ starts_of (length out.ops) x) (sym e) ∙ l.begins;
}

pub step_laid : (t : Trace) (homes : ℕ → Option ℕ) (chosen : List ℕ) (i : ℕ) (served behind : List Served) (out new : Standings) (starts more : List ℕ) → i < length t.ops → length chosen ≡ length t.ops → length t.fixed ≡ length t.ops →
    Laying (pieces_of t homes chosen) (rest_at t homes chosen i served) out starts → IsLaidOne t homes chosen i served behind out new → more ≡ starts ++ length out.ops ∷ [] →
    Laying (pieces_of t homes chosen) (rest_at t homes chosen (i + 1) behind) new more
step_laid t homes chosen i served behind out new starts more h p q l one e = by (slice_get t.ops i) refl
  where
    inside : slice_get t.ops i ≡ None → ⊥
    inside f = none t.ops i h f
      where
        none : {A : Type 0} (xs : List A) (k : ℕ) → k < length xs → slice_get xs k ≡ None → ⊥
        none [] k h f = omega (arith, h)
        none (x ∷ xs) zero h f = cc
        none (x ∷ xs) (suc k) h f = none xs k (omega (arith, h)) f

    by : (o : Option TraceOp) → slice_get t.ops i ≡ o → Laying (pieces_of t homes chosen) (rest_at t homes chosen (i + 1) behind) new more
    by None f = absurd (inside f)
    by (Some op) f =
        let piece : List Standing = with_its_copies t.values homes (served_at t i served) op (slice_index_or chosen i 0) (slice_index_or t.fixed i None) in
        let serving : List Served = served_behind homes (served_at t i served) op (slice_index_or chosen i 0) (slice_index_or t.fixed i None) in
        let so_far : Laying (pieces_of t homes chosen) (piece ∷ rest_at t homes chosen (i + 1) serving) out starts = subst (λ r. Laying (pieces_of t homes chosen) r out starts) (rest_more t homes chosen i served op p q f) l in
        subst (λ s. Laying (pieces_of t homes chosen) (rest_at t homes chosen (i + 1) s) new more) (sym (one.serves op f))
        (subst (λ s. Laying (pieces_of t homes chosen) (rest_at t homes chosen (i + 1) serving) new s) (sym e)
        (one_laid (pieces_of t homes chosen) (rest_at t homes chosen (i + 1) serving) piece out new starts so_far (one.adds op f)))

pub end_laid : (t : Trace) (homes : ℕ → Option ℕ) (chosen : List ℕ) (i : ℕ) (served : List Served) (out : Standings) (starts all : List ℕ) → length t.ops ≤ i →
    Laying (pieces_of t homes chosen) (rest_at t homes chosen i served) out starts → all ≡ starts ++ length out.ops ∷ [] → AreLaid (pieces_of t homes chosen) out all
end_laid t homes chosen i served out starts all h l e = all_laid (pieces_of t homes chosen) (rest_at t homes chosen i served) out starts all l (rest_none t homes chosen i served h) e

-- joins

starts_long : (n : ℕ) (pieces : List (List Standing)) → length (starts_of n pieces) ≡ suc (length pieces)
starts_long n [] = refl
starts_long n (piece ∷ pieces) = ap suc (starts_long (n + length piece) pieces)

start_is : (n : ℕ) (pieces : List (List Standing)) (k : ℕ) → k ≤ length pieces → slice_index_or (starts_of n pieces) k 0 ≡ n + length (joined (take k pieces))
start_is n [] zero h = let e : n ≡ n + 0 = omega arith in e
start_is n [] (suc k) h = absurd (omega (arith, h))
start_is n (piece ∷ pieces) zero h = let e : n ≡ n + 0 = omega arith in e
start_is n (piece ∷ pieces) (suc k) h =
    let l : k ≤ length pieces = omega (arith, h) in
    let e : length (piece ++ joined (take k pieces)) ≡ length piece + length (joined (take k pieces)) = length-append piece (joined (take k pieces)) in
    let s : n + length piece + length (joined (take k pieces)) ≡ n + length (piece ++ joined (take k pieces)) = omega (arith, e) in
    start_is (n + length piece) pieces k l ∙ s

start_of_place : (pieces : List (List Standing)) (place : ℕ) → start_in (starts_of 0 pieces) place ≡ length (joined (take place pieces))
start_of_place pieces place =
    let long = starts_long 0 pieces in
    let e : min (length (starts_of 0 pieces) - 1) place ≡ min place (length pieces) = omega (arith, long) in
    let l : min place (length pieces) ≤ length pieces = omega arith in
    let z : 0 + length (joined (take (min place (length pieces)) pieces)) ≡ length (joined (take (min place (length pieces)) pieces)) = omega arith in
    ap (λ k. slice_index_or (starts_of 0 pieces) k 0) e ∙ start_is 0 pieces (min place (length pieces)) l ∙ z ∙ ap (λ x. length (joined x)) (take_min place pieces)

moved_by : (pieces : List (List Standing)) (joins : List Join) → map (λ (join : Join). let j : Join = record join { place = start_in (starts_of 0 pieces) join.place } in j) joins ≡ map (moved_join pieces) joins
moved_by pieces [] = refl
moved_by pieces (join ∷ joins) =
    ap (λ n. (let j : Join = record join { place = n } in j) ∷ map (λ (join : Join). let j : Join = record join { place = start_in (starts_of 0 pieces) join.place } in j) joins) (start_of_place pieces join.place)
    ∙ ap (λ x. moved_join pieces join ∷ x) (moved_by pieces joins)

pub moved_are : (pieces : List (List Standing)) (out : Standings) (starts : List ℕ) (joins : List Join) → AreLaid pieces out starts → map (λ (join : Join). let j : Join = record join { place = start_in starts join.place } in j) joins ≡ map (moved_join pieces) joins
moved_are pieces out starts joins l = ap (λ s. map (λ (join : Join). let j : Join = record join { place = start_in s join.place } in j) joins) l.begins ∙ moved_by pieces joins

pub moved_told : (starts given : List ℕ) (joins given_joins moved : List Join) → given ≡ starts → given_joins ≡ joins → moved ≡ map (λ (join : Join). let j : Join = record join { place = start_in given join.place } in j) given_joins →
    moved ≡ map (λ (join : Join). let j : Join = record join { place = start_in starts join.place } in j) joins
moved_told starts given joins given_joins moved s g e =
    e ∙ ap (λ x. map (λ (join : Join). let j : Join = record join { place = start_in x join.place } in j) given_joins) s
    ∙ ap (map (λ (join : Join). let j : Join = record join { place = start_in starts join.place } in j)) g

abbrev made : Trace → List ℕ → List Array → List TraceOp → List (Option ℕ) → List Join → List ℕ → Clustered
made t blocks arrays ops fixed joins clusters = record {
  trace = record { function = t.function; blocks = blocks; ops = ops; fixed = fixed; joins = joins; values = t.values; arrays = arrays };
  clusters = clusters;
}

pub whole : (t : Trace) (homes : ℕ → Option ℕ) (chosen : List ℕ) (blocks : List ℕ) (arrays : List Array) (out : Standings) (starts : List ℕ) (moved : List Join) → blocks ≡ t.blocks → arrays ≡ t.arrays →
    AreLaid (pieces_of t homes chosen) out starts → moved ≡ map (λ (join : Join). let j : Join = record join { place = start_in starts join.place } in j) t.joins →
    made t blocks arrays out.ops out.fixed moved out.clusters ≡ with_copies t homes chosen
whole t homes chosen blocks arrays out starts moved b a l e =
    let pieces : List (List Standing) = pieces_of t homes chosen in
    ap (λ x. made t x arrays out.ops out.fixed moved out.clusters) b
    ∙ ap (λ x. made t t.blocks x out.ops out.fixed moved out.clusters) a
    ∙ ap (λ x. made t t.blocks t.arrays x out.fixed moved out.clusters) l.ops
    ∙ ap (λ x. made t t.blocks t.arrays (map (λ (s : Standing). s.op) (joined pieces)) x moved out.clusters) l.fixed
    ∙ ap (λ x. made t t.blocks t.arrays (map (λ (s : Standing). s.op) (joined pieces)) (map (λ (s : Standing). s.fixed) (joined pieces)) x out.clusters) (e ∙ moved_are pieces out starts t.joins l)
    ∙ ap (λ x. made t t.blocks t.arrays (map (λ (s : Standing). s.op) (joined pieces)) (map (λ (s : Standing). s.fixed) (joined pieces)) (map (moved_join pieces) t.joins) x) l.clusters
