-- What a replacement asks of a clustered trace.
use Rattle.std.proofs.Common.{◌≡◌, ◌⊎◌, inl, inr, ⊎_elim, refl, sym, ◌∙◌, ap, subst, arith, Bool, true, false, if◌then◌else◌, ◌||◌, nat_eq, ℕ, zero, suc, ◌+◌, ◌<◌, ◌≤◌, Option, Some, List, [], ◌∷◌, ◌++◌, length, map, take, drop, slice_get}
use Rattle.std.specs.List.{list_any}
use Rattle.std.proofs.lemmas.Bool.{eq-eqb}
use Rattle.vx_flow.specs.declared.trace.TraceOp.{TraceOp}
use Rattle.vx_flow.specs.declared.graph.Op.TheVariants.{Across}
use Rattle.vx_flow.specs.declared.trace.TraceOp.TheVariants.{Plain, Split}
use Rattle.vx_flow.specs.declared.trace.Join.{Join}
use Rattle.vx_flow.specs.declared.trace.Trace.{Trace}
use Rattle.vx_flow.specs.Effects.{IsIn}
use Rattle.vx_dep.specs.Delays.{writes_of}
use Rattle.vx_mixed.specs.Alive.{AtEnd}
use Rattle.vx_mixed.specs.Way.{Clustered}
use Rattle.vx_mixed.specs.TraceItems.{plain_items, items_of, splits_of}
use Rattle.vx_bug.specs.declared.served.Served.{Served}
use Rattle.vx_bug.specs.Assigned.{last_books}
use Rattle.vx_bug.specs.Copies.{Standing, copy_of, here, renamed_op, reads_copies, served_behind, pieces_from, pieces_of, joined, moved_join, with_copies}
use Rattle.vx_bug.specs.Laying.{served_at}
use Rattle.vx_bug.proofs.Listing.{in_append}
use Rattle.vx_region.specs.Beside.{IsCopyOf, copied_from, CopiesFit}
use Rattle.vx_region.specs.Ways.{live_in, ClusteredFits, ClusteredFitsLaw, AssignedFitsLaw}
use Rattle.vx_region.proofs.CopySteps.{copying, copied_here, op_here}
use Rattle.vx_region.proofs.Runs.{op_of, ops_are, length_two}
use Rattle.vx_region.proofs.Fresh.{renamed_writes}
use Rattle.vx_region.proofs.Hops.{clustered_law}
use Rattle.vx_region.proofs.Premises.{fits}

-- splits

past_copies : (values k : ℕ) (vs : List ℕ) (more : List TraceOp) → splits_of (copying values k vs ++ more) ≡ splits_of more
past_copies values k [] more = refl
past_copies values k (v ∷ vs) more = past_copies values k vs more

split_here : (to : ℕ → ℕ) (op : TraceOp) (b : Bool) (rest ops : List TraceOp) → splits_of rest ≡ splits_of ops → splits_of ((if b then renamed_op to op else op) ∷ rest) ≡ splits_of (op ∷ ops)
split_here to (Plain op) true rest ops e = e
split_here to (Plain op) false rest ops e = e
split_here to (Split p y edge live) true rest ops e = ap (λ z. Split p y edge live ∷ z) e
split_here to (Split p y edge live) false rest ops e = ap (λ z. Split p y edge live ∷ z) e

splits_same : (t : Trace) (homes : ℕ → Option ℕ) (i : ℕ) (served : List Served) (ops : List TraceOp) (chosen : List ℕ) (fixed : List (Option ℕ)) → length fixed ≡ length ops → length chosen ≡ length ops →
    splits_of (map op_of (joined (pieces_from t homes i served ops chosen fixed))) ≡ splits_of ops
splits_same t homes i served [] chosen fixed a b = refl
splits_same t homes i served (op ∷ ops) [] fixed a b = let g : 0 ≡ suc (length ops) = b in absurd (omega (arith, g))
splits_same t homes i served (op ∷ ops) (k ∷ chosen) [] a b = let g : 0 ≡ suc (length ops) = a in absurd (omega (arith, g))
splits_same t homes i served (op ∷ ops) (k ∷ chosen) (f ∷ fixed) a b =
    let now : List Served = served_at t i served in
    let rest : List Standing = joined (pieces_from t homes (i + 1) (served_behind homes now op k f) ops chosen fixed) in
    let a' : length fixed ≡ length ops = (let g : suc (length fixed) ≡ suc (length ops) = a in omega (arith, g)) in
    let b' : length chosen ≡ length ops = (let g : suc (length chosen) ≡ suc (length ops) = b in omega (arith, g)) in
    ap splits_of (ops_are t.values homes now op k f rest) ∙ past_copies t.values k (copied_here homes now op k f) (op_here t.values homes op k f ∷ map op_of rest)
    ∙ split_here (here t.values homes k) op (reads_copies f op) (map op_of rest) ops (splits_same t homes (i + 1) (served_behind homes now op k f) ops chosen fixed a' b')

-- what is written

abbrev Tidily : ℕ → TraceOp → Type 0
Tidily values op = (u : ℕ) → IsIn u (writes_of op) → (u < values) ⊎ IsCopyOf values op u

copies_tidy : (values k : ℕ) (vs : List ℕ) → ((v : ℕ) → IsIn v vs → v < values) → (op : TraceOp) → IsIn op (copying values k vs) → Tidily values op
copies_tidy values k [] small op m = absurd m
copies_tidy values k (v ∷ vs) small op m = ⊎_elim
    (λ q u w. inr (record { value = v; cluster = k; is = q ∙ ap (λ z. Plain (Across z v)) (sym (only u (copy_of values v k) (subst (λ o. IsIn u (writes_of o)) q w))); number = only u (copy_of values v k) (subst (λ o. IsIn u (writes_of o)) q w); below = small v (inl refl) }))
    (λ i. copies_tidy values k vs (λ w j. small w (inr j)) op i) m
  where
    only : (u c : ℕ) → IsIn u (c ∷ []) → u ≡ c
    only u c h = ⊎_elim (λ q. q) (λ n. absurd n) h

renamed_tidy : (values : ℕ) (to : ℕ → ℕ) (op : TraceOp) (b : Bool) → Tidily values op → Tidily values (if b then renamed_op to op else op)
renamed_tidy values to op false h u m = h u m
renamed_tidy values to op true h u m = ⊎_elim (λ l. inl l) (λ c. inr (record { value = c.value; cluster = c.cluster; is = ap (renamed_op to) c.is; number = c.number; below = c.below })) (h u (subst (λ ws. IsIn u ws) (renamed_writes to op) m))

all_tidy : (t : Trace) (homes : ℕ → Option ℕ) (i : ℕ) (served : List Served) (ops : List TraceOp) (chosen : List ℕ) (fixed : List (Option ℕ)) →
    ((j : ℕ) (vs : List ℕ) (v : ℕ) → slice_get (copied_from t homes i served ops chosen fixed) j ≡ Some vs → IsIn v vs → v < t.values) → ((j : ℕ) (op : TraceOp) → slice_get ops j ≡ Some op → Tidily t.values op) →
    (op : TraceOp) → IsIn op (map op_of (joined (pieces_from t homes i served ops chosen fixed))) → Tidily t.values op
all_tidy t homes i served [] chosen fixed small w o m = absurd m
all_tidy t homes i served (op ∷ ops) [] fixed small w o m = absurd m
all_tidy t homes i served (op ∷ ops) (k ∷ chosen) [] small w o m = absurd m
all_tidy t homes i served (op ∷ ops) (k ∷ chosen) (f ∷ fixed) small w o m =
    let now : List Served = served_at t i served in
    let rest : List Standing = joined (pieces_from t homes (i + 1) (served_behind homes now op k f) ops chosen fixed) in
    ⊎_elim
    (λ j. copies_tidy t.values k (copied_here homes now op k f) (λ v n. small 0 (copied_here homes now op k f) v refl n) o j)
    (λ j. ⊎_elim
    (λ q. subst (λ z. Tidily t.values z) (sym q) (renamed_tidy t.values (here t.values homes k) op (reads_copies f op) (w 0 op refl)))
    (λ n. all_tidy t homes (i + 1) (served_behind homes now op k f) ops chosen fixed (λ l vs v e x. small (suc l) vs v e x) (λ l x e. w (suc l) x e) o n) j)
    (in_append o (copying t.values k (copied_here homes now op k f)) (op_here t.values homes op k f ∷ map op_of rest) (subst (λ z. IsIn o z) (ops_are t.values homes now op k f rest) m))

-- joins

pub record Moved (pieces : List (List Standing)) (js : List Join) (j : Join) : Type 0 where
  pub from : Join
  pub is_there : IsIn from js
  pub is : j ≡ moved_join pieces from

pub moved : (pieces : List (List Standing)) (js : List Join) (j : Join) → IsIn j (map (moved_join pieces) js) → Moved pieces js j
moved pieces [] j h = absurd h
moved pieces (x ∷ xs) j h = ⊎_elim (λ q. record { from = x; is_there = inl refl; is = q }) (λ i. let r = moved pieces xs j i in record { from = r.from; is_there = inr r.is_there; is = r.is }) h

same_blocks : (pieces : List (List Standing)) (js : List Join) → map (λ (j : Join). j.block) (map (moved_join pieces) js) ≡ map (λ (j : Join). j.block) js
same_blocks pieces [] = refl
same_blocks pieces (j ∷ js) = ap (λ z. j.block ∷ z) (same_blocks pieces js)

same_edges : (pieces : List (List Standing)) (js : List Join) → map (λ (j : Join). j.edges) (map (moved_join pieces) js) ≡ map (λ (j : Join). j.edges) js
same_edges pieces [] = refl
same_edges pieces (j ∷ js) = ap (λ z. j.edges ∷ z) (same_edges pieces js)

pub joins_there : (js : List Join) (j : Join) → IsIn j js → list_any (λ (x : Join). nat_eq x.place j.place) js ≡ true
joins_there [] j h = absurd h
joins_there (x ∷ xs) j h = ⊎_elim
    (λ q. ap (λ b. b || list_any (λ (z : Join). nat_eq z.place j.place) xs) (eq-eqb x.place j.place (ap (λ (z : Join). z.place) (sym q))))
    (λ i. ap (λ b. nat_eq x.place j.place || b) (joins_there xs j i) ∙ or_true (nat_eq x.place j.place)) h
  where
    or_true : (b : Bool) → (b || true) ≡ true
    or_true true = refl
    or_true false = refl

within : (q : ℕ) (pieces : List (List Standing)) → length (joined (take q pieces)) ≤ length (joined pieces)
within zero pieces = omega arith
within (suc q) [] = omega arith
within (suc q) (p ∷ ps) = let e = length_two p (joined (take q ps)) in let g = length_two p (joined ps) in let h = within q ps in
    let r : length (p ++ joined (take q ps)) ≤ length (p ++ joined ps) = omega (arith, e, g, h) in r

length_same : {A B : Type 0} (f : A → B) (xs : List A) → length (map f xs) ≡ length xs
length_same f [] = refl
length_same f (x ∷ xs) = ap suc (length_same f xs)

pub clustered_fits : ClusteredFitsLaw
clustered_fits t homes chosen old end exit T e =
    let pieces : List (List Standing) = pieces_of t homes chosen in
    let F : CopiesFit t.values t.ops chosen t.fixed (copied_from t homes 0 [] t.ops chosen t.fixed) (live_in old) (AtEnd old exit) = fits (live_in old) (AtEnd old exit) t homes chosen T e in
    record {
      splits = splits_same t homes 0 [] t.ops chosen t.fixed F.each_fixed F.each_chosen;
      join_blocks = same_blocks pieces t.joins;
      join_edges = same_edges pieces t.joins;
      join_places = λ j i. let r = moved pieces t.joins j i in subst (λ n. n ≤ length (map op_of (joined pieces))) (sym (ap (λ (z : Join). z.place) r.is))
          (subst (λ n. length (joined (take r.from.place pieces)) ≤ n) (sym (length_same op_of (joined pieces))) (within r.from.place pieces));
      clusters_fit = length_same (λ (s : Standing). s.cluster) (joined pieces) ∙ sym (length_same op_of (joined pieces));
      clustered = λ setting. clustered_law t homes chosen setting 0 old end exit F (inl refl);
      clustered_below = λ setting j i. let r = moved pieces t.joins j i in record {
        from = r.from;
        is_there = r.is_there;
        block = ap (λ (z : Join). z.block) r.is;
        clustered = subst (λ (z : Join). Clustered setting old (plain_items (drop r.from.place t.ops)) (drop z.place (items_of (with_copies t homes chosen).trace.ops (with_copies t homes chosen).clusters)) end exit) (sym r.is)
            (clustered_law t homes chosen setting r.from.place old end exit F (inr (joins_there t.joins r.from r.is_there)));
      };
      writes = λ op u i m. all_tidy t homes 0 [] t.ops chosen t.fixed F.reads (λ j x e v n. F.writes j x v e n) op i u m;
    }

pub assigned_fits : AssignedFitsLaw
assigned_fits machine t homes r old end exit T A =
    subst (λ c. ClusteredFits old end exit t c) (sym A.clustered) (clustered_fits t (last_books machine t homes r).homes r.chosen old end exit T A.each_chosen)
