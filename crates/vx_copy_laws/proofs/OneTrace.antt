-- Where copies stand, and the operations behind them, determines the clustered trace.
use Rattle.std.proofs.Common.{◌≡◌, ◌<◌, ◌≤◌, ◌+◌, ◌-◌, inl, inr, ⊎_elim, refl, sym, ◌∙◌, ap, arith, subst, Bool, true, false, if◌then◌else◌, ℕ, zero, suc, Option, Some, None, List, [], ◌∷◌, ◌++◌, length, length-append, map, slice_get, slice_index_or, get_or}
use Rattle.std.proofs.lemmas.Bool.{cases_lt}
use Rattle.std.proofs.lemmas.Option.{slice_get-get_or, slice_get_within}
use Rattle.vx_flow.specs.declared.graph.Operand.{Operand}
use Rattle.vx_flow.specs.declared.graph.Operand.TheVariants.{Held, Number, Stack}
use Rattle.vx_flow.specs.declared.graph.Op.TheVariants.{Compute, Select, Store, Across, PlaceIn}
use Rattle.vx_flow.specs.declared.trace.TraceOp.{TraceOp}
use Rattle.vx_flow.specs.declared.trace.TraceOp.TheVariants.{Plain, Split}
use Rattle.vx_flow.specs.declared.trace.Join.{Join}
use Rattle.vx_flow.specs.declared.trace.Trace.{Trace}
use Rattle.vx_flow.specs.declared.trace.Clustered.{Clustered}
use Rattle.vx_flow.specs.Effects.{IsIn, is_unary, value_in}
use Rattle.vx_flow.specs.Operands.{first_operand}
use Rattle.vx_dep.specs.Delays.{Stands}
use Rattle.vx_bug.specs.Clusters.{general_reads}
use Rattle.vx_bug.specs.Copies.{Standing, across}
use Rattle.vx_copy_laws.specs.CopyStands.{CopyStands, ReadBefore, StandsAt, with_copies_read, CopiesStand}
use Rattle.vx_copy_laws.specs.CopyLaws.{OneLaw}
use Rattle.vx_copy_laws.proofs.Orders.{Row, rows_same, rows_long}

-- an operation reads at most two general values, so one of them alone is in front of the other

one_value : (a : Operand) → length (value_in a) ≤ 1
one_value (Held v) = omega arith
one_value (Number n) = omega arith
one_value Stack = omega arith

two_values : (a b : Operand) → length (value_in a ++ value_in b) ≤ 2
two_values a b =
    let e : length (value_in a ++ value_in b) ≡ length (value_in a) + length (value_in b) = length-append (value_in a) (value_in b) in
    let x = one_value a in
    let y = one_value b in
    omega (arith, e, x, y)

one_is_few : (a : Operand) → length (value_in a) ≤ 2
one_is_few a = let x = one_value a in omega (arith, x)

computed_few : (a b : Operand) (u : Bool) → length (if u then value_in a else value_in a ++ value_in b) ≤ 2
computed_few a b true = one_is_few a
computed_few a b false = two_values a b

few_reads : (op : TraceOp) → length (general_reads op) ≤ 2
few_reads (Split test leaves_when edge live) = omega arith
few_reads (Plain (Compute code v a b)) = computed_few a b (is_unary code)
few_reads (Plain (Select v test a b)) = two_values a b
few_reads (Plain (Store a p x)) = two_values p x
few_reads (Plain (Across v u)) = omega arith
few_reads (Plain (PlaceIn v a u i)) = two_values i (Held u)
few_reads (Plain op) = one_is_few (first_operand op)

is_first : (values : List ℕ) (v w : ℕ) → length values ≤ 2 → ReadBefore v w values → slice_get values 0 ≡ Some v
is_first values v w few r =
    let a : r.two < length values = slice_get_within values r.two w r.is_two in
    let b = r.in_order in
    let e : 0 ≡ r.one = omega (arith, few, a, b) in
    ap (slice_get values) e ∙ r.is_one

one_way : (op : TraceOp) (v w : ℕ) → ReadBefore v w (general_reads op) → ReadBefore w v (general_reads op) → v ≡ w
one_way op v w r s =
    let e : Some v ≡ Some w = sym (is_first (general_reads op) v w (few_reads op) r) ∙ is_first (general_reads op) w v (few_reads op) s in
    cc

-- lists with the same items

same_items : {A : Type 0} (xs ys : List A) → length xs ≡ length ys → ((p : ℕ) → p < length xs → slice_get xs p ≡ slice_get ys p) → xs ≡ ys
same_items [] [] e same = refl
same_items [] (y ∷ ys) e same = absurd (omega (arith, e))
same_items (x ∷ xs) [] e same = absurd (omega (arith, e))
same_items (x ∷ xs) (y ∷ ys) e same =
    let f : Some x ≡ Some y = same 0 (omega arith) in
    let q : x ≡ y = cc in
    let rest = same_items xs ys (omega (arith, e)) (λ p l. same (suc p) (omega (arith, l))) in
    ap (λ z. z ∷ xs) q ∙ ap (λ zs. y ∷ zs) rest

same_mapped : {A B : Type 0} (f g : A → B) (xs : List A) → ((x : A) → IsIn x xs → f x ≡ g x) → map f xs ≡ map g xs
same_mapped f g [] e = refl
same_mapped f g (x ∷ xs) e = ap (λ z. z ∷ map f xs) (e x (inl refl)) ∙ ap (λ zs. g x ∷ zs) (same_mapped f g xs (λ y i. e y (inr i)))

some_item : {A : Type 0} (xs : List A) (n : ℕ) → n < length xs → (x : A) × (slice_get xs n ≡ Some x)
some_item [] n l = absurd (omega (arith, l))
some_item (x ∷ xs) zero l = (x, refl)
some_item (x ∷ xs) (suc n) l = some_item xs n (omega (arith, l))

-- an operation as it stands

abbrev the_standing : (t : Trace) (homes : ℕ → Option ℕ) (i k : ℕ) → TraceOp → Standing
the_standing t homes i k op = record { op = with_copies_read t.values homes k (slice_index_or t.fixed i None) op; cluster = k; fixed = slice_index_or t.fixed i None }

-- the copies in front of an operation, as a row

-- the value that is copied
abbrev value_of : Option TraceOp → ℕ
value_of (Some (Plain (Across v u))) = u
value_of op = 0

abbrev At : Clustered → ℕ → ℕ
At c p = value_of (slice_get c.trace.ops p)

at_is : (c : Clustered) (p values k v : ℕ) → StandsAt c p (across values k v) → At c p ≡ v
at_is c p values k v s = ap value_of s.op

module _ (t : Trace) (homes : ℕ → Option ℕ) (chosen : List ℕ) where
  takes_cluster : (i v k l : ℕ) → slice_get chosen i ≡ Some k → CopyStands t homes chosen i v l → l ≡ k
  takes_cluster i v k l e s = let f : Some l ≡ Some k = sym s.reads.takes ∙ e in cc

  copy_there : (c : Clustered) (C : CopiesStand t homes chosen c) (i k p : ℕ) → slice_get chosen i ≡ Some k → C.front i ≤ p → p < C.place i → StandsAt c p (across t.values k (At c p))
  copy_there c C i k p e l m =
      let r = C.copies_alone i p l m in
      let v : At c p ≡ r.0 = at_is c p t.values r.1 r.0 r.2 in
      let needed = C.no_other i r.0 r.1 (record { place = p; behind = l; above = m; is = r.2 }) in
      let k_is = takes_cluster i r.0 k r.1 e needed in
      subst (λ x. StandsAt c p (across t.values k x)) (sym v) (subst (λ x. StandsAt c p (across t.values x r.0)) k_is r.2)

  row_of : (c : Clustered) (C : CopiesStand t homes chosen c) (i k : ℕ) (op : TraceOp) → Stands t i op → slice_get chosen i ≡ Some k →
      Row (λ j. At c (C.front i + j)) (C.place i - C.front i) (λ v. CopyStands t homes chosen i v k) (λ v w. ReadBefore v w (general_reads op))
  row_of c C i k op s e = record {
    each = λ j l. C.no_other i (At c (C.front i + j)) k (record { place = C.front i + j; behind = omega arith; above = omega (arith, l); is = there j l });
    all = λ v h.
        let r = C.needed i v k h in
        let a = r.behind in
        let b = r.above in
        let p : C.front i + (r.place - C.front i) ≡ r.place = omega (arith, a) in
        let q : At c (C.front i + (r.place - C.front i)) ≡ v = ap (At c) p ∙ at_is c r.place t.values k v r.is in
        (r.place - C.front i, omega (arith, a, b), q);
    ascends = λ j l h m. C.in_order i (C.front i + j) (C.front i + l) (At c (C.front i + j)) (At c (C.front i + l)) k op s (omega arith) (omega (arith, h)) (omega (arith, m)) (there j (omega (arith, h, m))) (there l m);
    apart = λ j l a b q.
        let same : C.front i + j ≡ C.front i + l = C.once i (C.front i + j) (C.front i + l) (At c (C.front i + j)) k (omega arith) (omega (arith, a)) (omega arith) (omega (arith, b)) (there j a) (subst (λ v. StandsAt c (C.front i + l) (across t.values k v)) (sym q) (there l b)) in
        omega (arith, same);
  }
    where
      there : (j : ℕ) → j < C.place i - C.front i → StandsAt c (C.front i + j) (across t.values k (At c (C.front i + j)))
      there j l = copy_there c C i k (C.front i + j) e (omega arith) (omega (arith, l))

  module _ (c d : Clustered) (C : CopiesStand t homes chosen c) (D : CopiesStand t homes chosen d) (each_chosen : length chosen ≡ length t.ops) where
    -- the operation at a place, and its cluster
    record Turn (i : ℕ) : Type 0 where
      op : TraceOp
      stands : Stands t i op
      k : ℕ
      takes : slice_get chosen i ≡ Some k

    turn : (i : ℕ) → i < length t.ops → Turn i
    turn i l =
        let m : i < length chosen = omega (arith, l, each_chosen) in
        let o = some_item t.ops i l in
        record { op = o.0; stands = o.1; k = get_or chosen i 0; takes = slice_get-get_or chosen i 0 m }

    -- both have as many copies in front of it, and the same

    as_many : (i : ℕ) → i < length t.ops → C.place i - C.front i ≡ D.place i - D.front i
    as_many i l =
        let T = turn i l in
        rows_long (λ v. CopyStands t homes chosen i v T.k) (λ v w. ReadBefore v w (general_reads T.op)) (one_way T.op)
        (λ j. At c (C.front i + j)) (λ j. At d (D.front i + j)) (C.place i - C.front i) (D.place i - D.front i)
        (row_of c C i T.k T.op T.stands T.takes) (row_of d D i T.k T.op T.stands T.takes)

    same_copy : (i : ℕ) (l : i < length t.ops) (j : ℕ) → j < C.place i - C.front i → At c (C.front i + j) ≡ At d (D.front i + j)
    same_copy i l j m =
        let T = turn i l in
        let e = as_many i l in
        rows_same (λ v. CopyStands t homes chosen i v T.k) (λ v w. ReadBefore v w (general_reads T.op)) (one_way T.op)
        (λ j. At c (C.front i + j)) (λ j. At d (D.front i + j)) (C.place i - C.front i) (D.place i - D.front i)
        (row_of c C i T.k T.op T.stands T.takes) (row_of d D i T.k T.op T.stands T.takes)
        j m (omega (arith, m, e))

    -- so operations and copies have the same places

    same_front : (i : ℕ) → i ≤ length t.ops → C.front i ≡ D.front i
    same_front zero l = C.begins ∙ sym D.begins
    same_front (suc i) l =
        let inside : i < length t.ops = omega (arith, l) in
        let z : suc i ≡ i + 1 = omega arith in
        let h = same_front i (omega (arith, l)) in
        let m = as_many i inside in
        let a = C.ascends i in
        let b = D.ascends i in
        let places : C.place i ≡ D.place i = omega (arith, h, m, a, b) in
        ap C.front z ∙ C.follows i inside ∙ ap (λ n. n + 1) places ∙ sym (D.follows i inside) ∙ ap D.front (sym z)

    same_place : (i : ℕ) → i < length t.ops → C.place i ≡ D.place i
    same_place i l =
        let h = same_front i (omega (arith, l)) in
        let m = as_many i l in
        let a = C.ascends i in
        let b = D.ascends i in
        omega (arith, h, m, a, b)

    -- what stands at a place of both

    record Both (p : ℕ) : Type 0 where
      standing : Standing
      one : StandsAt c p standing
      two : StandsAt d p standing

    both_at : (i p : ℕ) → i < length t.ops → C.front i ≤ p → p < C.front (i + 1) → Both p
    both_at i p l a b =
        let f = C.follows i l in
        ⊎_elim (λ h. copy_of_both h) (λ h. let e : C.place i ≡ p = omega (arith, h, b, f) in the_operation e) (cases_lt p (C.place i))
      where
        the_operation : C.place i ≡ p → Both p
        the_operation e =
            let T = turn i l in
            let two = D.operation i T.k T.op T.stands T.takes in
            record {
              standing = the_standing t homes i T.k T.op;
              one = subst (λ x. StandsAt c x (the_standing t homes i T.k T.op)) e (C.operation i T.k T.op T.stands T.takes);
              two = subst (λ x. StandsAt d x (the_standing t homes i T.k T.op)) (sym (same_place i l) ∙ e) two;
            }

        copy_of_both : p < C.place i → Both p
        copy_of_both h =
            let T = turn i l in
            let q = same_place i l in
            let fronts = same_front i (omega (arith, l)) in
            let one = copy_there c C i T.k p T.takes a h in
            let lower : D.front i ≤ p = omega (arith, a, fronts) in
            let upper : p < D.place i = omega (arith, h, q) in
            let two = copy_there d D i T.k p T.takes lower upper in
            let at_c : C.front i + (p - C.front i) ≡ p = omega (arith, a) in
            let at_d : D.front i + (p - C.front i) ≡ p = omega (arith, a, fronts) in
            let value : At c p ≡ At d p = ap (At c) (sym at_c) ∙ same_copy i l (p - C.front i) (omega (arith, a, h)) ∙ ap (At d) at_d in
            record { standing = across t.values T.k (At c p); one = one; two = subst (λ v. StandsAt d p (across t.values T.k v)) (sym value) two }

    -- each place is one of them

    both_below : (i p : ℕ) → i ≤ length t.ops → p < C.front i → Both p
    both_below zero p l h = let b = C.begins in absurd (omega (arith, b, h))
    both_below (suc i) p l h =
        let z : suc i ≡ i + 1 = omega arith in
        let inside : i < length t.ops = omega (arith, l) in
        let below : p < C.front (i + 1) = subst (λ n. p < C.front n) z h in
        ⊎_elim (λ q. both_below i p (omega (arith, l)) q) (λ q. both_at i p inside q below) (cases_lt p (C.front i))

    both : (p : ℕ) → p < C.front (length t.ops) → Both p
    both p h = both_below (length t.ops) p (omega arith) h

    ends_same : C.front (length t.ops) ≡ D.front (length t.ops)
    ends_same = same_front (length t.ops) (omega arith)

    same_ops : c.trace.ops ≡ d.trace.ops
    same_ops =
        let e = C.ends in
        same_items c.trace.ops d.trace.ops (C.ends ∙ ends_same ∙ sym D.ends) (λ p l. let B = both p (omega (arith, l, e)) in B.one.op ∙ sym B.two.op)

    same_clusters : c.clusters ≡ d.clusters
    same_clusters =
        let e = C.clusters_end in
        same_items c.clusters d.clusters (C.clusters_end ∙ ends_same ∙ sym D.clusters_end) (λ p l. let B = both p (omega (arith, l, e)) in B.one.cluster ∙ sym B.two.cluster)

    same_fixed : c.trace.fixed ≡ d.trace.fixed
    same_fixed =
        let e = C.fixed_end in
        same_items c.trace.fixed d.trace.fixed (C.fixed_end ∙ ends_same ∙ sym D.fixed_end) (λ p l. let B = both p (omega (arith, l, e)) in B.one.fixed ∙ sym B.two.fixed)

    same_joins : ((join : Join) → IsIn join t.joins → join.place ≤ length t.ops) → c.trace.joins ≡ d.trace.joins
    same_joins within =
        C.joins
        ∙ same_mapped (λ (join : Join). record join { place = C.front join.place }) (λ (join : Join). record join { place = D.front join.place }) t.joins
        (λ join i. ap (λ n. record join { place = n }) (same_front join.place (within join i)))
        ∙ sym D.joins

    all_same : ((join : Join) → IsIn join t.joins → join.place ≤ length t.ops) → c ≡ d
    all_same within =
        let traces : c.trace ≡ d.trace =
        C.unchanged
        ∙ ap (λ x. record t { ops = x; fixed = c.trace.fixed; joins = c.trace.joins }) same_ops
        ∙ ap (λ x. record t { ops = d.trace.ops; fixed = x; joins = c.trace.joins }) same_fixed
        ∙ ap (λ x. record t { ops = d.trace.ops; fixed = d.trace.fixed; joins = x }) (same_joins within)
        ∙ sym D.unchanged in
        let one : c ≡ record { trace = d.trace; clusters = c.clusters } = ap (λ x. record { trace = x; clusters = c.clusters }) traces in
        one ∙ ap (λ x. record { trace = d.trace; clusters = x }) same_clusters

pub one_law : OneLaw
one_law t homes chosen c d each_chosen w C D = all_same t homes chosen c d C D each_chosen w.joins_within
